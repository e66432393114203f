-- The law of room that the proofs of `encoding` cite, and that of the last line. Nothing here has to be read to understand a contract.
-- Assumes nothing.
use Prim.Native.Nat.{ℕ, zero, suc, ◌+◌, ◌≤◌}
use mathlib.Core.Path.{◌≡◌, refl, ap, ◌∙◌}
use mathlib.Core.Bool.{true}
use mathlib.Core.List.{List, [], ◌∷◌, append_assoc}
use native.Mathlib.Omega.{arith}
use lib.ListN.{length, take, set}
use lib.Seq.{sets-eq}
use borrow.Author.Tests.{le-leb, leb-true}
use Rattle.std.specs.Prelude.{Some}
use Rattle.protocol.specs.Widths.{longest}
use Rattle.protocol.specs.Lines.{line_feed}
use Rattle.output.specs.Output.{room_at, ending, end_answer, end_written}

-- every line has room
pub room_there : (out : List ℕ) (at : ℕ) → room_at out at ≡ true → at + longest ≤ length out
unfolding room_at
room_there out at e = leb-true (at + longest) (length out) e

-- the last line is stored byte by byte
pub line_ended : (old : List ℕ) (at len end : ℕ) → (len ≡ 0 → ⊥) → end ≡ at + 3 → end ≤ length old → (Some end ≡ end_answer old at (ending len)) × (set (set (set old at 0x30) (at + 1) 0x31) (at + 2) line_feed ≡ end_written old at (ending len))
unfolding ending end_answer end_written
line_ended old at zero end n e l = absurd (n refl)
line_ended old at (suc k) end n e l =
    let bytes : List ℕ = 0x30 ∷ 0x31 ∷ line_feed ∷ [] in
    let one : at + 1 ≡ suc at = omega arith in
    let two : at + 2 ≡ suc (suc at) = omega arith in
    rw (le-leb (at + 3) (length old) (omega (arith, e, l)), one, two) (ap Some e, sets-eq bytes old at (omega (arith, e, l)) ∙ append_assoc (take at old) bytes _)
