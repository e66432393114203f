-- The lines that are printed, by the outcomes.
-- Assumes nothing.
use Prim.Native.Nat.{ℕ}
use mathlib.Core.Path.{◌≡◌}
use mathlib.Core.List.{List, [], ◌∷◌, ◌++◌}
use Rattle.protocol.specs.Digits.{glyph, hex}
use Rattle.protocol.proofs.Spelling.{hex_digits}
use Rattle.trace.specs.declared.replaying.Outcome.{Outcome}
use Rattle.trace.specs.declared.replaying.Outcome.TheVariants.{AllAgree, Differs}
use Rattle.trace.specs.Outcomes.{printed}

pub agree_line : {o : Outcome} {line made : List ℕ} → o ≡ AllAgree → made ≡ hex 16 0 ++ (10 ∷ []) → line ≡ made → line ≡ printed o
unfolding printed hex glyph
agree_line p q r = rw (p, r, q)

pub differs_line : {o : Outcome} {n : ℕ} {line made : List ℕ} → o ≡ Differs n → made ≡ hex 16 n ++ (10 ∷ []) → line ≡ made → line ≡ printed o
unfolding printed
differs_line {n = n} p q r = rw (p, r, q, hex_digits 16 n)
