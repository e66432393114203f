-- The line that begins at a position, found by its line feed, and where it ends.
-- Assumes nothing.
use Prim.Native.Nat.{ℕ, suc, min, ◌+◌, ◌-◌, ◌^◌, ◌≤◌, ◌<◌}
use mathlib.Core.Path.{◌≡◌, sym, ap, ◌∙◌}
use mathlib.Core.List.{List, []}
use native.Mathlib.Decide.{dec_lt}
use mir.Syntax.{w64}
use mir.Val.{Fits}
use native.Mathlib.Omega.{arith}
use lib.ListN.{length, take, drop, length-take, length-drop, drop_of_length-le}
use lib.Seq.{take_all}
use Rattle.std.specs.Prelude.{Option, Some, None}
use Rattle.protocol.specs.Run.{feed_at}
use Rattle.pieces.specs.Pieces.{feed_from}
use Rattle.pieces.proofs.Feeds.{feed_place, none_behind}
use Rattle.trace.specs.Lines.{first_line, line_at}

module _ (s : List ℕ) (at : ℕ) where
  -- at the end, and past it, there is nothing
  pub past_end : length s ≤ at → line_at s at ≡ []
  unfolding line_at first_line feed_at
  past_end l = rw (drop_of_length-le s {i = at} l)

  module _ {place : Option ℕ} (found : place ≡ feed_from s at) where
    -- with its line feed
    pub line_ended : {feed : ℕ} → place ≡ Some feed → take (feed + 1 - at) (drop at s) ≡ line_at s at
    unfolding line_at first_line
    line_ended {feed} p =
        let z : feed + 1 - at ≡ suc (feed_at (drop at s)) = omega (arith, feed_place s at found p) in
        rw z

    -- without one it is all that is left
    pub line_last : place ≡ None → (from : ℕ) → from ≡ min at (length s) → take (length s - from) (drop from s) ≡ line_at s at
    unfolding line_at first_line
    line_last p from e = go (dec_lt (length s) at)
      where
        go : Dec (length s < at) → take (length s - from) (drop from s) ≡ take (suc (feed_at (drop at s))) (drop at s)
        go (yes l) =
            let z : length s - from ≡ 0 = omega arith in
            let past : length s ≤ at = omega arith in
            rw z (sym (past_end past))
        go (no l) =
            let here : from ≡ at = omega (arith, l) in
            let all : length (drop at s) ≡ length s - at = length-drop at s in
            rw here (take_all (length s - at) (drop at s) (omega arith)) ∙ sym (take_all (suc (feed_at (drop at s))) (drop at s) (omega (arith, none_behind s at found p)))

  line_short : length (line_at s at) ≤ length s - at
  unfolding line_at first_line
  line_short = simp (length-take, length-drop) (omega arith)

  -- where a line ends is a position too
  pub line_fits : {line : List ℕ} → line ≡ line_at s at → length s < 2 ^ 64 → at < 2 ^ 64 → Fits w64 (at + length line)
  line_fits {line} p k m = record { fits = omega (arith, line_short, ap (length {A = ℕ}) p) }
