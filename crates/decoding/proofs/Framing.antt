-- A line as it is taken for a frame: what its length says of it, and that it is the call that the line is.
-- Assumes nothing.
use Prim.Native.Nat.{ℕ, ◌+◌, ◌≤◌, ◌<◌}
use mathlib.Core.Path.{◌≡◌, refl, sym, ◌∙◌}
use mathlib.Core.Bool.{Bool, true, false}
use mathlib.Core.List.{List, []}
use native.Mathlib.Omega.{arith}
use lib.Dec.{leb, ltb}
use lib.ListN.{length}
use borrow.Author.Tests.{le-leb, lt-leb, leb-true, ltb-true, ltb-false}
use Rattle.std.specs.Prelude.{Option}
use Rattle.std.specs.Option.{is_some}
use Rattle.protocol.specs.Widths.{kept}
use Rattle.protocol.specs.Lines.{call_of}
use Rattle.protocol.specs.Run.{feed_at}
use Rattle.protocol.proofs.Laws.{NoFeed, none, longer, empty_line, feed_within, feed_at_le, no_feed_of}
use Rattle.pieces.specs.Pieces.{feed_from}
use Rattle.pieces.proofs.Feeds.{feed_known}
use Rattle.decoding.specs.Frames.{framing}

pub framing_long : (line : List ℕ) → kept ≤ length line → [] ≡ framing line
unfolding framing
framing_long line l = rw (le-leb kept (length line) l) refl

module _ (line : List ℕ) (short : length line < kept) {place : Option ℕ} (found : place ≡ feed_from line 0) where
  there : ltb (feed_at line) (length line) ≡ is_some place
  there =
      let none : 0 + feed_at line ≡ feed_at line = omega arith in
      sym (feed_known line 0 found ∙ rw none)

  pub framing_feed : is_some place ≡ true → [] ≡ framing line
  unfolding framing
  framing_feed t = rw (lt-leb kept (length line) short, there, t) refl

  pub framing_line : is_some place ≡ false → line ≡ framing line
  unfolding framing
  framing_line t = rw (lt-leb kept (length line) short, there, t) refl

-- ---- what is taken for a frame is the same call, and has no line feed

by_tests : (line : List ℕ) (a b : Bool) → leb kept (length line) ≡ a → ltb (feed_at line) (length line) ≡ b → (call_of (framing line) ≡ call_of line) × NoFeed (framing line)
unfolding framing
by_tests line true b h k = rw h (empty_line ∙ sym (longer line (leb-true kept (length line) h)), none)
by_tests line false true h k = rw (h, k) (empty_line ∙ sym (feed_within line (ltb-true (feed_at line) (length line) k)), none)
by_tests line false false h k = rw (h, k) (refl, no_feed_of line (omega (arith, feed_at_le line, ltb-false (feed_at line) (length line) k)))

pub framing_same : (line : List ℕ) → (call_of (framing line) ≡ call_of line) × NoFeed (framing line)
framing_same line = by_tests line (leb kept (length line)) (ltb (feed_at line) (length line)) refl refl
