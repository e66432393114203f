-- The lines of a text: the first of them, and the others behind it.
-- Assumes nothing.
use Prim.Native.Nat.{ℕ, suc, ◌-◌, ◌≤◌, ◌<◌}
use mathlib.Core.Path.{◌≡◌, refl, sym, ap, ◌∙◌}
use mathlib.Core.List.{List, [], ◌∷◌, ◌++◌}
use native.Mathlib.Decide.{dec_lt}
use native.Mathlib.Omega.{arith}
use lib.ListN.{length, take, drop, length-append, length-take}
use lib.Seq.{length-take-le, take_all, drop-length, take_at}
use Rattle.protocol.specs.Lines.{line_feed}
use Rattle.protocol.specs.Run.{split, feed_at}
use Rattle.protocol.proofs.Laws.{NoFeed, split_line, split_rest, feed_at_le, no_feed_before, no_feed_of, feed_there}
use Rattle.trace.specs.Lines.{ended, last_line, lines_of, first_line}
use Rattle.trace.specs.Outcomes.{frame_in}

-- ---- lines

-- a line with its line feed goes before the others
pub line_more : (line rest : List ℕ) → NoFeed line → lines_of (line ++ (line_feed ∷ rest)) ≡ ended line ∷ lines_of rest
unfolding lines_of
line_more line rest n = rw (split_line line rest n)

-- one without is the last
pub line_last : (line : List ℕ) → NoFeed line → 0 < length line → lines_of line ≡ line ∷ []
unfolding lines_of last_line
line_last [] n p = absurd (omega arith)
line_last (b ∷ bs) n p = rw (split_rest (b ∷ bs) n)

pub no_lines : lines_of [] ≡ []
unfolding lines_of last_line split
no_lines = refl

feed_between : (l r : List ℕ) → ended l ++ r ≡ l ++ (line_feed ∷ r)
feed_between [] r = refl
feed_between (b ∷ l) r = ap {B = List ℕ} (λ x. b ∷ x) (feed_between l r)

-- ---- the first line of a text, and the others

module _ (bytes : List ℕ) where
  -- its bytes without its line feed
  abbrev pub body : List ℕ
  body = take (feed_at bytes) bytes

  body_length : length body ≡ feed_at bytes
  body_length = length-take-le (feed_at bytes) bytes (feed_at_le bytes)

  ended_length : length (ended body) ≡ suc (feed_at bytes)
  ended_length = length-append body (line_feed ∷ []) ∙ rw body_length (omega arith)

  -- with a line feed in the text it is the body and that; without, it is the text
  pub first_ended : feed_at bytes < length bytes → first_line bytes ≡ ended body
  unfolding first_line
  first_ended l =
      ap (take (suc (feed_at bytes))) (feed_there bytes l ∙ sym (feed_between body (drop (suc (feed_at bytes)) bytes)))
      ∙ take_at (ended body) (drop (suc (feed_at bytes)) bytes) (suc (feed_at bytes)) ended_length

  first_whole : length bytes ≤ feed_at bytes → first_line bytes ≡ bytes
  unfolding first_line
  first_whole l = take_all (suc (feed_at bytes)) bytes (omega arith)

  -- so it is not longer than the text, and where it is shorter it has its line feed
  pub first_within : length (first_line bytes) ≤ length bytes
  unfolding first_line
  first_within = simp length-take (omega arith)

  pub first_short : length (first_line bytes) < length bytes → feed_at bytes < length bytes
  first_short l = go (dec_lt (feed_at bytes) (length bytes))
    where
      go : Dec (feed_at bytes < length bytes) → feed_at bytes < length bytes
      go (yes m) = m
      go (no m) = absurd (omega (arith, ap length (first_whole (omega arith))))

  pub lines_first : 0 < length bytes → (lines_of bytes ≡ first_line bytes ∷ lines_of (drop (length (first_line bytes)) bytes)) × (0 < length (first_line bytes))
  lines_first h = go (dec_lt (feed_at bytes) (length bytes))
    where
      go : Dec (feed_at bytes < length bytes) → (lines_of bytes ≡ first_line bytes ∷ lines_of (drop (length (first_line bytes)) bytes)) × (0 < length (first_line bytes))
      go (yes l) =
          rw (first_ended l, ended_length) (ap lines_of (feed_there bytes l) ∙ line_more body (drop (suc (feed_at bytes)) bytes) (no_feed_before bytes), omega arith)
      go (no l) =
          let q : feed_at bytes ≡ length bytes = omega (arith, feed_at_le bytes) in
          rw (first_whole (omega arith), drop-length bytes, no_lines) (line_last bytes (no_feed_of bytes q) h, h)

-- the frame of a line with its line feed
pub frame_in_is : (line : List ℕ) → frame_in (ended line) ≡ line
unfolding frame_in
frame_in_is line =
    let n : length (ended line) - 1 ≡ length line = omega (arith, length-append line (line_feed ∷ [])) in
    rw n (take_at line (line_feed ∷ []) (length line) refl)
