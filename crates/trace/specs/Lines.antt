-- The lines of a recorded file (K5), each as the part of the file that it is: with its line feed, which the last line may lack.
-- Assumes nothing.
use Rattle.std.specs.Prelude.{ℕ, suc, ◌+◌, ◌≤◌, ◌<◌, ◌≡◌, List, [], ◌∷◌, ◌++◌, map, length, take, drop}
use Rattle.protocol.specs.Lines.{line_feed}
use Rattle.protocol.specs.Run.{split, feed_at}

-- a line and its line feed
abbrev pub ended : List ℕ → List ℕ
ended line = line ++ (line_feed ∷ [])

-- what stands after the last line feed is a line too; nothing is none
unfoldable pub last_line : List ℕ → List (List ℕ)
last_line [] = []
last_line (b ∷ bs) = (b ∷ bs) ∷ []

-- the lines of a file
unfoldable pub lines_of : List ℕ → List (List ℕ)
lines_of file = map ended (split file).lines ++ last_line (split file).rest

-- ---- the trace reader: "the lent text and the position of the next unread line"

-- the line that a text begins with: all up to its first line feed and with it, or all where it has none
unfoldable pub first_line : List ℕ → List ℕ
first_line text = take (suc (feed_at text)) text

-- the line that begins at a position; at the end, and past it, there is nothing
unfoldable pub line_at : List ℕ → ℕ → List ℕ
line_at text at = first_line (drop at text)

-- from position to position a reader hands out every line once, in order, and at the end nothing; proofs/Going proves it
pub record LinesRead (text : List ℕ) : Type 0 where
  pub line : (at : ℕ) → at < length text → lines_of (drop at text) ≡ line_at text at ∷ lines_of (drop (at + length (line_at text at)) text)
  pub none : (at : ℕ) → length text ≤ at → line_at text at ≡ []
