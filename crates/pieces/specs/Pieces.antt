-- A part of a buffer, which is cut to the buffer's length, and the next line feed of an input.
-- Assumes nothing.
use Rattle.std.specs.Prelude.{ℕ, ◌+◌, ◌-◌, min, cond, Option, Some, None, List, ltb, length, take, drop}
use Rattle.protocol.specs.Run.{feed_at}

-- the part of a buffer between two places
unfoldable pub between : List ℕ → ℕ → ℕ → List ℕ
between buffer from to = let end : ℕ = min to (length buffer) in take (end - min from end) (drop (min from end) buffer)

-- the place of the first line feed from `from` on, where there is one
unfoldable pub feed_from : List ℕ → ℕ → Option ℕ
feed_from s from = let place : ℕ = from + feed_at (drop from s) in cond (ltb place (length s)) (Some place) None
