-- A lent buffer that answers go into: what it holds after a write, where a line has room, and what the end of input writes.
-- Assumes nothing.
use Rattle.std.specs.Prelude.{ℕ, zero, suc, ◌+◌, Bool, cond, List, [], ◌∷◌, ◌++◌, leb, length, take, drop, Option, Some, None}
use Rattle.protocol.specs.Widths.{longest}
use Rattle.protocol.specs.Lines.{line_feed}

-- the old list with these bytes from `at` on
abbrev pub placed : List ℕ → ℕ → List ℕ → List ℕ
placed old at bytes = take at old ++ (bytes ++ drop (at + length bytes) old)

-- every line has room from `at` on
unfoldable pub room_at : List ℕ → ℕ → Bool
room_at out at = leb (at + longest) (length out)

-- ---- the end of input

-- what a line so far of this length still answers: nothing, or the number of row 1, as digits
unfoldable pub ending : ℕ → List ℕ
ending zero = []
ending (suc n) = 0x30 ∷ 0x31 ∷ line_feed ∷ []

-- bytes are written from `at` on where they fit, and else nothing is: the answer is the place behind them, and the buffer has them
abbrev pub fits : List ℕ → ℕ → List ℕ → Bool
fits old at bytes = leb (at + length bytes) (length old)

unfoldable pub end_answer : List ℕ → ℕ → List ℕ → Option ℕ
end_answer old at bytes = cond (fits old at bytes) (Some (at + length bytes)) None

unfoldable pub end_written : List ℕ → ℕ → List ℕ → List ℕ
end_written old at bytes = cond (fits old at bytes) (placed old at bytes) old
