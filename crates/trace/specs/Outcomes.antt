-- Going over a recorded run (document 02, K5): "files in which each frame line is followed by the answer line given at the time".
-- Assumes nothing.
use Rattle.std.specs.Prelude.{ℕ, suc, ◌-◌, Bool, true, false, cond, ◌&&◌, List, [], ◌∷◌, ◌++◌, eqb, ltb, length, take}
use Rattle.model.specs.declared.Engine.{Engine}
use Rattle.model.specs.State.{fresh}
use Rattle.model.specs.Calls.{after}
use Rattle.protocol.specs.Specification.{in_digits}
use Rattle.protocol.specs.Lines.{call_of}
use Rattle.protocol.specs.Run.{reply}
use Rattle.trace.specs.declared.replaying.Outcome.{Outcome}
use Rattle.trace.specs.declared.replaying.Outcome.TheVariants.{AllAgree, Differs, FrameLast, TooLong}
use Rattle.trace.specs.Lines.{lines_of}

-- "when the file has more than 1048576 bytes"
abbrev pub limit : ℕ
limit = 1048576

-- the same bytes
unfoldable pub same : List ℕ → List ℕ → Bool
same [] [] = true
same [] (y ∷ ys) = false
same (x ∷ xs) [] = false
same (x ∷ xs) (y ∷ ys) = eqb x y && same xs ys

-- the frame of a frame line that another line follows: its bytes without its line feed, the last of them
unfoldable pub frame_in : List ℕ → List ℕ
frame_in line = take (length line - 1) line

-- a pair, a frame line and the answer line after it, agrees where the engine gives this very line, with its line feed: "an answer line without its line feed differs"
unfoldable pub agrees : Engine → List ℕ → List ℕ → Bool
agrees e frame given = same (reply e (call_of (frame_in frame))) given

-- the pairs of these lines in turn, the first with number n, each on the engine as the frames before left it
unfoldable pub outcome_from : ℕ → Engine → List (List ℕ) → Outcome
outcome_from n e [] = AllAgree
outcome_from n e (frame ∷ []) = FrameLast
outcome_from n e (frame ∷ given ∷ lines) = cond (agrees e frame given) (outcome_from (suc n) (after e (call_of (frame_in frame))) lines) (Differs n)

-- "runs the frames from a fresh engine", "pairs count from one", "before any pair is run"
unfoldable pub outcome : List ℕ → Outcome
outcome file = cond (ltb limit (length file)) TooLong (outcome_from 1 fresh (lines_of file))

-- ---- the line that is printed

-- "the digits all zeros if none does"; "sixteen hexadecimal digits and a line feed"; 16 is "printed as the two digits 10 and a line feed alone"
unfoldable pub printed : Outcome → List ℕ
printed AllAgree = 0x30 ∷ 0x30 ∷ 0x30 ∷ 0x30 ∷ 0x30 ∷ 0x30 ∷ 0x30 ∷ 0x30 ∷ 0x30 ∷ 0x30 ∷ 0x30 ∷ 0x30 ∷ 0x30 ∷ 0x30 ∷ 0x30 ∷ 0x30 ∷ 0x0a ∷ []
printed (Differs n) = in_digits 16 n ++ (0x0a ∷ [])
printed FrameLast = 0x31 ∷ 0x30 ∷ 0x0a ∷ []
printed TooLong = 0x31 ∷ 0x30 ∷ 0x0a ∷ []
