-- What a caller of the stream's functions gets: by the machine `fed`, and a whole run in one buffer.
-- Assumes nothing.
use Rattle.std.specs.Prelude.{ℕ, ◌+◌, ◌-◌, ◌≤◌, ◌<◌, ◌≡◌, Bool, true, cond, ◌&&◌, List, ◌++◌, eqb, leb, length, drop, Option, Some, None}
use Rattle.model.specs.declared.Engine.{Engine}
use Rattle.model.specs.State.{fresh}
use Rattle.protocol.specs.Widths.{longest}
use Rattle.model.specs.Calls.{after as Calls·after}
use Rattle.protocol.specs.Lines.{call_of}
use Rattle.protocol.specs.Run.{run, reply, Fed, fed, feed_at}
use Rattle.frames.specs.declared.lent.Fed.{Fed as Given}

-- one frame, a line without its line feed: where the longest answer has room, its answer line stands at the start of the buffer, the number given back is the
-- line's length, and the engine is the one after its call; else nothing is done
pub record Answers (line : List ℕ) (before after : Engine) (old new : List ℕ) (r : ℕ) : Type 0 where
  pub written : r ≡ cond (leb longest (length old)) (length (reply before (call_of line))) 0
  pub output : new ≡ cond (leb longest (length old)) (reply before (call_of line) ++ drop (length (reply before (call_of line))) old) old
  pub engine : after ≡ cond (leb longest (length old)) (Calls·after before (call_of line)) before

-- what is given back of a piece of input is what the machine does: how much was taken, what was written at the start of the buffer, the rest of it as it was,
-- and the engine after it; where the longest answer has room, a piece with a whole line in it is not given back whole
pub record Feeds (input old new : List ℕ) (after : Engine) (x : Fed) (r : Given) : Type 0 where
  pub consumed : r.consumed ≡ length input - length x.left
  pub written : r.written ≡ length x.written
  pub output : new ≡ x.written ++ drop (length x.written) old
  pub engine : after ≡ x.engine
  pub progress : longest ≤ length old → feed_at input < length input → 0 < r.consumed

-- ---- a whole run in one buffer

-- the machine takes every whole line of the input with this room, and there is room for its end
unfoldable pub takes_whole : List ℕ → ℕ → Bool
takes_whole input room = let left : List ℕ = (fed room fresh input).left in eqb (feed_at left) (length left) && leb (length (run input)) room

-- what then stands at the start of the buffer: the run's output, or, where there is no room, the answers before the one that had none
unfoldable pub ran_output : List ℕ → ℕ → List ℕ
ran_output input room = cond (takes_whole input room) (run input) (fed room fresh input).written

-- the answer is how long the run's output is, or that there is no room; the buffer has what was written, which the run begins with, and is else as it was
pub record Ran (input old new : List ℕ) (r : Option ℕ) : Type 0 where
  pub answer : r ≡ cond (takes_whole input (length old)) (Some (length (run input))) None
  pub output : new ≡ ran_output input (length old) ++ drop (length (ran_output input (length old))) old
  pub begins : (rest : List ℕ) × (run input ≡ ran_output input (length old) ++ rest)
  -- there is room where the longest answer has room behind the run's output
  pub roomy : length (run input) + longest ≤ length old → takes_whole input (length old) ≡ true
