-- What has been written into a lent buffer, and what a caller gets who has an answer written as a line.
-- Assumes nothing.
use Rattle.std.specs.Prelude.{ℕ, ◌+◌, ◌≤◌, ◌≡◌, Bool, cond, ◌&&◌, List, ◌++◌, leb, length, drop, Option, Some, None}
use Rattle.model.specs.declared.Constraint.{Constraint}
use Rattle.model.specs.declared.calls.Answer.{Answer}
use Rattle.model.specs.Limits.{flow_count}
use Rattle.protocol.specs.Widths.{longest}
use Rattle.protocol.specs.Lines.{shown_sets, line_of}
use Rattle.output.specs.Output.{placed}

-- bytes were written from `at` on, for which there was room, and the next place is behind them
pub record Wrote (old new : List ℕ) (at next : ℕ) (bytes : List ℕ) : Type 0 where
  pub room : at + length bytes ≤ length old
  pub place : next ≡ at + length bytes
  pub holds : new ≡ placed old at bytes

-- ---- an answer from a place on: where it can be written, the place behind it and the buffer with it; else the place and the buffer as they were

pub record Puts (can : Bool) (old new : List ℕ) (at next : ℕ) (bytes : List ℕ) : Type 0 where
  pub place : next ≡ cond can (at + length bytes) at
  pub holds : new ≡ cond can (placed old at bytes) old

-- a constraint of these parts
abbrev pub constraint_of : ℕ → ℕ → List ℕ → Constraint
constraint_of version deny sets = record { version = version; deny = deny; roles = sets }

-- ---- an answer and its constraint, at the start of a buffer

-- a buffer has room for every line, and the answer shows no more role sets than a constraint has
unfoldable pub writable : List ℕ → Answer → Bool
writable out a = leb longest (length out) && leb (shown_sets a) flow_count

-- the answer: how long the line is that was written, or that none was
unfoldable pub line_answer : List ℕ → Answer → Constraint → Option ℕ
line_answer out a c = cond (writable out a) (Some (length (line_of a c))) None

-- the buffer: the line at its start, or as it was
unfoldable pub line_written : List ℕ → Answer → Constraint → List ℕ
line_written out a c = cond (writable out a) (line_of a c ++ drop (length (line_of a c)) out) out
