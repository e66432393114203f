-- The lines before the place are answered and counted, and the buffer for answers keeps its length. The measure is what is left of the part.
use Rattle.std.proofs.Common.{◌≡◌, ◌-◌, length}
use Rattle.streams.specs.Serving.{Answered}
use Rattle.streams.proofs.serving.answer.Given as goal

abbrev pub invariant-loop-at : goal.invariant-loop-at
invariant-loop-at g l = (65536 ≡ length l.answers) × Answered l.part l.initial.engine l.engine l.initial.lines l.lines (g.W.Write.contents l.initial.output) (g.W.Write.contents l.output) l.at

abbrev pub decreases-loop-at : goal.decreases-loop-at
decreases-loop-at g l = length l.part - l.at
