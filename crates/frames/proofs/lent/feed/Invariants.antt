-- Each turn of the loop answers the next line.
use Prim.Native.Nat.{◌-◌}
use lib.ListN.{length}
use Rattle.step.specs.Parts.{lent, Same}
use Rattle.frames.proofs.Feeding.{Feeding}
use Rattle.frames.proofs.lent.feed.Given as goal

abbrev pub invariant-loop-at : goal.invariant-loop-at
invariant-loop-at l = Same l.parts l.initial.parts × Feeding l.input l.initial.out (lent l.initial.parts) l.out (lent l.parts) l.at l.written

abbrev pub decreases-loop-at : goal.decreases-loop-at
decreases-loop-at l = length l.input - l.at
