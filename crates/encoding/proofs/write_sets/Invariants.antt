-- The role sets before this one are written.
use Rattle.protocol.specs.Lines.{role_sets}
use Rattle.encoding.specs.Written.{Wrote}
use Rattle.encoding.proofs.write_sets.Given as goal

abbrev pub invariant-loop-set : goal.invariant-loop-set
invariant-loop-set l = Wrote l.initial.out l.out l.at l.next (role_sets l.set-index l.sets)
