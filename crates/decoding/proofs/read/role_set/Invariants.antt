-- `set` is the number of the pairs so far.
use Rattle.decoding.proofs.Reading.{SoFar}
use Rattle.decoding.proofs.read.role_set.Given as goal

abbrev pub invariant-loop-pair : goal.invariant-loop-pair
invariant-loop-pair l = SoFar l.digits.high l.digits.low l.s l.pair-index l.set
