-- The pairs before i are read.
use Rattle.decoding.proofs.Reading.{Sofar}
use Rattle.decoding.proofs.read.pairs.Given as goal

abbrev pub invariant-loop-i : goal.invariant-loop-i
invariant-loop-i g l = Sofar l.digits.high l.digits.low l.s g.row.N l.pair-items l.i
