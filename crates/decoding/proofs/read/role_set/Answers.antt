use native.Mathlib.Omega.{arith}
use Rattle.decoding.proofs.Reading.{sofar_fits, sofar_step, sofar_end}
use Rattle.decoding.proofs.read.role_set.Goals as goal

pub overflow_mul-set : goal.overflow_mul-set
overflow_mul-set c = omega (arith, sofar_fits _ _ _ c.pairs.ensures c.in_ok-pairs.was c.loop-pair.invariant c.loop-pair-test.true)

pub overflow_add-set : goal.overflow_add-set
overflow_add-set c = omega (arith, sofar_fits _ _ _ c.pairs.ensures c.in_ok-pairs.was c.loop-pair.invariant c.loop-pair-test.true)

pub loop-pair-preserved : goal.loop-pair-preserved
loop-pair-preserved c = sofar_step _ _ _ c.pairs.ensures c.in_ok-pairs.was c.loop-pair.invariant c.loop-pair-test.true

pub returns : goal.returns
returns c = sofar_end _ _ _ c.pairs.ensures c.in_ok-pairs.was c.loop-pair.invariant c.loop-pair-test.false
