use Rattle.decoding.proofs.Reading.{pairs_start, pairs_step}
use Rattle.decoding.proofs.read.pairs.Goals as goal

pub loop-i-init : goal.loop-i-init
loop-i-init g c = pairs_start _ _ _ _

pub loop-i-preserved : goal.loop-i-preserved
loop-i-preserved g c = pairs_step c.loop-i.invariant c.loop-i-test.true c.two.ensures c.in_ok-pair.was
