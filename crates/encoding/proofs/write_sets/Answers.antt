use Rattle.encoding.proofs.Writing.{wrote_set}
use Rattle.encoding.proofs.write_sets.Goals as goal

pub loop-set-preserved : goal.loop-set-preserved
loop-set-preserved c = wrote_set _ c.args.n _ c.loop-set-test.true c.loop-set.invariant c.write_hex-next.ensures
