use Rattle.rows.proofs.Meaning.{there_entered}
use Rattle.promises.proofs.pair_entered.Goals as goal

pub returns : goal.returns
returns c = there_entered
