use Rattle.rows.proofs.Meaning.{there_struck}
use Rattle.promises.proofs.pair_struck_out.Goals as goal

pub returns : goal.returns
returns c = there_struck
