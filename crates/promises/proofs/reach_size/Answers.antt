use Rattle.rows.proofs.Meaning.{reach_size}
use Rattle.promises.proofs.reach_size.Goals as goal

pub returns : goal.returns
returns c = reach_size
