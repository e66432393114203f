use Rattle.rows.proofs.Meaning.{reach_iff}
use Rattle.promises.proofs.reach.Goals as goal

pub returns : goal.returns
returns c = reach_iff
