use Rattle.rows.proofs.Meaning.{level_iff}
use Rattle.promises.proofs.reach_by_steps.Goals as goal

pub returns : goal.returns
returns c = level_iff
