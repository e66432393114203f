use Rattle.worked.proofs.Worked.{settled}
use Rattle.promises.proofs.worked_runs.Goals as goal

pub returns : goal.returns
returns c = settled
