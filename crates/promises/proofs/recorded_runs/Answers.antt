use Rattle.trace.proofs.Recorded.{recorded_run}
use Rattle.promises.proofs.recorded_runs.Goals as goal

pub returns : goal.returns
returns c = recorded_run
