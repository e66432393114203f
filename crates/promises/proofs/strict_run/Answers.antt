use Rattle.strict.proofs.Run.{strict_run_is}
use Rattle.promises.proofs.strict_run.Goals as goal

pub returns : goal.returns
returns c = strict_run_is
