use Rattle.carrying.proofs.Moving.{moved}
use Rattle.promises.proofs.moved_runs.Goals as goal

pub returns : goal.returns
returns c = moved
