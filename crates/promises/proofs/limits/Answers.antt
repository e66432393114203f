use Rattle.model.proofs.Limits.{limits}
use Rattle.promises.proofs.limits.Goals as goal

pub returns : goal.returns
returns c = limits
