use Rattle.carrying.proofs.Carrying.{carried}
use Rattle.promises.proofs.carried_over.Goals as goal

pub returns : goal.returns
returns c = carried
