use Rattle.model.proofs.Lasting.{lasting}
use Rattle.promises.proofs.flows_last.Goals as goal

pub returns : goal.returns
returns c = lasting
