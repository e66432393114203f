use Rattle.model.proofs.Mandates.{mandates}
use Rattle.promises.proofs.mandates.Goals as goal

pub returns : goal.returns
returns c = mandates
