use Rattle.model.proofs.Mandates.{before}
use Rattle.promises.proofs.without_mandates.Goals as goal

pub returns : goal.returns
returns c = before
