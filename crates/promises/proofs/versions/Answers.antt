use Rattle.model.proofs.Versions.{versions}
use Rattle.promises.proofs.versions.Goals as goal

pub returns : goal.returns
returns c = versions
