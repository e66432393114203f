use Rattle.protocol.proofs.Demands.{versions_told}
use Rattle.promises.proofs.versions_told.Goals as goal

pub returns : goal.returns
returns c = versions_told
