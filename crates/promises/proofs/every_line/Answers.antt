use Rattle.protocol.proofs.Demands.{byte_demands}
use Rattle.promises.proofs.every_line.Goals as goal

pub returns : goal.returns
returns c = byte_demands
