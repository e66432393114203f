use Rattle.protocol.proofs.Demands.{in_pieces}
use Rattle.promises.proofs.any_pieces.Goals as goal

pub returns : goal.returns
returns c = in_pieces
