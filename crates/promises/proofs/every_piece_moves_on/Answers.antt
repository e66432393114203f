use Rattle.protocol.proofs.Demands.{progress}
use Rattle.promises.proofs.every_piece_moves_on.Goals as goal

pub returns : goal.returns
returns c = progress
