use Rattle.protocol.proofs.Widths.{widths}
use Rattle.promises.proofs.widths.Goals as goal

pub returns : goal.returns
returns c = widths
