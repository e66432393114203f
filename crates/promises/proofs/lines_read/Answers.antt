use Rattle.trace.proofs.Going.{lines_read}
use Rattle.promises.proofs.lines_read.Goals as goal

pub returns : goal.returns
returns c = lines_read
