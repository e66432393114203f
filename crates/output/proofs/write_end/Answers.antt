-- The line is stored byte by byte, where there is room for it.
use Rattle.std.proofs.Common.{arith}
use Rattle.output.proofs.Laws.{line_ended}
use Rattle.output.proofs.write_end.Goals as goal

pub returns : goal.returns
returns c = line_ended _ _ _ _ c.if-len-eq0.false (omega arith) (omega arith)
