use Rattle.trace.proofs.PrintedLines.{differs_line}
use Rattle.trace.proofs.printing.printed_line.Goals as goal

pub returns-in-Differs : goal.returns-in-Differs
returns-in-Differs c = differs_line c.in-Differs.is c.number_line-in-Differs.ensures c.from-in-Differs.ensures.0
