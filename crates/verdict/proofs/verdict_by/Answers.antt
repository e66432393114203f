use Rattle.verdict.specs.Numbers.{verdicts, verdict_by}
use Rattle.verdict.proofs.Reading.{by_row}
use Rattle.verdict.proofs.verdict_by.Goals as goal

pub returns-then-number-eq0 : goal.returns-then-number-eq0
unfolding verdict_by verdicts
returns-then-number-eq0 c = rw c.if-number-eq0.true

pub returns : goal.returns
returns c = rw c.unwrap_or.ensures (by_row _ _ c.if-number-eq0.false c.try_from.ensures)
