use Rattle.model.proofs.Table.{tabled}
use Rattle.promises.proofs.refusal_table.Goals as goal

pub returns : goal.returns
returns c = tabled
