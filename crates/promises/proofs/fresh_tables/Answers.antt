use Rattle.tables.proofs.Meaning.{fresh_empty}
use Rattle.promises.proofs.fresh_tables.Goals as goal

pub returns : goal.returns
returns c = fresh_empty
