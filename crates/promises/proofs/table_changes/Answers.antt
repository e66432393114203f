use Rattle.tables.proofs.Meaning.{changes_mean}
use Rattle.promises.proofs.table_changes.Goals as goal

pub returns : goal.returns
returns c = changes_mean
