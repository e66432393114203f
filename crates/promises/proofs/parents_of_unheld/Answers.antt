use Rattle.tables.proofs.Meaning.{no_parent}
use Rattle.promises.proofs.parents_of_unheld.Goals as goal

pub returns : goal.returns
returns c = no_parent
