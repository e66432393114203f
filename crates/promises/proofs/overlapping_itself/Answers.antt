use Rattle.tables.proofs.Meaning.{own_parent}
use Rattle.promises.proofs.overlapping_itself.Goals as goal

pub returns : goal.returns
returns c = own_parent
