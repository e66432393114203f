use Rattle.tables.proofs.Meaning.{parents_iff}
use Rattle.promises.proofs.parents.Goals as goal

pub returns : goal.returns
returns c = parents_iff
