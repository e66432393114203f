use Rattle.sets.proofs.Laws.{same_set}
use Rattle.promises.proofs.same_members.Goals as goal

pub returns : goal.returns
returns c = same_set
