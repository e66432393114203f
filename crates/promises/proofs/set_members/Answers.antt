use Rattle.sets.proofs.Laws.{has_set_of_iff}
use Rattle.promises.proofs.set_members.Goals as goal

pub returns : goal.returns
returns c = has_set_of_iff
