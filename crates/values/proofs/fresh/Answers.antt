use Rattle.model.specs.State.{fresh}
use Rattle.values.proofs.fresh.Goals as goal

pub returns : goal.returns
unfolding fresh
returns c = rw c.empty-tables.ensures
