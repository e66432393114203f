use Rattle.graph.proofs.ByFlow.{joined}
use Rattle.promises.proofs.steps_joined.Goals as goal

pub returns : goal.returns
returns c = joined
