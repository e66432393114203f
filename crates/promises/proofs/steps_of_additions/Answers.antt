use Rattle.model.proofs.Steps.{steps}
use Rattle.promises.proofs.steps_of_additions.Goals as goal

pub returns : goal.returns
returns c = steps
