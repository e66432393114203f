use Rattle.model.proofs.Steps.{steps_mean}
use Rattle.promises.proofs.each_step.Goals as goal

pub returns : goal.returns
returns c = steps_mean
