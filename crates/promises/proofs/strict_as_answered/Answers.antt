use Rattle.strict.proofs.Run.{strict_answered}
use Rattle.promises.proofs.strict_as_answered.Goals as goal

pub returns : goal.returns
returns c = strict_answered
