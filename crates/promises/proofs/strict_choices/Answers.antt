use Rattle.strict.proofs.Strict.{strict_first}
use Rattle.promises.proofs.strict_choices.Goals as goal

pub returns : goal.returns
returns c = strict_first
