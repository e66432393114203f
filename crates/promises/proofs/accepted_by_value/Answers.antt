use Rattle.model.proofs.Meaning.{value_means}
use Rattle.promises.proofs.accepted_by_value.Goals as goal

pub returns : goal.returns
returns c = value_means
