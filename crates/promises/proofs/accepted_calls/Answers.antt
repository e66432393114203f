use Rattle.model.proofs.Meaning.{call_means}
use Rattle.promises.proofs.accepted_calls.Goals as goal

pub returns : goal.returns
returns c = call_means
