use Rattle.model.proofs.Meaning.{sets_mean}
use Rattle.promises.proofs.session_sets.Goals as goal

pub returns : goal.returns
returns c = sets_mean
