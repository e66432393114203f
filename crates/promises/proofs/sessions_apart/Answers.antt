use Rattle.model.proofs.Meaning.{numbers_mean}
use Rattle.promises.proofs.sessions_apart.Goals as goal

pub returns : goal.returns
returns c = numbers_mean
