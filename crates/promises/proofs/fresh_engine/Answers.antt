use Rattle.model.proofs.Meaning.{fresh_means}
use Rattle.promises.proofs.fresh_engine.Goals as goal

pub returns : goal.returns
returns c = fresh_means
