use Rattle.engine.proofs.Changing.{changed_means}
use Rattle.promises.proofs.given_back.Goals as goal

pub returns : goal.returns
returns c = changed_means
