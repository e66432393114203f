use Rattle.model.proofs.Meaning.{query_means}
use Rattle.promises.proofs.conflicts_asked.Goals as goal

pub returns : goal.returns
returns c = query_means
