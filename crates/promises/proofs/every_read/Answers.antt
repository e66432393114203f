use Rattle.model.proofs.Meaning.{read_means}
use Rattle.promises.proofs.every_read.Goals as goal

pub returns : goal.returns
returns c = read_means
