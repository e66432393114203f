use Rattle.today.proofs.Meaning.{today_means}
use Rattle.promises.proofs.conflicts_today.Goals as goal

pub returns : goal.returns
returns c = today_means
