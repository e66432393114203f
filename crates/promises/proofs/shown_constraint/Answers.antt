use Rattle.model.proofs.Meaning.{show_means}
use Rattle.promises.proofs.shown_constraint.Goals as goal

pub returns : goal.returns
returns c = show_means
