use Rattle.worked.proofs.Needed.{needed}
use Rattle.promises.proofs.premises_needed.Goals as goal

pub returns : goal.returns
returns c = needed
