use Rattle.given.proofs.Values.{values_mean}
use Rattle.promises.proofs.values_in_c.Goals as goal

pub returns : goal.returns
returns c = values_mean
