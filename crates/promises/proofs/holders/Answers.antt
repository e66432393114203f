use Rattle.tables.proofs.Meaning.{held_iff}
use Rattle.promises.proofs.holders.Goals as goal

pub returns : goal.returns
returns c = held_iff
