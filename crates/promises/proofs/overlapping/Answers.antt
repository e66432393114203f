use Rattle.tables.proofs.Meaning.{overlaps_iff}
use Rattle.promises.proofs.overlapping.Goals as goal

pub returns : goal.returns
returns c = overlaps_iff
