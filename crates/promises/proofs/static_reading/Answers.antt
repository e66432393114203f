use Rattle.tables.proofs.Meaning.{reads_iff}
use Rattle.promises.proofs.static_reading.Goals as goal

pub returns : goal.returns
returns c = reads_iff
