use Rattle.tables.proofs.Meaning.{readers_iff}
use Rattle.promises.proofs.readers.Goals as goal

pub returns : goal.returns
returns c = readers_iff
