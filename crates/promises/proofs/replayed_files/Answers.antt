use Rattle.trace.proofs.Recorded.{replays}
use Rattle.promises.proofs.replayed_files.Goals as goal

pub returns : goal.returns
returns c = replays
