use Rattle.streams.proofs.LineFeeds.{feeds_mean}
use Rattle.promises.proofs.line_feeds.Goals as goal

pub returns : goal.returns
returns c = feeds_mean
