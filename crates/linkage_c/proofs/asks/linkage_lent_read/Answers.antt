use Rattle.linkage_c.proofs.Telling.{judges}
use Rattle.linkage_c.proofs.asks.linkage_lent_read.Goals as goal

pub returns : goal.returns
returns c =
    λ forwards roots version.
    judges _ _ _ _ _ _ (c.number.ensures forwards version roots)
