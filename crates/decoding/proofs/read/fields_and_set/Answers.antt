use Rattle.decoding.proofs.Reading.{addition_some}
use Rattle.decoding.proofs.read.fields_and_set.Goals as goal

pub returns : goal.returns
returns c = addition_some _ _ _ c.ends_behind.ensures c.if-not-ends_behind.false c.pairs.ensures c.role_set.ensures c.in_ok-a.was c.in_ok-chosen.was
