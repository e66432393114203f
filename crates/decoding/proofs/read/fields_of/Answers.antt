use Rattle.decoding.proofs.Reading.{read_some}
use Rattle.decoding.proofs.read.fields_of.Goals as goal

pub returns-in_ok-numbers-in-Read : goal.returns-in_ok-numbers-in-Read
returns-in_ok-numbers-in-Read c = read_some _ _ _ c.in-Read.is c.fields-in-Read.ensures c.in_ok-numbers-in-Read.was
