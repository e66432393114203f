-- Three parts, one after the other.
use Rattle.encoding.proofs.Writing.{wrote_both}
use Rattle.encoding.proofs.write_constraint.Goals as goal

pub returns : goal.returns
returns c = wrote_both c.write_hex-next.ensures (wrote_both c.write_hex-next-2.ensures c.write_sets.ensures)
