-- The parts of the line, one after the other.
use native.Mathlib.Omega.{arith}
use Rattle.encoding.proofs.Writing.{wrote_line, wrote_hex, wrote_values, wrote_length}
use Rattle.encoding.proofs.write_line.Goals as goal

pub write_feed-requires : goal.write_feed-requires
write_feed-requires c =
    let two = c.write_hex-next.ensures in
    let rest = c.write_values-next.ensures in
    omega (arith, wrote_values _ _ c.requires.a_bound rest, wrote_length rest, wrote_hex _ _ two)

pub returns : goal.returns
returns c = wrote_line _ _ _ c.returned.ensures c.write_hex-next.ensures c.write_values-next.ensures c.write_feed.ensures
