-- Sixteen digits, and a line feed behind them, fill the array.
use native.Mathlib.Omega.{arith}
use Rattle.encoding.proofs.Writing.{wrote_both, wrote_hex, wrote_whole, number_length}
use Rattle.encoding.proofs.number_line.Goals as goal

pub write_feed-requires : goal.write_feed-requires
write_feed-requires c = omega (arith, wrote_hex _ _ c.write_hex-next.ensures)

pub returns : goal.returns
returns c = wrote_whole (wrote_both c.write_hex-next.ensures c.write_feed.ensures) (number_length _)
