-- Two digits, and a line feed behind them.
use mathlib.Core.Path.{sym, ◌∙◌}
use Rattle.encoding.proofs.Writing.{wrote_both, puts_line}
use Rattle.encoding.proofs.write_number.Goals as goal

pub returns : goal.returns
returns c = puts_line (sym c.has_room.ensures ∙ c.if-not-has_room.false) (wrote_both c.write_hex-next.ensures c.write_feed.ensures)
