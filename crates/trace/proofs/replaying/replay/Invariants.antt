-- Each turn of the loop goes over the next pair.
use Prim.Native.Nat.{◌-◌}
use mathlib.Core.Path.{◌≡◌}
use lib.ListN.{length}
use Rattle.protocol.specs.Widths.{longest}
use Rattle.trace.proofs.Going.{Going}
use Rattle.trace.proofs.replaying.replay.Given as goal

abbrev pub invariant-loop-trace : goal.invariant-loop-trace
invariant-loop-trace l = Going l.text l.trace.at l.pair l.engine × (length l.answer ≡ longest) × (l.trace.text.now ≡ l.text)

abbrev pub decreases-loop-trace : goal.decreases-loop-trace
decreases-loop-trace l = length l.text - l.trace.at
