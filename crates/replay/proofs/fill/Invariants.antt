-- What is read are the bytes before the place. The measure is the room that is left.
use Rattle.std.proofs.Common.{◌≡◌, ◌≤◌, ◌-◌, length, take}
use Rattle.std.specs.Io.KnownBytes.{Consumes}
use Rattle.replay.proofs.fill.Given as goal

abbrev pub invariant-loop-end : goal.invariant-loop-end
invariant-loop-end g l = (l.end ≤ length l.bytes) × (length l.bytes ≡ length l.initial.bytes) × Consumes (g.R.Read.remaining l.initial.source) (g.R.Read.remaining l.source) (take l.end l.bytes)

abbrev pub decreases-loop-end : goal.decreases-loop-end
decreases-loop-end g l = length l.initial.bytes - l.end
