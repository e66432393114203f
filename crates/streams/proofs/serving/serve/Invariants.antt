-- The answers to what is read so far are written and counted, but for those to the part that the input now holds; both buffers keep their length.
use Rattle.std.proofs.Common.{◌≡◌, ◌≤◌, length, take}
use Rattle.streams.proofs.Laws.{Going}
use Rattle.streams.proofs.serving.serve.Given as goal

abbrev pub invariant-loop : goal.invariant-loop
invariant-loop g l = (65536 ≡ length l.answers) × (65536 ≡ length l.input) × (l.filled ≤ 65536)
    × Going l.initial.engine (g.R.Read.remaining l.initial.source) (g.W.Write.contents l.initial.output) l.engine l.lines (g.R.Read.remaining l.source) (g.W.Write.contents l.output) (take l.filled l.input)
