-- The line feeds of the blocks so far are counted, and the rest is cut into blocks as short.
use Rattle.std.proofs.Common.{◌≡◌, ◌+◌}
use Rattle.std.specs.Slice.Iter.{chunks_rest, chunks_size}
use Rattle.streams.specs.Feeds.{feeds}
use Rattle.streams.proofs.counting.lines.Given as goal

abbrev pub invariant-loop-block : goal.invariant-loop-block
invariant-loop-block l = (l.n + feeds (chunks_rest l.block-iterator) ≡ feeds l.text) × (chunks_size l.block-iterator ≡ 128)
