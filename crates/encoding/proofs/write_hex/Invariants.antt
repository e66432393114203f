-- The digits from place k on are written, and `rest` has those before it.
use Rattle.encoding.proofs.Writing.{Digits}
use Rattle.encoding.proofs.write_hex.Given as goal

abbrev pub invariant-loop-k : goal.invariant-loop-k
invariant-loop-k g l = Digits l.initial.out l.at g.row.N l.v l.out l.rest l.k
