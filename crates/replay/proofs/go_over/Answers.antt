-- At most one byte too many is read, and what is behind it makes no difference.
use Rattle.std.proofs.Common.{◌∙◌, arith}
use Rattle.std.proofs.lemmas.List.{with_items_is}
use Rattle.replay.proofs.Cut.{cut_off}
use Rattle.replay.proofs.go_over.Goals as goal

pub returns-in-Ok-write_all-clause-outcome : goal.returns-in-Ok-write_all-clause-outcome
returns-in-Ok-write_all-clause-outcome g c =
    let room = c.deref_mut.ensures.len in
    let read = c.in-Ok-fill.ensures in
    let held = c.deref-2.ensures.value ∙ with_items_is c.in-Ok.bytes c.fill.new.bytes (c.fill.auto.bytes ∙ room) in
    cut_off _ _ _ _ _ c.fill.new.bytes _ _ (omega (arith, room, c.in-Ok.ensures)) read.within read.consumed read.at_end held c.replay-found.ensures (omega arith)
