-- Where there is room and the answer has a place, its line is written with what stands there.
use mathlib.Core.Path.{sym, ◌∙◌}
use Rattle.std.proofs.Common.{rules}
use Rattle.std.proofs.lemmas.Option.{cond_some}
use Rattle.encoding.proofs.Writing.{puts_answer}
use Rattle.encoding.proofs.write_answer.Goals as goal

pub returns : goal.returns
returns c opened counts roots reaches =
    let place = cond_some _ _ _ (sym c.place_to_show.ensures.value ∙ c.in-Some.is) in
    puts_answer _ _ _ _ (sym c.has_room.ensures ∙ c.if-not-has_room.false) place.0 (sym place.1) (search rules) c.as_chunks.ensures.front c.write_line.ensures
