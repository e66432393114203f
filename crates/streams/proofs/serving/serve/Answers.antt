-- A turn answers what is held and reads on behind what is kept of it; at the end of the input the last line is answered.
use Rattle.std.proofs.Common.{◌<◌, ◌≤◌, [], length, length-take, refl, arith, rules}
use Rattle.std.proofs.KnownBytes.{Consumes-nil, Consumes-kept}
use Rattle.std.proofs.lemmas.Result.{err_from_is_err_and}
use Rattle.protocol.specs.Widths.{kept}
use Rattle.streams.proofs.Laws.{on_ok, if_err, going_start, turned, ended_by, ended_short, ended_drawn, going_drawn, going_left, both_err, going_short, going_unread, room_behind}
use Rattle.streams.proofs.serving.serve.Goals as goal

pub loop-init : goal.loop-init
loop-init g c = (first_of (omega arith, search rules), first_of (omega arith, search rules), omega arith, going_start _ _ _ _ refl)

pub loop-preserved : goal.loop-preserved
loop-preserved g c = (
  omega arith,
  omega arith,
  omega (arith, c.in-Ok.ensures),
  turned _ _ _ _ _ _ _ _ _ _ _ _ _ _ _ _ _ _ c.loop.invariant.3 c.in_ok-taken.ensures.answered c.in_ok-taken.ensures.unfinished c.keep-kept.ensures.0 c.keep-kept.ensures.1 (omega arith) c.in-Ok.ensures.unchanged c.in-Ok.ensures.consumed _ (omega arith),
)

pub returns-in-Ok-2 : goal.returns-in-Ok-2
returns-in-Ok-2 g c =
    let seen = c.in-Ok.ensures in
    let few : c.keep-kept.result ≤ kept = room_behind _ _ _ _ c.in_ok-taken.ensures.unfinished c.keep-kept.ensures.0 in
    let last : c.in-Ok.place ≤ c.keep-kept.result = omega (arith, c.if-kept-place.false) in
    let room : c.keep-kept.result < length c.keep-kept.new.buffer = omega arith in
    record {
      all = on_ok c.end.result (ended_by _ _ _ _ _ _ _ _ _ _ _ _ _ _ _ _ _ _ c.loop.invariant.3 c.in_ok-taken.ensures.answered c.in_ok-taken.ensures.unfinished c.keep-kept.ensures.0 c.keep-kept.ensures.1 (omega (arith, seen.within)) seen.unchanged seen.consumed _ _ last (seen.at_end (omega (arith, last, seen.within)) room) (omega (arith, last, seen.within))) c.end.ensures.all;
      begun = if_err c.end.result (ended_short _ _ _ _ _ _ _ _ _ _ _ _ _ _ _ _ _ _ c.loop.invariant.3 c.in_ok-taken.ensures.answered c.in_ok-taken.ensures.unfinished c.keep-kept.ensures.0 c.keep-kept.ensures.1 (omega (arith, seen.within)) seen.unchanged seen.consumed _ _ last (seen.at_end (omega (arith, last, seen.within)) room) (omega (arith, last, seen.within))) c.end.ensures.begun;
      drawn = if_err c.end.result (ended_drawn _ _ _ _ _ _ _ _ _ _ _ _ _ _ _ _ _ _ c.loop.invariant.3 c.in_ok-taken.ensures.answered c.in_ok-taken.ensures.unfinished c.keep-kept.ensures.0 c.keep-kept.ensures.1 (omega (arith, seen.within)) seen.unchanged seen.consumed _ _ last c.loop.invariant.2) (both_err _ _ c.end.result c.end.ensures.begun c.end.ensures.unwritten);
    }

pub returns-in_err-taken-clause-begun : goal.returns-in_err-taken-clause-begun
returns-in_err-taken-clause-begun g c =
    let p = err_from_is_err_and c.from_residual.result c.from_residual.ensures.1 in
    rw (p.1, p.2) (going_short _ _ _ _ _ _ _ _ _ _ c.loop.invariant.3 c.in_err-taken.ensures.begun)

pub returns-in_err-taken-clause-drawn : goal.returns-in_err-taken-clause-drawn
returns-in_err-taken-clause-drawn g c =
    let p = err_from_is_err_and c.from_residual.result c.from_residual.ensures.1 in
    let b = c.in_err-taken.ensures.begun [] in
    rw (p.1, p.2) (going_drawn _ _ _ _ _ _ _ _ _ _ b.written _ c.loop.invariant.3 (omega (arith, c.loop.invariant.2, length-take c.loop.filled c.loop.input)) (Consumes-nil _) b.appended c.in_err-taken.ensures.unwritten)

pub returns-in-Err-clause-begun : goal.returns-in-Err-clause-begun
returns-in-Err-clause-begun g c = going_unread _ _ _ _ _ _ _ _ _ _ _ _ _ c.loop.invariant.3 c.in_ok-taken.ensures.answered refl

pub returns-in-Err-clause-drawn : goal.returns-in-Err-clause-drawn
returns-in-Err-clause-drawn g c =
    going_left _ _ _ _ _ _ _ _ _ _ _ _ _ _ c.loop.invariant.3 c.in_ok-taken.ensures.answered c.in_ok-taken.ensures.unfinished (omega (arith, c.loop.invariant.2, length-take c.loop.filled c.loop.input))
    (Consumes-kept _ _ _ [] (Consumes-nil _) c.in-Err.ensures.kept)

pub returns-in_err-answer-clause-begun : goal.returns-in_err-answer-clause-begun
returns-in_err-answer-clause-begun g c =
    let p = err_from_is_err_and c.from_residual-in_err-answer.result c.from_residual-in_err-answer.ensures.1 in
    rw (p.1, p.2) (going_short _ _ _ _ _ _ _ _ _ _ c.loop.invariant.3 c.in_err-answer.ensures.begun)

pub returns-in_err-answer-clause-drawn : goal.returns-in_err-answer-clause-drawn
returns-in_err-answer-clause-drawn g c =
    let p = err_from_is_err_and c.from_residual-in_err-answer.result c.from_residual-in_err-answer.ensures.1 in
    let b = c.in_err-answer.ensures.begun [] in
    rw (p.1, p.2) (going_drawn _ _ _ _ _ _ _ _ _ _ b.written _ c.loop.invariant.3 (omega (arith, c.loop.invariant.2, length-take c.loop.filled c.loop.input)) (Consumes-nil _) b.appended c.in_err-answer.ensures.unwritten)

pub returns-clause-begun : goal.returns-clause-begun
returns-clause-begun g c = going_unread _ _ _ _ _ _ _ _ _ _ _ _ _ c.loop.invariant.3 c.in_ok-answer.ensures.answered refl

pub returns-clause-drawn : goal.returns-clause-drawn
returns-clause-drawn g c =
    going_left _ _ _ _ _ _ _ _ _ _ _ _ _ _ c.loop.invariant.3 c.in_ok-answer.ensures.answered c.in_ok-answer.ensures.unfinished (omega (arith, c.loop.invariant.2, length-take c.loop.filled c.loop.input)) (Consumes-nil _)
