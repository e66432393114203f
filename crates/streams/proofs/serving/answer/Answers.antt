-- One turn answers more of the part; where it takes nothing no whole line is left, and where it fails the answers to the part are begun.
use Rattle.std.proofs.Common.{arith, rules}
use Rattle.std.proofs.lemmas.List.{take_rest}
use Rattle.std.proofs.lemmas.Result.{err_from_is_err_and}
use Rattle.streams.proofs.Laws.{answered_start, answered_more, answers_begun, none_taken}
use Rattle.streams.proofs.serving.answer.Goals as goal

pub loop-at-init : goal.loop-at-init
loop-at-init g c = (first_of (omega arith, search rules), answered_start _ _ c.args.lines.now _ (omega arith))

pub loop-at-preserved : goal.loop-at-preserved
loop-at-preserved g c = (omega arith, answered_more _ _ _ _ _ _ _ _ _ _ _ _ _ _ _ _ _ _ c.loop-at.invariant.1 (take_rest c.args.part.now c.loop-at.at) c.feed-fed.ensures c.in_ok-lines.ensures.all c.in_ok-lines.ensures.counted (omega arith) (omega arith))

pub returns-in_err-lines-clause-begun : goal.returns-in_err-lines-clause-begun
returns-in_err-lines-clause-begun g c =
    let p = err_from_is_err_and c.from_residual.result c.from_residual.ensures.1 in
    rw (p.1, p.2) (answers_begun _ _ _ _ _ _ _ _ _ _ _ _ _ _ _ _ _ c.loop-at.invariant.1 (take_rest c.args.part.now c.loop-at.at) c.feed-fed.ensures c.in_err-lines.ensures.begun (omega arith))

pub returns-then-fed-eq0-clause-answered : goal.returns-then-fed-eq0-clause-answered
returns-then-fed-eq0-clause-answered g c = answered_more _ _ _ _ _ _ _ _ _ _ _ _ _ _ _ _ _ _ c.loop-at.invariant.1 (take_rest c.args.part.now c.loop-at.at) c.feed-fed.ensures c.in_ok-lines.ensures.all c.in_ok-lines.ensures.counted (omega arith) (omega arith)

pub returns-then-fed-eq0-clause-unfinished : goal.returns-then-fed-eq0-clause-unfinished
returns-then-fed-eq0-clause-unfinished g c = none_taken _ _ _ c.args.part.now _ _ _ c.loop-at.at _ c.feed-fed.result (take_rest c.args.part.now c.loop-at.at) c.feed-fed.ensures (omega (arith, c.loop-at.invariant.0)) c.if-fed-eq0.true (omega arith)
