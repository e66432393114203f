-- There is room for the answer, so it is what is written, or what a failure begins.
use Rattle.std.proofs.Common.{subst, arith}
use Rattle.std.proofs.lemmas.Result.{err_from_is_err_and}
use Rattle.std.specs.Io.KnownBytes.{Appends}
use Rattle.streams.proofs.Laws.{begun_same, end_some, end_none}
use Rattle.streams.proofs.serving.end.Goals as goal

pub shared_ref_as_front-show : goal.shared_ref_as_front-show
shared_ref_as_front-show g c = omega (arith, (end_some _ _ _ _ (omega arith) c.finish.ensures.0 c.finish.ensures.1 c.in-Some.n c.in-Some.is).0)

pub returns-in_ok-show-clause-all : goal.returns-in_ok-show-clause-all
returns-in_ok-show-clause-all g c = subst (Appends _ _) (end_some _ _ _ _ (omega arith) c.finish.ensures.0 c.finish.ensures.1 c.in-Some.n c.in-Some.is).1 c.in_ok-show.ensures.all

pub returns-in_err-show-clause-begun : goal.returns-in_err-show-clause-begun
returns-in_err-show-clause-begun g c =
    let p = err_from_is_err_and c.from_residual.result c.from_residual.ensures.1 in
    rw (p.1, p.2) (begun_same _ _ _ _ _ _ (end_some _ _ _ _ (omega arith) c.finish.ensures.0 c.finish.ensures.1 c.in-Some.n c.in-Some.is).1 c.in_err-show.ensures.begun)

pub returns-in_default : goal.returns-in_default
returns-in_default g c = absurd (end_none _ _ _ _ (omega arith) c.finish.ensures.0 c.finish.ensures.1 c.in_default.is)
