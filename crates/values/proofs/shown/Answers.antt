use mathlib.Core.Path.{sym, ap, ◌∙◌}
use Rattle.model.specs.declared.Sessions.{Sessions}
use Rattle.model.specs.Calls.{verdict_of, shown_at}
use Rattle.values.proofs.Answers.{show_within, show_refused}
use Rattle.values.proofs.shown.Goals as goal

pub constraint_at-constraint-requires : goal.constraint_at-constraint-requires
unfolding verdict_of
constraint_at-constraint-requires c =
    let S : Sessions = c.args.kept in
    let e = c.show-answer.ensures S.roots S.reaches S.versions S.denies S.rolesets in
    let within = show_within S _ _ (ap verdict_of (sym e ∙ c.in-Constraint.is)) in
    record { s_lt_all_sessions = within.0; f_lt_flow_count = within.1 }

pub returns-in-Constraint : goal.returns-in-Constraint
unfolding shown_at verdict_of
returns-in-Constraint c =
    let S : Sessions = c.args.kept in
    let e = c.show-answer.ensures S.roots S.reaches S.versions S.denies S.rolesets in
    rw (ap verdict_of (sym e ∙ c.in-Constraint.is), e, c.constraint_at-constraint.ensures)

pub returns-in_default : goal.returns-in_default
unfolding shown_at
returns-in_default c =
    let S : Sessions = c.args.kept in
    let e = c.show-answer.ensures S.roots S.reaches S.versions S.denies S.rolesets in
    let refused = show_refused S _ _ (λ t g h. c.in_default.not-Constraint t g (e ∙ h)) in
    rw (refused.1, e)
