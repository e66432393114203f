use mathlib.Core.Path.{◌≡◌, sym, ◌∙◌}
use Rattle.model.specs.Calls.{ask}
use Rattle.model.proofs.Chains.{same_answer}
use Rattle.given.specs.Given.{roles_or}
use Rattle.linkage_c.proofs.Telling.{of_session, no_roles, finds}
use Rattle.linkage_c.proofs.asks.linkage_lent_conflicting.Goals.{in-Roles, in_default}
use Rattle.linkage_c.proofs.asks.linkage_lent_conflicting.Goals as goal

pub returns : goal.returns
unfolding ask roles_or
returns c =
    let found : (c.match-a.a ≡ c.conflicting-a.result) × (c.match-a.found ≡ roles_or c.args.found.now c.match-a.a) =
    elim c.match-a.branch [
      | in-Roles w ↦ (w.a-is ∙ sym w.in-Roles.is, rw w.a-is w.found-is)
      | in_default w ↦ (w.a-is, rw w.a-is (w.found-is ∙ no_roles _ _ w.in_default.not-Roles))
    ] in
    λ mandates users roots versions denies rolesets version.
    finds _ _ _ _ (of_session _ _ _ _ _ _ _ _ c.number_of-s.ensures (same_answer _ (found.0 ∙ c.conflicting-a.ensures mandates roots versions denies rolesets))) c.returned.ensures _ _ found.1
