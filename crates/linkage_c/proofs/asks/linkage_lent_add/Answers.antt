use mathlib.Core.Path.{◌≡◌, sym, ◌∙◌}
use Rattle.model.specs.Calls.{ask}
use Rattle.given.specs.Given.{flow_or, size_or}
use Rattle.linkage_c.proofs.Telling.{of_session, no_flow, adds}
use Rattle.linkage_c.proofs.asks.linkage_lent_add.Goals.{in-Flow, in_default}
use Rattle.linkage_c.proofs.asks.linkage_lent_add.Goals as goal

pub returns : goal.returns
unfolding ask flow_or size_or
returns c =
    let added : (c.add-a.result ≡ c.match-a.a) × ((c.match-a.flow ≡ flow_or c.args.flow.now c.match-a.a) × (c.match-a.size ≡ size_or c.args.size.now c.match-a.a)) =
    elim c.match-a.branch [
      | in-Flow w ↦ (w.in-Flow.is ∙ sym w.a-is, (rw w.a-is w.flow-is, rw w.a-is w.size-is))
      | in_default w ↦ let none = no_flow _ _ _ w.in_default.not-Flow in (sym w.a-is, (rw w.a-is (w.flow-is ∙ none.0), rw w.a-is (w.size-is ∙ none.1)))
    ] in
    λ mandates users.
    adds _ _ _ _ _ (of_session _ _ _ _ _ _ _ _ c.number_of-s.ensures (rw added.0 at c.add-a.ensures mandates users)) c.tell.ensures.0 _ _ _ _ _ _ added.1.0 added.1.1 c.tell.ensures.1
