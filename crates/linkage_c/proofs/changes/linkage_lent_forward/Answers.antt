use Rattle.model.specs.Calls.{change}
use Rattle.linkage_c.proofs.Telling.{of_table, tells}
use Rattle.linkage_c.proofs.changes.linkage_lent_forward.Goals as goal

pub returns : goal.returns
unfolding change
returns c =
    λ roles readers mandates users roots reaches versions denies rolesets opened.
    tells _ _ _ _ _ (of_table _ _ _ _ _ (c.forward.ensures roles readers mandates users)) c.tell.ensures.0 _ _ c.tell.ensures.1
