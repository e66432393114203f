use Rattle.model.specs.Calls.{change}
use Rattle.linkage_c.proofs.Telling.{of_table, tells}
use Rattle.linkage_c.proofs.changes.linkage_lent_assign.Goals as goal

pub returns : goal.returns
unfolding change
returns c =
    λ readers forwards mandates counts roots reaches versions denies rolesets opened.
    tells _ _ _ _ _ (of_table _ _ _ _ _ (c.assign.ensures readers forwards mandates)) c.tell.ensures.0 _ _ c.tell.ensures.1
