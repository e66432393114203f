use Rattle.model.specs.Calls.{ask}
use Rattle.linkage_c.proofs.Telling.{of_session, tells}
use Rattle.linkage_c.proofs.asks.linkage_lent_open.Goals as goal

pub returns : goal.returns
unfolding ask
returns c =
    λ roles readers forwards mandates users counts roots reaches versions denies rolesets.
    tells _ _ _ _ _ (of_session _ _ _ _ _ _ _ _ c.number_of-s.ensures (c.open_session.ensures counts roots reaches versions denies rolesets)) c.tell.ensures.0 _ _ c.tell.ensures.1
