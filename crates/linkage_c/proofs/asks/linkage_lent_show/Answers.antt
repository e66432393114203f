use mathlib.Core.Path.{refl, sym, ◌∙◌}
use native.Mathlib.Omega.{arith}
use Rattle.std.proofs.lemmas.Option.{cond_some}
use Rattle.model.specs.Calls.{ask}
use Rattle.model.proofs.Chains.{same_answer}
use Rattle.linkage_c.proofs.Telling.{of_session, shows_none, shows_nowhere, shows}
use Rattle.linkage_c.proofs.asks.linkage_lent_show.Goals as goal

pub returns-then-n-ne0 : goal.returns-then-n-ne0
unfolding ask
returns-then-n-ne0 c =
    λ roles readers forwards mandates users roots reaches version.
    shows_none _ _ _ _ _ _ _ c.number_of-s.ensures (of_session _ _ _ _ _ _ _ _ c.number_of-s.ensures (same_answer _ (c.show-a.ensures roots reaches _ _ _))) c.returned-n.ensures _ (omega arith)

pub returns-in_default : goal.returns-in_default
unfolding ask
returns-in_default c =
    λ roles readers forwards mandates users roots reaches version.
    shows_nowhere _ _ _ _ _ _ _ c.number_of-s.ensures (of_session _ _ _ _ _ _ _ _ c.number_of-s.ensures (same_answer _ (c.show-a.ensures roots reaches _ _ _))) c.returned-n.ensures _ c.if-n-ne0.false (sym c.in_default.is ∙ c.place_to_show.ensures.value)

pub returns : goal.returns
unfolding ask
returns c =
    λ roles readers forwards mandates users roots reaches version.
    shows _ _ _ _ _ _ _ c.number_of-s.ensures (of_session _ _ _ _ _ _ _ _ c.number_of-s.ensures (same_answer _ (c.show-a.ensures roots reaches _ _ _))) c.returned-n.ensures _ (omega arith) _ _ _ _ (sym (cond_some _ _ _ (sym c.place_to_show.ensures.value ∙ c.in-Some.is)).1) refl refl c.sets_at.ensures
