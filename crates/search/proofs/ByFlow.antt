-- Where the sets are the readers of the flows, what the search finds is what `model` says.
-- Assumes nothing.
use Prim.Native.Nat.{ℕ, suc, ◌+◌, ◌<◌}
use mathlib.Core.Path.{◌≡◌, ap, ◌∙◌}
use mathlib.Core.Bool.{◌&&◌}
use mathlib.Core.List.{List}
use native.Mathlib.Numerals.{add-one}
use lib.Dec.{leb}
use lib.ListN.{get_or}
use Rattle.sets.specs.Sets.{meeting}
use Rattle.sets.proofs.Laws.{some_cong, count_cong, set_of_cong}
use Rattle.rows.specs.Rows.{there}
use Rattle.tables.specs.Tables.{readers_of, user_count, role_count, database_count}
use Rattle.tables.proofs.Laws.{meets_readers}
use Rattle.model.specs.State.{tables_of, conflicts}
use Rattle.search.specs.Search.{conflicts_of}

-- the first n and one more
pub conflicts_by_flow : (roles readers forwards mandates may : List ℕ) (n : ℕ) (reach_of : ℕ → ℕ) → ((g : ℕ) → g < suc n → get_or may g 0 ≡ readers_of role_count database_count readers (reach_of g))
    → conflicts_of roles may (n + 1) ≡ conflicts role_count user_count database_count (tables_of roles readers forwards mandates) (suc n) reach_of
unfolding conflicts_of conflicts
conflicts_by_flow roles readers forwards mandates may n reach_of f =
    ap (conflicts_of roles may) (add-one n)
    ∙ set_of_cong role_count _ _
    (λ c b. some_cong user_count _ _
    (λ u k. ap (λ (x : ℕ). there roles u c && leb 2 x) (count_cong (suc n) _ _ (λ g l. ap (meeting role_count (get_or roles u 0)) (f g l) ∙ meets_readers role_count database_count roles readers u (reach_of g)))))
