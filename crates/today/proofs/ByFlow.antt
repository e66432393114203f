-- Where the sets are the readers of the flows that are there, what the search finds is what conflicts.
-- Assumes nothing.
use Prim.Native.Nat.{ℕ, ◌≤◌, ◌<◌}
use mathlib.Core.Path.{◌≡◌, refl, ap, sym, ◌∙◌}
use mathlib.Core.Bool.{Bool, true, false, cond, ◌&&◌}
use mathlib.Core.List.{List}
use native.Mathlib.Nat.{zero-add}
use native.Mathlib.Omega.{arith}
use lib.Dec.{leb}
use lib.ListN.{get_or, replicate}
use borrow.Author.Tests.{lt-ltb, leb-false}
use Rattle.sets.specs.Sets.{meeting}
use Rattle.sets.proofs.Laws.{some_cong, count_cong, set_of_cong}
use Rattle.rows.specs.Rows.{there}
use Rattle.tables.specs.declared.Tables.{Tables}
use Rattle.tables.specs.Tables.{readers_of, user_count, role_count, database_count}
use Rattle.tables.proofs.Laws.{meets_readers}
use Rattle.model.specs.declared.Sessions.{Sessions}
use Rattle.model.specs.Limits.{flow_count}
use Rattle.model.specs.State.{all_sessions, place, tables_of, reach_with, conflicts}
use Rattle.model.specs.Calls.{flows_in}
use Rattle.model.proofs.Laws.{get_d_filled}
use Rattle.graph.specs.Graph.{roles_by_flow}
use Rattle.search.specs.Search.{conflicts_of}
use Rattle.today.specs.Today.{flows_today, reach_today, conflicts_today}

-- the readers of flow g, of n flows that are there
roles_there : (readers reaches : List ℕ) (s n g : ℕ) → leb all_sessions s ≡ false → g < n → g < flow_count
    → get_or (roles_by_flow readers reaches s n 0) g 0 ≡ readers_of role_count database_count readers (get_or reaches (place s g) 0)
unfolding roles_by_flow reach_with
roles_there readers reaches s n g here l k =
    rw here
    (rw (zero-add g) at (get_d_filled 0 (λ i. readers_of role_count database_count readers (reach_with reaches s n 0 i)) flow_count (replicate flow_count 0) g (omega arith) k)
    ∙ rw (lt-ltb g n l))

-- the search over n flows, which conflicts-by-flow of `search` has for n + 1
searched : (roles readers forwards mandates may : List ℕ) (n : ℕ) (reach_of : ℕ → ℕ) → ((g : ℕ) → g < n → get_or may g 0 ≡ readers_of role_count database_count readers (reach_of g))
    → conflicts_of roles may n ≡ conflicts role_count user_count database_count (tables_of roles readers forwards mandates) n reach_of
unfolding conflicts_of conflicts
searched roles readers forwards mandates may n reach_of f =
    set_of_cong role_count _ _
    (λ c b. some_cong user_count _ _
    (λ u k. ap (λ (x : ℕ). there roles u c && leb 2 x) (count_cong n _ _ (λ g l. ap (meeting role_count (get_or roles u 0)) (f g l) ∙ meets_readers role_count database_count roles readers u (reach_of g)))))

-- a session has at most flow_count flows, and one past the last has none
within : (S : Sessions) (s g : ℕ) → g < flows_today S s → (leb all_sessions s ≡ false) × (g < flow_count)
unfolding flows_today
within S s g l = go (leb all_sessions s) (leb flow_count (flows_in S s)) refl refl l
  where
    go : (a b : Bool) → leb all_sessions s ≡ a → leb flow_count (flows_in S s) ≡ b → g < cond a 0 (cond b flow_count (flows_in S s)) → (leb all_sessions s ≡ false) × (g < flow_count)
    go true b p q l = absurd (omega arith)
    go false true p q l = (p, l)
    go false false p q l = (p, omega (arith, leb-false flow_count (flows_in S s) q))

pub at_most : (S : Sessions) (s n : ℕ) → n ≡ flows_today S s → n ≤ flow_count
unfolding flows_today
at_most S s n e = rw e (go (leb all_sessions s) (leb flow_count (flows_in S s)) refl)
  where
    go : (a b : Bool) → leb flow_count (flows_in S s) ≡ b → cond a 0 (cond b flow_count (flows_in S s)) ≤ flow_count
    go true b q = omega arith
    go false true q = omega arith
    go false false q = omega (arith, leb-false flow_count (flows_in S s) q)

-- what conflicts is what the search finds in the readers of each flow
pub found : (T : Tables) (S : Sessions) (s : ℕ) → conflicts_today T S s ≡ conflicts_of T.roles (roles_by_flow T.readers S.reaches s (flows_today S s) 0) (flows_today S s)
unfolding conflicts_today conflicts
found T S s = sym (searched T.roles T.readers T.forwards T.mandates _ (flows_today S s) (reach_today S s) (λ g l. roles_there T.readers S.reaches s (flows_today S s) g (within S s g l).0 l (within S s g l).1))
