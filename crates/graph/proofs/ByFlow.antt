-- One flow's place among those of a session: what stands there is that flow's result of the step.
-- Assumes nothing.
use Prim.Native.Nat.{ℕ, ◌<◌}
use mathlib.Core.Path.{◌≡◌, refl, ap, ◌∙◌}
use mathlib.Core.Bool.{false}
use mathlib.Core.List.{List}
use lib.Dec.{leb}
use lib.ListN.{get_or}
use borrow.Author.Tests.{lt-leb, le-leb}
use Rattle.rows.specs.Reach.{reach}
use Rattle.tables.specs.Tables.{user_count, role_count, database_count, readers_of}
use Rattle.model.specs.Limits.{flow_count}
use Rattle.model.specs.State.{all_sessions, tables_of, reach_with, parents_among, role_set}
use Rattle.model.proofs.Laws.{get_d_same}
use Rattle.graph.specs.Graph.{roles_by_flow, overlapping_by_flow, Joined}
use Rattle.graph.proofs.Made.{flow_at}

-- from the first step's result `new`, and the second's, `may`
module _ (readers forwards reaches may : List ℕ) (s n root new : ℕ) (here : leb all_sessions s ≡ false) (p : new ≡ reach database_count forwards root) (q : may ≡ roles_by_flow readers reaches s n new) where
  pub roles_at : (g : ℕ) → g < flow_count → get_or may g 0 ≡ readers_of role_count database_count readers (reach_with reaches s n (reach database_count forwards root) g)
  unfolding roles_by_flow
  roles_at g l = rw (q, p, here) (flow_at (λ i. readers_of role_count database_count readers (reach_with reaches s n (reach database_count forwards root) i)) g l)

  -- to the role sets
  pub sets_at : (held mandates : List ℕ) (deny g : ℕ) → g < flow_count
      → get_or (overlapping_by_flow held may deny) g 0 ≡ role_set role_count user_count database_count (tables_of held readers forwards mandates) deny (reach_with reaches s n (reach database_count forwards root) g)
  unfolding overlapping_by_flow role_set
  sets_at held mandates deny g l =
      flow_at (λ i. parents_among role_count user_count held (get_or may i 0) deny) g l
      ∙ ap (λ (x : ℕ). parents_among role_count user_count held x deny) (roles_at g l)

pub joined : Joined
unfolding roles_by_flow
joined = record {
  sets = λ held readers forwards mandates reaches s n root deny g here l. sets_at readers forwards reaches _ s n root _ (lt-leb all_sessions s here) refl refl held mandates deny g l;
  above = λ readers reaches s n new g h. rw (le-leb all_sessions s h) (get_d_same flow_count g 0);
}
