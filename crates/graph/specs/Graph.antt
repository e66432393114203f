-- The second and the third step for each flow of a session. One flow's are document 01's definitions.
-- Assumes nothing.
use Rattle.std.specs.Prelude.{ℕ, ◌≤◌, ◌<◌, ◌≡◌, cond, List, leb, get_or, replicate}
use Rattle.rows.specs.Reach.{reach}
use Rattle.tables.specs.Tables.{user_count, role_count, database_count, readers_of}
use Rattle.model.specs.Limits.{flow_count}
use Rattle.model.specs.State.{all_sessions, tables_of, filled, reach_with, parents_among, role_set}

-- p 0, p 1, .. one for each flow
abbrev pub by_flow : (ℕ → ℕ) → List ℕ
by_flow p = filled 0 p flow_count (replicate flow_count 0)

-- the roles that may read each flow of session s, in place g those of flow g; nobody above the last session. s is a number among the sessions of both products
unfoldable pub roles_by_flow : List ℕ → List ℕ → ℕ → ℕ → ℕ → List ℕ
roles_by_flow readers reaches s n new = cond (leb all_sessions s) (replicate flow_count 0) (by_flow (λ g. readers_of role_count database_count readers (reach_with reaches s n new g)))

-- of each flow's roles, those that are a parent of a role in the deny set
unfoldable pub overlapping_by_flow : List ℕ → List ℕ → ℕ → List ℕ
overlapping_by_flow held roles deny = by_flow (λ g. parents_among role_count user_count held (get_or roles g 0) deny)

pub record Joined : Type 0 where
  -- The steps joined, as an addition takes them: flow g's result of the third, from the second's, from the first's, is its role set.
  pub sets : (held readers forwards mandates reaches : List ℕ) (s n root deny g : ℕ) → s < all_sessions → g < flow_count
      → get_or (overlapping_by_flow held (roles_by_flow readers reaches s n (reach database_count forwards root)) deny) g 0
      ≡ role_set role_count user_count database_count (tables_of held readers forwards mandates) deny (reach_with reaches s n (reach database_count forwards root) g)
  -- Above the last session there is nobody.
  pub above : (readers reaches : List ℕ) (s n new g : ℕ) → all_sessions ≤ s → get_or (roles_by_flow readers reaches s n new) g 0 ≡ 0
