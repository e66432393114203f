-- Which roles conflict in a session as it is: of the flows that are there, by the tables of now. 07 and 0c count a new flow in, and this does not.
-- Assumes nothing.
use Rattle.std.specs.Prelude.{ℕ, ◌≤◌, ◌<◌, ◌≡◌, true, cond, ◌↔◌, leb, get_or}
use Rattle.sets.specs.Sets.{has}
use Rattle.tables.specs.declared.Tables.{Tables}
use Rattle.tables.specs.Tables.{user_count, role_count, database_count, holds, may_read}
use Rattle.model.specs.declared.Sessions.{Sessions}
use Rattle.model.specs.Limits.{flow_count}
use Rattle.model.specs.State.{all_sessions, place, conflicts}
use Rattle.model.specs.Calls.{flows_in}
use Rattle.model.specs.Meaning.{One, Two}

-- how many flows session s has, which has its number among those of both products; none past the last session, and no more than a session can have, whatever an array holds
unfoldable pub flows_today : Sessions → ℕ → ℕ
flows_today S s = cond (leb all_sessions s) 0 (cond (leb flow_count (flows_in S s)) flow_count (flows_in S s))

-- the reach that is kept of flow g
abbrev pub reach_today : Sessions → ℕ → ℕ → ℕ
reach_today S s g = get_or S.reaches (place s g) 0

-- the conflicting roles of these flows
unfoldable pub conflicts_today : Tables → Sessions → ℕ → ℕ
conflicts_today T S s = conflicts role_count user_count database_count T (flows_today S s) (reach_today S s)

-- ---- what that means

-- user u holds a role that may read a database in the reach of flow g
abbrev pub ReadsToday : Tables → Sessions → ℕ → ℕ → ℕ → Type 0
ReadsToday T S s u g = One role_count (λ r. (holds T u r ≡ true) × One database_count (λ d. (has (reach_today S s g) d ≡ true) × (may_read T r d ≡ true)))

pub record TodayMeans (T : Tables) (S : Sessions) (s : ℕ) : Type 0 where
  -- role c conflicts exactly where some user holds it and reads two different flows, each by a role of the user's
  pub conflicting : (c : ℕ) → (has (conflicts_today T S s) c ≡ true) ↔ ((c < role_count) × One user_count (λ u. (holds T u c ≡ true) × Two (flows_today S s) (ReadsToday T S s u)))
  -- the flows are those that the session has
  pub counted : s < all_sessions → flows_in S s ≤ flow_count → flows_today S s ≡ flows_in S s
  pub past : all_sessions ≤ s → flows_today S s ≡ 0
