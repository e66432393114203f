-- Request K2: the three steps of source document 000, section 3.2 ("Audit flow graph"), in its order. Each result is what document 01 defines,
-- and an addition stores what the three come to. Statements alone; proofs/Steps has the theorems.
-- Assumes nothing.
use Rattle.std.specs.Prelude.{ℕ, suc, ◌≤◌, ◌<◌, ◌≡◌, true, List, ◌↔◌, length}
use Rattle.sets.specs.Sets.{has}
use Rattle.rows.specs.Rows.{there}
use Rattle.rows.specs.Reach.{reach, Leads}
use Rattle.tables.specs.declared.Tables.{Tables}
use Rattle.tables.specs.Tables.{user_count, role_count, database_count, holds, may_read, readers_of}
use Rattle.model.specs.declared.calls.Product.{Product}
use Rattle.model.specs.declared.calls.Ask.TheVariants.{Add}
use Rattle.model.specs.declared.calls.Call.{Call}
use Rattle.model.specs.declared.calls.Call.TheVariants.{Session}
use Rattle.model.specs.declared.calls.Verdict.TheVariants.{Granted}
use Rattle.model.specs.State.{session_at, parents_among}
use Rattle.model.specs.Calls.{verdict}
use Rattle.model.specs.Demands.{engine_at, call_at}
use Rattle.model.specs.Meaning.{One, flows_of, deny_of, roles_of}

-- ---- the steps, from the tables T

-- "1. Adding databases": the databases of a flow with this root. Document 01: its reach
abbrev pub databases : Tables → ℕ → ℕ
databases T root = reach database_count T.forwards root

-- "2. Adding roles": who may read one of these databases. Document 01: the roles that may read a database in the reach
abbrev pub roles : Tables → ℕ → ℕ
roles T found = readers_of role_count database_count T.readers found

-- "3. Adding overlapping roles": "those of them that are a parent of a role in the deny set". Document 01: the role set
abbrev pub overlapping_roles : Tables → ℕ → ℕ → ℕ
overlapping_roles T may deny = parents_among role_count user_count T.roles may deny

-- member by member
pub record StepsMean (T : Tables) : Type 0 where
  -- "its root and every database that forwarding leads to from it, in one or more steps"
  pub first : (root d : ℕ) → (has (databases T root) d ≡ true) ↔ ((k : ℕ) × Leads database_count (there T.forwards) root d k)
  -- "the roles that may read a database in it"
  pub second : (found r : ℕ) → (has (roles T found) r ≡ true) ↔ ((r < role_count) × One database_count (λ d. (has found d ≡ true) × (may_read T r d ≡ true)))
  -- "those of them that are a parent of a role in the deny set": some user holds both
  pub third : (may deny r : ℕ) → (has (overlapping_roles T may deny) r ≡ true)
      ↔ ((r < role_count) × (has may r ≡ true) × One role_count (λ o. (has deny o ≡ true) × One user_count (λ u. (holds T u o ≡ true) × (holds T u r ≡ true))))

-- ---- joined, over whole lists of calls from a fresh engine

-- the tables before call i
abbrev pub tables_at : List Call → ℕ → Tables
tables_at cs i = (engine_at cs i).directory.tables

-- how many flows product p's session s has before call i: the number of the flow that it adds
abbrev pub next_flow : List Call → ℕ → Product → ℕ → ℕ
next_flow cs i p s = flows_of (engine_at cs i) (session_at p s)

-- call i adds a flow of this root to product p's session s, and is accepted
pub record AddsAt (cs : List Call) (i : ℕ) (p : Product) (s root chosen : ℕ) : Type 0 where
  pub within : i < length cs
  pub asked : call_at cs i ≡ Session p s (Add root chosen)
  pub accepted : verdict (engine_at cs i) (Session p s (Add root chosen)) ≡ Granted

-- what the constraint of the flow that call i adds holds after it: its deny set, and its role set for flow g
abbrev pub deny_given : List Call → ℕ → Product → ℕ → ℕ
deny_given cs i p s = deny_of (engine_at cs (suc i)) (session_at p s) (next_flow cs i p s)

abbrev pub roles_given : List Call → ℕ → Product → ℕ → ℕ → ℕ
roles_given cs i p s g = roles_of (engine_at cs (suc i)) (session_at p s) (next_flow cs i p s) g

pub record Steps (cs : List Call) : Type 0 where
  -- each flow that is there was added by a call, which found its databases; they are kept from then on
  pub added : (i : ℕ) (p : Product) (s g : ℕ) → g < next_flow cs i p s → (j : ℕ) × (root : ℕ) × (chosen : ℕ) × (j < i) × AddsAt cs j p s root chosen × (next_flow cs j p s ≡ g)
  -- where call i adds a flow, and call j the same one or an older one of that session: the role set that i stores for j's flow is the third step's
  -- result from the second's from the first's, the databases by the tables at j and the roles by those at i
  pub joined : (i j : ℕ) (p : Product) (s root chosen older before : ℕ) → j ≤ i → AddsAt cs i p s root chosen → AddsAt cs j p s older before
      → roles_given cs i p s (next_flow cs j p s) ≡ overlapping_roles (tables_at cs i) (roles (tables_at cs i) (databases (tables_at cs j) older)) (deny_given cs i p s)
