-- Demand 2: what the engine's definitions mean, in document 01's own sentences. Statements alone; proofs/Meaning has the theorems.
-- Assumes nothing.
use Rattle.std.specs.Prelude.{ℕ, suc, ◌+◌, ◌≤◌, ◌<◌, ◌≡◌, true, false, ◌⊎◌, ◌↔◌, ◌≢◌, length, get_or, replicate}
use Rattle.sets.specs.Sets.{has}
use Rattle.rows.specs.Reach.{reach}
use Rattle.tables.specs.declared.Tables.{Tables}
use Rattle.tables.specs.Tables.{user_count, role_count, database_count, holds, may_read, forwards_to, has_mandate, statically_reads, assigned, withdrawn, permitted, revoked, forwarded, mandated}
use Rattle.model.specs.declared.Engine.{Engine}
use Rattle.model.specs.declared.calls.Refusal.{Refusal}
use Rattle.model.specs.declared.calls.Refusal.TheVariants.{Changed, Linkable}
use Rattle.model.specs.declared.calls.Change.{Change}
use Rattle.model.specs.declared.calls.Change.TheVariants.{Assign, Withdraw, Permit, Revoke, Forward, Mandate}
use Rattle.model.specs.declared.calls.Product.{Product}
use Rattle.model.specs.declared.calls.Ask.TheVariants.{Open, Conflicting, Add, Show}
use Rattle.model.specs.declared.calls.Call.{Call}
use Rattle.model.specs.declared.calls.Call.TheVariants.{Table, Session, Read, Unreadable}
use Rattle.model.specs.declared.calls.Verdict.TheVariants.{Granted, Refused}
use Rattle.model.specs.declared.calls.Answer.TheVariants.{Roles, Constraint as Answer-as-Constraint, Refused as Answer-as-Refused}
use Rattle.model.specs.Limits.{session_count, flow_count}
use Rattle.model.specs.State.{all_sessions, session_at, place, reach_with, conflicts, outside, role_set, linkable, roleset_at}
use Rattle.model.specs.Calls.{flows_in, conflicts_in, answer, verdict, after, shown_by}

-- ---- words

-- one of n, and two of n
abbrev pub One : ℕ → (ℕ → Type 0) → Type 0
One n P = (i : ℕ) × (i < n) × P i

abbrev pub Two : ℕ → (ℕ → Type 0) → Type 0
Two n P = (i : ℕ) × (j : ℕ) × (i < j) × (j < n) × P i × P j

-- two sets of R roles meet
abbrev pub Meets : ℕ → ℕ → ℕ → Type 0
Meets R x y = One R (λ r. (has x r ≡ true) × (has y r ≡ true))

-- ---- sessions

-- K1, "Each has sixteen sessions of its own": every session of either product has a number of its own among all of them.
-- Below, s and t are such numbers where no product is named.
pub record NumbersMean : Type 0 where
  pub within : (p : Product) (s : ℕ) → s < session_count → session_at p s < all_sessions
  pub above : (p : Product) (s : ℕ) → session_count ≤ s → session_at p s ≡ all_sessions
  pub apart : (p q : Product) (s t : ℕ) → s < session_count → t < session_count → session_at p s ≡ session_at q t → (p ≡ q) × (s ≡ t)

-- of an engine: how many flows session s has, and what is kept of flow f, with the role set for flow g
abbrev pub flows_of : Engine → ℕ → ℕ
flows_of e s = flows_in e.sessions s

abbrev pub root_of : Engine → ℕ → ℕ → ℕ
root_of e s f = get_or e.sessions.roots (place s f) 0

abbrev pub reach_of : Engine → ℕ → ℕ → ℕ
reach_of e s f = get_or e.sessions.reaches (place s f) 0

abbrev pub version_of : Engine → ℕ → ℕ → ℕ
version_of e s f = get_or e.sessions.versions (place s f) 0

abbrev pub deny_of : Engine → ℕ → ℕ → ℕ
deny_of e s f = get_or e.sessions.denies (place s f) 0

abbrev pub roles_of : Engine → ℕ → ℕ → ℕ → ℕ
roles_of e s f = roleset_at e.sessions.rolesets s f

-- of user u: the roles held, and the version
abbrev pub held_of : Engine → ℕ → ℕ
held_of e u = get_or e.directory.tables.roles u 0

abbrev pub user_version : Engine → ℕ → ℕ
user_version e u = get_or e.directory.versions u 0

-- ---- the sets, over any R roles, U users, D databases and F flows: "Facts about sets of roles and of databases hold over their size"

-- user u may statically read two of n flows with these reaches
abbrev pub ReadsTwo : ℕ → ℕ → Tables → ℕ → ℕ → (ℕ → ℕ) → Type 0
ReadsTwo R D T u n reach = Two n (λ f. statically_reads R D T.roles T.readers u (reach f) ≡ true)

-- "u holds a role of f's deny set and u's roles meet at least two of f's role sets"
abbrev pub Links : ℕ → ℕ → ℕ → ℕ → (ℕ → ℕ) → Type 0
Links R F held deny roles = Meets R held deny × Two F (λ g. Meets R held (roles g))

pub record SetsMean (R U D F : ℕ) (T : Tables) : Type 0 where
  -- "A role c is conflicting for a session if some user holds c and may statically read at least two of its flows."
  pub conflicting : (n : ℕ) (reach : ℕ → ℕ) (c : ℕ) → (has (conflicts R U D T n reach) c ≡ true) ↔ ((c < R) × One U (λ u. (holds T u c ≡ true) × ReadsTwo R D T u n reach))
  -- "a chosen role isn't conflicting"
  pub unfit : (chosen conflicting : ℕ) → (outside R chosen conflicting ≡ true) ↔ One R (λ r. (has chosen r ≡ true) × (has conflicting r ≡ false))
  -- "the roles that may, at this addition, read a database in that flow's reach and are a parent of some role in the deny set":
  -- "Role o overlaps role r if some user holds both", "Then r is a parent of o"
  pub roles : (deny reach r : ℕ) → (has (role_set R U D T deny reach) r ≡ true)
      ↔ ((r < R) × One D (λ d. (has reach d ≡ true) × (may_read T r d ≡ true)) × One R (λ o. (has deny o ≡ true) × One U (λ u. (holds T u o ≡ true) × (holds T u r ≡ true))))
  -- "refused as linkable if .."
  pub links : (held deny : ℕ) (roles : ℕ → ℕ) → (linkable R F held deny roles ≡ true) ↔ Links R F held deny roles

-- ---- 07, and the roles that 08 may choose: "conflicting for the session with the new flow counted in"

-- the reach of flow g of session s, with a flow of this root counted in
abbrev pub counted_in : Engine → ℕ → ℕ → ℕ → ℕ
counted_in e s root = reach_with e.sessions.reaches s (flows_of e s) (reach database_count e.directory.tables.forwards root)

abbrev pub conflicts_of : Engine → ℕ → ℕ → ℕ
conflicts_of e s root = conflicts_in e.directory.tables e.sessions s (reach database_count e.directory.tables.forwards root)

pub record QueryMeans (e : Engine) (p : Product) (s root : ℕ) : Type 0 where
  -- "conflicting roles, with a flow of root dd counted in but not added": of the flows that are there and one more
  pub conflicting : (c : ℕ) → (has (conflicts_of e (session_at p s) root) c ≡ true)
      ↔ ((c < role_count) × One user_count (λ u. (holds e.directory.tables u c ≡ true) × ReadsTwo role_count database_count e.directory.tables u (suc (flows_of e (session_at p s))) (counted_in e (session_at p s) root)))
  -- the flows that are there have the reach that is kept, and the new one has the root's
  pub older : (g : ℕ) → g < flows_of e (session_at p s) → counted_in e (session_at p s) root g ≡ reach_of e (session_at p s) g
  pub newest : counted_in e (session_at p s) root (flows_of e (session_at p s)) ≡ reach database_count e.directory.tables.forwards root
  -- "for 07 the role set"
  pub answered : verdict e (Session p s (Conflicting root)) ≡ Granted → answer e (Session p s (Conflicting root)) ≡ Roles (conflicts_of e (session_at p s) root)

-- ---- new versions

-- "A new version means: the system version rises by one and the named users get it." The others keep theirs.
pub record Renewed (old new : Engine) (named : ℕ → Type 0) : Type 0 where
  pub rises : new.directory.version ≡ old.directory.version + 1
  pub given : (u : ℕ) → u < user_count → named u → user_version new u ≡ old.directory.version + 1
  pub kept : (u : ℕ) → u < user_count → (named u → ⊥) → user_version new u ≡ user_version old u

-- no new version
pub record Unrenewed (old new : Engine) : Type 0 where
  pub stays : new.directory.version ≡ old.directory.version
  pub kept : new.directory.versions ≡ old.directory.versions

-- "a new version for all users who hold the role; if nobody does, none"
pub record RenewedHolders (old new : Engine) (r : ℕ) : Type 0 where
  pub held : One user_count (λ w. holds old.directory.tables w r ≡ true) → Renewed old new (λ u. holds old.directory.tables u r ≡ true)
  pub unheld : ((w : ℕ) → w < user_count → holds old.directory.tables w r ≡ false) → Unrenewed old new

-- ---- what an accepted call leaves: `old` before it, `new` after it

-- "the pair is entered, or struck out for withdrawing and revoking" (crate tables says it pair by pair), and who gets a new version
abbrev pub Changes : Engine → Engine → Change → Type 0
-- "Assigning a role: a new version for that user."
Changes old new (Assign u r) = (new.directory.tables ≡ assigned old.directory.tables u r) × Renewed old new (λ w. w ≡ u)
-- "Withdrawing a role: no new version."
Changes old new (Withdraw u r) = (new.directory.tables ≡ withdrawn old.directory.tables u r) × Unrenewed old new
-- "Permitting or revoking a database for a role: a new version for all users who hold the role; if nobody does, none."
Changes old new (Permit r d) = (new.directory.tables ≡ permitted old.directory.tables r d) × RenewedHolders old new r
Changes old new (Revoke r d) = (new.directory.tables ≡ revoked old.directory.tables r d) × RenewedHolders old new r
-- "Forwarding, .. : none."
Changes old new (Forward d x) = (new.directory.tables ≡ forwarded old.directory.tables d x) × Unrenewed old new
-- "A mandate gives no new version" (K3)
Changes old new (Mandate r d) = (new.directory.tables ≡ mandated old.directory.tables r d) × Unrenewed old new

-- flow f of session s is kept as it was: root, reach and constraint
pub record SameFlow (old new : Engine) (s f : ℕ) : Type 0 where
  pub root : root_of new s f ≡ root_of old s f
  pub reach : reach_of new s f ≡ reach_of old s f
  pub version : version_of new s f ≡ version_of old s f
  pub deny : deny_of new s f ≡ deny_of old s f
  pub roles : (g : ℕ) → g < flow_count → roles_of new s f g ≡ roles_of old s f g

pub record Opened (old new : Engine) (s : ℕ) : Type 0 where
  -- "An accepted opening: the session is there, without flows." The others are as before.
  pub opened : (t : ℕ) → t < all_sessions → (has new.sessions.opened t ≡ true) ↔ ((has old.sessions.opened t ≡ true) ⊎ (t ≡ s))
  pub flowless : flows_of new s ≡ 0
  pub counts : (t : ℕ) → flows_of new t ≡ flows_of old t
  pub flows : (t f : ℕ) → SameFlow old new t f
  -- "opening, adding ..: none": no new version, and the tables stay
  pub directory : new.directory ≡ old.directory

-- session s, which had n flows, gets flow n
pub record Added (old new : Engine) (s root chosen : ℕ) : Type 0 where
  -- "numbered 0–7 in order of addition"
  pub counted : flows_of new s ≡ flows_of old s + 1
  pub elsewhere : (t : ℕ) → t ≢ s → flows_of new t ≡ flows_of old t
  -- "Adding a flow brings a root"
  pub root_is : root_of new s (flows_of old s) ≡ root
  -- "The reach of a flow is its root and every database that forwarding leads to from it"
  pub reach_is : reach_of new s (flows_of old s) ≡ reach database_count old.directory.tables.forwards root
  -- "its version (the system version then)"
  pub version_is : version_of new s (flows_of old s) ≡ old.directory.version
  -- "The flow's deny set is the previous flow's deny set (empty for flow 0) joined with the chosen set."
  pub deny_is : (r : ℕ) → (has (deny_of new s (flows_of old s)) r ≡ true)
      ↔ ((r < role_count) × (((f : ℕ) × (flows_of old s ≡ suc f) × (has (deny_of old s f) r ≡ true)) ⊎ (has chosen r ≡ true)))
  -- "one role set for each flow up to itself"; "Role sets of older flows are worked out afresh for the new flow's constraint"
  pub roles_are : (g : ℕ) → g ≤ flows_of old s
      → roles_of new s (flows_of old s) g ≡ role_set role_count user_count database_count old.directory.tables (deny_of new s (flows_of old s)) (reach_of new s g)
  pub roles_past : (g : ℕ) → flows_of old s < g → g < flow_count → roles_of new s (flows_of old s) g ≡ 0
  -- "older constraints stay"
  pub older : (t f : ℕ) → f < flow_count → (t ≡ s → f ≡ flows_of old s → ⊥) → SameFlow old new t f
  -- "opening, adding ..: none": no new version, and the tables and the open sessions stay
  pub directory : new.directory ≡ old.directory
  pub opened : new.sessions.opened ≡ old.sessions.opened

-- call by call; "A refused call, a query or a read: it stays as it is"; what is no frame is never accepted
abbrev pub Means : Engine → Engine → Call → Type 0
Means old new (Table c) = Changes old new c × (new.sessions ≡ old.sessions)
Means old new (Session p s Open) = Opened old new (session_at p s)
Means old new (Session p s (Conflicting root)) = new ≡ old
Means old new (Session p s (Add root chosen)) = Added old new (session_at p s) root chosen
Means old new (Session p s (Show f)) = new ≡ old
Means old new (Read p u s f d) = new ≡ old
Means old new Unreadable = ⊥

-- For any engine by value, reached by calls or not: what an accepted change or opening leaves, and that a question or a read leaves all.
-- The versions of a value are an array of 256; a session that is opened has no flows yet.
pub record ValueMeans (e : Engine) : Type 0 where
  pub change : (c : Change) → length e.directory.versions ≡ user_count → verdict e (Table c) ≡ Granted → Means e (after e (Table c)) (Table c)
  pub opening : (p : Product) (s : ℕ) → flows_of e (session_at p s) ≡ 0 → verdict e (Session p s Open) ≡ Granted → Means e (after e (Session p s Open)) (Session p s Open)
  pub query : (p : Product) (s root : ℕ) → after e (Session p s (Conflicting root)) ≡ e
  pub shown : (p : Product) (s f : ℕ) → after e (Session p s (Show f)) ≡ e
  pub read : (p : Product) (u s f d : ℕ) → after e (Read p u s f d) ≡ e

-- ---- the verdict on a read

-- "After the checks in the table": the read of flow f of product p's session s at database d by user u meets no row before 13
pub record Checked (e : Engine) (p : Product) (u s f d : ℕ) : Type 0 where
  -- 2: "above its limit"
  pub user : u < user_count
  pub database : d < database_count
  pub session : s < session_count
  pub flow : f < flow_count
  -- 6: "the session isn't open"; 10: "the session has no flow of that number"
  pub opened : has e.sessions.opened (session_at p s) ≡ true
  pub counted : f < flows_of e (session_at p s)
  -- 11: "the database isn't in the flow's reach"; 12: "no role of the user may read that database"
  pub reached : has (reach_of e (session_at p s) f) d ≡ true
  pub permitted : One role_count (λ r. (holds e.directory.tables u r ≡ true) × (may_read e.directory.tables r d ≡ true))

-- K3: "A read is under a mandate if the user holds a role with a mandate at the database read"
abbrev pub UnderMandate : Engine → ℕ → ℕ → Type 0
UnderMandate e u d = One role_count (λ r. (holds e.directory.tables u r ≡ true) × (has_mandate e.directory.tables r d ≡ true))

-- "A read is answered as granted, or as refused with its number." One under a mandate passes checks 13 and 14.
pub record ReadMeans (e : Engine) (p : Product) (u s f d : ℕ) : Type 0 where
  -- "refused as changed if u's version is greater than f's"
  pub changed : (verdict e (Read p u s f d) ≡ Refused Changed) ↔ (Checked e p u s f d × (UnderMandate e u d → ⊥) × (version_of e (session_at p s) f < user_version e u))
  -- "refused as linkable if u holds a role of f's deny set and u's roles meet at least two of f's role sets"
  pub linkable : (verdict e (Read p u s f d) ≡ Refused Linkable)
      ↔ (Checked e p u s f d × (UnderMandate e u d → ⊥) × (user_version e u ≤ version_of e (session_at p s) f) × Links role_count flow_count (held_of e u) (deny_of e (session_at p s) f) (roles_of e (session_at p s) f))
  -- "else granted"
  pub granted : (verdict e (Read p u s f d) ≡ Granted)
      ↔ (Checked e p u s f d × (UnderMandate e u d ⊎ ((user_version e u ≤ version_of e (session_at p s) f) × (Links role_count flow_count (held_of e u) (deny_of e (session_at p s) f) (roles_of e (session_at p s) f) → ⊥))))

-- ---- 0a

pub record ShowMeans (e : Engine) (p : Product) (s f : ℕ) : Type 0 where
  -- "nothing but the number is returned": the constraint beside a refusal is all zero
  pub refused : (why : Refusal) → verdict e (Session p s (Show f)) ≡ Refused why
      → shown_by e p s f ≡ record { answer = Answer-as-Refused why; constraint = record { version = 0; deny = 0; roles = replicate flow_count 0 } }
  -- "for 0a version, deny set, then the role sets from flow 0 on": those of that flow
  pub granted : verdict e (Session p s (Show f)) ≡ Granted
      → ((shown_by e p s f).answer ≡ Answer-as-Constraint (session_at p s) f) × ((shown_by e p s f).constraint.version ≡ version_of e (session_at p s) f)
      × ((shown_by e p s f).constraint.deny ≡ deny_of e (session_at p s) f)
      × ((g : ℕ) → g < flow_count → get_or (shown_by e p s f).constraint.roles g 0 ≡ roles_of e (session_at p s) f g)

-- ---- "A fresh engine has 256 user versions of zero, system version 0, empty tables and no open session."

pub record FreshMeans (e : Engine) : Type 0 where
  pub users : length e.directory.versions ≡ user_count
  pub zeros : (u : ℕ) → user_version e u ≡ 0
  pub system : e.directory.version ≡ 0
  pub tables : (a b : ℕ)
      → (holds e.directory.tables a b ≡ false) × (may_read e.directory.tables a b ≡ false) × (forwards_to e.directory.tables a b ≡ false) × (has_mandate e.directory.tables a b ≡ false)
  pub sessions : (s : ℕ) → (has e.sessions.opened s ≡ false) × (flows_of e s ≡ 0)
