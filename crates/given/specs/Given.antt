-- What a caller in C is given back of a call: the number refused, 0 where it is accepted; the answer's values, where it is accepted; and the engine after it.
-- Assumes nothing.
use Rattle.std.specs.Prelude.{ℕ, ◌<◌, ◌≡◌, cond, eqb, ltb, length}
use Rattle.sets.specs.Sets.{has, count}
use Rattle.tables.specs.Tables.{role_count, database_count}
use Rattle.model.specs.declared.Constraint.{Constraint}
use Rattle.model.specs.declared.Engine.{Engine}
use Rattle.model.specs.declared.calls.Refusal.{Refusal}
use Rattle.model.specs.declared.calls.Change.{Change}
use Rattle.model.specs.declared.calls.Product.{Product}
use Rattle.model.specs.declared.calls.Product.TheVariants.{Server, TermBank}
use Rattle.model.specs.declared.calls.Ask.{Ask}
use Rattle.model.specs.declared.calls.Ask.TheVariants.{Open, Conflicting, Add, Show}
use Rattle.model.specs.declared.calls.Call.{Call}
use Rattle.model.specs.declared.calls.Call.TheVariants.{Table, Session, Read}
use Rattle.model.specs.declared.calls.Verdict.{Verdict}
use Rattle.model.specs.declared.calls.Verdict.TheVariants.{Granted as Verdict-as-Granted, Refused as Verdict-as-Refused}
use Rattle.model.specs.declared.calls.Answer.{Answer}
use Rattle.model.specs.declared.calls.Answer.TheVariants.{Version, Roles, Flow, Granted, Constraint as Answer-as-Constraint, Refused}
use Rattle.model.specs.Limits.{session_count}
use Rattle.model.specs.State.{product_count, session_at}
use Rattle.model.specs.Calls.{returned, read, answer, verdict, after, constraint_at}
use Rattle.model.specs.Ledger.{reach_of, is_conflicting}
use Rattle.model.specs.Refusals.{new_flow}
use Rattle.model.specs.Demands.{seen}

-- ---- the session that a caller's numbers name

-- product 0 is the server, 1 the term bank
unfoldable pub product_of : ℕ → Product
product_of p = cond (eqb p 0) Server TermBank

-- a product past the last one is a number above its limit: its session counts as above the limit of sessions, so that row 2 is met whatever the rest
unfoldable pub session_of : ℕ → ℕ → ℕ
session_of p s = cond (ltb p product_count) s session_count

-- what these come to: 0 and 1 are the two products, with the sessions named; and any other number gets row 2, whatever is asked
pub record ProductsMean (e : Engine) : Type 0 where
  pub server : (product_of 0 ≡ Server) × ((s : ℕ) → session_of 0 s ≡ s)
  pub bank : (product_of 1 ≡ TermBank) × ((s : ℕ) → session_of 1 s ≡ s)
  pub none_asked : (p s : ℕ) (k : Ask) → 1 < p → returned (verdict e (Session (product_of p) (session_of p s) k)) ≡ 2
  pub none_read : (p u s f d : ℕ) → 1 < p → returned (verdict e (Read (product_of p) u (session_of p s) f d)) ≡ 2

-- ---- an answer's values, each put in place of an old one; where the answer has no such value the old one stays

-- the version: of the system, or of the flow that was added
unfoldable pub version_or : ℕ → Answer → ℕ
version_or old (Version v) = v
version_or old (Roles m) = old
version_or old (Flow n k v) = v
version_or old Granted = old
version_or old (Answer-as-Constraint s f) = old
version_or old (Refused why) = old

-- the conflicting roles
unfoldable pub roles_or : ℕ → Answer → ℕ
roles_or old (Version v) = old
roles_or old (Roles m) = m
roles_or old (Flow n k v) = old
roles_or old Granted = old
roles_or old (Answer-as-Constraint s f) = old
roles_or old (Refused why) = old

-- the number of the flow that was added
unfoldable pub flow_or : ℕ → Answer → ℕ
flow_or old (Version v) = old
flow_or old (Roles m) = old
flow_or old (Flow n k v) = n
flow_or old Granted = old
flow_or old (Answer-as-Constraint s f) = old
flow_or old (Refused why) = old

-- how many databases are in its reach
unfoldable pub size_or : ℕ → Answer → ℕ
size_or old (Version v) = old
size_or old (Roles m) = old
size_or old (Flow n k v) = k
size_or old Granted = old
size_or old (Answer-as-Constraint s f) = old
size_or old (Refused why) = old

-- a constraint that is shown
unfoldable pub shown_or : Constraint → Verdict → Constraint → Constraint
shown_or old Verdict-as-Granted new = new
shown_or old (Verdict-as-Refused why) new = old

-- what these come to, by what a ledger sees of the engine: where a call is refused all of the caller's values stay; an accepted one brings the values that
-- document 01 gives it
pub record ValuesMean (e : Engine) : Type 0 where
  pub kept : (c : Call) (why : Refusal) (old : ℕ) → verdict e c ≡ Verdict-as-Refused why
      → (version_or old (answer e c) ≡ old) × (roles_or old (answer e c) ≡ old) × (flow_or old (answer e c) ≡ old) × (size_or old (answer e c) ≡ old)
  -- "for 01–06 the system version", and for 10
  pub changed : (c : Change) (old : ℕ) → verdict e (Table c) ≡ Verdict-as-Granted → version_or old (answer e (Table c)) ≡ (seen (after e (Table c))).system
  pub opened : (p : Product) (s old : ℕ) → verdict e (Session p s Open) ≡ Verdict-as-Granted → version_or old (answer e (Session p s Open)) ≡ (seen (after e (Session p s Open))).system
  -- "for 07 the role set"
  pub asked : (p : Product) (s root old r : ℕ) → verdict e (Session p s (Conflicting root)) ≡ Verdict-as-Granted → r < role_count
      → has (roles_or old (answer e (Session p s (Conflicting root)))) r ≡ is_conflicting (seen e) p s (new_flow (seen e) p s root 0) r
  -- "for 08 flow number, count of databases in the reach, version"
  pub added : (p : Product) (s root chosen old : ℕ) → verdict e (Session p s (Add root chosen)) ≡ Verdict-as-Granted
      → (flow_or old (answer e (Session p s (Add root chosen))) ≡ length ((seen e).flows p s))
      × (size_or old (answer e (Session p s (Add root chosen))) ≡ count database_count (reach_of (seen e) root))
      × (version_or old (answer e (Session p s (Add root chosen))) ≡ (seen e).system)

-- ---- call by call, on an engine e

-- a change of the tables or an opening
pub record Tells (e : Engine) (c : Call) (e' : Engine) (n told told' : ℕ) : Type 0 where
  pub number : n ≡ returned (verdict e c)
  pub version : told' ≡ version_or told (answer e c)
  pub engine : e' ≡ after e c

-- a question for the conflicting roles
pub record Finds (e : Engine) (c : Call) (n found found' : ℕ) : Type 0 where
  pub number : n ≡ returned (verdict e c)
  pub roles : found' ≡ roles_or found (answer e c)
  pub engine : e ≡ after e c

-- an addition
pub record Adds (e : Engine) (c : Call) (e' : Engine) (n flow size told flow' size' told' : ℕ) : Type 0 where
  pub number : n ≡ returned (verdict e c)
  pub added : flow' ≡ flow_or flow (answer e c)
  pub reached : size' ≡ size_or size (answer e c)
  pub version : told' ≡ version_or told (answer e c)
  pub engine : e' ≡ after e c

-- a question for a constraint
pub record Shows (e : Engine) (p : Product) (s f n : ℕ) (old new : Constraint) : Type 0 where
  pub number : n ≡ returned (verdict e (Session p s (Show f)))
  pub constraint : new ≡ shown_or old (verdict e (Session p s (Show f))) (constraint_at e.sessions (session_at p s) f)
  pub engine : e ≡ after e (Session p s (Show f))

-- a read of the session that has number s among those of both products: by the session's number, and by the session and its product
pub record Judges (e : Engine) (u s f d n : ℕ) : Type 0 where
  pub number : n ≡ returned (read e.directory e.sessions u s f d)
  pub named : (p : Product) (session : ℕ) → s ≡ session_at p session → n ≡ returned (verdict e (Read p u session f d))
