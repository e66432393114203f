-- The client's demands 1 and 3. An engine is told of by its answers and the engine after each call, which the contracts promise of the code,
-- and by what a ledger sees of it: nobody has to read how Calls works them out.
-- Assumes nothing.
use Rattle.std.specs.Prelude.{ℕ, zero, suc, ◌<◌, ◌≡◌, Bool, true, false, cond, ◌&&◌, List, [], ◌∷◌, ◌++◌, ◌≢◌, ◌↔◌, ltb, eqb, length, get_or, take}
use Rattle.sets.specs.Sets.{has, count}
use Rattle.tables.specs.Tables.{role_count, database_count, holds, may_read, forwards_to, has_mandate}
use Rattle.model.specs.declared.Engine.{Engine}
use Rattle.model.specs.declared.calls.Refusal.{Refusal}
use Rattle.model.specs.declared.calls.Refusal.TheVariants.{Linkable}
use Rattle.model.specs.declared.calls.Answer.{Answer}
use Rattle.model.specs.declared.calls.Answer.TheVariants.{Version, Roles, Flow, Granted as Answer-as-Granted, Constraint as Answer-as-Constraint, Refused as Answer-as-Refused}
use Rattle.model.specs.declared.calls.Change.{Change}
use Rattle.model.specs.declared.calls.Change.TheVariants.{Assign, Withdraw, Permit, Revoke, Forward, Mandate}
use Rattle.model.specs.declared.calls.Product.{Product}
use Rattle.model.specs.declared.calls.Ask.TheVariants.{Open, Conflicting, Add, Show}
use Rattle.model.specs.declared.calls.Call.{Call}
use Rattle.model.specs.declared.calls.Call.TheVariants.{Table, Session, Read, Unreadable}
use Rattle.model.specs.declared.calls.Verdict.{Verdict}
use Rattle.model.specs.declared.calls.Verdict.TheVariants.{Granted, Refused}
use Rattle.model.specs.Limits.{last_version}
use Rattle.model.specs.State.{fresh, session_at, place}
use Rattle.model.specs.Calls.{returned, links, answer, verdict, after, flows_in}
use Rattle.model.specs.Ledger.{Ledger, start, flow_of, reach_of, is_conflicting, holds_denied, linked, under_mandate}
use Rattle.model.specs.Ledger.{Flow as Flow·}
use Rattle.model.specs.Refusals.{rows, first_met, refusal, earlier_refusal, new_flow, ledger_after}

-- ---- an engine as a ledger sees it: its sessions are those of both products, session s of product p with the number `session_at p s`

-- the list of p 0, p 1, .. up to p (n - 1)
unfoldable pub list_of : {A : Type 0} → ℕ → (ℕ → A) → List A
list_of zero p = []
list_of (suc n) p = list_of n p ++ (p n ∷ [])

unfoldable pub flow_seen : Engine → ℕ → ℕ → Flow·
flow_seen e s f = record {
  root = get_or e.sessions.roots (place s f) 0;
  reach = λ d. ltb d database_count && has (get_or e.sessions.reaches (place s f) 0) d;
  version = get_or e.sessions.versions (place s f) 0;
  deny = λ r. ltb r role_count && has (get_or e.sessions.denies (place s f) 0) r;
}

unfoldable pub seen : Engine → Ledger
seen e = record {
  holds = λ u r. ltb r role_count && holds e.directory.tables u r;
  may_read = λ r d. ltb r role_count && may_read e.directory.tables r d;
  forwards = λ d x. ltb x database_count && forwards_to e.directory.tables d x;
  mandated = λ r d. ltb r role_count && has_mandate e.directory.tables r d;
  system = e.directory.version;
  version = λ u. get_or e.directory.versions u 0;
  opened = λ p s. has e.sessions.opened (session_at p s);
  flows = λ p s. list_of (flows_in e.sessions (session_at p s)) (flow_seen e (session_at p s));
}

-- row 14 as an engine goes by it: its stored constraint
unfoldable pub stored_linkable : Engine → Product → ℕ → ℕ → ℕ → Bool
stored_linkable e p u s f = links e.sessions (session_at p s) f (get_or e.directory.tables.roles u 0)

-- ---- demand 1, for every engine and every call

-- "and if accepted: ..": the answer by the ledger before the call and after it
abbrev pub Told : Ledger → Ledger → Call → Answer → Type 0
-- "for 01–06 the system version"; a mandate is "answered like kinds 01 to 06" (K3)
Told l m (Table c) a = a ≡ Version m.system
Told l m (Session p s Open) a = a ≡ Version m.system
-- "for 07 the role set": the conflicting roles with a flow of this root counted in
Told l m (Session p s (Conflicting root)) a = (x : ℕ) × (a ≡ Roles x) × ((r : ℕ) → r < role_count → has x r ≡ is_conflicting l p s (new_flow l p s root 0) r)
-- "for 08 flow number, count of databases in the reach, version"
Told l m (Session p s (Add root chosen)) a = a ≡ Flow (length (l.flows p s)) (count database_count (reach_of l root)) l.system
-- for 0a the constraint of that flow
Told l m (Session p s (Show f)) a = a ≡ Answer-as-Constraint (session_at p s) f
-- "for 09 nothing"
Told l m (Read p u s f d) a = a ≡ Answer-as-Granted
Told l m Unreadable a = ⊥

pub record Demand1 (e : Engine) (c : Call) : Type 0 where
  -- what is returned is the number of the first row met, in the document's order, and 0 where none is
  pub number : returned (verdict e c) ≡ first_met (rows last_version (seen e) (stored_linkable e) c)
  -- a refused call is answered by its refusal and leaves the engine as it was
  pub refused : (why : Refusal) → verdict e c ≡ Refused why → (answer e c ≡ Answer-as-Refused why) × (after e c ≡ e)
  -- every other call ends with the answer that the document gives it
  pub told : verdict e c ≡ Granted → Told (seen e) (seen (after e c)) c (answer e c)

-- ---- demand 3

unfoldable pub engine_after : Engine → List Call → Engine
engine_after e [] = e
engine_after e (c ∷ cs) = engine_after (after e c) cs

-- call i of a list, and the engine and the ledger just before it, both fresh at the start
unfoldable pub call_at : List Call → ℕ → Call
call_at cs i = get_or cs i Unreadable

unfoldable pub engine_at : List Call → ℕ → Engine
engine_at cs i = engine_after fresh (take i cs)

unfoldable pub ledger_at : List Call → ℕ → Ledger
ledger_at cs i = ledger_after start (take i cs)

unfoldable pub is_read : Call → Bool
is_read (Table c) = false
is_read (Session p s a) = false
is_read (Read p u s f d) = true
is_read Unreadable = false

-- the change withdraws a role from user u, or a permission from a role that u then holds
unfoldable pub takes_from : Ledger → ℕ → Change → Bool
takes_from l u (Assign w r) = false
takes_from l u (Withdraw w r) = eqb w u
takes_from l u (Permit r d) = false
takes_from l u (Revoke r d) = l.holds u r
takes_from l u (Forward d e) = false
takes_from l u (Mandate r d) = false

-- What the demand speaks of. Of call i: the call, the engine and the ledger just before it, the engine's verdict, and the number of the first row that it meets by the ledger.
pub record Run : Type 0 where
  pub calls : ℕ
  pub call : ℕ → Call
  pub engine : ℕ → Engine
  pub ledger : ℕ → Ledger
  pub verdict : ℕ → Verdict
  pub refusal : ℕ → ℕ

-- a list of calls on an engine that is fresh at the start
abbrev pub run_of : List Call → Run
run_of cs = record {
  calls = length cs;
  call = call_at cs;
  engine = engine_at cs;
  ledger = ledger_at cs;
  verdict = λ i. verdict (engine_at cs i) (call_at cs i);
  refusal = λ i. refusal (ledger_at cs i) (call_at cs i);
}

-- the ledger accepts call i
abbrev pub Accepted : Run → ℕ → Type 0
Accepted run i = run.refusal i ≡ 0

-- ---- its second half

-- call i is a read
pub record OneRead (run : Run) : Type 0 where
  pub i : ℕ
  pub within : i < run.calls
  pub product : Product
  pub user : ℕ
  pub session : ℕ
  pub flow : ℕ
  pub database : ℕ
  pub asked : run.call i ≡ Read product user session flow database

-- "a read that meets no earlier row is refused as linkable exactly when its user, by the tables of that moment, holds a role of the flow's deny set
-- and may read at least two flows of the session, counted up to and including that one; otherwise it is granted", where this is so of it
abbrev pub SecondHalf : (run : Run) → (OneRead run → Type 0) → Type 0
SecondHalf run Premise = (one : OneRead run) → Premise one → earlier_refusal (run.ledger one.i) (run.call one.i) ≡ 0
    → run.verdict one.i ≡ cond (linked (run.ledger one.i) one.product one.user one.session one.flow) (Refused Linkable) Granted

-- a read outside a mandate (docs/MODEL.md, "Reading by duty")
abbrev pub OutsideMandate : {run : Run} → OneRead run → Type 0
OutsideMandate {run} one = under_mandate (run.ledger one.i) one.user one.database ≡ false

-- ---- its first half

-- "granted reads of two flows of one session" by one user, "in either order", of one product (docs/MODEL.md, "Two products on one directory"): call i of flow f at database d, and later call j of flow g at database e
pub record TwoReads (run : Run) : Type 0 where
  pub i : ℕ
  pub j : ℕ
  pub earlier : i < j
  pub within : j < run.calls
  pub product : Product
  pub user : ℕ
  pub session : ℕ
  pub f : ℕ
  pub g : ℕ
  pub apart : f ≢ g
  pub d : ℕ
  pub e : ℕ
  pub asked : run.call i ≡ Read product user session f d
  pub asked_later : run.call j ≡ Read product user session g e
  pub granted : run.verdict i ≡ Granted
  pub granted_later : run.verdict j ≡ Granted

-- there are no such reads of which this is so
abbrev pub FirstHalf : (run : Run) → (TwoReads run → Type 0) → Type 0
FirstHalf run Premises = (two : TwoReads run) → Premises two → ⊥

-- "at the read of the flow added later the user holds a role of its deny set"
pub record HoldsDenied {run : Run} (two : TwoReads run) : Type 0 where
  pub later : two.f < two.g → holds_denied (run.ledger two.j) two.user (flow_of (run.ledger two.j) two.product two.session two.g) ≡ true
  pub earlier : two.g < two.f → holds_denied (run.ledger two.i) two.user (flow_of (run.ledger two.i) two.product two.session two.f) ≡ true

-- "between the two reads no role was withdrawn from the user and no permission from a role the user then held"; "Only accepted withdrawals and revocations count"
abbrev pub NothingTaken : {run : Run} → TwoReads run → Type 0
NothingTaken {run} two = (k : ℕ) (c : Change) → two.i < k → k < two.j → run.call k ≡ Table c → Accepted run k → takes_from (run.ledger k) two.user c ≡ false

-- neither read was made under a mandate (docs/MODEL.md, "Reading by duty")
pub record OutsideMandates {run : Run} (two : TwoReads run) : Type 0 where
  pub first : under_mandate (run.ledger two.i) two.user two.d ≡ false
  pub second : under_mandate (run.ledger two.j) two.user two.e ≡ false

-- ---- one claim about a whole run

pub record Demand3 (run : Run) : Type 0 where
  -- the engine holds what the ledger holds
  pub same : (i : ℕ) → seen (run.engine i) ≡ run.ledger i
  -- the number that each call returns, reads included, is that of the ledger's first row
  pub numbered : (i : ℕ) → returned (run.verdict i) ≡ run.refusal i
  -- "the engine accepts a call other than a read exactly when the ledger does"
  pub accepting : (i : ℕ) → i < run.calls → is_read (run.call i) ≡ false → (run.verdict i ≡ Granted) ↔ Accepted run i
  pub second : SecondHalf run OutsideMandate
  pub first : FirstHalf run (λ two. HoldsDenied two × NothingTaken two × OutsideMandates two)
