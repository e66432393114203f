-- Demand 1 for every engine and every call; and what a ledger sees of an engine after a call is the ledger that has taken the call.
-- Assumes nothing.
use Prim.Native.Nat.{ℕ, ◌+◌, ◌≤◌, ◌<◌}
use mathlib.Core.Path.{◌≡◌, refl, sym, ap, ◌∙◌}
use mathlib.Core.Bool.{Bool, true, false, cond, true≢false}
use mathlib.Core.List.{List}
use native.Mathlib.Omega.{arith}
use lib.Dec.{ltb, eqb}
use lib.ListN.{length, get_or, set, length-set, length-replicate}
use lib.Seq.{get_or-set_same, get_or-set_other}
use borrow.Author.Tests.{eqb-true, eqb-false}
use Rattle.sets.specs.Sets.{has, size_of}
use Rattle.sets.proofs.Laws.{or_neither, has_inserted, has_empty, count_cong}
use Rattle.rows.specs.Rows.{there}
use Rattle.tables.specs.declared.Tables.{Tables}
use Rattle.tables.specs.Tables.{user_count, role_count, database_count, holds, held_by}
use Rattle.tables.specs.Tables.{fresh as empty_tables}
use Rattle.model.specs.declared.Directory.{Directory}
use Rattle.model.specs.declared.Engine.{Engine}
use Rattle.model.specs.declared.calls.Refusal.{Refusal}
use Rattle.model.specs.declared.calls.Refusal.TheVariants.{Malformed, AboveLimit, AlreadyThere, NotThere, FlowAdded, NotOpen, SessionFull, NotConflicting, VersionsSpent, NoSuchFlow, OutOfReach, NoPermission, Changed, Linkable, Mandated}
use Rattle.model.specs.declared.calls.Change.{Change}
use Rattle.model.specs.declared.calls.Change.TheVariants.{Assign, Withdraw, Permit, Revoke, Forward, Mandate}
use Rattle.model.specs.declared.calls.Product.{Product}
use Rattle.model.specs.declared.calls.Ask.{Ask}
use Rattle.model.specs.declared.calls.Ask.TheVariants.{Open, Conflicting, Add, Show}
use Rattle.model.specs.declared.calls.Call.{Call}
use Rattle.model.specs.declared.calls.Call.TheVariants.{Table, Session, Read, Unreadable}
use Rattle.model.specs.declared.calls.Verdict.{Verdict}
use Rattle.model.specs.declared.calls.Verdict.TheVariants.{Granted, Refused}
use Rattle.model.specs.Limits.{flow_count}
use Rattle.model.specs.State.{all_sessions, place_count, role_set_count}
use Rattle.model.specs.State.{fresh, session_at, engine_of, new_version}
use Rattle.model.specs.Calls.{number_of, returned, verdict_of, with_tables, to_holders, flows_in, with_flow, step, answer, verdict, after}
use Rattle.model.specs.Ledger.{start}
use Rattle.model.specs.Refusals.{accepts, new_flow, asked, taken, ledger_step}
use Rattle.model.specs.Demands.{Told, Demand1, list_of, flow_seen, seen, is_read}
use Rattle.model.proofs.Laws.{get_d_same, list_of_zero, length_filled, length_given, session_within}
use Rattle.model.proofs.Invariants.{Sized}
use Rattle.model.proofs.Chains.{refused_answer}
use Rattle.model.proofs.Granted.{changed_tables, given_by, changed_directory, session_opened, changed_sessions, ask_answer, changed, accepted}
use Rattle.model.proofs.SeenRows.{reach_seen, length_flows, conflicts_seen, number, refused_after, granted_after, granted_answer, after_cases, accepts_seen, within_change, within_open, within_add}
use Rattle.model.proofs.SeenChanges.{same_ledger, nothing, same_lengths, same_change, same_open, same_add}

-- ---- demand 1

-- the accepted answer is the one that the ledger has
told : (e : Engine) (c : Call) → verdict e c ≡ Granted → Told (seen e) (seen (changed e c)) c (accepted e c)
unfolding verdict answer step verdict_of accepted changed changed_sessions ask_answer seen size_of new_flow
told e (Table c) h = refl
told e (Session p s Open) h = refl
told e (Session p s (Conflicting root)) h = (_, refl, λ r l. conflicts_seen e p s root (new_flow (seen e) p s root 0) (λ d k. reach_seen e root d k) r l)
told e (Session p s (Add root chosen)) h = rw (length_flows e p s, count_cong database_count _ _ (reach_seen e root))
told e (Session p s (Show f)) h = refl
told e (Read p u s f d) h = refl
told e Unreadable h = absurd (let z : ◌≡◌ {A = ℕ} 0 1 = cc in omega arith)

pub demand1 : (e : Engine) (c : Call) → Demand1 e c
unfolding verdict
demand1 e c = record {
  number = number e c;
  refused = λ why h. (refused_answer (answer e c) why h, refused_after e c why h);
  told = λ h. rw (granted_after e c h, granted_answer e c h) (told e c h);
}

-- ---- the arrays keep their lengths

pub sized_fresh : Sized fresh
unfolding fresh empty_tables
sized_fresh = record {
  roles = length-replicate {A = ℕ} user_count 0;
  readers = length-replicate {A = ℕ} database_count 0;
  forwards = length-replicate {A = ℕ} database_count 0;
  mandates = length-replicate {A = ℕ} database_count 0;
  users = length-replicate {A = ℕ} user_count 0;
  counts = length-replicate {A = ℕ} all_sessions 0;
  roots = length-replicate {A = ℕ} place_count 0;
  reaches = length-replicate {A = ℕ} place_count 0;
  versions = length-replicate {A = ℕ} place_count 0;
  denies = length-replicate {A = ℕ} place_count 0;
  rolesets = length-replicate {A = ℕ} role_set_count 0;
  few = λ s. rw (get_d_same {A = ℕ} all_sessions s 0) (omega arith);
  shut = λ s l o. get_d_same {A = ℕ} all_sessions s 0;
}

-- new versions leave the tables, and as many versions as there were
renewed_lengths : (D : Directory) (named : ℕ → Bool) → ((new_version D named).tables ≡ D.tables) × (length (new_version D named).versions ≡ length D.versions)
unfolding new_version
renewed_lengths D named = (refl, length_given named (D.version + 1) user_count D.versions)

holders_lengths : (D : Directory) (r : ℕ) → ((to_holders D r).tables ≡ D.tables) × (length (to_holders D r).versions ≡ length D.versions)
unfolding to_holders
holders_lengths D r = go (held_by user_count D.tables.roles r)
  where
    go : (b : Bool) → let E : Directory = cond b (new_version D (λ u. holds D.tables u r)) D in (E.tables ≡ D.tables) × (length E.versions ≡ length D.versions)
    go true = renewed_lengths D (λ u. holds D.tables u r)
    go false = (refl, refl)

pub given_lengths : (D : Directory) (c : Change) → ((given_by D c).tables ≡ D.tables) × (length (given_by D c).versions ≡ length D.versions)
unfolding given_by
given_lengths D (Assign u r) = renewed_lengths D (λ w. eqb w u)
given_lengths D (Withdraw u r) = (refl, refl)
given_lengths D (Permit r d) = holders_lengths D r
given_lengths D (Revoke r d) = holders_lengths D r
given_lengths D (Forward d x) = (refl, refl)
given_lengths D (Mandate r d) = (refl, refl)

sized_change : (e : Engine) (c : Change) → Sized e → Sized (engine_of (changed_directory e.directory c) e.sessions)
unfolding changed_directory
sized_change e c z =
    let D : Directory = with_tables e.directory (changed_tables e.directory.tables c) in
    let t = same_lengths e.directory.tables c in
    let g = given_lengths D c in
    record {
      roles = ap (λ (T : Tables). length T.roles) g.0 ∙ t.0 ∙ z.roles;
      readers = ap (λ (T : Tables). length T.readers) g.0 ∙ t.1 ∙ z.readers;
      forwards = ap (λ (T : Tables). length T.forwards) g.0 ∙ t.2 ∙ z.forwards;
      mandates = ap (λ (T : Tables). length T.mandates) g.0 ∙ t.3 ∙ z.mandates;
      users = g.1 ∙ z.users;
      counts = z.counts;
      roots = z.roots;
      reaches = z.reaches;
      versions = z.versions;
      denies = z.denies;
      rolesets = z.rolesets;
      few = z.few;
      shut = z.shut;
    }

-- one flow more where there is room
few_put : (counts : List ℕ) (s n : ℕ) → ((t : ℕ) → get_or counts t 0 ≤ flow_count) → s < length counts → n < flow_count → (t : ℕ) → get_or (set counts s (n + 1)) t 0 ≤ flow_count
few_put counts s n few l m t = go (eqb t s) refl
  where
    go : (b : Bool) → eqb t s ≡ b → get_or (set counts s (n + 1)) t 0 ≤ flow_count
    go true h = rw (eqb-true t s h, get_or-set_same counts s (n + 1) 0 l) (omega arith)
    go false h = rw (get_or-set_other counts s t (n + 1) 0 (eqb-false t s h)) (few t)

sized_ask : (e : Engine) (p : Product) (s : ℕ) (a : Ask) → Sized e → verdict e (Session p s a) ≡ Granted → Sized (engine_of e.directory (changed_sessions e.directory e.sessions (session_at p s) a))
unfolding changed_sessions session_opened with_flow
sized_ask e p s Open z h = record {
  roles = z.roles;
  readers = z.readers;
  forwards = z.forwards;
  mandates = z.mandates;
  users = z.users;
  counts = z.counts;
  roots = z.roots;
  reaches = z.reaches;
  versions = z.versions;
  denies = z.denies;
  rolesets = z.rolesets;
  few = z.few;
  shut = λ t l o. z.shut t l (or_neither (has e.sessions.opened t) (eqb t (session_at p s)) (sym (has_inserted 64 e.sessions.opened (session_at p s) t (omega arith)) ∙ o)).0;
}
sized_ask e p s (Conflicting root) z h = z
sized_ask e p s (Add root chosen) z h =
    let w = within_add e p s root chosen h in
    let l : session_at p s < length e.sessions.counts = omega (arith, z.counts, session_within p s w.0) in
    record {
      roles = z.roles;
      readers = z.readers;
      forwards = z.forwards;
      mandates = z.mandates;
      users = z.users;
      counts = length-set e.sessions.counts (session_at p s) _ ∙ z.counts;
      roots = length-set e.sessions.roots _ _ ∙ z.roots;
      reaches = length-set e.sessions.reaches _ _ ∙ z.reaches;
      versions = length-set e.sessions.versions _ _ ∙ z.versions;
      denies = length-set e.sessions.denies _ _ ∙ z.denies;
      rolesets = length_filled _ _ flow_count e.sessions.rolesets ∙ z.rolesets;
      few = few_put e.sessions.counts (session_at p s) (flows_in e.sessions (session_at p s)) z.few l w.4;
      shut = λ t k o. get_or-set_other e.sessions.counts (session_at p s) t _ 0 (λ q. true≢false (sym w.3 ∙ ap (has e.sessions.opened) (sym q) ∙ o)) ∙ z.shut t k o;
    }
sized_ask e p s (Show f) z h = z

pub sized_changed : (e : Engine) (c : Call) → Sized e → verdict e c ≡ Granted → Sized (changed e c)
unfolding changed
sized_changed e (Table c) z h = sized_change e c z
sized_changed e (Session p s a) z h = sized_ask e p s a z h
sized_changed e (Read p u s f d) z h = z
sized_changed e Unreadable z h = z

-- whatever the call and the verdict
pub sized_after : (e : Engine) (c : Call) → Sized e → Sized (after e c)
sized_after e c z = after_cases Sized e c z (sized_changed e c z)

-- ---- "It starts as a fresh engine does."

pub seen_fresh : seen fresh ≡ start
unfolding seen fresh empty_tables start there
seen_fresh =
    same_ledger (seen fresh) start (λ u r. nothing (ltb r role_count) _ r (get_d_same {A = ℕ} user_count u 0)) (λ r d. nothing (ltb r role_count) _ r (get_d_same {A = ℕ} database_count d 0))
    (λ d x. nothing (ltb x database_count) _ x (get_d_same {A = ℕ} database_count d 0)) (λ r d. nothing (ltb r role_count) _ r (get_d_same {A = ℕ} database_count d 0)) refl (λ u. get_d_same {A = ℕ} user_count u 0) (λ p s. has_empty (session_at p s))
    (λ p s. ap (λ (n : ℕ). list_of n (flow_seen fresh (session_at p s))) (get_d_same {A = ℕ} all_sessions (session_at p s) 0) ∙ list_of_zero (flow_seen fresh (session_at p s)))

-- ---- the ledger takes each call as the engine does

-- what is asked of a session, where it is granted
seen_asked : (e : Engine) (p : Product) (s : ℕ) (a : Ask) → Sized e → verdict e (Session p s a) ≡ Granted → seen (engine_of e.directory (changed_sessions e.directory e.sessions (session_at p s) a)) ≡ asked (seen e) p s a
unfolding changed_sessions asked
seen_asked e p s Open z h = let w = within_open e p s h in same_open e z p s w.0 w.1
seen_asked e p s (Conflicting root) z h = refl
seen_asked e p s (Add root chosen) z h = let w = within_add e p s root chosen h in same_add e z p s root chosen w.0 w.1 w.2 w.3 w.4
seen_asked e p s (Show f) z h = refl

-- any accepted call
seen_changed : (e : Engine) (c : Call) → Sized e → verdict e c ≡ Granted → seen (changed e c) ≡ taken (seen e) c
unfolding changed taken
seen_changed e (Table c) z h = same_change e z c (within_change e c h)
seen_changed e (Session p s a) z h = seen_asked e p s a z h
seen_changed e (Read p u s f d) z h = refl
seen_changed e Unreadable z h = refl

-- a refusal's number is never 0
pub refused_number : (why : Refusal) → eqb (number_of why) 0 ≡ false
unfolding number_of
refused_number Malformed = refl
refused_number AboveLimit = refl
refused_number AlreadyThere = refl
refused_number NotThere = refl
refused_number FlowAdded = refl
refused_number NotOpen = refl
refused_number SessionFull = refl
refused_number NotConflicting = refl
refused_number VersionsSpent = refl
refused_number NoSuchFlow = refl
refused_number OutOfReach = refl
refused_number NoPermission = refl
refused_number Changed = refl
refused_number Linkable = refl
refused_number Mandated = refl

-- a call other than a read
seen_other : (e : Engine) (c : Call) → is_read c ≡ false → Sized e → seen (after e c) ≡ ledger_step (seen e) c
unfolding ledger_step returned
seen_other e c n z = go (verdict e c) refl
  where
    go : (v : Verdict) → verdict e c ≡ v → seen (after e c) ≡ cond (accepts (seen e) c) (taken (seen e) c) (seen e)
    go Granted h = rw (← accepts_seen e c n, h, granted_after e c h) (seen_changed e c z h)
    go (Refused why) h = rw (← accepts_seen e c n, h, refused_number why, refused_after e c why h)

-- what a ledger sees of the engine after a call is what it makes of the call itself; a read changes nothing on either side
pub seen_after : (e : Engine) (c : Call) → Sized e → seen (after e c) ≡ ledger_step (seen e) c
unfolding is_read after step ledger_step taken
seen_after e (Table c) z = seen_other e (Table c) refl z
seen_after e (Session p s a) z = seen_other e (Session p s a) refl z
seen_after e (Read p u s f d) z = go (accepts (seen e) (Read p u s f d))
  where
    go : (b : Bool) → seen e ≡ cond b (seen e) (seen e)
    go true = refl
    go false = refl
seen_after e Unreadable z = seen_other e Unreadable refl z
