-- What an accepted call changes, as a ledger sees it of an engine and as a ledger enters it.
-- Assumes nothing.
use Prim.Native.Nat.{ℕ, zero, suc, ◌+◌, ◌-◌, ◌^◌, ◌≤◌, ◌<◌}
use mathlib.Core.Path.{◌≡◌, refl, sym, ap, ap₂, ◌∙◌, fun_ext}
use mathlib.Core.Bool.{Bool, true, false, cond, not, ◌&&◌, ◌||◌, true≢false}
use mathlib.Core.List.{List, [], ◌∷◌, ◌++◌}
use mathlib.Core.Logic.{◌⊎◌, inl, inr}
use native.Mathlib.Numerals.{add-one}
use native.Mathlib.Decide.{dec_lt}
use native.Mathlib.Omega.{arith}
use lib.Dec.{ltb, eqb}
use lib.ListN.{length, get_or, length-set, get_or-eq_default}
use lib.Seq.{get_or-set_same, get_or-set_other}
use borrow.Author.Tests.{ltb-true, ltb-false, lt-ltb, le-ltb, eqb-true, eqb-false, eq-eqb, ne_eqb}
use Rattle.sets.specs.Sets.{has, some, joined}
use Rattle.sets.proofs.Laws.{true_or_false, or_none, or_left, some_at, some_nowhere, has_inserted, has_joined, has_empty, has_high}
use Rattle.rows.specs.Rows.{there, struck}
use Rattle.rows.specs.Rows.{entered as row_entered}
use Rattle.rows.specs.Reach.{reach}
use Rattle.rows.proofs.Meaning.{there_entered, there_struck}
use Rattle.tables.specs.declared.Tables.{Tables}
use Rattle.tables.specs.Tables.{user_count, role_count, database_count, holds, may_read, forwards_to, has_mandate, held_by, assigned, withdrawn, permitted, revoked, forwarded, mandated, with_roles, with_readers, with_forwards, with_mandates}
use Rattle.model.specs.declared.Directory.{Directory}
use Rattle.model.specs.declared.Sessions.{Sessions}
use Rattle.model.specs.declared.Engine.{Engine}
use Rattle.model.specs.declared.calls.Change.{Change}
use Rattle.model.specs.declared.calls.Change.TheVariants.{Assign, Withdraw, Permit, Revoke, Forward, Mandate}
use Rattle.model.specs.declared.calls.Product.{Product}
use Rattle.model.specs.declared.calls.Ask.TheVariants.{Open, Add}
use Rattle.model.specs.Limits.{session_count, flow_count}
use Rattle.model.specs.State.{session_at, engine_of, place, deny_before, given, new_version}
use Rattle.model.specs.Calls.{to_holders, flows_in, with_flow}
use Rattle.model.specs.Calls.{with_tables as with_new_tables}
use Rattle.model.specs.Ledger.{Ledger, Flow, leads_within, reach_of}
use Rattle.model.specs.Refusals.{due, new_flow, last_deny, with_tables, renewed, plus, minus, entered, with_flows, asked}
use Rattle.model.specs.Demands.{list_of, flow_seen, seen}
use Rattle.model.proofs.Laws.{list_of_suc, list_of_zero, list_of_cong, get_d_given, get_d_given_past, session_within, session_most, session_one, places, place_lt}
use Rattle.model.proofs.Invariants.{Sized}
use Rattle.model.proofs.Granted.{changed_tables, given_by, changed_directory, session_opened, changed_sessions}
use Rattle.model.proofs.SeenRows.{and_swap, holds_seen, reach_seen, Within}

-- ---- two ledgers are equal where they say the same

pub same_ledger : (a b : Ledger) → ((u r : ℕ) → a.holds u r ≡ b.holds u r) → ((r d : ℕ) → a.may_read r d ≡ b.may_read r d) → ((d x : ℕ) → a.forwards d x ≡ b.forwards d x) → ((r d : ℕ) → a.mandated r d ≡ b.mandated r d)
    → a.system ≡ b.system → ((u : ℕ) → a.version u ≡ b.version u) → ((p : Product) (s : ℕ) → a.opened p s ≡ b.opened p s) → ((p : Product) (s : ℕ) → a.flows p s ≡ b.flows p s) → a ≡ b
same_ledger a b holds reading forwards mandates system version opened flows = λ i. record {
  holds = λ u r. holds u r i;
  may_read = λ r d. reading r d i;
  forwards = λ d x. forwards d x i;
  mandated = λ r d. mandates r d i;
  system = system i;
  version = λ u. version u i;
  opened = λ p s. opened p s i;
  flows = λ p s. flows p s i;
}

-- nothing is in an empty set, whatever bounds it
pub nothing : (b : Bool) (x : ℕ) (i : ℕ) → x ≡ 0 → (b && has x i) ≡ false
nothing true x i e = rw e (has_empty i)
nothing false x i e = refl

-- ---- new versions

-- nobody is due one
pub renewed_none : (l : Ledger) → renewed l (λ w. false) ≡ l
unfolding renewed
renewed_none l = same_ledger (renewed l (λ w. false)) l (λ u r. refl) (λ r d. refl) (λ d x. refl) (λ r d. refl) (ap (λ (b : Bool). cond b (l.system + 1) l.system) (some_nowhere user_count (λ w. false) (λ w m. refl))) (λ u. refl) (λ p s. refl) (λ p s. refl)

-- a test that holds for nobody below n, and for nobody above
due_none : (n : ℕ) (who : ℕ → Bool) → ((w : ℕ) → n ≤ w → who w ≡ false) → some n who ≡ false → (w : ℕ) → who w ≡ false
due_none n who past h w = go (dec_lt w n) (true_or_false (who w))
  where
    go : Dec (w < n) → (who w ≡ true) ⊎ (who w ≡ false) → who w ≡ false
    go (yes l) (inl t) = absurd (true≢false (sym (some_at n who w l t) ∙ h))
    go (yes l) (inr t) = t
    go (no l) t = past w (omega arith)

module _ (D : Directory) (S : Sessions) (size : length D.versions ≡ user_count) where
  -- somebody is due one
  pub renewed_some : (who : ℕ → Bool) → ((w : ℕ) → user_count ≤ w → who w ≡ false) → some user_count who ≡ true → seen (engine_of (new_version D who) S) ≡ renewed (seen (engine_of D S)) who
  unfolding seen flow_seen new_version renewed
  renewed_some who past h =
      same_ledger (seen (engine_of (new_version D who) S)) (renewed (seen (engine_of D S)) who) (λ u r. refl) (λ r d. refl) (λ d x. refl) (λ r d. refl)
      (ap (λ (b : Bool). cond b (D.version + 1) D.version) (sym h)) (λ w. go w (dec_lt w user_count)) (λ p s. refl) (λ p s. refl)
    where
      go : (w : ℕ) → Dec (w < user_count) → get_or (given who (D.version + 1) user_count D.versions) w 0 ≡ cond (who w) (D.version + 1) (get_or D.versions w 0)
      go w (yes l) = get_d_given who (D.version + 1) user_count D.versions w (omega arith) l
      go w (no l) = get_d_given_past who (D.version + 1) user_count D.versions w (omega arith) ∙ ap (λ (b : Bool). cond b (D.version + 1) (get_or D.versions w 0)) (sym (past w (omega arith)))

  -- the holders of a role get it, if anybody holds it
  pub holders_seen : (r : ℕ) → length D.tables.roles ≡ user_count → r < role_count → seen (engine_of (to_holders D r) S) ≡ renewed (seen (engine_of D S)) (λ w. (seen (engine_of D S)).holds w r)
  unfolding to_holders held_by there
  holders_seen r rows k = go (some user_count who) refl ∙ ap (renewed (seen (engine_of D S))) (fun_ext (λ w. holds_seen (engine_of D S) w r k))
    where
      who : ℕ → Bool
      who w = there D.tables.roles w r

      past : (w : ℕ) → user_count ≤ w → who w ≡ false
      past w l = ap (λ (x : ℕ). has x r) (get_or-eq_default D.tables.roles 0 (omega arith)) ∙ has_empty r

      go : (b : Bool) → some user_count who ≡ b → seen (engine_of (cond b (new_version D who) D) S) ≡ renewed (seen (engine_of D S)) who
      go true h = renewed_some who past h
      go false h = sym (renewed_none (seen (engine_of D S))) ∙ ap (renewed (seen (engine_of D S))) (fun_ext (λ w. sym (due_none user_count who past h w)))

-- those who are due a new version of a change get it
given_seen : (D : Directory) (S : Sessions) (c : Change) → length D.versions ≡ user_count → length D.tables.roles ≡ user_count → Within c → seen (engine_of (given_by D c) S) ≡ renewed (seen (engine_of D S)) (due (seen (engine_of D S)) c)
unfolding given_by due
given_seen D S (Assign u r) size rows w = renewed_some D S size (λ v. eqb v u) (λ v q. ne_eqb v u (λ e. omega arith)) (some_at user_count (λ v. eqb v u) u w.0 (eq-eqb u u refl))
given_seen D S (Withdraw u r) size rows w = sym (renewed_none (seen (engine_of D S)))
given_seen D S (Permit r d) size rows w = holders_seen D S size r rows w.0
given_seen D S (Revoke r d) size rows w = holders_seen D S size r rows w.0
given_seen D S (Forward d x) size rows w = sym (renewed_none (seen (engine_of D S)))
given_seen D S (Mandate r d) size rows w = sym (renewed_none (seen (engine_of D S)))

-- ---- tables

-- a test on numbers below n, and one that fails at and above n
bound_cases : (n i : ℕ) (a b : Bool) → (i < n → a ≡ b) → (n ≤ i → b ≡ false) → (ltb i n && a) ≡ b
bound_cases n i a b f g = go (ltb i n) refl
  where
    go : (c : Bool) → ltb i n ≡ c → (c && a) ≡ b
    go true h = f (ltb-true i n h)
    go false h = sym (g (ltb-false i n h))

-- a pair that is entered or struck out, as a test on numbers below n
module _ (n : ℕ) (rows : List ℕ) (a b c d : ℕ) (l : a < length rows) (k : b < n) where
  unequal : n ≤ d → (eqb c a && eqb d b) ≡ false
  unequal h = rw (ne_eqb d b (omega arith)) (and_swap (eqb c a) false)

  plus_seen : (ltb d n && there (row_entered n rows a b) c d) ≡ ((ltb d n && there rows c d) || (eqb c a && eqb d b))
  plus_seen = bound_cases n d _ _ (λ h. there_entered n rows a b c d l h ∙ rw (lt-ltb d n h)) (λ h. rw (le-ltb d n h) (unequal h))

  minus_seen : (ltb d n && there (struck n rows a b) c d) ≡ ((ltb d n && there rows c d) && not (eqb c a && eqb d b))
  minus_seen = bound_cases n d _ _ (λ h. there_struck n rows a b c d l h ∙ rw (lt-ltb d n h)) (λ h. rw (le-ltb d n h))

-- other tables
tables_seen : (e : Engine) (T : Tables) (h m f o : ℕ → ℕ → Bool) → ((u r : ℕ) → (ltb r role_count && holds T u r) ≡ h u r) → ((r d : ℕ) → (ltb r role_count && may_read T r d) ≡ m r d) → ((d x : ℕ) → (ltb x database_count && forwards_to T d x) ≡ f d x)
    → ((r d : ℕ) → (ltb r role_count && has_mandate T r d) ≡ o r d) → seen (engine_of (with_new_tables e.directory T) e.sessions) ≡ with_tables (seen e) h m f o
unfolding seen flow_seen
tables_seen e T h m f o p q r t = same_ledger (seen (engine_of (with_new_tables e.directory T) e.sessions)) (with_tables (seen e) h m f o) p q r t refl (λ w. refl) (λ q s. refl) (λ q s. refl)

-- the pair is entered or struck out
same_tables : (e : Engine) → Sized e → (c : Change) → Within c → seen (engine_of (with_new_tables e.directory (changed_tables e.directory.tables c)) e.sessions) ≡ entered (seen e) c
unfolding seen flow_seen changed_tables assigned withdrawn permitted revoked forwarded mandated with_roles with_readers with_forwards with_mandates entered plus minus
same_tables e z (Assign u r) w = tables_seen e _ _ _ _ _ (λ v q. plus_seen role_count e.directory.tables.roles u r v q (omega (arith, z.roles)) w.1) (λ q d. refl) (λ d x. refl) (λ q d. refl)
same_tables e z (Withdraw u r) w = tables_seen e _ _ _ _ _ (λ v q. minus_seen role_count e.directory.tables.roles u r v q (omega (arith, z.roles)) w.1) (λ q d. refl) (λ d x. refl) (λ q d. refl)
same_tables e z (Permit r d) w =
    tables_seen e _ _ _ _ _ (λ v q. refl) (λ q x. plus_seen role_count e.directory.tables.readers d r x q (omega (arith, z.readers)) w.0 ∙ ap (λ (b : Bool). (seen e).may_read q x || b) (and_swap (eqb x d) (eqb q r))) (λ d x. refl) (λ q d. refl)
same_tables e z (Revoke r d) w =
    tables_seen e _ _ _ _ _ (λ v q. refl) (λ q x. minus_seen role_count e.directory.tables.readers d r x q (omega (arith, z.readers)) w.0 ∙ ap (λ (b : Bool). (seen e).may_read q x && not b) (and_swap (eqb x d) (eqb q r))) (λ d x. refl) (λ q d. refl)
same_tables e z (Forward d x) w = tables_seen e _ _ _ _ _ (λ v q. refl) (λ q y. refl) (λ y q. plus_seen database_count e.directory.tables.forwards d x y q (omega (arith, z.forwards)) w.1) (λ q y. refl)
same_tables e z (Mandate r d) w =
    tables_seen e _ _ _ _ _ (λ v q. refl) (λ q x. refl) (λ d x. refl) (λ q x. plus_seen role_count e.directory.tables.mandates d r x q (omega (arith, z.mandates)) w.0 ∙ ap (λ (b : Bool). (seen e).mandated q x || b) (and_swap (eqb x d) (eqb q r)))

-- the pair is nothing to who is due a new version
due_entered : (l : Ledger) (c : Change) → due (entered l c) c ≡ due l c
unfolding due entered
due_entered l (Assign u r) = refl
due_entered l (Withdraw u r) = refl
due_entered l (Permit r d) = refl
due_entered l (Revoke r d) = refl
due_entered l (Forward d x) = refl
due_entered l (Mandate r d) = refl

-- the tables keep their lengths
pub same_lengths : (T : Tables) (c : Change) → (length (changed_tables T c).roles ≡ length T.roles) × (length (changed_tables T c).readers ≡ length T.readers) × (length (changed_tables T c).forwards ≡ length T.forwards) × (length (changed_tables T c).mandates ≡ length T.mandates)
unfolding changed_tables assigned withdrawn permitted revoked forwarded mandated with_roles with_readers with_forwards with_mandates row_entered struck
same_lengths T (Assign u r) = (length-set T.roles u _, refl, refl, refl)
same_lengths T (Withdraw u r) = (length-set T.roles u _, refl, refl, refl)
same_lengths T (Permit r d) = (refl, length-set T.readers d _, refl, refl)
same_lengths T (Revoke r d) = (refl, length-set T.readers d _, refl, refl)
same_lengths T (Forward d x) = (refl, refl, length-set T.forwards d _, refl)
same_lengths T (Mandate r d) = (refl, refl, refl, length-set T.mandates d _)

pub same_change : (e : Engine) → Sized e → (c : Change) → Within c → seen (engine_of (changed_directory e.directory c) e.sessions) ≡ renewed (entered (seen e) c) (due (seen e) c)
unfolding changed_directory
same_change e z c w =
    given_seen (with_new_tables e.directory (changed_tables e.directory.tables c)) e.sessions c z.users ((same_lengths e.directory.tables c).0 ∙ z.roles) w
    ∙ ap (λ (l : Ledger). renewed l (due l c)) (same_tables e z c w)
    ∙ ap (renewed (entered (seen e) c)) (due_entered (seen e) c)

-- ---- an accepted opening

module _ (e : Engine) (z : Sized e) (p : Product) (s : ℕ) (l : s < session_count) where
  -- the flows of a session that is not open: there are none
  pub no_flows : has e.sessions.opened (session_at p s) ≡ false → (seen e).flows p s ≡ []
  unfolding seen
  no_flows o = ap (λ (n : ℕ). list_of n (flow_seen e (session_at p s))) (z.shut (session_at p s) (session_within p s l) o) ∙ list_of_zero (flow_seen e (session_at p s))

  pub same_open : has e.sessions.opened (session_at p s) ≡ false → seen (engine_of e.directory (session_opened e.sessions (session_at p s))) ≡ asked (seen e) p s Open
  unfolding seen flow_seen session_opened asked with_flows
  same_open o =
      same_ledger (seen (engine_of e.directory (session_opened e.sessions (session_at p s)))) (asked (seen e) p s Open) (λ w q. refl) (λ q d. refl) (λ d x. refl) (λ q d. refl) refl (λ w. refl)
      (λ q t. has_inserted 64 e.sessions.opened (session_at p s) (session_at q t) (omega (arith, session_most q t)) ∙ ap (λ (b : Bool). has e.sessions.opened (session_at q t) || b) (session_one q p t s l))
      (λ q t. rw (← session_one q p t s l) (go q t (eqb (session_at q t) (session_at p s)) refl))
    where
      go : (q : Product) (t : ℕ) (b : Bool) → eqb (session_at q t) (session_at p s) ≡ b → (seen e).flows q t ≡ cond b [] ((seen e).flows q t)
      go q t true h = rw (eqb-true (session_at q t) (session_at p s) h) (no_flows o)
      go q t false h = refl

-- ---- a flow more

-- what a ledger sees of a flow comes of its place in four arrays
flow_from : ℕ → ℕ → ℕ → ℕ → Flow
flow_from root reach version deny = record { root = root; reach = λ d. ltb d database_count && has reach d; version = version; deny = λ r. ltb r role_count && has deny r }

-- past the last database nothing leads
leads_past : (onto : ℕ → ℕ → Bool) → ((a b : ℕ) → database_count ≤ b → onto a b ≡ false) → (root : ℕ) → root < database_count → (k d : ℕ) → database_count ≤ d → leads_within onto root k d ≡ false
unfolding leads_within
leads_past onto f root l zero d h = ne_eqb d root (omega arith)
leads_past onto f root l (suc k) d h =
    rw (leads_past onto f root l k d h) (some_nowhere database_count (λ c. onto c d && leads_within onto root k c) (λ c m. ap (λ (b : Bool). b && leads_within onto root k c) (f c d h)))

reach_past : (e : Engine) (root d : ℕ) → root < database_count → database_count ≤ d → reach_of (seen e) root d ≡ false
unfolding reach_of seen
reach_past e root d l h = leads_past (λ a b. ltb b database_count && forwards_to e.directory.tables a b) (λ a b m. rw (le-ltb b database_count m)) root l (database_count - 1) d h

-- the deny set of the last of some flows
last_deny_snoc : (xs : List Flow) (x : Flow) (r : ℕ) → last_deny (xs ++ (x ∷ [])) r ≡ x.deny r
unfolding last_deny
last_deny_snoc [] x r = refl
last_deny_snoc (y ∷ []) x r = refl
last_deny_snoc (y ∷ w ∷ xs) x r = last_deny_snoc (w ∷ xs) x r

last_seen : (e : Engine) (s r n : ℕ) → (ltb r role_count && has (deny_before e.sessions.denies s n) r) ≡ last_deny (list_of n (flow_seen e s)) r
unfolding deny_before flow_seen last_deny
last_seen e s r zero = nothing (ltb r role_count) 0 r refl ∙ ap (λ (xs : List Flow). last_deny xs r) (sym (list_of_zero (flow_seen e s)))
last_seen e s r (suc n) = sym (ap (λ (xs : List Flow). last_deny xs r) (list_of_suc n (flow_seen e s)) ∙ last_deny_snoc (list_of n (flow_seen e s)) (flow_seen e s n) r)

module _ (e : Engine) (z : Sized e) (p : Product) (s root chosen : ℕ) (l : s < session_count) (k : root < database_count) (h : chosen < 2 ^ role_count) (o : has e.sessions.opened (session_at p s) ≡ true)
    (m : flows_in e.sessions (session_at p s) < flow_count) where
  n : ℕ
  n = flows_in e.sessions (session_at p s)

  new : ℕ
  new = reach database_count e.directory.tables.forwards root

  deny : ℕ
  deny = joined role_count (deny_before e.sessions.denies (session_at p s) n) chosen

  put : Engine
  put = engine_of e.directory (with_flow e.directory e.sessions (session_at p s) root new deny)

  -- the other flows stay
  flow_stays : (t f : ℕ) → (place t f ≡ place (session_at p s) n → ⊥) → flow_seen put t f ≡ flow_seen e t f
  unfolding n put flow_seen with_flow
  flow_stays t f d = simp get_or-set_other

  -- the new flow's reach and deny set
  reach_put : (d : ℕ) → (ltb d database_count && has new d) ≡ reach_of (seen e) root d
  unfolding new
  reach_put d = bound_cases database_count d (has new d) (reach_of (seen e) root d) (reach_seen e root d) (reach_past e root d k)

  deny_put : (r : ℕ) → (ltb r role_count && has deny r) ≡ (last_deny ((seen e).flows p s) r || has chosen r)
  unfolding n deny seen
  deny_put r =
      rw (← last_seen e (session_at p s) r n)
      (bound_cases role_count r (has deny r) ((ltb r role_count && has (deny_before e.sessions.denies (session_at p s) n) r) || has chosen r)
      (λ q. has_joined role_count (deny_before e.sessions.denies (session_at p s) n) chosen r q ∙ rw (lt-ltb r role_count q))
      (λ q. rw (le-ltb r role_count q) (has_high role_count chosen r h q)))

  flow_put : flow_seen put (session_at p s) n ≡ new_flow (seen e) p s root chosen
  unfolding n put flow_seen flow_from with_flow new_flow seen
  flow_put =
      let w = place_lt (session_at p s) n (session_within p s l) m in
      (λ i. flow_from (get_or-set_same e.sessions.roots (place (session_at p s) n) root 0 (omega (arith, w, z.roots)) i) (get_or-set_same e.sessions.reaches (place (session_at p s) n) new 0 (omega (arith, w, z.reaches)) i)
      (get_or-set_same e.sessions.versions (place (session_at p s) n) e.directory.version 0 (omega (arith, w, z.versions)) i) (get_or-set_same e.sessions.denies (place (session_at p s) n) deny 0 (omega (arith, w, z.denies)) i))
      ∙ (λ i. record { root = root; reach = λ d. reach_put d i; version = e.directory.version; deny = λ r. deny_put r i })

  -- the session's flows with the new one at the end, and the flows of the others
  flows_here : (seen put).flows p s ≡ (seen e).flows p s ++ (new_flow (seen e) p s root chosen ∷ [])
  unfolding n put seen with_flow
  flows_here =
      let c : session_at p s < length e.sessions.counts = omega (arith, z.counts, session_within p s l) in
      ap (λ (i : ℕ). list_of i (flow_seen put (session_at p s))) (get_or-set_same e.sessions.counts (session_at p s) (n + 1) 0 c ∙ add-one n)
      ∙ list_of_suc n (flow_seen put (session_at p s))
      ∙ ap₂ (λ (xs : List Flow) (x : Flow). xs ++ (x ∷ [])) (list_of_cong n (flow_seen put (session_at p s)) (flow_seen e (session_at p s)) (λ f q. flow_stays (session_at p s) f (places (session_at p s) f (session_at p s) n (omega arith) m (λ a b. omega arith)))) flow_put

  flows_there : (q : Product) (t : ℕ) → (session_at q t ≡ session_at p s → ⊥) → (seen put).flows q t ≡ (seen e).flows q t
  unfolding n put seen with_flow
  flows_there q t d =
      ap (λ (i : ℕ). list_of i (flow_seen put (session_at q t))) (get_or-set_other e.sessions.counts (session_at p s) (session_at q t) (n + 1) 0 d)
      ∙ list_of_cong (flows_in e.sessions (session_at q t)) (flow_seen put (session_at q t)) (flow_seen e (session_at q t))
      (λ f i. flow_stays (session_at q t) f (places (session_at q t) f (session_at p s) n (omega (arith, z.few (session_at q t))) m (λ a b. d a)))

  pub same_add : seen (engine_of e.directory (changed_sessions e.directory e.sessions (session_at p s) (Add root chosen))) ≡ asked (seen e) p s (Add root chosen)
  unfolding n new deny put changed_sessions with_flow seen asked with_flows
  same_add =
      same_ledger (seen put) (asked (seen e) p s (Add root chosen)) (λ w q. refl) (λ q d. refl) (λ d x. refl) (λ q d. refl) refl (λ w. refl)
      (λ q t. rw (← session_one q p t s l) (still q t (eqb (session_at q t) (session_at p s)) refl)) (λ q t. rw (← session_one q p t s l) (flows q t (eqb (session_at q t) (session_at p s)) refl))
    where
      still : (q : Product) (t : ℕ) (b : Bool) → eqb (session_at q t) (session_at p s) ≡ b → (seen e).opened q t ≡ ((seen e).opened q t || b)
      still q t true i = let w : (seen e).opened q t ≡ true = ap (has e.sessions.opened) (eqb-true (session_at q t) (session_at p s) i) ∙ o in w ∙ sym (or_left true w)
      still q t false i = or_none ((seen e).opened q t)

      flows : (q : Product) (t : ℕ) (b : Bool) → eqb (session_at q t) (session_at p s) ≡ b → (seen put).flows q t ≡ cond b ((seen e).flows p s ++ (new_flow (seen e) p s root chosen ∷ [])) ((seen e).flows q t)
      flows q t true i = rw (eqb-true (session_at q t) (session_at p s) i) flows_here
      flows q t false i = flows_there q t (eqb-false (session_at q t) (session_at p s) i)
