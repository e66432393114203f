-- The checks that an engine goes through are the rows of the refusal table over what a ledger sees of it.
-- Assumes nothing.
use Prim.Native.Nat.{ℕ, zero, suc, ◌+◌, ◌-◌, ◌^◌, ◌<◌}
use mathlib.Core.Path.{◌≡◌, refl, sym, ap, ap₂, ◌∙◌}
use mathlib.Core.Bool.{Bool, true, false, cond, not, ◌&&◌, ◌||◌, true≢false}
use mathlib.Core.List.{List, [], ◌∷◌, ◌++◌}
use native.Mathlib.Omega.{arith}
use lib.Dec.{leb, ltb, eqb}
use lib.ListN.{length, get_or}
use borrow.Author.Tests.{ltb-true, ltb-false, leb-false, lt-ltb, eq-eqb, not-false}
use Rattle.sets.specs.Sets.{has, some, count, joined, meeting}
use Rattle.sets.proofs.Laws.{or_neither, some_at, some_cong, count_cong, has_set_of, has_inserted, has_joined, has_empty}
use Rattle.rows.specs.Rows.{there, image}
use Rattle.rows.specs.Reach.{onward, level, reach}
use Rattle.tables.specs.Tables.{user_count, role_count, database_count, holds, may_read, forwards_to, has_mandate, held_by, statically_reads}
use Rattle.model.specs.declared.Engine.{Engine}
use Rattle.model.specs.declared.calls.Refusal.{Refusal}
use Rattle.model.specs.declared.calls.Refusal.TheVariants.{Malformed, AboveLimit, AlreadyThere, NotThere, FlowAdded, NotOpen, SessionFull, NotConflicting, VersionsSpent, NoSuchFlow, OutOfReach, NoPermission, Changed, Linkable, Mandated}
use Rattle.model.specs.declared.calls.Change.{Change}
use Rattle.model.specs.declared.calls.Change.TheVariants.{Assign, Withdraw, Permit, Revoke, Forward, Mandate}
use Rattle.model.specs.declared.calls.Product.{Product}
use Rattle.model.specs.declared.calls.Product.TheVariants.{Server, TermBank}
use Rattle.model.specs.declared.calls.Ask.{Ask}
use Rattle.model.specs.declared.calls.Ask.TheVariants.{Open, Conflicting, Add, Show}
use Rattle.model.specs.declared.calls.Call.{Call}
use Rattle.model.specs.declared.calls.Call.TheVariants.{Table, Session, Read, Unreadable}
use Rattle.model.specs.declared.calls.Verdict.{Verdict}
use Rattle.model.specs.declared.calls.Verdict.TheVariants.{Granted, Refused}
use Rattle.model.specs.declared.calls.Answer.TheVariants.{Granted as Answer-as-Granted}
use Rattle.model.specs.Limits.{session_count, flow_count, last_version}
use Rattle.model.specs.State.{all_sessions, first_of, session_at, engine_of, place, any_flow, reach_with, conflicts, outside, deny_before}
use Rattle.model.specs.Calls.{number_of, returned, verdict_of, Done, done, told, assign, withdraw, permit, revoke, forward, mandate, change, flows_in, open_session, conflicts_in, conflicting, with_flow, add, show, ask, links, by_duty, bar, read, answer_of, step, answer, verdict, after}
use Rattle.model.specs.Calls.{spent as none_left}
use Rattle.model.specs.Ledger.{Ledger, Flow, flow_of, leads_within, reach_of, reads, reads_two_of, is_conflicting, linked, under_mandate}
use Rattle.model.specs.Refusals.{due, spent, flow_added, new_flow, change_rows, ask_rows, check_rows, read_rows, rows, first_met, refusal, accepts}
use Rattle.model.specs.Demands.{flow_seen, seen, stored_linkable, is_read}
use Rattle.model.proofs.Laws.{length_snoc, length_list_of, get_d_list_of, get_d_snoc, or_assoc, some_parts, session_there, session_limit}
use Rattle.model.proofs.Chains.{Checked, changing, asking, reading, all_passed, stopped, missed, check_or, check, check_two, within, not_met}
use Rattle.model.proofs.Granted.{changed_directory, changed_tables, given_by, session_opened, changed_sessions, ask_answer, changed, accepted}

-- what is below its limit passes the ledger's bound
pub bounded : (n i : ℕ) (b : Bool) → i < n → b ≡ (ltb i n && b)
bounded n i b l = rw (lt-ltb i n l)

pub and_swap : (a b : Bool) → (a && b) ≡ (b && a)
and_swap true true = refl
and_swap true false = refl
and_swap false true = refl
and_swap false false = refl

-- both parts of a test are the same
pub and_same : {a b c d : Bool} → a ≡ b → c ≡ d → (a && c) ≡ (b && d)
and_same e f = ap₂ (λ (x y : Bool). x && y) e f

-- ---- what is there, for numbers below their limits

pub holds_seen : (e : Engine) (u r : ℕ) → r < role_count → holds e.directory.tables u r ≡ (seen e).holds u r
unfolding seen
holds_seen e u r l = bounded role_count r (holds e.directory.tables u r) l

pub permits_seen : (e : Engine) (r d : ℕ) → r < role_count → may_read e.directory.tables r d ≡ (seen e).may_read r d
unfolding seen
permits_seen e r d l = bounded role_count r (may_read e.directory.tables r d) l

pub forwards_seen : (e : Engine) (d x : ℕ) → x < database_count → forwards_to e.directory.tables d x ≡ (seen e).forwards d x
unfolding seen
forwards_seen e d x l = bounded database_count x (forwards_to e.directory.tables d x) l

pub mandates_seen : (e : Engine) (r d : ℕ) → r < role_count → has_mandate e.directory.tables r d ≡ (seen e).mandated r d
unfolding seen
mandates_seen e r d l = bounded role_count r (has_mandate e.directory.tables r d) l

pub opened_seen : (e : Engine) (p : Product) (s : ℕ) → has e.sessions.opened (session_at p s) ≡ (seen e).opened p s
unfolding seen
opened_seen e p s = refl

-- ---- where forwarding leads, by sets and by steps

pub level_leads : (edge onto : ℕ → ℕ → Bool) → ((a b : ℕ) → b < database_count → edge a b ≡ onto a b) → (root k d : ℕ) → d < database_count
    → has (level database_count edge root k) d ≡ leads_within onto root k d
unfolding level leads_within onward image
level_leads edge onto f root zero d l = has_inserted database_count 0 root d l ∙ rw (has_empty d)
level_leads edge onto f root (suc k) d l =
    let s : ℕ = level database_count edge root k in
    has_joined database_count s (image database_count database_count edge s) d l
    ∙ ap₂ (λ (x y : Bool). x || y) (level_leads edge onto f root k d l)
    (has_set_of database_count (λ b. some database_count (λ a. has s a && edge a b)) d l
    ∙ some_cong database_count (λ a. has s a && edge a d) (λ a. onto a d && leads_within onto root k a) (λ a m. and_same (level_leads edge onto f root k a m) (f a d l) ∙ and_swap (leads_within onto root k a) (onto a d)))

-- the reach that an engine works out is the ledger's
pub reach_seen : (e : Engine) (root d : ℕ) → d < database_count → has (reach database_count e.directory.tables.forwards root) d ≡ reach_of (seen e) root d
unfolding reach reach_of
reach_seen e root d l = level_leads (there e.directory.tables.forwards) (seen e).forwards (forwards_seen e) root (database_count - 1) d l

-- ---- who may read

-- a user's static reading of a flow, where the set m is the flow's reach
pub reads_seen : (e : Engine) (u : ℕ) (flow : Flow) (m : ℕ) → ((d : ℕ) → d < database_count → has m d ≡ flow.reach d)
    → statically_reads role_count database_count e.directory.tables.roles e.directory.tables.readers u m ≡ reads (seen e) u flow
unfolding statically_reads reads
reads_seen e u flow m f =
    some_cong role_count _ _
    (λ r l. and_same (holds_seen e u r l)
    (some_cong database_count (λ d. has m d && may_read e.directory.tables r d) (λ d. flow.reach d && (seen e).may_read r d) (λ d k. and_same (f d k) (permits_seen e r d l))))

-- somebody holds r
pub held_seen : (e : Engine) (r : ℕ) → r < role_count → held_by user_count e.directory.tables.roles r ≡ some user_count (λ w. (seen e).holds w r)
unfolding held_by
held_seen e r l = some_cong user_count (λ w. holds e.directory.tables w r) (λ w. (seen e).holds w r) (λ w m. holds_seen e w r l)

-- a role of the user may read the database
meets_seen : (e : Engine) (u d : ℕ) → meeting role_count (get_or e.directory.tables.roles u 0) (get_or e.directory.tables.readers d 0) ≡ some role_count (λ r. (seen e).holds u r && (seen e).may_read r d)
unfolding meeting there
meets_seen e u d =
    some_cong role_count (λ r. holds e.directory.tables u r && may_read e.directory.tables r d) (λ r. (seen e).holds u r && (seen e).may_read r d) (λ r l. and_same (holds_seen e u r l) (permits_seen e r d l))

-- a role of the user has a mandate at the database
duty_seen : (e : Engine) (u d : ℕ) → by_duty e.directory.tables (get_or e.directory.tables.roles u 0) d ≡ under_mandate (seen e) u d
unfolding by_duty under_mandate meeting there
duty_seen e u d =
    some_cong role_count (λ r. holds e.directory.tables u r && has_mandate e.directory.tables r d) (λ r. (seen e).holds u r && (seen e).mandated r d) (λ r l. and_same (holds_seen e u r l) (mandates_seen e r d l))

-- ---- the flows of a session

pub length_flows : (e : Engine) (p : Product) (s : ℕ) → length ((seen e).flows p s) ≡ flows_in e.sessions (session_at p s)
unfolding seen
length_flows e p s = length_list_of (flows_in e.sessions (session_at p s)) (flow_seen e (session_at p s))

pub get_d_flows : (e : Engine) (p : Product) (s f : ℕ) (none : Flow) → f < flows_in e.sessions (session_at p s) → get_or ((seen e).flows p s) f none ≡ flow_seen e (session_at p s) f
unfolding seen
get_d_flows e p s f none l = get_d_list_of (flows_in e.sessions (session_at p s)) (flow_seen e (session_at p s)) f none l

pub flow_seen_is : (e : Engine) (p : Product) (s f : ℕ) → f < flows_in e.sessions (session_at p s) → flow_of (seen e) p s f ≡ flow_seen e (session_at p s) f
unfolding flow_of
flow_seen_is e p s f l = get_d_flows e p s f _ l

pub reads_kept : (e : Engine) (u s f : ℕ)
    → statically_reads role_count database_count e.directory.tables.roles e.directory.tables.readers u (get_or e.sessions.reaches (place s f) 0) ≡ reads (seen e) u (flow_seen e s f)
unfolding flow_seen
reads_kept e u s f = let m : ℕ = get_or e.sessions.reaches (place s f) 0 in reads_seen e u (flow_seen e s f) m (λ d l. bounded database_count d (has m d) l)

-- some flow of one product, whose sessions have these numbers
flow_of_is : (e : Engine) (p : Product) (at : ℕ → ℕ) → ((s : ℕ) → s < session_count → at s ≡ session_at p s) → some session_count (λ s. ltb 0 (flows_in e.sessions (at s))) ≡ some session_count (λ s. ltb 0 (length ((seen e).flows p s)))
flow_of_is e p at f = some_cong session_count _ _ (λ s l. ap (ltb 0) (ap (flows_in e.sessions) (f s l) ∙ sym (length_flows e p s)))

any_seen : (e : Engine) → any_flow e.sessions.counts ≡ flow_added (seen e)
unfolding any_flow flow_added first_of
any_seen e =
    some_parts session_count session_count (λ s. ltb 0 (flows_in e.sessions s))
    ∙ ap₂ (λ (a b : Bool). a || b) (flow_of_is e Server (λ s. s) (λ s l. omega (arith, session_there Server s l))) (flow_of_is e TermBank (λ s. session_count + s) (λ s l. sym (session_there TermBank s l)))

-- ---- the conflicting roles

module _ (e : Engine) (p : Product) (s root : ℕ) (new : Flow) (fresh : (d : ℕ) → d < database_count → has (reach database_count e.directory.tables.forwards root) d ≡ new.reach d) where
  -- a flow of the session, with the new one counted in
  flow_with : (u g : ℕ) → g < suc (flows_in e.sessions (session_at p s))
      → statically_reads role_count database_count e.directory.tables.roles e.directory.tables.readers u (reach_with e.sessions.reaches (session_at p s) (flows_in e.sessions (session_at p s)) (reach database_count e.directory.tables.forwards root) g)
      ≡ reads (seen e) u (get_or ((seen e).flows p s ++ (new ∷ [])) g new)
  unfolding reach_with
  flow_with u g l = rw (get_d_snoc (flows_in e.sessions (session_at p s)) ((seen e).flows p s) new g (length_flows e p s)) (go (ltb g (flows_in e.sessions (session_at p s))) refl)
    where
      may : ℕ → Bool
      may m = statically_reads role_count database_count e.directory.tables.roles e.directory.tables.readers u m

      go : (b : Bool) → ltb g (flows_in e.sessions (session_at p s)) ≡ b
          → may (cond b (get_or e.sessions.reaches (place (session_at p s) g) 0) (cond (eqb g (flows_in e.sessions (session_at p s))) (reach database_count e.directory.tables.forwards root) 0))
          ≡ reads (seen e) u (cond b (get_or ((seen e).flows p s) g new) new)
      go true h = rw (get_d_flows e p s g new (ltb-true g (flows_in e.sessions (session_at p s)) h)) (reads_kept e u (session_at p s) g)
      go false h =
          let q : g ≡ flows_in e.sessions (session_at p s) = omega (arith, ltb-false g (flows_in e.sessions (session_at p s)) h) in
          rw (eq-eqb g (flows_in e.sessions (session_at p s)) q) (reads_seen e u new (reach database_count e.directory.tables.forwards root) fresh)

  -- they are those that the ledger says
  pub conflicts_seen : (r : ℕ) → r < role_count → has (conflicts_in e.directory.tables e.sessions (session_at p s) (reach database_count e.directory.tables.forwards root)) r ≡ is_conflicting (seen e) p s new r
  unfolding conflicts_in conflicts is_conflicting reads_two_of
  conflicts_seen r l =
      has_set_of role_count _ r l
      ∙ some_cong user_count _ _
      (λ u k. and_same (holds_seen e u r l)
      (ap (leb 2)
      (count_cong (suc (flows_in e.sessions (session_at p s))) _ _ (λ g m. flow_with u g m)
      ∙ ap (λ (n : ℕ). count n (λ g. reads (seen e) u (get_or ((seen e).flows p s ++ (new ∷ [])) g new))) (sym (length_snoc ((seen e).flows p s) new ∙ ap suc (length_flows e p s))))))

-- a chosen role is not among them
outside_seen : (e : Engine) (p : Product) (s root m : ℕ)
    → outside role_count m (conflicts_in e.directory.tables e.sessions (session_at p s) (reach database_count e.directory.tables.forwards root)) ≡ some role_count (λ r. has m r && not (is_conflicting (seen e) p s (new_flow (seen e) p s root m) r))
unfolding outside new_flow
outside_seen e p s root m = some_cong role_count _ _ (λ r l. ap (λ (b : Bool). has m r && not b) (conflicts_seen e p s root (new_flow (seen e) p s root m) (λ d k. reach_seen e root d k) r l))

-- ---- a new version is due and there is none left

last_assign : (last : ℕ) (e : Engine) (u r : ℕ) → u < user_count → eqb e.directory.version last ≡ spent last (seen e) (Assign u r)
unfolding seen spent due
last_assign last e u r l = ap (λ (b : Bool). b && eqb e.directory.version last) (sym (some_at user_count (λ w. eqb w u) u l (eq-eqb u u refl)))

last_held : (last : ℕ) (e : Engine) (r : ℕ) → r < role_count → none_left last e.directory r ≡ (some user_count (λ w. (seen e).holds w r) && eqb e.directory.version last)
unfolding none_left
last_held last e r l = ap (λ (b : Bool). b && eqb e.directory.version last) (held_seen e r l)

-- ---- a read of a flow that is there

reached : (e : Engine) (p : Product) (s f d : ℕ) → d < database_count → f < flows_in e.sessions (session_at p s) → has (get_or e.sessions.reaches (place (session_at p s) f) 0) d ≡ (flow_of (seen e) p s f).reach d
unfolding flow_seen
reached e p s f d l k = bounded database_count d (has (get_or e.sessions.reaches (place (session_at p s) f) 0) d) l ∙ ap (λ (flow : Flow). flow.reach d) (sym (flow_seen_is e p s f k))

outdated : (e : Engine) (p : Product) (u s f : ℕ) → f < flows_in e.sessions (session_at p s)
    → ltb (get_or e.sessions.versions (place (session_at p s) f) 0) (get_or e.directory.versions u 0) ≡ ltb (flow_of (seen e) p s f).version ((seen e).version u)
unfolding flow_seen seen
outdated e p u s f k = ap (λ (flow : Flow). ltb flow.version (get_or e.directory.versions u 0)) (sym (flow_seen_is e p s f k))

stored : (e : Engine) (p : Product) (u s f : ℕ) → links e.sessions (session_at p s) f (get_or e.directory.tables.roles u 0) ≡ stored_linkable e p u s f
unfolding stored_linkable
stored e p u s f = refl

-- ---- every check against every row, group by group

checked_change : (last : ℕ) (e : Engine) (c : Change) → Checked e.directory (change_rows last (seen e) c) (told (changed_directory e.directory c)) (change last e.directory e.sessions.counts c)
unfolding change assign withdraw permit revoke forward mandate change_rows changed_directory changed_tables given_by number_of verdict_of spent due seen
checked_change last e (Assign u r) =
    let k = changing e.directory in
    check_two k AboveLimit _ (leb user_count u) (leb role_count r)
    (λ a b. check k AlreadyThere _ (holds_seen e u r (leb-false role_count r b))
    (λ h. check k VersionsSpent _ (last_assign last e u r (leb-false user_count u a)) (λ j. all_passed e.directory _ _ refl)))
checked_change last e (Withdraw u r) =
    let k = changing e.directory in
    check_two k AboveLimit _ (leb user_count u) (leb role_count r)
    (λ a b. check k NotThere _ (ap not (holds_seen e u r (leb-false role_count r b))) (λ j. all_passed e.directory _ _ refl))
checked_change last e (Permit r d) =
    let k = changing e.directory in
    check_two k AboveLimit _ (leb role_count r) (leb database_count d)
    (λ a b. check k AlreadyThere _ (permits_seen e r d (leb-false role_count r a))
    (λ h. check k VersionsSpent _ (last_held last e r (leb-false role_count r a)) (λ j. all_passed e.directory _ _ refl)))
checked_change last e (Revoke r d) =
    let k = changing e.directory in
    check_two k AboveLimit _ (leb role_count r) (leb database_count d)
    (λ a b. check k NotThere _ (ap not (permits_seen e r d (leb-false role_count r a)))
    (λ h. check k Mandated _ (mandates_seen e r d (leb-false role_count r a))
    (λ i. check k VersionsSpent _ (last_held last e r (leb-false role_count r a)) (λ j. all_passed e.directory _ _ refl))))
checked_change last e (Forward d x) =
    let k = changing e.directory in
    check_two k AboveLimit _ (leb database_count d) (leb database_count x)
    (λ a b. check k FlowAdded _ (any_seen e)
    (λ h. check k AlreadyThere _ (forwards_seen e d x (leb-false database_count x b)) (λ j. all_passed e.directory _ _ refl)))
checked_change last e (Mandate r d) =
    let k = changing e.directory in
    check_two k AboveLimit _ (leb role_count r) (leb database_count d)
    (λ a b. check k AlreadyThere _ (mandates_seen e r d (leb-false role_count r a))
    (λ h. check k NotThere _ (ap not (permits_seen e r d (leb-false role_count r a))) (λ j. all_passed e.directory _ _ refl)))

-- row 2 by all sessions is row 2 by the product's own
or_limit : (p : Product) (s : ℕ) (b : Bool) → (leb session_count s || b) ≡ (leb all_sessions (session_at p s) || b)
or_limit p s b = ap (λ (a : Bool). a || b) (sym (session_limit p s))

checked_ask : (e : Engine) (p : Product) (s : ℕ) (a : Ask)
    → Checked e.sessions (ask_rows (seen e) p s a) (done (ask_answer e.directory e.sessions (session_at p s) a) (changed_sessions e.directory e.sessions (session_at p s) a)) (ask e.directory e.sessions (session_at p s) a)
unfolding ask open_session conflicting add show ask_rows changed_sessions ask_answer session_opened number_of verdict_of
checked_ask e p s Open =
    let k = changing e.sessions in
    check k AboveLimit _ (session_limit p s)
    (λ a. check k AlreadyThere _ (opened_seen e p s) (λ j. all_passed e.sessions _ _ refl))
checked_ask e p s (Conflicting root) =
    let k = asking e.sessions in
    check_or k AboveLimit _ (leb all_sessions (session_at p s)) (leb database_count root) _ (or_limit p s _)
    (λ a. check k AboveLimit _ refl
    (λ b. check k NotOpen _ (ap not (opened_seen e p s))
    (λ h. check k SessionFull _ (ap (leb flow_count) (sym (length_flows e p s))) (λ j. all_passed e.sessions _ _ refl))))
checked_ask e p s (Add root chosen) =
    let k = changing e.sessions in
    check_or k AboveLimit _ (leb all_sessions (session_at p s)) (leb database_count root || leb (2 ^ role_count) chosen) _ (or_limit p s _)
    (λ a. check_two k AboveLimit _ (leb database_count root) (leb (2 ^ role_count) chosen)
    (λ b c. check k NotOpen _ (ap not (opened_seen e p s))
    (λ h. check k SessionFull _ (ap (leb flow_count) (sym (length_flows e p s)))
    (λ i. check k NotConflicting _ (outside_seen e p s root chosen) (λ j. all_passed e.sessions _ _ refl)))))
checked_ask e p s (Show f) =
    let k = asking e.sessions in
    check_or k AboveLimit _ (leb all_sessions (session_at p s)) (leb flow_count f) _ (or_limit p s _)
    (λ a. check k AboveLimit _ refl
    (λ b. check k NotOpen _ (ap not (opened_seen e p s))
    (λ h. check k NoSuchFlow _ (ap (λ (n : ℕ). leb n f) (sym (length_flows e p s))) (λ j. all_passed e.sessions _ _ refl))))

-- the last two rows of a read, which a mandate passes
checked_late : (e : Engine) {m a b m' a' b' : Bool} → m ≡ m' → a ≡ a' → b ≡ b'
    → Checked e ((13, not m' && a') ∷ (14, not m' && b') ∷ []) (done Answer-as-Granted e) (done (answer_of (cond m Granted (bar a Changed (bar b Linkable Granted)))) e)
unfolding reading answer_of number_of verdict_of
checked_late e {m} {a} {b} {m'} {a'} {b'} h i j = rw h (go m')
  where
    go : (x : Bool) → Checked e ((13, not x && a') ∷ (14, not x && b') ∷ []) (done Answer-as-Granted e) (done (answer_of (cond x Granted (bar a Changed (bar b Linkable Granted)))) e)
    go true = missed e 13 _ _ _ (missed e 14 _ _ _ (all_passed e _ _ refl))
    go false = let k = reading e in check k Changed _ i (λ o. check k Linkable _ j (λ q. all_passed e _ _ refl))

checked_read : (e : Engine) (p : Product) (u s f d : ℕ)
    → Checked e (read_rows (seen e) (stored_linkable e) p u s f d) (done Answer-as-Granted e) (done (answer_of (read e.directory e.sessions u (session_at p s) f d)) e)
unfolding read check_rows read_rows reading answer_of number_of verdict_of
checked_read e p u s f d =
    let k = reading e in
    check_or k AboveLimit _ (leb user_count u) (leb database_count d || (leb session_count s || leb flow_count f)) _ (or_assoc (leb user_count u) (leb database_count d) (leb session_count s || leb flow_count f))
    (λ a. check_or k AboveLimit _ (leb database_count d) (leb session_count s || leb flow_count f) _ refl
    (λ b. check_or k AboveLimit _ (leb all_sessions (session_at p s)) (leb flow_count f) _ (or_limit p s _)
    (λ c. check k AboveLimit _ refl
    (λ g. check k NotOpen _ (ap not (opened_seen e p s))
    (λ h. check k NoSuchFlow _ (ap (λ (n : ℕ). leb n f) (sym (length_flows e p s)))
    (λ j. check k OutOfReach _ (ap not (reached e p s f d (leb-false database_count d b) (leb-false (flows_in e.sessions (session_at p s)) f j)))
    (λ l. check k NoPermission _ (ap not (meets_seen e u d))
    (λ n. checked_late e (duty_seen e u d) (outdated e p u s f (leb-false (flows_in e.sessions (session_at p s)) f j)) (stored e p u s f)))))))))

pub checked : (last : ℕ) (e : Engine) (c : Call) → Checked e (rows last (seen e) (stored_linkable e) c) (done (accepted e c) (changed e c)) (step last e c)
unfolding rows accepted changed step number_of
checked last e (Table c) = within (λ D. engine_of D e.sessions) (checked_change last e c)
checked last e (Session p s a) = within (λ S. engine_of e.directory S) (checked_ask e p s a)
checked last e (Read p u s f d) = checked_read e p u s f d
checked last e Unreadable = stopped e Malformed [] _

-- ---- what follows of a verdict

-- the number returned is that of the first row met
pub number : (e : Engine) (c : Call) → returned (verdict e c) ≡ first_met (rows last_version (seen e) (stored_linkable e) c)
unfolding verdict answer
number e c = (checked last_version e c).number

-- a refused call leaves the engine as it was
pub refused_after : (e : Engine) (c : Call) (why : Refusal) → verdict e c ≡ Refused why → after e c ≡ e
unfolding verdict answer after
refused_after e c why h = (checked last_version e c).refused why h

-- a granted one changes it and is answered
pub granted_after : (e : Engine) (c : Call) → verdict e c ≡ Granted → after e c ≡ changed e c
unfolding verdict answer after
granted_after e c h = ap (λ (x : Done Engine). x.after) ((checked last_version e c).passed h)

pub granted_answer : (e : Engine) (c : Call) → verdict e c ≡ Granted → answer e c ≡ accepted e c
unfolding verdict answer
granted_answer e c h = ap (λ (x : Done Engine). x.answer) ((checked last_version e c).passed h)

-- so an engine is left as it was, or is changed by an accepted call
pub after_cases : (P : Engine → Type 0) (e : Engine) (c : Call) → P e → (verdict e c ≡ Granted → P (changed e c)) → P (after e c)
after_cases P e c stay change = go (verdict e c) refl
  where
    go : (v : Verdict) → verdict e c ≡ v → P (after e c)
    go Granted h = rw (granted_after e c h) (change h)
    go (Refused why) h = rw (refused_after e c why h) stay

-- ---- calls other than reads

-- what row 14 goes by is nothing to them
pub other_rows : (last : ℕ) (l : Ledger) (p q : Product → ℕ → ℕ → ℕ → Bool) (c : Call) → is_read c ≡ false → rows last l p c ≡ rows last l q c
unfolding is_read rows
other_rows last l p q (Table c) h = refl
other_rows last l p q (Session r s a) h = refl
other_rows last l p q (Read r u s f d) h = absurd (true≢false h)
other_rows last l p q Unreadable h = refl

-- the engine accepts such a call exactly when the ledger that sees it does
pub accepts_seen : (e : Engine) (c : Call) → is_read c ≡ false → eqb (returned (verdict e c)) 0 ≡ accepts (seen e) c
unfolding accepts refusal
accepts_seen e c h = ap (λ (n : ℕ). eqb n 0) (number e c ∙ ap first_met (other_rows last_version (seen e) (stored_linkable e) (linked (seen e)) c h))

-- ---- what an accepted call says of its numbers

no_row : (e : Engine) (c : Call) → verdict e c ≡ Granted → first_met (rows last_version (seen e) (stored_linkable e) c) ≡ 0
unfolding returned
no_row e c h = sym (number e c) ∙ ap returned h

-- both numbers of a call are below their limits, and no later row is met
both : (n m i j : ℕ) (later : List (ℕ × Bool)) → first_met ((2, leb n i || leb m j) ∷ later) ≡ 0 → (i < n) × (j < m) × (first_met later ≡ 0)
both n m i j later h =
    let a = not_met 1 (leb n i || leb m j) later h in
    let b = or_neither (leb n i) (leb m j) a.0 in
    (leb-false n i b.0, leb-false m j b.1, a.1)

abbrev pub Within : Change → Type 0
Within (Assign u r) = (u < user_count) × (r < role_count)
Within (Withdraw u r) = (u < user_count) × (r < role_count)
Within (Permit r d) = (r < role_count) × (d < database_count)
Within (Revoke r d) = (r < role_count) × (d < database_count)
Within (Forward d x) = (d < database_count) × (x < database_count)
Within (Mandate r d) = (r < role_count) × (d < database_count)

pub within_change : (e : Engine) (c : Change) → verdict e (Table c) ≡ Granted → Within c
unfolding rows change_rows
within_change e (Assign u r) h = let a = both user_count role_count u r _ (no_row e (Table (Assign u r)) h) in (a.0, a.1)
within_change e (Withdraw u r) h = let a = both user_count role_count u r _ (no_row e (Table (Withdraw u r)) h) in (a.0, a.1)
within_change e (Permit r d) h = let a = both role_count database_count r d _ (no_row e (Table (Permit r d)) h) in (a.0, a.1)
within_change e (Revoke r d) h = let a = both role_count database_count r d _ (no_row e (Table (Revoke r d)) h) in (a.0, a.1)
within_change e (Forward d x) h = let a = both database_count database_count d x _ (no_row e (Table (Forward d x)) h) in (a.0, a.1)
within_change e (Mandate r d) h = let a = both role_count database_count r d _ (no_row e (Table (Mandate r d)) h) in (a.0, a.1)

-- and the session is not open
pub within_open : (e : Engine) (p : Product) (s : ℕ) → verdict e (Session p s Open) ≡ Granted → (s < session_count) × (has e.sessions.opened (session_at p s) ≡ false)
unfolding rows ask_rows
within_open e p s h =
    let a = not_met 1 (leb session_count s) _ (no_row e (Session p s Open) h) in
    (leb-false session_count s a.0, opened_seen e p s ∙ (not_met 2 ((seen e).opened p s) _ a.1).0)

-- and the session is open, has room for one flow more, and gets it
pub within_add : (e : Engine) (p : Product) (s root chosen : ℕ) → verdict e (Session p s (Add root chosen)) ≡ Granted
    → (s < session_count) × (root < database_count) × (chosen < 2 ^ role_count) × (has e.sessions.opened (session_at p s) ≡ true) × (flows_in e.sessions (session_at p s) < flow_count)
    × (after e (Session p s (Add root chosen))
    ≡ engine_of e.directory (with_flow e.directory e.sessions (session_at p s) root (reach database_count e.directory.tables.forwards root) (joined role_count (deny_before e.sessions.denies (session_at p s) (flows_in e.sessions (session_at p s))) chosen)))
unfolding rows ask_rows changed changed_sessions
within_add e p s root chosen h =
    let a = not_met 1 (leb session_count s || (leb database_count root || leb (2 ^ role_count) chosen)) _ (no_row e (Session p s (Add root chosen)) h) in
    let b = or_neither (leb session_count s) (leb database_count root || leb (2 ^ role_count) chosen) a.0 in
    let c = or_neither (leb database_count root) (leb (2 ^ role_count) chosen) b.1 in
    let d = not_met 5 (not ((seen e).opened p s)) _ a.1 in
    let f = not_met 6 (leb flow_count (length ((seen e).flows p s))) _ d.1 in (
      leb-false session_count s b.0,
      leb-false database_count root c.0,
      leb-false (2 ^ role_count) chosen c.1,
      opened_seen e p s ∙ not-false ((seen e).opened p s) d.0,
      leb-false flow_count (flows_in e.sessions (session_at p s)) (rw (length_flows e p s) at f.0),
      granted_after e (Session p s (Add root chosen)) h,
    )
