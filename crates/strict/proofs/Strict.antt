-- Where a session's additions choose every conflicting role, the first half of demand 3 needs no premise on denied roles.
-- What a user may read stays while nothing is taken, and at the later flow the user's roles are all denied: so the premise holds, and demand 3 is cited.
-- Assumes nothing.
use Prim.Native.Nat.{ℕ, zero, suc, ◌+◌, ◌≤◌, ◌<◌}
use mathlib.Core.Path.{◌≡◌, refl, sym, ap, ◌∙◌}
use mathlib.Core.Bool.{Bool, true, false, cond, ◌&&◌, ◌||◌, true≢false}
use mathlib.Core.List.{List, [], ◌∷◌, ◌++◌}
use mathlib.Core.Logic.{◌⊎◌, inl, inr, ◌≢◌}
use native.Mathlib.Decide.{dec_lt}
use native.Mathlib.Omega.{arith}
use lib.Dec.{leb, eqb}
use lib.ListN.{length, get_or, length-append, get_or-append}
use lib.Seq.{get_or_at}
use borrow.Author.Tests.{ltb-false, leb-false, le-leb, eqb-true, eqb-false, eq-eqb, ne_eqb, not-false}
use Rattle.sets.specs.Sets.{has, some}
use Rattle.sets.proofs.Laws.{and_both, and_true, or_neither, or_left, or_right, and_all, some_of, some_at, count_two}
use Rattle.tables.specs.Tables.{user_count, role_count, database_count}
use Rattle.model.specs.declared.calls.Change.{Change}
use Rattle.model.specs.declared.calls.Change.TheVariants.{Assign, Withdraw, Permit, Revoke, Forward, Mandate}
use Rattle.model.specs.declared.calls.Product.{Product}
use Rattle.model.specs.declared.calls.Ask.{Ask}
use Rattle.model.specs.declared.calls.Ask.TheVariants.{Open, Conflicting, Add, Show}
use Rattle.model.specs.declared.calls.Call.{Call}
use Rattle.model.specs.declared.calls.Call.TheVariants.{Table, Session, Read, Unreadable}
use Rattle.model.specs.declared.calls.Verdict.TheVariants.{Granted}
use Rattle.model.specs.Limits.{session_count, flow_count}
use Rattle.model.specs.Calls.{returned, verdict}
use Rattle.model.specs.Ledger.{Ledger, Flow, start, flow_of, reads, reads_two_of, is_conflicting, holds_denied, under_mandate, same}
use Rattle.model.specs.Refusals.{last_deny, new_flow, check_rows, read_rows, rows, refusal, accepts, plus, minus, entered, renewed, with_flows, asked, taken, ledger_step, ledger_after}
use Rattle.model.specs.Demands.{call_at, engine_at, ledger_at, takes_from, run_of, TwoReads, HoldsDenied, NothingTaken, OutsideMandates}
use Rattle.model.proofs.Laws.{same_self}
use Rattle.model.proofs.Chains.{not_met}
use Rattle.model.proofs.Ledgers.{Stays, Since, Ordered, outside, entered_rest, one_session, step_by, since_step, along, ledger_step_is, ordered_at}
use Rattle.model.proofs.Demands.{numbered, demand3}
use Rattle.strict.specs.Strict.{Strict, StrictFirst}

-- ---- what a user reads

-- user u holds role r, which may read database d
record Uses (l : Ledger) (u r d : ℕ) : Type 0 where
  held : l.holds u r ≡ true
  may : l.may_read r d ≡ true

-- such a user may statically read every flow that reaches the database
reads_by : (l : Ledger) (u r d : ℕ) (flow : Flow) → r < role_count → d < database_count → flow.reach d ≡ true → Uses l u r d → reads l u flow ≡ true
unfolding reads
reads_by l u r d flow a b h w =
    some_at role_count (λ x. l.holds u x && some database_count (λ y. flow.reach y && l.may_read x y)) r a
    (and_true w.held (some_at database_count (λ y. flow.reach y && l.may_read r y) d b (and_true h w.may)))

-- a user who got nothing since could read then what the user reads now
read_then : (l m : Ledger) (u : ℕ) (flow : Flow) → Stays l m u → reads m u flow ≡ true → reads l u flow ≡ true
unfolding reads
read_then l m u flow w h =
    let r = some_of role_count _ h in
    let x = and_both (m.holds u r.0) _ r.2 in
    let d = some_of database_count _ x.1 in
    let y = and_both (flow.reach d.0) (m.may_read r.0 d.0) d.2 in
    reads_by l u r.0 d.0 flow r.1 d.1 y.0 (record { held = w.held r.0 x.0; may = sym (w.readers r.0 x.0 d.0) ∙ y.1 })

-- a read outside a mandate that meets no row: the role that it is made by, and what is known of it
pub record ReadBy (l : Ledger) (p : Product) (u s f d r : ℕ) : Type 0 where
  user : u < user_count
  role : r < role_count
  inside : d < database_count
  pub there : f < length (l.flows p s)
  reached : (flow_of l p s f).reach d ≡ true
  uses : Uses l u r d
  current : l.version u ≤ (flow_of l p s f).version

read_by : (l : Ledger) (p : Product) (u s f d : ℕ) → under_mandate l u d ≡ false → refusal l (Read p u s f d) ≡ 0 → (r : ℕ) × ReadBy l p u s f d r
unfolding refusal rows read_rows check_rows
read_by l p u s f d o h =
    let a = not_met 1 _ _ h in
    let b = or_neither (leb user_count u) (leb database_count d) (or_neither (leb user_count u || leb database_count d) (leb session_count s || leb flow_count f) a.0).0 in
    let t = not_met 9 _ _ (not_met 5 _ _ a.1).1 in
    let x = not_met 10 _ _ t.1 in
    let y = not_met 11 _ _ x.1 in
    let z = not_met 12 _ _ y.1 in
    let r = some_of role_count (λ r. l.holds u r && l.may_read r d) (not-false _ y.0) in
    let w = and_both (l.holds u r.0) (l.may_read r.0 d) r.2 in (
      r.0,
      record {
        user = leb-false user_count u b.0;
        role = r.1;
        inside = leb-false database_count d b.1;
        there = leb-false (length (l.flows p s)) f t.0;
        reached = not-false ((flow_of l p s f).reach d) x.0;
        uses = record { held = w.0; may = w.1 };
        current = ltb-false (flow_of l p s f).version (l.version u) (outside (under_mandate l u d) _ o z.0);
      },
    )

pub read_at : (cs : List Call) (p : Product) (i u s f d : ℕ) → verdict (engine_at cs i) (Read p u s f d) ≡ Granted → under_mandate (ledger_at cs i) u d ≡ false
    → (r : ℕ) × ReadBy (ledger_at cs i) p u s f d r
unfolding returned
read_at cs p i u s f d v o = read_by (ledger_at cs i) p u s f d o (sym (numbered cs i (Read p u s f d)) ∙ ap returned v)

-- ---- what stays while nothing is taken

-- a pair stays where the one that is struck out has another first number
not_struck : (pairs : ℕ → ℕ → Bool) (a b c d : ℕ) → c ≢ a → pairs c d ≡ true → minus pairs a b c d ≡ true
unfolding minus
not_struck pairs a b c d n h = rw (ne_eqb c a n) (sym (and_all (pairs c d)) ∙ h)

uses_change : (l : Ledger) (c : Change) (u r d : ℕ) → takes_from l u c ≡ false → Uses l u r d → Uses (taken l (Table c)) u r d
unfolding taken renewed entered plus takes_from
uses_change l (Assign w x) u r d n h = record { held = or_left _ h.held; may = h.may }
uses_change l (Withdraw w x) u r d n h = record { held = not_struck l.holds w x u r (λ e. eqb-false w u n (sym e)) h.held; may = h.may }
uses_change l (Permit x y) u r d n h = record { held = h.held; may = or_left _ h.may }
uses_change l (Revoke x y) u r d n h = record { held = h.held; may = not_struck l.may_read x y r d (λ e. true≢false (sym h.held ∙ ap (l.holds u) e ∙ n)) h.may }
uses_change l (Forward x y) u r d n h = record { held = h.held; may = h.may }
uses_change l (Mandate x y) u r d n h = record { held = h.held; may = h.may }

-- the rest of the ledger has no part in it
uses_asked : (l : Ledger) (p : Product) (s : ℕ) (a : Ask) (u r d : ℕ) → Uses l u r d → Uses (asked l p s a) u r d
unfolding asked with_flows
uses_asked l p s Open u r d h = record { held = h.held; may = h.may }
uses_asked l p s (Conflicting x) u r d h = h
uses_asked l p s (Add x m) u r d h = record { held = h.held; may = h.may }
uses_asked l p s (Show f) u r d h = h

-- only an accepted change of the tables can take something from the user
uses_taken : (l : Ledger) (x : Call) (u r d : ℕ) → ((c : Change) → x ≡ Table c → takes_from l u c ≡ false) → Uses l u r d → Uses (taken l x) u r d
unfolding taken
uses_taken l (Table c) u r d n h = uses_change l c u r d (n c refl) h
uses_taken l (Session p s a) u r d n h = uses_asked l p s a u r d h
uses_taken l (Read p w s f y) u r d n h = h
uses_taken l Unreadable u r d n h = h

-- a flow is there and is as it was, and the user holds the role that reads
record Still (l m : Ledger) (p : Product) (u s f d r : ℕ) : Type 0 where
  there : f < length (m.flows p s)
  same : flow_of m p s f ≡ flow_of l p s f
  uses : Uses m u r d

still_step : (l m : Ledger) (x : Call) (p : Product) (u s f d r : ℕ) → Ordered m → ((c : Change) → x ≡ Table c → accepts m (Table c) ≡ true → takes_from m u c ≡ false)
    → Still l m p u s f d r → Still l (ledger_step m x) p u s f d r
still_step l m x p u s f d r o n h =
    let w = (since_step m x o).flows p s f h.there in
    record {
      there = w.0;
      same = w.1 ∙ h.same;
      uses = step_by (λ t. Uses t u r d) m x h.uses (λ a. uses_taken m x u r d (λ c e. n c e (sym (ap (accepts m) e) ∙ a)) h.uses);
    }

-- from a read on, to a later call
still_at : (cs : List Call) (p : Product) (i j u s f d r : ℕ) → i < j → j < length cs → call_at cs i ≡ Read p u s f d
    → ((k : ℕ) (c : Change) → i < k → k < j → call_at cs k ≡ Table c → accepts (ledger_at cs k) (Table c) ≡ true → takes_from (ledger_at cs k) u c ≡ false)
    → ReadBy (ledger_at cs i) p u s f d r → Still (ledger_at cs i) (ledger_at cs j) p u s f d r
still_at cs p i j u s f d r l m e z h =
    along (λ n. Still (ledger_at cs i) (ledger_at cs n) p u s f d r) i j (omega arith) (record { there = h.there; same = refl; uses = h.uses })
    (λ n a b t. rw (ledger_step_is cs n (omega arith)) (still_step (ledger_at cs i) (ledger_at cs n) (call_at cs n) p u s f d r (ordered_at cs n) (λ c q. from n c a b q (dec_lt i n)) t))
  where
    -- the first call is a read and takes nothing
    from : (n : ℕ) (c : Change) → i ≤ n → n < j → call_at cs n ≡ Table c → Dec (i < n) → accepts (ledger_at cs n) (Table c) ≡ true → takes_from (ledger_at cs n) u c ≡ false
    from n c a b q (yes k) = z n c k b q
    from n c a b q (no k) =
        let i≡n : i ≡ n = omega arith in
        let t : ◌≡◌ {A = ℕ} 0 1 = cc (ap (call_at cs) i≡n) in
        absurd (omega arith)

-- ---- what additions keep, where they choose every conflicting role

-- of a product's session: a user who is not changed for one of two flows, and may statically read both, holds no role that the later one does not deny
record Covered (p : Product) (s : ℕ) (l : Ledger) : Type 0 where
  roles : (a b u r : ℕ) → a < b → b < length (l.flows p s) → u < user_count → (l.version u ≤ (flow_of l p s a).version) ⊎ (l.version u ≤ (flow_of l p s b).version)
      → reads l u (flow_of l p s a) ≡ true → reads l u (flow_of l p s b) ≡ true → r < role_count → l.holds u r ≡ true → (flow_of l p s b).deny r ≡ true

covered_start : (p : Product) (s : ℕ) → Covered p s start
unfolding start
covered_start p s = record { roles = λ a b u r k m. absurd (omega arith) }

-- of two flows that were there: a user who got something is changed for both, and another could read both before
covered_old : (l m : Ledger) (p : Product) (s a b u r : ℕ) → Ordered l → Since l m → Covered p s l → a < b → b < length (l.flows p s) → u < user_count
    → (m.version u ≤ (flow_of m p s a).version) ⊎ (m.version u ≤ (flow_of m p s b).version)
    → reads m u (flow_of m p s a) ≡ true → reads m u (flow_of m p s b) ≡ true → r < role_count → m.holds u r ≡ true → (flow_of m p s b).deny r ≡ true
covered_old l m p s a b u r o w h k n ul =
    rw ((w.flows p s a (omega arith)).1, (w.flows p s b n).1) (λ v x y rl t. go v x y rl t (w.users u))
  where
    go : (m.version u ≤ (flow_of l p s a).version) ⊎ (m.version u ≤ (flow_of l p s b).version) → reads m u (flow_of l p s a) ≡ true → reads m u (flow_of l p s b) ≡ true
        → r < role_count → m.holds u r ≡ true → (l.system < m.version u) ⊎ Stays l m u → (flow_of l p s b).deny r ≡ true
    go (inl v) x y rl t (inl c) = absurd (omega (arith, o.flows p s a (omega arith)))
    go (inr v) x y rl t (inl c) = absurd (omega (arith, o.flows p s b n))
    go v x y rl t (inr c) =
        h.roles a b u r k n ul (rw c.version at v) (read_then l m u (flow_of l p s a) c x) (read_then l m u (flow_of l p s b) c y) rl (c.held r t)

-- a session gets a flow by an addition alone
grown : (l : Ledger) (c : Call) (q : Product) (t b : ℕ) → length (l.flows q t) ≤ b → b < length ((taken l c).flows q t) → (root : ℕ) × (chosen : ℕ) × (c ≡ Session q t (Add root chosen))
unfolding taken renewed asked with_flows
grown l (Table c) q t b n k = let m : b < length (l.flows q t) = rw (entered_rest l c).3 at k in absurd (omega arith)
grown l (Session p s Open) q t b n k = absurd (go (same q p && eqb t s) k)
  where
    go : (x : Bool) → b < length (cond x [] (l.flows q t)) → ⊥
    go true m = omega arith
    go false m = omega arith
grown l (Session p s (Conflicting root)) q t b n k = absurd (omega arith)
grown l (Session p s (Add root chosen)) q t b n k = go (same q p && eqb t s) refl k
  where
    go : (x : Bool) → (same q p && eqb t s) ≡ x → b < length (cond x (l.flows p s ++ (new_flow l p s root chosen ∷ [])) (l.flows q t))
        → (root' : ℕ) × (chosen' : ℕ) × (Session p s (Add root chosen) ≡ Session q t (Add root' chosen'))
    go true h m = let w = one_session q p t s h in (root, chosen, rw (w.0, w.1))
    go false h m = absurd (omega arith)
grown l (Session p s (Show f)) q t b n k = absurd (omega arith)
grown l (Read p u s f d) q t b n k = absurd (omega arith)
grown l Unreadable q t b n k = absurd (omega arith)

-- an element that is there, whatever stands past the end
there_alike : {A : Type 0} (xs : List A) (i : ℕ) (x y : A) → i < length xs → get_or xs i x ≡ get_or xs i y
there_alike [] i x y l = absurd (omega arith)
there_alike (z ∷ xs) zero x y l = refl
there_alike (z ∷ xs) (suc i) x y l = there_alike xs i x y (omega arith)

flow_there : (l : Ledger) (p : Product) (s a : ℕ) (none : Flow) → a < length (l.flows p s) → get_or (l.flows p s) a none ≡ flow_of l p s a
unfolding flow_of
flow_there l p s a none k = there_alike (l.flows p s) a none _ k

module _ (l : Ledger) (p : Product) (s root chosen : ℕ) where
  new : Flow
  new = new_flow l p s root chosen

  -- a user who may statically read the new flow and one before it makes all roles that the user holds conflicting
  conflicting : (a u r : ℕ) → a < length (l.flows p s) → u < user_count → reads l u (flow_of l p s a) ≡ true → reads l u new ≡ true → l.holds u r ≡ true
      → is_conflicting l p s new r ≡ true
  unfolding is_conflicting reads_two_of
  conflicting a u r k ul x y h =
      some_at user_count _ u ul
      (and_true h (le-leb 2 _ (count_two (length flows) (λ g. reads l u (get_or flows g new)) a (length (l.flows p s)) (omega arith) (omega (arith, many)) (omega (arith, many))
      (rw (get_or-append (l.flows p s) (new ∷ []) new a k, flow_there l p s a new k) x) (rw (get_or_at (l.flows p s) new [] new (length (l.flows p s)) refl) y))))
    where
      flows : List Flow
      flows = l.flows p s ++ (new ∷ [])

      many : length flows ≡ length (l.flows p s) + 1
      many = length-append (l.flows p s) (new ∷ [])

  -- so the new flow denies them
  denied_new : (a u r : ℕ) → ((x : ℕ) → x < role_count → is_conflicting l p s (new_flow l p s root chosen) x ≡ true → has chosen x ≡ true)
      → a < length (l.flows p s) → u < user_count → reads l u (flow_of l p s a) ≡ true → reads l u new ≡ true → r < role_count → l.holds u r ≡ true → new.deny r ≡ true
  unfolding new new_flow
  denied_new a u r n k ul x y rl h = or_right (last_deny (l.flows p s) r) (n r rl (conflicting a u r k ul x y h))

  -- what the addition leaves
  module _ (c : Call) (e : c ≡ Session p s (Add root chosen)) where
    flows_new : (taken l c).flows p s ≡ l.flows p s ++ (new ∷ [])
    unfolding new taken asked with_flows
    flows_new = rw (e, same_self p, eq-eqb s s refl)

    flow_new : (b : ℕ) → length (l.flows p s) ≤ b → b < length ((taken l c).flows p s) → flow_of (taken l c) p s b ≡ new
    unfolding flow_of
    flow_new b n k =
        let m : b < length (l.flows p s ++ (new ∷ [])) = rw flows_new at k in
        rw flows_new (get_or_at (l.flows p s) new [] _ b (omega (arith, length-append (l.flows p s) (new ∷ []))))

    reads_same : (u : ℕ) (flow : Flow) → reads (taken l c) u flow ≡ reads l u flow
    unfolding reads taken asked with_flows
    reads_same u flow = rw e

    holds_same : (u r : ℕ) → (taken l c).holds u r ≡ l.holds u r
    unfolding taken asked with_flows
    holds_same u r = rw e

-- the call chooses every conflicting role, if it adds to the session and that is asked of it
Chooses : Product → ℕ → Ledger → Call → Type 0
Chooses p s l c = (root chosen : ℕ) → c ≡ Session p s (Add root chosen) → accepts l (Session p s (Add root chosen)) ≡ true → 0 < length (l.flows p s)
    → (r : ℕ) → r < role_count → is_conflicting l p s (new_flow l p s root chosen) r ≡ true → has chosen r ≡ true

covered_taken : (p : Product) (s : ℕ) (l : Ledger) (c : Call) → Ordered l → Chooses p s l c → Covered p s l → accepts l c ≡ true → Covered p s (taken l c)
unfolding Chooses
covered_taken p s l c o n h t = record { roles = λ a b u r k m ul v x y rl z. go a b u r k m ul v x y rl z (dec_lt b (length (l.flows p s))) }
  where
    since : Since l (taken l c)
    since = unfold ledger_step in rw t at (since_step l c o)

    go : (a b u r : ℕ) → a < b → b < length ((taken l c).flows p s) → u < user_count
        → ((taken l c).version u ≤ (flow_of (taken l c) p s a).version) ⊎ ((taken l c).version u ≤ (flow_of (taken l c) p s b).version)
        → reads (taken l c) u (flow_of (taken l c) p s a) ≡ true → reads (taken l c) u (flow_of (taken l c) p s b) ≡ true
        → r < role_count → (taken l c).holds u r ≡ true → Dec (b < length (l.flows p s)) → (flow_of (taken l c) p s b).deny r ≡ true
    go a b u r k m ul v x y rl z (yes i) = covered_old l (taken l c) p s a b u r o since h k i ul v x y rl z
    go a b u r k m ul v x y rl z (no i) =
        let g = grown l c p s b (omega arith) m in
        let q = flow_new l p s g.0 g.1 c g.2 b (omega arith) m in
        let j : a < length (l.flows p s) = omega (arith, length-append (l.flows p s) (new l p s g.0 g.1 ∷ []), ap length (flows_new l p s g.0 g.1 c g.2)) in
        ap (λ (flow : Flow). flow.deny r) q
        ∙ denied_new l p s g.0 g.1 a u r (n g.0 g.1 g.2 (sym (ap (accepts l) g.2) ∙ t) (omega arith)) j ul
        (sym (reads_same l p s g.0 g.1 c g.2 u (flow_of l p s a)) ∙ ap (reads (taken l c) u) (sym (since.flows p s a j).1) ∙ x)
        (sym (reads_same l p s g.0 g.1 c g.2 u _) ∙ ap (reads (taken l c) u) (sym q) ∙ y) rl
        (sym (holds_same l p s g.0 g.1 c g.2 u r) ∙ z)

covered_at : (cs : List Call) (p : Product) (s j : ℕ) → Strict cs p s → j ≤ length cs → Covered p s (ledger_at cs j)
unfolding Chooses
covered_at cs p s j h l =
    along (λ n. Covered p s (ledger_at cs n)) 0 j (omega arith) (unfold ledger_at ledger_after in covered_start p s)
    (λ n a b k. rw (ledger_step_is cs n (omega arith))
    (step_by (Covered p s) (ledger_at cs n) (call_at cs n) k (covered_taken p s (ledger_at cs n) (call_at cs n) (ordered_at cs n) (h n) k)))

-- ---- the theorem

denies : (l : Ledger) (u r : ℕ) (flow : Flow) → r < role_count → l.holds u r ≡ true → flow.deny r ≡ true → holds_denied l u flow ≡ true
unfolding holds_denied
denies l u r flow k x y = some_at role_count _ r k (and_true x y)

-- at the read of the later flow the user holds a role that it denies
holds_later : (cs : List Call) (p : Product) (s : ℕ) → Strict cs p s → (two : TwoReads (run_of cs)) → two.product ≡ p → two.session ≡ s → NothingTaken two → OutsideMandates two → HoldsDenied two
holds_later cs p s h two same_product same_session nothing off =
    let q = two.product in
    let t = two.session in
    let i = two.i in
    let j = two.j in
    let u = two.user in
    let f = two.f in
    let g = two.g in
    let one = read_at cs q i u t f two.d (ap (verdict (engine_at cs i)) (sym two.asked) ∙ two.granted) off.first in
    let other = read_at cs q j u t g two.e (ap (verdict (engine_at cs j)) (sym two.asked_later) ∙ two.granted_later) off.second in
    let r = one.0 in
    let a = one.1 in
    let b = other.1 in
    -- the first flow is still readable at the second read, by the same role
    let still = still_at cs q i j u t f two.d r two.earlier two.within two.asked (λ k c x y z v. nothing k c x y z (unfold accepts in ap (refusal (ledger_at cs k)) z ∙ eqb-true _ 0 v)) a in
    let here = reads_by (ledger_at cs j) u r two.d (flow_of (ledger_at cs j) q t f) a.role a.inside (ap (λ (flow : Flow). flow.reach two.d) still.same ∙ a.reached) still.uses in
    let there = reads_by (ledger_at cs j) u other.0 two.e (flow_of (ledger_at cs j) q t g) b.role b.inside b.reached b.uses in
    -- so the one that was added later denies all roles that the user then holds, and that by which it was read is among them
    let c = covered_at cs q t j (rw (same_product, same_session) h) (omega (arith, two.within)) in
    record {
      later = λ k. denies (ledger_at cs j) u other.0 (flow_of (ledger_at cs j) q t g) b.role b.uses.held (c.roles f g u other.0 k b.there b.user (inr b.current) here there b.role b.uses.held);
      earlier = λ k.
          denies (ledger_at cs i) u r (flow_of (ledger_at cs i) q t f) a.role a.uses.held
          (ap (λ (flow : Flow). flow.deny r) (sym still.same) ∙ c.roles g f u r k still.there b.user (inl b.current) there here a.role still.uses.held);
    }

pub strict_first : (cs : List Call) (p : Product) (s : ℕ) → Strict cs p s → StrictFirst cs p s
strict_first cs p s h two w = (demand3 cs).first two (holds_later cs p s h two w.0 w.1 w.2 w.3, w.2, w.3)
