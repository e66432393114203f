-- What the ledger alone tells of a list of calls: what a call changes, and what stays from one call to a later one.
-- With it the first half of demand 3, over the ledger: under its premises no user's reads of two flows of one product's session both meet no row.
-- Assumes nothing.
use Prim.Native.Nat.{ℕ, zero, suc, ◌+◌, ◌≤◌, ◌<◌}
use mathlib.Core.Path.{◌≡◌, refl, sym, ap, ◌∙◌, subst}
use mathlib.Core.Bool.{Bool, true, false, cond, not, ◌&&◌, ◌||◌, true≢false}
use mathlib.Core.List.{List, [], ◌∷◌, ◌++◌}
use mathlib.Core.Logic.{◌⊎◌, inl, inr, ⊎_elim, ◌≢◌}
use native.Mathlib.Decide.{dec_lt}
use native.Mathlib.Omega.{arith}
use lib.Dec.{leb, ltb, eqb}
use lib.ListN.{length, get_or, take, length-append, get_or-append}
use lib.Seq.{take-suc, get_or_at}
use borrow.Author.Tests.{ltb-false, leb-false, le-leb, eqb-true, eqb-false, ne_eqb, not-false}
use Rattle.sets.specs.Sets.{some, count}
use Rattle.sets.proofs.Laws.{and_both, and_true, or_either, or_neither, or_none, or_left, and_all, some_of, some_at, count_two}
use Rattle.tables.specs.Tables.{user_count, role_count, database_count}
use Rattle.model.specs.declared.calls.Change.{Change}
use Rattle.model.specs.declared.calls.Change.TheVariants.{Assign, Withdraw, Permit, Revoke, Forward, Mandate}
use Rattle.model.specs.declared.calls.Product.{Product}
use Rattle.model.specs.declared.calls.Ask.{Ask}
use Rattle.model.specs.declared.calls.Ask.TheVariants.{Open, Conflicting, Add, Show}
use Rattle.model.specs.declared.calls.Call.{Call}
use Rattle.model.specs.declared.calls.Call.TheVariants.{Table, Session, Read, Unreadable}
use Rattle.model.specs.Limits.{session_count, flow_count}
use Rattle.model.specs.Ledger.{Ledger, Flow, start, same, flow_of, reads, reads_two_of, holds_denied, linked, under_mandate}
use Rattle.model.specs.Refusals.{due, new_flow, ask_rows, check_rows, read_rows, rows, first_met, refusal, earlier_refusal, accepts, plus, minus, entered, renewed, with_flows, asked, taken, ledger_step, ledger_after}
use Rattle.model.specs.Demands.{call_at, ledger_at, takes_from}
use Rattle.model.proofs.Laws.{same_is}
use Rattle.model.proofs.Chains.{not_met}

-- ---- the rows of a read

-- the first of its rows that is met: 2, 6, 10 to 14
unfoldable first_of : (a b c g h i p : Bool) → ℕ
first_of a b c g h i p = cond a 2 (cond b 6 (cond c 10 (cond g 11 (cond h 12 (cond i 13 (cond p 14 0))))))

module _ (l : Ledger) (links : Product → ℕ → ℕ → ℕ → Bool) (p : Product) (u s f d : ℕ) where
  met_read : first_met (read_rows l links p u s f d)
      ≡ first_of ((leb user_count u || leb database_count d) || (leb session_count s || leb flow_count f)) (not (l.opened p s)) (leb (length (l.flows p s)) f) (not ((flow_of l p s f).reach d))
      (not (some role_count (λ r. l.holds u r && l.may_read r d))) (not (under_mandate l u d) && ltb (flow_of l p s f).version (l.version u)) (not (under_mandate l u d) && links p u s f)
  unfolding check_rows read_rows first_met first_of
  met_read = refl

  -- under a mandate the number is that of the first of rows 2 to 12
  pub duty_rows : under_mandate l u d ≡ true → first_met (read_rows l links p u s f d) ≡ first_met (check_rows l p u s f d)
  unfolding check_rows read_rows first_met
  duty_rows h = rw h

none_met : (a b c g h i p : Bool) → first_of a b c g h i p ≡ 0 → (a ≡ false) × (b ≡ false) × (c ≡ false) × (g ≡ false) × (h ≡ false) × (i ≡ false) × (p ≡ false)
unfolding first_of
none_met true b c g h i p e = absurd (omega arith)
none_met false true c g h i p e = absurd (omega arith)
none_met false false true g h i p e = absurd (omega arith)
none_met false false false true h i p e = absurd (omega arith)
none_met false false false false true i p e = absurd (omega arith)
none_met false false false false false true p e = absurd (omega arith)
none_met false false false false false false true e = absurd (omega arith)
none_met false false false false false false false e = (refl, refl, refl, refl, refl, refl, refl)

-- the last one may go by another test where those before are not met
same_number : (a b c g h i p q : Bool) → (a ≡ false → c ≡ false → i ≡ false → p ≡ q) → first_of a b c g h i p ≡ first_of a b c g h i q
unfolding first_of
same_number true b c g h i p q f = refl
same_number false true c g h i p q f = refl
same_number false false true g h i p q f = refl
same_number false false false true h i p q f = refl
same_number false false false false true i p q f = refl
same_number false false false false false true p q f = refl
same_number false false false false false false p q f = ap (λ (t : Bool). cond t 14 0) (f refl refl refl)

-- and settles the number
settled : (a b c g h i p : Bool) → first_of a b c g h i false ≡ 0 → first_of a b c g h i p ≡ cond p 14 0
unfolding first_of
settled a b c g h i p e = let w = none_met a b c g h i false e in rw (w.0, w.1, w.2, w.3, w.4, w.5)

-- a test that a mandate passes: outside one it is met where it says so
pub outside : (m x : Bool) → m ≡ false → (not m && x) ≡ false → x ≡ false
outside m x h e = rw h at e

-- and two such tests are the same where they agree on what comes to them
spared : (m x y z : Bool) → (not m && x) ≡ false → (x ≡ false → y ≡ z) → (not m && y) ≡ (not m && z)
spared true x y z e f = refl
spared false x y z e f = f e

-- row 2 is not met: the flow and the database are below their limits
below : (u s f d : ℕ) → ((leb user_count u || leb database_count d) || (leb session_count s || leb flow_count f)) ≡ false → (f < flow_count) × (d < database_count)
below u s f d h =
    let w = or_neither (leb user_count u || leb database_count d) (leb session_count s || leb flow_count f) h in
    (leb-false flow_count f (or_neither (leb session_count s) (leb flow_count f) w.1).1, leb-false database_count d (or_neither (leb user_count u) (leb database_count d) w.0).1)

-- two tests for row 14 that agree on reads which come to it return the same number
pub same_rows : (l : Ledger) (links links' : Product → ℕ → ℕ → ℕ → Bool) (p : Product) (u s f d : ℕ)
    → (f < flow_count → f < length (l.flows p s) → l.version u ≤ (flow_of l p s f).version → links p u s f ≡ links' p u s f)
    → first_met (read_rows l links p u s f d) ≡ first_met (read_rows l links' p u s f d)
same_rows l links links' p u s f d h =
    met_read l links p u s f d
    ∙ same_number _ _ _ _ _ _ _ _ (λ a c i. spared (under_mandate l u d) _ _ _ i (λ j. h (below u s f d a).0 (leb-false (length (l.flows p s)) f c) (ltb-false (flow_of l p s f).version (l.version u) j)))
    ∙ sym (met_read l links' p u s f d)

-- of a read outside a mandate that meets no row before 14, the number is settled by row 14
pub last_row : (l : Ledger) (p : Product) (u s f d : ℕ) → under_mandate l u d ≡ false → earlier_refusal l (Read p u s f d) ≡ 0 → refusal l (Read p u s f d) ≡ cond (linked l p u s f) 14 0
unfolding earlier_refusal refusal rows
last_row l p u s f d o h =
    met_read l (linked l) p u s f d ∙ rw o (settled _ _ _ _ _ _ (linked l p u s f) (rw o at (sym (met_read l (λ q v t g. false) p u s f d) ∙ h)))

-- what is known of a read outside a mandate that meets no row
record Passed (l : Ledger) (p : Product) (u s f d : ℕ) : Type 0 where
  inside : d < database_count
  there : f < length (l.flows p s)
  reached : (flow_of l p s f).reach d ≡ true
  permitted : some role_count (λ r. l.holds u r && l.may_read r d) ≡ true
  current : l.version u ≤ (flow_of l p s f).version
  unlinked : linked l p u s f ≡ false

read_passed : (l : Ledger) (p : Product) (u s f d : ℕ) → under_mandate l u d ≡ false → refusal l (Read p u s f d) ≡ 0 → Passed l p u s f d
unfolding refusal rows
read_passed l p u s f d o h =
    let w = none_met _ _ _ _ _ _ _ (sym (met_read l (linked l) p u s f d) ∙ h) in
    record {
      inside = (below u s f d w.0).1;
      there = leb-false (length (l.flows p s)) f w.2;
      reached = not-false ((flow_of l p s f).reach d) w.3;
      permitted = not-false (some role_count (λ r. l.holds u r && l.may_read r d)) w.4;
      current = ltb-false (flow_of l p s f).version (l.version u) (outside (under_mandate l u d) _ o w.5);
      unlinked = outside (under_mandate l u d) _ o w.6;
    }

-- ---- what a user reads

-- role r of user u may read database d
unfoldable may_use : Ledger → ℕ → ℕ → ℕ → Bool
may_use l u r d = l.holds u r && l.may_read r d

-- a user who has a role that may read a database of a flow's reach may statically read the flow
reads_at : (l : Ledger) (u : ℕ) (flow : Flow) (r d : ℕ) → r < role_count → d < database_count → flow.reach d ≡ true → may_use l u r d ≡ true → reads l u flow ≡ true
unfolding reads may_use
reads_at l u flow r d k m a b =
    let e = and_both (l.holds u r) (l.may_read r d) b in
    some_at role_count (λ x. l.holds u x && some database_count (λ y. flow.reach y && l.may_read x y)) r k
    (and_true e.0 (some_at database_count (λ y. flow.reach y && l.may_read r y) d m (and_true a e.1)))

-- the role by which a passed read reads
reader : {l : Ledger} {p : Product} {u s f d : ℕ} → Passed l p u s f d → (r : ℕ) × (r < role_count) × (may_use l u r d ≡ true)
unfolding may_use
reader {l} {p} {u} {s} {f} {d} h = some_of role_count (λ r. l.holds u r && l.may_read r d) h.permitted

-- a passed read's user may statically read its flow
reads_passed : {l : Ledger} {p : Product} {u s f d : ℕ} → Passed l p u s f d → reads l u (flow_of l p s f) ≡ true
reads_passed {l} {p} {u} {s} {f} {d} h = let r = reader h in reads_at l u (flow_of l p s f) r.0 d r.1 h.inside h.reached r.2

-- a user who holds a denied role of flow b and is not linked there does not read an older flow beside it
not_both : (l : Ledger) (p : Product) (u s a b : ℕ) → a < b → linked l p u s b ≡ false → holds_denied l u (flow_of l p s b) ≡ true
    → reads l u (flow_of l p s a) ≡ true → reads l u (flow_of l p s b) ≡ true → ⊥
unfolding linked reads_two_of
not_both l p u s a b k h e v w =
    true≢false (sym (and_true e (le-leb 2 (count (suc b) readable) (count_two (suc b) readable a b (omega arith) (omega arith) (omega arith) v w))) ∙ h)
  where
    readable : ℕ → Bool
    readable g = reads l u (flow_of l p s g)

-- ---- an older ledger and a later one

-- user u got nothing from l to m: no version, no role, and the roles that u still holds may read what they could
pub record Stays (l m : Ledger) (u : ℕ) : Type 0 where
  pub version : m.version u ≡ l.version u
  pub held : (r : ℕ) → m.holds u r ≡ true → l.holds u r ≡ true
  pub readers : (r : ℕ) → m.holds u r ≡ true → (d : ℕ) → m.may_read r d ≡ l.may_read r d

pub record Since (l m : Ledger) : Type 0 where
  pub rises : l.system ≤ m.system
  -- a flow stays as it was added
  pub flows : (p : Product) (s f : ℕ) → f < length (l.flows p s) → (f < length (m.flows p s)) × (flow_of m p s f ≡ flow_of l p s f)
  -- a user's version rose above the system's of then, or the user got nothing
  pub users : (u : ℕ) → (l.system < m.version u) ⊎ Stays l m u

stays_now : (l : Ledger) (u : ℕ) → Stays l l u
stays_now l u = record { version = refl; held = λ r h. h; readers = λ r h d. refl }

since_now : (l : Ledger) → Since l l
since_now l = record { rises = omega arith; flows = λ p s f k. (k, refl); users = λ u. inr (stays_now l u) }

since_both : (l m n : Ledger) → Since l m → Since m n → Since l n
since_both l m n a b = record {
  rises = omega (arith, a.rises, b.rises);
  flows = λ p s f k.
      let v = a.flows p s f k in
      let w = b.flows p s f v.0 in
      (w.0, w.1 ∙ v.1);
  users = λ u. go u (a.users u) (b.users u);
}
  where
    go : (u : ℕ) → (l.system < m.version u) ⊎ Stays l m u → (m.system < n.version u) ⊎ Stays m n u → (l.system < n.version u) ⊎ Stays l n u
    go u p (inl q) = inl (omega (arith, a.rises))
    go u (inl p) (inr q) = inl (rw q.version p)
    go u (inr p) (inr q) = inr (record {
      version = q.version ∙ p.version;
      held = λ r h. p.held r (q.held r h);
      readers = λ r h d. q.readers r h d ∙ p.readers r (q.held r h) d;
    })

-- every flow's version is at most the system's, and a session that is not open has no flows
pub record Ordered (l : Ledger) : Type 0 where
  pub flows : (p : Product) (s f : ℕ) → f < length (l.flows p s) → (flow_of l p s f).version ≤ l.system
  pub shut : (p : Product) (s : ℕ) → l.opened p s ≡ false → l.flows p s ≡ []

-- ---- pairs entered and struck out

module _ (pairs : ℕ → ℕ → Bool) (a b c d : ℕ) where
  plus_of : plus pairs a b c d ≡ true → (pairs c d ≡ true) ⊎ (c ≡ a)
  unfolding plus
  plus_of h = ⊎_elim (λ t. inl t) (λ t. inr (eqb-true c a (and_both (eqb c a) (eqb d b) t).0)) (or_either (pairs c d) (eqb c a && eqb d b) h)

  plus_keeps : pairs c d ≡ true → plus pairs a b c d ≡ true
  unfolding plus
  plus_keeps h = or_left (eqb c a && eqb d b) h

  plus_other : c ≢ a → plus pairs a b c d ≡ pairs c d
  unfolding plus
  plus_other n = rw (ne_eqb c a n) (sym (or_none (pairs c d)))

  minus_of : minus pairs a b c d ≡ true → pairs c d ≡ true
  unfolding minus
  minus_of h = (and_both (pairs c d) (not (eqb c a && eqb d b)) h).0

  minus_other : c ≢ a → minus pairs a b c d ≡ pairs c d
  unfolding minus
  minus_other n = rw (ne_eqb c a n) (sym (and_all (pairs c d)))

-- ---- a change of the tables

-- the rest of the ledger
pub entered_rest : (l : Ledger) (c : Change) → ((entered l c).system ≡ l.system) × ((entered l c).version ≡ l.version) × ((entered l c).opened ≡ l.opened) × ((entered l c).flows ≡ l.flows)
unfolding entered
entered_rest l (Assign u r) = (refl, refl, refl, refl)
entered_rest l (Withdraw u r) = (refl, refl, refl, refl)
entered_rest l (Permit r d) = (refl, refl, refl, refl)
entered_rest l (Revoke r d) = (refl, refl, refl, refl)
entered_rest l (Forward d e) = (refl, refl, refl, refl)
entered_rest l (Mandate r d) = (refl, refl, refl, refl)

-- two roles of which a user holds one differ
not_held : (l : Ledger) (u r x : ℕ) → l.holds u x ≡ false → l.holds u r ≡ true → r ≢ x
not_held l u r x n h e = true≢false (sym h ∙ ap (l.holds u) e ∙ n)

-- a user who is due no new version gets no role, and the roles that the user holds may read what they could
undue : (l : Ledger) (c : Change) (u r : ℕ) → due l c u ≡ false → (entered l c).holds u r ≡ true → (l.holds u r ≡ true) × ((d : ℕ) → (entered l c).may_read r d ≡ l.may_read r d)
unfolding due entered
undue l (Assign w x) u r n h = (⊎_elim (λ t. t) (λ t. absurd (eqb-false u w n t)) (plus_of l.holds w x u r h), λ d. refl)
undue l (Withdraw w x) u r n h = (minus_of l.holds w x u r h, λ d. refl)
undue l (Permit x y) u r n h = (h, λ d. plus_other l.may_read x y r d (not_held l u r x n h))
undue l (Revoke x y) u r n h = (h, λ d. minus_other l.may_read x y r d (not_held l u r x n h))
undue l (Forward x y) u r n h = (h, λ d. refl)
undue l (Mandate x y) u r n h = (h, λ d. refl)

module _ (l : Ledger) (c : Change) where
  pub change_rises : l.system ≤ (taken l (Table c)).system
  unfolding taken renewed
  change_rises = go (some user_count (due l c))
    where
      go : (b : Bool) → l.system ≤ cond b ((entered l c).system + 1) (entered l c).system
      go true = omega (arith, (entered_rest l c).0)
      go false = omega (arith, (entered_rest l c).0)

  change_users : (u : ℕ) → (l.system < (taken l (Table c)).version u) ⊎ Stays l (taken l (Table c)) u
  unfolding taken renewed
  change_users u = go (due l c u) refl
    where
      go : (b : Bool) → due l c u ≡ b → (l.system < (taken l (Table c)).version u) ⊎ Stays l (taken l (Table c)) u
      go true h = inl (rw h (omega (arith, (entered_rest l c).0)))
      go false h = inr (record {
        version = rw (h, (entered_rest l c).1);
        held = λ r t. (undue l c u r h t).0;
        readers = λ r t d. (undue l c u r h t).1 d;
      })

  change_flows : (taken l (Table c)).flows ≡ l.flows
  unfolding taken renewed
  change_flows = (entered_rest l c).3

  since_change : Since l (taken l (Table c))
  unfolding flow_of
  since_change = record { rises = change_rises; flows = λ p s f k. rw change_flows (k, refl); users = change_users }

  ordered_change : Ordered l → Ordered (taken l (Table c))
  unfolding flow_of taken renewed
  ordered_change o = record {
    flows = λ p s f. rw change_flows (λ k. omega (arith, o.flows p s f k, change_rises));
    shut = λ p s. rw ((entered_rest l c).2, change_flows) (o.shut p s);
  }

-- a change that takes nothing from the user leaves what the user may read
change_leaves : (l : Ledger) (c : Change) (u r d : ℕ) → takes_from l u c ≡ false → may_use l u r d ≡ true → may_use (taken l (Table c)) u r d ≡ true
unfolding may_use taken renewed entered takes_from
change_leaves l (Assign w x) u r d n h = let e = and_both (l.holds u r) (l.may_read r d) h in and_true (plus_keeps l.holds w x u r e.0) e.1
change_leaves l (Withdraw w x) u r d n h = rw (minus_other l.holds w x u r (λ e. eqb-false w u n (sym e))) h
change_leaves l (Permit x y) u r d n h = let e = and_both (l.holds u r) (l.may_read r d) h in and_true e.0 (plus_keeps l.may_read x y r d e.1)
change_leaves l (Revoke x y) u r d n h =
    let e = and_both (l.holds u r) (l.may_read r d) h in
    rw (minus_other l.may_read x y r d (not_held l u r x n e.0)) h
change_leaves l (Forward x y) u r d n h = h
change_leaves l (Mandate x y) u r d n h = h

-- ---- what is asked of a session

-- the rest of the ledger
asked_rest : (l : Ledger) (p : Product) (s : ℕ) (a : Ask)
    → ((asked l p s a).system ≡ l.system) × ((asked l p s a).version ≡ l.version) × ((asked l p s a).holds ≡ l.holds) × ((asked l p s a).may_read ≡ l.may_read)
unfolding asked with_flows
asked_rest l p s Open = (refl, refl, refl, refl)
asked_rest l p s (Conflicting d) = (refl, refl, refl, refl)
asked_rest l p s (Add d m) = (refl, refl, refl, refl)
asked_rest l p s (Show f) = (refl, refl, refl, refl)

-- an accepted opening is of a session that is not open
opens_shut : (l : Ledger) (p : Product) (s : ℕ) → accepts l (Session p s Open) ≡ true → l.opened p s ≡ false
unfolding accepts refusal rows ask_rows
opens_shut l p s h = (not_met 2 _ _ (not_met 1 _ _ (eqb-true (refusal l (Session p s Open)) 0 h)).1).0

-- two sessions are one where the products are and the numbers are
pub one_session : (q p : Product) (t s : ℕ) → (same q p && eqb t s) ≡ true → (q ≡ p) × (t ≡ s)
one_session q p t s h = let w = and_both (same q p) (eqb t s) h in (same_is q p w.0, eqb-true t s w.1)

-- m's flows of session s are l's, or those and one more, whose version is l's system version
Longer : Ledger → Product → ℕ → Ledger → Type 0
Longer l p s m = (m.flows p s ≡ l.flows p s) ⊎ ((flow : Flow) × (flow.version ≡ l.system) × (m.flows p s ≡ l.flows p s ++ (flow ∷ [])))

asked_flows : (l : Ledger) (p : Product) (s : ℕ) (a : Ask) (q : Product) (t : ℕ) → Ordered l → accepts l (Session p s a) ≡ true → Longer l q t (asked l p s a)
unfolding Longer asked with_flows new_flow
asked_flows l p s Open q t o h = inl (go (same q p && eqb t s) refl)
  where
    go : (b : Bool) → (same q p && eqb t s) ≡ b → cond b [] (l.flows q t) ≡ l.flows q t
    go true e = let w = one_session q p t s e in rw (w.0, w.1) (sym (o.shut p s (opens_shut l p s h)))
    go false e = refl
asked_flows l p s (Conflicting d) q t o h = inl refl
asked_flows l p s (Add d m) q t o h = go (same q p && eqb t s) refl
  where
    new : Flow
    new = new_flow l p s d m

    go : (b : Bool) → (same q p && eqb t s) ≡ b → (cond b (l.flows p s ++ (new ∷ [])) (l.flows q t) ≡ l.flows q t)
        ⊎ ((flow : Flow) × (flow.version ≡ l.system) × (cond b (l.flows p s ++ (new ∷ [])) (l.flows q t) ≡ l.flows q t ++ (flow ∷ [])))
    go true e = let w = one_session q p t s e in inr (new, refl, rw (w.0, w.1))
    go false e = inl refl
asked_flows l p s (Show f) q t o h = inl refl

asked_shut : (l : Ledger) (p : Product) (s : ℕ) (a : Ask) → Ordered l → (q : Product) (t : ℕ) → (asked l p s a).opened q t ≡ false → (asked l p s a).flows q t ≡ []
unfolding asked with_flows
asked_shut l p s Open o q t h = let w = or_neither (l.opened q t) (same q p && eqb t s) h in rw w.1 (o.shut q t w.0)
asked_shut l p s (Conflicting d) o q t h = o.shut q t h
asked_shut l p s (Add d m) o q t h = let w = or_neither (l.opened q t) (same q p && eqb t s) h in rw w.1 (o.shut q t w.0)
asked_shut l p s (Show f) o q t h = o.shut q t h

longer_keeps : (l m : Ledger) (p : Product) (s f : ℕ) → Longer l p s m → f < length (l.flows p s) → (f < length (m.flows p s)) × (flow_of m p s f ≡ flow_of l p s f)
unfolding Longer flow_of
longer_keeps l m p s f (inl e) k = rw e (k, refl)
longer_keeps l m p s f (inr (flow, v, e)) k = rw e (omega (arith, length-append (l.flows p s) (flow ∷ [])), get_or-append (l.flows p s) (flow ∷ []) _ f k)

-- one flow more, whose version is not above n either
one_flow_more : (flows : List Flow) (new none : Flow) (n f : ℕ) → (f < length flows → (get_or flows f none).version ≤ n) → new.version ≤ n
    → f < length (flows ++ (new ∷ [])) → (get_or (flows ++ (new ∷ [])) f none).version ≤ n
one_flow_more flows new none n f h v k = go (dec_lt f (length flows))
  where
    go : Dec (f < length flows) → (get_or (flows ++ (new ∷ [])) f none).version ≤ n
    go (yes i) = rw (get_or-append flows (new ∷ []) none f i) (h i)
    go (no i) = rw (get_or_at flows new [] none f (omega (arith, length-append flows (new ∷ [])))) v

longer_ordered : (l m : Ledger) (p : Product) (s f : ℕ) → Ordered l → m.system ≡ l.system → Longer l p s m → f < length (m.flows p s) → (flow_of m p s f).version ≤ m.system
unfolding Longer flow_of
longer_ordered l m p s f o n (inl e) = rw e (λ k. omega (arith, o.flows p s f k))
longer_ordered l m p s f o n (inr (flow, v, e)) = rw e (one_flow_more (l.flows p s) flow _ m.system f (λ k. omega (arith, o.flows p s f k)) (omega arith))

module _ (l : Ledger) (p : Product) (s : ℕ) (a : Ask) (o : Ordered l) (h : accepts l (Session p s a) ≡ true) where
  since_ask : Since l (asked l p s a)
  since_ask = record {
    rises = omega (arith, (asked_rest l p s a).0);
    flows = λ q t f k. longer_keeps l (asked l p s a) q t f (asked_flows l p s a q t o h) k;
    users = λ u. inr (record {
      version = rw (asked_rest l p s a).1;
      held = λ r. rw (asked_rest l p s a).2 (λ t. t);
      readers = λ r t d. rw (asked_rest l p s a).3;
    });
  }

  ordered_ask : Ordered (asked l p s a)
  ordered_ask = record {
    flows = λ q t f k. longer_ordered l (asked l p s a) q t f o (asked_rest l p s a).0 (asked_flows l p s a q t o h) k;
    shut = asked_shut l p s a o;
  }

-- ---- any call

-- the ledger stays, or the call is accepted
pub step_by : (P : Ledger → Type 0) (l : Ledger) (c : Call) → P l → (accepts l c ≡ true → P (taken l c)) → P (ledger_step l c)
unfolding ledger_step
step_by P l c h f = go (accepts l c) refl
  where
    go : (b : Bool) → accepts l c ≡ b → P (cond b (taken l c) l)
    go true e = f e
    go false e = h

since_taken : (l : Ledger) (c : Call) → Ordered l → accepts l c ≡ true → Since l (taken l c)
unfolding taken
since_taken l (Table c) o h = since_change l c
since_taken l (Session p s a) o h = since_ask l p s a o h
since_taken l (Read p u s f d) o h = since_now l
since_taken l Unreadable o h = since_now l

pub since_step : (l : Ledger) (c : Call) → Ordered l → Since l (ledger_step l c)
since_step l c o = step_by (Since l) l c (since_now l) (since_taken l c o)

ordered_taken : (l : Ledger) (c : Call) → Ordered l → accepts l c ≡ true → Ordered (taken l c)
unfolding taken
ordered_taken l (Table c) o h = ordered_change l c o
ordered_taken l (Session p s a) o h = ordered_ask l p s a o h
ordered_taken l (Read p u s f d) o h = o
ordered_taken l Unreadable o h = o

pub ordered_step : (l : Ledger) (c : Call) → Ordered l → Ordered (ledger_step l c)
ordered_step l c o = step_by Ordered l c o (ordered_taken l c o)

pub ordered_start : Ordered start
unfolding start
ordered_start = record { flows = λ p s f k. absurd (omega arith); shut = λ p s h. refl }

-- the call takes nothing from the user, as only an accepted change of the tables can
Spares : Ledger → ℕ → Call → Type 0
Spares l u x = (c : Change) → x ≡ Table c → accepts l (Table c) ≡ true → takes_from l u c ≡ false

taken_leaves : (l : Ledger) (x : Call) (u r d : ℕ) → Spares l u x → accepts l x ≡ true → may_use l u r d ≡ true → may_use (taken l x) u r d ≡ true
unfolding Spares taken may_use
taken_leaves l (Table c) u r d n a h = change_leaves l c u r d (n c refl a) h
taken_leaves l (Session p s b) u r d n a h = rw ((asked_rest l p s b).2, (asked_rest l p s b).3) h
taken_leaves l (Read p w s f y) u r d n a h = h
taken_leaves l Unreadable u r d n a h = h

step_leaves : (l : Ledger) (x : Call) (u r d : ℕ) → Spares l u x → may_use l u r d ≡ true → may_use (ledger_step l x) u r d ≡ true
step_leaves l x u r d n h = step_by (λ m. may_use m u r d ≡ true) l x h (λ a. taken_leaves l x u r d n a h)

-- ---- one call after the other

-- what every step keeps holds to the end
pub along : (P : ℕ → Type 0) (i j : ℕ) → i ≤ j → P i → ((k : ℕ) → i ≤ k → k < j → P k → P (suc k)) → P j
along P i zero l h f = subst P (omega arith) h
along P i (suc j) l h f = go (dec_lt j i) (along P i j)
  where
    go : Dec (j < i) → (i ≤ j → P i → ((k : ℕ) → i ≤ k → k < j → P k → P (suc k)) → P j) → P (suc j)
    go (yes m) r = subst P (omega arith) h
    go (no m) r = f j (omega arith) (omega arith) (r (omega arith) h (λ k a b. f k a (omega arith)))

pub ledger_both : (l : Ledger) (xs ys : List Call) → ledger_after l (xs ++ ys) ≡ ledger_after (ledger_after l xs) ys
unfolding ledger_after
ledger_both l [] ys = refl
ledger_both l (x ∷ xs) ys = ledger_both (ledger_step l x) xs ys

pub ledger_step_is : (cs : List Call) (k : ℕ) → k < length cs → ledger_at cs (suc k) ≡ ledger_step (ledger_at cs k) (call_at cs k)
unfolding ledger_at call_at ledger_after
ledger_step_is cs k h = rw (take-suc cs k Unreadable) (ledger_both start (take k cs) (get_or cs k Unreadable ∷ []))

ordered_after : (l : Ledger) (cs : List Call) → Ordered l → Ordered (ledger_after l cs)
unfolding ledger_after
ordered_after l [] o = o
ordered_after l (c ∷ cs) o = ordered_after (ledger_step l c) cs (ordered_step l c o)

pub ordered_at : (cs : List Call) (k : ℕ) → Ordered (ledger_at cs k)
unfolding ledger_at
ordered_at cs k = ordered_after start (take k cs) ordered_start

since_at : (cs : List Call) (i j : ℕ) → i ≤ j → j ≤ length cs → Since (ledger_at cs i) (ledger_at cs j)
since_at cs i j l m =
    along (λ n. Since (ledger_at cs i) (ledger_at cs n)) i j l (since_now (ledger_at cs i))
    (λ n a b h. rw (ledger_step_is cs n (omega arith)) (since_both (ledger_at cs i) (ledger_at cs n) _ h (since_step (ledger_at cs n) (call_at cs n) (ordered_at cs n))))

-- what a user may read stays while nothing is taken from the user
left_at : (cs : List Call) (i j u r d : ℕ) → i ≤ j → j ≤ length cs → ((k : ℕ) → i ≤ k → k < j → Spares (ledger_at cs k) u (call_at cs k))
    → may_use (ledger_at cs i) u r d ≡ true → may_use (ledger_at cs j) u r d ≡ true
left_at cs i j u r d l m n h =
    along (λ k. may_use (ledger_at cs k) u r d ≡ true) i j l h
    (λ k a b t. rw (ledger_step_is cs k (omega arith)) (step_leaves (ledger_at cs k) (call_at cs k) u r d (n k a b) t))

-- ---- demand 3, first half

pub first_half : (cs : List Call) (p : Product) (i j u s f g d e : ℕ) → i < j → j < length cs
    → call_at cs i ≡ Read p u s f d → call_at cs j ≡ Read p u s g e → f ≢ g
    → refusal (ledger_at cs i) (Read p u s f d) ≡ 0 → refusal (ledger_at cs j) (Read p u s g e) ≡ 0
    → under_mandate (ledger_at cs i) u d ≡ false → under_mandate (ledger_at cs j) u e ≡ false
    → (f < g → holds_denied (ledger_at cs j) u (flow_of (ledger_at cs j) p s g) ≡ true)
    → (g < f → holds_denied (ledger_at cs i) u (flow_of (ledger_at cs i) p s f) ≡ true)
    → ((k : ℕ) (c : Change) → i < k → k < j → call_at cs k ≡ Table c → accepts (ledger_at cs k) (Table c) ≡ true → takes_from (ledger_at cs k) u c ≡ false)
    → ⊥
unfolding Spares may_use
first_half cs p i j u s f g d e l m v w n a b o q x y z = go (dec_lt f g)
  where
    then : Ledger
    then = ledger_at cs i

    now : Ledger
    now = ledger_at cs j

    -- the first read and the second
    one : Passed then p u s f d
    one = read_passed then p u s f d o a

    two : Passed now p u s g e
    two = read_passed now p u s g e q b

    since : Since then now
    since = since_at cs i j (omega arith) (omega arith)

    -- the first call is a read, so nothing is taken from it on
    nothing : (k : ℕ) → i ≤ k → k < j → Spares (ledger_at cs k) u (call_at cs k)
    nothing k h t c r = from (dec_lt i k)
      where
        from : Dec (i < k) → accepts (ledger_at cs k) (Table c) ≡ true → takes_from (ledger_at cs k) u c ≡ false
        from (yes x) = z k c x t r
        from (no x) =
            let y : i ≡ k = omega arith in
            let o : Read p u s f d ≡ Table c = sym v ∙ ap (call_at cs) y ∙ r in
            let y : ◌≡◌ {A = ℕ} 0 1 = cc in
            absurd (omega arith)

    -- the older flow f is still readable at the second read
    still : reads now u (flow_of now p s f) ≡ true
    still =
        let r = reader one in
        rw (since.flows p s f one.there).1
        (reads_at now u (flow_of then p s f) r.0 d r.1 one.inside one.reached (left_at cs i j u r.0 d (omega arith) (omega arith) nothing r.2))

    -- the older flow g was readable at the first read: nothing new came to the user since, or row 13 would be met by the second
    already : g < f → reads then u (flow_of then p s g) ≡ true
    already k =
        let r = reader two in
        let w = and_both (now.holds u r.0) (now.may_read r.0 e) r.2 in
        ⊎_elim
        (λ c.
        let v : now.version u ≤ (flow_of then p s g).version = rw same at two.current in
        absurd (omega (arith, (ordered_at cs i).flows p s g older)))
        (λ c. reads_at then u (flow_of then p s g) r.0 e r.1 two.inside (rw same at two.reached)
        (and_true (c.held r.0 w.0) (sym (c.readers r.0 w.0 e) ∙ w.1)))
        (since.users u)
      where
        older : g < length (then.flows p s)
        older = omega (arith, one.there)

        same : flow_of now p s g ≡ flow_of then p s g
        same = (since.flows p s g older).1

    go : Dec (f < g) → ⊥
    go (yes k) = not_both now p u s f g k two.unlinked (x k) still (reads_passed two)
    go (no k) = let t : g < f = omega arith in not_both then p u s g f t one.unlinked (y t) (already t) (reads_passed one)
