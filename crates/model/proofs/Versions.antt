-- Versions stay at or below the last one, whatever it is, and row 9 is met there alone.
-- Assumes nothing.
use Prim.Native.Nat.{ℕ, ◌≤◌, ◌<◌}
use mathlib.Core.Path.{◌≡◌, refl, sym, ap, ◌∙◌}
use mathlib.Core.Bool.{Bool, true, false, not, ◌&&◌, true≢false}
use mathlib.Core.List.{List, [], ◌∷◌, ◌++◌}
use mathlib.Core.Logic.{◌≢◌}
use native.Mathlib.Omega.{arith}
use lib.Dec.{eqb}
use lib.ListN.{take}
use borrow.Author.Tests.{eqb-true, eq-eqb}
use Rattle.sets.specs.Sets.{some}
use Rattle.sets.proofs.Laws.{and_both, some_nowhere, some_at}
use Rattle.tables.specs.Tables.{user_count}
use Rattle.model.specs.declared.calls.Change.{Change}
use Rattle.model.specs.declared.calls.Change.TheVariants.{Assign, Withdraw, Permit, Revoke, Forward, Mandate}
use Rattle.model.specs.declared.calls.Product.{Product}
use Rattle.model.specs.declared.calls.Ask.{Ask}
use Rattle.model.specs.declared.calls.Ask.TheVariants.{Open, Conflicting, Add, Show}
use Rattle.model.specs.declared.calls.Call.{Call}
use Rattle.model.specs.declared.calls.Call.TheVariants.{Table, Session, Read, Unreadable}
use Rattle.model.specs.Limits.{last_version}
use Rattle.model.specs.Ledger.{Ledger, start, linked}
use Rattle.model.specs.Refusals.{due, spent, change_rows, rows, first_met, refusal, accepts, renewed, with_flows, asked, taken, ledger_step, ledger_after}
use Rattle.model.specs.Demands.{ledger_at}
use Rattle.model.specs.Versions.{Versions}
use Rattle.model.proofs.Chains.{not_met}
use Rattle.model.proofs.Left.{HasVersion, few_renewed}
use Rattle.model.proofs.Ledgers.{entered_rest, change_rises, step_by, ordered_at}

-- ---- row 9, which is the last row of a change

-- none of these rows has number 9
unfoldable pub lacks : List (ℕ × Bool) → Bool
lacks [] = true
lacks (row ∷ rows) = not (eqb row.0 9) && lacks rows

other : (n : ℕ) → not (eqb n 9) ≡ true → n ≢ 9
other n h q = true≢false (sym h ∙ ap not (eq-eqb n 9 q))

pub lacking : (rows : List (ℕ × Bool)) → lacks rows ≡ true → first_met rows ≢ 9
unfolding lacks first_met
lacking [] h = λ q. absurd (let z : ◌≡◌ {A = ℕ} 0 9 = q in omega (arith, z))
lacking ((n, true) ∷ rows) h = λ q. other n (and_both (not (eqb n 9)) (lacks rows) h).0 q
lacking ((n, false) ∷ rows) h = lacking rows (and_both (not (eqb n 9)) (lacks rows) h).1

met_last : (front : List (ℕ × Bool)) (b : Bool) → lacks front ≡ true → first_met (front ++ ((9, b) ∷ [])) ≡ 9 → b ≡ true
unfolding lacks first_met
met_last [] true h q = refl
met_last [] false h q = absurd (let z : ◌≡◌ {A = ℕ} 0 9 = q in omega (arith, z))
met_last ((n, true) ∷ front) b h q = absurd (other n (and_both (not (eqb n 9)) (lacks front) h).0 q)
met_last ((n, false) ∷ front) b h q = met_last front b (and_both (not (eqb n 9)) (lacks front) h).1 q

nobody : some user_count (λ w. false) ≡ false
nobody = some_nowhere user_count (λ w. false) (λ w m. refl)

module _ (last : ℕ) (l : Ledger) where
  -- who is refused so is due a version, and there is none left
  pub spent_met : (c : Change) → first_met (change_rows last l c) ≡ 9 → spent last l c ≡ true
  unfolding change_rows lacks
  spent_met (Assign u r) h = met_last (_ ∷ _ ∷ []) (spent last l (Assign u r)) refl h
  spent_met (Withdraw u r) h = absurd (lacking (_ ∷ _ ∷ []) refl h)
  spent_met (Permit r d) h = met_last (_ ∷ _ ∷ []) (spent last l (Permit r d)) refl h
  spent_met (Revoke r d) h = met_last (_ ∷ _ ∷ _ ∷ []) (spent last l (Revoke r d)) refl h
  spent_met (Forward d e) h = absurd (lacking (_ ∷ _ ∷ _ ∷ []) refl h)
  spent_met (Mandate r d) h = absurd (lacking (_ ∷ _ ∷ _ ∷ []) refl h)

  -- an accepted change had a version left, where one is due
  unspent : (c : Change) → first_met (change_rows last l c) ≡ 0 → HasVersion last l c
  unfolding change_rows spent due
  unspent (Assign u r) h = (not_met 8 _ [] (not_met 2 _ _ (not_met 1 _ _ h).1).1).0
  unspent (Withdraw u r) h = rw nobody
  unspent (Permit r d) h = (not_met 8 _ [] (not_met 2 _ _ (not_met 1 _ _ h).1).1).0
  unspent (Revoke r d) h = (not_met 8 _ [] (not_met 14 _ _ (not_met 3 _ _ (not_met 1 _ _ h).1).1).1).0
  unspent (Forward d e) h = rw nobody
  unspent (Mandate r d) h = rw nobody

  -- ---- no version above the last

  few_change : (c : Change) → l.system ≤ last → HasVersion last l c → (taken l (Table c)).system ≤ last
  unfolding taken renewed
  few_change c h n = rw (entered_rest l c).0 (few_renewed last l.system (some user_count (due l c)) h n)

  few_asked : (p : Product) (s : ℕ) (a : Ask) → l.system ≤ last → (asked l p s a).system ≤ last
  unfolding asked with_flows
  few_asked p s Open h = h
  few_asked p s (Conflicting d) h = h
  few_asked p s (Add d m) h = h
  few_asked p s (Show f) h = h

  pub few_taken : (c : Call) → l.system ≤ last → first_met (rows last l (linked l) c) ≡ 0 → (taken l c).system ≤ last
  unfolding rows taken
  few_taken (Table c) h a = few_change c h (unspent c a)
  few_taken (Session p s a) h b = few_asked p s a h
  few_taken (Read p u s f d) h a = h
  few_taken Unreadable h a = h

-- ---- every user's version is at most the system's

OldUsers : Ledger → Type 0
OldUsers l = (u : ℕ) → u < user_count → l.version u ≤ l.system

users_taken : (l : Ledger) (c : Call) → OldUsers l → OldUsers (taken l c)
unfolding OldUsers taken
users_taken l (Table c) h u k = go (due l c u) refl
  where
    go : (b : Bool) → due l c u ≡ b → (taken l (Table c)).version u ≤ (taken l (Table c)).system
    go true q = unfold renewed in rw (q, (entered_rest l c).0, some_at user_count (due l c) u k q) (omega arith)
    go false q = let r = change_rises l c in let v : (taken l (Table c)).version u ≡ l.version u = unfold renewed in rw (q, (entered_rest l c).1) in omega (arith, r, v, h u k)
users_taken l (Session p s a) h u k = go a
  where
    go : (a : Ask) → (asked l p s a).version u ≤ (asked l p s a).system
    go Open = unfold asked with_flows in h u k
    go (Conflicting d) = unfold asked with_flows in h u k
    go (Add d m) = unfold asked with_flows in h u k
    go (Show f) = unfold asked with_flows in h u k
users_taken l (Read p v s f d) h u k = h u k
users_taken l Unreadable h u k = h u k

-- ---- for every list

record Below (l : Ledger) : Type 0 where
  system : l.system ≤ last_version
  users : OldUsers l

below_after : (l : Ledger) (cs : List Call) → Below l → Below (ledger_after l cs)
unfolding ledger_after accepts refusal
below_after l [] h = h
below_after l (c ∷ cs) h =
    below_after (ledger_step l c) cs
    (step_by Below l c h (λ a. record { system = few_taken last_version l c h.system (eqb-true _ 0 a); users = users_taken l c h.users }))

below_at : (cs : List Call) (i : ℕ) → Below (ledger_at cs i)
unfolding ledger_at start OldUsers
below_at cs i = below_after start (take i cs) (record { system = omega arith; users = λ u k. omega arith })

pub versions : (cs : List Call) → Versions cs
unfolding refusal rows spent OldUsers
versions cs = record {
  bits = refl;
  system = λ i. (below_at cs i).system;
  users = λ i. (below_at cs i).users;
  flows = λ i. (ordered_at cs i).flows;
  ninth = λ i c h. let s = and_both (some user_count (due (ledger_at cs i) c)) _ (spent_met last_version (ledger_at cs i) c h) in (eqb-true _ last_version s.1, s.0);
}
