-- K1: what a ledger holds without one product's sessions is nothing to the other product's calls, nor to the tables; so a list returns to those
-- what the list without that product's calls returns.
-- Assumes nothing.
use Prim.Native.Nat.{ℕ, zero, suc, ◌<◌}
use mathlib.Core.Path.{◌≡◌, refl, sym, ap, ap₂, ◌∙◌, fun_ext}
use mathlib.Core.Bool.{Bool, true, false, cond, ◌&&◌, true≢false, false≢true}
use mathlib.Core.List.{List, [], ◌∷◌, ◌++◌}
use native.Mathlib.Omega.{arith}
use lib.Dec.{eqb}
use lib.ListN.{take}
use Rattle.sets.specs.Sets.{some}
use Rattle.sets.proofs.Laws.{or_none}
use Rattle.model.specs.declared.calls.Change.{Change}
use Rattle.model.specs.declared.calls.Change.TheVariants.{Assign, Withdraw, Permit, Revoke, Forward, Mandate}
use Rattle.model.specs.declared.calls.Product.{Product}
use Rattle.model.specs.declared.calls.Product.TheVariants.{Server, TermBank}
use Rattle.model.specs.declared.calls.Ask.TheVariants.{Open, Conflicting, Add, Show}
use Rattle.model.specs.declared.calls.Call.{Call}
use Rattle.model.specs.declared.calls.Call.TheVariants.{Table, Session, Read, Unreadable}
use Rattle.model.specs.Ledger.{Ledger, Flow, start, same, flow_of, reach_of, reads, reads_two_of, is_conflicting, holds_denied, linked, under_mandate}
use Rattle.model.specs.Refusals.{due, spent, flow_added, new_flow, rows, change_rows, ask_rows, check_rows, read_rows, first_met, refusal, accepts, entered, renewed, with_flows, asked, taken, ledger_step, ledger_after}
use Rattle.model.specs.Demands.{call_at, ledger_at}
use Rattle.model.specs.Products.{is_of, struck, numbers_left, ForwardsFirst}
use Rattle.model.proofs.Ledgers.{step_by}

-- ---- a ledger without one product's sessions

unfoldable pub with_sessions : Ledger → (Product → ℕ → Bool) → (Product → ℕ → List Flow) → Ledger
with_sessions l opened flows = record { holds = l.holds; may_read = l.may_read; forwards = l.forwards; mandated = l.mandated; system = l.system; version = l.version; opened = opened; flows = flows }

unfoldable pub without : Product → Ledger → Ledger
unfolding with_sessions
without q l = with_sessions l (λ p s. cond (same p q) false (l.opened p s)) (λ p s. cond (same p q) [] (l.flows p s))

-- a product's part: equal where it is so for both
pub by_product : {A : Type 0} {f g : Product → A} → f Server ≡ g Server → f TermBank ≡ g TermBank → f ≡ g
by_product {f = f} {g = g} a b = fun_ext (λ p. go p)
  where
    go : (p : Product) → f p ≡ g p
    go Server = a
    go TermBank = b

-- ---- the rows

unfoldable pub NoFlow : Ledger → Type 0
NoFlow l = l.flows ≡ (λ p s. [])

-- a forwarding call finds no flow
abbrev pub Early : Ledger → Call → Type 0
Early l c = (d e : ℕ) → c ≡ Table (Forward d e) → NoFlow l

pub not_added : (l : Ledger) → NoFlow l → flow_added l ≡ false
unfolding flow_added NoFlow some
not_added l h = rw h

no_flow_without : (q : Product) (l : Ledger) → NoFlow l → NoFlow (without q l)
unfolding NoFlow without with_sessions same
no_flow_without Server l h = by_product refl (ap (λ (f : Product → ℕ → List Flow). f TermBank) h)
no_flow_without TermBank l h = by_product (ap (λ (f : Product → ℕ → List Flow). f Server) h) refl

forward_refusal : (q : Product) (l : Ledger) (d e : ℕ) → NoFlow l → refusal (without q l) (Table (Forward d e)) ≡ refusal l (Table (Forward d e))
unfolding refusal rows change_rows first_met
forward_refusal q l d e h = rw (not_added l h, not_added (without q l) (no_flow_without q l h)) (unfold without with_sessions in refl)

pub same_refusal : (q : Product) (l : Ledger) (c : Call) → is_of q c ≡ false → Early l c → refusal (without q l) c ≡ refusal l c
unfolding refusal rows change_rows ask_rows check_rows read_rows first_met is_of without with_sessions due spent new_flow is_conflicting reads_two_of reads linked holds_denied under_mandate flow_of reach_of
same_refusal q l (Table (Assign u r)) h k = refl
same_refusal q l (Table (Withdraw u r)) h k = refl
same_refusal q l (Table (Permit r d)) h k = refl
same_refusal q l (Table (Revoke r d)) h k = refl
same_refusal q l (Table (Forward d e)) h k = forward_refusal q l d e (k d e refl)
same_refusal q l (Table (Mandate r d)) h k = refl
same_refusal q l (Session p s Open) h k = rw h
same_refusal q l (Session p s (Conflicting d)) h k = rw h
same_refusal q l (Session p s (Add d m)) h k = rw h
same_refusal q l (Session p s (Show f)) h k = rw h
same_refusal q l (Read p u s f d) h k = rw h
same_refusal q l Unreadable h k = refl

-- ---- the ledger after a call

flows_without : (q p : Product) (l : Ledger) (s : ℕ) (new : List Flow) → same p q ≡ false → without q (with_flows l p s new) ≡ with_flows (without q l) p s new
unfolding without with_sessions with_flows same
flows_without Server Server l s new h = absurd (true≢false h)
flows_without Server TermBank l s new h =
    let a : (without Server (with_flows l TermBank s new)).opened ≡ (with_flows (without Server l) TermBank s new).opened = by_product refl refl in
    let b : (without Server (with_flows l TermBank s new)).flows ≡ (with_flows (without Server l) TermBank s new).flows = by_product refl refl in
    ap₂ (with_sessions l) a b
flows_without TermBank TermBank l s new h = absurd (true≢false h)
flows_without TermBank Server l s new h =
    let a : (without TermBank (with_flows l Server s new)).opened ≡ (with_flows (without TermBank l) Server s new).opened = by_product refl refl in
    let b : (without TermBank (with_flows l Server s new)).flows ≡ (with_flows (without TermBank l) Server s new).flows = by_product refl refl in
    ap₂ (with_sessions l) a b

flows_other : (q p : Product) (l : Ledger) (s : ℕ) (new : List Flow) → same p q ≡ true → without q (with_flows l p s new) ≡ without q l
unfolding without with_sessions with_flows same
flows_other Server TermBank l s new h = absurd (false≢true h)
flows_other Server Server l s new h =
    let a : (without Server (with_flows l Server s new)).opened ≡ (without Server l).opened = by_product refl (fun_ext (λ t. sym (or_none (l.opened TermBank t)))) in
    let b : (without Server (with_flows l Server s new)).flows ≡ (without Server l).flows = by_product refl refl in
    ap₂ (with_sessions l) a b
flows_other TermBank Server l s new h = absurd (false≢true h)
flows_other TermBank TermBank l s new h =
    let a : (without TermBank (with_flows l TermBank s new)).opened ≡ (without TermBank l).opened = by_product (fun_ext (λ t. sym (or_none (l.opened Server t)))) refl in
    let b : (without TermBank (with_flows l TermBank s new)).flows ≡ (without TermBank l).flows = by_product refl refl in
    ap₂ (with_sessions l) a b

-- what an addition enters in a product's session
unfoldable pub more : Ledger → Product → ℕ → ℕ → ℕ → List Flow
more l p s d m = l.flows p s ++ (new_flow l p s d m ∷ [])

same_more : (q p : Product) (l : Ledger) (s d m : ℕ) → same p q ≡ false → more (without q l) p s d m ≡ more l p s d m
unfolding more without with_sessions new_flow reach_of
same_more q p l s d m h = rw h

same_taken : (q : Product) (l : Ledger) (c : Call) → is_of q c ≡ false → without q (taken l c) ≡ taken (without q l) c
unfolding taken asked is_of
same_taken q l (Table (Assign u r)) h = unfold without with_sessions renewed entered due in refl
same_taken q l (Table (Withdraw u r)) h = unfold without with_sessions renewed entered due in refl
same_taken q l (Table (Permit r d)) h = unfold without with_sessions renewed entered due in refl
same_taken q l (Table (Revoke r d)) h = unfold without with_sessions renewed entered due in refl
same_taken q l (Table (Forward d e)) h = unfold without with_sessions renewed entered due in refl
same_taken q l (Table (Mandate r d)) h = unfold without with_sessions renewed entered due in refl
same_taken q l (Session p s Open) h = flows_without q p l s [] h
same_taken q l (Session p s (Conflicting d)) h = refl
same_taken q l (Session p s (Add d m)) h = unfold more in flows_without q p l s (more l p s d m) h ∙ ap (with_flows (without q l) p s) (sym (same_more q p l s d m h))
same_taken q l (Session p s (Show f)) h = refl
same_taken q l (Read p u s f d) h = refl
same_taken q l Unreadable h = refl

other_taken : (q : Product) (l : Ledger) (c : Call) → is_of q c ≡ true → without q (taken l c) ≡ without q l
unfolding taken asked is_of
other_taken q l (Table c) h = absurd (false≢true h)
other_taken q l (Session p s Open) h = flows_other q p l s [] h
other_taken q l (Session p s (Conflicting d)) h = refl
other_taken q l (Session p s (Add d m)) h = flows_other q p l s (l.flows p s ++ (new_flow l p s d m ∷ [])) h
other_taken q l (Session p s (Show f)) h = refl
other_taken q l (Read p u s f d) h = refl
other_taken q l Unreadable h = absurd (false≢true h)

-- what is made of the one or the other
pub chosen : (f : Ledger → Ledger) (a b : Bool) (x y z w : Ledger) → b ≡ a → f x ≡ z → f y ≡ w → f (cond a x y) ≡ cond b z w
chosen f true b x y z w e h k = rw e h
chosen f false b x y z w e h k = rw e k

pub same_step : (q : Product) (l : Ledger) (c : Call) → is_of q c ≡ false → Early l c → without q (ledger_step l c) ≡ ledger_step (without q l) c
unfolding ledger_step accepts
same_step q l c h k =
    chosen (without q) (eqb (refusal l c) 0) (eqb (refusal (without q l) c) 0) (taken l c) l (taken (without q l) c) (without q l) (ap (λ (n : ℕ). eqb n 0) (same_refusal q l c h k)) (same_taken q l c h) refl

pub other_step : (q : Product) (l : Ledger) (c : Call) → is_of q c ≡ true → without q (ledger_step l c) ≡ without q l
other_step q l c h = step_by (λ m. without q m ≡ without q l) l c refl (λ a. other_taken q l c h)

-- ---- the premise

abbrev pub AllEarly : Ledger → List Call → Type 0
AllEarly l cs = (i : ℕ) → Early (ledger_after l (take i cs)) (call_at cs i)

no_flow_open : (l : Ledger) (p : Product) (s : ℕ) → NoFlow l → NoFlow (with_flows l p s [])
unfolding NoFlow with_flows
no_flow_open l p s h = fun_ext (λ q. fun_ext (λ t. go (same q p && eqb t s) (ap (λ (f : Product → ℕ → List Flow). f q t) h)))
  where
    go : (a : Bool) {xs : List Flow} → xs ≡ [] → cond a [] xs ≡ []
    go true h = refl
    go false h = h

no_flow_change : (l : Ledger) (c : Change) → NoFlow l → NoFlow (taken l (Table c))
unfolding NoFlow taken renewed entered
no_flow_change l (Assign u r) h = h
no_flow_change l (Withdraw u r) h = h
no_flow_change l (Permit r d) h = h
no_flow_change l (Revoke r d) h = h
no_flow_change l (Forward d e) h = h
no_flow_change l (Mandate r d) h = h

no_flow_taken : (l : Ledger) (c : Call) → NoFlow l → ((p : Product) (s root chosen : ℕ) → c ≡ Session p s (Add root chosen) → ⊥) → NoFlow (taken l c)
unfolding taken asked
no_flow_taken l (Table c) h k = unfold taken in no_flow_change l c h
no_flow_taken l (Session p s Open) h k = no_flow_open l p s h
no_flow_taken l (Session p s (Conflicting d)) h k = h
no_flow_taken l (Session p s (Add d m)) h k = absurd (k p s d m refl)
no_flow_taken l (Session p s (Show f)) h k = h
no_flow_taken l (Read p u s f d) h k = h
no_flow_taken l Unreadable h k = h

no_flow_step : (l : Ledger) (c : Call) → NoFlow l → ((p : Product) (s root chosen : ℕ) → c ≡ Session p s (Add root chosen) → accepts l c ≡ true → ⊥) → NoFlow (ledger_step l c)
no_flow_step l c h k = step_by NoFlow l c h (λ a. no_flow_taken l c h (λ p s root chosen e. k p s root chosen e a))

pub no_flow_yet : (l : Ledger) (cs : List Call) (i : ℕ) → NoFlow l
    → ((j : ℕ) (p : Product) (s root chosen : ℕ) → j < i → call_at cs j ≡ Session p s (Add root chosen) → accepts (ledger_after l (take j cs)) (call_at cs j) ≡ true → ⊥)
    → NoFlow (ledger_after l (take i cs))
unfolding ledger_after call_at
no_flow_yet l cs zero h k = h
no_flow_yet l [] (suc i) h k = h
no_flow_yet l (c ∷ cs) (suc i) h k =
    no_flow_yet (ledger_step l c) cs i (no_flow_step l c h (λ p s root chosen. k 0 p s root chosen (omega arith))) (λ j p s root chosen m. k (suc j) p s root chosen (omega arith))

pub early : (cs : List Call) → ForwardsFirst cs → AllEarly start cs
unfolding ledger_at
early cs h i d e f =
    no_flow_yet start cs i (unfold NoFlow start in refl)
    (λ j p s root chosen m x y. let n : i < j = h i j d e f (record { product = p; session = s; root = root; chosen = chosen; there = x; accepted = y }) in omega arith)

-- ---- a whole list

pub start_without : (q : Product) → without q start ≡ start
unfolding without with_sessions same start
start_without Server =
    let a : (without Server start).opened ≡ start.opened = by_product refl refl in
    let b : (without Server start).flows ≡ start.flows = by_product refl refl in
    ap₂ (with_sessions start) a b
start_without TermBank =
    let a : (without TermBank start).opened ≡ start.opened = by_product refl refl in
    let b : (without TermBank start).flows ≡ start.flows = by_product refl refl in
    ap₂ (with_sessions start) a b

alone : (q : Product) (l : Ledger) (cs : List Call) → AllEarly l cs → numbers_left q l cs ≡ numbers_left q (without q l) (struck q cs)
unfolding numbers_left struck
alone q l [] k = refl
alone q l (c ∷ cs) k = go (is_of q c) refl (alone q (ledger_step l c) cs later)
  where
    first : Early l c
    first = unfold ledger_after call_at in k 0

    later : AllEarly (ledger_step l c) cs
    later = unfold ledger_after call_at in λ i. k (suc i)

    go : (o : Bool) → is_of q c ≡ o → numbers_left q (ledger_step l c) cs ≡ numbers_left q (without q (ledger_step l c)) (struck q cs)
        → cond (is_of q c) (numbers_left q (ledger_step l c) cs) (refusal l c ∷ numbers_left q (ledger_step l c) cs) ≡ numbers_left q (without q l) (cond (is_of q c) (struck q cs) (c ∷ struck q cs))
    go true e h = rw e (h ∙ ap (λ (m : Ledger). numbers_left q m (struck q cs)) (other_step q l c e))
    go false e h =
        rw (e, e)
        (ap₂ (λ (a : ℕ) (rest : List ℕ). a ∷ rest) (sym (same_refusal q l c e first)) (h ∙ ap (λ (m : Ledger). numbers_left q m (struck q cs)) (same_step q l c e first)))

as_alone : (other : Product) (cs : List Call) → ForwardsFirst cs → numbers_left other start cs ≡ numbers_left other start (struck other cs)
as_alone q cs h = alone q start cs (early cs h) ∙ ap (λ (m : Ledger). numbers_left q m (struck q cs)) (start_without q)

pub apart : (other : Product) (cs ds : List Call) → struck other cs ≡ struck other ds → ForwardsFirst cs → ForwardsFirst ds → numbers_left other start cs ≡ numbers_left other start ds
apart q cs ds e h k = as_alone q cs h ∙ ap (numbers_left q start) e ∙ sym (as_alone q ds k)
