-- K1: "Kinds 0b to 0f do for the term bank what 06 to 0a do for the server": with the products exchanged in every call a list returns the same numbers.
-- Assumes nothing.
use Prim.Native.Nat.{ℕ}
use mathlib.Core.Path.{◌≡◌, refl, sym, ap, ap₂, ◌∙◌}
use mathlib.Core.Bool.{or_comm}
use mathlib.Core.List.{List, [], ◌∷◌, map}
use lib.Dec.{ltb, eqb}
use lib.ListN.{length}
use Rattle.sets.specs.Sets.{some}
use Rattle.model.specs.declared.calls.Change.TheVariants.{Assign, Withdraw, Permit, Revoke, Forward, Mandate}
use Rattle.model.specs.declared.calls.Product.{Product}
use Rattle.model.specs.declared.calls.Product.TheVariants.{Server, TermBank}
use Rattle.model.specs.declared.calls.Ask.TheVariants.{Open, Conflicting, Add, Show}
use Rattle.model.specs.declared.calls.Call.{Call}
use Rattle.model.specs.declared.calls.Call.TheVariants.{Table, Session, Read, Unreadable}
use Rattle.model.specs.Limits.{session_count}
use Rattle.model.specs.Ledger.{Ledger, Flow, start, same, flow_of, reach_of, reads, reads_two_of, is_conflicting, holds_denied, linked, under_mandate}
use Rattle.model.specs.Refusals.{due, spent, flow_added, new_flow, rows, change_rows, ask_rows, check_rows, read_rows, first_met, refusal, accepts, entered, renewed, with_flows, asked, taken, ledger_step}
use Rattle.model.specs.Products.{opposite, swap, numbers}
use Rattle.model.proofs.Apart.{with_sessions, by_product, more, chosen}

-- a ledger whose products have changed places
unfoldable pub turned : Ledger → Ledger
unfolding with_sessions
turned l = with_sessions l (λ p. l.opened (opposite p)) (λ p. l.flows (opposite p))

turned_added : (l : Ledger) → flow_added (turned l) ≡ flow_added l
unfolding flow_added turned with_sessions opposite
turned_added l = or_comm (some session_count (λ s. ltb 0 (length (l.flows TermBank s)))) (some session_count (λ s. ltb 0 (length (l.flows Server s))))

turned_forward : (l : Ledger) (d e : ℕ) → refusal (turned l) (Table (Forward d e)) ≡ refusal l (Table (Forward d e))
unfolding refusal rows change_rows first_met
turned_forward l d e = rw (turned_added l) (unfold turned with_sessions in refl)

pub turned_refusal : (l : Ledger) (c : Call) → refusal (turned l) (swap c) ≡ refusal l c
unfolding refusal rows change_rows ask_rows check_rows read_rows first_met swap opposite turned with_sessions due spent new_flow is_conflicting reads_two_of reads linked holds_denied under_mandate flow_of reach_of
turned_refusal l (Table (Assign u r)) = refl
turned_refusal l (Table (Withdraw u r)) = refl
turned_refusal l (Table (Permit r d)) = refl
turned_refusal l (Table (Revoke r d)) = refl
turned_refusal l (Table (Forward d e)) = turned_forward l d e
turned_refusal l (Table (Mandate r d)) = refl
turned_refusal l (Session Server s Open) = refl
turned_refusal l (Session Server s (Conflicting d)) = refl
turned_refusal l (Session Server s (Add d m)) = refl
turned_refusal l (Session Server s (Show f)) = refl
turned_refusal l (Session TermBank s Open) = refl
turned_refusal l (Session TermBank s (Conflicting d)) = refl
turned_refusal l (Session TermBank s (Add d m)) = refl
turned_refusal l (Session TermBank s (Show f)) = refl
turned_refusal l (Read Server u s f d) = refl
turned_refusal l (Read TermBank u s f d) = refl
turned_refusal l Unreadable = refl

turned_flows : (l : Ledger) (p : Product) (s : ℕ) (new : List Flow) → turned (with_flows l p s new) ≡ with_flows (turned l) (opposite p) s new
unfolding turned with_sessions with_flows same opposite
turned_flows l Server s new =
    let a : (turned (with_flows l Server s new)).opened ≡ (with_flows (turned l) TermBank s new).opened = by_product refl refl in
    let b : (turned (with_flows l Server s new)).flows ≡ (with_flows (turned l) TermBank s new).flows = by_product refl refl in
    ap₂ (with_sessions l) a b
turned_flows l TermBank s new =
    let a : (turned (with_flows l TermBank s new)).opened ≡ (with_flows (turned l) Server s new).opened = by_product refl refl in
    let b : (turned (with_flows l TermBank s new)).flows ≡ (with_flows (turned l) Server s new).flows = by_product refl refl in
    ap₂ (with_sessions l) a b

turned_more : (l : Ledger) (p : Product) (s d m : ℕ) → more (turned l) (opposite p) s d m ≡ more l p s d m
unfolding more turned with_sessions opposite new_flow reach_of
turned_more l Server s d m = refl
turned_more l TermBank s d m = refl

turned_taken : (l : Ledger) (c : Call) → turned (taken l c) ≡ taken (turned l) (swap c)
unfolding taken asked swap
turned_taken l (Table (Assign u r)) = unfold turned with_sessions renewed entered due in refl
turned_taken l (Table (Withdraw u r)) = unfold turned with_sessions renewed entered due in refl
turned_taken l (Table (Permit r d)) = unfold turned with_sessions renewed entered due in refl
turned_taken l (Table (Revoke r d)) = unfold turned with_sessions renewed entered due in refl
turned_taken l (Table (Forward d e)) = unfold turned with_sessions renewed entered due in refl
turned_taken l (Table (Mandate r d)) = unfold turned with_sessions renewed entered due in refl
turned_taken l (Session p s Open) = turned_flows l p s []
turned_taken l (Session p s (Conflicting d)) = refl
turned_taken l (Session p s (Add d m)) = unfold more in turned_flows l p s (more l p s d m) ∙ ap (with_flows (turned l) (opposite p) s) (sym (turned_more l p s d m))
turned_taken l (Session p s (Show f)) = refl
turned_taken l (Read p u s f d) = refl
turned_taken l Unreadable = refl

pub turned_step : (l : Ledger) (c : Call) → turned (ledger_step l c) ≡ ledger_step (turned l) (swap c)
unfolding ledger_step accepts
turned_step l c =
    chosen turned (eqb (refusal l c) 0) (eqb (refusal (turned l) (swap c)) 0) (taken l c) l (taken (turned l) (swap c)) (turned l) (ap (λ (n : ℕ). eqb n 0) (turned_refusal l c)) (turned_taken l c) refl

turned_numbers : (l : Ledger) (cs : List Call) → numbers (turned l) (map swap cs) ≡ numbers l cs
unfolding numbers
turned_numbers l [] = refl
turned_numbers l (c ∷ cs) =
    ap₂ (λ (a : ℕ) (rest : List ℕ). a ∷ rest) (turned_refusal l c) (ap (λ (m : Ledger). numbers m (map swap cs)) (sym (turned_step l c)) ∙ turned_numbers (ledger_step l c) cs)

pub alike : (cs : List Call) → numbers start (map swap cs) ≡ numbers start cs
unfolding turned with_sessions start
alike cs = turned_numbers start cs
