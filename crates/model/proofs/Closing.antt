-- K1: "Forwarding closes with the first flow of either product."
-- Assumes nothing.
use Prim.Native.Nat.{ℕ, zero, suc, ◌<◌}
use mathlib.Core.Path.{◌≡◌, refl}
use mathlib.Core.Bool.{Bool, true, false, cond, ◌||◌, true≢false}
use mathlib.Core.List.{List, [], ◌∷◌}
use mathlib.Core.Logic.{◌≢◌}
use native.Mathlib.Omega.{arith}
use lib.Dec.{leb, ltb}
use lib.ListN.{length, take, length-append}
use borrow.Author.Tests.{lt-leb, leb-false, lt-ltb, eqb-true, eq-eqb}
use Rattle.sets.specs.Sets.{some}
use Rattle.sets.proofs.Laws.{or_neither, or_left, or_right, some_at}
use Rattle.tables.specs.Tables.{database_count}
use Rattle.model.specs.declared.calls.Change.TheVariants.{Forward}
use Rattle.model.specs.declared.calls.Product.{Product}
use Rattle.model.specs.declared.calls.Product.TheVariants.{Server, TermBank}
use Rattle.model.specs.declared.calls.Ask.TheVariants.{Add}
use Rattle.model.specs.declared.calls.Call.{Call}
use Rattle.model.specs.declared.calls.Call.TheVariants.{Table, Session}
use Rattle.model.specs.Limits.{session_count}
use Rattle.model.specs.Ledger.{Ledger, start}
use Rattle.model.specs.Refusals.{flow_added, rows, change_rows, ask_rows, first_met, refusal, accepts, with_flows, asked, taken, ledger_step, ledger_after}
use Rattle.model.specs.Demands.{call_at, ledger_at}
use Rattle.model.proofs.Laws.{same_self}
use Rattle.model.proofs.Chains.{not_met}
use Rattle.model.proofs.Ledgers.{Ordered, ordered_start, ordered_step, since_step}
use Rattle.model.specs.Products.{Adds}
use Rattle.model.proofs.Apart.{NoFlow, not_added, no_flow_yet}

-- ---- a flow stays, and closes forwarding

Flowing : Product → ℕ → Ledger → Type 0
Flowing p s l = 0 < length (l.flows p s)

flowing_stays : (p : Product) (s : ℕ) (l : Ledger) (cs : List Call) → Ordered l → Flowing p s l → Flowing p s (ledger_after l cs)
unfolding Flowing ledger_after
flowing_stays p s l [] o h = h
flowing_stays p s l (c ∷ cs) o h = flowing_stays p s (ledger_step l c) cs (ordered_step l c o) ((since_step l c o).flows p s 0 h).0

-- an accepted addition brings one
flowing_new : (l : Ledger) (p : Product) (s d m : ℕ) (c : Call) → c ≡ Session p s (Add d m) → accepts l c ≡ true → Flowing p s (ledger_step l c)
unfolding Flowing ledger_step taken asked with_flows
flowing_new l p s d m c e h = rw (h, e, same_self p, eq-eqb s s refl, length-append) (omega arith)

flowing_after : (l : Ledger) (cs : List Call) (i j : ℕ) (p : Product) (s d m : ℕ) → Ordered l → i < j → call_at cs i ≡ Session p s (Add d m)
    → accepts (ledger_after l (take i cs)) (call_at cs i) ≡ true → Flowing p s (ledger_after l (take j cs))
unfolding ledger_after call_at
flowing_after l cs i zero p s d m o h e a = absurd (omega arith)
flowing_after l [] i (suc j) p s d m o h e a = let x : ◌≡◌ {A = ℕ} 0 1 = cc in absurd (omega arith)
flowing_after l (c ∷ cs) zero (suc j) p s d m o h e a = flowing_stays p s (ledger_step l c) (take j cs) (ordered_step l c o) (flowing_new l p s d m c e a)
flowing_after l (c ∷ cs) (suc i) (suc j) p s d m o h e a = flowing_after (ledger_step l c) cs i j p s d m (ordered_step l c o) (omega arith) e a

-- and only within the limits
within : (l : Ledger) (p : Product) (s d m : ℕ) → accepts l (Session p s (Add d m)) ≡ true → s < session_count
unfolding accepts refusal rows ask_rows
within l p s d m h = leb-false session_count s (or_neither (leb session_count s) _ (not_met 1 _ _ (eqb-true (refusal l (Session p s (Add d m))) 0 h)).0).0

flowing_added : (p : Product) (s : ℕ) (l : Ledger) → s < session_count → Flowing p s l → flow_added l ≡ true
unfolding flow_added Flowing
flowing_added Server s l k h = or_left _ (some_at session_count (λ t. ltb 0 (length (l.flows Server t))) s k (lt-ltb 0 (length (l.flows Server s)) h))
flowing_added TermBank s l k h = or_right (some session_count _) (some_at session_count (λ t. ltb 0 (length (l.flows TermBank t))) s k (lt-ltb 0 (length (l.flows TermBank s)) h))

pub closes : (cs : List Call) (i j d e : ℕ) → i < j → Adds cs i → call_at cs j ≡ Table (Forward d e) → d < database_count → e < database_count → refusal (ledger_at cs j) (Table (Forward d e)) ≡ 5
unfolding refusal rows change_rows first_met ledger_at
closes cs i j d e m a f x y =
    let w : a.session < session_count = within (ledger_after start (take i cs)) a.product a.session a.root a.chosen (rw a.there at a.accepted) in
    let g : Flowing a.product a.session (ledger_after start (take j cs)) =
    flowing_after start cs i j a.product a.session a.root a.chosen ordered_start m a.there a.accepted in
    rw (lt-leb database_count d x, lt-leb database_count e y, flowing_added a.product a.session (ledger_after start (take j cs)) w g)

-- ---- and before the first flow it is open

pub stays : (cs : List Call) (j d e : ℕ) → ((i : ℕ) → i < j → Adds cs i → ⊥) → refusal (ledger_at cs j) (Table (Forward d e)) ≢ 5
unfolding refusal rows change_rows first_met ledger_at
stays cs j d e f h =
    let n : NoFlow (ledger_after start (take j cs)) =
    no_flow_yet start cs j (unfold NoFlow start in refl) (λ i p s root chosen m x y. f i m (record { product = p; session = s; root = root; chosen = chosen; there = x; accepted = y })) in
    go (leb database_count d || leb database_count e) (flow_added (ledger_after start (take j cs))) ((ledger_after start (take j cs)).forwards d e) (not_added (ledger_after start (take j cs)) n) h
  where
    go : (a b c : Bool) → b ≡ false → ◌≢◌ {A = ℕ} (cond a 2 (cond b 5 (cond c 3 0))) 5
    go true b c e h = absurd (omega arith)
    go false true c e h = true≢false e
    go false false true e h = absurd (omega arith)
    go false false false e h = absurd (omega arith)
