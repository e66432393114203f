-- The theorems that specs/Mandates states.
-- Assumes nothing.
use Prim.Native.Nat.{ℕ, zero, suc, ◌<◌}
use mathlib.Core.Path.{◌≡◌, refl, sym, ap, ◌∙◌}
use mathlib.Core.Bool.{Bool, true, false, not, ◌&&◌, true≢false}
use mathlib.Core.List.{List, [], ◌∷◌}
use mathlib.Core.Logic.{⊎_elim}
use native.Mathlib.Decide.{dec_lt}
use native.Mathlib.Omega.{arith}
use lib.Dec.{eqb}
use lib.ListN.{length, take}
use borrow.Author.Tests.{eqb-true}
use Rattle.sets.proofs.Laws.{and_both, and_true, or_either, or_left, some_nowhere}
use Rattle.tables.specs.Tables.{role_count, may_read, has_mandate}
use Rattle.model.specs.declared.calls.Change.{Change}
use Rattle.model.specs.declared.calls.Change.TheVariants.{Assign, Withdraw, Permit, Revoke, Forward, Mandate}
use Rattle.model.specs.declared.calls.Product.{Product}
use Rattle.model.specs.declared.calls.Ask.{Ask}
use Rattle.model.specs.declared.calls.Ask.TheVariants.{Open, Conflicting, Add, Show}
use Rattle.model.specs.declared.calls.Call.{Call}
use Rattle.model.specs.declared.calls.Call.TheVariants.{Table, Session, Read, Unreadable}
use Rattle.model.specs.Calls.{verdict}
use Rattle.model.specs.Ledger.{Ledger, start, linked, under_mandate}
use Rattle.model.specs.Refusals.{rows, refusal, accepts, plus, minus, entered, renewed, with_flows, asked, taken, ledger_step, ledger_after}
use Rattle.model.specs.Demands.{seen, call_at, engine_at, ledger_at}
use Rattle.model.specs.Mandates.{Mandates, NoMandate, Before}
use Rattle.model.proofs.MandateCalls.{revokes_free, mandates_permitted, mandate_accepted, revoke_refused, accepted_mandate, refused_revoke}
use Rattle.model.proofs.SeenRows.{permits_seen, mandates_seen}
use Rattle.model.proofs.Ledgers.{duty_rows, step_by, along, ledger_step_is}
use Rattle.model.proofs.Lasting.{past_end}
use Rattle.model.proofs.Demands.{told, numbered, demand3}

-- ---- who has a mandate changes by an accepted mandate alone

same_asked : (l : Ledger) (p : Product) (s : ℕ) (a : Ask) → ((asked l p s a).mandated ≡ l.mandated) × ((asked l p s a).may_read ≡ l.may_read)
unfolding asked with_flows
same_asked l p s Open = (refl, refl)
same_asked l p s (Conflicting d) = (refl, refl)
same_asked l p s (Add d m) = (refl, refl)
same_asked l p s (Show f) = (refl, refl)

-- ---- a mandate stands on a permitted pair

record Permitted (l : Ledger) : Type 0 where
  pairs : (r d : ℕ) → l.mandated r d ≡ true → l.may_read r d ≡ true

-- the pair that is entered or struck out is this one
this_pair : (r d x y : ℕ) → (eqb r x && eqb d y) ≡ true → (r ≡ x) × (d ≡ y)
this_pair r d x y h = let w = and_both (eqb r x) (eqb d y) h in (eqb-true r x w.0, eqb-true d y w.1)

permitted_change : (l : Ledger) (c : Change) → Permitted l → accepts l (Table c) ≡ true → (r d : ℕ) → (entered l c).mandated r d ≡ true → (entered l c).may_read r d ≡ true
unfolding entered plus minus
permitted_change l (Assign u x) k a r d h = k.pairs r d h
permitted_change l (Withdraw u x) k a r d h = k.pairs r d h
permitted_change l (Permit x y) k a r d h = or_left (eqb r x && eqb d y) (k.pairs r d h)
permitted_change l (Revoke x y) k a r d h = and_true (k.pairs r d h) (go (eqb r x && eqb d y) refl)
  where
    go : (b : Bool) → (eqb r x && eqb d y) ≡ b → not b ≡ true
    go true e =
        let w = this_pair r d x y e in
        let t : l.mandated x y ≡ true = rw (w.0, w.1) at h in
        absurd (true≢false (sym t ∙ revokes_free l x y a))
    go false e = refl
permitted_change l (Forward x y) k a r d h = k.pairs r d h
permitted_change l (Mandate x y) k a r d h =
    ⊎_elim (λ t. k.pairs r d t) (λ t. let w = this_pair r d x y t in rw (w.0, w.1) (mandates_permitted l x y a)) (or_either (l.mandated r d) (eqb r x && eqb d y) h)

permitted_taken : (l : Ledger) (c : Call) → Permitted l → accepts l c ≡ true → Permitted (taken l c)
unfolding taken renewed
permitted_taken l (Table c) k a = record { pairs = permitted_change l c k a }
permitted_taken l (Session p s b) k a = record { pairs = rw ((same_asked l p s b).0, (same_asked l p s b).1) k.pairs }
permitted_taken l (Read p u s f d) k a = k
permitted_taken l Unreadable k a = k

permitted_after : (l : Ledger) (cs : List Call) → Permitted l → Permitted (ledger_after l cs)
unfolding ledger_after
permitted_after l [] k = k
permitted_after l (c ∷ cs) k = permitted_after (ledger_step l c) cs (step_by Permitted l c k (permitted_taken l c k))

permitted_at : (cs : List Call) (i : ℕ) → Permitted (ledger_at cs i)
unfolding ledger_at start
permitted_at cs i = permitted_after start (take i cs) (record { pairs = λ r d h. absurd (true≢false (sym h)) })

-- ---- it lasts

lasts_change : (l : Ledger) (c : Change) (r d : ℕ) → l.mandated r d ≡ true → (entered l c).mandated r d ≡ true
unfolding entered plus
lasts_change l (Assign u x) r d h = h
lasts_change l (Withdraw u x) r d h = h
lasts_change l (Permit x y) r d h = h
lasts_change l (Revoke x y) r d h = h
lasts_change l (Forward x y) r d h = h
lasts_change l (Mandate x y) r d h = or_left (eqb r x && eqb d y) h

lasts_taken : (l : Ledger) (c : Call) (r d : ℕ) → l.mandated r d ≡ true → (taken l c).mandated r d ≡ true
unfolding taken renewed
lasts_taken l (Table c) r d h = lasts_change l c r d h
lasts_taken l (Session p s a) r d h = rw (same_asked l p s a).0 h
lasts_taken l (Read p u s f x) r d h = h
lasts_taken l Unreadable r d h = h

lasts_next : (cs : List Call) (k r d : ℕ) → (ledger_at cs k).mandated r d ≡ true → (ledger_at cs (suc k)).mandated r d ≡ true
lasts_next cs k r d h = go (dec_lt k (length cs))
  where
    go : Dec (k < length cs) → (ledger_at cs (suc k)).mandated r d ≡ true
    go (yes m) = rw (ledger_step_is cs k m) (step_by (λ l. l.mandated r d ≡ true) (ledger_at cs k) (call_at cs k) h (λ a. lasts_taken (ledger_at cs k) (call_at cs k) r d h))
    go (no m) = ap (λ (l : Ledger). l.mandated r d) (sym ((demand3 cs).same (suc k)) ∙ ap seen (past_end cs k (omega arith)) ∙ (demand3 cs).same k) ∙ h

-- ---- the record

-- what the engine holds is what the ledger does
mandated_at : (cs : List Call) (i r d : ℕ) → r < role_count → has_mandate (engine_at cs i).directory.tables r d ≡ (ledger_at cs i).mandated r d
mandated_at cs i r d l = mandates_seen (engine_at cs i) r d l ∙ ap (λ (m : Ledger). m.mandated r d) ((demand3 cs).same i)

permits : (cs : List Call) (i r d : ℕ) → r < role_count → has_mandate (engine_at cs i).directory.tables r d ≡ true → may_read (engine_at cs i).directory.tables r d ≡ true
permits cs i r d l h =
    permits_seen (engine_at cs i) r d l ∙ ap (λ (m : Ledger). m.may_read r d) ((demand3 cs).same i)
    ∙ (permitted_at cs i).pairs r d (sym (mandated_at cs i r d l) ∙ h)

pub mandates : (cs : List Call) → Mandates cs
unfolding refusal rows
mandates cs = record {
  accepted = λ i r d. (accepted_mandate (engine_at cs i) r d, λ w. mandate_accepted (engine_at cs i) r d w.0 w.1 w.2 w.3);
  lasts = λ i j r d m l h.
      mandated_at cs j r d l ∙ along (λ k. (ledger_at cs k).mandated r d ≡ true) i j m (sym (mandated_at cs i r d l) ∙ h) (λ k a b t. lasts_next cs k r d t);
  stands = λ i r d. (refused_revoke (engine_at cs i) r d, λ w. revoke_refused (engine_at cs i) r d w.0 w.1 (permits cs i r d w.0 w.2) w.2);
  permitted = permits cs;
  granted = λ p i u s f d l c h n.
      told (verdict (engine_at cs i) (Read p u s f d)) false (numbered cs i (Read p u s f d) ∙ duty_rows (ledger_at cs i) (linked (ledger_at cs i)) p u s f d h ∙ n);
}

-- ---- lists without mandates

record Clear (l : Ledger) : Type 0 where
  none : (r d : ℕ) → l.mandated r d ≡ false

clear_taken : (l : Ledger) (c : Call) → Clear l → ((r d : ℕ) → c ≡ Table (Mandate r d) → ⊥) → Clear (taken l c)
unfolding taken renewed entered
clear_taken l (Table (Assign u r)) k n = record { none = k.none }
clear_taken l (Table (Withdraw u r)) k n = record { none = k.none }
clear_taken l (Table (Permit r d)) k n = record { none = k.none }
clear_taken l (Table (Revoke r d)) k n = record { none = k.none }
clear_taken l (Table (Forward d e)) k n = record { none = k.none }
clear_taken l (Table (Mandate r d)) k n = absurd (n r d refl)
clear_taken l (Session p s a) k n = record { none = rw (same_asked l p s a).0 k.none }
clear_taken l (Read p u s f d) k n = k
clear_taken l Unreadable k n = k

clear_after : (l : Ledger) (cs : List Call) (i : ℕ) → Clear l
    → ((j r d : ℕ) → call_at cs j ≡ Table (Mandate r d) → accepts (ledger_after l (take j cs)) (Table (Mandate r d)) ≡ false) → Clear (ledger_after l (take i cs))
unfolding ledger_after call_at
clear_after l cs zero k n = k
clear_after l [] (suc i) k n = k
clear_after l (c ∷ cs) (suc i) k n =
    clear_after (ledger_step l c) cs i (step_by Clear l c k (λ a. clear_taken l c k (λ r d e. true≢false (sym a ∙ ap (accepts l) e ∙ n 0 r d e)))) (λ j. n (suc j))

outside : (cs : List Call) → NoMandate cs → (i u d : ℕ) → under_mandate (ledger_at cs i) u d ≡ false
unfolding ledger_at under_mandate start
outside cs n i u d =
    let k = clear_after start cs i (record { none = λ r d. refl }) n in
    some_nowhere role_count _ (λ r l. rw (k.none r d) (never ((ledger_after start (take i cs)).holds u r)))
  where
    never : (b : Bool) → (b && false) ≡ false
    never true = refl
    never false = refl

pub before : (cs : List Call) → NoMandate cs → Before cs
before cs n = record {
  outside = outside cs n;
  second = λ one t. (demand3 cs).second one (outside cs n one.i one.user one.database);
  first = λ two w. (demand3 cs).first two (w.0, w.1, record { first = outside cs n two.i two.user two.d; second = outside cs n two.j two.user two.e });
}
