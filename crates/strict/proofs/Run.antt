-- To choose every conflicting role is to choose what 07 answers. A run of such choices is settled by computing.
-- Assumes nothing.
use Prim.Native.Nat.{ℕ, zero, suc, ◌<◌, ◌^◌}
use mathlib.Core.Path.{◌≡◌, refl, sym, ap, ◌∙◌}
use mathlib.Core.Bool.{Bool, true, false, not, ◌&&◌, ◌||◌, cond, true≢false}
use mathlib.Core.List.{List, [], ◌∷◌}
use mathlib.Core.Logic.{◌↔◌, ⊎_elim}
use native.Mathlib.Omega.{arith}
use lib.Dec.{leb, eqb}
use lib.ListN.{length, get_or, take}
use borrow.Author.Tests.{leb-false, eqb-true}
use Rattle.sets.specs.Sets.{has, set_of, some, count, inserted, removed, joined, shared, meeting}
use Rattle.sets.proofs.Laws.{tests_equal, true_or_false, and_both, and_true, or_neither, some_at, set_of_lt, same_set}
use Rattle.rows.specs.Rows.{there, entered, struck, image}
use Rattle.rows.specs.Reach.{onward, level, reach}
use Rattle.tables.specs.Tables.{role_count, database_count, with_roles, with_readers, assigned, withdrawn, permitted, held_by, overlaps, parents_of, statically_reads}
use Rattle.tables.specs.Tables.{fresh as empty_tables}
use Rattle.model.specs.declared.Engine.{Engine}
use Rattle.model.specs.declared.calls.Product.{Product}
use Rattle.model.specs.declared.calls.Product.TheVariants.{Server}
use Rattle.model.specs.declared.calls.Ask.TheVariants.{Open, Conflicting, Add, Show}
use Rattle.model.specs.declared.calls.Change.TheVariants.{Assign, Withdraw, Permit, Revoke, Forward, Mandate}
use Rattle.model.specs.declared.calls.Call.{Call}
use Rattle.model.specs.declared.calls.Call.TheVariants.{Table, Session, Read, Unreadable}
use Rattle.model.specs.declared.calls.Refusal.TheVariants.{Linkable}
use Rattle.model.specs.declared.calls.Verdict.TheVariants.{Granted, Refused}
use Rattle.model.specs.declared.calls.Answer.{Answer}
use Rattle.model.specs.declared.calls.Answer.TheVariants.{Version, Roles, Flow, Granted as Answer-as-Granted, Constraint as Answer-as-Constraint, Refused as Answer-as-Refused}
use Rattle.model.specs.Limits.{session_count, flow_count}
use Rattle.model.specs.State.{first_of, session_at, filled, place, set_place, reach_with, conflicts, outside as not_conflicting, deny_before, role_set, linkable, roleset_at, given, new_version, fresh}
use Rattle.model.specs.Calls.{number_of, returned, verdict_of, to_holders, spent, assign, withdraw, permit, open_session, conflicts_in, conflicting, with_flow, add, links, by_duty, read, answer_of, change, ask, step, answer, verdict, after}
use Rattle.model.specs.Ledger.{Ledger, is_conflicting, under_mandate}
use Rattle.model.specs.Refusals.{new_flow, ask_rows, rows, first_met, refusal, accepts}
use Rattle.model.specs.Demands.{seen, engine_after, call_at, engine_at, ledger_at}
use Rattle.model.specs.Meaning.{conflicts_of}
use Rattle.model.specs.Mandates.{NoMandate}
use Rattle.model.proofs.Chains.{not_met}
use Rattle.model.proofs.SeenRows.{reach_seen, conflicts_seen}
use Rattle.model.proofs.Meaning.{query_means}
use Rattle.model.proofs.Demands.{told, numbered, demand3}
use Rattle.model.proofs.Mandates.{before}
use Rattle.strict.specs.Strict.{Strict, AsAnswered, strict_run, Gets, StrictRun}
use Rattle.strict.proofs.Strict.{read_at}

-- ---- what 07 answers are the conflicting roles

-- what the rows of an accepted addition say
record Accepted (l : Ledger) (p : Product) (s root chosen : ℕ) : Type 0 where
  session : leb session_count s ≡ false
  database : leb database_count root ≡ false
  small : chosen < 2 ^ role_count
  open_there : not (l.opened p s) ≡ false
  room : leb flow_count (length (l.flows p s)) ≡ false
  fit : some role_count (λ r. has chosen r && not (is_conflicting l p s (new_flow l p s root chosen) r)) ≡ false

accepted : (l : Ledger) (p : Product) (s root chosen : ℕ) → accepts l (Session p s (Add root chosen)) ≡ true → Accepted l p s root chosen
unfolding accepts refusal rows ask_rows
accepted l p s root chosen h =
    let x = not_met 1 _ _ (eqb-true (refusal l (Session p s (Add root chosen))) 0 h) in
    let y = or_neither (leb session_count s) (leb database_count root || leb (2 ^ role_count) chosen) x.0 in
    let z = or_neither (leb database_count root) (leb (2 ^ role_count) chosen) y.1 in
    let o = not_met 5 _ _ x.1 in
    let f = not_met 6 _ _ o.1 in
    record { session = y.0; database = z.0; small = leb-false (2 ^ role_count) chosen z.1; open_there = o.0; room = f.0; fit = (not_met 7 _ _ f.1).0 }

module _ (cs : List Call) (p : Product) (i s root chosen : ℕ) where
  -- the set that the engine works out has those members
  found : ℕ
  found = conflicts_of (engine_at cs i) (session_at p s) root

  members : (r : ℕ) → r < role_count → has found r ≡ is_conflicting (ledger_at cs i) p s (new_flow (ledger_at cs i) p s root chosen) r
  unfolding found new_flow
  members r l =
      conflicts_seen (engine_at cs i) p s root (new_flow (seen (engine_at cs i)) p s root chosen) (λ d k. reach_seen (engine_at cs i) root d k) r l
      ∙ ap (λ (m : Ledger). is_conflicting m p s (new_flow m p s root chosen) r) ((demand3 cs).same i)

  answered : verdict (engine_at cs i) (Session p s (Conflicting root)) ≡ Granted → answer (engine_at cs i) (Session p s (Conflicting root)) ≡ Roles found
  unfolding found
  answered h = (query_means (engine_at cs i) p s root).answered h

  -- the answer is those roles: all of them are chosen
  all_chosen : answer (engine_at cs i) (Session p s (Conflicting root)) ≡ Roles chosen → (r : ℕ) → r < role_count
      → is_conflicting (ledger_at cs i) p s (new_flow (ledger_at cs i) p s root chosen) r ≡ true → has chosen r ≡ true
  all_chosen h r l t =
      let v : verdict (engine_at cs i) (Session p s (Conflicting root)) ≡ Granted = unfold verdict verdict_of in rw h in
      let q : chosen ≡ found = cc (answered v) in
      rw q (members r l ∙ t)

  module _ (a : Accepted (ledger_at cs i) p s root chosen) where
    -- 07 is accepted too
    asked_too : verdict (engine_at cs i) (Session p s (Conflicting root)) ≡ Granted
    unfolding refusal rows ask_rows first_met
    asked_too = told (verdict (engine_at cs i) (Session p s (Conflicting root))) false (numbered cs i (Session p s (Conflicting root)) ∙ rw (a.session, a.database, a.open_there, a.room))

    no_other : (r : ℕ) → r < role_count → has chosen r ≡ true → is_conflicting (ledger_at cs i) p s (new_flow (ledger_at cs i) p s root chosen) r ≡ true
    no_other r l h = ⊎_elim (λ t. t) (λ t. absurd (true≢false (sym (some_at role_count _ r l (and_true h (ap not t))) ∙ a.fit))) (true_or_false (is_conflicting (ledger_at cs i) p s (new_flow (ledger_at cs i) p s root chosen) r))

    -- all of them are chosen: the answer is the chosen set
    all_answered : ((r : ℕ) → r < role_count → is_conflicting (ledger_at cs i) p s (new_flow (ledger_at cs i) p s root chosen) r ≡ true → has chosen r ≡ true)
        → answer (engine_at cs i) (Session p s (Conflicting root)) ≡ Roles chosen
    all_answered h =
        answered asked_too
        ∙ ap Roles (same_set role_count found chosen found_small a.small (λ r l. tests_equal (has found r) (has chosen r) (λ t. h r l (sym (members r l) ∙ t)) (λ t. members r l ∙ no_other r l t)))
      where
        found_small : found < 2 ^ role_count
        found_small = unfold found conflicts_in conflicts in set_of_lt role_count _

pub strict_answered : (cs : List Call) (p : Product) (s : ℕ) → Strict cs p s ↔ AsAnswered cs p s
strict_answered cs p s = (
  λ h i root chosen e a k. all_answered cs p i s root chosen (accepted (ledger_at cs i) p s root chosen a) (h i root chosen e a k),
  λ h i root chosen e a k. all_chosen cs p i s root chosen (h i root chosen e a k),
)

-- ---- the run

-- the answer is this set of roles
unfoldable roles_are : Answer → ℕ → Bool
roles_are (Version v) m = false
roles_are (Roles x) m = eqb x m
roles_are (Flow n k v) m = false
roles_are Answer-as-Granted m = false
roles_are (Answer-as-Constraint s f) m = false
roles_are (Answer-as-Refused why) m = false

roles_are_so : (a : Answer) (m : ℕ) → roles_are a m ≡ true → a ≡ Roles m
unfolding roles_are
roles_are_so (Version v) m h = absurd (true≢false (sym h))
roles_are_so (Roles x) m h = ap Roles (eqb-true x m h)
roles_are_so (Flow n k v) m h = absurd (true≢false (sym h))
roles_are_so Answer-as-Granted m h = absurd (true≢false (sym h))
roles_are_so (Answer-as-Constraint s f) m h = absurd (true≢false (sym h))
roles_are_so (Answer-as-Refused why) m h = absurd (true≢false (sym h))

-- a call that adds chooses what 07 answers
unfoldable as_answered : Engine → Call → Bool
as_answered e (Table c) = true
as_answered e (Session p s Open) = true
as_answered e (Session p s (Conflicting root)) = true
as_answered e (Session p s (Add root chosen)) = roles_are (answer e (Session p s (Conflicting root))) chosen
as_answered e (Session p s (Show f)) = true
as_answered e (Read p u s f d) = true
as_answered e Unreadable = true

this_answered : (e : Engine) (c : Call) (p : Product) (s root chosen : ℕ) → c ≡ Session p s (Add root chosen) → as_answered e c ≡ true → answer e (Session p s (Conflicting root)) ≡ Roles chosen
unfolding as_answered
this_answered e c p s root chosen q h = roles_are_so (answer e (Session p s (Conflicting root))) chosen (sym (ap (as_answered e) q) ∙ h)

-- every call of a list that adds does, and all return these numbers: one walk for both, since computing an addition takes the time
unfoldable runs : Engine → List Call → List ℕ → Bool
runs e [] ns = true
runs e (c ∷ cs) [] = false
runs e (c ∷ cs) (n ∷ ns) = (as_answered e c && eqb (returned (verdict e c)) n) && runs (after e c) cs ns

runs_both : (e : Engine) (c : Call) (cs : List Call) (n : ℕ) (ns : List ℕ) → runs e (c ∷ cs) (n ∷ ns) ≡ true
    → (as_answered e c ≡ true) × (returned (verdict e c) ≡ n) × (runs (after e c) cs ns ≡ true)
unfolding runs
runs_both e c cs n ns h =
    let x = and_both (as_answered e c && eqb (returned (verdict e c)) n) (runs (after e c) cs ns) h in
    let y = and_both (as_answered e c) (eqb (returned (verdict e c)) n) x.0 in
    (y.0, eqb-true (returned (verdict e c)) n y.1, x.1)

runs_at : (e : Engine) (cs : List Call) (ns : List ℕ) (i : ℕ) → runs e cs ns ≡ true → i < length cs
    → (as_answered (engine_after e (take i cs)) (call_at cs i) ≡ true) × (returned (verdict (engine_after e (take i cs)) (call_at cs i)) ≡ get_or ns i 0)
unfolding call_at engine_after
runs_at e [] ns i h l = absurd (omega arith)
runs_at e (c ∷ cs) [] i h l = absurd (true≢false (sym (unfold runs in h)))
runs_at e (c ∷ cs) (n ∷ ns) zero h l = let w = runs_both e c cs n ns h in (w.0, w.1)
runs_at e (c ∷ cs) (n ∷ ns) (suc i) h l = runs_at (after e c) cs ns i (runs_both e c cs n ns h).2 (omega arith)

numbers : List ℕ
numbers = 0 ∷ 0 ∷ 0 ∷ 0 ∷ 0 ∷ 0 ∷ 0 ∷ 0 ∷ 14 ∷ 0 ∷ 0 ∷ []

by_computing : runs fresh strict_run numbers ≡ true
unfolding has set_of some count inserted removed joined shared meeting there entered struck image onward level reach with_roles with_readers assigned withdrawn permitted held_by overlaps parents_of statically_reads empty_tables filled place set_place reach_with conflicts not_conflicting deny_before role_set linkable roleset_at given new_version first_of session_at fresh number_of returned verdict_of to_holders spent assign withdraw permit open_session conflicts_in conflicting with_flow add links by_duty read answer_of change ask step answer verdict after strict_run roles_are as_answered runs numbers
by_computing = refl

run_at : (i : ℕ) → i < length strict_run → (as_answered (engine_at strict_run i) (call_at strict_run i) ≡ true) × (returned (verdict (engine_at strict_run i) (call_at strict_run i)) ≡ get_or numbers i 0)
unfolding engine_at
run_at i l = runs_at fresh strict_run numbers i by_computing l

-- what a call returned tells its verdict
run_gets : (i : ℕ) (c : Call) (b : Bool) → i < length strict_run → call_at strict_run i ≡ c → get_or numbers i 0 ≡ cond b 14 0 → Gets i c (cond b (Refused Linkable) Granted)
run_gets i c b l q h = (q, told (verdict (engine_at strict_run i) c) b (ap (λ (x : Call). returned (verdict (engine_at strict_run i) x)) (sym q) ∙ (run_at i l).1 ∙ h))

-- a call that adds is one of the run
added_within : (cs : List Call) (p : Product) (i s root chosen : ℕ) → call_at cs i ≡ Session p s (Add root chosen) → i < length cs
unfolding call_at
added_within [] p i s root chosen q = let x : ◌≡◌ {A = ℕ} 0 1 = cc in absurd (omega arith)
added_within (c ∷ cs) p zero s root chosen q = omega arith
added_within (c ∷ cs) p (suc i) s root chosen q = let l = added_within cs p i s root chosen q in omega arith

-- none of its calls puts a mandate
unfoldable mandates : List Call → Bool
mandates [] = false
mandates (Table (Assign u r) ∷ cs) = mandates cs
mandates (Table (Withdraw u r) ∷ cs) = mandates cs
mandates (Table (Permit r d) ∷ cs) = mandates cs
mandates (Table (Revoke r d) ∷ cs) = mandates cs
mandates (Table (Forward d e) ∷ cs) = mandates cs
mandates (Table (Mandate r d) ∷ cs) = true
mandates (Session p s a ∷ cs) = mandates cs
mandates (Read p u s f d ∷ cs) = mandates cs
mandates (Unreadable ∷ cs) = mandates cs

mandates_at : (cs : List Call) (i r d : ℕ) → call_at cs i ≡ Table (Mandate r d) → mandates cs ≡ true
unfolding call_at mandates
mandates_at [] i r d q = let x : ◌≡◌ {A = ℕ} 0 1 = cc in absurd (omega arith)
mandates_at (c ∷ cs) zero r d q = rw q
mandates_at (c ∷ cs) (suc i) r d q = more c (mandates_at cs i r d q)
  where
    more : (x : Call) → mandates cs ≡ true → mandates (x ∷ cs) ≡ true
    more (Table (Assign u r)) h = h
    more (Table (Withdraw u r)) h = h
    more (Table (Permit r d)) h = h
    more (Table (Revoke r d)) h = h
    more (Table (Forward d e)) h = h
    more (Table (Mandate r d)) h = refl
    more (Session p s a) h = h
    more (Read p u s f d) h = h
    more Unreadable h = h

no_mandate : NoMandate strict_run
unfolding strict_run mandates
no_mandate i r d q = absurd (true≢false (sym (mandates_at strict_run i r d q)))

flow_0 : Gets 7 (Read Server 1 0 0 0) Granted
unfolding strict_run call_at numbers
flow_0 = run_gets 7 (Read Server 1 0 0 0) false (omega arith) refl refl

flow_1 : Gets 10 (Read Server 1 0 1 1) Granted
unfolding strict_run call_at numbers
flow_1 = run_gets 10 (Read Server 1 0 1 1) false (omega arith) refl refl

outside : (i u d : ℕ) → under_mandate (ledger_at strict_run i) u d ≡ false
outside = (before strict_run no_mandate).outside

pub strict_run_is : StrictRun
unfolding strict_run call_at numbers
strict_run_is = record {
  strict = (strict_answered strict_run Server 0).1 (λ i root chosen q a k. this_answered (engine_at strict_run i) (call_at strict_run i) Server 0 root chosen q (run_at i (added_within strict_run Server i 0 root chosen q)).0);
  flows = (read_at strict_run Server 10 1 0 1 1 flow_1.1 (outside 10 1 1)).1.there;
  first = flow_0;
  second = run_gets 8 (Read Server 1 0 1 1) true (omega arith) refl refl;
  withdrawn = run_gets 9 (Table (Withdraw 1 0)) false (omega arith) refl refl;
  later = flow_1;
  outside = outside;
}
