-- The lists that specs/Needed speaks of, and what they come to, by computing.
-- Assumes nothing.
use Prim.Native.Nat.{ℕ, suc, ◌<◌}
use mathlib.Core.Path.{◌≡◌, refl, sym, ap, ◌∙◌}
use mathlib.Core.Bool.{Bool, true, false, cond, true≢false}
use mathlib.Core.List.{List, [], ◌∷◌}
use native.Mathlib.Omega.{arith}
use lib.ListN.{length}
use Rattle.sets.specs.Sets.{has, set_of, some, count, inserted, removed, joined, shared, lacking, meeting, size_of}
use Rattle.sets.proofs.Laws.{some_at}
use Rattle.rows.specs.Rows.{there, entered, struck, image}
use Rattle.rows.specs.Reach.{onward, level, reach}
use Rattle.tables.specs.Tables.{with_roles, with_readers, with_forwards, with_mandates, assigned, withdrawn, permitted, revoked, forwarded, mandated, held_by, overlaps, parents_of, statically_reads}
use Rattle.tables.specs.Tables.{fresh as empty_tables}
use Rattle.model.specs.declared.calls.Change.{Change}
use Rattle.model.specs.declared.calls.Change.TheVariants.{Assign, Withdraw, Permit, Revoke, Mandate}
use Rattle.model.specs.declared.calls.Product.TheVariants.{Server}
use Rattle.model.specs.declared.calls.Ask.TheVariants.{Open, Add}
use Rattle.model.specs.declared.calls.Call.{Call}
use Rattle.model.specs.declared.calls.Call.TheVariants.{Table, Session, Read}
use Rattle.model.specs.declared.calls.Refusal.TheVariants.{Linkable}
use Rattle.model.specs.declared.calls.Verdict.TheVariants.{Granted, Refused}
use Rattle.model.specs.State.{first_of, session_at, filled, place, set_place, any_flow, reach_with, conflicts, outside, deny_before, role_set, linkable, roleset_at, given, new_version, fresh}
use Rattle.model.specs.Calls.{number_of, returned, verdict_of, to_holders, spent, assign, withdraw, permit, revoke, forward, mandate, open_session, conflicts_in, conflicting, with_flow, add, show, links, by_duty, read, answer_of, change, ask, step, answer, verdict, after}
use Rattle.model.specs.Ledger.{Ledger, flow_of, reads, reads_two_of, holds_denied, linked, under_mandate}
use Rattle.model.specs.Refusals.{check_rows, read_rows, rows, first_met, earlier_refusal}
use Rattle.model.specs.Demands.{list_of, flow_seen, seen, engine_after, call_at, engine_at, ledger_at, run_of, TwoReads, HoldsDenied, NothingTaken, OutsideMandates}
use Rattle.model.proofs.Demands.{demand3}
use Rattle.worked.specs.Needed.{NothingTakenBy, Needed}

-- user 1 holds roles 0, 1 and 2; role 0 reads database 0, role 1 database 1; a flow of each, and roles are chosen for the second
unfoldable begun : ℕ → List Call → List Call
begun chosen more =
    Table (Assign 1 0)
    ∷ Table (Assign 1 1)
    ∷ Table (Assign 1 2)
    ∷ Table (Permit 0 0)
    ∷ Table (Permit 1 1)
    ∷ Session Server 0 Open
    ∷ Session Server 0 (Add 0 0)
    ∷ Session Server 0 (Add 1 chosen)
    ∷ more

unfoldable unchosen : List Call
unchosen = begun 0 (Read Server 1 0 0 0 ∷ Read Server 1 0 1 1 ∷ [])

unfoldable unchosen_backwards : List Call
unchosen_backwards = begun 0 (Read Server 1 0 1 1 ∷ Read Server 1 0 0 0 ∷ [])

unfoldable withdrawing : List Call
withdrawing = begun 4 (Read Server 1 0 0 0 ∷ Table (Withdraw 1 0) ∷ Read Server 1 0 1 1 ∷ [])

-- a revocation gives the user a new version, so a third flow is added after it; by then the user reads neither of the first two
unfoldable revoking : List Call
revoking = begun 4 (Read Server 1 0 0 0 ∷ Table (Revoke 0 0) ∷ Table (Revoke 1 1) ∷ Table (Permit 2 2) ∷ Session Server 0 (Add 2 0) ∷ Read Server 1 0 2 2 ∷ [])

unfoldable mandating : List Call
mandating = begun 4 (Table (Mandate 1 1) ∷ Read Server 1 0 0 0 ∷ Read Server 1 0 1 1 ∷ [])

unfoldable mandating_backwards : List Call
mandating_backwards = begun 4 (Table (Mandate 1 1) ∷ Read Server 1 0 1 1 ∷ Read Server 1 0 0 0 ∷ [])

-- ---- by the engine, which holds what the ledger does

by_engine : (cs : List Call) (i : ℕ) (test : Ledger → Bool) (b : Bool) → test (seen (engine_at cs i)) ≡ b → test (ledger_at cs i) ≡ b
by_engine cs i test b h = rw (← (demand3 cs).same i) h

-- user 1 holds a role of the deny set of flow f
unfoldable denies : ℕ → Ledger → Bool
denies f l = holds_denied l 1 (flow_of l Server 0 f)

-- calls i and j are granted reads of flows f and g, each at the database of the same number
record Reads (cs : List Call) (i j f g : ℕ) : Type 0 where
  earlier : i < j
  within : j < length cs
  apart : f ≡ g → ⊥
  one : call_at cs i ≡ Read Server 1 0 f f
  other : call_at cs j ≡ Read Server 1 0 g g
  granted : verdict (engine_at cs i) (call_at cs i) ≡ Granted
  granted_later : verdict (engine_at cs j) (call_at cs j) ≡ Granted

two_of : {cs : List Call} {i j f g : ℕ} → Reads cs i j f g → TwoReads (run_of cs)
two_of {cs} {i} {j} {f} {g} r = record {
  i = i;
  j = j;
  earlier = r.earlier;
  within = r.within;
  product = Server;
  user = 1;
  session = 0;
  f = f;
  g = g;
  apart = r.apart;
  d = f;
  e = g;
  asked = r.one;
  asked_later = r.other;
  granted = r.granted;
  granted_later = r.granted_later;
}

unchosen_reads : Reads unchosen 8 9 0 1
unfolding has set_of some count inserted removed joined shared lacking meeting size_of there entered struck image onward level reach with_roles with_readers with_forwards with_mandates assigned withdrawn permitted revoked forwarded mandated held_by overlaps parents_of statically_reads empty_tables filled place set_place any_flow reach_with conflicts outside deny_before role_set linkable roleset_at given new_version first_of session_at fresh number_of returned verdict_of to_holders spent assign withdraw permit revoke forward mandate open_session conflicts_in conflicting with_flow add show links by_duty read answer_of change ask step answer verdict after engine_after call_at engine_at begun unchosen
unchosen_reads = record { earlier = omega arith; within = omega arith; apart = λ e. absurd (omega (arith, e)); one = refl; other = refl; granted = refl; granted_later = refl }

unchosen_free : (under_mandate (seen (engine_at unchosen 8)) 1 0 ≡ false) × (under_mandate (seen (engine_at unchosen 9)) 1 1 ≡ false)
unfolding has set_of some count inserted removed joined shared lacking meeting size_of there entered struck image onward level reach with_roles with_readers with_forwards with_mandates assigned withdrawn permitted revoked forwarded mandated held_by overlaps parents_of statically_reads empty_tables filled place set_place any_flow reach_with conflicts outside deny_before role_set linkable roleset_at given new_version first_of session_at fresh number_of returned verdict_of to_holders spent assign withdraw permit revoke forward mandate open_session conflicts_in conflicting with_flow add show links by_duty read answer_of change ask step answer verdict after engine_after call_at engine_at begun list_of flow_seen seen flow_of reads reads_two_of holds_denied linked under_mandate unchosen
unchosen_free = (refl, refl)

unchosen_backwards_reads : Reads unchosen_backwards 8 9 1 0
unfolding has set_of some count inserted removed joined shared lacking meeting size_of there entered struck image onward level reach with_roles with_readers with_forwards with_mandates assigned withdrawn permitted revoked forwarded mandated held_by overlaps parents_of statically_reads empty_tables filled place set_place any_flow reach_with conflicts outside deny_before role_set linkable roleset_at given new_version first_of session_at fresh number_of returned verdict_of to_holders spent assign withdraw permit revoke forward mandate open_session conflicts_in conflicting with_flow add show links by_duty read answer_of change ask step answer verdict after engine_after call_at engine_at begun unchosen_backwards
unchosen_backwards_reads = record { earlier = omega arith; within = omega arith; apart = λ e. absurd (omega (arith, e)); one = refl; other = refl; granted = refl; granted_later = refl }

unchosen_backwards_free : (under_mandate (seen (engine_at unchosen_backwards 8)) 1 1 ≡ false) × (under_mandate (seen (engine_at unchosen_backwards 9)) 1 0 ≡ false)
unfolding has set_of some count inserted removed joined shared lacking meeting size_of there entered struck image onward level reach with_roles with_readers with_forwards with_mandates assigned withdrawn permitted revoked forwarded mandated held_by overlaps parents_of statically_reads empty_tables filled place set_place any_flow reach_with conflicts outside deny_before role_set linkable roleset_at given new_version first_of session_at fresh number_of returned verdict_of to_holders spent assign withdraw permit revoke forward mandate open_session conflicts_in conflicting with_flow add show links by_duty read answer_of change ask step answer verdict after engine_after call_at engine_at begun list_of flow_seen seen flow_of reads reads_two_of holds_denied linked under_mandate unchosen_backwards
unchosen_backwards_free = (refl, refl)

withdrawing_reads : Reads withdrawing 8 10 0 1
unfolding has set_of some count inserted removed joined shared lacking meeting size_of there entered struck image onward level reach with_roles with_readers with_forwards with_mandates assigned withdrawn permitted revoked forwarded mandated held_by overlaps parents_of statically_reads empty_tables filled place set_place any_flow reach_with conflicts outside deny_before role_set linkable roleset_at given new_version first_of session_at fresh number_of returned verdict_of to_holders spent assign withdraw permit revoke forward mandate open_session conflicts_in conflicting with_flow add show links by_duty read answer_of change ask step answer verdict after engine_after call_at engine_at begun withdrawing
withdrawing_reads = record { earlier = omega arith; within = omega arith; apart = λ e. absurd (omega (arith, e)); one = refl; other = refl; granted = refl; granted_later = refl }

withdrawing_free : (under_mandate (seen (engine_at withdrawing 8)) 1 0 ≡ false) × (under_mandate (seen (engine_at withdrawing 10)) 1 1 ≡ false) × (denies 1 (seen (engine_at withdrawing 10)) ≡ true)
unfolding has set_of some count inserted removed joined shared lacking meeting size_of there entered struck image onward level reach with_roles with_readers with_forwards with_mandates assigned withdrawn permitted revoked forwarded mandated held_by overlaps parents_of statically_reads empty_tables filled place set_place any_flow reach_with conflicts outside deny_before role_set linkable roleset_at given new_version first_of session_at fresh number_of returned verdict_of to_holders spent assign withdraw permit revoke forward mandate open_session conflicts_in conflicting with_flow add show links by_duty read answer_of change ask step answer verdict after engine_after call_at engine_at begun list_of flow_seen seen flow_of reads reads_two_of holds_denied linked under_mandate denies withdrawing
withdrawing_free = (refl, refl, refl)

revoking_reads : Reads revoking 8 13 0 2
unfolding has set_of some count inserted removed joined shared lacking meeting size_of there entered struck image onward level reach with_roles with_readers with_forwards with_mandates assigned withdrawn permitted revoked forwarded mandated held_by overlaps parents_of statically_reads empty_tables filled place set_place any_flow reach_with conflicts outside deny_before role_set linkable roleset_at given new_version first_of session_at fresh number_of returned verdict_of to_holders spent assign withdraw permit revoke forward mandate open_session conflicts_in conflicting with_flow add show links by_duty read answer_of change ask step answer verdict after engine_after call_at engine_at begun revoking
revoking_reads = record { earlier = omega arith; within = omega arith; apart = λ e. absurd (omega (arith, e)); one = refl; other = refl; granted = refl; granted_later = refl }

revoking_free : (under_mandate (seen (engine_at revoking 8)) 1 0 ≡ false) × (under_mandate (seen (engine_at revoking 13)) 1 2 ≡ false) × (denies 2 (seen (engine_at revoking 13)) ≡ true)
unfolding has set_of some count inserted removed joined shared lacking meeting size_of there entered struck image onward level reach with_roles with_readers with_forwards with_mandates assigned withdrawn permitted revoked forwarded mandated held_by overlaps parents_of statically_reads empty_tables filled place set_place any_flow reach_with conflicts outside deny_before role_set linkable roleset_at given new_version first_of session_at fresh number_of returned verdict_of to_holders spent assign withdraw permit revoke forward mandate open_session conflicts_in conflicting with_flow add show links by_duty read answer_of change ask step answer verdict after engine_after call_at engine_at begun list_of flow_seen seen flow_of reads reads_two_of holds_denied linked under_mandate denies revoking
revoking_free = (refl, refl, refl)

mandating_reads : Reads mandating 9 10 0 1
unfolding has set_of some count inserted removed joined shared lacking meeting size_of there entered struck image onward level reach with_roles with_readers with_forwards with_mandates assigned withdrawn permitted revoked forwarded mandated held_by overlaps parents_of statically_reads empty_tables filled place set_place any_flow reach_with conflicts outside deny_before role_set linkable roleset_at given new_version first_of session_at fresh number_of returned verdict_of to_holders spent assign withdraw permit revoke forward mandate open_session conflicts_in conflicting with_flow add show links by_duty read answer_of change ask step answer verdict after engine_after call_at engine_at begun mandating
mandating_reads = record { earlier = omega arith; within = omega arith; apart = λ e. absurd (omega (arith, e)); one = refl; other = refl; granted = refl; granted_later = refl }

mandating_denied : (denies 1 (seen (engine_at mandating 10)) ≡ true) × (linked (seen (engine_at mandating 10)) Server 1 0 1 ≡ true) × (under_mandate (seen (engine_at mandating 9)) 1 0 ≡ false)
unfolding has set_of some count inserted removed joined shared lacking meeting size_of there entered struck image onward level reach with_roles with_readers with_forwards with_mandates assigned withdrawn permitted revoked forwarded mandated held_by overlaps parents_of statically_reads empty_tables filled place set_place any_flow reach_with conflicts outside deny_before role_set linkable roleset_at given new_version first_of session_at fresh number_of returned verdict_of to_holders spent assign withdraw permit revoke forward mandate open_session conflicts_in conflicting with_flow add show links by_duty read answer_of change ask step answer verdict after engine_after call_at engine_at begun list_of flow_seen seen flow_of reads reads_two_of holds_denied linked under_mandate denies mandating
mandating_denied = (refl, refl, refl)

mandating_backwards_reads : Reads mandating_backwards 9 10 1 0
unfolding has set_of some count inserted removed joined shared lacking meeting size_of there entered struck image onward level reach with_roles with_readers with_forwards with_mandates assigned withdrawn permitted revoked forwarded mandated held_by overlaps parents_of statically_reads empty_tables filled place set_place any_flow reach_with conflicts outside deny_before role_set linkable roleset_at given new_version first_of session_at fresh number_of returned verdict_of to_holders spent assign withdraw permit revoke forward mandate open_session conflicts_in conflicting with_flow add show links by_duty read answer_of change ask step answer verdict after engine_after call_at engine_at begun mandating_backwards
mandating_backwards_reads = record { earlier = omega arith; within = omega arith; apart = λ e. absurd (omega (arith, e)); one = refl; other = refl; granted = refl; granted_later = refl }

mandating_backwards_denied : (denies 1 (seen (engine_at mandating_backwards 9)) ≡ true) × (under_mandate (seen (engine_at mandating_backwards 10)) 1 0 ≡ false)
unfolding has set_of some count inserted removed joined shared lacking meeting size_of there entered struck image onward level reach with_roles with_readers with_forwards with_mandates assigned withdrawn permitted revoked forwarded mandated held_by overlaps parents_of statically_reads empty_tables filled place set_place any_flow reach_with conflicts outside deny_before role_set linkable roleset_at given new_version first_of session_at fresh number_of returned verdict_of to_holders spent assign withdraw permit revoke forward mandate open_session conflicts_in conflicting with_flow add show links by_duty read answer_of change ask step answer verdict after engine_after call_at engine_at begun list_of flow_seen seen flow_of reads reads_two_of holds_denied linked under_mandate denies mandating_backwards
mandating_backwards_denied = (refl, refl)

-- no row before 13 is met: the read is granted
no_earlier : earlier_refusal (seen (engine_at mandating 10)) (call_at mandating 10) ≡ 0
unfolding has set_of some count inserted removed joined shared lacking meeting size_of there entered struck image onward level reach with_roles with_readers with_forwards with_mandates assigned withdrawn permitted revoked forwarded mandated held_by overlaps parents_of statically_reads empty_tables filled place set_place any_flow reach_with conflicts outside deny_before role_set linkable roleset_at given new_version first_of session_at fresh number_of returned verdict_of to_holders spent assign withdraw permit revoke forward mandate open_session conflicts_in conflicting with_flow add show links by_duty read answer_of change ask step answer verdict after engine_after call_at engine_at begun list_of flow_seen seen flow_of reads reads_two_of holds_denied linked under_mandate mandating earlier_refusal rows read_rows check_rows first_met
no_earlier = refl

-- the flow that was added later is read later, or first
denied_later : {cs : List Call} {i j f g : ℕ} (r : Reads cs i j f g) → f < g → denies g (seen (engine_at cs j)) ≡ true → HoldsDenied (two_of r)
unfolding two_of denies
denied_later {cs} {i} {j} {f} {g} r l h = record { later = λ k. by_engine cs j (denies g) true h; earlier = λ k. absurd (omega (arith, k, l)) }

denied_first : {cs : List Call} {i j f g : ℕ} (r : Reads cs i j f g) → g < f → denies f (seen (engine_at cs i)) ≡ true → HoldsDenied (two_of r)
unfolding two_of denies
denied_first {cs} {i} {j} {f} {g} r l h = record { later = λ k. absurd (omega (arith, k, l)); earlier = λ k. by_engine cs i (denies f) true h }

-- a read at database d is not under a mandate
free_at : (cs : List Call) (i d : ℕ) → under_mandate (seen (engine_at cs i)) 1 d ≡ false → under_mandate (ledger_at cs i) 1 d ≡ false
free_at cs i d h = by_engine cs i (λ l. under_mandate l 1 d) false h

free : {cs : List Call} {i j f g : ℕ} (r : Reads cs i j f g) → under_mandate (seen (engine_at cs i)) 1 f ≡ false → under_mandate (seen (engine_at cs j)) 1 g ≡ false → OutsideMandates (two_of r)
unfolding two_of
free {cs} {i} {j} {f} {g} r a b = record { first = free_at cs i f a; second = free_at cs j g b }

-- between two calls that follow each other there is none
none_between : {cs : List Call} {i f g : ℕ} (r : Reads cs i (suc i) f g) → NothingTaken (two_of r)
unfolding two_of
none_between r k c a b = absurd (omega (arith, a, b))

-- ---- a list without calls of one kind

unfoldable withdraws : Call → Bool
withdraws (Table (Withdraw u r)) = true
withdraws c = false

unfoldable revokes : Call → Bool
revokes (Table (Revoke r d)) = true
revokes c = false

none_of : {cs : List Call} {i j f g : ℕ} (r : Reads cs i j f g) (kind : ℕ → ℕ → Change) (is_kind : Call → Bool)
    → ((a b : ℕ) → is_kind (Table (kind a b)) ≡ true)
    → some (length cs) (λ k. is_kind (call_at cs k)) ≡ false → NothingTakenBy kind (two_of r)
unfolding two_of
none_of {cs} r kind is_kind is n k a b l m c x =
    absurd (true≢false (sym (some_at (length cs) (λ k. is_kind (call_at cs k)) k (omega (arith, m, r.within)) (ap is_kind c ∙ is a b)) ∙ n))

no_revocation : NothingTakenBy Revoke (two_of withdrawing_reads)
unfolding some call_at begun withdrawing revokes
no_revocation = none_of withdrawing_reads Revoke revokes (λ a b. refl) refl

no_withdrawal : NothingTakenBy Withdraw (two_of revoking_reads)
unfolding some call_at begun revoking withdraws
no_withdrawal = none_of revoking_reads Withdraw withdraws (λ a b. refl) refl

pub needed : Needed
unfolding two_of
needed = record {
  denied = λ h. h unchosen (two_of unchosen_reads) (none_between unchosen_reads, free unchosen_reads unchosen_free.0 unchosen_free.1);
  taken = λ h. h withdrawing (two_of withdrawing_reads) (denied_later withdrawing_reads (omega arith) withdrawing_free.2, free withdrawing_reads withdrawing_free.0 withdrawing_free.1);
  mandates = λ h. h mandating (two_of mandating_reads) (denied_later mandating_reads (omega arith) mandating_denied.0, none_between mandating_reads);
  mandate = λ h.
      refused
      (sym mandating_reads.granted_later
      ∙ h mandating (record { i = 10; within = mandating_reads.within; product = Server; user = 1; session = 0; flow = 1; database = 1; asked = mandating_reads.other }) tt
      (by_row mandating 10 no_earlier)
      ∙ ap (λ (b : Bool). cond b (Refused Linkable) Granted) (by_engine mandating 10 (λ l. linked l Server 1 0 1) true mandating_denied.1));
  later = λ h. h unchosen (two_of unchosen_reads) (λ k. absurd (omega (arith, k)), none_between unchosen_reads, free unchosen_reads unchosen_free.0 unchosen_free.1);
  earlier = λ h.
      h unchosen_backwards (two_of unchosen_backwards_reads)
      (λ k. absurd (omega (arith, k)), none_between unchosen_backwards_reads, free unchosen_backwards_reads unchosen_backwards_free.0 unchosen_backwards_free.1);
  withdrawals = λ h.
      h withdrawing (two_of withdrawing_reads)
      (denied_later withdrawing_reads (omega arith) withdrawing_free.2, no_revocation, free withdrawing_reads withdrawing_free.0 withdrawing_free.1);
  revocations = λ h. h revoking (two_of revoking_reads) (denied_later revoking_reads (omega arith) revoking_free.2, no_withdrawal, free revoking_reads revoking_free.0 revoking_free.1);
  first = λ h.
      h mandating_backwards (two_of mandating_backwards_reads)
      (denied_first mandating_backwards_reads (omega arith) mandating_backwards_denied.0, none_between mandating_backwards_reads, free_at mandating_backwards 10 0 mandating_backwards_denied.1);
  second = λ h. h mandating (two_of mandating_reads) (denied_later mandating_reads (omega arith) mandating_denied.0, none_between mandating_reads, free_at mandating 9 0 mandating_denied.2);
}
  where
    by_row : (cs : List Call) (i : ℕ) → earlier_refusal (seen (engine_at cs i)) (call_at cs i) ≡ 0 → earlier_refusal (ledger_at cs i) (call_at cs i) ≡ 0
    by_row cs i h = rw (← (demand3 cs).same i) h

    refused : Granted ≡ Refused Linkable → ⊥
    refused h = cc h
