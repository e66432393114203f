-- Demand 3, for every list of calls from a fresh engine.
-- Assumes nothing.
use Prim.Native.Nat.{ℕ}
use mathlib.Core.Path.{◌≡◌, refl, sym, ap, ◌∙◌}
use mathlib.Core.Bool.{Bool, true, false, cond}
use mathlib.Core.List.{List, [], ◌∷◌}
use native.Mathlib.Omega.{arith}
use lib.ListN.{take}
use borrow.Author.Tests.{eqb-true, eqb-false}
use Rattle.model.specs.declared.Engine.{Engine}
use Rattle.model.specs.declared.calls.Refusal.{Refusal}
use Rattle.model.specs.declared.calls.Refusal.TheVariants.{Malformed, AboveLimit, AlreadyThere, NotThere, FlowAdded, NotOpen, SessionFull, NotConflicting, VersionsSpent, NoSuchFlow, OutOfReach, NoPermission, Changed, Linkable, Mandated}
use Rattle.model.specs.declared.calls.Call.{Call}
use Rattle.model.specs.declared.calls.Verdict.{Verdict}
use Rattle.model.specs.declared.calls.Verdict.TheVariants.{Granted, Refused}
use Rattle.model.specs.State.{fresh}
use Rattle.model.specs.Calls.{number_of, returned, verdict, after}
use Rattle.model.specs.Ledger.{Ledger, start, linked}
use Rattle.model.specs.Refusals.{refusal, earlier_refusal, accepts, ledger_step, ledger_after}
use Rattle.model.specs.Demands.{Demand3, seen, engine_after, engine_at, ledger_at, call_at, run_of}
use Rattle.model.proofs.Invariants.{Sized}
use Rattle.model.proofs.Ledgers.{last_row, first_half}
use Rattle.model.proofs.Kept.{Kept, kept_fresh, kept_after, number_told}
use Rattle.model.proofs.Seen.{sized_fresh, sized_after, seen_fresh, refused_number, seen_after}

-- ---- an engine and a ledger of the same calls

record Agree (e : Engine) (l : Ledger) : Type 0 where
  sized : Sized e
  kept : Kept e
  same : seen e ≡ l

agree_after : (e : Engine) (l : Ledger) (cs : List Call) → Agree e l → Agree (engine_after e cs) (ledger_after l cs)
unfolding engine_after ledger_after
agree_after e l [] h = h
agree_after e l (c ∷ cs) h = agree_after (after e c) (ledger_step l c) cs (record {
  sized = sized_after e c h.sized;
  kept = kept_after e c h.sized h.kept;
  same = seen_after e c h.sized ∙ ap (λ (m : Ledger). ledger_step m c) h.same;
})

agree : (cs : List Call) (i : ℕ) → Agree (engine_at cs i) (ledger_at cs i)
unfolding engine_at ledger_at
agree cs i = agree_after fresh start (take i cs) (record { sized = sized_fresh; kept = kept_fresh; same = seen_fresh })

pub numbered : (cs : List Call) (i : ℕ) (c : Call) → returned (verdict (engine_at cs i) c) ≡ refusal (ledger_at cs i) c
numbered cs i c = let h = agree cs i in number_told (engine_at cs i) c h.kept ∙ ap (λ (l : Ledger). refusal l c) h.same

-- ---- a verdict from its number

fourteenth : (why : Refusal) → number_of why ≡ 14 → why ≡ Linkable
unfolding number_of
fourteenth Malformed h = absurd (omega arith)
fourteenth AboveLimit h = absurd (omega arith)
fourteenth AlreadyThere h = absurd (omega arith)
fourteenth NotThere h = absurd (omega arith)
fourteenth FlowAdded h = absurd (omega arith)
fourteenth NotOpen h = absurd (omega arith)
fourteenth SessionFull h = absurd (omega arith)
fourteenth NotConflicting h = absurd (omega arith)
fourteenth VersionsSpent h = absurd (omega arith)
fourteenth NoSuchFlow h = absurd (omega arith)
fourteenth OutOfReach h = absurd (omega arith)
fourteenth NoPermission h = absurd (omega arith)
fourteenth Changed h = absurd (omega arith)
fourteenth Linkable h = refl
fourteenth Mandated h = absurd (omega arith)

pub told : (v : Verdict) (b : Bool) → returned v ≡ cond b 14 0 → v ≡ cond b (Refused Linkable) Granted
unfolding returned
told Granted true h = absurd (omega arith)
told Granted false h = refl
told (Refused why) true h = ap Refused (fourteenth why h)
told (Refused why) false h = absurd (eqb-false (number_of why) 0 (refused_number why) h)

-- ---- the demand

-- a call that is granted meets no row of the ledger
none_met : (cs : List Call) (i : ℕ) (c : Call) → call_at cs i ≡ c → verdict (engine_at cs i) (call_at cs i) ≡ Granted → refusal (ledger_at cs i) c ≡ 0
unfolding returned
none_met cs i c h v = ap (refusal (ledger_at cs i)) (sym h) ∙ sym (numbered cs i (call_at cs i)) ∙ ap returned v

pub demand3 : (cs : List Call) → Demand3 (run_of cs)
unfolding accepts returned
demand3 cs = record {
  same = λ i. (agree cs i).same;
  numbered = λ i. numbered cs i (call_at cs i);
  accepting = λ i l h. (λ v. sym (numbered cs i (call_at cs i)) ∙ ap returned v, λ a. told _ false (numbered cs i (call_at cs i) ∙ a));
  second = λ one o r.
      let l : Ledger = ledger_at cs one.i in
      told _ (linked l one.product one.user one.session one.flow)
      (numbered cs one.i (call_at cs one.i) ∙ ap (refusal l) one.asked
      ∙ last_row l one.product one.user one.session one.flow one.database o (ap (earlier_refusal l) (sym one.asked) ∙ r));
  first = λ two w.
      first_half cs two.product two.i two.j two.user two.session two.f two.g two.d two.e two.earlier two.within two.asked two.asked_later two.apart
      (none_met cs two.i _ two.asked two.granted) (none_met cs two.j _ two.asked_later two.granted_later) w.2.first w.2.second w.0.later w.0.earlier
      (λ k c a b t v. w.1 k c a b t (ap (refusal (ledger_at cs k)) t ∙ eqb-true _ 0 v));
}
