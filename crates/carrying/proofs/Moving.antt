-- A run that moves is a run of the engine: calls that the old engine refused for want of a version are struck out, and all else is as it was.
-- Assumes nothing.
use Prim.Native.Nat.{ℕ, zero, suc, ◌-◌, ◌≤◌, ◌<◌}
use mathlib.Core.Path.{◌≡◌, refl, sym, ap, ◌∙◌, subst}
use mathlib.Core.Bool.{Bool, true, false, cond, ◌&&◌, true≢false, and-false}
use mathlib.Core.List.{List, [], ◌∷◌, ◌++◌}
use mathlib.Core.Logic.{◌⊎◌, inl, inr, ◌≢◌}
use native.Mathlib.Decide.{dec_lt}
use native.Mathlib.Nat.{zero-sub, sub-zero, suc-sub-suc}
use native.Mathlib.Omega.{arith}
use lib.Dec.{ltb, eqb}
use lib.ListN.{length, take, length-append}
use borrow.Author.Tests.{eqb-true, eqb-false, ne_eqb, lt-ltb, le-ltb}
use Rattle.sets.specs.Sets.{some}
use Rattle.tables.specs.Tables.{user_count}
use Rattle.model.specs.declared.Engine.{Engine}
use Rattle.model.specs.declared.calls.Refusal.{Refusal}
use Rattle.model.specs.declared.calls.Refusal.TheVariants.{Malformed, AboveLimit, AlreadyThere, NotThere, FlowAdded, NotOpen, SessionFull, NotConflicting, VersionsSpent, NoSuchFlow, OutOfReach, NoPermission, Changed, Linkable, Mandated}
use Rattle.model.specs.declared.calls.Change.{Change}
use Rattle.model.specs.declared.calls.Change.TheVariants.{Assign, Withdraw, Permit, Revoke, Forward, Mandate}
use Rattle.model.specs.declared.calls.Product.{Product}
use Rattle.model.specs.declared.calls.Call.{Call}
use Rattle.model.specs.declared.calls.Call.TheVariants.{Table, Session, Read, Unreadable}
use Rattle.model.specs.declared.calls.Verdict.{Verdict}
use Rattle.model.specs.declared.calls.Verdict.TheVariants.{Granted, Refused}
use Rattle.model.specs.Limits.{last_version}
use Rattle.model.specs.State.{fresh}
use Rattle.model.specs.Calls.{number_of, returned, verdict_of, Done, step, answer, verdict, after}
use Rattle.model.specs.Ledger.{Ledger, start, linked}
use Rattle.model.specs.Refusals.{due, spent, change_rows, ask_rows, check_rows, read_rows, rows, first_met, refusal, earlier_refusal, accepts, taken, ledger_step, ledger_after}
use Rattle.model.specs.Demands.{seen, engine_after, engine_at, ledger_at, call_at, is_read, run_of, TwoReads}
use Rattle.model.proofs.Invariants.{Sized}
use Rattle.model.proofs.Chains.{Checked}
use Rattle.model.proofs.SeenRows.{checked}
use Rattle.model.proofs.Seen.{sized_fresh, sized_after, seen_fresh, seen_after, refused_number}
use Rattle.model.proofs.Ledgers.{ledger_both}
use Rattle.model.proofs.Lasting.{engine_both}
use Rattle.model.proofs.Demands.{told, demand3, numbered}
use Rattle.model.proofs.Versions.{lacks, lacking, few_taken}
use Rattle.carrying.specs.declared.OldEngine.{OldEngine}
use Rattle.carrying.specs.Carrying.{carried_directory, carried_sessions, carried_over}
use Rattle.carrying.specs.Moving.{old_last, old_of, old_after, old_at, old_refusal, old_ledger_step, old_ledger_after, moved_at, moved_ledger, last_at, moved_run, Moved, Led}

-- ---- row 9, which is the last row of a change

last_met : (front : List (ℕ × Bool)) (b : Bool) → (first_met (front ++ ((9, b) ∷ [])) ≡ 9) ⊎ (first_met (front ++ ((9, b) ∷ [])) ≡ first_met (front ++ ((9, false) ∷ [])))
unfolding first_met
last_met [] true = inl refl
last_met [] false = inr refl
last_met ((n, true) ∷ front) b = inr refl
last_met ((n, false) ∷ front) b = last_met front b

-- up to the old last version there is a later one
left : (l : Ledger) (c : Change) → l.system ≤ old_last → spent last_version l c ≡ false
unfolding spent
left l c h = ap (λ (b : Bool). some user_count (due l c) && b) (ne_eqb l.system last_version (λ q. absurd (omega (arith, q)))) ∙ and-false (some user_count (due l c))

-- so a change meets row 9 by the old engine's rows, or the row that it meets by the engine's
ninth : (l : Ledger) (c : Change) → l.system ≤ old_last → (first_met (change_rows old_last l c) ≡ 9) ⊎ (first_met (change_rows old_last l c) ≡ first_met (change_rows last_version l c))
unfolding change_rows
ninth l (Assign u r) h = rw (left l (Assign u r) h) (last_met (_ ∷ _ ∷ []) (spent old_last l (Assign u r)))
ninth l (Withdraw u r) h = inr refl
ninth l (Permit r d) h = rw (left l (Permit r d) h) (last_met (_ ∷ _ ∷ []) (spent old_last l (Permit r d)))
ninth l (Revoke r d) h = rw (left l (Revoke r d) h) (last_met (_ ∷ _ ∷ _ ∷ []) (spent old_last l (Revoke r d)))
ninth l (Forward d e) h = inr refl
ninth l (Mandate r d) h = inr refl

-- ---- a call that the old engine refuses for want of a version is struck out

unfoldable kept : Ledger → Call → Call
kept l c = cond (eqb (old_refusal l c) 9) Unreadable c

unfoldable kept_all : Ledger → List Call → List Call
kept_all l [] = []
kept_all l (c ∷ cs) = kept l c ∷ kept_all (old_ledger_step l c) cs

-- a call stays, or meets row 9 by the old rows
kept_by : (P : Call → Type 0) (l : Ledger) (c : Call) → (old_refusal l c ≡ 9 → P Unreadable) → (old_refusal l c ≢ 9 → P c) → P (kept l c)
unfolding kept
kept_by P l c f g = go (eqb (old_refusal l c) 9) refl
  where
    go : (b : Bool) → eqb (old_refusal l c) 9 ≡ b → P (cond b Unreadable c)
    go true e = f (eqb-true (old_refusal l c) 9 e)
    go false e = g (eqb-false (old_refusal l c) 9 e)

-- a call that stays meets by the old rows what it meets by the engine's
same_refusal : (l : Ledger) (c : Call) → l.system ≤ old_last → old_refusal l c ≢ 9 → old_refusal l c ≡ refusal l c
unfolding old_refusal refusal rows
same_refusal l (Table c) h n = go (ninth l c h)
  where
    go : (first_met (change_rows old_last l c) ≡ 9) ⊎ (first_met (change_rows old_last l c) ≡ first_met (change_rows last_version l c)) → first_met (change_rows old_last l c) ≡ first_met (change_rows last_version l c)
    go (inl e) = absurd (n e)
    go (inr e) = e
same_refusal l (Session p s a) h n = refl
same_refusal l (Read p u s f d) h n = refl
same_refusal l Unreadable h n = refl

-- the old ledger takes a call as the ledger takes what is left of it
same_step : (l : Ledger) (c : Call) → l.system ≤ old_last → old_ledger_step l c ≡ ledger_step l (kept l c)
unfolding old_ledger_step ledger_step accepts taken
same_step l c h = kept_by (λ x. old_ledger_step l c ≡ ledger_step l x) l c (λ e. rw e (unread (accepts l Unreadable))) (λ n. rw (same_refusal l c h n))
  where
    unread : (b : Bool) → l ≡ cond b (taken l Unreadable) l
    unread true = refl
    unread false = refl

-- ---- the old ledger stays at or below its last version

few_step : (l : Ledger) (c : Call) → l.system ≤ old_last → (old_ledger_step l c).system ≤ old_last
unfolding old_ledger_step old_refusal
few_step l c h = go (eqb (old_refusal l c) 0) refl
  where
    go : (b : Bool) → eqb (old_refusal l c) 0 ≡ b → (cond b (taken l c) l).system ≤ old_last
    go true e = few_taken old_last l c h (eqb-true (old_refusal l c) 0 e)
    go false e = h

-- ---- the old engine does the same as the engine does with what is left of the call

-- two chains of checks with one outcome, of which the first rows met have one number, leave the same
same_left : {S : Type 0} {s : S} {rows rows' : List (ℕ × Bool)} {granted x y : Done S} → Checked s rows granted x → Checked s rows' granted y → first_met rows ≡ first_met rows' → x.after ≡ y.after
unfolding returned
same_left {S} {s} {rows} {rows'} {granted} {x} {y} a b e = go (verdict_of x.answer) refl (verdict_of y.answer) refl
  where
    apart : (why : Refusal) → 0 ≡ number_of why → ⊥
    apart why h = true≢false (ap (λ (n : ℕ). eqb n 0) h ∙ refused_number why)

    go : (v : Verdict) → verdict_of x.answer ≡ v → (w : Verdict) → verdict_of y.answer ≡ w → x.after ≡ y.after
    go Granted h Granted i = ap (λ (z : Done S). z.after) (a.passed h ∙ sym (b.passed i))
    go Granted h (Refused why) i = absurd (apart why (ap returned (sym h) ∙ a.number ∙ e ∙ sym b.number ∙ ap returned i))
    go (Refused why) h Granted i = absurd (apart why (ap returned (sym i) ∙ b.number ∙ sym e ∙ sym a.number ∙ ap returned h))
    go (Refused why) h (Refused how) i = a.refused why h ∙ sym (b.refused how i)

-- what meets a row leaves what was there
met_left : {S : Type 0} {s : S} {rows : List (ℕ × Bool)} {granted x : Done S} → Checked s rows granted x → first_met rows ≡ 9 → x.after ≡ s
unfolding returned
met_left {S} {s} {rows} {granted} {x} a e = go (verdict_of x.answer) refl
  where
    go : (v : Verdict) → verdict_of x.answer ≡ v → x.after ≡ s
    go Granted h = absurd (let z : ◌≡◌ {A = ℕ} 0 9 = ap returned (sym h) ∙ a.number ∙ e in omega (arith, z))
    go (Refused why) h = a.refused why h

same_after : (e : Engine) (c : Call) → (seen e).system ≤ old_last → (step old_last e c).after ≡ after e (kept (seen e) c)
unfolding after step old_refusal refusal rows
same_after e c h = kept_by (λ x. (step old_last e c).after ≡ (step last_version e x).after) (seen e) c (struck c) (stays c)
  where
    struck : (c : Call) → old_refusal (seen e) c ≡ 9 → (step old_last e c).after ≡ (step last_version e Unreadable).after
    struck (Table c) q = met_left (checked old_last e (Table c)) q
    struck (Session p s a) q = met_left (checked old_last e (Session p s a)) q
    struck (Read p u s f d) q = refl
    struck Unreadable q = refl

    stays : (c : Call) → old_refusal (seen e) c ≢ 9 → (step old_last e c).after ≡ (step last_version e c).after
    stays (Table c) n = same_left (checked old_last e (Table c)) (checked last_version e (Table c)) (same_refusal (seen e) (Table c) h n)
    stays (Session p s a) n = refl
    stays (Read p u s f d) n = refl
    stays Unreadable n = refl

-- ---- lists

-- an engine and its ledger, below the old last version
record Together (e : Engine) (l : Ledger) : Type 0 where
  sized : Sized e
  same : seen e ≡ l
  few : l.system ≤ old_last

together_start : Together fresh start
unfolding start
together_start = record { sized = sized_fresh; same = seen_fresh; few = omega arith }

together_step : (e : Engine) (l : Ledger) (c : Call) → Together e l → Together (after e (kept l c)) (old_ledger_step l c)
together_step e l c t = record {
  sized = sized_after e (kept l c) t.sized;
  same = seen_after e (kept l c) t.sized ∙ ap (λ (m : Ledger). ledger_step m (kept l c)) t.same ∙ sym (same_step l c t.few);
  few = few_step l c t.few;
}

old_there : (e : Engine) → carried_over (old_of e) ≡ e
unfolding carried_over carried_directory carried_sessions old_of
old_there e = refl

old_step : (e : Engine) (l : Ledger) (c : Call) → Together e l → old_of (step old_last (carried_over (old_of e)) c).after ≡ old_of (after e (kept l c))
old_step e l c t = rw (old_there e, ← t.same) (ap old_of (same_after e c (rw (← t.same) at t.few)))

-- the engine, and the ledger, after the calls and after what is left of them
led_engine : (e : Engine) (l : Ledger) (cs : List Call) → Together e l → carried_over (old_after (old_of e) cs) ≡ engine_after e (kept_all l cs)
unfolding old_after engine_after kept_all
led_engine e l [] t = old_there e
led_engine e l (c ∷ cs) t = ap (λ (o : OldEngine). carried_over (old_after o cs)) (old_step e l c t) ∙ led_engine (after e (kept l c)) (old_ledger_step l c) cs (together_step e l c t)

led_ledger : (l : Ledger) (cs : List Call) → l.system ≤ old_last → old_ledger_after l cs ≡ ledger_after l (kept_all l cs)
unfolding old_ledger_after ledger_after kept_all
led_ledger l [] h = refl
led_ledger l (c ∷ cs) h = led_ledger (old_ledger_step l c) cs (few_step l c h) ∙ ap (λ (m : Ledger). ledger_after m (kept_all (old_ledger_step l c) cs)) (same_step l c h)

few_after : (l : Ledger) (cs : List Call) → l.system ≤ old_last → (old_ledger_after l cs).system ≤ old_last
unfolding old_ledger_after
few_after l [] h = h
few_after l (c ∷ cs) h = few_after (old_ledger_step l c) cs (few_step l c h)

-- what is left, call by call
length_kept : (l : Ledger) (cs : List Call) → length (kept_all l cs) ≡ length cs
unfolding kept_all
length_kept l [] = refl
length_kept l (c ∷ cs) = ap suc (length_kept (old_ledger_step l c) cs)

take_kept : (l : Ledger) (i : ℕ) (cs : List Call) → take i (kept_all l cs) ≡ kept_all l (take i cs)
unfolding kept_all
take_kept l zero cs = refl
take_kept l (suc i) [] = refl
take_kept l (suc i) (c ∷ cs) = ap (λ (xs : List Call). kept l c ∷ xs) (take_kept (old_ledger_step l c) i cs)

kept_none : (l : Ledger) → kept l Unreadable ≡ Unreadable
kept_none l = kept_by (λ x. x ≡ Unreadable) l Unreadable (λ e. refl) (λ n. refl)

kept_at : (l : Ledger) (i : ℕ) (cs : List Call) → call_at (kept_all l cs) i ≡ kept (old_ledger_after l (take i cs)) (call_at cs i)
unfolding call_at kept_all old_ledger_after
kept_at l zero [] = sym (kept_none l)
kept_at l (suc i) [] = sym (kept_none l)
kept_at l zero (c ∷ cs) = refl
kept_at l (suc i) (c ∷ cs) = kept_at (old_ledger_step l c) i cs

-- a part of two lists
take_both : {A : Type 0} (i : ℕ) (xs ys : List A) → take i (xs ++ ys) ≡ take i xs ++ take (i - length xs) ys
take_both zero [] ys = refl
take_both zero (x ∷ xs) ys = rw (zero-sub (suc (length xs)))
take_both (suc i) [] ys = rw (sub-zero (suc i))
take_both (suc i) (x ∷ xs) ys = rw (suc-sub-suc i (length xs)) (ap (λ (zs : List _). x ∷ zs) (take_both i xs ys))

call_first : (i : ℕ) (xs ys : List Call) → i < length xs → call_at (xs ++ ys) i ≡ call_at xs i
unfolding call_at
call_first i [] ys h = absurd (omega (arith, h))
call_first zero (x ∷ xs) ys h = refl
call_first (suc i) (x ∷ xs) ys h = call_first i xs ys (omega (arith, h))

call_later : (i : ℕ) (xs ys : List Call) → length xs ≤ i → call_at (xs ++ ys) i ≡ call_at ys (i - length xs)
unfolding call_at
call_later i [] ys h = rw (sub-zero i)
call_later zero (x ∷ xs) ys h = absurd (omega (arith, h))
call_later (suc i) (x ∷ xs) ys h = rw (suc-sub-suc i (length xs)) (call_later i xs ys (omega (arith, h)))

-- ---- reads are not struck out: row 9 is none of theirs

kept_read : (l : Ledger) (p : Product) (u s f d : ℕ) → kept l (Read p u s f d) ≡ Read p u s f d
unfolding old_refusal rows read_rows check_rows lacks
kept_read l p u s f d = kept_by (λ x. x ≡ Read p u s f d) l (Read p u s f d) (λ e. absurd (lacking (read_rows l (linked l) p u s f d) refl e)) (λ n. refl)

-- ---- the number returned, whatever the last version

number_by : (last : ℕ) (cs : List Call) (i : ℕ) (c : Call) → returned (verdict_of (step last (engine_at cs i) c).answer) ≡ first_met (rows last (ledger_at cs i) (linked (ledger_at cs i)) c)
unfolding verdict answer step refusal rows is_read
number_by last cs i (Table c) = (checked last (engine_at cs i) (Table c)).number ∙ ap (λ (l : Ledger). first_met (change_rows last l c)) ((demand3 cs).same i)
number_by last cs i (Session p s a) = (checked last (engine_at cs i) (Session p s a)).number ∙ ap (λ (l : Ledger). first_met (ask_rows l p s a)) ((demand3 cs).same i)
number_by last cs i (Read p u s f d) = numbered cs i (Read p u s f d)
number_by last cs i Unreadable = (checked last (engine_at cs i) Unreadable).number

-- ---- a run that moves

-- the verdict on a call i, and the first row that it meets by the ledger
moved_verdict : List Call → List Call → ℕ → Call → Verdict
moved_verdict cs ds i c = verdict_of (step (last_at cs i) (moved_at cs ds i) c).answer

moved_refusal : List Call → List Call → ℕ → Call → ℕ
moved_refusal cs ds i c = first_met (rows (last_at cs i) (moved_ledger cs ds i) (linked (moved_ledger cs ds i)) c)

module _ (cs ds : List Call) where
  -- what is left of it
  all : List Call
  all = kept_all start cs ++ ds

  parts : (i : ℕ) → take i all ≡ kept_all start (take i cs) ++ take (i - length cs) ds
  unfolding all
  parts i = rw (take_both i (kept_all start cs) ds, length_kept start cs, take_kept start i cs)

  moved_engine : (i : ℕ) → moved_at cs ds i ≡ engine_at all i
  unfolding moved_at old_at engine_at
  moved_engine i = rw (parts i, engine_both fresh (kept_all start (take i cs)) (take (i - length cs) ds)) (ap (λ (e : Engine). engine_after e (take (i - length cs) ds)) (led_engine fresh start (take i cs) together_start))

  moved_ledger_is : (i : ℕ) → moved_ledger cs ds i ≡ ledger_at all i
  unfolding moved_ledger ledger_at
  moved_ledger_is i = rw (parts i, ledger_both start (kept_all start (take i cs)) (take (i - length cs) ds)) (ap (λ (l : Ledger). ledger_after l (take (i - length cs) ds)) (led_ledger start (take i cs) together_start.few))

  -- its calls
  old_call : (i : ℕ) → i < length cs → call_at all i ≡ kept (old_ledger_after start (take i cs)) (call_at (cs ++ ds) i)
  unfolding all
  old_call i h = call_first i (kept_all start cs) ds (omega (arith, h, length_kept start cs)) ∙ rw (call_first i cs ds h) (kept_at start i cs)

  new_call : (i : ℕ) → length cs ≤ i → call_at all i ≡ call_at (cs ++ ds) i
  unfolding all
  new_call i h = call_later i (kept_all start cs) ds (omega (arith, h, length_kept start cs)) ∙ rw (length_kept start cs) (sym (call_later i cs ds h))

  long : (i : ℕ) → i < length (cs ++ ds) → i < length all
  unfolding all
  long i h = omega (arith, h, length-append cs ds, length-append (kept_all start cs) ds, length_kept start cs)

  read_call : (i : ℕ) (p : Product) (u s f d : ℕ) → call_at (cs ++ ds) i ≡ Read p u s f d → call_at all i ≡ Read p u s f d
  read_call i p u s f d h = go (dec_lt i (length cs))
    where
      go : Dec (i < length cs) → call_at all i ≡ Read p u s f d
      go (yes l) = old_call i l ∙ ap (kept (old_ledger_after start (take i cs))) h ∙ kept_read (old_ledger_after start (take i cs)) p u s f d
      go (no n) = new_call i (omega (arith, n)) ∙ h

  read_verdict : (i : ℕ) (p : Product) (u s f d : ℕ) → moved_verdict cs ds i (Read p u s f d) ≡ verdict (engine_at all i) (Read p u s f d)
  unfolding moved_verdict verdict answer step
  read_verdict i p u s f d = ap (λ (e : Engine). verdict e (Read p u s f d)) (moved_engine i)

  -- a change that is left was asked, and meets the same row
  early_ledger : (i : ℕ) → i < length cs → moved_ledger cs ds i ≡ old_ledger_after start (take i cs)
  unfolding moved_ledger ledger_after
  early_ledger i h = let z : i - length cs ≡ 0 = omega (arith, h) in rw z

  change_call : (i : ℕ) (c : Change) → call_at all i ≡ Table c → (call_at (cs ++ ds) i ≡ Table c) × (moved_refusal cs ds i (Table c) ≡ refusal (moved_ledger cs ds i) (Table c))
  unfolding moved_refusal refusal last_at old_refusal
  change_call i c h = go (dec_lt i (length cs))
    where
      L : Ledger
      L = old_ledger_after start (take i cs)

      left_of : (x : Call) → kept L x ≡ Table c → (x ≡ Table c) × (old_refusal L (Table c) ≡ refusal L (Table c))
      left_of x = kept_by (λ y. y ≡ Table c → (x ≡ Table c) × (old_refusal L (Table c) ≡ refusal L (Table c))) L x (λ e q. absurd (let z : ◌≡◌ {A = ℕ} 0 1 = cc in omega arith)) (λ n q. (q, subst (λ (y : Call). old_refusal L y ≡ refusal L y) q (same_refusal L x (few_after start (take i cs) together_start.few) n)))

      go : Dec (i < length cs) → (call_at (cs ++ ds) i ≡ Table c) × (first_met (rows (cond (ltb i (length cs)) old_last last_version) (moved_ledger cs ds i) (linked (moved_ledger cs ds i)) (Table c)) ≡ refusal (moved_ledger cs ds i) (Table c))
      go (yes l) = let w = left_of (call_at (cs ++ ds) i) (sym (old_call i l) ∙ h) in (w.0, rw (lt-ltb i (length cs) l, early_ledger i l) w.1)
      go (no n) = (sym (new_call i (omega (arith, n))) ∙ h, rw (le-ltb i (length cs) (omega (arith, n))))

  -- a read that is granted is granted after the calls that are left
  read_granted : (i : ℕ) (p : Product) (u s f d : ℕ) → call_at (cs ++ ds) i ≡ Read p u s f d → moved_verdict cs ds i (call_at (cs ++ ds) i) ≡ Granted → verdict (engine_at all i) (call_at all i) ≡ Granted
  read_granted i p u s f d h v =
      ap (verdict (engine_at all i)) (read_call i p u s f d h) ∙ sym (read_verdict i p u s f d) ∙ ap (moved_verdict cs ds i) (sym h) ∙ v

  number_at : (i : ℕ) (c : Call) → returned (moved_verdict cs ds i c) ≡ moved_refusal cs ds i c
  unfolding moved_verdict moved_refusal
  number_at i c = rw (moved_engine i, moved_ledger_is i) (number_by (last_at cs i) all i c)

  left_reads : TwoReads (moved_run cs ds) → TwoReads (run_of all)
  unfolding moved_verdict
  left_reads two = record {
    i = two.i;
    j = two.j;
    earlier = two.earlier;
    within = long two.j two.within;
    product = two.product;
    user = two.user;
    session = two.session;
    f = two.f;
    g = two.g;
    apart = two.apart;
    d = two.d;
    e = two.e;
    asked = read_call two.i _ _ _ _ _ two.asked;
    asked_later = read_call two.j _ _ _ _ _ two.asked_later;
    granted = read_granted two.i _ _ _ _ _ two.asked two.granted;
    granted_later = read_granted two.j _ _ _ _ _ two.asked_later two.granted_later;
  }

  pub moved : Moved cs ds
  unfolding moved_verdict moved_refusal returned left_reads
  moved = record {
    same = λ i. rw (moved_engine i, moved_ledger_is i) ((demand3 all).same i);
    numbered = λ i. number_at i (call_at (cs ++ ds) i);
    accepting = λ i l h. (λ v. sym (number_at i (call_at (cs ++ ds) i)) ∙ ap returned v, λ a. told _ false (number_at i (call_at (cs ++ ds) i) ∙ a));
    second = λ one m r.
        let asked = read_call one.i one.product one.user one.session one.flow one.database one.asked in
        ap (moved_verdict cs ds one.i) one.asked
        ∙ read_verdict one.i one.product one.user one.session one.flow one.database
        ∙ ap (verdict (engine_at all one.i)) (sym asked)
        ∙ rw (← moved_ledger_is one.i)
        at ((demand3 all).second
        (record { i = one.i; within = long one.i one.within; product = one.product; user = one.user; session = one.session; flow = one.flow; database = one.database; asked = asked })
        (rw (moved_ledger_is one.i) at m) (rw (moved_ledger_is one.i) at (ap (earlier_refusal (moved_ledger cs ds one.i)) (asked ∙ sym one.asked) ∙ r)));
    first = λ two w.
        (demand3 all).first (left_reads two) (
          record { later = λ q. rw (moved_ledger_is two.j) at (w.0.later q); earlier = λ q. rw (moved_ledger_is two.i) at (w.0.earlier q) },
          λ k c after before asked accepted.
              let q = change_call k c asked in
              rw (moved_ledger_is k) at (w.1 k c after before q.0 (ap (moved_refusal cs ds k) q.0 ∙ q.1 ∙ ap (refusal (moved_ledger cs ds k)) (sym asked) ∙ rw (← moved_ledger_is k) at accepted)),
          record { first = rw (moved_ledger_is two.i) at w.2.first; second = rw (moved_ledger_is two.j) at w.2.second },
        );
  }

-- ---- what calls to the old engine lead to, calls to the engine lead to

nine : (v : Verdict) → returned v ≡ 9 → v ≡ Refused VersionsSpent
unfolding returned number_of
nine Granted h = absurd (omega arith)
nine (Refused Malformed) h = absurd (omega arith)
nine (Refused AboveLimit) h = absurd (omega arith)
nine (Refused AlreadyThere) h = absurd (omega arith)
nine (Refused NotThere) h = absurd (omega arith)
nine (Refused FlowAdded) h = absurd (omega arith)
nine (Refused NotOpen) h = absurd (omega arith)
nine (Refused SessionFull) h = absurd (omega arith)
nine (Refused NotConflicting) h = absurd (omega arith)
nine (Refused VersionsSpent) h = refl
nine (Refused NoSuchFlow) h = absurd (omega arith)
nine (Refused OutOfReach) h = absurd (omega arith)
nine (Refused NoPermission) h = absurd (omega arith)
nine (Refused Changed) h = absurd (omega arith)
nine (Refused Linkable) h = absurd (omega arith)
nine (Refused Mandated) h = absurd (omega arith)

module _ (cs : List Call) where
  led_at : (i : ℕ) → carried_over (old_at cs i) ≡ engine_at (kept_all start cs) i
  unfolding old_at engine_at
  led_at i = rw (take_kept start i cs) (led_engine fresh start (take i cs) together_start)

  led_ledger_at : (i : ℕ) → old_ledger_after start (take i cs) ≡ ledger_at (kept_all start cs) i
  unfolding ledger_at
  led_ledger_at i = rw (take_kept start i cs) (led_ledger start (take i cs) together_start.few)

  -- its system version, by its ledger
  old_within : (i : ℕ) → (old_at cs i).directory.version ≤ old_last
  unfolding seen carried_over carried_directory
  old_within i =
      let e : seen (carried_over (old_at cs i)) ≡ old_ledger_after start (take i cs) = ap seen (led_at i) ∙ (demand3 (kept_all start cs)).same i ∙ sym (led_ledger_at i) in
      subst (λ (l : Ledger). l.system ≤ old_last) (sym e) (few_after start (take i cs) together_start.few)

  -- the number by the old ledger
  old_number : (i : ℕ) → returned (verdict_of (step old_last (carried_over (old_at cs i)) (call_at cs i)).answer) ≡ old_refusal (old_ledger_after start (take i cs)) (call_at cs i)
  unfolding old_refusal
  old_number i = rw (led_at i, led_ledger_at i) (number_by old_last (kept_all start cs) i (call_at cs i))

  pub led : Led cs
  unfolding returned number_of
  led = record {
    bits = refl;
    within = old_within;
    calls = kept_all start cs;
    many = length_kept start cs;
    engines = led_at;
    same = λ i h. kept_at start i cs ∙ kept_by (λ x. x ≡ call_at cs i) (old_ledger_after start (take i cs)) (call_at cs i) (λ e. absurd (h (nine _ (old_number i ∙ e)))) (λ n. refl);
    struck = λ i h. kept_at start i cs ∙ kept_by (λ x. x ≡ Unreadable) (old_ledger_after start (take i cs)) (call_at cs i) (λ e. refl) (λ n. absurd (n (sym (old_number i) ∙ spent_number _ h)));
  }
    where
      spent_number : (v : Verdict) → v ≡ Refused VersionsSpent → returned v ≡ 9
      spent_number v h = ap returned h
