-- What one call says of a mandate, by its checks and by the rows of the refusal table. Mandates has it over whole lists.
-- Assumes nothing.
use Prim.Native.Nat.{ℕ, ◌<◌}
use mathlib.Core.Path.{◌≡◌, refl, sym, ap, ◌∙◌}
use mathlib.Core.Bool.{Bool, true, false, cond, not, ◌||◌, true≢false}
use native.Mathlib.Omega.{arith}
use lib.Dec.{leb}
use borrow.Author.Tests.{leb-false, lt-leb, eqb-true, not-false}
use Rattle.sets.proofs.Laws.{or_neither}
use Rattle.tables.specs.Tables.{role_count, database_count, may_read, has_mandate}
use Rattle.model.specs.declared.Directory.{Directory}
use Rattle.model.specs.declared.Engine.{Engine}
use Rattle.model.specs.declared.calls.Refusal.{Refusal}
use Rattle.model.specs.declared.calls.Refusal.TheVariants.{AboveLimit, AlreadyThere, NotThere, Mandated}
use Rattle.model.specs.declared.calls.Change.TheVariants.{Revoke, Mandate}
use Rattle.model.specs.declared.calls.Call.TheVariants.{Table}
use Rattle.model.specs.declared.calls.Verdict.TheVariants.{Granted, Refused}
use Rattle.model.specs.declared.calls.Answer.TheVariants.{Refused as Answer-as-Refused}
use Rattle.model.specs.Limits.{last_version}
use Rattle.model.specs.Calls.{number_of, returned, verdict_of, Done, done, refuse, revoke, mandate, change, step, answer, verdict}
use Rattle.model.specs.Ledger.{Ledger}
use Rattle.model.specs.Refusals.{spent, rows, change_rows, first_met, refusal, accepts}
use Rattle.model.specs.Demands.{seen}
use Rattle.model.proofs.Chains.{not_met}
use Rattle.model.proofs.SeenRows.{permits_seen, mandates_seen, number}

-- ---- the rows, of any ledger

-- the rows of an accepted call are not met
pub revokes_free : (l : Ledger) (r d : ℕ) → accepts l (Table (Revoke r d)) ≡ true → l.mandated r d ≡ false
unfolding accepts refusal rows change_rows
revokes_free l r d h = (not_met 14 _ _ (not_met 3 _ _ (not_met 1 _ _ (eqb-true (refusal l (Table (Revoke r d))) 0 h)).1).1).0

pub mandates_permitted : (l : Ledger) (r d : ℕ) → accepts l (Table (Mandate r d)) ≡ true → l.may_read r d ≡ true
unfolding accepts refusal rows change_rows
mandates_permitted l r d h = not-false (l.may_read r d) (not_met 3 _ _ (not_met 2 _ _ (not_met 1 _ _ (eqb-true (refusal l (Table (Mandate r d))) 0 h)).1).1).0

-- ---- the verdicts, of any engine

passed : {S : Type 0} (b : Bool) (why : Refusal) (s : S) (later : Done S) → b ≡ false → refuse b why s later ≡ later
passed true why s later h = absurd (true≢false h)
passed false why s later h = refl

met : {S : Type 0} (b : Bool) (why : Refusal) (s : S) (later : Done S) → b ≡ true → refuse b why s later ≡ done (Answer-as-Refused why) s
met true why s later h = refl
met false why s later h = absurd (true≢false (sym h))

pub mandate_accepted : (e : Engine) (r d : ℕ) → r < role_count → d < database_count → may_read e.directory.tables r d ≡ true → has_mandate e.directory.tables r d ≡ false
    → verdict e (Table (Mandate r d)) ≡ Granted
unfolding verdict answer step change mandate verdict_of
mandate_accepted e r d l k m h =
    ap (λ (x : Done Directory). verdict_of x.answer)
    (passed (leb role_count r) AboveLimit _ _ (lt-leb role_count r l)
    ∙ passed (leb database_count d) AboveLimit _ _ (lt-leb database_count d k)
    ∙ passed (has_mandate e.directory.tables r d) AlreadyThere _ _ h
    ∙ passed (not (may_read e.directory.tables r d)) NotThere _ _ (ap not m))

pub revoke_refused : (e : Engine) (r d : ℕ) → r < role_count → d < database_count → may_read e.directory.tables r d ≡ true → has_mandate e.directory.tables r d ≡ true
    → verdict e (Table (Revoke r d)) ≡ Refused Mandated
unfolding verdict answer step change revoke verdict_of
revoke_refused e r d l k m h =
    ap (λ (x : Done Directory). verdict_of x.answer)
    (passed (leb role_count r) AboveLimit _ _ (lt-leb role_count r l)
    ∙ passed (leb database_count d) AboveLimit _ _ (lt-leb database_count d k)
    ∙ passed (not (may_read e.directory.tables r d)) NotThere _ _ (ap not m)
    ∙ met (has_mandate e.directory.tables r d) Mandated _ _ h)

-- and what they say of the pair, by the rows of what a ledger sees
pub accepted_mandate : (e : Engine) (r d : ℕ) → verdict e (Table (Mandate r d)) ≡ Granted
    → (r < role_count) × (d < database_count) × (may_read e.directory.tables r d ≡ true) × (has_mandate e.directory.tables r d ≡ false)
unfolding returned rows change_rows
accepted_mandate e r d h =
    let a = not_met 1 _ _ (sym (number e (Table (Mandate r d))) ∙ ap returned h) in
    let b = or_neither (leb role_count r) (leb database_count d) a.0 in
    let m = not_met 2 _ _ a.1 in
    let p = not_met 3 _ _ m.1 in
    let l : r < role_count = leb-false role_count r b.0 in
    (l, leb-false database_count d b.1, permits_seen e r d l ∙ not-false ((seen e).may_read r d) p.0, mandates_seen e r d l ∙ m.0)

fifteenth : (a b m s : Bool) → ◌≡◌ {A = ℕ} (cond a 2 (cond b 4 (cond m 15 (cond s 9 0)))) 15 → (a ≡ false) × (m ≡ true)
fifteenth true b m s h = absurd (omega arith)
fifteenth false true m s h = absurd (omega arith)
fifteenth false false true s h = (refl, refl)
fifteenth false false false true h = absurd (omega arith)
fifteenth false false false false h = absurd (omega arith)

pub refused_revoke : (e : Engine) (r d : ℕ) → verdict e (Table (Revoke r d)) ≡ Refused Mandated → (r < role_count) × (d < database_count) × (has_mandate e.directory.tables r d ≡ true)
unfolding returned number_of rows change_rows first_met
refused_revoke e r d h =
    let w = fifteenth (leb role_count r || leb database_count d) (not ((seen e).may_read r d)) ((seen e).mandated r d) (spent last_version (seen e) (Revoke r d)) (sym (number e (Table (Revoke r d))) ∙ ap returned h) in
    let b = or_neither (leb role_count r) (leb database_count d) w.0 in
    let l : r < role_count = leb-false role_count r b.0 in
    (l, leb-false database_count d b.1, mandates_seen e r d l ∙ w.1)
