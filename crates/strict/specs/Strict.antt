-- Additions that choose every conflicting role. Of a session with no other additions the first half of demand 3 holds without its first premise.
-- Statements alone; proofs/Strict has the theorem, and proofs/Run that there is such a list.
-- Assumes nothing.
use Rattle.std.specs.Prelude.{ℕ, ◌<◌, ◌≡◌, true, false, List, [], ◌∷◌, length}
use Rattle.sets.specs.Sets.{has}
use Rattle.tables.specs.Tables.{role_count}
use Rattle.model.specs.declared.calls.Refusal.TheVariants.{Linkable}
use Rattle.model.specs.declared.calls.Change.TheVariants.{Assign, Withdraw, Permit}
use Rattle.model.specs.declared.calls.Product.{Product}
use Rattle.model.specs.declared.calls.Product.TheVariants.{Server}
use Rattle.model.specs.declared.calls.Ask.TheVariants.{Open, Conflicting, Add}
use Rattle.model.specs.declared.calls.Call.{Call}
use Rattle.model.specs.declared.calls.Call.TheVariants.{Table, Session, Read}
use Rattle.model.specs.declared.calls.Verdict.{Verdict}
use Rattle.model.specs.declared.calls.Verdict.TheVariants.{Granted, Refused}
use Rattle.model.specs.declared.calls.Answer.TheVariants.{Roles}
use Rattle.model.specs.Calls.{answer, verdict}
use Rattle.model.specs.Ledger.{is_conflicting, under_mandate}
use Rattle.model.specs.Refusals.{new_flow, accepts}
use Rattle.model.specs.Demands.{call_at, engine_at, ledger_at, run_of, FirstHalf, NothingTaken, OutsideMandates}

-- Each accepted addition to product p's session s, where it has flows already, chooses every role that conflicts with the new flow counted in: all that
-- 07 answers for its root. Others can't be chosen (row 8). Of a first flow nothing is asked: with one flow no role conflicts. Nor is it of other sessions.
abbrev pub Strict : List Call → Product → ℕ → Type 0
Strict cs p s = (i root chosen : ℕ) → call_at cs i ≡ Session p s (Add root chosen) → accepts (ledger_at cs i) (Session p s (Add root chosen)) ≡ true
    → 0 < length ((ledger_at cs i).flows p s) → (r : ℕ) → r < role_count
    → is_conflicting (ledger_at cs i) p s (new_flow (ledger_at cs i) p s root chosen) r ≡ true → has chosen r ≡ true

-- the same by the engine's own answer: what is chosen is what 07 answers for that root just before
abbrev pub AsAnswered : List Call → Product → ℕ → Type 0
AsAnswered cs p s = (i root chosen : ℕ) → call_at cs i ≡ Session p s (Add root chosen) → accepts (ledger_at cs i) (Session p s (Add root chosen)) ≡ true
    → 0 < length ((ledger_at cs i).flows p s)
    → answer (engine_at cs i) (Session p s (Conflicting root)) ≡ Roles chosen

-- `FirstHalf` of such a session, and nothing is asked of the roles that the user holds
abbrev pub StrictFirst : List Call → Product → ℕ → Type 0
StrictFirst cs p s = FirstHalf (run_of cs) (λ two. (two.product ≡ p) × (two.session ≡ s) × NothingTaken two × OutsideMandates two)

-- ---- such a list: user 1 may read two flows, and both are granted once a role was withdrawn in between

unfoldable pub strict_run : List Call
strict_run =
    Table (Assign 1 0)
    ∷ Table (Assign 1 1)
    ∷ Table (Permit 0 0)
    ∷ Table (Permit 1 1)
    ∷ Session Server 0 Open
    ∷ Session Server 0 (Add 0 0)
    -- roles 0 and 1
    ∷ Session Server 0 (Add 1 3)
    ∷ Read Server 1 0 0 0
    ∷ Read Server 1 0 1 1
    ∷ Table (Withdraw 1 0)
    ∷ Read Server 1 0 1 1
    ∷ []

-- call i of the run, and its verdict
abbrev pub Gets : ℕ → Call → Verdict → Type 0
Gets i c v = (call_at strict_run i ≡ c) × (verdict (engine_at strict_run i) c ≡ v)

pub record StrictRun : Type 0 where
  pub strict : Strict strict_run Server 0
  -- the first flow is granted, and the second is linkable
  pub first : Gets 7 (Read Server 1 0 0 0) Granted
  pub second : Gets 8 (Read Server 1 0 1 1) (Refused Linkable)
  -- it is granted when the role is gone that flow 0 was read by: so what is said of the time between the reads can't be left out of `StrictFirst`
  pub withdrawn : Gets 9 (Table (Withdraw 1 0)) Granted
  pub later : Gets 10 (Read Server 1 0 1 1) Granted
  pub flows : 1 < length ((ledger_at strict_run 10).flows Server 0)
  pub outside : (i u d : ℕ) → under_mandate (ledger_at strict_run i) u d ≡ false
