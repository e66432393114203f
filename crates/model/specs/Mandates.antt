-- Request K3, reading by duty: what holds of mandates over whole lists of calls from a fresh engine. Statements alone; proofs/Mandates has the theorems.
-- Assumes nothing.
use Rattle.std.specs.Prelude.{ℕ, ◌≤◌, ◌<◌, ◌≡◌, true, false, List, ◌↔◌, ⊤, length}
use Rattle.tables.specs.Tables.{role_count, database_count, may_read, has_mandate}
use Rattle.model.specs.declared.calls.Refusal.TheVariants.{Mandated}
use Rattle.model.specs.declared.calls.Change.TheVariants.{Revoke, Mandate}
use Rattle.model.specs.declared.calls.Product.{Product}
use Rattle.model.specs.declared.calls.Call.{Call}
use Rattle.model.specs.declared.calls.Call.TheVariants.{Table, Read}
use Rattle.model.specs.declared.calls.Verdict.TheVariants.{Granted, Refused}
use Rattle.model.specs.Calls.{verdict}
use Rattle.model.specs.Ledger.{under_mandate}
use Rattle.model.specs.Refusals.{check_rows, first_met, accepts}
use Rattle.model.specs.Demands.{call_at, engine_at, ledger_at, run_of, SecondHalf, FirstHalf, HoldsDenied, NothingTaken}
use Rattle.model.specs.Steps.{tables_at}

pub record Mandates (cs : List Call) : Type 0 where
  -- "Kind 10 with rr dd puts a mandate on a permitted pair", on no other and not twice; before and after flows and at every version
  pub accepted : (i r d : ℕ) → (verdict (engine_at cs i) (Table (Mandate r d)) ≡ Granted)
      ↔ ((r < role_count) × (d < database_count) × (may_read (tables_at cs i) r d ≡ true) × (has_mandate (tables_at cs i) r d ≡ false))
  -- no call lifts it
  pub lasts : (i j r d : ℕ) → i ≤ j → r < role_count → has_mandate (tables_at cs i) r d ≡ true → has_mandate (tables_at cs j) r d ≡ true
  -- nor the permission that it stands on: "15 when a permission with a mandate on it is to be revoked", then alone, and at every version
  pub stands : (i r d : ℕ) → (verdict (engine_at cs i) (Table (Revoke r d)) ≡ Refused Mandated) ↔ ((r < role_count) × (d < database_count) × (has_mandate (tables_at cs i) r d ≡ true))
  -- so a mandated pair is always a permitted one
  pub permitted : (i r d : ℕ) → r < role_count → has_mandate (tables_at cs i) r d ≡ true → may_read (tables_at cs i) r d ≡ true
  -- demand 2: "A user who holds rr passes checks 13 and 14 when reading at dd": under a mandate a read that meets none of rows 2 to 12 is granted
  pub granted : (p : Product) (i u s f d : ℕ) → i < length cs → call_at cs i ≡ Read p u s f d
      → under_mandate (ledger_at cs i) u d ≡ true → first_met (check_rows (ledger_at cs i) p u s f d) ≡ 0
      → verdict (engine_at cs i) (Read p u s f d) ≡ Granted

-- ---- lists without mandates: no mandate is accepted

abbrev pub NoMandate : List Call → Type 0
NoMandate cs = (i r d : ℕ) → call_at cs i ≡ Table (Mandate r d) → accepts (ledger_at cs i) (Table (Mandate r d)) ≡ false

-- of them the halves of demand 3 say what they said before K3
pub record Before (cs : List Call) : Type 0 where
  pub outside : (i u d : ℕ) → under_mandate (ledger_at cs i) u d ≡ false
  pub second : SecondHalf (run_of cs) (λ one. ⊤)
  pub first : FirstHalf (run_of cs) (λ two. HoldsDenied two × NothingTaken two)
