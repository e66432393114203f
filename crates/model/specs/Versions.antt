-- Request K4: "Versions become 32 bits, .. the limit 4294967295. .. 9 is now given at the new limit." Statements alone; proofs/Versions has the theorems.
-- Assumes nothing.
use Rattle.std.specs.Prelude.{ℕ, suc, ◌^◌, ◌≤◌, ◌<◌, ◌≡◌, true, List, length}
use Rattle.sets.specs.Sets.{some}
use Rattle.tables.specs.Tables.{user_count}
use Rattle.model.specs.declared.calls.Change.{Change}
use Rattle.model.specs.declared.calls.Product.{Product}
use Rattle.model.specs.declared.calls.Call.{Call}
use Rattle.model.specs.declared.calls.Call.TheVariants.{Table}
use Rattle.model.specs.Limits.{last_version}
use Rattle.model.specs.Ledger.{flow_of}
use Rattle.model.specs.Refusals.{due, refusal}
use Rattle.model.specs.Demands.{ledger_at}

-- for every list of calls, by the ledger, whose versions are the engine's (`same` of `Demand3`)
pub record Versions (cs : List Call) : Type 0 where
  -- "32 bits": the limit is the greatest number that they hold
  pub bits : suc last_version ≡ 2 ^ 32
  -- no version is above it: not the system's, and no user's or flow's is above that
  pub system : (i : ℕ) → (ledger_at cs i).system ≤ last_version
  pub users : (i u : ℕ) → u < user_count → (ledger_at cs i).version u ≤ (ledger_at cs i).system
  pub flows : (i : ℕ) (p : Product) (s f : ℕ) → f < length ((ledger_at cs i).flows p s) → (flow_of (ledger_at cs i) p s f).version ≤ (ledger_at cs i).system
  -- "9 is now given at the new limit", below it never, and only to a change that would give somebody a new version
  pub ninth : (i : ℕ) (c : Change) → refusal (ledger_at cs i) (Table c) ≡ 9 → ((ledger_at cs i).system ≡ last_version) × (some user_count (due (ledger_at cs i) c) ≡ true)
