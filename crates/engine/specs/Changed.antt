-- What a call by value gives back.
-- Assumes nothing.
use Rattle.std.specs.Prelude.{◌≡◌}
use Rattle.model.specs.declared.Engine.{Engine}
use Rattle.model.specs.declared.Changed.{Changed}
use Rattle.model.specs.declared.calls.Call.{Call}
use Rattle.model.specs.Calls.{answer, after}

-- the call's answer, and the engine after it
unfoldable pub changed_by : Engine → Call → Changed
changed_by e c = record { answer = answer e c; engine = after e c }

-- so that a contract by it says both; proofs/Changing has the theorem
pub record ChangedMeans (e : Engine) (c : Call) : Type 0 where
  pub answered : (changed_by e c).answer ≡ answer e c
  pub led : (changed_by e c).engine ≡ after e c
