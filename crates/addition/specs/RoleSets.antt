-- How the role sets of a new flow are stored, for the promise of the inner function that stores them.
-- Assumes nothing.
use Rattle.std.specs.Prelude.{ℕ, List, get_or}
use Rattle.model.specs.Limits.{flow_count}
use Rattle.model.specs.State.{filled}

-- the role sets from this place on are those given, one for each flow
unfoldable pub sets_put : List ℕ → ℕ → List ℕ → List ℕ
sets_put given at sets = filled at (λ g. get_or given g 0) flow_count sets
