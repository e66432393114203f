-- What an addition stores and what lasts of it, over whole lists of calls from a fresh engine. Statements alone; proofs/Lasting has the theorem.
-- Assumes nothing.
use Rattle.std.specs.Prelude.{ℕ, suc, ◌≤◌, ◌<◌, ◌≡◌, List, length}
use Rattle.model.specs.declared.calls.Product.{Product}
use Rattle.model.specs.declared.calls.Ask.TheVariants.{Add}
use Rattle.model.specs.declared.calls.Call.{Call}
use Rattle.model.specs.declared.calls.Call.TheVariants.{Session}
use Rattle.model.specs.declared.calls.Verdict.TheVariants.{Granted}
use Rattle.model.specs.State.{session_at}
use Rattle.model.specs.Calls.{verdict}
use Rattle.model.specs.Demands.{engine_at, call_at}
use Rattle.model.specs.Meaning.{flows_of, SameFlow, Added}

pub record Lasting (cs : List Call) : Type 0 where
  -- "An accepted addition: the session gets a last flow with its root, its reach by the forwarding table now, the system version as its version":
  -- where call i is one, that is the engine after it, and `Added` has the constraint too
  pub stored : (p : Product) (i s root chosen : ℕ) → i < length cs → call_at cs i ≡ Session p s (Add root chosen) → verdict (engine_at cs i) (Session p s (Add root chosen)) ≡ Granted
      → Added (engine_at cs i) (engine_at cs (suc i)) (session_at p s) root chosen
  -- "Its constraint, kept unchanged from then on": of every flow that is there before call i, root, reach and constraint stay, whatever calls follow
  pub kept : (i j s f : ℕ) → i ≤ j → f < flows_of (engine_at cs i) s → SameFlow (engine_at cs i) (engine_at cs j) s f
