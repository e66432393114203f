-- A version is left where one is due, and the next one is not above the last.
-- Assumes nothing.
use Prim.Native.Nat.{ℕ, ◌+◌, ◌≤◌}
use mathlib.Core.Path.{◌≡◌}
use mathlib.Core.Bool.{Bool, true, false, cond, ◌&&◌}
use mathlib.Core.Logic.{◌≢◌}
use native.Mathlib.Omega.{arith}
use lib.Dec.{eqb}
use borrow.Author.Tests.{eqb-false}
use Rattle.sets.specs.Sets.{some}
use Rattle.tables.specs.Tables.{user_count}
use Rattle.model.specs.declared.calls.Change.{Change}
use Rattle.model.specs.Ledger.{Ledger}
use Rattle.model.specs.Refusals.{due}

-- nobody is due a version, or the last is not given yet
abbrev pub HasVersion : ℕ → Ledger → Change → Type 0
HasVersion last l c = (some user_count (due l c) && eqb l.system last) ≡ false

pub few_renewed : (last n : ℕ) (b : Bool) → n ≤ last → (b && eqb n last) ≡ false → cond b (n + 1) n ≤ last
few_renewed last n true k h = let q : n ≢ last = eqb-false n last h in omega (arith, q)
few_renewed last n false k h = k
