-- `met` is how many of the role sets passed the roles meet.
use Prim.Native.Nat.{◌≤◌}
use mathlib.Core.Path.{◌≡◌}
use lib.ListN.{get_or}
use Rattle.sets.specs.Sets.{count, meeting}
use Rattle.tables.specs.Tables.{role_count}
use Rattle.reading.proofs.links.Given as goal

abbrev pub invariant-loop-set : goal.invariant-loop-set
invariant-loop-set l = (l.met ≤ l.set-index) × (count l.set-index (λ g. meeting role_count l.held (get_or l.of_flow g 0)) ≡ l.met)
