-- No user passed so far holds the role.
use mathlib.Core.Path.{◌≡◌}
use mathlib.Core.Bool.{false}
use Rattle.sets.specs.Sets.{some}
use Rattle.rows.specs.Rows.{there}
use Rattle.tables.proofs.lent.held.Given as goal

abbrev pub invariant-loop-row : goal.invariant-loop-row
invariant-loop-row l = some l.row-index (λ v. there l.roles v l.r) ≡ false
