-- The holders among the users before u have their version, and `held` tells whether there is one.
use mathlib.Core.Path.{◌≡◌}
use Rattle.sets.specs.Sets.{some}
use Rattle.rows.specs.Rows.{there}
use Rattle.model.specs.State.{given}
use Rattle.permission.proofs.renew.Given as goal

abbrev pub invariant-loop-u : goal.invariant-loop-u
invariant-loop-u l = (l.held ≡ some l.u (λ w. there l.roles w l.r)) × (l.versions ≡ given (λ w. there l.roles w l.r) l.v l.u l.initial.versions)
