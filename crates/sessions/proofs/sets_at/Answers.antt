use mathlib.Core.Path.{refl}
use native.Mathlib.Omega.{arith}
use Rattle.sessions.proofs.RoleSets.{part, none}
use Rattle.sessions.proofs.sets_at.Goals as goal

pub returns-then-at-lt-PLACES : goal.returns-then-at-lt-PLACES
returns-then-at-lt-PLACES c =
    let copied = c.copy_from_slice.ensures in
    part _ _ _ _ _ copied.len refl (omega arith) copied.after

pub returns-else-at-lt-PLACES : goal.returns-else-at-lt-PLACES
returns-else-at-lt-PLACES c = none c.args.rolesets.now _ _ refl (omega arith)
