-- Each part is what was there.
use native.Mathlib.Omega.{arith}
use Rattle.std.proofs.Common.{rules, tests}
use Rattle.carrying.specs.Carrying.{carried_directory}
use Rattle.carrying.proofs.Widening.{same_numbers}
use Rattle.carrying.proofs.DirectoryFromOldDirectory.from.Goals as goal

pub returns : goal.returns
unfolding carried_directory
returns c = rw (c.from.ensures, same_numbers (omega arith) c.map-users.ensures.items (λ p x y q k. search (rules, tests)))
