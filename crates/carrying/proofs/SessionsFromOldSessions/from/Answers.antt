-- Each part is what was there.
use native.Mathlib.Omega.{arith}
use Rattle.std.proofs.Common.{rules, tests}
use Rattle.carrying.specs.Carrying.{carried_sessions}
use Rattle.carrying.proofs.Widening.{same_numbers}
use Rattle.carrying.proofs.SessionsFromOldSessions.from.Goals as goal

pub returns : goal.returns
unfolding carried_sessions
returns c = rw (same_numbers (omega arith) c.map-flows.ensures.items (λ p x y q k. search (rules, tests)))
