-- The numbers of the rows, picked in their order.
-- Assumes nothing.
use Rattle.std.proofs.Common.{ℕ, ◌≡◌, refl, Bool, true, false, cond}
use Rattle.model.specs.declared.calls.Refusal.TheVariants.{OutOfReach, NoPermission, Changed, Linkable}
use Rattle.model.specs.declared.calls.Verdict.TheVariants.{Granted}
use Rattle.model.specs.Calls.{number_of, returned, bar}

pub by_tests : (a b m c d : Bool) → ◌≡◌ {A = ℕ} (cond a 11 (cond b 12 (cond m 0 (cond c 13 (cond d 14 0))))) (returned (bar a OutOfReach (bar b NoPermission (cond m Granted (bar c Changed (bar d Linkable Granted))))))
unfolding returned number_of
by_tests true b m c d = refl
by_tests false true m c d = refl
by_tests false false true c d = refl
by_tests false false false true d = refl
by_tests false false false false true = refl
by_tests false false false false false = refl
