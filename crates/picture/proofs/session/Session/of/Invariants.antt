-- As many flows are held as were looked at.
-- Assumes nothing.
use Rattle.std.proofs.Common.{◌≡◌}
use Rattle.arrayvec.specs.ArrayVec.{array_vec_len}
use Rattle.picture.proofs.session.Session.of.Given as goal

abbrev pub invariant-loop-g : goal.invariant-loop-g
invariant-loop-g l = array_vec_len l.flows ≡ l.g
