use mathlib.Core.Path.{◌≡◌}
use native.Mathlib.Omega.{arith}
use Rattle.encoding.proofs.Writing.{digits_done}
use Rattle.encoding.proofs.write_hex.Goals as goal

pub returns : goal.returns
returns g c =
    let e : c.loop-k.k ≡ 0 = omega arith in
    digits_done (rw e at c.loop-k.invariant) c.requires
