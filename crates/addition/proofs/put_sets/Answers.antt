use Rattle.std.proofs.Common.{◌≡◌, ◌+◌, ◌-◌, ◌*◌}
use native.Mathlib.Omega.{arith}
use Rattle.addition.specs.RoleSets.{sets_put}
use Rattle.addition.proofs.Storing.{put_filled}
use Rattle.addition.proofs.put_sets.Goals as goal

pub returns : goal.returns
unfolding sets_put
returns c =
    let few : c.args.at * 8 + 8 - c.args.at * 8 ≡ 8 = omega arith in
    rw (few, c.copy_from_slice.ensures.after) (put_filled _ _ c.args.given.now c.args.rolesets.now (omega arith) (omega arith))
