-- The numbers of the rows, picked in their order.
use Rattle.verdict.proofs.Picking.{by_tests}
use Rattle.verdict.proofs.first_of.Goals as goal

pub returns : goal.returns
returns c =
    let tests = c.args in
    rw (
      c.pick.ensures,
      c.pick-row12.ensures,
      c.pick-past12.ensures,
      c.pick-row13.ensures,
      c.pick-row14.ensures,
    )
    (by_tests tests.out_of_reach tests.no_permission tests.by_duty tests.changed tests.linkable)
