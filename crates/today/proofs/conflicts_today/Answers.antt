use native.Mathlib.Omega.{arith}
use Rattle.std.proofs.lemmas.List.{length-take}
use Rattle.today.proofs.ByFlow.{at_most}
use Rattle.today.proofs.conflicts_today.Goals as goal

-- there are no more flows than sets
pub slice_bounds-conflicts-end : goal.slice_bounds-conflicts-end
slice_bounds-conflicts-end c =
    omega (arith, length-take c.flows_today-n.result c.roles_by_flow-may.result, at_most c.args.sessions.now _ _ c.flows_today-n.ensures)
