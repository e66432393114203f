use borrow.Author.Rules.{rules}
use Rattle.tables.specs.Tables.{role_count}
use Rattle.sets.specs.Sets.{shared}
use Rattle.graph.specs.Graph.{overlapping_by_flow}
use Rattle.graph.proofs.Made.{flows_mapped}
use Rattle.graph.proofs.overlapping_roles.Goals as goal

pub returns : goal.returns
unfolding overlapping_by_flow
returns c =
    rw (← c.parents-parents.ensures)
    (flows_mapped _ _ (λ x. shared role_count x c.parents-parents.result) _ _ c.map.ensures.items (λ x b q k. search rules))
