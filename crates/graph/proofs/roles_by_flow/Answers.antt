use borrow.Author.Rules.{rules}
use borrow.Author.Tests.{lt-leb}
use Rattle.tables.specs.Tables.{readers_of, role_count, database_count}
use Rattle.model.specs.State.{reach_with}
use Rattle.graph.specs.Graph.{roles_by_flow}
use Rattle.graph.proofs.Made.{flows_from_fn}
use Rattle.graph.proofs.roles_by_flow.Goals as goal

pub returns : goal.returns
unfolding roles_by_flow
returns c =
    let a = c.args in
    rw (lt-leb _ _ c.if-s-ge-ALL_SESSIONS.false)
    (flows_from_fn _ _ (λ g. readers_of role_count database_count a.readers.now (reach_with a.reaches.now a.s a.n a.new g)) _ c.from_fn.ensures.items (λ x b q k. search rules))
