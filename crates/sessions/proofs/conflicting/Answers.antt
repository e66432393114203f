use mathlib.Core.Path.{sym, ap, ◌∙◌}
use mathlib.Core.Bool.{not}
use native.Mathlib.Omega.{arith}
use borrow.Author.Tests.{lt-leb}
use Rattle.model.specs.Calls.{conflicts_in, conflicting}
use Rattle.graph.proofs.ByFlow.{roles_at}
use Rattle.search.proofs.Laws.{conflicts_taken}
use Rattle.search.proofs.ByFlow.{conflicts_by_flow}
use Rattle.sessions.proofs.conflicting.Goals as goal

pub returns : goal.returns
unfolding conflicting conflicts_in
returns c mandates roots versions denies rolesets =
    rw (
      lt-leb _ _ c.if-s-ge-ALL_SESSIONS.false,
      lt-leb _ _ c.if-root-ge-DATABASES.false,
      ap not (sym c.contains.ensures ∙ c.if-not-contains.false),
      lt-leb _ _ c.if-n-ge-FLOWS.false,
      c.conflicts.ensures
          ∙ conflicts_taken _ _ _
          ∙ conflicts_by_flow _ _ c.args.forwards.now mandates _ _ _ (λ g l. roles_at _ _ _ _ _ _ _ _ (lt-leb _ _ c.if-s-ge-ALL_SESSIONS.false) c.databases-new.ensures c.roles_by_flow-may.ensures g (omega (arith, c.if-n-ge-FLOWS.false))),
    )
