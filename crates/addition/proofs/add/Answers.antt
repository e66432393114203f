use mathlib.Core.Path.{sym, ap, ◌∙◌}
use mathlib.Core.Bool.{not}
use borrow.Author.Tests.{lt-leb}
use Rattle.search.proofs.Laws.{conflicts_taken}
use Rattle.addition.proofs.Additions.{not_conflicting, accepted}
use Rattle.addition.proofs.add.Goals as goal

pub returns-then-outside : goal.returns-then-outside
returns-then-outside c mandates users =
    not_conflicting _ _ _ mandates users _ _ _ _ _ _ _ _ _ _ _
    (lt-leb _ _ c.if-s-ge-ALL_SESSIONS.false)
    (lt-leb _ _ c.if-root-ge-DATABASES.false)
    (lt-leb _ _ c.ranges.chosen.fits)
    _ _ _
    (ap not (sym c.contains.ensures ∙ c.if-not-contains.false))
    c.if-number-ge-FLOWS.false
    c.databases-reach.ensures
    c.roles_by_flow-may.ensures
    (c.conflicts.ensures ∙ conflicts_taken _ _ _)
    (sym c.outside.ensures ∙ c.if-outside.true)

pub returns : goal.returns
returns c mandates users =
    accepted _ _ _ mandates users _ _ _ _ _ _ _ _ _ _ _ _ _ _ _ _ _ _ _
    (lt-leb _ _ c.if-s-ge-ALL_SESSIONS.false)
    (lt-leb _ _ c.if-root-ge-DATABASES.false)
    (lt-leb _ _ c.ranges.chosen.fits)
    (ap not (sym c.contains.ensures ∙ c.if-not-contains.false))
    c.if-number-ge-FLOWS.false
    c.databases-reach.ensures
    c.roles_by_flow-may.ensures
    (c.conflicts.ensures ∙ conflicts_taken _ _ _)
    (sym c.outside.ensures ∙ c.if-outside.false)
    c.deny_before.ensures
    c.union-deny.ensures
    c.overlapping_roles-given.ensures
    c.put_sets.ensures
    c.size.ensures
