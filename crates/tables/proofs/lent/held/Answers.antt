use mathlib.Core.Path.{◌≡◌, sym, ◌∙◌}
use native.Mathlib.Omega.{arith}
use borrow.Author.Rules.{rules}
use Rattle.sets.proofs.Laws.{some_none, some_at}
use Rattle.rows.specs.Rows.{there}
use Rattle.tables.specs.Tables.{held_by}
use Rattle.tables.proofs.Laws.{none_yet}
use Rattle.tables.proofs.lent.held.Goals as goal

pub loop-row-init : goal.loop-row-init
loop-row-init c = some_none _

pub returns-then-contains : goal.returns-then-contains
unfolding held_by there
returns-then-contains c = sym (some_at 256 _ _ (search rules) (sym c.contains.ensures ∙ c.if-contains.true))

pub loop-row-preserved : goal.loop-row-preserved
unfolding there
loop-row-preserved c = none_yet _ _ c.loop-row.invariant (sym c.contains.ensures ∙ c.if-contains.false)

pub returns : goal.returns
unfolding held_by
returns c = let e : c.loop-row.row-index ≡ 256 = omega arith in sym (rw e at c.loop-row.invariant)
