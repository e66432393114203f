use mathlib.Core.Path.{◌≡◌, sym, ◌∙◌}
use native.Mathlib.Omega.{arith}
use Rattle.tables.proofs.Laws.{parents_start, parents_taken, parents_left, parents_all}
use Rattle.tables.proofs.lent.parents.Goals.{then-meets, else-meets}
use Rattle.tables.proofs.lent.parents.Goals as goal

pub loop-row-init : goal.loop-row-init
loop-row-init c = parents_start 64 _ _

pub loop-row-preserved : goal.loop-row-preserved
loop-row-preserved c =
    let g = c.loop-row.invariant in
    let meets = sym c.meets.ensures in
    elim c.if-meets.branch [
      | then-meets w ↦ parents_taken 64 _ _ _ _ _ g (meets ∙ w.if-meets.true) (grind arith)
      | else-meets w ↦ rw w.found-is (parents_left 64 _ _ _ _ g (meets ∙ w.if-meets.false))
    ]

pub returns : goal.returns
returns c =
    let e : c.loop-row.row-index ≡ 256 = omega arith in
    parents_all 64 256 _ _ _ (rw e at c.loop-row.invariant)
