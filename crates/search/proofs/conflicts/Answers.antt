use mathlib.Core.Path.{◌≡◌, refl, sym, ap, ◌∙◌}
use Prim.Native.Nat.{◌+◌, ◌*◌}
use native.Mathlib.Omega.{arith}
use lib.Dec.{eqb}
use borrow.Author.Tests.{eq-eqb, ne_eqb}
use Rattle.sets.proofs.Laws.{count_none, counted, uncounted}
use Rattle.tables.specs.Tables.{user_count, role_count}
use Rattle.search.proofs.Laws.{few, second, found_start, found_taken, found_left, found_passed, found_skipped, found_all}
use Rattle.search.proofs.conflicts.Goals.{then-meets+else-seen-eq2, else-meets, then-difference-ne0+then-seen-eq2-2, then-difference-ne0+else-seen-eq2-2, else-difference-ne0, else-flows-test, then-flows-test+then-meets+then-seen-eq2, then-not-are_found+else-loop-u-test, else-not-are_found}
use Rattle.search.proofs.conflicts.Goals as goal

pub loop-block-init : goal.loop-block-init
loop-block-init c = found_start role_count _ _

pub flows-init : goal.flows-init
flows-init c = (omega arith, count_none _)

pub flows-preserved : goal.flows-preserved
flows-preserved c =
    let i = c.flows.invariant in
    let meets = sym c.meets.ensures in
    elim c.if-meets.branch [
      | then-meets+else-seen-eq2 w ↦ (omega arith, counted _ _ _ i.1 (meets ∙ w.if-meets.true) ∙ sym w.seen-is)
      | else-meets w ↦ (omega arith, uncounted _ _ _ i.1 (meets ∙ w.if-meets.false) ∙ sym w.seen-is)
    ]

-- After the inner loop, by whichever way: two were seen exactly where the roles meet two sets.
pub loop-u-preserved : goal.loop-u-preserved
loop-u-preserved c =
    let g = c.loop-u.invariant in
    elim c.if-difference-ne0.branch [
      | then-difference-ne0+then-seen-eq2-2 w ↦
          found_taken role_count _ _ _ _ _ _ g refl
          (elim w.flows-test.branch [
            | else-flows-test v ↦ few _ _ _ _ (omega arith) w.flows.invariant.0 w.flows.invariant.1 ∙ ap (λ x. eqb x 2) (sym v.seen-is) ∙ eq-eqb _ _ w.if-seen-eq2-2.true
            | then-flows-test+then-meets+then-seen-eq2 v ↦
                second _ _ _ _ v.flows-test.true w.flows.invariant.1 (sym v.meets.ensures ∙ v.if-meets.true) v.if-seen-eq2.true
                ∙ ap (λ x. eqb x 2) (sym v.seen-is)
                ∙ eq-eqb _ _ w.if-seen-eq2-2.true
          ])
          (w.found-is ∙ w.union-found.ensures)
      | then-difference-ne0+else-seen-eq2-2 w ↦
          rw w.found-is
          (found_left role_count _ _ _ _ g
          (elim w.flows-test.branch [
            | else-flows-test v ↦ few _ _ _ _ (omega arith) w.flows.invariant.0 w.flows.invariant.1 ∙ ap (λ x. eqb x 2) (sym v.seen-is) ∙ ne_eqb _ _ w.if-seen-eq2-2.false
            | then-flows-test+then-meets+then-seen-eq2 v ↦
                second _ _ _ _ v.flows-test.true w.flows.invariant.1 (sym v.meets.ensures ∙ v.if-meets.true) v.if-seen-eq2.true
                ∙ ap (λ x. eqb x 2) (sym v.seen-is)
                ∙ ne_eqb _ _ w.if-seen-eq2-2.false
          ]))
      | else-difference-ne0 w ↦ rw w.found-is (found_passed role_count _ _ _ _ _ g refl (sym c.difference.ensures ∙ w.if-difference-ne0.false))
    ]

pub loop-block-preserved : goal.loop-block-preserved
loop-block-preserved c =
    elim c.if-not-are_found.branch [
      | then-not-are_found+else-loop-u-test w ↦
          let e : w.loop-u.u ≡ (c.loop-block.block + 1) * 8 = omega (arith) in
          rw (← e, w.found-is) w.loop-u.invariant
      | else-not-are_found w ↦
          let e : (c.loop-block.block + 1) * 8 ≡ c.loop-block.block * 8 + 8 = omega arith in
          rw (e, w.found-is) (found_skipped role_count _ _ _ 8 _ c.loop-block.invariant (c.are_found.ensures w.if-not-are_found.false))
    ]

pub returns : goal.returns
returns c =
    let e : c.loop-block.block * 8 ≡ user_count = omega arith in
    found_all _ _ _ (rw e at c.loop-block.invariant)
