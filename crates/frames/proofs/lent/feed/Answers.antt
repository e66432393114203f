use native.Mathlib.Omega.{arith}
use Rattle.frames.proofs.Feeding.{line_read, feeding_step, ends_whole, ends_full, ends_open}
use borrow.Author.Rules.{rules}
use Rattle.frames.proofs.lent.feed.Goals as goal

pub overflow_add-at : goal.overflow_add-at
overflow_add-at c =
    let line = line_read _ _ c.new-digits.ensures.high c.new-digits.ensures.low c.type_inv.input c.next_line.ensures c.in-Some.is in
    omega (arith, line.inside)

pub loop-at-smaller : goal.loop-at-smaller
loop-at-smaller c =
    let line = line_read _ _ c.new-digits.ensures.high c.new-digits.ensures.low c.type_inv.input c.next_line.ensures c.in-Some.is in
    omega (arith, line.inside, line.place)

pub loop-at-preserved : goal.loop-at-preserved
loop-at-preserved c = (
  search rules,
  feeding_step _ _ _ _ _ _ _ c.loop-at.invariant.1 c.in-Some.line _ _ _ (line_read _ _ c.new-digits.ensures.high c.new-digits.ensures.low c.type_inv.input c.next_line.ensures c.in-Some.is)
      c.if-out-written-lt-LONGEST.false c.answer_call-written.ensures.engine c.answer_call-written.ensures.line,
)

pub returns-after-loop-at-clause-fed : goal.returns-after-loop-at-clause-fed
returns-after-loop-at-clause-fed c = ends_whole _ _ _ _ _ _ _ c.loop-at.invariant.1 c.loop-at-test.false

pub returns-then-out-written-lt-LONGEST-clause-fed : goal.returns-then-out-written-lt-LONGEST-clause-fed
returns-then-out-written-lt-LONGEST-clause-fed c = ends_full _ _ _ _ _ _ _ c.loop-at.invariant.1 c.if-out-written-lt-LONGEST.true

pub returns-in_default-clause-fed : goal.returns-in_default-clause-fed
returns-in_default-clause-fed c = ends_open _ _ _ _ _ _ _ c.loop-at.invariant.1 (line_read _ _ c.new-digits.ensures.high c.new-digits.ensures.low c.type_inv.input c.next_line.ensures c.in_default.is)
