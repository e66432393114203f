use mathlib.Core.Path.{sym, ◌∙◌}
use native.Mathlib.Omega.{arith}
use borrow.Author.Rules.{rules}
use Rattle.trace.proofs.Going.{some_bytes, going_step, going_differs}
use Rattle.trace.proofs.replaying.replay.Goals as goal

pub returns-then-not-is_same : goal.returns-then-not-is_same
returns-then-not-is_same c =
    let kept = c.loop-trace.invariant in
    let frame_here = rw kept.2 at c.next-frame.ensures.0 in
    let given_behind = rw (c.next-frame.ensures.1, kept.2, c.next-frame.ensures.2) at c.next-given.ensures.0 in
    let some_left = rw c.next-frame.ensures.2 at c.if-text-trace.false in
    going_differs _ _ _ _ kept.0 (omega (arith, c.if-text-gt-LIMIT.false)) (omega (arith, c.loop-trace-test.true)) _ frame_here (omega (arith, some_left)) _ given_behind _ _ _ _ c.feed-fed.ensures (omega (arith, kept.1))
    (sym c.is_same.ensures ∙ c.if-not-is_same.true)

pub loop-trace-smaller : goal.loop-trace-smaller
loop-trace-smaller c =
    let before_end = c.loop-trace-test.true in
    let frame_here = rw c.loop-trace.invariant.2 at c.next-frame.ensures.0 in
    let not_empty = some_bytes _ _ _ frame_here before_end in
    omega (arith, not_empty, c.next-frame.ensures.2, c.next-given.ensures.2, before_end)

pub loop-trace-preserved : goal.loop-trace-preserved
loop-trace-preserved c =
    let kept = c.loop-trace.invariant in
    let frame_here = rw kept.2 at c.next-frame.ensures.0 in
    let given_behind = rw (c.next-frame.ensures.1, kept.2, c.next-frame.ensures.2) at c.next-given.ensures.0 in
    let some_left = rw c.next-frame.ensures.2 at c.if-text-trace.false in (
      going_step _ _ _ _ kept.0 (omega (arith, c.if-text-gt-LIMIT.false)) (omega (arith, c.loop-trace-test.true)) _ frame_here (omega (arith, some_left)) _ given_behind _ _ _ _ c.feed-fed.ensures (omega (arith, kept.1))
          (rw (c.next-given.ensures.2, c.next-frame.ensures.2) (omega arith)) (omega arith) (sym c.is_same.ensures ∙ c.if-not-is_same.false),
      search rules,
      rw (c.next-given.ensures.1, c.next-frame.ensures.1) kept.2,
    )
