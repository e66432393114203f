use Prim.Native.Nat.{ℕ, ◌+◌}
use mathlib.Core.Path.{◌≡◌, sym, ◌∙◌}
use mathlib.Core.Bool.{Bool, true, false}
use native.Mathlib.Numerals.{add-one}
use native.Mathlib.Omega.{arith}
use Rattle.std.proofs.lemmas.List.{set-get_or}
use Rattle.sets.specs.Sets.{some}
use Rattle.sets.proofs.Laws.{or_none, some_none, some_suc, some_at}
use Rattle.tables.specs.Tables.{held_by, user_count}
use Rattle.model.proofs.Laws.{given_start, given_more, given_same}
use Rattle.permission.proofs.renew.Goals as goal
use Rattle.permission.proofs.renew.Goals.{then-there, else-there}

-- user u is one, or isn't
found : (p : ℕ → Bool) (u : ℕ) → p u ≡ true → true ≡ some (u + 1) p
found p u h = sym (some_at (u + 1) p u (omega arith) h)

passed : (p : ℕ → Bool) (u : ℕ) (held : Bool) → held ≡ some u p → p u ≡ false → held ≡ some (u + 1) p
passed p u held e h = rw (add-one u, some_suc u p, h, e) (or_none (some u p))

pub loop-u-preserved : goal.loop-u-preserved
loop-u-preserved c =
    let before = c.loop-u.invariant in
    let holds = sym c.there.ensures in
    elim c.if-there.branch [
      | then-there w ↦ (w.held-is ∙ found _ _ (holds ∙ w.if-there.true), w.versions-is ∙ given_more _ _ _ _ _ before.1 (holds ∙ w.if-there.true))
      | else-there w ↦ (w.held-is ∙ passed _ _ _ before.0 (holds ∙ w.if-there.false), w.versions-is ∙ set-get_or _ _ _ ∙ given_same _ _ _ _ _ before.1 (holds ∙ w.if-there.false))
    ]

pub returns : goal.returns
unfolding held_by
returns c =
    let e : c.loop-u.u ≡ user_count = omega arith in
    (rw e at c.loop-u.invariant.0, rw e at c.loop-u.invariant.1)

pub loop-u-init : goal.loop-u-init
loop-u-init c = (sym (some_none _), given_start _ _ _)
