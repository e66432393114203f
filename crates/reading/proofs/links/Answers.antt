use Prim.Native.Nat.{ℕ, ◌+◌, ◌*◌, ◌<◌}
use mathlib.Core.Path.{◌≡◌, sym, ap, ◌∙◌}
use mathlib.Core.List.{List}
use native.Mathlib.Omega.{arith}
use lib.ListN.{get_or}
use Rattle.std.proofs.lemmas.List.{get_or-take, get_or-drop}
use Rattle.sets.specs.Sets.{count, meeting}
use Rattle.sets.proofs.Laws.{count_cong}
use Rattle.tables.specs.Tables.{role_count}
use Rattle.model.specs.Limits.{flow_count}
use Rattle.model.specs.State.{linkable}
use Rattle.reading.proofs.links.Goals as goal

-- those of the part that was looked at are those from the flow's first one on
counted_part : (rolesets part : List ℕ) (held first i met : ℕ) → i ≡ flow_count → ((g : ℕ) → g < flow_count → get_or part g 0 ≡ get_or rolesets (first + g) 0)
    → count i (λ g. meeting role_count held (get_or part g 0)) ≡ met → count flow_count (λ g. meeting role_count held (get_or rolesets (first + g) 0)) ≡ met
counted_part rolesets part held first i met e same h =
    sym (count_cong flow_count _ _ (λ g l. ap (meeting role_count held) (same g l))) ∙ rw e at h

pub returns : goal.returns
unfolding linkable
returns c =
    let all = counted_part c.args.rolesets.now _ c.args.held (c.args.at * flow_count) _ _ (omega arith) (λ g l. get_or-take _ _ g 0 (omega arith) ∙ get_or-drop _ _ g 0) c.loop-set.invariant.1 in
    rw (all, c.meets-2.ensures)
