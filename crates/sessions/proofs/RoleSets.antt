-- The role sets of a constraint, as a part of those of all.
-- Assumes nothing.
use Prim.Native.Nat.{ℕ, ◌+◌, ◌≤◌}
use mathlib.Core.Path.{◌≡◌, sym, ◌∙◌}
use mathlib.Core.List.{List}
use native.Mathlib.Omega.{arith}
use lib.ListN.{length, get_or, take, drop, replicate, get_or-eq_default}
use lib.Seq.{get_or-take, get_or-drop}
use Rattle.model.specs.Limits.{flow_count}
use Rattle.model.specs.State.{filled}
use Rattle.model.proofs.Laws.{get_d_same, by_elements}

-- those from a place on, and none where there is no such place
pub part : (sets new l : List ℕ) (from k : ℕ) → length new ≡ flow_count → length l ≡ flow_count → k ≡ flow_count → new ≡ take k (drop from sets) → new ≡ filled 0 (λ g. get_or sets (from + g) 0) flow_count l
part sets new l from k e f w t = by_elements _ flow_count new l e f (λ i m. rw (t, w, get_or-take, get_or-drop))

pub none : (sets l : List ℕ) (from : ℕ) → length l ≡ flow_count → length sets ≤ from → replicate flow_count 0 ≡ filled 0 (λ g. get_or sets (from + g) 0) flow_count l
none sets l from f h =
    by_elements _ flow_count (replicate flow_count 0) l (omega arith) f (λ i k. get_d_same flow_count i 0 ∙ sym (get_or-eq_default sets 0 (omega (arith, h))))
