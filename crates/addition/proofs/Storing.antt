-- A list with a part written over is known by its elements.
-- Assumes nothing.
use Prim.Native.Nat.{ℕ, ◌+◌, ◌-◌, ◌≤◌, ◌<◌}
use mathlib.Core.Path.{◌≡◌, sym, ◌∙◌}
use mathlib.Core.List.{List}
use native.Mathlib.Decide.{dec_lt}
use native.Mathlib.Omega.{arith}
use lib.ListN.{length, get_or}
use lib.Seq.{ext_get_or}
use borrow.Rule.Slice.PartMut.{put_mid}
use Rattle.std.proofs.Common.{rules, length-append, length-take, length-drop}
use Rattle.std.proofs.lemmas.List.{places}
use Rattle.model.specs.State.{filled}
use Rattle.model.proofs.Laws.{length_filled, get_d_filled, get_d_filled_other}

module _ (at n : ℕ) (given l : List ℕ) (e : length given ≡ n) (f : at + n ≤ length l) where
  length_put : length (put_mid at n l given) ≡ length l
  length_put = simp (length-append, length-take, length-drop) (omega arith)

  before : (i : ℕ) → i < at → get_or (put_mid at n l given) i 0 ≡ get_or l i 0
  before i k = search (rules, places)

  within : (j : ℕ) → j < n → get_or (put_mid at n l given) (at + j) 0 ≡ get_or given j 0
  within j k = search (rules, places)

  after : (i : ℕ) → at + n ≤ i → get_or (put_mid at n l given) i 0 ≡ get_or l i 0
  after i k = search (rules, places)

pub put_filled : (at n : ℕ) (given l : List ℕ) → length given ≡ n → at + n ≤ length l → put_mid at n l given ≡ filled at (λ g. get_or given g 0) n l
put_filled at n given l e f =
    ext_get_or 0 (put_mid at n l given) (filled at (λ g. get_or given g 0) n l) (length_put at n given l e f ∙ sym (length_filled at (λ g. get_or given g 0) n l)) (λ i k. by_place i (dec_lt i at) (dec_lt i (at + n)))
  where
    by_place : (i : ℕ) → Dec (i < at) → Dec (i < at + n) → get_or (put_mid at n l given) i 0 ≡ get_or (filled at (λ g. get_or given g 0) n l) i 0
    by_place i (yes a) b = before at n given l e f i a ∙ sym (get_d_filled_other at (λ g. get_or given g 0) n l i (λ j k z. omega arith))
    by_place i (no a) (yes b) =
        let z : i ≡ at + (i - at) = omega arith in
        rw z (within at n given l e f (i - at) (omega arith) ∙ sym (get_d_filled at (λ g. get_or given g 0) n l (i - at) f (omega arith)))
    by_place i (no a) (no b) = after at n given l e f i (omega arith) ∙ sym (get_d_filled_other at (λ g. get_or given g 0) n l i (λ j k z. omega arith))
