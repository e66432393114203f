-- An array whose elements are made one by one, each the same number, is the same list.
-- Assumes nothing.
use Prim.Native.Nat.{ℕ}
use mathlib.Core.Path.{◌≡◌, sym, ◌∙◌}
use mathlib.Core.List.{List}
use native.Mathlib.Omega.{arith}
use lib.ListN.{length}
use lib.Seq.{ext_get_or}
use denote.Param.Members.{Mut}
use Rattle.std.specs.Fn.{Called}
use Rattle.std.specs.Array.{IsMapOf}

pub same_numbers : {F : Type 0} {g : Mut F (ℕ × Unit {0}) ℕ} {f : F} {old wide : List ℕ} {n : ℕ} → length old ≡ n → IsMapOf g f old wide n → ((p : F) (x y : ℕ) (q : F) → Called g p (x, tt) y q → y ≡ x) → wide ≡ old
same_numbers {old} {wide} e m same =
    ext_get_or 0 wide old (m.long ∙ sym e) (λ i l.
    let call = m.at i 0 0 (omega (arith, m.long)) in
    same call.0 _ _ call.1 call.2)
