-- Laws of kinds: which numbers are none, and what call a kind of either product is.
-- Assumes nothing.
use Prim.Native.Nat.{ℕ, ◌≤◌, ◌<◌}
use mathlib.Core.Path.{◌≡◌, refl}
use mathlib.Core.Bool.{false}
use mathlib.Core.Logic.{◌⊎◌, ⊎_elim}
use native.Mathlib.Omega.{arith}
use lib.Dec.{eqb}
use lib.ListN.{get_or}
use borrow.Author.Tests.{ne_eqb}
use Rattle.model.specs.declared.calls.Product.{Product}
use Rattle.model.specs.declared.calls.Product.TheVariants.{Server, TermBank}
use Rattle.model.specs.declared.calls.Ask.TheVariants.{Open, Conflicting, Add, Show}
use Rattle.model.specs.declared.calls.Call.TheVariants.{Session, Read, Unreadable}
use Rattle.protocol.specs.Lines.{called_by}
use Rattle.kinds.specs.declared.Fields.{Fields}
use Rattle.kinds.specs.declared.Kind.{Kind}
use Rattle.kinds.specs.declared.Kind.TheVariants.{Open as Kind-Open, Conflicting as Kind-Conflicting, Add as Kind-Add, Read as Kind-Read, Show as Kind-Show}
use Rattle.kinds.specs.Kinds.{field_in, number_of_kind, product_of}

-- no kind is 0, or above 16
pub no_kind : (k : ℕ) → (k < 1) ⊎ (16 < k) → (j : ℕ) → (1 ≤ j) × (j ≤ 16) → eqb k j ≡ false
no_kind k h j l = ne_eqb k j (λ e. ⊎_elim (λ w. omega arith) (λ w. omega arith) h)

pub unknown : (k : ℕ) (field : ℕ → ℕ) (set : ℕ) → (k < 1) ⊎ (16 < k) → called_by k field set ≡ Unreadable
unfolding called_by
unknown k field set h =
    let no : (j : ℕ) → (1 ≤ j) × (j ≤ 16) → eqb k j ≡ false = no_kind k h in
    rw (
      no 1 (omega arith),
      no 2 (omega arith),
      no 3 (omega arith),
      no 4 (omega arith),
      no 5 (omega arith),
      no 6 (omega arith),
      no 7 (omega arith),
      no 8 (omega arith),
      no 9 (omega arith),
      no 10 (omega arith),
      no 11 (omega arith),
      no 12 (omega arith),
      no 13 (omega arith),
      no 14 (omega arith),
      no 15 (omega arith),
      no 16 (omega arith),
    )

-- ---- the kind of one of two numbers, one for each product

pub numbered : (kind : Product → Kind) (i j : ℕ) → number_of_kind (kind (product_of i)) ≡ i → number_of_kind (kind (product_of j)) ≡ j → {n : ℕ} {p : Product} → p ≡ product_of n → (n ≡ i) ⊎ (n ≡ j)
    → number_of_kind (kind p) ≡ n
numbered kind i j first second of h = rw of (⊎_elim (λ e. rw e first) (λ e. rw e second) h)

-- ---- what call a kind of either product is

module _ (f : Fields) where
  abbrev at : ℕ → ℕ
  at i = get_or f.numbers i 0

  pub open_called : (p : Product) → Session p (at 0) Open ≡ called_by (number_of_kind (Kind-Open p)) (field_in f) f.chosen
  unfolding number_of_kind called_by field_in
  open_called Server = refl
  open_called TermBank = refl

  pub conflicting_called : (p : Product) → Session p (at 0) (Conflicting (at 1)) ≡ called_by (number_of_kind (Kind-Conflicting p)) (field_in f) f.chosen
  unfolding number_of_kind called_by field_in
  conflicting_called Server = refl
  conflicting_called TermBank = refl

  pub add_called : (p : Product) → Session p (at 0) (Add (at 1) f.chosen) ≡ called_by (number_of_kind (Kind-Add p)) (field_in f) f.chosen
  unfolding number_of_kind called_by field_in
  add_called Server = refl
  add_called TermBank = refl

  pub read_called : (p : Product) → Read p (at 0) (at 1) (at 2) (at 3) ≡ called_by (number_of_kind (Kind-Read p)) (field_in f) f.chosen
  unfolding number_of_kind called_by field_in
  read_called Server = refl
  read_called TermBank = refl

  pub show_called : (p : Product) → Session p (at 0) (Show (at 1)) ≡ called_by (number_of_kind (Kind-Show p)) (field_in f) f.chosen
  unfolding number_of_kind called_by field_in
  show_called Server = refl
  show_called TermBank = refl
