-- What has to be kept of a buffer's part, and its move to the buffer's start.
-- Assumes nothing.
use Prim.Native.Nat.{ℕ, zero, suc, ◌+◌, ◌-◌, ◌≤◌, min}
use mathlib.Core.Path.{◌≡◌, refl, sym, ap, ◌∙◌}
use mathlib.Core.Bool.{Bool, true, false, cond}
use mathlib.Core.List.{List, [], ◌∷◌, ◌++◌}
use native.Mathlib.Omega.{arith}
use lib.Dec.{eqb, ltb}
use lib.ListN.{length, take, drop, length-take, length-drop}
use lib.Seq.{take_all, take-take}
use Rattle.std.specs.Prelude.{Option, Some, None}
use Rattle.std.specs.Option.{is_some}
use Rattle.std.specs.List.{position, copy_within}
use Rattle.protocol.specs.Widths.{kept}
use Rattle.protocol.specs.Lines.{line_feed}
use Rattle.protocol.specs.Run.{feed_at, kept_of}
use Rattle.pieces.proofs.Feeds.{first}

-- ---- how many bytes

module _ (left : List ℕ) {place : Option ℕ} (found : place ≡ position (λ b. eqb b line_feed) left) where
  there : is_some place ≡ ltb (feed_at left) (length left)
  there = rw (found, first left) (some (feed_at left) (ltb (feed_at left) (length left)))
    where
      some : (n : ℕ) (t : Bool) → is_some (cond t (Some n) None) ≡ t
      some n true = refl
      some n false = refl

  pub kept_all : is_some place ≡ true → (length left ≡ length (kept_of left)) × (length left ≤ length left)
  unfolding kept_of
  kept_all t = (rw (sym there ∙ t), omega arith)

  pub kept_some : (n : ℕ) → is_some place ≡ false → n ≡ min (length left) kept → (n ≡ length (kept_of left)) × (n ≤ length left)
  unfolding kept_of
  kept_some n t p = (rw (sym there ∙ t) (p ∙ rw length-take (omega arith)), omega arith)

-- what is kept are the first bytes
take_taken : (n : ℕ) (xs : List ℕ) → take (length (take n xs)) xs ≡ take n xs
take_taken zero xs = refl
take_taken (suc n) [] = refl
take_taken (suc n) (x ∷ xs) = ap {B = List ℕ} (λ r. x ∷ r) (take_taken n xs)

kept_first : (left : List ℕ) → take (length (kept_of left)) left ≡ kept_of left
unfolding kept_of
kept_first left = go (ltb (feed_at left) (length left))
  where
    go : (t : Bool) → take (length (cond t left (take kept left))) left ≡ cond t left (take kept left)
    go true = take_all (length left) left (omega arith)
    go false = take_taken kept left

-- ---- the move

-- n bytes from a place on are copied to the buffer's start
pub kept_moved : (old : List ℕ) (start size n : ℕ) → n ≡ length (kept_of (take size (drop start old))) → n ≤ length (take size (drop start old))
    → copy_within old start (start + n) 0 ≡ kept_of (take size (drop start old)) ++ drop n old
kept_moved old start size n k l =
    let m : n ≤ min size (length old - start) = simp (length-take, length-drop) at l in
    let many : start + n - start ≡ n = omega arith in
    let none : 0 + n ≡ n = omega arith in
    let part : List ℕ = take size (drop start old) in
    let first : take n (drop start old) ≡ kept_of part = sym (take-take n size (drop start old) (omega arith)) ∙ ap (λ (i : ℕ). take i part) k ∙ kept_first part in
    rw (many, none, first)
