-- A line feed is looked for as the first byte that is one.
-- Assumes nothing.
use Prim.Native.Nat.{ℕ, ◌+◌, ◌-◌, ◌<◌, ◌≤◌}
use mathlib.Core.Path.{◌≡◌, refl, sym, ap, ◌∙◌}
use mathlib.Core.Bool.{Bool, true, false, cond}
use mathlib.Core.List.{List}
use native.Mathlib.Numerals.{one-add}
use native.Mathlib.Decide.{dec_lt}
use native.Mathlib.Omega.{arith}
use lib.Dec.{eqb, ltb}
use lib.ListN.{length, drop, length-drop}
use lib.Seq.{take_all}
use borrow.Author.Tests.{lt-ltb, le-ltb, ltb-false}
use Rattle.std.specs.Option.{is_some}
use Rattle.std.specs.List.{position, position_or_len, slice_range}
use Rattle.std.proofs.lemmas.List.Recursion.{is_position_or_len}
use Rattle.std.specs.Prelude.{Option, Some, None, option_map}
use Rattle.protocol.specs.Lines.{line_feed}
use Rattle.protocol.specs.Run.{feed_at}
use Rattle.pieces.specs.Pieces.{feed_from}

-- where the first one stands
pub first : (s : List ℕ) → position (λ b. eqb b line_feed) s ≡ cond (ltb (feed_at s) (length s)) (Some (feed_at s)) None
unfolding feed_at
first s = ap (λ (n : ℕ). cond (ltb n (length s)) (Some n) None) (sym (at s))
  where
    at : (s : List ℕ) → feed_at s ≡ position_or_len (λ b. eqb b line_feed) s
    at = is_position_or_len feed_at (λ b. eqb b line_feed) refl (λ b s. rw (one-add (feed_at s)))

-- past the input's end there is none
pub past_end : (s : List ℕ) (from : ℕ) → length s < from → None ≡ feed_from s from
unfolding feed_from
past_end s from l = rw (le-ltb (from + feed_at (drop from s)) (length s) (omega arith))

-- the first one of the rest of an input, at its place in the input
module _ (s rest : List ℕ) (from : ℕ) (within : from ≤ length s) (part : rest ≡ slice_range s from (length s)) where
  there : option_map (λ n. from + n) (position (λ b. eqb b line_feed) rest) ≡ feed_from s from
  unfolding feed_from
  there = rw (part, take_all (length s - from) (drop from s) (omega (arith, length-drop from s)), first (drop from s)) (go (dec_lt (feed_at (drop from s)) (length (drop from s))))
    where
      go : Dec (feed_at (drop from s) < length (drop from s))
          → option_map (λ n. from + n) (cond (ltb (feed_at (drop from s)) (length (drop from s))) (Some (feed_at (drop from s))) None)
          ≡ cond (ltb (from + feed_at (drop from s)) (length s)) (Some (from + feed_at (drop from s))) None
      go (yes l) = rw (lt-ltb (feed_at (drop from s)) (length (drop from s)) l, lt-ltb (from + feed_at (drop from s)) (length s) (omega (arith, length-drop from s)))
      go (no l) = rw (le-ltb (feed_at (drop from s)) (length (drop from s)) (omega (arith, l)), le-ltb (from + feed_at (drop from s)) (length s) (omega (arith, l, length-drop from s)))

  pub feed_found : {place : Option ℕ} {at : ℕ} → place ≡ position (λ b. eqb b line_feed) rest → place ≡ Some at → Some (from + at) ≡ feed_from s from
  feed_found p q = ap (option_map (λ n. from + n)) (sym q ∙ p) ∙ there

  pub feed_none : {place : Option ℕ} → place ≡ position (λ b. eqb b line_feed) rest → place ≡ None → None ≡ feed_from s from
  feed_none p q = ap (option_map (λ n. from + n)) (sym q ∙ p) ∙ there

-- ---- what a caller knows of it

module _ (s : List ℕ) (from : ℕ) {place : Option ℕ} (found : place ≡ feed_from s from) where
  pub feed_known : is_some place ≡ ltb (from + feed_at (drop from s)) (length s)
  unfolding feed_from
  feed_known = rw found (go (ltb (from + feed_at (drop from s)) (length s)))
    where
      go : (t : Bool) → is_some (cond t (Some (from + feed_at (drop from s))) None) ≡ t
      go true = refl
      go false = refl

  -- it stands behind the bytes that are none
  pub feed_place : {n : ℕ} → place ≡ Some n → n ≡ from + feed_at (drop from s)
  unfolding feed_from
  feed_place {n} e = go (ltb (from + feed_at (drop from s)) (length s)) (sym e ∙ found)
    where
      go : (t : Bool) → Some n ≡ cond t (Some (from + feed_at (drop from s))) None → n ≡ from + feed_at (drop from s)
      go true f = cc
      go false f = absurd cc

  -- where there is none, all bytes are none
  pub none_behind : place ≡ None → length s ≤ from + feed_at (drop from s)
  none_behind e = ltb-false (from + feed_at (drop from s)) (length s) (sym feed_known ∙ ap is_some e)
