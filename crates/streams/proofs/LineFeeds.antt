-- Counting line feeds, block by block.
-- Assumes nothing.
use Prim.Native.Nat.{ℕ, ◌+◌, ◌≤◌, ◌<◌, ◌^◌}
use mathlib.Core.Path.{◌≡◌, refl, sym, ap, ◌∙◌}
use mathlib.Core.Bool.{Bool, true, false, cond}
use mathlib.Core.List.{List, [], ◌∷◌, ◌++◌}
use native.Mathlib.Omega.{arith}
use lib.Dec.{eqb}
use lib.ListN.{length}
use borrow.Author.Tests.{eq-eqb, ne_eqb}
use Rattle.std.proofs.lemmas.List.{nil_from_length}
use Rattle.std.specs.List.{sum_by, fold}
use Rattle.streams.specs.Feeds.{feed, feeds, FeedsMean}

pub feed_here : (b : ℕ) → b ≡ 10 → 1 ≡ feed b
unfolding feed
feed_here b e = rw (eq-eqb b 10 e)

pub feed_other : (b : ℕ) → (b ≡ 10 → ⊥) → 0 ≡ feed b
unfolding feed
feed_other b n = rw (ne_eqb b 10 n)

pub feeds_mean : FeedsMean
unfolding feeds
feeds_mean =
    record {
      counted = λ text. rw (← feed_here 10 refl) (omega arith);
      passed = λ byte text n. rw (← feed_other byte n) (omega arith);
      empty = refl;
    }

feed_most : (b : ℕ) → feed b ≤ 1
unfolding feed
feed_most b = go (eqb b 10)
  where
    go : (t : Bool) → cond t 1 0 ≤ 1
    go true = omega arith
    go false = omega arith

pub feeds_most : (text : List ℕ) → feeds text ≤ length text
unfolding feeds
feeds_most [] = omega arith
feeds_most (b ∷ bs) = let l : feeds bs ≤ length bs = feeds_most bs in omega (arith, feed_most b)

feeds_from : (n : ℕ) (text : List ℕ) → fold (λ a x. a + feed x) n text ≡ n + feeds text
unfolding feeds
feeds_from n [] = omega arith
feeds_from n (b ∷ bs) = feeds_from (n + feed b) bs ∙ omega arith

-- how many there are is the sum of what each byte counts
pub feeds_sum : (text : List ℕ) → sum_by feed text ≡ feeds text
feeds_sum text = feeds_from 0 text ∙ omega arith

pub feeds_append : (xs ys : List ℕ) → feeds (xs ++ ys) ≡ feeds xs + feeds ys
unfolding feeds
feeds_append [] ys = omega arith
feeds_append (b ∷ bs) ys = let e : feeds (bs ++ ys) ≡ feeds bs + feeds ys = feeds_append bs ys in omega arith

-- what a block of at most 128 bytes counts fits a byte
pub block_fits : (block : List ℕ) → length block ≤ 128 → sum_by feed block < 2 ^ 8
block_fits block l = rw (feeds_sum block) (omega (arith, feeds_most block))

-- a block and what is left behind it
pub feeds_block : (block rest left : List ℕ) → left ≡ block ++ rest → feeds left ≡ sum_by feed block + feeds rest
feeds_block block rest left e = ap feeds e ∙ feeds_append block rest ∙ ap (λ n. n + feeds rest) (sym (feeds_sum block))

pub feeds_none : (rest : List ℕ) → length rest ≡ 0 → feeds rest ≡ 0
unfolding feeds
feeds_none rest e = ap feeds (nil_from_length rest e)
