-- Whether any of a list's counts is above 0, in the definition's words.
-- Assumes nothing.
use Prim.Native.Nat.{ℕ, zero, suc, ◌<◌}
use mathlib.Core.Path.{◌≡◌, refl, sym, ap, ◌∙◌}
use mathlib.Core.Bool.{Bool, true, false, ◌||◌, true≢false}
use mathlib.Core.List.{List, [], ◌∷◌}
use mathlib.Core.Logic.{⊎_elim}
use native.Mathlib.Omega.{arith}
use lib.Dec.{ltb}
use lib.ListN.{length, get_or}
use Rattle.std.specs.List.{list_any}
use Rattle.sets.specs.Sets.{some}
use Rattle.sets.proofs.Laws.{true_or_false, some_none, some_of, some_at, some_nowhere}
use Rattle.model.specs.State.{all_sessions, any_flow}

-- some number below n + 1 is one is 0, or is the next of one below n
module _ (n : ℕ) (p : ℕ → Bool) where
  nowhere : p 0 ≡ false → some n (λ i. p (suc i)) ≡ false → (i : ℕ) → i < suc n → p i ≡ false
  nowhere e f zero l = e
  nowhere e f (suc j) l = ⊎_elim (λ t. absurd (true≢false (sym (some_at n (λ i. p (suc i)) j (omega arith) t) ∙ f))) (λ t. t) (true_or_false (p (suc j)))

  some_first : (p 0 || some n (λ i. p (suc i))) ≡ some (suc n) p
  some_first = go (p 0) refl
    where
      go : (b : Bool) → p 0 ≡ b → (b || some n (λ i. p (suc i))) ≡ some (suc n) p
      go true e = sym (some_at (suc n) p 0 (omega arith) e)
      go false e =
          ⊎_elim
          (λ t. let r = some_of n (λ i. p (suc i)) t in t ∙ sym (some_at (suc n) p (suc r.0) (omega (arith, r.1)) r.2))
          (λ f. f ∙ sym (some_nowhere (suc n) p (nowhere e f)))
          (true_or_false (some n (λ i. p (suc i))))

by_list : (p : ℕ → Bool) (xs : List ℕ) → list_any p xs ≡ some (length xs) (λ s. p (get_or xs s 0))
by_list p [] = sym (some_none _)
by_list p (x ∷ xs) = ap (λ (b : Bool). p x || b) (by_list p xs) ∙ some_first (length xs) (λ s. p (get_or (x ∷ xs) s 0))

pub any_of_list : (counts : List ℕ) → length counts ≡ all_sessions → list_any (λ n. ltb 0 n) counts ≡ any_flow counts
unfolding any_flow
any_of_list counts e = rw (by_list (λ n. ltb 0 n) counts, e)
