-- What the search has done so far: a count that stops at two, and roles found user by user. And what it finds among a part of the sets.
-- Assumes nothing.
use Prim.Native.Nat.{ℕ, zero, suc, min, ◌+◌, ◌≤◌, ◌<◌, ◌^◌}
use mathlib.Core.Path.{◌≡◌, refl, sym, ap, ◌∙◌}
use mathlib.Core.Bool.{Bool, true, false, not, ◌&&◌, ◌||◌, true≢false, and-false}
use mathlib.Core.List.{List}
use native.Mathlib.Numerals.{add-one}
use native.Mathlib.Nat.{add-zero, add-suc}
use native.Mathlib.Omega.{arith}
use lib.Dec.{leb, eqb}
use lib.Pow.{pow_pos}
use lib.ListN.{length, get_or, take, get_or-eq_default}
use Rattle.std.proofs.lemmas.List.{length-take, get_or-take}
use borrow.Author.Tests.{le-leb, lt-leb, eq-eqb, ne_eqb}
use Rattle.sets.specs.Sets.{has, set_of, some, count, joined, lacking, meeting}
use Rattle.sets.proofs.Laws.{or_none, and_all, some_none, some_suc, some_cong, count_cong, count_more, count_stops, counted, set_of_lt, set_of_cong, is_set_of, has_set_of, has_empty, has_joined, has_lacking, meets_none}
use Rattle.rows.specs.Rows.{there}
use Rattle.tables.specs.Tables.{user_count, role_count}
use Rattle.search.specs.Search.{conflicts_of}

-- ---- a count that stops at two

-- all n numbers were looked at, and at most one was found
pub few : (p : ℕ → Bool) (n f seen : ℕ) → f ≡ n → seen ≤ 1 → count f p ≡ seen → leb 2 (count n p) ≡ eqb seen 2
few p n f seen e l h = lt-leb 2 (count n p) (rw (← e, h) (omega arith)) ∙ sym (ne_eqb seen 2 (λ q. omega arith))

-- the second was found before the end
pub second : (p : ℕ → Bool) (n f seen : ℕ) → f < n → count f p ≡ seen → p f ≡ true → seen + 1 ≡ 2 → leb 2 (count n p) ≡ eqb (seen + 1) 2
second p n f seen l h t e =
    let k : count (f + 1) p ≡ seen + 1 = counted p f seen h t in
    le-leb 2 (count n p) (omega (arith, count_more (f + 1) n p (omega arith))) ∙ sym (eq-eqb (seen + 1) 2 e)

-- ---- user by user, the roles of whoever passes the test `two`

pub record Found (n : ℕ) (roles : List ℕ) (two : ℕ → Bool) (u found : ℕ) : Type 0 where
  pub so_far : found ≡ set_of n (λ r. some u (λ v. there roles v r && two v))

pub found_start : (n : ℕ) (roles : List ℕ) (two : ℕ → Bool) → Found n roles two 0 0
found_start n roles two = record { so_far = is_set_of n 0 _ (pow_pos n) (λ r l. has_empty r ∙ sym (some_none _)) }

-- one user more
found_step : (n : ℕ) (roles : List ℕ) (two : ℕ → Bool) (u found found' : ℕ) → Found n roles two u found
    → ((r : ℕ) → r < n → has found' r ≡ (has found r || (there roles u r && two u))) → found' < 2 ^ n → Found n roles two (u + 1) found'
found_step n roles two u found found' g f b = record {
  so_far =
      is_set_of n found' _ b
      (λ r l. f r l ∙ ap (λ (x : Bool). x || p r u) (ap (λ (y : ℕ). has y r) g.so_far ∙ has_set_of n (λ q. some u (p q)) r l) ∙ sym (some_suc u (p r)) ∙ ap (λ (m : ℕ). some m (p r)) (sym (add-one u)));
}
  where
    p : ℕ → ℕ → Bool
    p r v = there roles v r && two v

pub found_taken : (n : ℕ) (roles : List ℕ) (two : ℕ → Bool) (u found found' held : ℕ) → Found n roles two u found → held ≡ get_or roles u 0
    → two u ≡ true → found' ≡ joined n found held → Found n roles two (u + 1) found'
unfolding joined there
found_taken n roles two u found found' held g h t e =
    rw (e, h)
    (found_step n roles two u found (joined n found (get_or roles u 0)) g (λ r l. has_joined n found (get_or roles u 0) r l ∙ rw t (ap (λ (x : Bool). has found r || x) (and_all (has (get_or roles u 0) r)))) (set_of_lt n _))

pub found_left : (n : ℕ) (roles : List ℕ) (two : ℕ → Bool) (u found : ℕ) → Found n roles two u found → two u ≡ false → Found n roles two (u + 1) found
found_left n roles two u found g t =
    found_step n roles two u found found g (λ r l. or_none (has found r) ∙ rw t (ap (λ (x : Bool). has found r || x) (sym (and-false (there roles u r))))) (rw g.so_far (set_of_lt n _))

-- whose roles are all found already adds none, whatever the flows say
pub found_passed : (n : ℕ) (roles : List ℕ) (two : ℕ → Bool) (u found held : ℕ) → Found n roles two u found → held ≡ get_or roles u 0
    → lacking n held found ≡ 0 → Found n roles two (u + 1) found
unfolding there
found_passed n roles two u found held g h e =
    found_step n roles two u found found g (λ r l. within (has found r) (has (get_or roles u 0) r) (two u) (none r l)) (rw g.so_far (set_of_lt n _))
  where
    within : (f h t : Bool) → (h && not f) ≡ false → f ≡ (f || (h && t))
    within true h t q = refl
    within false true t q = absurd (true≢false q)
    within false false t q = refl

    none : (r : ℕ) → r < n → (has (get_or roles u 0) r && not (has found r)) ≡ false
    none r l = sym (has_lacking n (get_or roles u 0) found r l) ∙ ap (λ (y : ℕ). has y r) (ap (λ (x : ℕ). lacking n x found) (sym h) ∙ e) ∙ has_empty r

-- so after all users what is found is what conflicts
pub found_all : (roles may : List ℕ) (found : ℕ) → Found role_count roles (λ v. leb 2 (count (length may) (λ g. meeting role_count (get_or roles v 0) (get_or may g 0)))) user_count found
    → found ≡ conflicts_of roles may (length may)
unfolding conflicts_of
found_all roles may found g = g.so_far

-- ---- a part of the sets

-- the first n of them, or all where they are fewer: what would stand further on is empty, and meets nothing
pub conflicts_taken : (roles may : List ℕ) (n : ℕ) → conflicts_of roles (take n may) (length (take n may)) ≡ conflicts_of roles may n
unfolding conflicts_of
conflicts_taken roles may n =
    set_of_cong role_count _ _ (λ c b. some_cong user_count _ _ (λ u a. ap (λ (x : ℕ). there roles u c && leb 2 x) (same (get_or roles u 0))))
  where
    l : length (take n may) ≡ min n (length may)
    l = length-take n may

    same : (held : ℕ) → count (length (take n may)) (λ g. meeting role_count held (get_or (take n may) g 0)) ≡ count n (λ g. meeting role_count held (get_or may g 0))
    same held =
        count_cong (length (take n may)) _ _ (λ g h. ap (meeting role_count held) (get_or-take n may g 0 (omega (arith, l))))
        ∙ sym (count_stops (length (take n may)) n _ (omega (arith, l)) (λ g h i. ap (meeting role_count held) (get_or-eq_default may 0 (omega (arith, l))) ∙ meets_none role_count held))

-- so are k users in a row
pub found_skipped : (n : ℕ) (roles : List ℕ) (two : ℕ → Bool) (u k found : ℕ) → Found n roles two u found
    → ((i : ℕ) → i < k → lacking n (get_or roles (u + i) 0) found ≡ 0) → Found n roles two (u + k) found
found_skipped n roles two u zero found g f = rw (add-zero u) g
found_skipped n roles two u (suc k) found g f =
    rw (add-suc u k, ← add-one (u + k))
    (found_passed n roles two (u + k) found (get_or roles (u + k) 0) (found_skipped n roles two u k found g (λ i l. f i (omega (arith, l)))) refl (f k (omega arith)))

either : (a b : Bool) → (a || b) ≡ false → (a ≡ false) × (b ≡ false)
either true b e = absurd (true≢false e)
either false b e = (refl, e)

empty_by : (n x : ℕ) → x < 2 ^ n → ((r : ℕ) → r < n → has x r ≡ false) → x ≡ 0
empty_by n x b f = is_set_of n x (λ r. has 0 r) b (λ r l. f r l ∙ sym (has_empty r)) ∙ sym (is_set_of n 0 (λ r. has 0 r) (pow_pos n) (λ r l. refl))

-- what is joined to nothing was nothing
pub joined_none : (n x y : ℕ) → x < 2 ^ n → y < 2 ^ n → joined n x y ≡ 0 → (x ≡ 0) × (y ≡ 0)
joined_none n x y b c e = (empty_by n x b (λ r l. (both r l).0), empty_by n y c (λ r l. (both r l).1))
  where
    both : (r : ℕ) → r < n → (has x r ≡ false) × (has y r ≡ false)
    both r l = either (has x r) (has y r) (sym (has_joined n x y r l) ∙ ap (λ (z : ℕ). has z r) e ∙ has_empty r)
