-- The laws of lists made of a function, of arrays that are filled and versions that are given, and of places in the arrays of flows.
-- Assumes nothing.
use Prim.Native.Nat.{ℕ, zero, suc, ◌+◌, ◌*◌, ◌≤◌, ◌<◌}
use mathlib.Core.Path.{◌≡◌, refl, sym, ap, ap₂, ◌∙◌}
use mathlib.Core.Bool.{Bool, true, false, cond, ◌&&◌, ◌||◌, false≢true}
use mathlib.Core.List.{List, [], ◌∷◌, ◌++◌}
use mathlib.Core.Logic.{◌⊎◌, inl, inr, ⊎_elim}
use native.Mathlib.Nat.{zero-add, eq-or-lt_of_le}
use native.Mathlib.Numerals.{add-one}
use native.Mathlib.Decide.{dec_lt}
use native.Mathlib.Omega.{arith}
use lib.Dec.{leb, ltb, eqb}
use lib.ListN.{length, get_or, set, replicate, length-append, length-set, get_or-append, get_or-eq_default}
use lib.Seq.{ext_get_or, get_or_at, get_or-set_same, get_or-set_other}
use borrow.Author.Tests.{ltb-true, ltb-false, lt-ltb, le-ltb, lt-leb, le-leb, eqb-true, eqb-false, eq-eqb, ne_eqb}
use Rattle.sets.specs.Sets.{some}
use Rattle.sets.proofs.Laws.{true_or_false, or_none, some_none, some_suc}
use Rattle.model.specs.declared.calls.Product.{Product}
use Rattle.model.specs.declared.calls.Product.TheVariants.{Server, TermBank}
use Rattle.model.specs.declared.calls.Verdict.{Verdict}
use Rattle.model.specs.declared.calls.Verdict.TheVariants.{Granted, Refused}
use Rattle.model.specs.Limits.{session_count, flow_count}
use Rattle.model.specs.State.{all_sessions, first_of, session_at, place_count, role_set_count}
use Rattle.model.specs.State.{filled, place, set_place, roleset_at, given}
use Rattle.model.specs.Calls.{verdict_of, answer_of}
use Rattle.model.specs.Ledger.{same}
use Rattle.model.specs.Demands.{list_of}

-- ---- lists made of a function

module _ {A : Type 0} where
  -- one element more
  pub length_snoc : (xs : List A) (x : A) → length (xs ++ (x ∷ [])) ≡ suc (length xs)
  length_snoc xs x = length-append xs (x ∷ []) ∙ add-one (length xs)

  -- every element of equal ones, and what stands past them where it is the same
  pub get_d_same : (n i : ℕ) (a : A) → get_or (replicate n a) i a ≡ a
  get_d_same zero i a = refl
  get_d_same (suc n) zero a = refl
  get_d_same (suc n) (suc i) a = get_d_same n i a

  pub list_of_suc : (n : ℕ) (p : ℕ → A) → list_of (suc n) p ≡ list_of n p ++ (p n ∷ [])
  unfolding list_of
  list_of_suc n p = refl

  pub list_of_zero : (p : ℕ → A) → list_of 0 p ≡ []
  unfolding list_of
  list_of_zero p = refl

  pub length_list_of : (n : ℕ) (p : ℕ → A) → length (list_of n p) ≡ n
  length_list_of zero p = ap length (list_of_zero p)
  length_list_of (suc n) p = ap length (list_of_suc n p) ∙ length_snoc (list_of n p) (p n) ∙ ap suc (length_list_of n p)

  pub list_of_cong : (n : ℕ) (p q : ℕ → A) → ((i : ℕ) → i < n → p i ≡ q i) → list_of n p ≡ list_of n q
  unfolding list_of
  list_of_cong zero p q f = refl
  list_of_cong (suc n) p q f = ap₂ (λ (xs : List A) (x : A). xs ++ (x ∷ [])) (list_of_cong n p q (λ i l. f i (omega arith))) (f n (omega arith))

  -- element i of n elements and one more, which also stands past them
  pub get_d_snoc : (n : ℕ) (xs : List A) (x : A) (i : ℕ) → length xs ≡ n → get_or (xs ++ (x ∷ [])) i x ≡ cond (ltb i n) (get_or xs i x) x
  get_d_snoc n xs x i e = go (ltb i n) refl
    where
      go : (b : Bool) → ltb i n ≡ b → get_or (xs ++ (x ∷ [])) i x ≡ cond b (get_or xs i x) x
      go true h =
          let l : i < length xs = omega (arith, ltb-true i n h) in
          get_or-append xs (x ∷ []) x i l
      go false h = ⊎_elim (λ z. get_or_at xs x [] x i (e ∙ z)) (λ (l : n < i). get_or-eq_default (xs ++ (x ∷ [])) x (rw (length_snoc xs x) (omega arith))) (eq-or-lt_of_le (ltb-false i n h))

  pub get_d_list_of : (n : ℕ) (p : ℕ → A) (i : ℕ) (d : A) → i < n → get_or (list_of n p) i d ≡ p i
  get_d_list_of zero p i d l = absurd (omega arith)
  get_d_list_of (suc n) p i d l = rw (list_of_suc n p) (go (get_d_list_of n p i d) (eq-or-lt_of_le l))
    where
      go : (i < n → get_or (list_of n p) i d ≡ p i) → (suc i ≡ suc n) ⊎ (suc i < suc n) → get_or (list_of n p ++ (p n ∷ [])) i d ≡ p i
      go f (inl z) =
          let e : n ≡ i = omega arith in
          get_or_at (list_of n p) (p n) [] d i (length_list_of n p ∙ e) ∙ ap p e
      go f (inr m) =
          let h : i < n = omega arith in
          let k : i < length (list_of n p) = omega (arith, length_list_of n p) in
          get_or-append (list_of n p) (p n ∷ []) d i k ∙ f h

-- ---- an array that is filled from `at` on

module _ (at : ℕ) (p : ℕ → ℕ) where
  pub filled_cong : (q : ℕ → ℕ) (n : ℕ) (l : List ℕ) → ((i : ℕ) → i < n → p i ≡ q i) → filled at p n l ≡ filled at q n l
  unfolding filled
  filled_cong q zero l f = refl
  filled_cong q (suc n) l f = ap₂ (λ (xs : List ℕ) (x : ℕ). set xs (at + n) x) (filled_cong q n l (λ i k. f i (omega arith))) (f n (omega arith))

  pub length_filled : (n : ℕ) (l : List ℕ) → length (filled at p n l) ≡ length l
  unfolding filled
  length_filled zero l = refl
  length_filled (suc n) l = length-set (filled at p n l) (at + n) (p n) ∙ length_filled n l

  -- inside the range, and outside
  pub get_d_filled : (n : ℕ) (l : List ℕ) (i : ℕ) → at + n ≤ length l → i < n → get_or (filled at p n l) (at + i) 0 ≡ p i
  unfolding filled
  get_d_filled zero l i h k = absurd (omega arith)
  get_d_filled (suc n) l i h k = go (get_d_filled n l i (omega arith)) (dec_lt i n)
    where
      go : (i < n → get_or (filled at p n l) (at + i) 0 ≡ p i) → Dec (i < n) → get_or (set (filled at p n l) (at + n) (p n)) (at + i) 0 ≡ p i
      go f (yes m) = get_or-set_other (filled at p n l) (at + n) (at + i) (p n) 0 (λ q. omega arith) ∙ f m
      go f (no m) =
          let e : i ≡ n = omega arith in
          let b : at + n < length (filled at p n l) = omega (arith, length_filled n l) in
          rw e (get_or-set_same (filled at p n l) (at + n) (p n) 0 b)

  pub get_d_filled_other : (n : ℕ) (l : List ℕ) (j : ℕ) → ((i : ℕ) → i < n → j ≡ at + i → ⊥) → get_or (filled at p n l) j 0 ≡ get_or l j 0
  unfolding filled
  get_d_filled_other zero l j f = refl
  get_d_filled_other (suc n) l j f = get_or-set_other (filled at p n l) (at + n) j (p n) 0 (f n (omega arith)) ∙ get_d_filled_other n l j (λ i k. f i (omega arith))

-- a list is known by its elements
pub by_elements : (p : ℕ → ℕ) (n : ℕ) (new l : List ℕ) → length new ≡ n → length l ≡ n → ((i : ℕ) → i < n → get_or new i 0 ≡ p i) → new ≡ filled 0 p n l
by_elements p n new l e f h =
    ext_get_or 0 new (filled 0 p n l) (e ∙ sym f ∙ sym (length_filled 0 p n l)) (λ i k.
    let m : i < n = omega (arith, e) in
    let here : get_or (filled 0 p n l) i 0 ≡ p i = rw zero-add at (get_d_filled 0 p n l i (omega (arith, f)) m) in
    h i m ∙ sym here)

-- ---- versions that are given to those who are named

module _ (named : ℕ → Bool) (v n : ℕ) (l : List ℕ) where
  -- user n is named, or isn't
  given_hit : named n ≡ true → given named v (suc n) l ≡ set (given named v n l) n v
  unfolding given
  given_hit h = rw (h, given)

  given_miss : named n ≡ false → given named v (suc n) l ≡ given named v n l
  unfolding given
  given_miss h = rw (h, given)

  -- so two cases are all there are
  given_cases : (P : List ℕ → Type 0) → (named n ≡ true → P (set (given named v n l) n v)) → (named n ≡ false → P (given named v n l)) → P (given named v (suc n) l)
  given_cases P hit miss = ⊎_elim (λ h. rw (given_hit h) (hit h)) (λ h. rw (given_miss h) (miss h)) (true_or_false (named n))

module _ (named : ℕ → Bool) (v : ℕ) where
  pub length_given : (n : ℕ) (l : List ℕ) → length (given named v n l) ≡ length l
  unfolding given
  length_given zero l = refl
  length_given (suc n) l = given_cases named v n l (λ m. length m ≡ length l) (λ h. length-set (given named v n l) n v ∙ length_given n l) (λ h. length_given n l)

  pub get_d_given_past : (n : ℕ) (l : List ℕ) (u : ℕ) → n ≤ u → get_or (given named v n l) u 0 ≡ get_or l u 0
  unfolding given
  get_d_given_past zero l u h = refl
  get_d_given_past (suc n) l u h =
      given_cases named v n l (λ m. get_or m u 0 ≡ get_or l u 0) (λ q. get_or-set_other (given named v n l) n u v 0 (λ e. omega arith) ∙ get_d_given_past n l u (omega arith)) (λ q. get_d_given_past n l u (omega arith))

  pub get_d_given : (n : ℕ) (l : List ℕ) (u : ℕ) → n ≤ length l → u < n → get_or (given named v n l) u 0 ≡ cond (named u) v (get_or l u 0)
  get_d_given zero l u h k = absurd (omega arith)
  get_d_given (suc n) l u h k = go (get_d_given n l u (omega arith)) (dec_lt u n)
    where
      go : (u < n → get_or (given named v n l) u 0 ≡ cond (named u) v (get_or l u 0)) → Dec (u < n) → get_or (given named v (suc n) l) u 0 ≡ cond (named u) v (get_or l u 0)
      go f (yes m) = given_cases named v n l (λ x. get_or x u 0 ≡ cond (named u) v (get_or l u 0)) (λ q. get_or-set_other (given named v n l) n u v 0 (λ e. omega arith) ∙ f m) (λ q. f m)
      go f (no m) =
          let e : u ≡ n = omega arith in
          let b : n < length (given named v n l) = omega (arith, length_given n l) in
          rw e (given_cases named v n l (λ x. get_or x n 0 ≡ cond (named n) v (get_or l n 0)) (λ q. rw q (get_or-set_same (given named v n l) n v 0 b)) (λ q. rw q (get_d_given_past n l n (omega arith))))

-- nobody yet, and one user more
pub given_start : (named : ℕ → Bool) (v : ℕ) (l : List ℕ) → l ≡ given named v 0 l
unfolding given
given_start named v l = refl

pub given_more : (named : ℕ → Bool) (v n : ℕ) (l l' : List ℕ) → l' ≡ given named v n l → named n ≡ true → set l' n v ≡ given named v (n + 1) l
given_more named v n l l' e h = rw (add-one, e) (sym (given_hit named v n l h))

pub given_same : (named : ℕ → Bool) (v n : ℕ) (l l' : List ℕ) → l' ≡ given named v n l → named n ≡ false → l' ≡ given named v (n + 1) l
given_same named v n l l' e h = rw (add-one, e) (sym (given_miss named v n l h))

-- nobody is named; one user is
pub given_none : (named : ℕ → Bool) (v n : ℕ) (l : List ℕ) → ((w : ℕ) → w < n → named w ≡ false) → given named v n l ≡ l
unfolding given
given_none named v zero l f = refl
given_none named v (suc n) l f = given_miss named v n l (f n (omega arith)) ∙ given_none named v n l (λ w k. f w (omega arith))

pub given_one : (u v n : ℕ) (l : List ℕ) → u < n → given (λ w. eqb w u) v n l ≡ set l u v
given_one u v zero l k = absurd (omega arith)
given_one u v (suc n) l k = go (given_one u v n l) (dec_lt u n)
  where
    go : (u < n → given (λ w. eqb w u) v n l ≡ set l u v) → Dec (u < n) → given (λ w. eqb w u) v (suc n) l ≡ set l u v
    go f (yes m) = given_miss (λ w. eqb w u) v n l (ne_eqb n u (λ e. omega arith)) ∙ f m
    go f (no m) =
        let e : n ≡ u = omega arith in
        given_hit (λ w. eqb w u) v n l (eq-eqb n u e) ∙ ap₂ (λ (xs : List ℕ) (i : ℕ). set xs i v) (given_none (λ w. eqb w u) v n l (λ w j. ne_eqb w u (λ q. omega arith))) e

-- ---- the numbers of the sessions

pub or_assoc : (a b c : Bool) → ((a || b) || c) ≡ (a || (b || c))
or_assoc true b c = refl
or_assoc false b c = refl

-- something among the first m, or among the next n
pub some_parts : (m n : ℕ) (p : ℕ → Bool) → some (m + n) p ≡ (some m p || some n (λ i. p (m + i)))
some_parts m zero p =
    let z : m + 0 ≡ m = omega arith in
    rw (z, some_none (λ i. p (m + i))) (or_none (some m p))
some_parts m (suc n) p =
    let z : m + suc n ≡ suc (m + n) = omega arith in
    rw z (some_suc (m + n) p ∙ ap (λ (b : Bool). b || p (m + n)) (some_parts m n p) ∙ or_assoc (some m p) (some n (λ i. p (m + i))) (p (m + n)) ∙ ap (λ (b : Bool). some m p || b) (sym (some_suc n (λ i. p (m + i)))))

pub same_is : (p q : Product) → same p q ≡ true → p ≡ q
unfolding same
same_is Server Server h = refl
same_is Server TermBank h = absurd (false≢true h)
same_is TermBank Server h = absurd (false≢true h)
same_is TermBank TermBank h = refl

pub same_self : (p : Product) → same p p ≡ true
unfolding same
same_self Server = refl
same_self TermBank = refl

-- below its limit a session's number is counted from its product's first one
pub session_there : (p : Product) (s : ℕ) → s < session_count → session_at p s ≡ first_of p + s
unfolding session_at
session_there p s l = rw (lt-ltb s session_count l)

pub session_above : (p : Product) (s : ℕ) → session_count ≤ s → session_at p s ≡ all_sessions
unfolding session_at
session_above p s l = rw (le-ltb s session_count l)

first_room : (p : Product) → first_of p + session_count ≤ all_sessions
unfolding first_of
first_room Server = omega arith
first_room TermBank = omega arith

pub session_within : (p : Product) (s : ℕ) → s < session_count → session_at p s < all_sessions
session_within p s l = rw (session_there p s l) (omega (arith, first_room p))

-- so the check against all sessions is the one against the product's own
pub session_limit : (p : Product) (s : ℕ) → leb all_sessions (session_at p s) ≡ leb session_count s
session_limit p s = go (dec_lt s session_count)
  where
    go : Dec (s < session_count) → leb all_sessions (session_at p s) ≡ leb session_count s
    go (yes l) = lt-leb all_sessions (session_at p s) (session_within p s l) ∙ sym (lt-leb session_count s l)
    go (no l) = rw (session_above p s (omega arith)) (le-leb all_sessions all_sessions (omega arith) ∙ sym (le-leb session_count s (omega arith)))

pub session_most : (p : Product) (s : ℕ) → session_at p s ≤ all_sessions
session_most p s = go (dec_lt s session_count)
  where
    go : Dec (s < session_count) → session_at p s ≤ all_sessions
    go (yes l) = omega (arith, session_within p s l)
    go (no l) = omega (arith, session_above p s (omega arith))

-- two numbers from the products' first ones on are one where the products are and the sessions are
from_one : (n t s : ℕ) → eqb (n + t) (n + s) ≡ eqb t s
from_one n t s = go (eqb t s) refl
  where
    go : (b : Bool) → eqb t s ≡ b → eqb (n + t) (n + s) ≡ b
    go true h = eq-eqb (n + t) (n + s) (ap (λ (i : ℕ). n + i) (eqb-true t s h))
    go false h = ne_eqb (n + t) (n + s) (λ e. eqb-false t s h (omega arith))

first_one : (q p : Product) (t s : ℕ) → t < session_count → s < session_count → eqb (first_of q + t) (first_of p + s) ≡ (same q p && eqb t s)
unfolding first_of same
first_one Server Server t s l m = from_one 0 t s
first_one Server TermBank t s l m = ne_eqb (0 + t) (session_count + s) (λ e. omega arith)
first_one TermBank Server t s l m = ne_eqb (session_count + t) (0 + s) (λ e. omega arith)
first_one TermBank TermBank t s l m = from_one session_count t s

-- each session has a number of its own; one above its limit has that of none
pub session_one : (q p : Product) (t s : ℕ) → s < session_count → eqb (session_at q t) (session_at p s) ≡ (same q p && eqb t s)
session_one q p t s l = go (dec_lt t session_count)
  where
    none : (a : Bool) → false ≡ (a && false)
    none true = refl
    none false = refl

    go : Dec (t < session_count) → eqb (session_at q t) (session_at p s) ≡ (same q p && eqb t s)
    go (yes m) = rw (session_there q t m, session_there p s l) (first_one q p t s m l)
    go (no m) =
        let a : session_at q t ≡ all_sessions = session_above q t (omega arith) in
        ne_eqb (session_at q t) (session_at p s) (λ e. omega (arith, session_within p s l)) ∙ rw (ne_eqb t s (λ e. omega arith)) (none (same q p))

-- ---- places

-- eight to a row: what stands at one place is in one row, at one place of it; and it stands inside the rows
one_place : (a b c d : ℕ) → b < flow_count → d < flow_count → a * flow_count + b ≡ c * flow_count + d → (a ≡ c) × (b ≡ d)
one_place a b c d l m e = (omega arith, omega arith)

row_lt : (n a b : ℕ) → a < n → b < flow_count → a * flow_count + b < n * flow_count
row_lt n a b l m = omega arith

-- two places differ where the sessions do, or the flows do
pub places : (t f s n : ℕ) → f < flow_count → n < flow_count → (t ≡ s → f ≡ n → ⊥) → place t f ≡ place s n → ⊥
unfolding place
places t f s n l m d e = let q = one_place t f s n l m e in d q.0 q.1

pub set_places : (t f g s n h : ℕ) → g < flow_count → h < flow_count → (place t f ≡ place s n → ⊥) → set_place t f g ≡ set_place s n h → ⊥
unfolding set_place
set_places t f g s n h l m d e = d (one_place (place t f) g (place s n) h l m e).0

-- a place stands inside the arrays
pub place_lt : (s f : ℕ) → s < all_sessions → f < flow_count → place s f < place_count
unfolding place
place_lt s f l m = row_lt all_sessions s f l m

pub set_place_lt : (s f g : ℕ) → s < all_sessions → f < flow_count → g < flow_count → set_place s f g < role_set_count
unfolding set_place
set_place_lt s f g l m k = row_lt place_count (place s f) g (place_lt s f l m) k

-- ---- the role sets of one constraint are filled in

set_from : (s n g : ℕ) → set_place s n 0 + g ≡ set_place s n g
unfolding set_place
set_from s n g = omega arith

module _ (rolesets : List ℕ) (s n : ℕ) (p : ℕ → ℕ) where
  pub roleset_put : (g : ℕ) → length rolesets ≡ role_set_count → s < all_sessions → n < flow_count → g < flow_count → roleset_at (filled (set_place s n 0) p flow_count rolesets) s n g ≡ p g
  unfolding roleset_at
  roleset_put g z l m k =
      let b : set_place s n 0 + flow_count ≤ length rolesets = omega (arith, set_place_lt s n 7 l m (omega arith), set_from s n 7) in
      rw (← set_from s n g) (get_d_filled (set_place s n 0) p flow_count rolesets g b k)

  -- those of the others stay
  pub roleset_stays : (t f g : ℕ) → g < flow_count → (place t f ≡ place s n → ⊥) → roleset_at (filled (set_place s n 0) p flow_count rolesets) t f g ≡ roleset_at rolesets t f g
  unfolding roleset_at
  roleset_stays t f g k d = get_d_filled_other (set_place s n 0) p flow_count rolesets (set_place t f g) (λ i m e. set_places t f g s n i k m d (e ∙ set_from s n i))

-- ---- the verdict on a read, as an answer

pub verdict_answer : (v : Verdict) → verdict_of (answer_of v) ≡ v
unfolding verdict_of answer_of
verdict_answer Granted = refl
verdict_answer (Refused why) = refl
