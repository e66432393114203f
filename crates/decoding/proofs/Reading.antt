-- Laws of reading by any two tables: pairs of bytes, the fields of a frame, a role set, and the frame that an input begins with.
-- Assumes nothing.
use Prim.Native.Nat.{ℕ, zero, suc, ◌+◌, ◌-◌, ◌*◌, ◌/◌, ◌^◌, ◌≤◌, ◌<◌}
use mathlib.Core.Path.{◌≡◌, refl, ap, sym, ◌∙◌}
use mathlib.Core.Bool.{Bool, true, false, cond, ◌&&◌, and-true, and-false, and_assoc, true≢false}
use mathlib.Core.List.{List, [], ◌∷◌, ◌++◌}
use mathlib.Core.Logic.{◌⊎◌, inl, inr, ⊎_elim}
use native.Mathlib.Nat.{add-zero, add-suc, add_assoc, not-suc-le-zero}
use native.Mathlib.Numerals.{add-one}
use native.Mathlib.Decide.{dec_lt}
use native.Mathlib.Omega.{arith}
use lib.Dec.{ltb, eqb, leb}
use lib.ListN.{length, get_or, take, drop, set, replicate, length-drop, length-append, length-set, length-replicate, get_or-append}
use lib.Pow.{pow-add, pow_mono}
use lib.Seq.{take_all, take-suc-set, get_or-drop, get_or_at}
use borrow.Author.Tests.{lt-ltb, eq-eqb, le-leb, lt-leb, ltb-true, ltb-false, leb-true, eqb-true}
use Rattle.sets.proofs.Laws.{and_both}
use Rattle.model.specs.declared.calls.Call.{Call}
use Rattle.protocol.specs.Lines.{line_feed, rest_digits, called_by}
use Rattle.model.specs.declared.calls.Product.{Product}
use Rattle.model.specs.declared.calls.Product.TheVariants.{Server, TermBank}
use Rattle.kinds.specs.declared.Kind.{Kind}
use Rattle.kinds.specs.declared.NoSuchKind.{NoSuchKind}
use Rattle.kinds.specs.declared.Kind.TheVariants.{Assign, Withdraw, Permit, Revoke, Forward, Open, Conflicting, Add, Read, Show, Mandate}
use Rattle.kinds.specs.Kinds.{field_in, number_of_kind}
use Rattle.kinds.proofs.Laws.{no_kind, unknown}
use Rattle.std.specs.Prelude.{Option, Some, None, Result, Ok, Err, MatchResult}
use Rattle.std.specs.Result.{result_ok}
use Rattle.decoding.specs.declared.read.Rest.{Rest}
use Rattle.decoding.specs.declared.read.Frame.{Frame}
use Rattle.decoding.specs.Fields.{pair_at, pair_read, pairs_right, pairs_number, pairs_at, pairs_read, fields_read, ended_by, fields_of, one_field, two_fields, four_fields, chosen_set, addition, fields_by}
use Rattle.decoding.specs.Frames.{is_frame, frame_if, call_by, frame_by}

-- a part of a list that runs to its end
pub to_end : (n : ℕ) (s : List ℕ) → n ≤ length s → take (length s - n) (drop n s) ≡ drop n s
to_end n s h = take_all (length s - n) (drop n s) (omega (arith, length-drop n s))

-- ---- pairs

module _ (high low : List ℕ) where
  pair_drop : (m i : ℕ) (s : List ℕ) → pair_at high low (drop m s) i ≡ pair_at high low s (m + i)
  unfolding pair_at
  pair_drop m i s = rw (get_or-drop m s i 0, get_or-drop m s (i + 1) 0, ← add_assoc m i 1)

  -- the first k pairs and those behind them
  pairs_split : (k n : ℕ) (s : List ℕ) → pairs_right high low s (k + n) ≡ (pairs_right high low s k && pairs_right high low (drop (2 * k) s) n)
  unfolding pairs_right
  pairs_split k zero s = rw (add-zero k) (sym (and-true (pairs_right high low s k)))
  pairs_split k (suc n) s =
      let e : 2 * k + 2 * n ≡ 2 * (k + n) = omega arith in
      rw (add-suc k n, pairs_split k n s, pair_drop (2 * k) (2 * n) s, e)
      (and_assoc (pairs_right high low s k) (pairs_right high low (drop (2 * k) s) n) (ltb (pair_at high low s (2 * (k + n))) 256))

-- ---- fields

-- whether a line feed stands behind n pairs
abbrev pub feed_behind : List ℕ → ℕ → Bool
feed_behind s n = ltb (2 * n) (length s) && eqb (get_or s (2 * n) 0) line_feed

ended_is : (high low s : List ℕ) (n : ℕ) → ended_by high low s n ≡ (feed_behind s n && pairs_right high low s n)
unfolding ended_by
ended_is high low s n = sym (and_assoc (ltb (2 * n) (length s)) (eqb (get_or s (2 * n) 0) line_feed) (pairs_right high low s n))

pub ended_right : (high low s : List ℕ) (n : ℕ) → 2 * n < length s → get_or s (2 * n) 0 ≡ line_feed → pairs_right high low s n ≡ true → ended_by high low s n ≡ true
unfolding ended_by
ended_right high low s n l f r = rw (lt-ltb (2 * n) (length s) l, eq-eqb (get_or s (2 * n) 0) line_feed f, r)

pub ended_parts : (high low s : List ℕ) (n : ℕ) → ended_by high low s n ≡ true → (2 * n < length s) × (get_or s (2 * n) 0 ≡ line_feed) × (pairs_right high low s n ≡ true)
unfolding ended_by
ended_parts high low s n e =
    let p = and_both (ltb (2 * n) (length s)) _ e in
    let q = and_both (eqb (get_or s (2 * n) 0) line_feed) _ p.1 in
    (ltb-true (2 * n) (length s) p.0, eqb-true (get_or s (2 * n) 0) line_feed q.0, q.1)

-- ---- pairs that are read one by one, and tested together

-- what was read, or not, of what is there where a test holds
read_test : {A : Type 0} (t : Bool) {x y : A} → Some x ≡ cond t (Some y) None → (t ≡ true) × (x ≡ y)
read_test true e = (refl, cc)
read_test false e = absurd cc

no_test : {A : Type 0} (t : Bool) (y : A) → None ≡ cond t (Some y) None → t ≡ false
no_test true y e = absurd cc
no_test false y e = refl

pairs_long : (high low s : List ℕ) (n : ℕ) → length (pairs_at high low s n) ≡ n
unfolding pairs_at
pairs_long high low s zero = refl
pairs_long high low s (suc n) = length-append (pairs_at high low s n) _ ∙ rw (pairs_long high low s n) (omega arith)

-- item k of the pairs is pair k, and below 256 where they are of digits
module _ (high low s : List ℕ) where
  pairs_item : (n k : ℕ) → k < n → get_or (pairs_at high low s n) k 0 ≡ pair_at high low s (2 * k)
  unfolding pairs_at
  pairs_item zero k h = absurd (not-suc-le-zero h)
  pairs_item (suc n) k h = go (dec_lt k n) (pairs_item n k)
    where
      go : Dec (k < n) → (k < n → get_or (pairs_at high low s n) k 0 ≡ pair_at high low s (2 * k)) → get_or (pairs_at high low s n ++ (pair_at high low s (2 * n) ∷ [])) k 0 ≡ pair_at high low s (2 * k)
      go (yes l) before = get_or-append (pairs_at high low s n) _ 0 k (rw (pairs_long high low s n) l) ∙ before l
      go (no l) before =
          let e : k ≡ n = omega (arith, l) in
          rw e (get_or_at (pairs_at high low s n) (pair_at high low s (2 * n)) [] 0 n (pairs_long high low s n))

  pairs_below : (n k : ℕ) → k < n → pairs_right high low s n ≡ true → pair_at high low s (2 * k) < 256
  unfolding pairs_right
  pairs_below zero k h t = absurd (not-suc-le-zero h)
  pairs_below (suc n) k h t = go (dec_lt k n) (pairs_below n k) (and_both (pairs_right high low s n) _ t)
    where
      go : Dec (k < n) → (k < n → pairs_right high low s n ≡ true → pair_at high low s (2 * k) < 256)
          → (pairs_right high low s n ≡ true) × (ltb (pair_at high low s (2 * n)) 256 ≡ true) → pair_at high low s (2 * k) < 256
      go (yes l) before p = before l p.0
      go (no l) before p = let e : k ≡ n = omega (arith, l) in rw e (ltb-true _ 256 p.1)

-- ---- pairs that are read one by one

-- of n pairs the first i are read
pub record Sofar (high low s : List ℕ) (n : ℕ) (pairs : List ℕ) (i : ℕ) : Type 0 where
  pub long : length pairs ≡ n
  pub first : take i pairs ≡ pairs_at high low s i
  pub right : pairs_right high low s i ≡ true

pub pairs_start : (high low s : List ℕ) (n : ℕ) → Sofar high low s n (replicate n 0) 0
unfolding pairs_at pairs_right
pairs_start high low s n = record { long = length-replicate n 0; first = refl; right = refl }

module _ {high low s pairs : List ℕ} {n i : ℕ} (g : Sofar high low s n pairs i) where
  pub pairs_step : {r : Option ℕ} {v : ℕ} → i < n → r ≡ pair_read high low s (2 * i) → r ≡ Some v → Sofar high low s n (set pairs i v) (i + 1)
  unfolding pairs_at pairs_right pair_read
  pairs_step {r} {v} h read was =
      let p = read_test (ltb (pair_at high low s (2 * i)) 256) (sym was ∙ read) in
      let l : i < length pairs = omega (arith, g.long) in
      record {
        long = length-set pairs i v ∙ g.long;
        first = rw (add-one i, take-suc-set pairs i v l, g.first, p.1);
        right = rw (add-one i, g.right, p.0);
      }

  pub pairs_wrong : {r : Option ℕ} → i < n → r ≡ pair_read high low s (2 * i) → r ≡ None → None ≡ pairs_read high low s n
  unfolding pairs_read pair_read
  pairs_wrong {r} h read was = go (pairs_right high low s n) refl
    where
      bad : ltb (pair_at high low s (2 * i)) 256 ≡ false
      bad = no_test (ltb (pair_at high low s (2 * i)) 256) _ (sym was ∙ read)

      go : (t : Bool) → pairs_right high low s n ≡ t → None ≡ cond t (Some (pairs_at high low s n)) None
      go true e = absurd (true≢false (sym (lt-ltb _ 256 (pairs_below high low s n i h e)) ∙ bad))
      go false e = refl

  pub pairs_all : n ≡ i → Some pairs ≡ pairs_read high low s n
  unfolding pairs_read
  pairs_all all =
      let whole : pairs ≡ pairs_at high low s i = sym (take_all i pairs (omega (arith, g.long))) ∙ g.first in
      rw (all, g.right, ← whole)

module _ (high low s : List ℕ) (n : ℕ) {t : Bool} (is : t ≡ feed_behind s n) where
  pub fields_open : t ≡ false → None ≡ fields_read high low s n
  unfolding fields_read
  fields_open e = rw (ended_is high low s n, ← is, e)

  pub fields_right : t ≡ true → {r : Option (List ℕ)} → r ≡ pairs_read high low s n → r ≡ fields_read high low s n
  unfolding pairs_read fields_read
  fields_right e read = rw (ended_is high low s n, ← is, e) read

-- what is made of n fields that were read, and that nothing is made of what wasn't
pub fields_some : {A : Type 0} (high low s : List ℕ) (n : ℕ) (make : List ℕ → A) {r : Option (List ℕ)} → r ≡ fields_read high low s n → {xs : List ℕ} → r ≡ Some xs
    → Some (make xs) ≡ cond (ended_by high low s n) (Some (make (pairs_at high low s n))) None
unfolding fields_read
fields_some high low s n make read e =
    let k = read_test (ended_by high low s n) (sym e ∙ read) in
    rw (k.0, k.1)

pub fields_none : {A : Type 0} (high low s : List ℕ) (n : ℕ) (good : A) {r : Option (List ℕ)} → r ≡ fields_read high low s n → r ≡ None → None ≡ cond (ended_by high low s n) (Some good) None
unfolding fields_read
fields_none high low s n good read e = rw (no_test (ended_by high low s n) _ (sym e ∙ read))

-- ---- a role set, pair by pair

-- the first i pairs make this number
pub record SoFar (high low s : List ℕ) (i set : ℕ) : Type 0 where
  pub few : i ≤ 8
  pub made : set ≡ pairs_number high low s i
  pub bound : set < 2 ^ (8 * i)

pub sofar_start : (high low s : List ℕ) → SoFar high low s 0 0
unfolding pairs_number
sofar_start high low s = record { few = omega arith; made = refl; bound = omega arith }

module _ (high low s : List ℕ) {r : Option (List ℕ)} {pairs : List ℕ} (read : r ≡ pairs_read high low s 8) (was : r ≡ Some pairs) where
  right : (pairs_right high low s 8 ≡ true) × (pairs ≡ pairs_at high low s 8)
  unfolding pairs_read
  right = read_test (pairs_right high low s 8) (sym was ∙ read)

  module _ {set i : ℕ} (known : SoFar high low s i set) (more : i < 8) where
    item : get_or pairs i 0 ≡ pair_at high low s (2 * i)
    item = rw right.1 (pairs_item high low s 8 i more)

    byte : get_or pairs i 0 < 256
    byte = rw item (pairs_below high low s 8 i more right.0)

    pub sofar_fits : set * 256 + get_or pairs i 0 < 2 ^ 64
    sofar_fits = omega (arith, byte, known.bound, pow_mono {i = 8 * i} {j = 56} (omega arith))

    pub sofar_step : SoFar high low s (i + 1) (set * 256 + get_or pairs i 0)
    unfolding pairs_number
    sofar_step =
        record {
          few = omega arith;
          made = rw (add-one i, item, known.made);
          bound = let g : 2 ^ (8 * (i + 1)) ≡ 2 ^ (8 * i) * 2 ^ 8 = rw (← pow-add 2 (8 * i) 8) (ap (λ m. 2 ^ m) (omega arith)) in omega (arith, g, byte, known.bound);
        }

  pub sofar_end : {set i : ℕ} → SoFar high low s i set → 8 ≤ i → Some set ≡ chosen_set high low s
  unfolding chosen_set
  sofar_end {set} {i} g h =
      let e : i ≡ 8 = omega (arith, g.few) in
      rw (right.0, g.made, e)

pub set_none : (high low s : List ℕ) {r : Option (List ℕ)} → r ≡ pairs_read high low s 8 → r ≡ None → None ≡ chosen_set high low s
unfolding pairs_read chosen_set
set_none high low s read e = rw (no_test (pairs_right high low s 8) _ (sym e ∙ read))

-- ---- two fields and a role set behind them

module _ (high low s : List ℕ) {t : Bool} (is : t ≡ feed_behind s 10) where
  pub addition_open : t ≡ false → None ≡ addition high low s
  unfolding addition
  addition_open e = rw (ended_is high low s 10, ← is, e)

  module _ (behind : t ≡ true) {r : Option (List ℕ)} (two : r ≡ pairs_read high low s 2) where
    -- it ends as it should where its pairs are of digits
    ended_pairs : ended_by high low s 10 ≡ (pairs_right high low s 2 && pairs_right high low (drop 4 s) 8)
    ended_pairs = ended_is high low s 10 ∙ rw (← is, behind) (pairs_split high low 2 8 s)

    pub addition_none : r ≡ None → None ≡ addition high low s
    unfolding addition pairs_read
    addition_none e = rw (ended_pairs, no_test (pairs_right high low s 2) _ (sym e ∙ two))

    module _ {m : Option ℕ} (set : m ≡ chosen_set high low (take (length s - 4) (drop 4 s))) where
      chosen : m ≡ chosen_set high low (drop 4 s)
      chosen = let l : 20 < length s = ltb-true 20 (length s) (and_both (ltb 20 (length s)) _ (sym is ∙ behind)).0 in rw (to_end 4 s (omega arith)) at set

      pub addition_unset : m ≡ None → None ≡ addition high low s
      unfolding addition chosen_set
      addition_unset e = rw (ended_pairs, no_test (pairs_right high low (drop 4 s) 8) _ (sym e ∙ chosen), and-false (pairs_right high low s 2))

      pub addition_some : {xs : List ℕ} {c : ℕ} → r ≡ Some xs → m ≡ Some c → Some (fields_of 22 (get_or xs 0 0) (get_or xs 1 0) 0 0 c) ≡ addition high low s
      unfolding addition pairs_read pairs_at chosen_set
      addition_some {xs} {c} e f =
          let p = read_test (pairs_right high low s 2) (sym e ∙ two) in
          let q = read_test (pairs_right high low (drop 4 s) 8) (sym f ∙ chosen) in
          rw (ended_pairs, p.0, q.0, p.1, q.1)

-- ---- the frame that an input begins with

abbrev pub some : Call → ℕ → Option Frame
some c n = Some (record { call = c; digits = n })

-- whether there is one
unfoldable pub begins : List ℕ → List ℕ → List ℕ → Bool
begins high low s = leb 2 (length s) && (is_frame (call_by high low s) && ended_by high low (drop 2 s) (rest_digits (pair_at high low s 0) / 2))

pub record Begun (high low s : List ℕ) : Type 0 where
  pub long : 2 ≤ length s
  pub known : is_frame (call_by high low s) ≡ true
  pub ended : ended_by high low (drop 2 s) (rest_digits (pair_at high low s 0) / 2) ≡ true

pub begun_parts : (high low s : List ℕ) → begins high low s ≡ true → Begun high low s
unfolding begins
begun_parts high low s e =
    let p = and_both (leb 2 (length s)) _ e in
    let q = and_both (is_frame (call_by high low s)) _ p.1 in
    record { long = leb-true 2 (length s) p.0; known = q.0; ended = q.1 }

-- what is so of no frame, and of one that is there, is so of what an input begins with
pub frame_by_is : (high low s : List ℕ) (P : Option Frame → Type 0) → (begins high low s ≡ false → P None)
    → (begins high low s ≡ true → P (some (call_by high low s) (2 + rest_digits (pair_at high low s 0)))) → P (frame_by high low s)
unfolding frame_by frame_if begins
frame_by_is high low s P p q = go (begins high low s) refl
  where
    go : (t : Bool) → begins high low s ≡ t → P (cond t (some (call_by high low s) (2 + rest_digits (pair_at high low s 0))) None)
    go true e = q e
    go false e = p e

-- a frame is no longer than the input
pub frame_within : (high low s : List ℕ) {f : Frame} → Some f ≡ frame_by high low s → f.digits ≤ length s
frame_within high low s {f} =
    frame_by_is high low s (λ o. Some f ≡ o → f.digits ≤ length s) (λ e q. absurd cc)
    (λ e q.
    let b = begun_parts high low s e in
    let d : f.digits ≡ 2 + rest_digits (pair_at high low s 0) = cc in
    omega (arith, (ended_parts high low (drop 2 s) _ b.ended).0, length-drop 2 s, b.long))

pub frame_short : (high low line : List ℕ) → length line < 2 → None ≡ frame_by high low line
unfolding frame_by frame_if
frame_short high low line h = rw (lt-leb 2 (length line) h)

-- ---- kinds

-- what holds of each number below n
abbrev Each : (ℕ → Type 0) → ℕ → Type 0
Each P zero = Unit
Each P (suc n) = Each P n × P n

each : (P : ℕ → Type 0) (n : ℕ) → Each P n → (k : ℕ) → k < n → P k
each P zero all k h = absurd (not-suc-le-zero h)
each P (suc n) all k h = go (dec_lt k n) (each P n all.0 k)
  where
    go : Dec (k < n) → (k < n → P k) → P k
    go (yes l) f = f l
    go (no l) f = let e : n ≡ k = omega (arith, l) in rw e at all.1

pub by_kind : (P : ℕ → Type 0) → P 0 → P 1 → P 2 → P 3 → P 4 → P 5 → P 6 → P 7 → P 8 → P 9 → P 10 → P 11 → P 12 → P 13 → P 14 → P 15 → P 16 → (k : ℕ) → k < 17 → P k
by_kind P a b c d e f g h i j l m n o p q r = each P 17 (((((((((((((((((tt, a), b), c), d), e), f), g), h), i), j), l), m), n), o), p), q), r)

-- what is no kind has no digits behind it
pub no_digits : (k : ℕ) → (k < 1) ⊎ (16 < k) → rest_digits k ≡ 0
unfolding rest_digits
no_digits k h =
    let no : (j : ℕ) → (1 ≤ j) × (j ≤ 16) → eqb k j ≡ false = no_kind k h in
    let out : (leb 1 k && leb k 16) ≡ false = ⊎_elim (λ w. rw (lt-leb 1 k w)) (λ w. rw (lt-leb k 16 w) (and-false (leb 1 k))) h in
    rw (no 6 (omega arith), no 11 (omega arith), no 8 (omega arith), no 13 (omega arith), no 9 (omega arith), no 14 (omega arith), out)

-- ---- how many digits a kind of either product has behind it

pub open_digits : (p : Product) → rest_digits (number_of_kind (Open p)) ≡ 2
unfolding rest_digits number_of_kind
open_digits Server = refl
open_digits TermBank = refl

conflicting_digits : (p : Product) → rest_digits (number_of_kind (Conflicting p)) ≡ 4
unfolding rest_digits number_of_kind
conflicting_digits Server = refl
conflicting_digits TermBank = refl

pub add_digits : (p : Product) → rest_digits (number_of_kind (Add p)) ≡ 20
unfolding rest_digits number_of_kind
add_digits Server = refl
add_digits TermBank = refl

pub read_digits : (p : Product) → rest_digits (number_of_kind (Read p)) ≡ 8
unfolding rest_digits number_of_kind
read_digits Server = refl
read_digits TermBank = refl

show_digits : (p : Product) → rest_digits (number_of_kind (Show p)) ≡ 4
unfolding rest_digits number_of_kind
show_digits Server = refl
show_digits TermBank = refl

-- the kinds that share the arm of two fields
abbrev HasTwo : Kind → Type 0
HasTwo k = (k ≡ Assign) ⊎ ((k ≡ Withdraw) ⊎ ((k ≡ Permit) ⊎ ((k ≡ Revoke) ⊎ ((k ≡ Forward) ⊎ (((p : Product) × (k ≡ Conflicting p)) ⊎ (((p : Product) × (k ≡ Show p)) ⊎ (k ≡ Mandate)))))))

pub two_digits : (k : Kind) → HasTwo k → rest_digits (number_of_kind k) ≡ 4
unfolding rest_digits number_of_kind
two_digits k (inl e) = rw e
two_digits k (inr (inl e)) = rw e
two_digits k (inr (inr (inl e))) = rw e
two_digits k (inr (inr (inr (inl e)))) = rw e
two_digits k (inr (inr (inr (inr (inl e))))) = rw e
two_digits k (inr (inr (inr (inr (inr (inl (p, e))))))) = rw e (conflicting_digits p)
two_digits k (inr (inr (inr (inr (inr (inr (inl (p, e)))))))) = rw e (show_digits p)
two_digits k (inr (inr (inr (inr (inr (inr (inr e))))))) = rw e

-- ---- the fields of a kind, from those that were read

module _ (high low s : List ℕ) {kind : Kind} {r : Option (List ℕ)} where
  module _ {p : Product} (is : kind ≡ Open p) (read : r ≡ fields_read high low s 1) where
    pub open_some : {xs : List ℕ} → r ≡ Some xs → Some (fields_of 4 (get_or xs 0 0) 0 0 0 0) ≡ fields_by high low s (rest_digits (number_of_kind kind))
    unfolding fields_by one_field pairs_at
    open_some e = rw (is, open_digits p) (fields_some high low s 1 (λ xs. fields_of 4 (get_or xs 0 0) 0 0 0 0) read e)

    pub open_none : r ≡ None → None ≡ fields_by high low s (rest_digits (number_of_kind kind))
    unfolding fields_by one_field
    open_none e = rw (is, open_digits p) (fields_none high low s 1 (fields_of 4 (pair_at high low s 0) 0 0 0 0) read e)

  module _ (is : HasTwo kind) (read : r ≡ fields_read high low s 2) where
    pub two_some : {xs : List ℕ} → r ≡ Some xs → Some (fields_of 6 (get_or xs 0 0) (get_or xs 1 0) 0 0 0) ≡ fields_by high low s (rest_digits (number_of_kind kind))
    unfolding fields_by two_fields pairs_at
    two_some e = rw (two_digits kind is) (fields_some high low s 2 (λ xs. fields_of 6 (get_or xs 0 0) (get_or xs 1 0) 0 0 0) read e)

    pub two_none : r ≡ None → None ≡ fields_by high low s (rest_digits (number_of_kind kind))
    unfolding fields_by two_fields
    two_none e = rw (two_digits kind is) (fields_none high low s 2 (fields_of 6 (pair_at high low s 0) (pair_at high low s 2) 0 0 0) read e)

  module _ {p : Product} (is : kind ≡ Read p) (read : r ≡ fields_read high low s 4) where
    pub read_some : {xs : List ℕ} → r ≡ Some xs → ◌≡◌ {A = Option Rest} (Some (record { digits = 10; fields = record { numbers = xs; chosen = 0 } })) (fields_by high low s (rest_digits (number_of_kind kind)))
    unfolding fields_by four_fields pairs_at
    read_some e = rw (is, read_digits p) (fields_some high low s 4 (λ xs. record { digits = 10; fields = record { numbers = xs; chosen = 0 } }) read e)

    pub read_none : r ≡ None → None ≡ fields_by high low s (rest_digits (number_of_kind kind))
    unfolding fields_by four_fields
    read_none e = rw (is, read_digits p) (fields_none high low s 4 (fields_of 10 (pair_at high low s 0) (pair_at high low s 2) (pair_at high low s 4) (pair_at high low s 6) 0) read e)

pub add_some : (high low s : List ℕ) {kind : Kind} {p : Product} → kind ≡ Add p → {rest : Option Rest} → rest ≡ addition high low s → rest ≡ fields_by high low s (rest_digits (number_of_kind kind))
unfolding fields_by
add_some high low s {p = p} is e = rw (is, add_digits p) e

-- ---- a frame from the fields that were read

-- what is made of the fields
made : ℕ → Option Rest → Option Frame
made k None = None
made k (Some r) = some (called_by k (field_in r.fields) r.fields.chosen) r.digits

-- what the frame is where the kind is k and this is the rest
abbrev kind_frame : List ℕ → List ℕ → List ℕ → ℕ → Option Frame
kind_frame high low rest k =
    let call : Call = called_by k (λ i. pair_at high low rest (2 * i)) (pairs_number high low (drop 4 rest) 8) in
    frame_if (is_frame call && ended_by high low rest (rest_digits k / 2)) call (2 + rest_digits k)

module _ (high low rest : List ℕ) where
  -- where the rest ends as it should, the call of the pairs that its kind has; else none
  shape : (k n digits : ℕ) (good : Rest) (call : Call) → made k (Some good) ≡ some call digits
      → made k (cond (ended_by high low rest n) (Some good) None) ≡ frame_if (ended_by high low rest n) call digits
  unfolding frame_if made
  shape k n digits good call e = go (ended_by high low rest n)
    where
      go : (t : Bool) → made k (cond t (Some good) None) ≡ cond t (some call digits) None
      go true = e
      go false = refl

  one : (k : ℕ) (call : Call) → made k (Some (fields_of 4 (pair_at high low rest 0) 0 0 0 0)) ≡ some call 4 → made k (one_field high low rest) ≡ frame_if (ended_by high low rest 1) call 4
  unfolding one_field
  one k = shape k 1 4 (fields_of 4 (pair_at high low rest 0) 0 0 0 0)

  two : (k : ℕ) (call : Call) → made k (Some (fields_of 6 (pair_at high low rest 0) (pair_at high low rest 2) 0 0 0)) ≡ some call 6
      → made k (two_fields high low rest) ≡ frame_if (ended_by high low rest 2) call 6
  unfolding two_fields
  two k = shape k 2 6 (fields_of 6 (pair_at high low rest 0) (pair_at high low rest 2) 0 0 0)

  four : (k : ℕ) (call : Call) → made k (Some (fields_of 10 (pair_at high low rest 0) (pair_at high low rest 2) (pair_at high low rest 4) (pair_at high low rest 6) 0)) ≡ some call 10
      → made k (four_fields high low rest) ≡ frame_if (ended_by high low rest 4) call 10
  unfolding four_fields
  four k = shape k 4 10 (fields_of 10 (pair_at high low rest 0) (pair_at high low rest 2) (pair_at high low rest 4) (pair_at high low rest 6) 0)

  with_set : (k : ℕ) (call : Call) → made k (Some (fields_of 22 (pair_at high low rest 0) (pair_at high low rest 2) 0 0 (pairs_number high low (drop 4 rest) 8))) ≡ some call 22
      → made k (addition high low rest) ≡ frame_if (ended_by high low rest 10) call 22
  unfolding addition
  with_set k = shape k 10 22 (fields_of 22 (pair_at high low rest 0) (pair_at high low rest 2) 0 0 (pairs_number high low (drop 4 rest) 8))

  other : (k : ℕ) → (k < 1) ⊎ (16 < k) → made k (fields_by high low rest (rest_digits k)) ≡ kind_frame high low rest k
  unfolding fields_by is_frame frame_if made
  other k h = rw (no_digits k h, unknown k (λ i. pair_at high low rest (2 * i)) (pairs_number high low (drop 4 rest) 8) h)

  known : (k : ℕ) → k < 17 → made k (fields_by high low rest (rest_digits k)) ≡ kind_frame high low rest k
  unfolding fields_by rest_digits called_by field_in is_frame made
  known =
      by_kind (λ k. made k (fields_by high low rest (rest_digits k)) ≡ kind_frame high low rest k)
      (other 0 (inl (omega arith)))
      (two 1 _ refl)
      (two 2 _ refl)
      (two 3 _ refl)
      (two 4 _ refl)
      (two 5 _ refl)
      (one 6 _ refl)
      (two 7 _ refl)
      (with_set 8 _ refl)
      (four 9 _ refl)
      (two 10 _ refl)
      (one 11 _ refl)
      (two 12 _ refl)
      (with_set 13 _ refl)
      (four 14 _ refl)
      (two 15 _ refl)
      (two 16 _ refl)

  of_kind : (k : ℕ) → made k (fields_by high low rest (rest_digits k)) ≡ kind_frame high low rest k
  of_kind k = go (dec_lt k 17)
    where
      go : Dec (k < 17) → made k (fields_by high low rest (rest_digits k)) ≡ kind_frame high low rest k
      go (yes l) = known k l
      go (no l) = other k (inr (omega (arith, l)))

-- no frame begins with a number that no kind has
no_frame : (high low line : List ℕ) → (pair_at high low line 0 < 1) ⊎ (16 < pair_at high low line 0) → None ≡ frame_by high low line
unfolding frame_by frame_if call_by is_frame
no_frame high low line h =
    rw (unknown _ (λ i. pair_at high low (drop 2 line) (2 * i)) (pairs_number high low (drop 4 (drop 2 line)) 8) h, and-false (leb 2 (length line)))

-- nor with what is no two digits
pub frame_wrong : (high low line : List ℕ) {k : Option ℕ} → k ≡ pair_read high low line 0 → k ≡ None → None ≡ frame_by high low line
unfolding pair_read
frame_wrong high low line read was =
    let k : ℕ = pair_at high low line 0 in
    no_frame high low line (inr (omega (arith, ltb-false k 256 (no_test (ltb k 256) k (sym was ∙ read)))))

-- what a number was read as: its kind, or none
abbrev ReadAs : ℕ → Result Kind NoSuchKind → Type 0
ReadAs n r = MatchResult r (λ kind. number_of_kind kind ≡ n) (λ e. (e.0 ≡ n) × ((n < 1) ⊎ (16 < n)))

-- the number of the kind was read
module _ (high low line : List ℕ) {k : Option ℕ} {n : ℕ} (digits : k ≡ pair_read high low line 0) (two : k ≡ Some n) where
  first : n ≡ pair_at high low line 0
  unfolding pair_read
  first = (read_test (ltb (pair_at high low line 0) 256) (sym two ∙ digits)).1

  pub frame_unknown : (m : Result Kind NoSuchKind) → ReadAs n m → {o : Option Kind} → o ≡ result_ok m → o ≡ None → None ≡ frame_by high low line
  frame_unknown (Ok kind) h e f = absurd cc
  frame_unknown (Err none) h e f = no_frame high low line (rw first at h.1)

  kind_first : (m : Result Kind NoSuchKind) → ReadAs n m → {o : Option Kind} → o ≡ result_ok m → {kind : Kind} → o ≡ Some kind → number_of_kind kind ≡ pair_at high low line 0
  kind_first (Ok read) h e {kind} f =
      let same : kind ≡ read = cc in
      rw same (h ∙ first)
  kind_first (Err none) h e f = absurd cc

  -- and then the fields, by the kind
  module _ (m : Result Kind NoSuchKind) {o : Option Kind} {kind : Kind} {r : Option Rest} (long : 2 ≤ length line) (named : ReadAs n m) (ok : o ≡ result_ok m) (is : o ≡ Some kind)
      (read : r ≡ fields_by high low (take (length line - 2) (drop 2 line)) (rest_digits (number_of_kind kind))) where
    frame_made : made (number_of_kind kind) r ≡ frame_by high low line
    unfolding frame_by call_by
    frame_made = rw (read, to_end 2 line long, le-leb 2 (length line) long, ← kind_first m named ok is) (of_kind high low (drop 2 line) (number_of_kind kind))

    pub frame_none : r ≡ None → None ≡ frame_by high low line
    unfolding made
    frame_none e = rw e at frame_made

    pub frame_some : {x : Rest} → r ≡ Some x → {call : Call} → call ≡ called_by (number_of_kind kind) (field_in x.fields) x.fields.chosen → some call x.digits ≡ frame_by high low line
    unfolding made
    frame_some e f = rw f (rw e at frame_made)
