-- A line of digits that is read as a call is that call's frame.
-- Assumes nothing.
use Prim.Native.Nat.{ℕ, zero, suc, ◌+◌, ◌-◌, ◌*◌, ◌/◌, ◌%◌, ◌^◌, ◌≤◌, ◌<◌}
use mathlib.Core.Path.{◌≡◌, refl, sym, ap, ap₂, ◌∙◌}
use mathlib.Core.Bool.{Bool, true, false, cond, not, ◌&&◌, and_assoc, true≢false}
use mathlib.Core.List.{List, [], ◌∷◌, ◌++◌}
use mathlib.Core.Logic.{◌⊎◌, inl, inr}
use native.Mathlib.Nat.{mod-lt, div-add-mod', div-lt_iff_lt-mul, pow-suc}
use native.Mathlib.Omega.{arith}
use lib.Arith.{digits_lt, digits_div, digits_mod}
use lib.Dec.{eqb, leb, ltb}
use lib.ListN.{length, get_or, take, drop, length-append, length-drop, take-append-drop}
use lib.Seq.{take_all, take_at, drop_at, take-suc, drop-drop}
use borrow.Author.Tests.{eqb-true, lt-ltb, le-ltb, ltb-true, leb-true}
use Rattle.sets.specs.Sets.{has, set_of, some}
use Rattle.sets.proofs.Laws.{true_or_false, and_both, and_true, some_at, members}
use Rattle.model.specs.declared.calls.Change.TheVariants.{Assign, Withdraw, Permit, Revoke, Forward, Mandate}
use Rattle.model.specs.declared.calls.Product.TheVariants.{Server, TermBank}
use Rattle.model.specs.declared.calls.Ask.TheVariants.{Open, Conflicting, Add, Show}
use Rattle.model.specs.declared.calls.Call.{Call}
use Rattle.model.specs.declared.calls.Call.TheVariants.{Table, Session, Read, Unreadable}
use Rattle.protocol.specs.Digits.{digit, all_digits, number_from, number, glyph, hex}
use Rattle.protocol.specs.Lines.{field, rest_digits, called_by, called, frame, call_of}
use Rattle.protocol.proofs.Laws.{hex_length}
use Rattle.protocol.specs.Specification.{digits, in_digits, bits, M, spelled, HasFrame}

-- ---- digits

-- all digits, part by part
pub all_parts : (n : ℕ) (s : List ℕ) → all_digits s ≡ (all_digits (take n s) && all_digits (drop n s))
unfolding all_digits
all_parts zero s = refl
all_parts (suc n) [] = refl
all_parts (suc n) (b ∷ s) = rw (all_parts n s) (sym (and_assoc (ltb (digit b) 16) (all_digits (take n s)) (all_digits (drop n s))))

-- one digit more
pub all_more : (xs : List ℕ) (b : ℕ) → all_digits xs ≡ true → digit b < 16 → all_digits (xs ++ (b ∷ [])) ≡ true
unfolding all_digits
all_more [] b e h = rw (lt-ltb (digit b) 16 h)
all_more (x ∷ xs) b e h =
    let p = and_both (ltb (digit x) 16) (all_digits xs) e in
    rw p.0 (all_more xs b p.1 h)

pub number_more : (done : ℕ) (xs : List ℕ) (b : ℕ) → number_from done (xs ++ (b ∷ [])) ≡ number_from done xs * 16 + digit b
unfolding number_from
number_more done [] b = refl
number_more done (x ∷ xs) b = number_more (done * 16 + digit x) xs b

-- a test that holds below n, from one computed test
below : (n : ℕ) (p : ℕ → Bool) → some n (λ v. not (p v)) ≡ false → (v : ℕ) → v < n → p v ≡ true
below n p h v l = go (true_or_false (p v))
  where
    go : (p v ≡ true) ⊎ (p v ≡ false) → p v ≡ true
    go (inl t) = t
    go (inr t) = absurd (true≢false (sym (some_at n (λ w. not (p w)) v l (ap not t)) ∙ h))

glyph_digits : (v : ℕ) → v < 16 → glyph v ≡ get_or digits v 0
unfolding glyph digits some
glyph_digits v l = eqb-true (glyph v) (get_or digits v 0) (below 16 (λ w. eqb (glyph w) (get_or digits w 0)) refl v l)

digit_glyph : (v : ℕ) → v < 16 → digit (glyph v) ≡ v
unfolding glyph digit some
digit_glyph v l = eqb-true (digit (glyph v)) v (below 16 (λ w. eqb (digit (glyph w)) w) refl v l)

-- the engine's digits are the document's
pub hex_digits : (n v : ℕ) → hex n v ≡ in_digits n v
unfolding hex in_digits
hex_digits zero v = refl
hex_digits (suc n) v = ap₂ (λ (xs : List ℕ) (b : ℕ). xs ++ (b ∷ [])) (hex_digits n (v / 16)) (glyph_digits (v % 16) (mod-lt v (omega arith)))

low_digit : (b : ℕ) → 48 ≤ b → b ≤ 57 → glyph (b - 48) ≡ b
unfolding glyph
low_digit b h k = rw (lt-ltb (b - 48) 10 (omega arith)) (omega arith)

high_digit : (b : ℕ) → 97 ≤ b → b ≤ 102 → glyph (b - 87) ≡ b
unfolding glyph
high_digit b h k = rw (le-ltb (b - 87) 10 (omega arith)) (omega arith)

glyph_digit : (b : ℕ) → digit b < 16 → glyph (digit b) ≡ b
unfolding digit
glyph_digit b l = go (leb 48 b) (leb b 57) (leb 97 b) (leb b 102) refl refl refl refl l
  where
    go : (p q r s : Bool) → leb 48 b ≡ p → leb b 57 ≡ q → leb 97 b ≡ r → leb b 102 ≡ s
        → cond (p && q) (b - 48) (cond (r && s) (b - 87) 16) < 16 → glyph (cond (p && q) (b - 48) (cond (r && s) (b - 87) 16)) ≡ b
    go true true r s hp hq hr hs k = low_digit b (leb-true 48 b hp) (leb-true b 57 hq)
    go true false true true hp hq hr hs k = high_digit b (leb-true 97 b hr) (leb-true b 102 hs)
    go true false true false hp hq hr hs k = absurd (omega arith)
    go true false false s hp hq hr hs k = absurd (omega arith)
    go false q true true hp hq hr hs k = high_digit b (leb-true 97 b hr) (leb-true b 102 hs)
    go false q true false hp hq hr hs k = absurd (omega arith)
    go false q false s hp hq hr hs k = absurd (omega arith)

-- ---- numbers from digits and back

pub hex_all : (n v : ℕ) → all_digits (hex n v) ≡ true
unfolding hex all_digits
hex_all zero v = refl
hex_all (suc n) v = all_more (hex n (v / 16)) (glyph (v % 16)) (hex_all n (v / 16)) (rw (digit_glyph (v % 16) (mod-lt v (omega arith))) (mod-lt v (omega arith)))

pub number_hex : (n v : ℕ) → v < 16 ^ n → number (hex n v) ≡ v
unfolding hex number number_from
number_hex zero v l = omega arith
number_hex (suc n) v l =
    number_more 0 (hex n (v / 16)) (glyph (v % 16))
    ∙ ap₂ (λ (x y : ℕ). x * 16 + y) (number_hex n (v / 16) ((div-lt_iff_lt-mul {k = 16} (omega arith)).1 (rw pow-suc at l))) (digit_glyph (v % 16) (mod-lt v (omega arith)))
    ∙ div-add-mod' v 16

all_at : (l : List ℕ) (k : ℕ) → all_digits l ≡ true → k < length l → digit (get_or l k 0) < 16
unfolding all_digits
all_at [] k h m = absurd (omega arith)
all_at (b ∷ l) zero h m = ltb-true (digit b) 16 (and_both (ltb (digit b) 16) (all_digits l) h).0
all_at (b ∷ l) (suc k) h m = all_at l k (and_both (ltb (digit b) 16) (all_digits l) h).1 (omega arith)

spelt : (k : ℕ) (l : List ℕ) → all_digits l ≡ true → k ≤ length l → (hex k (number (take k l)) ≡ take k l) × (number (take k l) < 16 ^ k)
unfolding hex number number_from
spelt zero l h m = (refl, omega arith)
spelt (suc k) l h m =
    let r = spelt k l h (omega arith) in
    let d = all_at l k h m in
    let b = get_or l k 0 in
    let e : number (take (suc k) l) ≡ number (take k l) * 16 + digit b = ap number (take-suc l k 0 m) ∙ number_more 0 (take k l) b in (
      ap (hex (suc k)) e
          ∙ ap₂ (λ (x y : ℕ). hex k x ++ (glyph y ∷ [])) (digits_div (number (take k l)) d) (digits_mod (number (take k l)) d)
          ∙ ap₂ (λ (xs : List ℕ) (c : ℕ). xs ++ (c ∷ [])) r.0 (glyph_digit b d)
          ∙ sym (take-suc l k 0 m),
      rw (e, pow-suc) (digits_lt r.1 d),
    )

-- ---- sets

-- a set's number has its members as bits
pub bits_set : (n : ℕ) (p : ℕ → Bool) → bits n p ≡ set_of n p
unfolding bits set_of
bits_set zero p = refl
bits_set (suc n) p = go (p n) (bits_set n p)
  where
    go : (b : Bool) → bits n p ≡ set_of n p → cond b (2 ^ n) 0 + bits n p ≡ elim b [ true ↦ 2 ^ n + set_of n p | false ↦ set_of n p ]
    go true h = ap (λ (x : ℕ). 2 ^ n + x) h
    go false h = omega arith

digits_hex : (n v : ℕ) → in_digits n v ≡ hex n v
digits_hex n v = sym (hex_digits n v)

-- ---- a frame is read as its call

all_append : (a b : List ℕ) → all_digits a ≡ true → all_digits b ≡ true → all_digits (a ++ b) ≡ true
unfolding all_digits
all_append [] b h k = k
all_append (x ∷ a) b h k = let p = and_both (ltb (digit x) 16) (all_digits a) h in and_true p.0 (all_append a b p.1 k)

first_field : (v : ℕ) (rest : List ℕ) → v < 256 → field (hex 2 v ++ rest) 0 ≡ v
unfolding field
first_field v rest l = ap number (take_at (hex 2 v) rest 2 (hex_length 2 v)) ∙ number_hex 2 v l

next_field : (v : ℕ) (rest : List ℕ) (i : ℕ) → field (hex 2 v ++ rest) (suc i) ≡ field rest i
unfolding field
next_field v rest i = ap (λ (xs : List ℕ). field xs i) (drop_at (hex 2 v) rest 2 (hex_length 2 v))

only_field : (v : ℕ) → v < 256 → field (hex 2 v) 0 ≡ v
unfolding field
only_field v l = ap number (take_all 2 (hex 2 v) (omega (arith, hex_length 2 v))) ∙ number_hex 2 v l

read_kind : (k : ℕ) (rest : List ℕ) → k < 256 → all_digits rest ≡ true → call_of (hex 2 k ++ rest) ≡ frame k rest
unfolding call_of
read_kind k rest l h =
    rw (all_append (hex 2 k) rest (hex_all 2 k) h, take_at (hex 2 k) rest 2 (hex_length 2 k), drop_at (hex 2 k) rest 2 (hex_length 2 k), number_hex 2 k l)

read_one : (k a : ℕ) (C : ℕ → Call) → k < 256 → a < 256 → ((rest : List ℕ) → length rest ≡ 2 → frame k rest ≡ C (field rest 0)) → call_of (in_digits 2 k ++ in_digits 2 a) ≡ C a
read_one k a C l m f = simp digits_hex (read_kind k (hex 2 a) l (hex_all 2 a) ∙ f (hex 2 a) (hex_length 2 a) ∙ ap C (only_field a m))

read_pair : (k a b : ℕ) (C : ℕ → ℕ → Call) → k < 256 → a < 256 → b < 256 → ((rest : List ℕ) → length rest ≡ 4 → frame k rest ≡ C (field rest 0) (field rest 1))
    → call_of (in_digits 2 k ++ (in_digits 2 a ++ in_digits 2 b)) ≡ C a b
read_pair k a b C l m n f =
    simp digits_hex
    (read_kind k rest l (all_append (hex 2 a) (hex 2 b) (hex_all 2 a) (hex_all 2 b)) ∙ f rest (simp (length-append, hex_length))
    ∙ ap₂ C (first_field a (hex 2 b) m) (next_field a (hex 2 b) 0 ∙ only_field b n))
  where
    rest : List ℕ
    rest = hex 2 a ++ hex 2 b

read_quad : (k a b c d : ℕ) (C : ℕ → ℕ → ℕ → ℕ → Call) → k < 256 → a < 256 → b < 256 → c < 256 → d < 256
    → ((rest : List ℕ) → length rest ≡ 8 → frame k rest ≡ C (field rest 0) (field rest 1) (field rest 2) (field rest 3))
    → call_of (in_digits 2 k ++ (in_digits 2 a ++ (in_digits 2 b ++ (in_digits 2 c ++ in_digits 2 d)))) ≡ C a b c d
read_quad k a b c d C l m n o p f =
    simp digits_hex
    (read_kind k rest l (all_append (hex 2 a) r₁ (hex_all 2 a) (all_append (hex 2 b) r₂ (hex_all 2 b) (all_append (hex 2 c) (hex 2 d) (hex_all 2 c) (hex_all 2 d)))) ∙ f rest (simp (length-append, hex_length))
    ∙ rw (
      first_field a r₁ m,
      next_field a r₁ 0,
      first_field b r₂ n,
      next_field a r₁ 1,
      next_field b r₂ 0,
      first_field c (hex 2 d) o,
      next_field a r₁ 2,
      next_field b r₂ 1,
      next_field c (hex 2 d) 0,
      only_field d p,
    ))
  where
    r₂ : List ℕ
    r₂ = hex 2 c ++ hex 2 d

    r₁ : List ℕ
    r₁ = hex 2 b ++ r₂

    rest : List ℕ
    rest = hex 2 a ++ r₁

read_add : (k s d m : ℕ) (C : ℕ → ℕ → ℕ → Call) → k < 256 → s < 256 → d < 256 → m < 2 ^ 64
    → ((rest : List ℕ) → length rest ≡ 20 → frame k rest ≡ C (field rest 0) (field rest 1) (number (drop 4 rest)))
    → call_of (in_digits 2 k ++ (in_digits 2 s ++ (in_digits 2 d ++ M (has m)))) ≡ C s d m
unfolding M
read_add k s d m C q l n o f =
    simp (digits_hex, bits_set 64 (has m), members 64 m o)
    (read_kind k rest q (all_append (hex 2 s) r₁ (hex_all 2 s) (all_append (hex 2 d) (hex 16 m) (hex_all 2 d) (hex_all 16 m)))
    ∙ f rest (simp (length-append, hex_length))
    ∙ rw (
      first_field s r₁ l,
      next_field s r₁ 0,
      first_field d (hex 16 m) n,
      ← drop-drop 2 2 rest,
      drop_at (hex 2 s) r₁ 2 (hex_length 2 s),
      drop_at (hex 2 d) (hex 16 m) 2 (hex_length 2 d),
      number_hex 16 m o,
    ))
  where
    r₁ : List ℕ
    r₁ = hex 2 d ++ hex 16 m

    rest : List ℕ
    rest = hex 2 s ++ r₁

pub read_spelled : (c : Call) → HasFrame c → call_of (spelled c) ≡ c
unfolding spelled frame rest_digits called called_by
read_spelled (Table (Assign u r)) h = read_pair 1 u r (λ x y. Table (Assign x y)) (omega arith) h.0 h.1 (λ rest e. rw e)
read_spelled (Table (Withdraw u r)) h = read_pair 2 u r (λ x y. Table (Withdraw x y)) (omega arith) h.0 h.1 (λ rest e. rw e)
read_spelled (Table (Permit r d)) h = read_pair 3 r d (λ x y. Table (Permit x y)) (omega arith) h.0 h.1 (λ rest e. rw e)
read_spelled (Table (Revoke r d)) h = read_pair 4 r d (λ x y. Table (Revoke x y)) (omega arith) h.0 h.1 (λ rest e. rw e)
read_spelled (Table (Forward d e)) h = read_pair 5 d e (λ x y. Table (Forward x y)) (omega arith) h.0 h.1 (λ rest q. rw q)
read_spelled (Table (Mandate r d)) h = read_pair 16 r d (λ x y. Table (Mandate x y)) (omega arith) h.0 h.1 (λ rest e. rw e)
read_spelled (Session Server s Open) h = read_one 6 s (λ x. Session Server x Open) (omega arith) h (λ rest e. rw e)
read_spelled (Session Server s (Conflicting d)) h = read_pair 7 s d (λ x y. Session Server x (Conflicting y)) (omega arith) h.0 h.1 (λ rest e. rw e)
read_spelled (Session Server s (Add d m)) h = read_add 8 s d m (λ x y z. Session Server x (Add y z)) (omega arith) h.0 h.1 h.2 (λ rest e. rw e)
read_spelled (Session Server s (Show f)) h = read_pair 10 s f (λ x y. Session Server x (Show y)) (omega arith) h.0 h.1 (λ rest e. rw e)
read_spelled (Read Server u s f d) h = read_quad 9 u s f d (Read Server) (omega arith) h.0 h.1 h.2 h.3 (λ rest e. rw e)
read_spelled (Session TermBank s Open) h = read_one 11 s (λ x. Session TermBank x Open) (omega arith) h (λ rest e. rw e)
read_spelled (Session TermBank s (Conflicting d)) h = read_pair 12 s d (λ x y. Session TermBank x (Conflicting y)) (omega arith) h.0 h.1 (λ rest e. rw e)
read_spelled (Session TermBank s (Add d m)) h = read_add 13 s d m (λ x y z. Session TermBank x (Add y z)) (omega arith) h.0 h.1 h.2 (λ rest e. rw e)
read_spelled (Session TermBank s (Show f)) h = read_pair 15 s f (λ x y. Session TermBank x (Show y)) (omega arith) h.0 h.1 (λ rest e. rw e)
read_spelled (Read TermBank u s f d) h = read_quad 14 u s f d (Read TermBank) (omega arith) h.0 h.1 h.2 h.3 (λ rest e. rw e)
read_spelled Unreadable h = absurd h

-- ---- what is read as a call is its frame

first : (l : List ℕ) → all_digits l ≡ true → 2 ≤ length l → (l ≡ hex 2 (field l 0) ++ drop 2 l) × (field l 0 < 256) × (all_digits (drop 2 l) ≡ true)
unfolding field
first l h m =
    let r = spelt 2 l h m in
    (sym (ap (λ (xs : List ℕ). xs ++ drop 2 l) r.0 ∙ take-append-drop 2 l), r.1, (and_both (all_digits (take 2 l)) (all_digits (drop 2 l)) (sym (all_parts 2 l) ∙ h)).1)

last : (n : ℕ) (l : List ℕ) → all_digits l ≡ true → length l ≡ n → (l ≡ hex n (number l)) × (number l < 16 ^ n)
last n l h m =
    let r = spelt n l h (omega arith) in
    let t : take n l ≡ l = take_all n l (omega arith) in
    (sym (rw t at r.0), rw t at r.1)

last_field : (l : List ℕ) → all_digits l ≡ true → length l ≡ 2 → (l ≡ hex 2 (field l 0)) × (field l 0 < 256)
unfolding field
last_field l h m = rw (take_all 2 l (omega arith)) (last 2 l h m)

next_is : (l : List ℕ) (i : ℕ) → field (drop 2 l) i ≡ field l (suc i)
unfolding field
next_is l i = refl

pair_back : (l : List ℕ) → all_digits l ≡ true → length l ≡ 4 → (l ≡ hex 2 (field l 0) ++ hex 2 (field l 1)) × (field l 0 < 256) × (field l 1 < 256)
pair_back l h m =
    let a = first l h (omega arith) in
    let b = rw (next_is l 0) at (last_field (drop 2 l) a.2 (rw length-drop (omega arith))) in
    (a.0 ∙ ap (λ (xs : List ℕ). hex 2 (field l 0) ++ xs) b.0, a.1, b.1)

quad_back : (l : List ℕ) → all_digits l ≡ true → length l ≡ 8
    → (l ≡ hex 2 (field l 0) ++ (hex 2 (field l 1) ++ (hex 2 (field l 2) ++ hex 2 (field l 3)))) × (field l 0 < 256) × (field l 1 < 256) × (field l 2 < 256) × (field l 3 < 256)
quad_back l h m =
    let a = first l h (omega arith) in
    let b = rw (next_is l 0) at (first (drop 2 l) a.2 (rw length-drop (omega arith))) in
    let c = rw (next_is (drop 2 l) 0, next_is (drop 2 l) 1, next_is l 1, next_is l 2) at (pair_back (drop 2 (drop 2 l)) b.2 (rw (length-drop, length-drop) (omega arith))) in (
      a.0 ∙ ap (λ (xs : List ℕ). hex 2 (field l 0) ++ xs) (b.0 ∙ ap (λ (xs : List ℕ). hex 2 (field l 1) ++ xs) c.0),
      a.1,
      b.1,
      c.1,
      c.2,
    )

add_back : (l : List ℕ) → all_digits l ≡ true → length l ≡ 20
    → (l ≡ hex 2 (field l 0) ++ (hex 2 (field l 1) ++ hex 16 (number (drop 4 l)))) × (field l 0 < 256) × (field l 1 < 256) × (number (drop 4 l) < 16 ^ 16)
add_back l h m =
    let a = first l h (omega arith) in
    let b = rw (next_is l 0) at (first (drop 2 l) a.2 (rw length-drop (omega arith))) in
    let c = rw (drop-drop 2 2 l) at (last 16 (drop 2 (drop 2 l)) b.2 (rw (length-drop, length-drop) (omega arith))) in (
      a.0 ∙ ap (λ (xs : List ℕ). hex 2 (field l 0) ++ xs) (b.0 ∙ ap (λ (xs : List ℕ). hex 2 (field l 1) ++ xs) (drop-drop 2 2 l ∙ c.0)),
      a.1,
      b.1,
      c.1,
    )

-- what a line is read as
abbrev pub Framed : List ℕ → Call → Type 0
Framed line c = (c ≡ Unreadable) ⊎ (HasFrame c × (line ≡ spelled c))

pub pick : (P : Call → Type 0) (t : Bool) (a b : Call) → (t ≡ true → P a) → P b → P (cond t a b)
pick P true a b f p = f refl
pick P false a b f p = p

module _ (line : List ℕ) (h : all_digits line ≡ true) (long : eqb (length (drop 2 line)) (rest_digits (number (take 2 line))) ≡ true) where
  tail : List ℕ
  tail = drop 2 line

  -- the kind's digits, and the rest
  of_kind : (k n : ℕ) → eqb (number (take 2 line)) k ≡ true → rest_digits k ≡ n → 1 ≤ n → (line ≡ in_digits 2 k ++ tail) × (length tail ≡ n) × (all_digits tail ≡ true)
  unfolding tail field
  of_kind k n t q l =
      let e = eqb-true (number (take 2 line)) k t in
      let m : length (drop 2 line) ≡ n = eqb-true (length (drop 2 line)) (rest_digits (number (take 2 line))) long ∙ ap rest_digits e ∙ q in
      let r = first line h (omega (arith, length-drop 2 line)) in
      (r.0 ∙ ap (λ (v : ℕ). hex 2 v ++ drop 2 line) e ∙ ap (λ (xs : List ℕ). xs ++ drop 2 line) (hex_digits 2 k), m, r.2)

  one_framed : (k : ℕ) → eqb (number (take 2 line)) k ≡ true → rest_digits k ≡ 2 → (field (drop 2 line) 0 < 256) × (line ≡ in_digits 2 k ++ in_digits 2 (field (drop 2 line) 0))
  unfolding tail
  one_framed k t q =
      let r = of_kind k 2 t q (omega arith) in
      let f = last_field (drop 2 line) r.2 r.1 in
      (f.1, r.0 ∙ ap (λ (xs : List ℕ). in_digits 2 k ++ xs) (f.0 ∙ hex_digits 2 (field (drop 2 line) 0)))

  pair_framed : (k : ℕ) → eqb (number (take 2 line)) k ≡ true → rest_digits k ≡ 4
      → ((field (drop 2 line) 0 < 256) × (field (drop 2 line) 1 < 256)) × (line ≡ in_digits 2 k ++ (in_digits 2 (field (drop 2 line) 0) ++ in_digits 2 (field (drop 2 line) 1)))
  unfolding tail
  pair_framed k t q =
      let r = of_kind k 4 t q (omega arith) in
      let f = pair_back (drop 2 line) r.2 r.1 in
      ((f.1, f.2), r.0 ∙ ap (λ (xs : List ℕ). in_digits 2 k ++ xs) (f.0 ∙ simp hex_digits))

  quad_framed : (k : ℕ) → eqb (number (take 2 line)) k ≡ true → rest_digits k ≡ 8
      → ((field (drop 2 line) 0 < 256) × (field (drop 2 line) 1 < 256) × (field (drop 2 line) 2 < 256) × (field (drop 2 line) 3 < 256))
      × (line ≡ in_digits 2 k ++ (in_digits 2 (field (drop 2 line) 0) ++ (in_digits 2 (field (drop 2 line) 1) ++ (in_digits 2 (field (drop 2 line) 2) ++ in_digits 2 (field (drop 2 line) 3)))))
  unfolding tail
  quad_framed k t q =
      let r = of_kind k 8 t q (omega arith) in
      let f = quad_back (drop 2 line) r.2 r.1 in
      ((f.1, f.2, f.3, f.4), r.0 ∙ ap (λ (xs : List ℕ). in_digits 2 k ++ xs) (f.0 ∙ simp hex_digits))

  add_framed : (k : ℕ) → eqb (number (take 2 line)) k ≡ true → rest_digits k ≡ 20
      → ((field (drop 2 line) 0 < 256) × (field (drop 2 line) 1 < 256) × (number (drop 4 (drop 2 line)) < 16 ^ 16))
      × (line ≡ in_digits 2 k ++ (in_digits 2 (field (drop 2 line) 0) ++ (in_digits 2 (field (drop 2 line) 1) ++ in_digits 16 (bits 64 (has (number (drop 4 (drop 2 line))))))))
  unfolding tail
  add_framed k t q =
      let r = of_kind k 20 t q (omega arith) in
      let f = add_back (drop 2 line) r.2 r.1 in
      let m = number (drop 4 (drop 2 line)) in (
        (f.1, f.2, f.3),
        r.0 ∙ ap (λ (xs : List ℕ). in_digits 2 k ++ xs) (f.0 ∙ simp (hex_digits, bits_set 64 (has m), members 64 m f.3)),
      )

  pub framed_called : Framed line (called (number (take 2 line)) (drop 2 line))
  unfolding called called_by spelled M rest_digits
  framed_called =
      pick (Framed line) _ _ _ (λ t. inr (pair_framed 1 t refl))
      (pick (Framed line) _ _ _ (λ t. inr (pair_framed 2 t refl))
      (pick (Framed line) _ _ _ (λ t. inr (pair_framed 3 t refl))
      (pick (Framed line) _ _ _ (λ t. inr (pair_framed 4 t refl))
      (pick (Framed line) _ _ _ (λ t. inr (pair_framed 5 t refl))
      (pick (Framed line) _ _ _ (λ t. inr (one_framed 6 t refl))
      (pick (Framed line) _ _ _ (λ t. inr (pair_framed 7 t refl))
      (pick (Framed line) _ _ _ (λ t. inr (add_framed 8 t refl))
      (pick (Framed line) _ _ _ (λ t. inr (quad_framed 9 t refl))
      (pick (Framed line) _ _ _ (λ t. inr (pair_framed 10 t refl))
      (pick (Framed line) _ _ _ (λ t. inr (one_framed 11 t refl))
      (pick (Framed line) _ _ _ (λ t. inr (pair_framed 12 t refl))
      (pick (Framed line) _ _ _ (λ t. inr (add_framed 13 t refl))
      (pick (Framed line) _ _ _ (λ t. inr (quad_framed 14 t refl))
      (pick (Framed line) _ _ _ (λ t. inr (pair_framed 15 t refl))
      (pick (Framed line) _ _ _ (λ t. inr (pair_framed 16 t refl)) (inl refl))))))))))))))))
