-- What the tables of the digits hold, and so what two bytes count for.
-- Assumes nothing.
use Prim.Native.Nat.{ℕ, zero, suc, ◌+◌, ◌*◌, ◌<◌, ◌≤◌}
use mathlib.Core.Path.{◌≡◌, refl, sym, ◌∙◌}
use mathlib.Core.Bool.{Bool, true, false, cond, ◌&&◌, true≢false}
use mathlib.Core.List.{List, [], ◌∷◌}
use native.Mathlib.Numerals.{add-one}
use native.Mathlib.Nat.{mul-le-mul, add-zero, add-suc, suc-add, zero-add, le_of_suc-le-suc, not-suc-le-zero}
use native.Mathlib.Decide.{dec_lt}
use native.Mathlib.Omega.{arith}
use lib.Dec.{ltb, eqb}
use lib.ListN.{length, get_or, set}
use borrow.Author.Tests.{lt-ltb, le-ltb, eqb-true}
use Rattle.sets.proofs.Laws.{and_both}
use Rattle.protocol.specs.Digits.{digit, all_digits, number_from, number, glyph}
use Rattle.digits.specs.Tables.{digit_table, high_table, low_table}

-- ---- the tables

-- entry k of the list is f (i + k): one test of a whole list
unfoldable listed : (ℕ → ℕ) → ℕ → List ℕ → Bool
listed f i [] = true
listed f i (v ∷ vs) = eqb v (f i) && listed f (suc i) vs

listed_at : (f : ℕ → ℕ) (i : ℕ) (vs : List ℕ) → listed f i vs ≡ true → (k : ℕ) → k < length vs → get_or vs k 0 ≡ f (i + k)
unfolding listed
listed_at f i [] t k h = absurd (not-suc-le-zero h)
listed_at f i (v ∷ vs) t zero h = rw (add-zero i) (eqb-true v (f i) (and_both (eqb v (f i)) _ t).0)
listed_at f i (v ∷ vs) t (suc k) h = rw (add-suc i k, ← suc-add i k) (listed_at f (suc i) vs (and_both (eqb v (f i)) _ t).1 k (le_of_suc-le-suc h))

entry_at : (f : ℕ → ℕ) (vs : List ℕ) → listed f 0 vs ≡ true → (k : ℕ) → k < length vs → get_or vs k 0 ≡ f k
entry_at f vs t k h = rw (zero-add k) at (listed_at f 0 vs t k h)

-- the bytes that are digits, in the order of their values
abbrev glyphs : List ℕ
glyphs = 48 ∷ 49 ∷ 50 ∷ 51 ∷ 52 ∷ 53 ∷ 54 ∷ 55 ∷ 56 ∷ 57 ∷ 97 ∷ 98 ∷ 99 ∷ 100 ∷ 101 ∷ 102 ∷ []

glyph_at : (v : ℕ) → v < 16 → get_or glyphs v 0 ≡ glyph v
unfolding glyph listed
glyph_at v h = entry_at glyph glyphs refl v h

-- ---- a table, digit by digit

pub table_fits : (value times : ℕ) → value < 16 → times ≤ 16 → value * times < 65536
table_fits value times v t =
    let few : value ≤ 16 = omega arith in
    let most : value * times ≤ 16 * 16 = mul-le-mul few t in
    omega arith

pub table_more : {table : List ℕ} (times value byte : ℕ) → table ≡ digit_table times value → byte ≡ get_or glyphs value 0 → value < 16 → set table byte (value * times) ≡ digit_table times (value + 1)
unfolding digit_table
table_more times value byte so b v = rw (add-one value, so, b, glyph_at value v)

-- so many times the value of a digit
abbrev counts : ℕ → ℕ → ℕ
counts times b = cond (ltb (digit b) 16) (digit b * times) 256

entries : (b : ℕ) → b < 256 → (get_or high_table b 0 ≡ counts 16 b) × (get_or low_table b 0 ≡ counts 1 b)
unfolding high_table low_table digit_table glyph digit listed
entries b h = (entry_at (counts 16) (digit_table 16 16) refl b h, entry_at (counts 1) (digit_table 1 16) refl b h)

-- ---- two digits

-- a number below 256 exactly where both bytes are digits, and then their number
pub record Two (bs : List ℕ) (v : ℕ) : Type 0 where
  pub test : ltb v 256 ≡ all_digits bs
  pub value : all_digits bs ≡ true → v ≡ number bs

two_read : (a b h l : ℕ) → h ≡ counts 16 a → l ≡ counts 1 b → Two (a ∷ b ∷ []) (h + l)
unfolding all_digits number number_from
two_read a b h l high low = go (dec_lt (digit a) 16) (dec_lt (digit b) 16)
  where
    go : Dec (digit a < 16) → Dec (digit b < 16) → Two (a ∷ b ∷ []) (h + l)
    go (yes p) (yes q) =
        let f : h ≡ digit a * 16 = high ∙ rw (lt-ltb (digit a) 16 p) in
        let g : l ≡ digit b * 1 = low ∙ rw (lt-ltb (digit b) 16 q) in
        record { test = rw (lt-ltb (digit a) 16 p, lt-ltb (digit b) 16 q) (lt-ltb (h + l) 256 (omega arith)); value = λ w. omega arith }
    go (yes p) (no q) =
        let n : ltb (digit b) 16 ≡ false = le-ltb (digit b) 16 (omega (arith, q)) in
        let g : l ≡ 256 = low ∙ rw n in
        record { test = rw (lt-ltb (digit a) 16 p, n) (le-ltb (h + l) 256 (omega arith)); value = λ w. absurd (true≢false (sym w ∙ rw (lt-ltb (digit a) 16 p, n))) }
    go (no p) q =
        let n : ltb (digit a) 16 ≡ false = le-ltb (digit a) 16 (omega (arith, p)) in
        let f : h ≡ 256 = high ∙ rw n in
        record { test = rw n (le-ltb (h + l) 256 (omega arith)); value = λ w. absurd (true≢false (sym w ∙ rw n)) }

pub pair_read : (a b : ℕ) → a < 256 → b < 256 → Two (a ∷ b ∷ []) (get_or high_table a 0 + get_or low_table b 0)
pair_read a b first second = two_read a b _ _ (entries a first).0 (entries b second).1
