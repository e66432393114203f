-- What the code reads by: a table of what each byte counts for as the first of two digits, and one for the second. These definitions hold for any two tables,
-- so that nothing is asked of who lends them; `Frames` says what the tables of the digits make of an input. The meaning of a line is `call_of`, which uses none of it.
-- Assumes nothing.
use Rattle.std.specs.Prelude.{ℕ, zero, suc, ◌+◌, ◌*◌, ◌/◌, Bool, true, cond, ◌&&◌, Option, Some, None, List, [], ◌∷◌, ◌++◌, eqb, ltb, length, get_or, drop}
use Rattle.protocol.specs.Widths.{set_digits}
use Rattle.protocol.specs.Lines.{line_feed, fields}
use Rattle.decoding.specs.declared.read.Rest.{Rest}

-- ---- pairs of bytes, by any two tables

-- what the two bytes from `at` on count for: 256 and more where one is no digit
unfoldable pub pair_at : List ℕ → List ℕ → List ℕ → ℕ → ℕ
pair_at high low s at = get_or high (get_or s at 0) 0 + get_or low (get_or s (at + 1) 0) 0

-- where they are digits
unfoldable pub pair_read : List ℕ → List ℕ → List ℕ → ℕ → Option ℕ
pair_read high low s at = cond (ltb (pair_at high low s at) 256) (Some (pair_at high low s at)) None

-- the first n pairs are all of digits
unfoldable pub pairs_right : List ℕ → List ℕ → List ℕ → ℕ → Bool
pairs_right high low s zero = true
pairs_right high low s (suc n) = pairs_right high low s n && ltb (pair_at high low s (2 * n)) 256

-- the number that the first n pairs make
unfoldable pub pairs_number : List ℕ → List ℕ → List ℕ → ℕ → ℕ
pairs_number high low s zero = 0
pairs_number high low s (suc n) = pairs_number high low s n * 256 + pair_at high low s (2 * n)

-- n pairs of digits, and then a line feed
unfoldable pub ended_by : List ℕ → List ℕ → List ℕ → ℕ → Bool
ended_by high low s n = ltb (2 * n) (length s) && (eqb (get_or s (2 * n) 0) line_feed && pairs_right high low s n)

-- the numbers of the first n pairs
unfoldable pub pairs_at : List ℕ → List ℕ → List ℕ → ℕ → List ℕ
pairs_at high low s zero = []
pairs_at high low s (suc n) = pairs_at high low s n ++ (pair_at high low s (2 * n) ∷ [])

-- where they are of digits
unfoldable pub pairs_read : List ℕ → List ℕ → List ℕ → ℕ → Option (List ℕ)
pairs_read high low s n = cond (pairs_right high low s n) (Some (pairs_at high low s n)) None

-- where they are of digits and a line feed stands behind them
unfoldable pub fields_read : List ℕ → List ℕ → List ℕ → ℕ → Option (List ℕ)
fields_read high low s n = cond (ended_by high low s n) (Some (pairs_at high low s n)) None

-- ---- fields: the pairs of a rest that ends as it should, and how many digits the frame has

abbrev pub fields_of : ℕ → ℕ → ℕ → ℕ → ℕ → ℕ → Rest
fields_of digits a b c d chosen = record { digits = digits; fields = record { numbers = a ∷ b ∷ c ∷ d ∷ []; chosen = chosen } }

unfoldable pub one_field : List ℕ → List ℕ → List ℕ → Option Rest
one_field high low s = cond (ended_by high low s 1) (Some (fields_of 4 (pair_at high low s 0) 0 0 0 0)) None

unfoldable pub two_fields : List ℕ → List ℕ → List ℕ → Option Rest
two_fields high low s = cond (ended_by high low s 2) (Some (fields_of 6 (pair_at high low s 0) (pair_at high low s 2) 0 0 0)) None

unfoldable pub four_fields : List ℕ → List ℕ → List ℕ → Option Rest
four_fields high low s = cond (ended_by high low s 4) (Some (fields_of 10 (pair_at high low s 0) (pair_at high low s 2) (pair_at high low s 4) (pair_at high low s 6) 0)) None

-- a role set has so many pairs
abbrev pub set_pairs : ℕ
set_pairs = set_digits / 2

unfoldable pub chosen_set : List ℕ → List ℕ → List ℕ → Option ℕ
chosen_set high low s = cond (pairs_right high low s set_pairs) (Some (pairs_number high low s set_pairs)) None

-- two fields and a role set
unfoldable pub addition : List ℕ → List ℕ → List ℕ → Option Rest
addition high low s =
    cond (ended_by high low s (2 + set_pairs)) (Some (fields_of (6 + set_digits) (pair_at high low s 0) (pair_at high low s 2) 0 0 (pairs_number high low (drop 4 s) set_pairs))) None

-- the fields that so many digits are; no kind has any other number of them
unfoldable pub fields_by : List ℕ → List ℕ → List ℕ → ℕ → Option Rest
fields_by high low s n =
    cond (eqb n (fields 1)) (one_field high low s)
    (cond (eqb n (fields 2)) (two_fields high low s)
    (cond (eqb n (fields 4)) (four_fields high low s)
    (cond (eqb n (fields 2 + set_digits)) (addition high low s) None)))
