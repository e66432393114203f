-- The tables of the digits: what each byte counts for as the first of two digits, and as the second. What bytes are digits, and their values, `digit` says; the tables are filled by `glyph`.
-- Assumes nothing.
use Rattle.std.specs.Prelude.{ℕ, zero, suc, ◌+◌, ◌*◌, cond, Option, Some, None, List, ltb, get_or, set, replicate}
use Rattle.protocol.specs.Digits.{glyph}

-- so many times its value for each of the first n digits, and 256 for every other byte
unfoldable pub digit_table : ℕ → ℕ → List ℕ
digit_table times zero = replicate 256 256
digit_table times (suc v) = set (digit_table times v) (glyph v) (v * times)

-- what each byte counts for as the first of two digits, and as the second
unfoldable pub high_table : List ℕ
high_table = digit_table 16 16

unfoldable pub low_table : List ℕ
low_table = digit_table 1 16

-- what two bytes count for together by any two tables, where that is below 256
abbrev pub pair_by : List ℕ → List ℕ → ℕ → ℕ → Option ℕ
pair_by high low first second = let number : ℕ = get_or high first 0 + get_or low second 0 in cond (ltb number 256) (Some number) None
