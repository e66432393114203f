-- Hexadecimal digits as bytes, and numbers written in them (document 01, "Frames": "lower-case hexadecimal digits").
-- Assumes nothing.
use Rattle.std.specs.Prelude.{ℕ, zero, suc, ◌+◌, ◌-◌, ◌*◌, ◌/◌, ◌%◌, Bool, true, cond, ◌&&◌, List, [], ◌∷◌, ◌++◌, leb, ltb}

-- the value of a byte that is a digit, 0–9 or a–f; 16 for any other byte
unfoldable pub digit : ℕ → ℕ
digit b = cond (leb 48 b && leb b 57) (b - 48) (cond (leb 97 b && leb b 102) (b - 87) 16)

-- every byte is a digit
unfoldable pub all_digits : List ℕ → Bool
all_digits [] = true
all_digits (b ∷ bs) = ltb (digit b) 16 && all_digits bs

-- the number that digits make, the first the highest; `done` is that of the digits before
unfoldable pub number_from : ℕ → List ℕ → ℕ
number_from done [] = done
number_from done (b ∷ bs) = number_from (done * 16 + digit b) bs

unfoldable pub number : List ℕ → ℕ
number bs = number_from 0 bs

-- the digit for a value below 16
unfoldable pub glyph : ℕ → ℕ
glyph v = cond (ltb v 10) (48 + v) (87 + v)

-- the last n digits of v, the highest first
unfoldable pub hex : ℕ → ℕ → List ℕ
hex zero v = []
hex (suc n) v = hex n (v / 16) ++ (glyph (v % 16) ∷ [])
