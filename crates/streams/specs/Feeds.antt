-- The line feeds of a text.
-- Assumes nothing.
use Rattle.std.specs.Prelude.{ℕ, suc, ◌+◌, min, ◌≡◌, cond, List, [], ◌∷◌, ◌≢◌, eqb}

-- 1 for a line feed
unfoldable pub feed : ℕ → ℕ
feed byte = cond (eqb byte 10) 1 0

-- how many line feeds a text has
unfoldable pub feeds : List ℕ → ℕ
feeds [] = 0
feeds (byte ∷ text) = feed byte + feeds text

-- this many lines and those of a text, up to the last number of 64 bits
abbrev pub counted_on : ℕ → List ℕ → ℕ
counted_on lines text = min (lines + feeds text) 18446744073709551615

-- in bytes: the line feed is byte 0x0a, and no other byte counts, a carriage return neither
pub record FeedsMean : Type 0 where
  pub counted : (text : List ℕ) → feeds (0x0a ∷ text) ≡ suc (feeds text)
  pub passed : (byte : ℕ) (text : List ℕ) → byte ≢ 0x0a → feeds (byte ∷ text) ≡ feeds text
  pub empty : feeds [] ≡ 0
