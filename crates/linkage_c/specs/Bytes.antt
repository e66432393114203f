-- What a caller in C is given back of bytes.
-- Assumes nothing.
use Rattle.std.specs.Prelude.{ℕ, Option, Some, None}

-- how long a line is that was written; 0 where none was
unfoldable pub length_of : Option ℕ → ℕ
length_of (Some n) = n
length_of None = 0
