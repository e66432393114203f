-- How many hexadecimal digits things have ("Frames"). Each width stands once, as a constant of the code. `Widths` says the numbers.
-- Assumes nothing.
use Rattle.std.specs.Prelude.{ℕ, suc, ◌+◌, ◌*◌, ◌≡◌}
use Rattle.model.specs.Limits.{flow_count}
use Rattle.protocol.specs.declared.TheConstants.{FIELD_DIGITS, VERSION_DIGITS, SET_DIGITS, KEPT, LONGEST}

-- of the kind and of each field
abbrev pub field_digits : ℕ
field_digits = FIELD_DIGITS

-- of a version
abbrev pub version_digits : ℕ
version_digits = VERSION_DIGITS

-- of a role set
abbrev pub set_digits : ℕ
set_digits = SET_DIGITS

-- how many bytes are kept of a line that has no line feed yet
abbrev pub kept : ℕ
kept = KEPT

-- how many bytes the longest answer line has
abbrev pub longest : ℕ
longest = LONGEST

pub record Widths : Type 0 where
  -- "two digits each"
  pub fields : field_digits ≡ 2
  -- "eight digits in every answer"
  pub versions : version_digits ≡ 8
  -- "M is sixteen digits, a role set"
  pub sets : set_digits ≡ 16
  -- the longest frame is 08 ss dd M, and one byte more tells a line from every frame
  pub frames : kept ≡ suc (3 * field_digits + set_digits)
  -- a constraint: the number returned, version, deny set, a role set for each flow, and the line feed
  pub answers : longest ≡ suc (field_digits + version_digits + set_digits * suc flow_count)
