-- Why a program could not go on.
-- Assumes nothing.
use Rattle.std.specs.Prelude.{ℕ, ◌≡◌, ⊤}
use Rattle.std.specs.IoError.{error_kind}
use Rattle.std.specs.declared.io.ErrorKind.TheVariants.{BrokenPipe}
use Rattle.streams.specs.declared.failure.Failure.{Failure}
use Rattle.streams.specs.declared.failure.Failure.TheVariants.{Read, Write}

-- how many lines it says were answered whole
abbrev pub lines_of : Failure → ℕ
lines_of (Read lines reason) = lines
lines_of (Write lines reason) = lines

-- answers could not be written since the reader of the pipe has closed it
abbrev pub IsClosedPipe : Failure → Type 0
IsClosedPipe (Read lines reason) = ⊥
IsClosedPipe (Write lines reason) = error_kind reason ≡ BrokenPipe

-- more could not be read
abbrev pub IsUnread : Failure → Type 0
IsUnread (Read lines reason) = ⊤
IsUnread (Write lines reason) = ⊥
