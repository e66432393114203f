-- A part of an input that goes to an engine line by line, its answers written to an output, and what is written where that fails.
-- Assumes nothing.
use Rattle.std.specs.Prelude.{ℕ, ◌≤◌, ◌≡◌, List, [], ◌++◌, length, drop, Option}
use Rattle.std.specs.Io.{StartsWith}
use Rattle.std.specs.Io.KnownBytes.{Appends, Consumes}
use Rattle.model.specs.declared.Engine.{Engine}
use Rattle.protocol.specs.Run.{calls_of, feed_at, replies}
use Rattle.streams.specs.Feeds.{counted_on}
use Rattle.streams.specs.Failure.{lines_of, IsUnread}
use Rattle.streams.specs.declared.failure.Failure.{Failure}

-- after this many bytes of a part: what was written to the output, the lines counted on by it, and, whatever comes behind the part, what the engine now answers to the rest of it completes the answers to the whole
pub record Answered (part : List ℕ) (before after : Engine) (lines_before lines_after : ℕ) (old new : Option (List ℕ)) (taken : ℕ) : Type 0 where
  pub within : taken ≤ length part
  pub written : List ℕ
  pub appended : Appends old new written
  pub counted : lines_after ≡ counted_on lines_before written
  pub completed : (rest : List ℕ) → replies before (calls_of (part ++ rest)) ≡ written ++ replies after (calls_of (drop taken part ++ rest))

-- where a failure ends it: `whole` is what would be written; its beginning was, and the failure's number of lines is `lines_before` counted on by the line feeds of that
pub record Begun (lines_before : ℕ) (whole : List ℕ) (old new : Option (List ℕ)) (failure : Failure) : Type 0 where
  pub written : List ℕ
  pub begins : StartsWith whole written
  pub appended : Appends old new written
  pub told : lines_of failure ≡ counted_on lines_before written

-- what a source has lost where a failure ends it: all of it is answered, and the answers are written, but for what is `held`, no more than a buffer. Whatever comes behind it, what the engine then answers to that and what is held completes the answers; `further` is written of those. Where more could not be read, an unfinished line is held, and nothing of its answer is written
pub record Drawn (before : Engine) (source_old source_new old new : Option (List ℕ)) (failure : Failure) : Type 0 where
  pub read : List ℕ
  pub consumed : Consumes source_old source_new read
  pub held : List ℕ
  pub few : length held ≤ 65536
  pub after : Engine
  pub answered : List ℕ
  pub completed : (rest : List ℕ) → replies before (calls_of (read ++ rest)) ≡ answered ++ replies after (calls_of (held ++ rest))
  pub further : List ℕ
  pub appended : Appends old new (answered ++ further)
  pub unfinished : IsUnread failure → (feed_at held ≡ length held) × (further ≡ [])
