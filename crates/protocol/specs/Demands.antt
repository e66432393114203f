-- The demands for bytes, and for input that comes in chunks, as statements about the definitions of Run; proofs/Demands proves them.
-- Assumes nothing.
use Rattle.std.specs.Prelude.{ℕ, suc, ◌-◌, ◌≤◌, ◌<◌, ◌≡◌, List, [], ◌∷◌, ◌++◌, length, take, drop}
use Rattle.model.specs.declared.Engine.{Engine}
use Rattle.model.specs.Limits.{last_version}
use Rattle.model.specs.State.{fresh}
use Rattle.model.specs.Demands.{Demand1, Demand3, call_at, engine_at, run_of}
use Rattle.protocol.specs.Specification.{version, Output}
use Rattle.protocol.specs.Widths.{longest}
use Rattle.protocol.specs.Run.{calls_of, reply, replies, run, Fed, wrote, fed, feed_at, kept_of, finish}

-- for every input, the specification allows the program's output, and no other
pub record Exact (input : List ℕ) : Type 0 where
  pub allowed : Output input (run input)
  pub only : (output : List ℕ) → Output input output → output ≡ run input

-- a version is told by "eight digits in every answer" (K4), and no two versions by the same
pub record VersionsTold : Type 0 where
  pub eight : (v : ℕ) → length (version v) ≡ 8
  pub apart : (v w : ℕ) → v ≤ last_version → w ≤ last_version → version v ≡ version w → v ≡ w

-- each line of an input is the call that it reads as, and the demands hold of that list of calls
pub record ByteDemands (input : List ℕ) : Type 0 where
  -- demand 3 of the calls that the lines are
  pub three : Demand3 (run_of (calls_of input))
  -- demand 1 of each of them, on the engine as the lines before left it
  pub one : (i : ℕ) → i < length (calls_of input) → Demand1 (engine_at (calls_of input) i) (call_at (calls_of input) i)
  -- and what the program writes has that call's answer in its place
  pub answered : (i : ℕ) → i < length (calls_of input)
      → run input ≡ replies fresh (take i (calls_of input)) ++ (reply (engine_at (calls_of input) i) (call_at (calls_of input) i) ++ replies (engine_at (calls_of input) (suc i)) (drop (suc i) (calls_of input)))

-- ---- input that comes in pieces, each with its room for answers; what has to be kept of one goes before the next

pub record Piece : Type 0 where
  pub room : ℕ
  pub bytes : List ℕ

unfoldable pub all_bytes : List Piece → List ℕ
all_bytes [] = []
all_bytes (p ∷ ps) = p.bytes ++ all_bytes ps

unfoldable pub fed_all : Engine → List ℕ → List Piece → Fed
fed_all e left [] = record { written = []; engine = e; left = left }
fed_all e left (p ∷ ps) = let x : Fed = fed p.room e (left ++ p.bytes) in wrote x.written (fed_all x.engine (kept_of x.left) ps)

-- whatever the pieces and the rooms: where no whole line is left of the last one, what they write and what the end of input adds is the run on their concatenation
pub record InPieces (ps : List Piece) : Type 0 where
  pub whole : (let x : Fed = fed_all fresh [] ps in feed_at x.left ≡ length x.left → run (all_bytes ps) ≡ x.written ++ finish x.engine x.left)

-- what is left of a piece is its end; and where the longest answer has room, a piece with a whole line in it gets shorter
pub record Progress (room : ℕ) (e : Engine) (bytes : List ℕ) : Type 0 where
  pub left : (fed room e bytes).left ≡ drop (length bytes - length (fed room e bytes).left) bytes
  pub shorter : longest ≤ room → feed_at bytes < length bytes → length (fed room e bytes).left < length bytes
