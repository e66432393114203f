-- K5 in its own words: what is printed of a file, by the answer lines of the specification. How a file is read and when a pair agrees is said here anew; this text
-- names nothing of the engine, and of the definitions of Outcomes only what is printed of a file. proofs/Recorded proves it.
-- Assumes nothing.
use Rattle.std.specs.Prelude.{ℕ, suc, ◌≤◌, ◌<◌, ◌≡◌, Bool, true, false, List, [], ◌∷◌, ◌++◌, ◌⊎◌, ◌↔◌, ◌≢◌, length, get_or, take}
use Rattle.model.specs.declared.calls.Call.{Call}
use Rattle.model.specs.declared.calls.Call.TheVariants.{Unreadable}
use Rattle.protocol.specs.Specification.{in_digits, Says, line_feed, Feedless, Book, next, blank, answer_line, Output}
use Rattle.protocol.specs.Run.{run}
use Rattle.trace.specs.Outcomes.{outcome, printed}

-- ---- how a file is read

-- a frame without its line feed, and the answer line after it, with its line feed if it has one
pub record Pair : Type 0 where
  pub frame : List ℕ
  pub answer : List ℕ

-- the pairs of a file, and whether "a frame line is the last line"
pub data Reads : List ℕ → List Pair → Bool → Type 0 where
  ended : Reads [] [] false
  pair : (frame answer rest : List ℕ) (ps : List Pair) (last : Bool) → Feedless frame → Feedless answer → Reads rest ps last
      → Reads (frame ++ (line_feed ∷ (answer ++ (line_feed ∷ rest)))) (record { frame = frame; answer = answer ++ (line_feed ∷ []) } ∷ ps) last
  -- the last line is an answer without its line feed
  unended : (frame answer : List ℕ) → Feedless frame → Feedless answer → answer ≢ [] → Reads (frame ++ (line_feed ∷ answer)) (record { frame = frame; answer = answer } ∷ []) false
  -- the last line is a frame, with its line feed or without
  frame_last : (frame : List ℕ) → Feedless frame → Reads (frame ++ (line_feed ∷ [])) [] true
  frame_unended : (frame : List ℕ) → Feedless frame → frame ≢ [] → Reads frame [] true

-- what the frames say
pub data Say : List Pair → List Call → Type 0 where
  none : Say [] []
  more : (p : Pair) (c : Call) (ps : List Pair) (cs : List Call) → Says p.frame c → Say ps cs → Say (p ∷ ps) (c ∷ cs)

-- ---- when a pair agrees

-- the book after these calls
unfoldable pub book_after : Book → List Call → Book
book_after b [] = b
book_after b (c ∷ cs) = book_after (next b c) cs

-- the answer of pair i, counted from 0
abbrev pub answer_of : List Pair → ℕ → List ℕ
answer_of ps i = (get_or ps i (record { frame = []; answer = [] })).answer

-- that is the answer line that its call gets after the calls before it
abbrev pub Agrees : List Pair → List Call → ℕ → Type 0
Agrees ps cs i = answer_of ps i ≡ answer_line (book_after blank (take i cs)) (get_or cs i Unreadable)

-- so do all pairs before pair n, counted from 0 too
abbrev pub AgreeBefore : List Pair → List Call → ℕ → Type 0
AgreeBefore ps cs n = (i : ℕ) → i < n → Agrees ps cs i

-- ---- what is printed

-- "sixteen hexadecimal digits and a line feed"
abbrev pub number_line : ℕ → List ℕ
number_line n = in_digits 16 n ++ (0x0a ∷ [])

-- "the two digits 10 and a line feed alone"
abbrev pub sixteen_line : List ℕ
sixteen_line = 0x31 ∷ 0x30 ∷ 0x0a ∷ []

-- "when the file has more than 1048576 bytes"
abbrev pub Long : List ℕ → Type 0
Long file = 1048576 < length file

abbrev pub Short : List ℕ → Type 0
Short file = length file ≤ 1048576

pub record Replays (file : List ℕ) : Type 0 where
  -- every file is read in some way
  pub read : (ps : List Pair) × (last : Bool) × (cs : List Call) × Reads file ps last × Say ps cs
  -- "the number of the first pair whose answers differ", "pairs count from one", "Every pair before the printed one agrees": pair i has the number i + 1
  pub differs : (ps : List Pair) (last : Bool) (cs : List Call) → Reads file ps last → Say ps cs → (i : ℕ) → i < length ps
      → (printed (outcome file) ≡ number_line (suc i)) ↔ (Short file × AgreeBefore ps cs i × (Agrees ps cs i → ⊥))
  -- "an answer line without its line feed differs"
  pub unended : (ps : List Pair) (cs : List Call) (i : ℕ) → Feedless (answer_of ps i) → Agrees ps cs i → ⊥
  -- "the digits all zeros if none does"
  pub zeros : (ps : List Pair) (last : Bool) (cs : List Call) → Reads file ps last → Say ps cs
      → (printed (outcome file) ≡ number_line 0) ↔ (Short file × AgreeBefore ps cs (length ps) × (last ≡ false))
  -- "16 when a frame line is the last line and no earlier pair differs, or, before any pair is run, when the file has more than 1048576 bytes"
  pub sixteen : (ps : List Pair) (last : Bool) (cs : List Call) → Reads file ps last → Say ps cs
      → (printed (outcome file) ≡ sixteen_line) ↔ (Long file ⊎ ((last ≡ true) × AgreeBefore ps cs (length ps)))
  -- nothing else is printed
  pub only : (ps : List Pair) (last : Bool) (cs : List Call) → Reads file ps last → Say ps cs
      → ((i : ℕ) × (i < length ps) × (printed (outcome file) ≡ number_line (suc i))) ⊎ ((printed (outcome file) ≡ number_line 0) ⊎ (printed (outcome file) ≡ sixteen_line))

-- ---- a recorded run

-- an input of whole lines
pub data WholeLines : List ℕ → Type 0 where
  none : WholeLines []
  line : (bytes rest : List ℕ) → Feedless bytes → WholeLines rest → WholeLines (bytes ++ (line_feed ∷ rest))

-- the file that pairs the lines of an input with the lines of an output
pub data Recording : List ℕ → List ℕ → List ℕ → Type 0 where
  none : Recording [] [] []
  pair : (frame answer input output file : List ℕ) → Feedless frame → Feedless answer → Recording input output file
      → Recording (frame ++ (line_feed ∷ input)) (answer ++ (line_feed ∷ output)) (frame ++ (line_feed ∷ (answer ++ (line_feed ∷ file))))

-- every run on whole lines can be recorded, and what is printed of a recorded run is always zeros, by whatever output the specification allows for its input
pub record RecordedRun (input : List ℕ) : Type 0 where
  pub there : WholeLines input → (file : List ℕ) × Recording input (run input) file
  pub zeros : (output file : List ℕ) → Output input output → Recording input output file → Short file → printed (outcome file) ≡ number_line 0
