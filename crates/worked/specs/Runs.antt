-- Runs in literal texts: a table of frames, each with its answer.
-- Assumes nothing.
use Prim.Native.String.{String}
use Rattle.std.specs.Prelude.{ℕ, Bool, true, false, List, [], ◌∷◌, ◌++◌, codes}

pub record Pair : Type 0 where
  pub frame : List ℕ
  pub answer : List ℕ
  pub starred : Bool

-- a line of a table: the bytes of these texts
abbrev pub line : String → String → Pair
line frame answer = record { frame = codes frame; answer = codes answer; starred = false }

abbrev pub star : String → String → Pair
star frame answer = record { frame = codes frame; answer = codes answer; starred = true }

-- the frames as the program's input, each with its line feed, and the answers as its output
unfoldable pub input_of : List Pair → List ℕ
input_of [] = []
input_of (p ∷ ps) = p.frame ++ (0x0a ∷ input_of ps)

unfoldable pub output_of : List Pair → List ℕ
output_of [] = []
output_of (p ∷ ps) = p.answer ++ (0x0a ∷ output_of ps)
