-- K1, two products on one directory, for whole answer lines and for bytes; model/specs/Products has the words, and the same for the numbers that calls return.
-- Assumes nothing.
use Rattle.std.specs.Prelude.{ℕ, ◌<◌, ◌≡◌, cond, List, [], ◌∷◌, map, ◌≢◌, length, get_or}
use Rattle.tables.specs.Tables.{database_count}
use Rattle.model.specs.declared.calls.Change.TheVariants.{Forward}
use Rattle.model.specs.declared.calls.Product.{Product}
use Rattle.model.specs.declared.calls.Call.{Call}
use Rattle.model.specs.declared.calls.Call.TheVariants.{Table}
use Rattle.model.specs.Demands.{call_at}
use Rattle.model.specs.Products.{is_of, struck, swap, Adds, ForwardsFirst}
use Rattle.protocol.specs.Specification.{Input, Book, next, blank, answer_line, answers, two}
use Rattle.protocol.specs.Lines.{call_of}
use Rattle.protocol.specs.Run.{split, calls_of, run}

-- ---- lists of calls

-- the answer lines to the calls that are left when a product's are struck out, one after the other, each given where the whole list has led to
unfoldable pub answers_left : Product → Book → List Call → List (List ℕ)
answers_left other b [] = []
answers_left other b (c ∷ cs) = cond (is_of other c) (answers_left other (next b c) cs) (answer_line b c ∷ answers_left other (next b c) cs)

pub record ProductAnswers : Type 0 where
  -- "Kinds 0b to 0f do for the term bank what 06 to 0a do for the server, field by field."
  pub alike : (cs : List Call) → answers blank (map swap cs) ≡ answers blank cs
  -- "Take two lists that become equal when the other product's frames are struck out, in both of which every forwarding frame precedes every added flow:
  -- one product's answers are the same whatever the other's frames are, and so are the answers to table frames."
  pub apart : (other : Product) (cs ds : List Call) → struck other cs ≡ struck other ds → ForwardsFirst cs → ForwardsFirst ds
      → answers_left other blank cs ≡ answers_left other blank ds

-- ---- bytes

-- the lines that are left when the product's frames are struck out; a line that is no frame is no product's
unfoldable pub lines_left : Product → List (List ℕ) → List (List ℕ)
lines_left other [] = []
lines_left other (line ∷ lines) = cond (is_of other (call_of line)) (lines_left other lines) (line ∷ lines_left other lines)

-- the lines of an output that answer those of an input that are left, and the one that answers what stands after the last line feed
unfoldable pub to_lines_left : Product → (input output : List (List ℕ)) → List (List ℕ)
to_lines_left other [] answered = answered
to_lines_left other (line ∷ lines) [] = []
to_lines_left other (line ∷ lines) (answer ∷ answered) = cond (is_of other (call_of line)) (to_lines_left other lines answered) (answer ∷ to_lines_left other lines answered)

pub record ProductBytes : Type 0 where
  -- the calls of an input are those that the specification says
  pub says : (input : List ℕ) → Input input (calls_of input)
  -- the output has a line for each
  pub answered : (a : List ℕ) → length (split (run a)).lines ≡ length (calls_of a)
  pub alike : (a b : List ℕ) → calls_of b ≡ map swap (calls_of a) → run b ≡ run a
  -- and there is such an input for each
  pub exchanged : (a : List ℕ) → (b : List ℕ) × (calls_of b ≡ map swap (calls_of a))
  pub apart : (other : Product) (a b : List ℕ) → lines_left other (split a).lines ≡ lines_left other (split b).lines → (split a).rest ≡ (split b).rest
      → ForwardsFirst (calls_of a) → ForwardsFirst (calls_of b)
      → to_lines_left other (split a).lines (split (run a)).lines ≡ to_lines_left other (split b).lines (split (run b)).lines
  -- line j of the output is 05
  pub closes : (a : List ℕ) (i j d e : ℕ) → i < j → Adds (calls_of a) i → call_at (calls_of a) j ≡ Table (Forward d e) → d < database_count → e < database_count
      → get_or (split (run a)).lines j [] ≡ two 5
  pub stays : (a : List ℕ) (j d e : ℕ) → ((i : ℕ) → i < j → Adds (calls_of a) i → ⊥) → call_at (calls_of a) j ≡ Table (Forward d e)
      → get_or (split (run a)).lines j [] ≢ two 5
