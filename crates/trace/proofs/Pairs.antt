-- How a recorded file is read: every file has pairs, and whatever pairs it is read as, the definition's lines are the lines of these.
-- Assumes nothing.
use Prim.Native.Nat.{ℕ, ◌≤◌}
use mathlib.Core.Path.{◌≡◌, refl}
use mathlib.Core.Bool.{Bool, true, false}
use mathlib.Core.List.{List, [], ◌∷◌, ◌++◌}
use mathlib.Core.Logic.{◌≢◌}
use native.Mathlib.Omega.{arith}
use lib.ListN.{length, length-append}
use Rattle.model.specs.declared.calls.Call.{Call}
use Rattle.protocol.specs.Lines.{call_of}
use Rattle.protocol.specs.Specification.{Feedless, Input}
use Rattle.protocol.specs.Specification.{ended as input_ended, line as input_line, unended as input_unended}
use Rattle.protocol.proofs.Saying.{says}
use Rattle.protocol.proofs.Exact.{no_feed, input_some}
use Rattle.trace.specs.Lines.{lines_of}
use Rattle.trace.specs.Recorded.{Pair, Reads, Say}
use Rattle.trace.specs.Recorded.Reads.{ended as reads_ended, pair as reads_pair, unended as reads_unended, frame_last as reads_frame_last, frame_unended as reads_frame_unended}
use Rattle.trace.specs.Recorded.Say.{none as say_none, more as say_more}
use Rattle.trace.proofs.Lines.{line_more, line_last, no_lines}

-- ---- lines, by the specification's word for a line without a line feed

pub lines_line : (line rest : List ℕ) → Feedless line → lines_of (line ++ (10 ∷ rest)) ≡ (line ++ (10 ∷ [])) ∷ lines_of rest
lines_line line rest h = line_more line rest (no_feed h)

lines_rest : (rest : List ℕ) → Feedless rest → rest ≢ [] → lines_of rest ≡ rest ∷ []
lines_rest [] h n = absurd (n refl)
lines_rest (b ∷ bs) h n = line_last (b ∷ bs) (no_feed h) (omega arith)

-- ---- the lines of pairs, with one frame line more where a frame is last

pub data Lined : List (List ℕ) → List Pair → Bool → Type 0 where
  lined_none : Lined [] [] false
  lined_last : (frame : List ℕ) → Lined (frame ∷ []) [] true
  lined_more : (p : Pair) (lines : List (List ℕ)) (ps : List Pair) (last : Bool) → Lined lines ps last → Lined ((p.frame ++ (10 ∷ [])) ∷ p.answer ∷ lines) (p ∷ ps) last

-- the lines of a file are those of its pairs
pub reads_lined : {file : List ℕ} {ps : List Pair} {last : Bool} → Reads file ps last → Lined (lines_of file) ps last
reads_lined reads_ended = rw no_lines lined_none
reads_lined (reads_pair frame answer rest ps last f g r) =
    rw (lines_line frame (answer ++ (10 ∷ rest)) f, lines_line answer rest g) (lined_more (record { frame = frame; answer = answer ++ (10 ∷ []) }) _ ps last (reads_lined r))
reads_lined (reads_unended frame answer f g n) = rw (lines_line frame answer f, lines_rest answer g n) (lined_more (record { frame = frame; answer = answer }) _ _ _ lined_none)
reads_lined (reads_frame_last frame f) = rw (lines_line frame [] f, no_lines) (lined_last (frame ++ (10 ∷ [])))
reads_lined (reads_frame_unended frame f n) = rw (lines_rest frame f n) (lined_last frame)

-- there are no more pairs than bytes
pub reads_short : {file : List ℕ} {ps : List Pair} {last : Bool} → Reads file ps last → length ps ≤ length file
reads_short reads_ended = omega arith
reads_short (reads_pair frame answer rest ps last f g r) = simp length-append (omega (arith, reads_short r))
reads_short (reads_unended frame answer f g n) = simp length-append (omega arith)
reads_short (reads_frame_last frame f) = omega arith
reads_short (reads_frame_unended frame f n) = omega arith

-- ---- every file is read, and its frames say something

pub reads_some : {file : List ℕ} {cs : List Call} → Input file cs → (ps : List Pair) × (last : Bool) × Reads file ps last
reads_some input_ended = ([], false, reads_ended)
reads_some (input_unended frame f n) = ([], true, reads_frame_unended frame f n)
reads_some (input_line frame c rest cs f s input_ended) = ([], true, reads_frame_last frame f)
reads_some (input_line frame c rest cs f s (input_unended answer g n)) = (_, _, reads_unended frame answer f g n)
reads_some (input_line frame c rest cs f s (input_line answer d left ds g t i)) =
    let r = reads_some i in
    (_, _, reads_pair frame answer left r.0 r.1 f g r.2)

pub say_some : (ps : List Pair) → (cs : List Call) × Say ps cs
say_some [] = ([], say_none)
say_some (p ∷ ps) =
    let r = say_some ps in
    (call_of p.frame ∷ r.0, say_more p (call_of p.frame) ps r.0 (says p.frame) r.1)

pub read_some : (file : List ℕ) → (ps : List Pair) × (last : Bool) × (cs : List Call) × Reads file ps last × Say ps cs
read_some file =
    let r = reads_some (input_some file).1 in
    let s = say_some r.0 in
    (r.0, r.1, s.0, r.2, s.1)
