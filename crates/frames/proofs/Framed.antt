-- One frame by the machine that takes pieces of input: a line with its line feed is a piece of one line.
-- Assumes nothing.
use Prim.Native.Nat.{ℕ, ◌≤◌, ◌<◌}
use mathlib.Core.Path.{◌≡◌, ap, ◌∙◌}
use mathlib.Core.Bool.{true, false}
use mathlib.Core.List.{List, [], ◌∷◌, ◌++◌, append-nil}
use native.Mathlib.Decide.{dec_lt}
use native.Mathlib.Omega.{arith}
use lib.Dec.{leb}
use lib.ListN.{length}
use borrow.Author.Tests.{le-leb, lt-leb}
use Rattle.model.specs.declared.Engine.{Engine}
use Rattle.model.specs.Calls.{after}
use Rattle.protocol.specs.Widths.{longest}
use Rattle.protocol.specs.Lines.{line_feed, call_of}
use Rattle.protocol.specs.Run.{reply, wrote, fed_from, fed}
use Rattle.protocol.proofs.Laws.{NoFeed, no_room, fed_line}
use Rattle.decoding.specs.Frames.{framing}
use Rattle.decoding.proofs.Framing.{framing_same}
use Rattle.frames.specs.declared.lent.Fed.{Fed as Given}
use Rattle.frames.specs.Stream.{Answers, Feeds}

pub fed_frame : (room : ℕ) (e : Engine) (line : List ℕ) → NoFeed line → longest ≤ room
    → fed room e (line ++ (line_feed ∷ [])) ≡ record { written = reply e (call_of line); engine = after e (call_of line); left = [] }
unfolding fed fed_from wrote
fed_frame room e line n r = fed_line room e [] line [] n r ∙ rw append-nil

module _ (e e' : Engine) (line items piece old new : List ℕ) (r : Given) (whole : items ≡ framing line ++ (line_feed ∷ [])) (part : piece ≡ items) (f : Feeds piece old new e' (fed (length old) e piece) r) where
  p : piece ≡ framing line ++ (line_feed ∷ [])
  p = part ∙ whole

  none_framed : length old < longest → Answers line e e' old new r.written
  none_framed l =
      let w = no_room (length old) e piece l in
      let t : leb longest (length old) ≡ false = lt-leb longest (length old) l in
      record { written = rw t (rw w at f.written); output = rw t (rw w at f.output); engine = rw t (rw w at f.engine) }

  one_framed : longest ≤ length old → Answers line e e' old new r.written
  one_framed l =
      let s = framing_same line in
      let w = ap (fed (length old) e) p ∙ fed_frame (length old) e (framing line) s.1 l in
      let t : leb longest (length old) ≡ true = le-leb longest (length old) l in
      record {
        written = rw (t, ← s.0) (rw w at f.written);
        output = rw (t, ← s.0) (rw w at f.output);
        engine = rw (t, ← s.0) (rw w at f.engine);
      }

  pub framed : Answers line e e' old new r.written
  framed = go (dec_lt (length old) longest)
    where
      go : Dec (length old < longest) → Answers line e e' old new r.written
      go (yes l) = none_framed l
      go (no l) = one_framed (omega arith)
