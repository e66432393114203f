-- The pairs of a recorded run, one after another: what the loop keeps from pair to pair, and what it ends with.
-- Assumes nothing.
use Prim.Native.Nat.{ℕ, suc, ◌+◌, ◌≤◌, ◌<◌}
use mathlib.Core.Path.{◌≡◌, refl, sym, ◌∙◌}
use mathlib.Core.Bool.{true, false, cond, and-false}
use mathlib.Core.List.{List, [], ◌∷◌}
use native.Mathlib.Omega.{arith}
use lib.Dec.{eqb}
use lib.ListN.{length, take, drop, length-append, length-drop, drop_of_length-le}
use lib.Pointwise.{pointwise}
use lib.Seq.{drop-drop, take_at}
use borrow.Author.Tests.{le-ltb, lt-ltb}
use Rattle.model.specs.declared.Engine.{Engine}
use Rattle.model.specs.State.{fresh}
use Rattle.model.specs.Calls.{after}
use Rattle.protocol.specs.Widths.{longest}
use Rattle.protocol.specs.Lines.{call_of}
use Rattle.protocol.specs.Run.{reply, Fed, fed}
use Rattle.protocol.proofs.Laws.{no_feed_before}
use Rattle.frames.specs.declared.lent.Fed.{Fed as Given}
use Rattle.frames.specs.Stream.{Feeds}
use Rattle.frames.proofs.Framed.{fed_frame}
use Rattle.trace.specs.declared.replaying.Outcome.TheVariants.{AllAgree, Differs, FrameLast, TooLong}
use Rattle.trace.specs.Lines.{ended, lines_of, line_at, LinesRead}
use Rattle.trace.specs.Outcomes.{limit, same, frame_in, agrees, outcome_from, outcome}
use Rattle.trace.proofs.Finding.{past_end}
use Rattle.trace.proofs.Lines.{no_lines, body, first_ended, first_within, first_short, lines_first, frame_in_is}

-- ---- the loop

-- what is left of the text from a place on, on the engine as the pairs before left it, has the outcome of the whole
pub record Going (text : List ℕ) (at pair : ℕ) (e : Engine) : Type 0 where
  pub within : at ≤ length text
  pub counted : pair ≤ at + 1
  pub rest : outcome_from 1 fresh (lines_of text) ≡ outcome_from pair e (lines_of (drop at text))

-- a line is a part of the text
pub line_within : (text : List ℕ) (at : ℕ) (line : List ℕ) → line ≡ line_at text at → at ≤ length text → at + length line ≤ length text
unfolding line_at
line_within text at line q l = rw q (omega (arith, first_within (drop at text), length-drop at text))

module _ (text : List ℕ) (at : ℕ) (line : List ℕ) (is_line : line ≡ line_at text at) (l : at < length text) where
  pub some_bytes : 0 < length line
  unfolding line_at
  some_bytes = rw is_line (lines_first (drop at text) (omega (arith, length-drop at text))).1

  lines_here : lines_of (drop at text) ≡ line ∷ lines_of (drop (at + length line) text)
  unfolding line_at
  lines_here = (lines_first (drop at text) (omega (arith, length-drop at text))).0 ∙ rw (← is_line, drop-drop (length line) at text)

pub lines_read : (text : List ℕ) → LinesRead text
lines_read text = record { line = λ at l. lines_here text at (line_at text at) refl l; none = λ at l. past_end text at l }

-- all pairs agree where nothing is left
pub going_end : {text : List ℕ} {at pair : ℕ} {e : Engine} → Going text at pair e → length text ≤ at → length text ≤ limit → AllAgree ≡ outcome text
unfolding outcome outcome_from
going_end {text} {at} {pair} {e} g l m = rw (le-ltb limit (length text) m) (sym (g.rest ∙ rw (drop_of_length-le text l, no_lines)))

module _ (text : List ℕ) (at pair : ℕ) (e : Engine) (g : Going text at pair e) (small : length text ≤ limit) (l : at < length text) (frame : List ℕ) (is_frame : frame ≡ line_at text at) where
  -- a frame that nothing follows
  pub going_last : length text ≤ at + length frame → FrameLast ≡ outcome text
  unfolding outcome outcome_from
  going_last m = rw (le-ltb limit (length text) small) (sym (g.rest ∙ rw (lines_here text at frame is_frame l, drop_of_length-le text m, no_lines)))

  module _ (m : at + length frame < length text) (given : List ℕ) (is_given : given ≡ line_at text (at + length frame)) where
    pair_here : outcome_from pair e (lines_of (drop at text))
        ≡ cond (agrees e frame given) (outcome_from (suc pair) (after e (call_of (frame_in frame))) (lines_of (drop (at + length frame + length given) text))) (Differs pair)
    unfolding outcome_from
    pair_here = rw (lines_here text at frame is_frame l, lines_here text (at + length frame) given is_given m)

    -- the frame has its line feed
    abbrev line : List ℕ
    line = body (drop at text)

    frame_ended : frame ≡ ended line
    unfolding line_at
    frame_ended =
        let n = length-drop at text in
        is_frame ∙ first_ended (drop at text) (first_short (drop at text) (rw (← is_frame) (omega arith)))

    -- so it is answered
    module _ (old new : List ℕ) (e' : Engine) (r : Given) (f : Feeds frame old new e' (fed (length old) e frame) r) (room : longest ≤ length old) where
      fed_here : fed (length old) e frame ≡ record { written = reply e (call_of (frame_in frame)); engine = after e (call_of (frame_in frame)); left = [] }
      fed_here = rw (frame_ended, frame_in_is line) (fed_frame (length old) e line (no_feed_before (drop at text)) room)

      answer_here : take r.written new ≡ reply e (call_of (frame_in frame))
      answer_here = rw (f.output, f.written, fed_here) (take_at (reply e (call_of (frame_in frame))) _ _ refl)

      engine_here : e' ≡ after e (call_of (frame_in frame))
      engine_here = f.engine ∙ rw fed_here

      pub going_step : {next number : ℕ} → next ≡ at + length frame + length given → number ≡ suc pair → same (take r.written new) given ≡ true → Going text next number e'
      unfolding agrees
      going_step p q t = record {
        within = rw p (line_within text (at + length frame) given is_given (omega arith));
        counted = omega (arith, g.counted, some_bytes text at frame is_frame l);
        rest = g.rest ∙ pair_here ∙ rw (← answer_here, t, ← engine_here, p, q);
      }

      pub going_differs : same (take r.written new) given ≡ false → Differs pair ≡ outcome text
      unfolding agrees outcome
      going_differs t = rw (le-ltb limit (length text) small) (sym (g.rest ∙ pair_here ∙ rw (← answer_here, t)))

-- what was written is a part of the buffer
pub written_within : {input old new : List ℕ} {e : Engine} {x : Fed} {r : Given} → Feeds input old new e x r → r.written ≤ length new
written_within {old = old} {x = x} f = rw (f.written, f.output, length-append x.written (drop (length x.written) old)) (omega arith)

-- too long
pub too_long : (text : List ℕ) → limit < length text → TooLong ≡ outcome text
unfolding outcome
too_long text l = rw (lt-ltb limit (length text) l)

-- ---- the same bytes

-- the library's `==` of bytes is the definition's
pub same_bytes : (a b : List ℕ) → pointwise eqb a b ≡ same a b
unfolding same
same_bytes [] [] = refl
same_bytes [] (y ∷ ys) = refl
same_bytes (x ∷ xs) [] = refl
same_bytes (x ∷ xs) (y ∷ ys) = rw (same_bytes xs ys)

-- texts of different lengths are not the same
pub other_length : (a b : List ℕ) → (length a ≡ length b → ⊥) → false ≡ same a b
unfolding same
other_length [] [] ne = absurd (ne refl)
other_length [] (y ∷ ys) ne = refl
other_length (x ∷ xs) [] ne = refl
other_length (x ∷ xs) (y ∷ ys) ne = rw (← other_length xs ys (λ e. ne (omega (arith, e)))) (sym (and-false (eqb x y)))
