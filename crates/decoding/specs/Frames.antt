-- The frame that an input begins with, and the next line of an input, by any two tables; and what a caller gets who lends the tables of the digits.
-- Assumes nothing.
use Rattle.std.specs.Prelude.{ℕ, ◌+◌, ◌*◌, ◌/◌, ◌<◌, ◌≡◌, Bool, true, false, cond, ◌&&◌, Option, Some, None, List, [], leb, ltb, length, take, drop}
use Rattle.model.specs.declared.calls.Call.{Call}
use Rattle.model.specs.declared.calls.Call.TheVariants.{Table, Session, Read, Unreadable}
use Rattle.protocol.specs.Widths.{kept}
use Rattle.protocol.specs.Lines.{rest_digits, called_by, call_of}
use Rattle.protocol.specs.Run.{feed_at}
use Rattle.decoding.specs.declared.read.Frame.{Frame}
use Rattle.decoding.specs.declared.lines.NextLine.{NextLine}
use Rattle.decoding.specs.Fields.{pair_at, pairs_number, ended_by, set_pairs}

unfoldable pub is_frame : Call → Bool
is_frame (Table c) = true
is_frame (Session p s a) = true
is_frame (Read p u s f d) = true
is_frame Unreadable = false

-- a frame of this call and so many digits, or none
unfoldable pub frame_if : Bool → Call → ℕ → Option Frame
frame_if right call digits = cond right (Some (record { call = call; digits = digits })) None

-- the call of the kind that the first pair is, with the pairs of the rest as its fields
unfoldable pub call_by : List ℕ → List ℕ → List ℕ → Call
call_by high low s = called_by (pair_at high low s 0) (λ i. pair_at high low (drop 2 s) (2 * i)) (pairs_number high low (drop 4 (drop 2 s)) set_pairs)

-- the frame that an input begins with: its kind is known, and behind the rest of it stands a line feed
unfoldable pub frame_by : List ℕ → List ℕ → List ℕ → Option Frame
frame_by high low s =
    let n : ℕ = rest_digits (pair_at high low s 0) in
    frame_if (leb 2 (length s) && (is_frame (call_by high low s) && ended_by high low (drop 2 s) (n / 2))) (call_by high low s) (2 + n)

-- the line from `at` on: the frame there, or, where there is none, what stands before the next line feed; none where there is no line feed
unfoldable pub line_by : List ℕ → ℕ → Option Frame → Option NextLine
line_by s at (Some f) = Some (record { call = f.call; end = at + f.digits })
line_by s at None = let end : ℕ = at + feed_at (drop at s) in cond (ltb end (length s)) (Some (record { call = Unreadable; end = end })) None

unfoldable pub next_by : List ℕ → List ℕ → List ℕ → ℕ → Option NextLine
next_by high low s at = line_by s at (frame_by high low (drop at s))

-- by the tables of the digits that is the line up to the next line feed, and its call; none where no line feed follows
pub record IsLine (s : List ℕ) (at : ℕ) (r : NextLine) : Type 0 where
  pub place : r.end ≡ at + feed_at (drop at s)
  pub inside : r.end < length s
  pub call : r.call ≡ call_of (take (feed_at (drop at s)) (drop at s))

abbrev pub LineAt : List ℕ → ℕ → Option NextLine → Type 0
LineAt s at (Some r) = IsLine s at r
LineAt s at None = feed_at (drop at s) ≡ length (drop at s)

-- a line as it is taken for a frame: the line, or the empty one where it is longer than every frame or has a line feed in it. Neither is a frame then
unfoldable pub framing : List ℕ → List ℕ
framing line = cond (leb kept (length line)) [] (cond (ltb (feed_at line) (length line)) [] line)
