-- What the loop of `feed` keeps: the machine's run of the whole piece is what is written so far, and its run of what is left.
-- Assumes nothing.
use Prim.Native.Nat.{ℕ, ◌+◌, ◌-◌, ◌≤◌, ◌<◌}
use mathlib.Core.Path.{◌≡◌, refl, sym, ap, ◌∙◌}
use mathlib.Core.List.{List, [], ◌++◌, append-nil}
use mathlib.Core.Logic.{◌⊎◌, inl, inr, ⊎_elim}
use native.Mathlib.Omega.{arith}
use lib.ListN.{length, take, drop, length-drop}
use Rattle.std.specs.Prelude.{Option, Some, None}
use Rattle.model.specs.declared.Engine.{Engine}
use Rattle.model.specs.declared.calls.Call.{Call}
use Rattle.model.specs.Calls.{after}
use Rattle.protocol.specs.Widths.{longest}
use Rattle.protocol.specs.Lines.{call_of}
use Rattle.protocol.specs.Run.{Fed, wrote, fed, feed_at, reply}
use Rattle.protocol.proofs.Laws.{waiting, one_line, no_room, no_more, feed_at_le, fed_shorter, wrote_none, wrote_wrote}
use Rattle.decoding.specs.declared.lines.NextLine.{NextLine}
use Rattle.digits.specs.Tables.{high_table, low_table}
use Rattle.decoding.specs.Frames.{next_by, LineAt}
use Rattle.decoding.proofs.Meaning.{Bytes, next_right}
use Rattle.encoding.specs.Written.{Wrote}
use Rattle.encoding.proofs.Writing.{wrote_nothing, wrote_length, wrote_both}
use Rattle.frames.specs.Stream.{Feeds}

-- by the tables of the digits the next line is what it says
pub line_read : (s : List ℕ) (at : ℕ) {high low : List ℕ} {r line : Option NextLine} → high ≡ high_table → low ≡ low_table → Bytes s → r ≡ next_by high low s at → r ≡ line → LineAt s at line
line_read s at h l b e f = rw (← f, e, h, l) (next_right s at b)

-- the bytes are the answers so far
pub record Feeding (input out₀ : List ℕ) (e₀ : Engine) (out : List ℕ) (e : Engine) (at written : ℕ) : Type 0 where
  pub bytes : List ℕ
  pub within : at ≤ length input
  pub put : Wrote out₀ out 0 written bytes
  pub same : fed (length out₀) e₀ input ≡ wrote bytes (fed (length out₀ - written) e (drop at input))

pub feeding_start : (input out : List ℕ) (e : Engine) → Feeding input out e out e 0 0
feeding_start input out e =
    let z : length out - 0 ≡ length out = omega arith in
    record {
      bytes = [];
      within = omega arith;
      put = wrote_nothing out 0 (omega arith);
      same = rw z (sym (wrote_none (fed (length out) e input)));
    }

module _ (input out₀ : List ℕ) (e₀ : Engine) (out : List ℕ) (e : Engine) (at written : ℕ) (g : Feeding input out₀ e₀ out e at written) where
  pub out_long : length out ≡ length out₀
  out_long = wrote_length g.put

  pub written_fits : written ≤ length out
  written_fits = omega (arith, out_long, g.put.room, g.put.place)

  -- one line more is answered
  pub feeding_step : (r : NextLine) (out' : List ℕ) (e' : Engine) (written' : ℕ) → LineAt input at (Some r) → longest ≤ length out - written
      → e' ≡ after e r.call → Wrote out out' written written' (reply e r.call) → Feeding input out₀ e₀ out' e' (r.end + 1) written'
  feeding_step r out' e' written' n room p w =
      let l : r.end < length input = n.inside in
      let c : Call = call_of (take (feed_at (drop at input)) (drop at input)) in
      let q : r.call ≡ c = n.call in
      let here : at + feed_at (drop at input) < length input = omega (arith, n.place) in
      let left : length out₀ - written - length (reply e r.call) ≡ length out₀ - written' = omega (arith, w.place) in
      let line : fed (length out₀ - written) e (drop at input) ≡ wrote (reply e c) (fed (length out₀ - written - length (reply e c)) (after e c) (drop (at + feed_at (drop at input) + 1) input)) = one_line (length out₀ - written) e input at here (omega (arith, out_long)) in
      record {
        bytes = g.bytes ++ reply e r.call;
        within = omega arith;
        put = wrote_both g.put w;
        same = g.same ∙ ap (wrote g.bytes) (line ∙ rw (← q, ← n.place, ← p, left)) ∙ wrote_wrote g.bytes (reply e r.call) _;
      }

  -- where it stops: too little room for an answer, or no line feed is left
  feeding_stops : (length out - written < longest) ⊎ (feed_at (drop at input) ≡ length (drop at input)) → fed (length out₀) e₀ input ≡ record { written = g.bytes; engine = e; left = drop at input }
  unfolding wrote
  feeding_stops stop = g.same ∙ ap (wrote g.bytes) waits ∙ rw append-nil
    where
      waits : fed (length out₀ - written) e (drop at input) ≡ waiting e (drop at input)
      waits = ⊎_elim (λ h. no_room (length out₀ - written) e (drop at input) (omega (arith, out_long))) (λ h. no_more (length out₀ - written) e (drop at input) h) stop

  feeding_feeds : (length out - written < longest) ⊎ (feed_at (drop at input) ≡ length (drop at input)) → Feeds input out₀ out e (fed (length out₀) e₀ input) (record { consumed = at; written = written })
  feeding_feeds stop =
      let q = feeding_stops stop in
      let none : 0 + length g.bytes ≡ length g.bytes = omega arith in
      let w : at ≤ length input = g.within in
      let rest : length (fed (length out₀) e₀ input).left ≡ length input - at = ap (λ (x : Fed). length x.left) q ∙ length-drop at input in
      record {
        consumed = omega arith;
        written = rw q (g.put.place ∙ none);
        output = rw q (g.put.holds ∙ ap (λ (n : ℕ). g.bytes ++ drop n out₀) none);
        engine = rw q refl;
        progress = λ room l. omega (arith, fed_shorter (length out₀) e₀ input room l);
      }

  -- the input's end is reached
  pub ends_whole : length input ≤ at → Feeds input out₀ out e (fed (length out₀) e₀ input) (record { consumed = at; written = written })
  ends_whole l =
      let none : length (drop at input) ≡ 0 = length-drop at input ∙ omega arith in
      feeding_feeds (inr (omega (arith, feed_at_le (drop at input))))

  -- there is too little room
  pub ends_full : length out - written < longest → Feeds input out₀ out e (fed (length out₀) e₀ input) (record { consumed = at; written = written })
  ends_full l = feeding_feeds (inl l)

  -- the rest is a line that has no line feed
  pub ends_open : LineAt input at None → Feeds input out₀ out e (fed (length out₀) e₀ input) (record { consumed = at; written = written })
  ends_open n = feeding_feeds (inr n)
