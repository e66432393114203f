-- K5 in its own words: what is printed of a file goes by the answer lines of the specification, and a recorded run gives zeros.
-- Assumes nothing.
use Prim.Native.Nat.{ℕ, zero, suc, ◌+◌, ◌%◌, ◌/◌, ◌≤◌, ◌<◌}
use mathlib.Core.Path.{◌≡◌, refl, sym, ap, ap₂, ◌∙◌, subst}
use mathlib.Core.Bool.{Bool, true, false, cond, true≢false}
use mathlib.Core.List.{List, [], ◌∷◌, ◌++◌, append_assoc}
use mathlib.Core.Logic.{◌⊎◌, inl, inr}
use native.Mathlib.Decide.{dec_lt}
use native.Mathlib.Omega.{arith}
use lib.Dec.{ltb}
use lib.ListN.{length, get_or}
use lib.Seq.{append_snoc}
use borrow.Author.Tests.{lt-ltb, le-ltb}
use Rattle.model.specs.declared.Constraint.{Constraint}
use Rattle.model.specs.declared.Engine.{Engine}
use Rattle.model.specs.declared.calls.Call.{Call}
use Rattle.model.specs.declared.calls.Answer.{Answer}
use Rattle.model.specs.declared.calls.Answer.TheVariants.{Version, Roles, Flow, Granted, Constraint as Answer-as-Constraint, Refused}
use Rattle.model.specs.State.{fresh}
use Rattle.model.specs.Calls.{returned, verdict_of, after, answer}
use Rattle.protocol.specs.Widths.{field_digits, version_digits, set_digits}
use Rattle.protocol.specs.Digits.{glyph, hex}
use Rattle.protocol.specs.Lines.{call_of, role_sets, values, line_of}
use Rattle.protocol.specs.Run.{split, last_call, calls_of, shown_in, reply, replies}
use Rattle.model.specs.Refusals.{refusal, accepts}
use Rattle.protocol.specs.Specification.{two, Feedless, Book, blank, told, answer_line}
use Rattle.protocol.specs.Specification.{none as feedless_none, byte as feedless_byte}
use Rattle.protocol.proofs.Laws.{more, run_more, more_line}
use Rattle.protocol.proofs.Exact.{agrees_fresh, no_feed, exact}
use Rattle.trace.specs.declared.replaying.Outcome.TheVariants.{AllAgree}
use Rattle.trace.specs.Lines.{lines_of}
use Rattle.trace.specs.Outcomes.{limit, agrees, outcome_from, outcome, printed}
use Rattle.trace.specs.Recorded.{Pair, Reads, Say, Agrees, AgreeBefore, number_line, sixteen_line, Long, Short, Replays, WholeLines, Recording, RecordedRun}
use Rattle.trace.specs.Recorded.WholeLines.{none as whole_none, line as whole_line}
use Rattle.trace.specs.Recorded.Recording.{none as recording_none, pair as recording_pair}
use Rattle.trace.proofs.Lines.{no_lines, frame_in_is}
use Rattle.trace.proofs.Pairs.{lines_line, reads_lined, reads_short, read_some}
use Rattle.trace.proofs.Ending.{same_self, ends, number_apart, number_sixteen, zeros_printed, Prints, prints_long, prints_number, prints_zeros, prints_frame, short_prints}

prints : (file : List ℕ) (ps : List Pair) (last : Bool) (cs : List Call) → Reads file ps last → Say ps cs → Prints file ps last cs (printed (outcome file))
unfolding outcome printed
prints file ps last cs r s = go (dec_lt 1048576 (length file))
  where
    go : Dec (1048576 < length file) → Prints file ps last cs (printed (outcome file))
    go (yes l) = rw (lt-ltb limit (length file) (omega arith)) (prints_long l refl)
    go (no l) =
        let k : length file ≤ 1048576 = omega arith in
        rw (le-ltb limit (length file) (omega arith)) (short_prints file ps last cs k (ends 1 fresh blank agrees_fresh (reads_lined r) s))

module _ (file : List ℕ) (ps : List Pair) (last : Bool) (cs : List Call) (few : length ps ≤ length file) where
  -- pair i is the printed one
  is_number : (line : List ℕ) → Prints file ps last cs line → (i : ℕ) → i < length ps → line ≡ number_line (suc i) → Short file × AgreeBefore ps cs i × (Agrees ps cs i → ⊥)
  is_number line (prints_long k q) i l e = absurd (number_sixteen (suc i) (sym e ∙ q))
  is_number line (prints_number j k m f g q) i l e =
      let s : suc j ≡ suc i = number_apart (suc j) (suc i) (omega arith) (omega arith) (sym q ∙ e) in
      let t : j ≡ i = omega arith in
      (k, rw t at f, rw t at g)
  is_number line (prints_zeros k f z q) i l e = let s : 0 ≡ suc i = number_apart 0 (suc i) (omega arith) (omega arith) (sym q ∙ e) in absurd (omega arith)
  is_number line (prints_frame k f z q) i l e = absurd (number_sixteen (suc i) (sym e ∙ q))

  number_is : (line : List ℕ) → Prints file ps last cs line → (i : ℕ) → i < length ps → Short file → AgreeBefore ps cs i → (Agrees ps cs i → ⊥) → line ≡ number_line (suc i)
  number_is line (prints_long m q) i l k f g = absurd (omega arith)
  number_is line (prints_number j m n u v q) i l k f g = go (dec_lt i j) (dec_lt j i)
    where
      go : Dec (i < j) → Dec (j < i) → line ≡ number_line (suc i)
      go (yes a) (yes b) = absurd (omega arith)
      go (yes a) (no b) = absurd (g (u i a))
      go (no a) (yes b) = absurd (v (f j b))
      go (no a) (no b) = q ∙ ap (λ (x : ℕ). number_line (suc x)) (let t : j ≡ i = omega arith in t)
  number_is line (prints_zeros m u z q) i l k f g = absurd (g (u i l))
  number_is line (prints_frame m u z q) i l k f g = absurd (g (u i l))

  -- the digits are all zeros
  is_zeros : (line : List ℕ) → Prints file ps last cs line → line ≡ number_line 0 → Short file × AgreeBefore ps cs (length ps) × (last ≡ false)
  is_zeros line (prints_long k q) e = absurd (number_sixteen 0 (sym e ∙ q))
  is_zeros line (prints_number j k m f g q) e = let s : suc j ≡ 0 = number_apart (suc j) 0 (omega arith) (omega arith) (sym q ∙ e) in absurd (omega arith)
  is_zeros line (prints_zeros k f z q) e = (k, f, z)
  is_zeros line (prints_frame k f z q) e = absurd (number_sixteen 0 (sym e ∙ q))

  zeros_is : (line : List ℕ) → Prints file ps last cs line → Short file → AgreeBefore ps cs (length ps) → last ≡ false → line ≡ number_line 0
  zeros_is line (prints_long m q) k f z = absurd (omega arith)
  zeros_is line (prints_number j m n u v q) k f z = absurd (v (f j n))
  zeros_is line (prints_zeros m u w q) k f z = q
  zeros_is line (prints_frame m u w q) k f z = absurd (true≢false (sym w ∙ z))

  -- the line is that of 16
  is_sixteen : (line : List ℕ) → Prints file ps last cs line → line ≡ sixteen_line → Long file ⊎ ((last ≡ true) × AgreeBefore ps cs (length ps))
  is_sixteen line (prints_long k q) e = inl k
  is_sixteen line (prints_number j k m f g q) e = absurd (number_sixteen (suc j) (sym q ∙ e))
  is_sixteen line (prints_zeros k f z q) e = absurd (number_sixteen 0 (sym q ∙ e))
  is_sixteen line (prints_frame k f z q) e = inr (z, f)

  sixteen_is : (line : List ℕ) → Prints file ps last cs line → Long file ⊎ ((last ≡ true) × AgreeBefore ps cs (length ps)) → line ≡ sixteen_line
  sixteen_is line (prints_long m q) w = q
  sixteen_is line (prints_number j m n u v q) (inl l) = absurd (omega arith)
  sixteen_is line (prints_number j m n u v q) (inr w) = absurd (v (w.1 j n))
  sixteen_is line (prints_zeros m u z q) (inl l) = absurd (omega arith)
  sixteen_is line (prints_zeros m u z q) (inr w) = absurd (true≢false (sym w.0 ∙ z))
  sixteen_is line (prints_frame m u z q) w = q

  one_of : (line : List ℕ) → Prints file ps last cs line → ((i : ℕ) × (i < length ps) × (line ≡ number_line (suc i))) ⊎ ((line ≡ number_line 0) ⊎ (line ≡ sixteen_line))
  one_of line (prints_long k q) = inr (inr q)
  one_of line (prints_number j k m f g q) = inl (j, m, q)
  one_of line (prints_zeros k f z q) = inr (inl q)
  one_of line (prints_frame k f z q) = inr (inr q)

-- an answer line has a line feed
feed_behind : (a : List ℕ) {z : List ℕ} → (Feedless z → ⊥) → Feedless (a ++ z) → ⊥
feed_behind [] n h = n h
feed_behind (b ∷ a) n (feedless_byte m h) = feed_behind a n h

feed_itself : Feedless (10 ∷ []) → ⊥
feed_itself (feedless_byte n h) = n refl

line_fed : (b : Book) (c : Call) {line : List ℕ} → Feedless line → line ≡ answer_line b c → ⊥
unfolding answer_line
line_fed b c h e = feed_behind (two (refusal b.ledger c)) (feed_behind (cond (accepts b.ledger c) (told b c) []) feed_itself) (subst Feedless e h)

-- for every file
pub replays : (file : List ℕ) → Replays file
replays file = record {
  read = read_some file;
  differs = λ ps last cs r s i l. (
    λ e. is_number file ps last cs (reads_short r) _ (prints file ps last cs r s) i l e,
    λ w. number_is file ps last cs (reads_short r) _ (prints file ps last cs r s) i l w.0 w.1 w.2,
  );
  unended = λ ps cs i h e. line_fed _ _ h e;
  zeros = λ ps last cs r s. (
    λ e. is_zeros file ps last cs (reads_short r) _ (prints file ps last cs r s) e,
    λ w. zeros_is file ps last cs (reads_short r) _ (prints file ps last cs r s) w.0 w.1 w.2,
  );
  sixteen = λ ps last cs r s. (
    λ e. is_sixteen file ps last cs (reads_short r) _ (prints file ps last cs r s) e,
    λ w. sixteen_is file ps last cs (reads_short r) _ (prints file ps last cs r s) w,
  );
  only = λ ps last cs r s. one_of file ps last cs (reads_short r) _ (prints file ps last cs r s);
}

-- ---- an answer line has one line feed, at its end

feedless_append : {a b : List ℕ} → Feedless a → Feedless b → Feedless (a ++ b)
feedless_append feedless_none k = k
feedless_append (feedless_byte n h) k = feedless_byte n (feedless_append h k)

glyph_feedless : (v : ℕ) → glyph v ≡ 10 → ⊥
unfolding glyph
glyph_feedless v = go (ltb v 10)
  where
    go : (t : Bool) → cond t (48 + v) (87 + v) ≡ 10 → ⊥
    go true e = omega arith
    go false e = omega arith

hex_feedless : (n v : ℕ) → Feedless (hex n v)
unfolding hex
hex_feedless zero v = feedless_none
hex_feedless (suc n) v = feedless_append (hex_feedless n (v / 16)) (feedless_byte (glyph_feedless (v % 16)) feedless_none)

sets_feedless : (n : ℕ) (sets : List ℕ) → Feedless (role_sets n sets)
unfolding role_sets
sets_feedless zero sets = feedless_none
sets_feedless (suc n) sets = feedless_append (sets_feedless n sets) (hex_feedless set_digits (get_or sets n 0))

values_feedless : (a : Answer) (c : Constraint) → Feedless (values a c)
unfolding values
values_feedless (Version v) c = hex_feedless version_digits v
values_feedless (Roles m) c = hex_feedless set_digits m
values_feedless (Flow n k v) c = feedless_append (hex_feedless field_digits n) (feedless_append (hex_feedless field_digits k) (hex_feedless version_digits v))
values_feedless Granted c = feedless_none
values_feedless (Answer-as-Constraint s f) c =
    feedless_append (hex_feedless version_digits c.version) (feedless_append (hex_feedless set_digits c.deny) (sets_feedless (suc f) c.roles))
values_feedless (Refused why) c = feedless_none

reply_ended : (e : Engine) (c : Call) → (line : List ℕ) × Feedless line × (reply e c ≡ line ++ (10 ∷ []))
unfolding reply line_of
reply_ended e c =
    let head = hex field_digits (returned (verdict_of (answer e c))) in
    let rest = values (answer e c) (shown_in e.sessions (answer e c)) in
    (head ++ rest, feedless_append (hex_feedless field_digits _) (values_feedless (answer e c) _), sym (append_assoc head rest (10 ∷ [])))

-- bytes are cut at their first line feed in one way
cut_one : {a b : List ℕ} (x y : List ℕ) → Feedless a → Feedless b → a ++ (10 ∷ x) ≡ b ++ (10 ∷ y) → (a ≡ b) × (x ≡ y)
cut_one x y feedless_none feedless_none e = (refl, cc)
cut_one x y feedless_none (feedless_byte {b} {bs} n h) e = absurd (n (cc))
cut_one x y (feedless_byte {b} {bs} n h) feedless_none e = absurd (n (cc))
cut_one x y (feedless_byte {b = a} {bs = as'} m g) (feedless_byte {b} {bs} n h) e =
    let p : a ≡ b = cc in
    let r = cut_one x y g h (cc) in
    (ap₂ (λ (c : ℕ) (cs : List ℕ). c ∷ cs) p r.0, r.1)

-- ---- a recorded run

-- the answer of a line, and the run after it
more_ended : (e : Engine) (frame input : List ℕ) → Feedless frame
    → (line : List ℕ) × Feedless line × (reply e (call_of frame) ≡ line ++ (10 ∷ [])) × (more e (frame ++ (10 ∷ input)) ≡ line ++ (10 ∷ more (after e (call_of frame)) input))
more_ended e frame input f =
    let w = reply_ended e (call_of frame) in
    (w.0, w.1, w.2, more_line e frame input (no_feed f) ∙ rw w.2 (append_snoc w.0 10 (more (after e (call_of frame)) input)))

more_none : (e : Engine) → more e [] ≡ []
unfolding more calls_of replies split last_call
more_none e = refl

recording_there : (e : Engine) {input : List ℕ} → WholeLines input → (file : List ℕ) × Recording input (more e input) file
recording_there e whole_none = ([], rw (more_none e) recording_none)
recording_there e (whole_line frame input f r) =
    let w = more_ended e frame input f in
    let s = recording_there (after e (call_of frame)) r in
    (frame ++ (10 ∷ (w.0 ++ (10 ∷ s.0))), rw w.3 (recording_pair frame w.0 input _ s.0 f w.1 s.1))

recording_agrees : (n : ℕ) (e : Engine) {input output file : List ℕ} → Recording input output file → output ≡ more e input → outcome_from n e (lines_of file) ≡ AllAgree
unfolding outcome_from agrees
recording_agrees n e recording_none h = rw no_lines
recording_agrees n e (recording_pair frame answer input output file f g r) h =
    let w = more_ended e frame input f in
    let s = cut_one output (more (after e (call_of frame)) input) g w.1 (h ∙ w.3) in
    let q : reply e (call_of frame) ≡ answer ++ (10 ∷ []) = w.2 ∙ ap (λ (l : List ℕ). l ++ (10 ∷ [])) (sym s.0) in
    rw (lines_line frame (answer ++ (10 ∷ file)) f, lines_line answer file g, frame_in_is frame, q, same_self (answer ++ (10 ∷ []))) (recording_agrees _ (after e (call_of frame)) r s.1)

-- for every input
pub recorded_run : (input : List ℕ) → RecordedRun input
unfolding outcome
recorded_run input = record {
  there = λ w. rw (run_more input) (recording_there fresh w);
  zeros = λ output file o r k.
      ap printed (rw (le-ltb limit (length file) (omega arith)) (recording_agrees 1 fresh r ((exact input).only output o ∙ run_more input))) ∙ zeros_printed;
}
