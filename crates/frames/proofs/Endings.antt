-- The end of input: the last line, and a whole run in one buffer.
-- Assumes nothing.
use Prim.Native.Nat.{ℕ, zero, suc, ◌+◌, ◌-◌, ◌≤◌, ◌<◌}
use mathlib.Core.Path.{◌≡◌, refl, sym, ap, subst, ◌∙◌}
use mathlib.Core.Bool.{Bool, true, false, cond}
use mathlib.Core.List.{List, [], ◌∷◌, ◌++◌, append-nil, append_assoc}
use native.Mathlib.Decide.{dec_lt}
use native.Mathlib.Omega.{arith}
use lib.Dec.{eqb, leb}
use lib.ListN.{length, take, drop, length-append, length-drop}
use lib.Seq.{take_at, drop_at, drop-drop}
use borrow.Author.Tests.{le-leb, eq-eqb, ne_eqb, ltb-true, ltb-false}
use Rattle.model.specs.declared.Engine.{Engine}
use Rattle.model.specs.declared.calls.Call.{Call}
use Rattle.model.specs.State.{fresh}
use Rattle.model.specs.Calls.{number_of, returned, verdict_of, step, answer, after}
use Rattle.protocol.specs.Widths.{longest}
use Rattle.protocol.specs.Digits.{glyph, hex}
use Rattle.protocol.specs.Lines.{call_of, values, line_of, line_feed}
use Rattle.protocol.specs.Run.{last_call, reply, replies, run, Fed, wrote, fed, feed_at, finish, shown_in}
use Rattle.protocol.proofs.Laws.{more, run_more, more_end, more_line, feed_at_le, feed_there, no_feed_of, no_feed_before, no_more, one_line, fed_run, fed_left, fed_fits}
use Rattle.std.specs.Prelude.{Option, None}
use Rattle.std.specs.Option.{is_some}
use Rattle.pieces.specs.Pieces.{feed_from}
use Rattle.pieces.proofs.Feeds.{feed_known}
use Rattle.frames.specs.declared.lent.Fed.{Fed as Given}
use Rattle.output.specs.Output.{ending, end_answer, end_written}
use Rattle.frames.specs.Stream.{Feeds, takes_whole, ran_output, Ran}

-- what the machine still writes at the end
pub finish_ending : (e : Engine) (line : List ℕ) → finish e line ≡ ending (length line)
unfolding finish last_call replies reply answer step shown_in verdict_of line_of values returned number_of hex glyph ending
finish_ending e [] = refl
finish_ending e (b ∷ line) = refl

-- ---- a whole run

-- what is written first, and the end behind it
whole_put : (first last old new : List ℕ) → length first ≤ length old → new ≡ first ++ drop (length first) old
    → (length new ≡ length old) × (take (length first) new ++ (last ++ drop (length first + length last) new) ≡ (first ++ last) ++ drop (length first + length last) old)
whole_put first last old new l q = (
  ap length q ∙ length-append first _ ∙ rw length-drop (omega arith),
  rw (front, rest) (sym (append_assoc first last _)),
)
  where
    front : take (length first) new ≡ first
    front = ap (take (length first)) q ∙ take_at first _ (length first) refl

    back : drop (length first) new ≡ drop (length first) old
    back = ap (drop (length first)) q ∙ drop_at first _ (length first) refl

    rest : drop (length first + length last) new ≡ drop (length first + length last) old
    rest = sym (drop-drop (length last) (length first) new) ∙ ap (drop (length last)) back ∙ drop-drop (length last) (length first) old

-- a run of which every whole line is taken is what was written and the end
run_fed : (room : ℕ) (input : List ℕ) → feed_at (fed room fresh input).left ≡ length (fed room fresh input).left
    → run input ≡ (fed room fresh input).written ++ ending (length (fed room fresh input).left)
run_fed room input q =
    run_more input
    ∙ fed_run room fresh input
    ∙ ap (λ (bytes : List ℕ). (fed room fresh input).written ++ bytes) (more_end (fed room fresh input).engine (fed room fresh input).left (no_feed_of (fed room fresh input).left q) ∙ finish_ending (fed room fresh input).engine (fed room fresh input).left)

-- the run begins with what stands in the buffer
begins_with : (input : List ℕ) (room : ℕ) → (rest : List ℕ) × (run input ≡ ran_output input room ++ rest)
unfolding ran_output
begins_with input room = go (takes_whole input room)
  where
    go : (t : Bool) → (rest : List ℕ) × (run input ≡ cond t (run input) (fed room fresh input).written ++ rest)
    go true = ([], sym (append-nil (run input)))
    go false = (more (fed room fresh input).engine (fed room fresh input).left, run_more input ∙ fed_run room fresh input)

-- ---- how much room is enough

none_taken : (room : ℕ) (e : Engine) (bytes : List ℕ) → feed_at bytes ≡ length bytes → feed_at (fed room e bytes).left ≡ length (fed room e bytes).left
none_taken room e bytes q = rw (no_more room e bytes q) q

one_taken : (room : ℕ) (e : Engine) (bytes answered : List ℕ) (x : Fed) → fed room e bytes ≡ wrote answered x → feed_at x.left ≡ length x.left → feed_at (fed room e bytes).left ≡ length (fed room e bytes).left
unfolding wrote
one_taken room e bytes answered x q h = rw q h

all_taken : (n room : ℕ) (e : Engine) (bytes : List ℕ) → length bytes ≤ n → length (more e bytes) + longest ≤ room → feed_at (fed room e bytes).left ≡ length (fed room e bytes).left
all_taken zero room e bytes l r = none_taken room e bytes (omega (arith, feed_at_le bytes))
all_taken (suc n) room e bytes l r = go (dec_lt (feed_at bytes) (length bytes)) (λ m d b k s. all_taken n m d b k s)
  where
    go : Dec (feed_at bytes < length bytes)
        → ((m : ℕ) (d : Engine) (b : List ℕ) → length b ≤ n → length (more d b) + longest ≤ m → feed_at (fed m d b).left ≡ length (fed m d b).left)
        → feed_at (fed room e bytes).left ≡ length (fed room e bytes).left
    go (no h) f = none_taken room e bytes (omega (arith, feed_at_le bytes))
    go (yes h) f =
        let line : List ℕ = take (feed_at bytes) bytes in
        let c : Call = call_of line in
        let rest : List ℕ = drop (0 + feed_at bytes + 1) bytes in
        let z : suc (feed_at bytes) ≡ 0 + feed_at bytes + 1 = omega arith in
        let there : bytes ≡ line ++ (line_feed ∷ rest) = feed_there bytes h ∙ ap (λ (n : ℕ). line ++ (line_feed ∷ drop n bytes)) z in
        let long : length (more e bytes) ≡ length (reply e c) + length (more (after e c) rest) = ap (λ (b : List ℕ). length (more e b)) there ∙ ap length (more_line e line rest (no_feed_before bytes)) ∙ length-append (reply e c) (more (after e c) rest) in
        let m : 0 + feed_at bytes < length bytes = omega arith in
        one_taken room e bytes (reply e c) (fed (room - length (reply e c)) (after e c) rest) (one_line room e bytes 0 m (omega arith))
        (f (room - length (reply e c)) (after e c) rest (omega (arith, length-drop (0 + feed_at bytes + 1) bytes)) (omega arith))

-- a run fits where there is room for the longest answer behind it
room_enough : (input : List ℕ) (room : ℕ) → length (run input) + longest ≤ room → takes_whole input room ≡ true
unfolding takes_whole
room_enough input room l =
    let q = all_taken (length input) room fresh input (omega arith) (rw run_more at l) in
    rw (eq-eqb (feed_at (fed room fresh input).left) (length (fed room fresh input).left) q) (le-leb (length (run input)) room (omega arith))

-- ---- what is fed of the whole input, and its end behind it

abbrev fed_in : List ℕ → List ℕ → Fed
fed_in input old = fed (length old) fresh input

module _ (input old new : List ℕ) (e₀ e : Engine) (f : Given) (begun : e₀ ≡ fresh) (given : Feeds input old new e (fed (length old) e₀ input) f) where
  g : Feeds input old new e (fed (length old) fresh input) f
  g = subst (λ (x : Engine). Feeds input old new e (fed (length old) x input) f) begun given

  pub taken_within : f.consumed ≤ length input
  taken_within = omega (arith, g.consumed)

  left_long : length (fed_in input old).left ≡ length input - f.consumed
  left_long = omega (arith, g.consumed, (fed_left (length old) fresh input).0)

  left_here : (fed_in input old).left ≡ drop f.consumed input
  left_here = (fed_left (length old) fresh input).1 ∙ ap (λ (n : ℕ). drop n input) (sym g.consumed)

  -- not every whole line was taken
  pub ran_short : {place : Option ℕ} → place ≡ feed_from input f.consumed → is_some place ≡ true → Ran input old new None
  unfolding takes_whole ran_output
  ran_short p t = record { answer = rw some; output = rw some g.output; begins = begins_with input (length old); roomy = room_enough input (length old) }
    where
      some : eqb (feed_at (fed_in input old).left) (length (fed_in input old).left) ≡ false
      some = ne_eqb (feed_at (fed_in input old).left) (length (fed_in input old).left) (λ q. omega (arith, ltb-true _ _ (sym (feed_known input f.consumed p) ∙ t), q, left_long, ap feed_at left_here))

  -- all of them were
  pub ran_end : (out : List ℕ) (r : Option ℕ) {place : Option ℕ} → place ≡ feed_from input f.consumed → is_some place ≡ false
      → r ≡ end_answer new f.written (ending (length input - f.consumed)) → out ≡ end_written new f.written (ending (length input - f.consumed)) → Ran input old out r
  unfolding takes_whole ran_output end_answer end_written
  ran_end out r p t a o =
      record {
        answer = a ∙ rw (g.written, put.0, eq-eqb (feed_at (fed_in input old).left) (length (fed_in input old).left) all, whole, length-append (fed_in input old).written last);
        output = o ∙ rw (g.written, put.0, eq-eqb (feed_at (fed_in input old).left) (length (fed_in input old).left) all, whole, length-append (fed_in input old).written last) (by (leb (length (fed_in input old).written + length last) (length old)));
        begins = begins_with input (length old);
        roomy = room_enough input (length old);
      }
    where
      last : List ℕ
      last = ending (length input - f.consumed)

      all : feed_at (fed_in input old).left ≡ length (fed_in input old).left
      all = omega (arith, ltb-false _ _ (sym (feed_known input f.consumed p) ∙ t), left_long, ap feed_at left_here, feed_at_le (fed_in input old).left)

      put : (length new ≡ length old) × (take (length (fed_in input old).written) new ++ (last ++ drop (length (fed_in input old).written + length last) new) ≡ ((fed_in input old).written ++ last) ++ drop (length (fed_in input old).written + length last) old)
      put = whole_put (fed_in input old).written last old new (fed_fits (length old) fresh input) g.output

      whole : run input ≡ (fed_in input old).written ++ last
      whole = run_fed (length old) input all ∙ rw left_long

      -- the end fits, or the buffer stays as it was
      by : (t : Bool)
          → cond t (take (length (fed_in input old).written) new ++ (last ++ drop (length (fed_in input old).written + length last) new)) new
          ≡ cond t ((fed_in input old).written ++ last) (fed_in input old).written ++ drop (length (cond t ((fed_in input old).written ++ last) (fed_in input old).written)) old
      by true = put.1 ∙ rw (length-append (fed_in input old).written last)
      by false = g.output
