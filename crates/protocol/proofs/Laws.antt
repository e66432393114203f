-- The laws of lines and of the machine that takes its input piece by piece: whatever the pieces and the room for answers, it writes what the run writes.
-- Assumes nothing.
use Prim.Native.Nat.{ℕ, zero, suc, ◌+◌, ◌-◌, ◌*◌, ◌/◌, ◌≤◌, ◌<◌}
use mathlib.Core.Path.{◌≡◌, refl, sym, ap, ◌∙◌}
use mathlib.Core.Bool.{Bool, true, false, cond, not, ◌&&◌, ◌||◌, and-false}
use mathlib.Core.List.{List, [], ◌∷◌, ◌++◌, map, append-nil, append_assoc}
use native.Mathlib.Decide.{dec_lt}
use native.Mathlib.Omega.{arith}
use lib.Dec.{eqb, leb, ltb}
use lib.ListN.{length, take, drop, length-append, length-take, length-drop}
use lib.Seq.{take_all, append_snoc, drop-drop, drop_at}
use borrow.Author.Tests.{eqb-true, eqb-false, eq-eqb, ne_eqb, ltb-false, lt-ltb, le-ltb, leb-false}
use Rattle.sets.proofs.Laws.{or_neither}
use Rattle.model.specs.declared.Constraint.{Constraint}
use Rattle.model.specs.declared.Engine.{Engine}
use Rattle.model.specs.declared.calls.Verdict.{Verdict}
use Rattle.model.specs.declared.calls.Verdict.TheVariants.{Granted as Verdict-as-Granted, Refused as Verdict-as-Refused}
use Rattle.model.specs.declared.calls.Product.{Product}
use Rattle.model.specs.declared.calls.Ask.TheVariants.{Open, Conflicting, Add, Show}
use Rattle.model.specs.declared.calls.Call.{Call}
use Rattle.model.specs.declared.calls.Call.TheVariants.{Table, Session, Read, Unreadable}
use Rattle.model.specs.declared.calls.Answer.{Answer}
use Rattle.model.specs.declared.calls.Answer.TheVariants.{Version, Roles, Flow, Granted, Constraint as Answer-as-Constraint, Refused}
use Rattle.model.specs.State.{all_sessions, session_at, fresh}
use Rattle.model.specs.Limits.{session_count, flow_count}
use Rattle.model.specs.Calls.{returned, flows_in, verdict, after, answer}
use Rattle.model.specs.Refusals.{rows, ask_rows}
use Rattle.model.specs.Demands.{seen}
use Rattle.model.proofs.Laws.{session_within}
use Rattle.model.proofs.Chains.{not_met}
use Rattle.model.proofs.SeenRows.{length_flows}
use Rattle.model.proofs.Seen.{demand1}
use Rattle.protocol.specs.Widths.{version_digits, set_digits, kept, longest}
use Rattle.protocol.specs.Digits.{digit, all_digits, number_from, number, hex}
use Rattle.protocol.specs.Lines.{rest_digits, called_by, called, frame, call_of, line_feed, role_sets, values, shown_sets, line_of}
use Rattle.protocol.specs.Run.{Split, with_byte, split, last_call, calls_of, shown_in, reply, replies, run, Fed, wrote, fed_from, fed, feed_at, finish}

-- ---- a line is read by its first 23 bytes

-- no kind has so many fields
rest_short : (kind : ℕ) → rest_digits kind ≤ 20
unfolding rest_digits
rest_short kind = pick (eqb kind 6 || eqb kind 11) 2 _ (omega arith) (pick (eqb kind 8 || eqb kind 13) 20 _ (omega arith) (pick (eqb kind 9 || eqb kind 14) 8 _ (omega arith) (pick (leb 1 kind && leb kind 16) 4 0 (omega arith) (omega arith))))
  where
    pick : (t : Bool) (a b : ℕ) → a ≤ 20 → b ≤ 20 → cond t a b ≤ 20
    pick true a b l m = l
    pick false a b l m = m

frame_longer : (kind : ℕ) (rest : List ℕ) → 20 < length rest → frame kind rest ≡ Unreadable
unfolding frame
frame_longer kind rest h = rw (ne_eqb (length rest) (rest_digits kind) (λ e. omega (arith, rest_short kind)))

-- no frame is longer than 22 digits
pub longer : (line : List ℕ) → 22 < length line → call_of line ≡ Unreadable
unfolding call_of
longer line h = go (all_digits line)
  where
    go : (b : Bool) → cond b (frame (number (take 2 line)) (drop 2 line)) Unreadable ≡ Unreadable
    go true = frame_longer (number (take 2 line)) (drop 2 line) (simp length-drop (omega arith))
    go false = refl

pub capped : (line : List ℕ) → call_of (take kept line) ≡ call_of line
capped line = go (dec_lt 22 (length line))
  where
    go : Dec (22 < length line) → call_of (take kept line) ≡ call_of line
    go (yes l) = longer (take kept line) (simp length-take (omega arith)) ∙ sym (longer line l)
    go (no l) = ap call_of (take_all kept line (omega arith))

-- a line feed is no digit, so a line that has one in it is no frame
feed_undigit : (line : List ℕ) → feed_at line < length line → all_digits line ≡ false
unfolding feed_at all_digits digit
feed_undigit [] l = absurd (omega arith)
feed_undigit (b ∷ bs) l = go (eqb b line_feed) refl l (feed_undigit bs)
  where
    go : (t : Bool) → eqb b line_feed ≡ t → cond t 0 (suc (feed_at bs)) < suc (length bs) → (feed_at bs < length bs → all_digits bs ≡ false) → (ltb (digit b) 16 && all_digits bs) ≡ false
    go true e k h = rw (eqb-true b line_feed e) refl
    go false e k h = rw (h (omega arith)) (and-false (ltb (digit b) 16))

-- nor is the empty line
pub empty_line : call_of [] ≡ Unreadable
unfolding call_of all_digits number number_from frame rest_digits called called_by
empty_line = refl

pub feed_within : (line : List ℕ) → feed_at line < length line → call_of line ≡ Unreadable
unfolding call_of
feed_within line l = rw (feed_undigit line l) refl

-- what is cut off from a line before more is added would be cut off after it
take_first : (n : ℕ) (l m : List ℕ) → take n (take n l ++ m) ≡ take n (l ++ m)
take_first zero l m = refl
take_first (suc n) [] m = refl
take_first (suc n) (b ∷ l) m = ap {B = List ℕ} (λ r. b ∷ r) (take_first n l m)

capped_front : (l m : List ℕ) → call_of (take kept l ++ m) ≡ call_of (l ++ m)
capped_front l m = sym (capped (take kept l ++ m)) ∙ ap call_of (take_first kept l m) ∙ capped (l ++ m)

-- ---- lines without a line feed

pub data NoFeed : List ℕ → Type 0 where
  none : NoFeed []
  byte : {b : ℕ} {bs : List ℕ} → (b ≡ line_feed → ⊥) → NoFeed bs → NoFeed (b ∷ bs)

pub no_feed_append : {a b : List ℕ} → NoFeed a → NoFeed b → NoFeed (a ++ b)
no_feed_append none k = k
no_feed_append (byte n h) k = byte n (no_feed_append h k)

pub no_feed_take : (n : ℕ) {line : List ℕ} → NoFeed line → NoFeed (take n line)
no_feed_take zero h = none
no_feed_take (suc n) none = none
no_feed_take (suc n) (byte m h) = byte m (no_feed_take n h)

-- ---- splitting

-- a line begun, then this
begun : List ℕ → Split → Split
begun [] s = s
begun (b ∷ line) s = with_byte b (begun line s)

begun_last : (line rest : List ℕ) → begun line (record { lines = []; rest = rest }) ≡ record { lines = []; rest = line ++ rest }
unfolding begun with_byte
begun_last [] rest = refl
begun_last (b ∷ line) rest = ap (with_byte b) (begun_last line rest)

begun_first : (line first : List ℕ) (others : List (List ℕ)) (rest : List ℕ)
    → begun line (record { lines = first ∷ others; rest = rest }) ≡ record { lines = (line ++ first) ∷ others; rest = rest }
unfolding begun with_byte
begun_first [] first others rest = refl
begun_first (b ∷ line) first others rest = ap (with_byte b) (begun_first line first others rest)

split_feed : (bytes : List ℕ) → split (line_feed ∷ bytes) ≡ record { lines = [] ∷ (split bytes).lines; rest = (split bytes).rest }
unfolding split
split_feed bytes = refl

split_begun : (line bytes : List ℕ) → NoFeed line → split (line ++ bytes) ≡ begun line (split bytes)
unfolding split begun
split_begun line bytes none = refl
split_begun line bytes (byte {b} {bs} n h) = rw (ne_eqb b line_feed n) (ap (with_byte b) (split_begun bs bytes h))

pub split_line : (line bytes : List ℕ) → NoFeed line → split (line ++ (line_feed ∷ bytes)) ≡ record { lines = line ∷ (split bytes).lines; rest = (split bytes).rest }
split_line line bytes h =
    split_begun line (line_feed ∷ bytes) h ∙ ap (begun line) (split_feed bytes) ∙ begun_first line [] (split bytes).lines (split bytes).rest ∙ rw append-nil

pub split_rest : (line : List ℕ) → NoFeed line → split line ≡ record { lines = []; rest = line }
unfolding split
split_rest line h = ap split (sym (append-nil line)) ∙ split_begun line [] h ∙ begun_last line [] ∙ rw append-nil

-- ---- what is still to be written

-- what the program still writes from engine e on these bytes
unfoldable pub more : Engine → List ℕ → List ℕ
more e bytes = replies e (calls_of bytes)

pub run_more : (input : List ℕ) → run input ≡ more fresh input
unfolding run more
run_more input = refl

pub more_end : (e : Engine) (line : List ℕ) → NoFeed line → more e line ≡ finish e line
unfolding more finish calls_of
more_end e line h = rw (split_rest line h)

pub more_line : (e : Engine) (line bytes : List ℕ) → NoFeed line → more e (line ++ (line_feed ∷ bytes)) ≡ reply e (call_of line) ++ more (after e (call_of line)) bytes
unfolding more calls_of replies
more_line e line bytes h = rw (split_line line bytes h)

last_capped : (l m : List ℕ) → last_call (take kept l ++ m) ≡ last_call (l ++ m)
unfolding last_call
last_capped [] m = refl
last_capped (b ∷ l) m = refl

-- the calls of an input that is split so
calls_in : Split → List Call
calls_in s = map call_of s.lines ++ last_call s.rest

calls_begun : (line : List ℕ) (s : Split) → calls_in (begun (take kept line) s) ≡ calls_in (begun line s)
unfolding calls_in
calls_begun line s = go s.lines
  where
    go : (lines : List (List ℕ)) → calls_in (begun (take kept line) (record { lines = lines; rest = s.rest })) ≡ calls_in (begun line (record { lines = lines; rest = s.rest }))
    go [] = rw (begun_last (take kept line) s.rest, begun_last line s.rest) (last_capped line s.rest)
    go (first ∷ others) = rw (begun_first (take kept line) first others s.rest, begun_first line first others s.rest, capped_front line first)

-- a cap on a line that has begun changes nothing
pub more_capped : (e : Engine) (line bytes : List ℕ) → NoFeed line → more e (take kept line ++ bytes) ≡ more e (line ++ bytes)
unfolding more calls_of calls_in
more_capped e line bytes h =
    ap (λ (s : Split). replies e (calls_in s)) (split_begun (take kept line) bytes (no_feed_take kept h))
    ∙ ap (replies e) (calls_begun line (split bytes))
    ∙ ap (λ (s : Split). replies e (calls_in s)) (sym (split_begun line bytes h))

-- ---- the machine

pub wrote_none : (x : Fed) → wrote [] x ≡ x
unfolding wrote
wrote_none x = refl

pub wrote_wrote : (a b : List ℕ) (x : Fed) → wrote a (wrote b x) ≡ wrote (a ++ b) x
unfolding wrote
wrote_wrote a b x = rw append_assoc

-- with nothing done of a piece
abbrev pub waiting : Engine → List ℕ → Fed
waiting e bytes = record { written = []; engine = e; left = bytes }

-- at a line feed, and at another byte
fed_feed : (room : ℕ) (e : Engine) (line bytes : List ℕ) → fed_from room e line (line_feed ∷ bytes)
    ≡ cond (ltb room longest) (waiting e (line ++ (line_feed ∷ bytes))) (wrote (reply e (call_of line)) (fed_from (room - length (reply e (call_of line))) (after e (call_of line)) [] bytes))
unfolding fed_from
fed_feed room e line bytes = refl

fed_byte : (room : ℕ) (e : Engine) (line : List ℕ) (b : ℕ) (bytes : List ℕ) → (b ≡ line_feed → ⊥) → fed_from room e line (b ∷ bytes) ≡ fed_from room e (line ++ (b ∷ [])) bytes
unfolding fed_from
fed_byte room e line b bytes n = rw (ne_eqb b line_feed n)

no_feed_more : {line : List ℕ} {b : ℕ} → NoFeed line → (b ≡ line_feed → ⊥) → NoFeed (line ++ (b ∷ []))
no_feed_more h n = no_feed_append h (byte n none)

-- what holds wherever the machine stops, and is kept by an answered line, holds of what the machine has fed
module _
    (P : ℕ → Engine → List ℕ → Fed → Type 0)
    (stops : (room : ℕ) (e : Engine) (bytes : List ℕ) → P room e bytes (waiting e bytes))
    (answers : (room : ℕ) (e : Engine) (line bytes : List ℕ) (x : Fed) → longest ≤ room → NoFeed line
    → P (room - length (reply e (call_of line))) (after e (call_of line)) bytes x → P room e (line ++ (line_feed ∷ bytes)) (wrote (reply e (call_of line)) x))
  where
    fed_from_is : (room : ℕ) (e : Engine) (line bytes : List ℕ) → NoFeed line → P room e (line ++ bytes) (fed_from room e line bytes)
    unfolding fed_from
    fed_from_is room e line [] h = rw append-nil (stops room e line)
    fed_from_is room e line (b ∷ bytes) h =
        go (eqb b line_feed) refl (fed_from_is (room - length (reply e (call_of line))) (after e (call_of line)) [] bytes none) (λ n. fed_from_is room e (line ++ (b ∷ [])) bytes (no_feed_more h n))
      where
        answered : Fed
        answered = fed_from (room - length (reply e (call_of line))) (after e (call_of line)) [] bytes

        pick : (t : Bool) → ltb room longest ≡ t → P (room - length (reply e (call_of line))) (after e (call_of line)) bytes answered
            → P room e (line ++ (line_feed ∷ bytes)) (cond t (waiting e (line ++ (line_feed ∷ bytes))) (wrote (reply e (call_of line)) answered))
        pick true t r = stops room e (line ++ (line_feed ∷ bytes))
        pick false t r = answers room e line bytes answered (ltb-false room longest t) h r

        go : (t : Bool) → eqb b line_feed ≡ t → P (room - length (reply e (call_of line))) (after e (call_of line)) bytes answered
            → ((b ≡ line_feed → ⊥) → P room e ((line ++ (b ∷ [])) ++ bytes) (fed_from room e (line ++ (b ∷ [])) bytes)) → P room e (line ++ (b ∷ bytes)) (fed_from room e line (b ∷ bytes))
        go true t r f = rw (eqb-true b line_feed t, fed_feed room e line bytes) (pick (ltb room longest) refl r)
        go false t r f = let n = eqb-false b line_feed t in rw (fed_byte room e line b bytes n) (rw append_snoc at (f n))

    pub fed_by : (room : ℕ) (e : Engine) (bytes : List ℕ) → P room e bytes (fed room e bytes)
    unfolding fed
    fed_by room e bytes = fed_from_is room e [] bytes none

-- feeding a piece and then what is left of it with the next is feeding both
pub fed_more : (room : ℕ) (e : Engine) (bytes rest : List ℕ) → more e (bytes ++ rest) ≡ (fed room e bytes).written ++ more (fed room e bytes).engine ((fed room e bytes).left ++ rest)
unfolding wrote
fed_more room e bytes rest =
    fed_by (λ m d p x. more d (p ++ rest) ≡ x.written ++ more x.engine (x.left ++ rest))
    (λ m d p. refl)
    (λ m d l p x k h r. rw (append_assoc l (line_feed ∷ p) rest) (more_line d l (p ++ rest) h ∙ rw (r, append_assoc)))
    room e bytes

pub fed_run : (room : ℕ) (e : Engine) (bytes : List ℕ) → more e bytes ≡ (fed room e bytes).written ++ more (fed room e bytes).engine (fed room e bytes).left
fed_run room e bytes = simp append-nil at (fed_more room e bytes [])

-- what is left is an end of the piece
pub fed_left : (room : ℕ) (e : Engine) (bytes : List ℕ)
    → (length (fed room e bytes).left ≤ length bytes) × ((fed room e bytes).left ≡ drop (length bytes - length (fed room e bytes).left) bytes)
unfolding wrote
fed_left =
    fed_by (λ m d p x. (length x.left ≤ length p) × (x.left ≡ drop (length p - length x.left) p))
    (λ m d p. let z : length p - length p ≡ 0 = omega arith in (omega arith, rw z))
    (λ m d l p x k h r.
    let n : length (l ++ (line_feed ∷ p)) ≡ length l + suc (length p) = length-append l (line_feed ∷ p) in
    let w : length l + suc (length p) - length x.left ≡ suc (length l) + (length p - length x.left) = omega (arith, r.0) in
    (rw n (omega (arith, r.0)), rw (n, w) (r.1 ∙ sym (behind l p (length p - length x.left)))))
  where
    behind : (l p : List ℕ) (k : ℕ) → drop (suc (length l) + k) (l ++ (line_feed ∷ p)) ≡ drop k p
    behind l p k =
        let z : suc (length l) + k ≡ length l + suc k = omega arith in
        rw z (sym (drop-drop (suc k) (length l) (l ++ (line_feed ∷ p))) ∙ ap (drop (suc k)) (drop_at l (line_feed ∷ p) (length l) refl))

-- ---- where the first line feed stands

pub feed_at_here : (b : ℕ) (bs : List ℕ) → b ≡ line_feed → feed_at (b ∷ bs) ≡ 0
unfolding feed_at
feed_at_here b bs e = rw (eq-eqb b line_feed e)

pub feed_at_later : (b : ℕ) (bs : List ℕ) → (b ≡ line_feed → ⊥) → feed_at (b ∷ bs) ≡ suc (feed_at bs)
unfolding feed_at
feed_at_later b bs n = rw (ne_eqb b line_feed n)

pub feed_at_le : (bytes : List ℕ) → feed_at bytes ≤ length bytes
unfolding feed_at
feed_at_le [] = omega arith
feed_at_le (b ∷ bs) = go (eqb b line_feed) (feed_at_le bs)
  where
    go : (t : Bool) → feed_at bs ≤ length bs → cond t 0 (suc (feed_at bs)) ≤ suc (length bs)
    go true h = omega arith
    go false h = omega arith

pub no_feed_before : (bytes : List ℕ) → NoFeed (take (feed_at bytes) bytes)
unfolding feed_at
no_feed_before [] = none
no_feed_before (b ∷ bs) = go (eqb b line_feed) refl (no_feed_before bs)
  where
    go : (t : Bool) → eqb b line_feed ≡ t → NoFeed (take (feed_at bs) bs) → NoFeed (take (cond t 0 (suc (feed_at bs))) (b ∷ bs))
    go true e h = none
    go false e h = byte (eqb-false b line_feed e) h

pub feed_there : (bytes : List ℕ) → feed_at bytes < length bytes → bytes ≡ take (feed_at bytes) bytes ++ (line_feed ∷ drop (suc (feed_at bytes)) bytes)
unfolding feed_at
feed_there [] l = absurd (omega arith)
feed_there (b ∷ bs) l = go (eqb b line_feed) refl l (feed_there bs)
  where
    go : (t : Bool) → eqb b line_feed ≡ t → cond t 0 (suc (feed_at bs)) < suc (length bs)
        → (feed_at bs < length bs → bs ≡ take (feed_at bs) bs ++ (line_feed ∷ drop (suc (feed_at bs)) bs))
        → b ∷ bs ≡ take (cond t 0 (suc (feed_at bs))) (b ∷ bs) ++ (line_feed ∷ drop (suc (cond t 0 (suc (feed_at bs)))) (b ∷ bs))
    go true e l h = ap {B = List ℕ} (λ x. x ∷ bs) (eqb-true b line_feed e)
    go false e l h = ap {B = List ℕ} (λ r. b ∷ r) (h (omega arith))

-- ---- a piece from `at` on: a line that ends in it, or its rest

-- without room for the longest answer nothing is done
fed_no_room : (room : ℕ) (e : Engine) (line bytes : List ℕ) → room < longest → fed_from room e line bytes ≡ waiting e (line ++ bytes)
unfolding fed_from
fed_no_room room e line [] r = rw append-nil
fed_no_room room e line (b ∷ bytes) r =
    rw (lt-ltb room longest r) (same (eqb b line_feed) (fed_no_room room e (line ++ (b ∷ [])) bytes r ∙ rw append_snoc))
  where
    same : (t : Bool) {z : Fed} → z ≡ waiting e (line ++ (b ∷ bytes)) → cond t (waiting e (line ++ (b ∷ bytes))) z ≡ waiting e (line ++ (b ∷ bytes))
    same true h = refl
    same false h = h

pub no_room : (room : ℕ) (e : Engine) (bytes : List ℕ) → room < longest → fed room e bytes ≡ waiting e bytes
unfolding fed
no_room room e bytes r = fed_no_room room e [] bytes r

-- nor is it where no line feed is left
fed_no_more : (room : ℕ) (e : Engine) (line bytes : List ℕ) → NoFeed bytes → fed_from room e line bytes ≡ waiting e (line ++ bytes)
unfolding fed_from
fed_no_more room e line bytes none = rw append-nil
fed_no_more room e line bytes (byte {b} {bs} n h) = fed_byte room e line b bs n ∙ fed_no_more room e (line ++ (b ∷ [])) bs h ∙ rw append_snoc

pub no_feed_of : (bytes : List ℕ) → feed_at bytes ≡ length bytes → NoFeed bytes
no_feed_of bytes q = rw (take_all (feed_at bytes) bytes (omega arith)) at (no_feed_before bytes)

pub no_more : (room : ℕ) (e : Engine) (bytes : List ℕ) → feed_at bytes ≡ length bytes → fed room e bytes ≡ waiting e bytes
unfolding fed
no_more room e bytes q = fed_no_more room e [] bytes (no_feed_of bytes q)

-- a line is answered where the longest answer has room
pub fed_line : (room : ℕ) (e : Engine) (line piece bytes : List ℕ) → NoFeed piece → longest ≤ room → fed_from room e line (piece ++ (line_feed ∷ bytes))
    ≡ wrote (reply e (call_of (line ++ piece))) (fed_from (room - length (reply e (call_of (line ++ piece)))) (after e (call_of (line ++ piece))) [] bytes)
fed_line room e line piece bytes none r = fed_feed room e line bytes ∙ rw (le-ltb room longest r, append-nil)
fed_line room e line piece bytes (byte {b} {bs} n h) r = fed_byte room e line b (bs ++ (line_feed ∷ bytes)) n ∙ fed_line room e (line ++ (b ∷ [])) bs bytes h r ∙ rw append_snoc

split_there : (input : List ℕ) (at : ℕ) → let n : ℕ = feed_at (drop at input) in at + n < length input → drop at input ≡ take n (drop at input) ++ (line_feed ∷ drop (at + n + 1) input)
split_there input at l =
    let n : ℕ = feed_at (drop at input) in
    let e : at + suc n ≡ at + n + 1 = omega arith in
    feed_there (drop at input) (omega (arith, length-drop at input)) ∙ rw (drop-drop (suc n) at input, e)

pub one_line : (room : ℕ) (e : Engine) (input : List ℕ) (at : ℕ)
    → let n : ℕ = feed_at (drop at input) in let c : Call = call_of (take n (drop at input)) in at + n < length input → longest ≤ room
    → fed room e (drop at input) ≡ wrote (reply e c) (fed (room - length (reply e c)) (after e c) (drop (at + n + 1) input))
unfolding fed
one_line room e input at l r = ap (fed_from room e []) (split_there input at l) ∙ fed_line room e [] _ _ (no_feed_before (drop at input)) r

-- ---- how long answers are

pub hex_length : (n v : ℕ) → length (hex n v) ≡ n
unfolding hex
hex_length zero v = refl
hex_length (suc n) v = rw (length-append, hex_length n (v / 16)) (omega arith)

pub role_sets_length : (n : ℕ) (sets : List ℕ) → length (role_sets n sets) ≡ set_digits * n
unfolding role_sets
role_sets_length zero sets = refl
role_sets_length (suc n) sets = rw (length-append, role_sets_length n sets, hex_length) (omega arith)

pub line_of_length : (a : Answer) (c : Constraint) → length (line_of a c) ≡ 3 + length (values a c)
unfolding line_of
line_of_length a c = simp (length-append, hex_length) (omega arith)

-- a constraint that is shown is that of a flow with a place
abbrev pub Placed : Answer → Type 0
Placed (Version v) = v ≡ v
Placed (Roles m) = m ≡ m
Placed (Flow n k v) = n ≡ n
Placed Granted = Granted ≡ Granted
Placed (Answer-as-Constraint s f) = (s < all_sessions) × (f < flow_count)
Placed (Refused why) = why ≡ why

-- a flow that is shown is there
pub show_within : (e : Engine) (p : Product) (s f : ℕ) → verdict e (Session p s (Show f)) ≡ Verdict-as-Granted → (session_at p s < all_sessions) × (f < flow_count) × (f < flows_in e.sessions (session_at p s))
unfolding returned rows ask_rows
show_within e p s f h =
    let a = not_met 1 (leb session_count s || leb flow_count f) _ (sym (demand1 e (Session p s (Show f))).number ∙ ap returned h) in
    let b = or_neither (leb session_count s) (leb flow_count f) a.0 in
    let c = not_met 9 (leb (length ((seen e).flows p s)) f) _ (not_met 5 (not ((seen e).opened p s)) _ a.1).1 in
    (session_within p s (leb-false session_count s b.0), leb-false flow_count f b.1, rw (length_flows e p s) at (leb-false (length ((seen e).flows p s)) f c.0))

granted_placed : (e : Engine) (c : Call) → verdict e c ≡ Verdict-as-Granted → Placed (answer e c)
granted_placed e (Table c) h = rw ((demand1 e (Table c)).told h) refl
granted_placed e (Session p s Open) h = rw ((demand1 e (Session p s Open)).told h) refl
granted_placed e (Session p s (Conflicting root)) h = rw ((demand1 e (Session p s (Conflicting root))).told h).1 refl
granted_placed e (Session p s (Add root chosen)) h = rw ((demand1 e (Session p s (Add root chosen))).told h) refl
granted_placed e (Session p s (Show f)) h = rw ((demand1 e (Session p s (Show f))).told h) (let w = show_within e p s f h in (w.0, w.1))
granted_placed e (Read p u s f d) h = rw ((demand1 e (Read p u s f d)).told h) refl
granted_placed e Unreadable h = absurd ((demand1 e Unreadable).told h)

pub placed : (e : Engine) (c : Call) → Placed (answer e c)
placed e c = go (verdict e c) refl
  where
    go : (v : Verdict) → verdict e c ≡ v → Placed (answer e c)
    go Verdict-as-Granted h = granted_placed e c h
    go (Verdict-as-Refused why) h = rw ((demand1 e c).refused why h).0 refl

-- so it shows no more role sets than a constraint has
pub few_sets : (a : Answer) → Placed a → shown_sets a ≤ flow_count
unfolding shown_sets
few_sets (Version v) p = omega arith
few_sets (Roles m) p = omega arith
few_sets (Flow n k v) p = omega arith
few_sets Granted p = omega arith
few_sets (Answer-as-Constraint s f) p = p.1
few_sets (Refused why) p = omega arith

pub values_length : (a : Answer) (c : Constraint) → shown_sets a ≤ flow_count → length (values a c) ≤ version_digits + set_digits * (1 + flow_count)
unfolding values shown_sets
values_length (Version v) c l = simp hex_length (omega arith)
values_length (Roles m) c l = simp hex_length (omega arith)
values_length (Flow n k v) c l = simp (length-append, hex_length) (omega arith)
values_length Granted c l = omega arith
values_length (Answer-as-Constraint s f) c l = simp (length-append, hex_length, role_sets_length) (omega arith)
values_length (Refused why) c l = omega arith

-- an answer fits into the longest line
pub reply_length : (e : Engine) (c : Call) → length (reply e c) ≤ longest
unfolding reply
reply_length e c = rw line_of_length (omega (arith, values_length (answer e c) (shown_in e.sessions (answer e c)) (few_sets (answer e c) (placed e c))))

-- so what is written of a piece fits into its room
pub fed_fits : (room : ℕ) (e : Engine) (bytes : List ℕ) → length (fed room e bytes).written ≤ room
unfolding wrote
fed_fits = fed_by (λ m d p x. length x.written ≤ m) (λ m d p. omega arith) (λ m d l p x k h r. rw length-append (omega (arith, reply_length d (call_of l))))

-- and a piece with a whole line in it gets shorter where the longest answer has room
pub fed_shorter : (room : ℕ) (e : Engine) (bytes : List ℕ) → longest ≤ room → feed_at bytes < length bytes → length (fed room e bytes).left < length bytes
unfolding wrote
fed_shorter room e bytes r l =
    let n : ℕ = feed_at bytes in
    let c : Call = call_of (take n bytes) in
    let m : 0 + feed_at bytes < length bytes = omega arith in
    rw (one_line room e bytes 0 m r) (omega (arith, (fed_left (room - length (reply e c)) (after e c) (drop (0 + n + 1) bytes)).0, length-drop (0 + n + 1) bytes))
