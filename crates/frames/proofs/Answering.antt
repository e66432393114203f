-- A call that is carried out: its answer, the engine after it, and the line, whose parts are read in the arrays after the call.
-- Assumes nothing.
use Prim.Native.Nat.{ℕ, ◌+◌, ◌≤◌}
use mathlib.Core.Path.{◌≡◌, refl, ap}
use mathlib.Core.Bool.{Bool, true, ◌&&◌}
use mathlib.Core.List.{List, [], ◌∷◌, ◌++◌}
use native.Mathlib.Omega.{arith}
use lib.ListN.{length}
use borrow.Author.Tests.{lt-ltb, le-leb}
use Rattle.model.specs.declared.Sessions.{Sessions}
use Rattle.model.specs.declared.Engine.{Engine}
use Rattle.model.specs.declared.calls.Ask.TheVariants.{Open, Conflicting, Add, Show}
use Rattle.model.specs.declared.calls.Product.{Product}
use Rattle.model.specs.declared.calls.Call.{Call}
use Rattle.model.specs.declared.calls.Call.TheVariants.{Table, Session, Read, Unreadable}
use Rattle.model.specs.declared.calls.Verdict.{Verdict}
use Rattle.model.specs.declared.calls.Verdict.TheVariants.{Granted as Verdict-as-Granted, Refused as Verdict-as-Refused}
use Rattle.model.specs.declared.calls.Answer.{Answer}
use Rattle.model.specs.declared.calls.Answer.TheVariants.{Version, Roles, Flow, Granted, Constraint as Answer-as-Constraint, Refused}
use Rattle.model.specs.Limits.{flow_count, last_version}
use Rattle.model.specs.State.{all_sessions, session_at}
use Rattle.model.specs.Calls.{done, returned, verdict_of, answer_of, read, change, ask, step, answer, verdict, after}
use Rattle.model.proofs.Seen.{demand1}
use Rattle.step.proofs.Answers.{told_after, told_answer}
use Rattle.protocol.specs.Widths.{field_digits, longest}
use Rattle.protocol.specs.Digits.{hex}
use Rattle.protocol.specs.Lines.{line_feed, values, line_of}
use Rattle.protocol.specs.Run.{shown_in, reply}
use Rattle.protocol.proofs.Laws.{Placed, placed, reply_length}
use Rattle.answers.specs.Answers.{has_place}
use Rattle.output.specs.Output.{room_at}
use Rattle.encoding.specs.Written.{Wrote, Puts}
use Rattle.encoding.proofs.Writing.{wrote_same, puts_wrote}

-- ---- a line that is written

-- what an engine answers has a place where it shows a constraint
has_place_is : (a : Answer) → Placed a → has_place a ≡ true
unfolding has_place
has_place_is (Version v) p = refl
has_place_is (Roles m) p = refl
has_place_is (Flow n k v) p = refl
has_place_is Granted p = refl
has_place_is (Answer-as-Constraint s f) p = rw (lt-ltb s all_sessions p.0, lt-ltb f flow_count p.1)
has_place_is (Refused why) p = refl

has_room : (out : List ℕ) (at : ℕ) → at + longest ≤ length out → room_at out at ≡ true
unfolding room_at
has_room out at l = le-leb (at + longest) (length out) l

-- where every line has room, that of a call is written
put_reply : (e : Engine) (c : Call) {can : Bool} {old new : List ℕ} {at next : ℕ} {bytes : List ℕ} → at + longest ≤ length old → can ≡ true → bytes ≡ reply e c
    → Puts can old new at next bytes → Wrote old new at next (reply e c)
put_reply e c l t q p = wrote_same q (puts_wrote t (rw q (omega (arith, reply_length e c))) p)

-- ---- a read, by its number

number_line : (S : Sessions) (v : Verdict) → hex field_digits (returned v) ++ (line_feed ∷ []) ≡ line_of (answer_of v) (shown_in S (answer_of v))
unfolding line_of values answer_of verdict_of shown_in
number_line S Verdict-as-Granted = refl
number_line S (Verdict-as-Refused why) = refl

read_line : (e : Engine) (c : Call) (p : Product) (u s f d n : ℕ) → c ≡ Read p u s f d → n ≡ returned (read e.directory e.sessions u (session_at p s) f d) → hex field_digits n ++ (line_feed ∷ []) ≡ reply e c
unfolding reply answer step
read_line e c p u s f d n q h = rw (q, h) (number_line e.sessions (read e.directory e.sessions u (session_at p s) f d))

pub read_wrote : (e : Engine) (c : Call) (p : Product) (u s f d n : ℕ) → c ≡ Read p u s f d → n ≡ returned (read e.directory e.sessions u (session_at p s) f d) → {old new : List ℕ} {at next : ℕ} → at + longest ≤ length old
    → Puts (room_at old at) old new at next (hex field_digits n ++ (line_feed ∷ [])) → Wrote old new at next (reply e c)
read_wrote e c p u s f d n q h {old} {new} {at} l = put_reply e c l (has_room old at l) (read_line e c p u s f d n q h)

-- ---- any call

-- an answer that shows a constraint comes from a call that changes no session
shown_after : (e : Engine) (c : Call) → shown_in (after e c).sessions (answer e c) ≡ shown_in e.sessions (answer e c)
unfolding after step change ask shown_in
shown_after e (Table c) = refl
shown_after e (Session p s Open) = go (verdict e (Session p s Open)) refl
  where
    go : (v : Verdict) → verdict e (Session p s Open) ≡ v → shown_in (after e (Session p s Open)).sessions (answer e (Session p s Open)) ≡ shown_in e.sessions (answer e (Session p s Open))
    go Verdict-as-Granted h = rw ((demand1 e (Session p s Open)).told h) refl
    go (Verdict-as-Refused why) h = rw ((demand1 e (Session p s Open)).refused why h).0 refl
shown_after e (Session p s (Conflicting root)) = refl
shown_after e (Session p s (Add root chosen)) = go (verdict e (Session p s (Add root chosen))) refl
  where
    go : (v : Verdict) → verdict e (Session p s (Add root chosen)) ≡ v → shown_in (after e (Session p s (Add root chosen))).sessions (answer e (Session p s (Add root chosen))) ≡ shown_in e.sessions (answer e (Session p s (Add root chosen)))
    go Verdict-as-Granted h = rw ((demand1 e (Session p s (Add root chosen))).told h) refl
    go (Verdict-as-Refused why) h = rw ((demand1 e (Session p s (Add root chosen))).refused why h).0 refl
shown_after e (Session p s (Show f)) = refl
shown_after e (Read p u s f d) = refl
shown_after e Unreadable = refl

module _ (e e' : Engine) (c : Call) (a : Answer) (h : done a e' ≡ step last_version e c) where
  pub told_wrote : {old new : List ℕ} {at next : ℕ} → at + longest ≤ length old
      → Puts (room_at old at && has_place a) old new at next (line_of a (shown_in e'.sessions a)) → Wrote old new at next (reply e c)
  unfolding reply
  told_wrote {old} {new} {at} l =
      let t = told_answer e e' c a h in
      put_reply e c l (rw (has_room old at l, t) (has_place_is (answer e c) (placed e c))) (rw (told_after e e' c a h, t) (ap (line_of (answer e c)) (shown_after e c)))
