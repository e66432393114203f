-- What is read into a part of a buffer, what is written of one, and how a run goes on from piece to piece.
-- Assumes nothing.
use Prim.Native.Nat.{ℕ, zero, suc, ◌+◌, ◌-◌, ◌≤◌, ◌<◌, ◌^◌, min}
use mathlib.Core.Path.{◌≡◌, refl, sym, ap, ◌∙◌}
use mathlib.Core.Bool.{true, false}
use mathlib.Core.List.{List, [], ◌++◌, append_assoc, append-nil}
use native.Mathlib.Decide.{dec_lt}
use native.Mathlib.Omega.{arith}
use lib.Dec.{leb, ltb}
use lib.ListN.{length, take, drop, take-append-drop, length-append, length-take, length-drop}
use lib.Seq.{drop-drop, take-add, take_at, take-append_seam, drop_at}
use Rattle.std.proofs.Common.{subst}
use Rattle.std.proofs.BufReadLemmas.{drop-take_min}
use Rattle.std.proofs.KnownBytes.{Appends-trans, Appends-nil, Consumes-trans, Consumes-nil, starts_with_rest}
use Rattle.std.proofs.lemmas.List.{nil_from_length, drop-take, take-append-le, take_rest, take-take, take_min}
use Rattle.std.proofs.lemmas.Bool.{le-leb, le-ltb}
use Rattle.std.specs.Io.{StartsWith}
use Rattle.std.specs.Io.KnownBytes.{Appends, Consumes, IsAtEnd}
use Rattle.std.specs.declared.option.Option.{Option}
use Rattle.std.specs.Prelude.{Some, None, IfSome, Result, Ok, Err, OnOk, IfErr}
use Rattle.model.specs.declared.Engine.{Engine}
use Rattle.protocol.specs.Widths.{longest, kept}
use Rattle.protocol.specs.Run.{calls_of, replies, Fed, fed, feed_at, kept_of}
use Rattle.protocol.proofs.Laws.{NoFeed, more, more_end, more_capped, fed_more, fed_left, fed_fits, no_feed_of, no_feed_take, feed_at_le}
use Rattle.frames.specs.declared.lent.Fed.{Fed as Given}
use Rattle.frames.specs.Stream.{Feeds}
use Rattle.frames.proofs.Endings.{finish_ending}
use Rattle.pieces.specs.Pieces.{between}
use Rattle.output.specs.Output.{ending, end_answer, end_written}
use Rattle.streams.specs.Feeds.{feeds, counted_on}
use Rattle.streams.specs.Failure.{lines_of, IsUnread}
use Rattle.streams.specs.declared.failure.Failure.{Failure}
use Rattle.streams.specs.Serving.{Answered, Begun, Drawn}
use Rattle.streams.proofs.LineFeeds.{feeds_append}

-- ---- what is read and written

pub on_ok : {X E P Q : Type 0} (r : Result X E) → (P → Q) → OnOk r P → OnOk r Q
on_ok (Ok x) f p = f p
on_ok (Err e) f p = tt

pub if_err : {X E : Type 0} {P Q : E → Type 0} (r : Result X E) → ((e : E) → P e → Q e) → IfErr r P → IfErr r Q
if_err (Ok x) f p = tt
if_err (Err e) f p = f e p

pub both_err : {X E : Type 0} (P Q : E → Type 0) (r : Result X E) → IfErr r P → IfErr r Q → IfErr r (λ e. P e × Q e)
both_err P Q (Ok x) p q = tt
both_err P Q (Err e) p q = (p, q)

if_known : {P : List ℕ → Type 0} (s : Option (List ℕ)) → ((xs : List ℕ) → P xs) → IfSome s P
if_known None f = tt
if_known (Some xs) f = f xs

-- a write of the rest of a list takes the first n of it
pub put_more : (a b c : Option (List ℕ)) (done n : ℕ) (bytes : List ℕ) → done ≤ length bytes → Appends a b (take done bytes) → Appends b c (take n (take (length bytes - done) (drop done bytes)))
    → Appends a c (take (done + n) bytes)
put_more a b c done n bytes l p q =
    let rest : take n (drop done bytes) ≡ take n (take (length bytes - done) (drop done bytes)) = ap (take n) (sym (take_rest bytes done)) in
    subst (Appends a c) (ap (λ (xs : List ℕ). take done bytes ++ xs) (sym rest) ∙ sym (take-add done n bytes)) (Appends-trans a b c _ _ p q)

-- what is read into a part of a buffer stands behind its front
pub got_in : (a b : Option (List ℕ)) (n r end : ℕ) (head part tail : List ℕ) → length head ≡ n → r ≤ length part → end ≡ n + r → Consumes a b (take r part) → Consumes a b (drop n (take end (head ++ (part ++ tail))))
got_in a b n r end head part tail long few e p =
    let all : List ℕ = head ++ (part ++ tail) in
    let front : drop n (take end all) ≡ take r (drop n all) = ap (λ (k : ℕ). drop n (take k all)) e ∙ drop-take n r all in
    subst (Consumes a b) (sym (front ∙ ap (take r) (drop_at head (part ++ tail) n long) ∙ take-append-le r part tail few)) p

-- ---- where a failure ends it

starts_so : (whole written rest : List ℕ) → whole ≡ written ++ rest → StartsWith whole written
starts_so whole written rest e = ap (take (length written)) e ∙ take-append_seam written rest

counted_more : (before after : ℕ) (a b : List ℕ) → after ≡ counted_on before a → counted_on after b ≡ counted_on before (a ++ b)
counted_more before after a b e = omega (arith, e, feeds_append a b)

-- n bytes of what was to be written are
pub begun_short : (lines : ℕ) (bytes : List ℕ) (old new : Option (List ℕ)) (failure : Failure) (n : ℕ) → n ≤ length bytes → Appends old new (take n bytes) → lines_of failure ≡ counted_on lines (take n bytes) → Begun lines bytes old new failure
begun_short lines bytes old new failure n l w t =
    record { written = take n bytes; begins = ap (λ (k : ℕ). take k bytes) (length-take n bytes ∙ omega (arith, l)); appended = w; told = t }

pub begun_same : (lines : ℕ) (bytes others : List ℕ) (old new : Option (List ℕ)) (failure : Failure) → bytes ≡ others → Begun lines bytes old new failure → Begun lines others old new failure
begun_same lines bytes others old new failure e b = subst (λ (l : List ℕ). Begun lines l old new failure) e b

-- a failure in a part of the answers is one in them all
begun_behind : (before after : ℕ) (whole front part behind : List ℕ) (o₀ o o₁ : Option (List ℕ)) (failure : Failure) → Appends o₀ o front → after ≡ counted_on before front → whole ≡ front ++ (part ++ behind) → Begun after part o o₁ failure
    → Begun before whole o₀ o₁ failure
begun_behind before after whole front part behind o₀ o o₁ failure w counted is b =
    let left : List ℕ = drop (length b.written) part in
    let split : whole ≡ (front ++ b.written) ++ (left ++ behind) =
    is ∙ ap (λ (l : List ℕ). front ++ (l ++ behind)) (starts_with_rest part b.written b.begins) ∙ ap (λ (l : List ℕ). front ++ l) (append_assoc b.written left behind) ∙ sym (append_assoc front b.written (left ++ behind)) in
    record {
      written = front ++ b.written;
      begins = starts_so whole (front ++ b.written) (left ++ behind) split;
      appended = Appends-trans o₀ o o₁ front b.written w b.appended;
      told = b.told ∙ counted_more before after front b.written counted;
    }

-- ---- a part of an input that is answered line by line

pub answered_start : (part : List ℕ) (e : Engine) (lines : ℕ) (out : Option (List ℕ)) → lines < 2 ^ 64 → Answered part e e lines lines out out 0
unfolding feeds
answered_start part e lines out l = record { within = omega arith; written = []; appended = Appends-nil out; counted = omega arith; completed = λ rest. refl }

-- the answers to a piece stand at the start of the buffer for them
fed_answers : (room : ℕ) (e e₁ : Engine) (piece old new : List ℕ) (r : Given) → Feeds piece old new e₁ (fed room e piece) r → take r.written new ≡ (fed room e piece).written
fed_answers room e e₁ piece old new r f =
    let x : Fed = fed room e piece in
    rw f.output (take_at x.written (drop (length x.written) old) r.written (sym f.written))

-- what is fed of the rest of the part, and the answers to it written behind those before
pub answered_more : (room : ℕ) (part piece old new : List ℕ) (e₀ e e₁ : Engine) (l₀ l l₁ : ℕ) (o₀ o o₁ : Option (List ℕ)) (at to n : ℕ) (r : Given)
    → Answered part e₀ e l₀ l o₀ o at → piece ≡ drop at part → Feeds piece old new e₁ (fed room e piece) r → Appends o o₁ (take n new) → l₁ ≡ counted_on l (take n new) → n ≡ r.written → to ≡ at + r.consumed
    → Answered part e₀ e₁ l₀ l₁ o₀ o₁ to
unfolding more
answered_more room part piece old new e₀ e e₁ l₀ l l₁ o₀ o o₁ at to n r a same f w l_is n_is to_is =
    subst (Answered part e₀ e₁ l₀ l₁ o₀ o₁) (sym to_is) record {
      within = omega (arith, a.within, f.consumed, ap length same ∙ length-drop at part);
      written = a.written ++ x.written;
      appended = Appends-trans o₀ o o₁ a.written x.written a.appended (subst (Appends o o₁) put w);
      counted = l_is ∙ ap (counted_on l) put ∙ counted_more l₀ l a.written x.written a.counted;
      completed = λ rest. a.completed rest ∙ ap (λ (l : List ℕ). a.written ++ l) (go_on rest) ∙ sym (append_assoc a.written x.written _);
    }
  where
    x : Fed
    x = fed room e piece

    put : take n new ≡ x.written
    put = ap (λ (k : ℕ). take k new) n_is ∙ fed_answers room e e₁ piece old new r f

    rest_is : x.left ≡ drop (at + r.consumed) part
    rest_is =
        (fed_left room e piece).1
        ∙ ap (λ (n : ℕ). drop n piece) (sym f.consumed)
        ∙ ap (drop r.consumed) same
        ∙ drop-drop r.consumed at part

    go_on : (rest : List ℕ) → more e (drop at part ++ rest) ≡ x.written ++ more e₁ (drop (at + r.consumed) part ++ rest)
    go_on rest =
        ap (λ (l : List ℕ). more e (l ++ rest)) (sym same)
        ∙ fed_more room e piece rest
        ∙ ap (λ (d : Engine). x.written ++ more d (x.left ++ rest)) (sym f.engine)
        ∙ ap (λ (l : List ℕ). x.written ++ more e₁ (l ++ rest)) rest_is

-- where the answers to what is fed can't all be written, those to the whole part are begun
pub answers_begun : (room : ℕ) (part piece old new : List ℕ) (e₀ e e₁ : Engine) (l₀ l : ℕ) (o₀ o o₁ : Option (List ℕ)) (failure : Failure) (at n : ℕ) (r : Given)
    → Answered part e₀ e l₀ l o₀ o at → piece ≡ drop at part → Feeds piece old new e₁ (fed room e piece) r → Begun l (take n new) o o₁ failure → n ≡ r.written → (rest : List ℕ) → Begun l₀ (replies e₀ (calls_of (part ++ rest))) o₀ o₁ failure
unfolding more
answers_begun room part piece old new e₀ e e₁ l₀ l o₀ o o₁ failure at n r a same f b n_is rest =
    begun_behind l₀ l (replies e₀ (calls_of (part ++ rest))) a.written (take n new) behind o₀ o o₁ failure a.appended a.counted (a.completed rest ∙ ap (λ (l : List ℕ). a.written ++ l) go_on) b
  where
    x : Fed
    x = fed room e piece

    behind : List ℕ
    behind = more x.engine (x.left ++ rest)

    go_on : more e (drop at part ++ rest) ≡ take n new ++ behind
    go_on =
        ap (λ (l : List ℕ). more e (l ++ rest)) (sym same)
        ∙ fed_more room e piece rest
        ∙ ap (λ (l : List ℕ). l ++ behind) (sym (ap (λ (k : ℕ). take k new) n_is ∙ fed_answers room e e₁ piece old new r f))

-- answers fit into the room for them
pub answers_fit : (room : ℕ) (e e₁ : Engine) (piece old new : List ℕ) (r : Given) → room ≡ length old → Feeds piece old new e₁ (fed room e piece) r → r.written ≤ length old
answers_fit room e e₁ piece old new r q f = omega (arith, f.written, fed_fits room e piece)

-- a piece of which nothing is taken has no whole line
pub none_taken : (room : ℕ) (e e₁ : Engine) (part piece old new : List ℕ) (at to : ℕ) (r : Given) → piece ≡ drop at part → Feeds piece old new e₁ (fed room e piece) r → longest ≤ length old → r.consumed ≡ 0 → to ≡ at + r.consumed
    → feed_at (drop to part) ≡ length (drop to part)
none_taken room e e₁ part piece old new at to r same f l z is =
    let here : to ≡ at = omega arith in
    rw (here, ← same) (go (dec_lt (feed_at piece) (length piece)))
  where
    go : Dec (feed_at piece < length piece) → feed_at piece ≡ length piece
    go (no h) = omega (arith, feed_at_le piece)
    go (yes h) = absurd (omega (arith, f.progress l h))

-- nor has what is left where all is taken
pub none_left : (at : ℕ) (part : List ℕ) → length part ≤ at → feed_at (drop at part) ≡ length (drop at part)
unfolding feed_at
none_left at part l = rw (nil_from_length (drop at part) (length-drop at part ∙ omega arith))

Some_injective : (m n : ℕ) → Some m ≡ Some n → m ≡ n
Some_injective m n q = cc

Some_not_None : (n : ℕ) → Some n ≡ None → ⊥
Some_not_None n q = cc

-- there is room for the answer to a last line without its line feed
module _ (old new : List ℕ) (len : ℕ) (r : Option ℕ) (l : 3 ≤ length old) (a : r ≡ end_answer old 0 (ending len)) (w : new ≡ end_written old 0 (ending len)) where
  few : (n : ℕ) → length (ending n) ≤ 3
  unfolding ending
  few zero = omega arith
  few (suc n) = omega arith

  fits : leb (0 + length (ending len)) (length old) ≡ true
  fits = le-leb (0 + length (ending len)) (length old) (omega (arith, few len))

  ended : r ≡ Some (0 + length (ending len))
  unfolding end_answer
  ended = a ∙ rw fits

  placed_end : new ≡ ending len ++ drop (0 + length (ending len)) old
  unfolding end_written
  placed_end = w ∙ rw fits

  pub end_some : (n : ℕ) → r ≡ Some n → (n ≤ length new) × (take n new ≡ ending len)
  end_some n q =
      let n_is : n ≡ length (ending len) = Some_injective n _ (sym q ∙ ended) ∙ omega arith in
      let long : length new ≡ length (ending len) + length (drop (0 + length (ending len)) old) = ap length placed_end ∙ length-append (ending len) _ in
      (omega (arith, n_is, long), ap (take n) placed_end ∙ take_at (ending len) _ n (sym n_is))

  pub end_none : r ≡ None → ⊥
  end_none q = Some_not_None _ (sym ended ∙ q)

-- ---- a whole input, piece by piece

-- from an engine, a source and an output: what the source has lost by now; what is written, and its lines counted; and, whatever comes behind a part of the input, what the engine now answers to both completes the answers to all that was read and that
pub record Going (e₀ : Engine) (s₀ o₀ : Option (List ℕ)) (e : Engine) (l : ℕ) (s o : Option (List ℕ)) (part : List ℕ) : Type 0 where
  pub read : List ℕ
  pub consumed : Consumes s₀ s read
  pub written : List ℕ
  pub appended : Appends o₀ o written
  pub counted : l ≡ counted_on 0 written
  pub completed : (rest : List ℕ) → replies e₀ (calls_of (read ++ rest)) ≡ written ++ replies e (calls_of (part ++ rest))

pub going_start : (e : Engine) (s o : Option (List ℕ)) (part : List ℕ) → part ≡ [] → Going e s o e 0 s o part
unfolding feeds
going_start e s o part q =
    record { read = []; consumed = Consumes-nil s; written = []; appended = Appends-nil o; counted = omega arith; completed = λ rest. ap (λ (l : List ℕ). replies e (calls_of (l ++ rest))) (sym q) }

-- of a source that had this input, and has this much left
going_known : {e₀ e : Engine} {l : ℕ} {o₀ o : Option (List ℕ)} {part input rest : List ℕ} (g : Going e₀ (Some input) o₀ e l (Some rest) o part) → replies e₀ (calls_of input) ≡ g.written ++ replies e (calls_of (part ++ rest))
going_known {e₀ = e₀} {rest = rest} g = ap (λ (l : List ℕ). replies e₀ (calls_of l)) g.consumed ∙ g.completed rest

ltb-same : (a b : ℕ) → a ≡ b → ltb a b ≡ false
ltb-same a b q = le-ltb a b (omega arith)

-- what is kept of a part without a whole line
more_kept : (e : Engine) (left rest : List ℕ) → feed_at left ≡ length left → more e (kept_of left ++ rest) ≡ more e (left ++ rest)
unfolding kept_of
more_kept e left rest q = rw (ltb-same (feed_at left) (length left) q) (more_capped e left rest (no_feed_of left q))

kept_feedless : (left : List ℕ) → feed_at left ≡ length left → NoFeed (kept_of left)
unfolding kept_of
kept_feedless left q = rw (ltb-same (feed_at left) (length left) q) (no_feed_take kept (no_feed_of left q))

-- a part is answered, and more is read behind what is kept of it
pub going_on : (e₀ e e₁ : Engine) (l l₁ : ℕ) (s₀ s s₁ o₀ o o₁ : Option (List ℕ)) (part got : List ℕ) (taken : ℕ) → Going e₀ s₀ o₀ e l s o part → Answered part e e₁ l l₁ o o₁ taken
    → feed_at (drop taken part) ≡ length (drop taken part) → Consumes s s₁ got → Going e₀ s₀ o₀ e₁ l₁ s₁ o₁ (kept_of (drop taken part) ++ got)
unfolding more
going_on e₀ e e₁ l l₁ s₀ s s₁ o₀ o o₁ part got taken g a q c =
    record {
      read = g.read ++ got;
      consumed = Consumes-trans s₀ s s₁ g.read got g.consumed c;
      written = g.written ++ a.written;
      appended = Appends-trans o₀ o o₁ g.written a.written g.appended a.appended;
      counted = a.counted ∙ counted_more 0 l g.written a.written g.counted;
      completed = λ rest.
          ap (more e₀) (append_assoc g.read got rest)
          ∙ g.completed (got ++ rest)
          ∙ ap (λ (l : List ℕ). g.written ++ l) (a.completed (got ++ rest) ∙ ap (λ (l : List ℕ). a.written ++ l) (sym (more_kept e₁ left (got ++ rest) q) ∙ ap (more e₁) (sym (append_assoc (kept_of left) got rest))))
          ∙ sym (append_assoc g.written a.written _);
    }
  where
    left : List ℕ
    left = drop taken part

-- what the end of the input leaves of a part is a last line without its line feed
last_answer : (e : Engine) (left rest rest₁ : List ℕ) → feed_at left ≡ length left → rest ≡ rest₁ → rest₁ ≡ [] → more e (left ++ rest) ≡ ending (length (kept_of left))
last_answer e left rest rest₁ q c n =
    ap (λ (l : List ℕ). more e (left ++ l)) (c ∙ n) ∙ sym (more_kept e left [] q) ∙ ap (more e) (append-nil (kept_of left)) ∙ more_end e (kept_of left) (kept_feedless left q) ∙ finish_ending e (kept_of left)

-- a part is answered, the source is at its end, and the last line is answered too
pub going_done : (e₀ e e₁ : Engine) (l l₁ : ℕ) (s₀ s s₁ o₀ o o₁ o₂ : Option (List ℕ)) (part : List ℕ) (taken : ℕ) → Going e₀ s₀ o₀ e l s o part → Answered part e e₁ l l₁ o o₁ taken
    → feed_at (drop taken part) ≡ length (drop taken part) → Consumes s s₁ [] → IsAtEnd s₁ → Appends o₁ o₂ (ending (length (kept_of (drop taken part))))
    → IfSome s₀ (λ input. Appends o₀ o₂ (replies e₀ (calls_of input)))
unfolding more
going_done e₀ e e₁ l l₁ None s s₁ o₀ o o₁ o₂ part taken g a q c n w = tt
going_done e₀ e e₁ l l₁ (Some input) None s₁ o₀ o o₁ o₂ part taken g a q c n w = absurd g.consumed
going_done e₀ e e₁ l l₁ (Some input) (Some rest) None o₀ o o₁ o₂ part taken g a q c n w = absurd c
going_done e₀ e e₁ l l₁ (Some input) (Some rest) (Some rest₁) o₀ o o₁ o₂ part taken g a q c n w =
    subst (Appends o₀ o₂) (sym whole) (Appends-trans o₀ o₁ o₂ (g.written ++ a.written) _ (Appends-trans o₀ o o₁ g.written a.written g.appended a.appended) w)
  where
    left : List ℕ
    left = drop taken part

    whole : replies e₀ (calls_of input) ≡ (g.written ++ a.written) ++ ending (length (kept_of left))
    whole = going_known g ∙ ap (λ (l : List ℕ). g.written ++ l) (a.completed rest ∙ ap (λ (l : List ℕ). a.written ++ l) (last_answer e₁ left rest rest₁ q c n)) ∙ sym (append_assoc g.written a.written _)

-- where the answers to the part can't be written, it is held
pub going_drawn : (e₀ e : Engine) (l : ℕ) (s₀ s s₁ o₀ o o₁ : Option (List ℕ)) (part further : List ℕ) (failure : Failure) → Going e₀ s₀ o₀ e l s o part → length part ≤ 65536 → Consumes s s₁ [] → Appends o o₁ further → (IsUnread failure → ⊥)
    → Drawn e₀ s₀ s₁ o₀ o₁ failure
going_drawn e₀ e l s₀ s s₁ o₀ o o₁ part further failure g few c w n =
    record {
      read = g.read;
      consumed = subst (Consumes s₀ s₁) (append-nil g.read) (Consumes-trans s₀ s s₁ g.read [] g.consumed c);
      held = part;
      few = omega (arith, few);
      after = e;
      answered = g.written;
      completed = g.completed;
      further = further;
      appended = Appends-trans o₀ o o₁ g.written further g.appended w;
      unfinished = λ u. absurd (n u);
    }

-- where the part is answered, and no more can be read, what is left of it is held
pub going_left : (e₀ e e₁ : Engine) (l l₁ : ℕ) (s₀ s s₁ o₀ o o₁ : Option (List ℕ)) (part : List ℕ) (taken : ℕ) (failure : Failure) → Going e₀ s₀ o₀ e l s o part → Answered part e e₁ l l₁ o o₁ taken → feed_at (drop taken part) ≡ length (drop taken part)
    → length part ≤ 65536 → Consumes s s₁ [] → Drawn e₀ s₀ s₁ o₀ o₁ failure
going_left e₀ e e₁ l l₁ s₀ s s₁ o₀ o o₁ part taken failure g a q few c =
    record {
      read = g.read;
      consumed = subst (Consumes s₀ s₁) (append-nil g.read) (Consumes-trans s₀ s s₁ g.read [] g.consumed c);
      held = drop taken part;
      few = omega (arith, few, length-drop taken part);
      after = e₁;
      answered = g.written ++ a.written;
      completed = λ rest. g.completed rest ∙ ap (λ (l : List ℕ). g.written ++ l) (a.completed rest) ∙ sym (append_assoc g.written a.written _);
      further = [];
      appended = subst (Appends o₀ o₁) (sym (append-nil (g.written ++ a.written))) (Appends-trans o₀ o o₁ g.written a.written g.appended a.appended);
      unfinished = λ u. (q, refl);
    }

-- what fails with the answers to a part, and all that is left behind it, fails with those to the whole input
pub going_failed : (e₀ e : Engine) (l : ℕ) (s₀ s o₀ o o₁ : Option (List ℕ)) (part : List ℕ) (failure : Failure) → Going e₀ s₀ o₀ e l s o part → IfSome s (λ rest. Begun l (replies e (calls_of (part ++ rest))) o o₁ failure)
    → IfSome s₀ (λ input. Begun 0 (replies e₀ (calls_of input)) o₀ o₁ failure)
going_failed e₀ e l None s o₀ o o₁ part failure g b = tt
going_failed e₀ e l (Some input) None o₀ o o₁ part failure g b = absurd g.consumed
going_failed e₀ e l (Some input) (Some rest) o₀ o o₁ part failure g b =
    begun_behind 0 l _ g.written _ [] o₀ o o₁ failure g.appended g.counted (going_known g ∙ ap (λ (r : List ℕ). g.written ++ r) (sym (append-nil _))) b

-- the answers to the part can't all be written
pub going_short : (e₀ e : Engine) (l : ℕ) (s₀ s o₀ o o₁ : Option (List ℕ)) (part : List ℕ) (failure : Failure) → Going e₀ s₀ o₀ e l s o part → ((rest : List ℕ) → Begun l (replies e (calls_of (part ++ rest))) o o₁ failure)
    → IfSome s₀ (λ input. Begun 0 (replies e₀ (calls_of input)) o₀ o₁ failure)
going_short e₀ e l s₀ s o₀ o o₁ part failure g b = going_failed e₀ e l s₀ s o₀ o o₁ part failure g (if_known s b)

-- the part is answered, and no more can be read
pub going_unread : (e₀ e e₁ : Engine) (l l₁ : ℕ) (s₀ s o₀ o o₁ : Option (List ℕ)) (part : List ℕ) (taken : ℕ) (failure : Failure) → Going e₀ s₀ o₀ e l s o part → Answered part e e₁ l l₁ o o₁ taken → lines_of failure ≡ l₁
    → IfSome s₀ (λ input. Begun 0 (replies e₀ (calls_of input)) o₀ o₁ failure)
going_unread e₀ e e₁ l l₁ s₀ s o₀ o o₁ part taken failure g a t =
    going_short e₀ e l s₀ s o₀ o o₁ part failure g (λ rest. record { written = a.written; begins = starts_so _ a.written _ (a.completed rest); appended = a.appended; told = t ∙ a.counted })

-- the source is at its end, and the answer to the last line can't be written
last_failed : (e e₁ : Engine) (l l₁ : ℕ) (s s₁ o o₁ o₂ : Option (List ℕ)) (part : List ℕ) (taken : ℕ) (failure : Failure) → Answered part e e₁ l l₁ o o₁ taken → feed_at (drop taken part) ≡ length (drop taken part)
    → Consumes s s₁ [] → IsAtEnd s₁ → Begun l₁ (ending (length (kept_of (drop taken part)))) o₁ o₂ failure → IfSome s (λ rest. Begun l (replies e (calls_of (part ++ rest))) o o₂ failure)
unfolding more
last_failed e e₁ l l₁ None s₁ o o₁ o₂ part taken failure a q c n b = tt
last_failed e e₁ l l₁ (Some rest) None o o₁ o₂ part taken failure a q c n b = absurd c
last_failed e e₁ l l₁ (Some rest) (Some rest₁) o o₁ o₂ part taken failure a q c n b =
    let left : List ℕ = drop taken part in
    begun_behind l l₁ _ a.written (ending (length (kept_of left))) [] o o₁ o₂ failure a.appended a.counted
    (a.completed rest ∙ ap (λ (r : List ℕ). a.written ++ r) (last_answer e₁ left rest rest₁ q c n ∙ sym (append-nil _))) b

-- ---- the same of a buffer that holds a part of the input

between_is : (input : List ℕ) (taken filled : ℕ) → between input taken filled ≡ drop taken (take filled input)
unfolding between
between_is input taken filled =
    let end : ℕ = min filled (length input) in
    sym (drop-take_min input end taken (min taken end) refl) ∙ ap (drop taken) (take_min filled input)

-- what is kept of a part is at the start, and what is read stands behind it
module _ (e₀ e e₁ : Engine) (l₀ l₁ : ℕ) (s₀ s s₁ o₀ o o₁ : Option (List ℕ)) (input front read : List ℕ) (taken filled k place : ℕ)
    (g : Going e₀ s₀ o₀ e l₀ s o (take filled input)) (a : Answered (take filled input) e e₁ l₀ l₁ o o₁ taken)
    (q : feed_at (drop taken (take filled input)) ≡ length (drop taken (take filled input)))
    (many : k ≡ length (kept_of (between input taken filled))) (moved : front ≡ kept_of (between input taken filled) ++ drop k input)
    (l : k ≤ place) (same : take k read ≡ take k front) (c : Consumes s s₁ (drop k (take place read))) where
  abbrev left : List ℕ
  left = drop taken (take filled input)

  kept_is : kept_of (between input taken filled) ≡ kept_of left
  kept_is = ap kept_of (between_is input taken filled)

  front_is : take k (take place read) ≡ kept_of left
  front_is =
      take-take k place read l
      ∙ same
      ∙ ap (take k) moved
      ∙ take_at (kept_of (between input taken filled)) (drop k input) k (sym many)
      ∙ kept_is

  pub turned : (filled₁ : ℕ) → filled₁ ≡ place → Going e₀ s₀ o₀ e₁ l₁ s₁ o₁ (take filled₁ read)
  turned filled₁ is =
      subst (λ (n : ℕ). Going e₀ s₀ o₀ e₁ l₁ s₁ o₁ (take n read)) (sym is)
      (subst (Going e₀ s₀ o₀ e₁ l₁ s₁ o₁) (ap (λ (xs : List ℕ). xs ++ drop k (take place read)) (sym front_is) ∙ take-append-drop k (take place read))
      (going_on e₀ e e₁ l₀ l₁ s₀ s s₁ o₀ o o₁ (take filled input) (drop k (take place read)) taken g a q c))

  none_read : place ≤ k → Consumes s s₁ []
  none_read f = subst (Consumes s s₁) (nil_from_length (drop k (take place read)) (length-drop k (take place read) ∙ omega (arith, l, f, length-take place read))) c

  pub ended_by : (o₂ : Option (List ℕ)) (m : ℕ) → place ≤ k → IsAtEnd s₁ → m ≡ k → Appends o₁ o₂ (ending m) → IfSome s₀ (λ text. Appends o₀ o₂ (replies e₀ (calls_of text)))
  ended_by o₂ m f n is w =
      going_done e₀ e e₁ l₀ l₁ s₀ s s₁ o₀ o o₁ o₂ (take filled input) taken g a q (none_read f) n (subst (λ (m : ℕ). Appends o₁ o₂ (ending m)) (is ∙ many ∙ ap length kept_is) w)

  pub ended_short : (o₂ : Option (List ℕ)) (m : ℕ) → place ≤ k → IsAtEnd s₁ → m ≡ k → (failure : Failure) → Begun l₁ (ending m) o₁ o₂ failure → IfSome s₀ (λ text. Begun 0 (replies e₀ (calls_of text)) o₀ o₂ failure)
  ended_short o₂ m f n is failure b =
      let last : Begun l₁ (ending (length (kept_of left))) o₁ o₂ failure = subst (λ (m : ℕ). Begun l₁ (ending m) o₁ o₂ failure) (is ∙ many ∙ ap length kept_is) b in
      going_failed e₀ e l₀ s₀ s o₀ o o₂ (take filled input) failure g (last_failed e e₁ l₀ l₁ s s₁ o o₁ o₂ (take filled input) taken failure a q (none_read f) n last)

  pub ended_drawn : (o₂ : Option (List ℕ)) (m : ℕ) → place ≤ k → filled ≤ 65536 → (failure : Failure) → Begun l₁ (ending m) o₁ o₂ failure × (IsUnread failure → ⊥) → Drawn e₀ s₀ s₁ o₀ o₂ failure
  ended_drawn o₂ m f few failure (b, n) =
      going_drawn e₀ e l₀ s₀ s s₁ o₀ o o₂ (take filled input) (a.written ++ b.written) failure g (omega (arith, few, length-take filled input)) (none_read f) (Appends-trans o o₁ o₂ a.written b.written a.appended b.appended) n

-- so little is kept of a part without a whole line that there is room behind it
pub room_behind : (input : List ℕ) (taken filled k : ℕ) → feed_at (drop taken (take filled input)) ≡ length (drop taken (take filled input)) → k ≡ length (kept_of (between input taken filled)) → k ≤ kept
unfolding kept_of
room_behind input taken filled k q m =
    let left : List ℕ = drop taken (take filled input) in
    let few : kept_of left ≡ take kept left = rw (ltb-same (feed_at left) (length left) q) in
    omega (arith, m, ap (λ (l : List ℕ). length (kept_of l)) (between_is input taken filled), ap length few, length-take kept left)
