-- What the tables of the digits make of an input: a pair is the number of its two digits, the frame that an input begins with is the call of its first line,
-- and so the next line is what `call_of` says of it.
-- Assumes nothing.
use Prim.Native.Nat.{ℕ, zero, suc, min, ◌+◌, ◌-◌, ◌*◌, ◌/◌, ◌≤◌, ◌<◌}
use mathlib.Core.Path.{◌≡◌, refl, ap, sym, ◌∙◌}
use mathlib.Core.Bool.{Bool, true, false, cond, ◌&&◌, and_assoc, true≢false}
use mathlib.Core.List.{List, [], ◌∷◌, ◌++◌}
use mathlib.Core.Logic.{inl, inr}
use native.Mathlib.Nat.{suc-add, zero-add}
use native.Mathlib.Numerals.{add-one}
use native.Mathlib.Decide.{dec_lt}
use native.Mathlib.Omega.{arith}
use mir.Syntax.{w8}
use mir.Val.{Fits}
use lib.Dec.{ltb, eqb, leb}
use lib.ListN.{length, get_or, take, drop, length-drop, length-append}
use lib.Seq.{take-nil, take-add, take-take, drop-cons, drop-drop, drop_at, take_at, get_or-drop, get_or_at, length-take-le}
use Rattle.std.specs.Prelude.{Option, Some, None}
use borrow.Author.Tests.{lt-ltb, le-ltb, eq-eqb, le-leb, eqb-true, leb-true}
use Rattle.sets.specs.Sets.{count}
use Rattle.sets.proofs.Laws.{and_both, count_all}
use Rattle.model.specs.declared.calls.Change.TheVariants.{Assign, Withdraw, Permit, Revoke, Forward, Mandate}
use Rattle.model.specs.declared.calls.Product.TheVariants.{Server, TermBank}
use Rattle.model.specs.declared.calls.Ask.TheVariants.{Open, Conflicting, Add, Show}
use Rattle.model.specs.declared.calls.Call.{Call}
use Rattle.model.specs.declared.calls.Call.TheVariants.{Table, Session, Read, Unreadable}
use Rattle.protocol.specs.Digits.{digit, all_digits, number_from, number}
use Rattle.protocol.specs.Lines.{line_feed, field, rest_digits, called_by, called, frame, call_of}
use Rattle.protocol.specs.Run.{feed_at}
use Rattle.protocol.proofs.Laws.{feed_at_here, feed_at_later, feed_at_le, feed_there}
use Rattle.digits.specs.Tables.{high_table, low_table}
use Rattle.digits.proofs.Meaning.{Two, pair_read}
use Rattle.kinds.proofs.Laws.{unknown}
use Rattle.decoding.specs.declared.read.Frame.{Frame}
use Rattle.decoding.specs.Fields.{pair_at, pairs_right, pairs_number, ended_by}
use Rattle.decoding.specs.Frames.{is_frame, call_by, frame_by, line_by, next_by, LineAt}
use Rattle.decoding.proofs.Reading.{ended_right, ended_parts, begins, begun_parts, frame_by_is, by_kind}

-- ---- bytes

-- every element is a byte, as the borrow checker says it of a `&[u8]`
abbrev pub Bytes : List ℕ → Type 0
Bytes s = (i : ℕ) → Fits w8 (get_or s i 0)

bytes_drop : (n : ℕ) (s : List ℕ) → Bytes s → Bytes (drop n s)
bytes_drop n s b i = rw (get_or-drop n s i 0) (b (n + i))

bytes_feed : (s : List ℕ) → Bytes s → Bytes (s ++ (line_feed ∷ []))
bytes_feed [] b zero = record { fits = omega arith }
bytes_feed [] b (suc i) = record { fits = omega arith }
bytes_feed (x ∷ s) b zero = b 0
bytes_feed (x ∷ s) b (suc i) = bytes_feed s (λ j. b (suc j)) i

-- ---- two digits

take_two : (s : List ℕ) (at : ℕ) → at + 2 ≤ length s → take 2 (drop at s) ≡ get_or s at 0 ∷ get_or s (at + 1) 0 ∷ []
take_two s at h =
    let e : at < length s = omega arith in
    let f : at + 1 < length s = omega arith in
    let d : drop at s ≡ get_or s at 0 ∷ drop (at + 1) s = rw (add-one at) (drop-cons s at 0 e) in
    rw (d, drop-cons s (at + 1) 0 f)

pair_two : (s : List ℕ) (at : ℕ) → Bytes s → at + 2 ≤ length s → Two (take 2 (drop at s)) (pair_at high_table low_table s at)
unfolding pair_at
pair_two s at b h =
    rw (take_two s at h)
    (pair_read (get_or s at 0) (get_or s (at + 1) 0) (omega (arith, b at)) (omega (arith, b (at + 1))))

-- ---- all digits, part by part

all_append : (a b : List ℕ) → all_digits (a ++ b) ≡ (all_digits a && all_digits b)
unfolding all_digits
all_append [] b = refl
all_append (x ∷ a) b = rw (all_append a b) (sym (and_assoc (ltb (digit x) 16) (all_digits a) (all_digits b)))

all_take : (k n : ℕ) (s : List ℕ) → all_digits (take (k + n) s) ≡ (all_digits (take k s) && all_digits (take n (drop k s)))
all_take k n s = ap all_digits (take-add k n s) ∙ all_append (take k s) (take n (drop k s))

all_part : (k m n : ℕ) (s : List ℕ) → k + m ≤ n → all_digits (take n s) ≡ true → all_digits (take m (drop k s)) ≡ true
all_part k m n s h d =
    let e : n ≡ k + m + (n - (k + m)) = omega arith in
    let f : (all_digits (take (k + m) s) && all_digits (take (n - (k + m)) (drop (k + m) s))) ≡ true = sym (all_take (k + m) (n - (k + m)) s) ∙ ap (λ i. all_digits (take i s)) (sym e) ∙ d in
    (and_both (all_digits (take k s)) _ (sym (all_take k m s) ∙ (and_both (all_digits (take (k + m) s)) _ f).0)).1

number_append : (done : ℕ) (a b : List ℕ) → number_from done (a ++ b) ≡ number_from (number_from done a) b
unfolding number_from
number_append done [] b = refl
number_append done (x ∷ a) b = number_append (done * 16 + digit x) a b

number_two : (done : ℕ) (s : List ℕ) (i : ℕ) → i + 2 ≤ length s → number_from done (take 2 (drop i s)) ≡ done * 256 + number_from 0 (take 2 (drop i s))
unfolding number_from
number_two done s i h = rw (take_two s i h) (omega arith)

-- n pairs are 2 * n digits
pairs_digits : (n : ℕ) (s : List ℕ) → Bytes s → 2 * n ≤ length s → pairs_right high_table low_table s n ≡ all_digits (take (2 * n) s)
unfolding pairs_right all_digits
pairs_digits zero s b h = refl
pairs_digits (suc n) s b h =
    let e : 2 * suc n ≡ 2 * n + 2 = omega arith in
    rw (e, all_take (2 * n) 2 s, pairs_digits n s b (omega arith), (pair_two s (2 * n) b (omega arith)).test)

pairs_number_is : (n : ℕ) (s : List ℕ) → Bytes s → 2 * n ≤ length s → all_digits (take (2 * n) s) ≡ true → pairs_number high_table low_table s n ≡ number (take (2 * n) s)
unfolding pairs_number number number_from
pairs_number_is zero s b h d = refl
pairs_number_is (suc n) s b h d =
    let e : 2 * suc n ≡ 2 * n + 2 = omega arith in
    let w : 2 * n + 2 ≤ length s = omega arith in
    let f = and_both (all_digits (take (2 * n) s)) (all_digits (take 2 (drop (2 * n) s))) (sym (all_take (2 * n) 2 s) ∙ (rw e at d)) in
    rw (
      e,
      take-add (2 * n) 2 s,
      number_append 0 (take (2 * n) s) (take 2 (drop (2 * n) s)),
      number_two (number_from 0 (take (2 * n) s)) s (2 * n) w,
      pairs_number_is n s b (omega arith) f.0,
      (pair_two s (2 * n) b w).value f.1,
    )

-- ---- fields

field_at : (i : ℕ) (s : List ℕ) → field s i ≡ number (take 2 (drop (2 * i) s))
unfolding field
field_at zero s = refl
field_at (suc i) s = let e : 2 + 2 * i ≡ 2 * suc i = omega arith in field_at i (drop 2 s) ∙ rw (drop-drop (2 * i) 2 s, e)

cut_drop : (k m : ℕ) (s : List ℕ) → drop k (take (k + m) s) ≡ take m (drop k s)
cut_drop zero m s = rw (zero-add m)
cut_drop (suc k) m [] = rw (take-nil {A = ℕ} (suc k + m), take-nil {A = ℕ} m)
cut_drop (suc k) m (x ∷ s) = rw (suc-add k m) (cut_drop k m s)

-- of a rest that has n digits
module _ (s : List ℕ) (n : ℕ) (bytes : Bytes s) (within : n ≤ length s) (digits : all_digits (take n s) ≡ true) where
  field_pair : (i : ℕ) → 2 * i + 2 ≤ n → pair_at high_table low_table s (2 * i) ≡ field (take n s) i
  field_pair i h =
      let e : n ≡ 2 * i + (n - 2 * i) = omega arith in
      let w : 2 ≤ n - 2 * i = omega arith in
      let c : drop (2 * i) (take n s) ≡ take (n - 2 * i) (drop (2 * i) s) = ap (λ j. drop (2 * i) (take j s)) e ∙ cut_drop (2 * i) (n - 2 * i) s in
      (pair_two s (2 * i) bytes (omega arith)).value (all_part (2 * i) 2 n s h digits) ∙ sym (field_at i (take n s) ∙ rw (c, take-take 2 (n - 2 * i) (drop (2 * i) s) w))

  set_pairs : n ≡ 20 → pairs_number high_table low_table (drop 4 s) 8 ≡ number (drop 4 (take n s))
  set_pairs e =
      let l : 20 ≤ length s = omega arith in
      let d : all_digits (take 20 s) ≡ true = rw e at digits in
      rw (e, cut_drop 4 16 s) (pairs_number_is 8 (drop 4 s) (bytes_drop 4 s bytes) (omega (arith, length-drop 4 s)) (all_part 4 16 20 s (omega arith) d))

-- ---- kinds

-- a kind up to 16 has an even number of digits behind it, and 0 alone has none
kind_digits : (k : ℕ) → k < 17 → (2 * (rest_digits k / 2) ≡ rest_digits k) × (min k 1 ≤ rest_digits k)
unfolding rest_digits count
kind_digits k h =
    let t = and_both (eqb (2 * (rest_digits k / 2)) (rest_digits k)) _ (count_all 17 (λ j. eqb (2 * (rest_digits j / 2)) (rest_digits j) && leb (min j 1) (rest_digits j)) (omega arith) k h) in
    (eqb-true _ _ t.0, leb-true _ _ t.1)

-- a call looks only at the fields that its kind has
module _ (f g : ℕ → ℕ) (m n : ℕ) where
  one : (C : ℕ → Call) → ((i : ℕ) → 2 * i + 2 ≤ 2 → f i ≡ g i) → C (f 0) ≡ C (g 0)
  one C p = rw (p 0 (omega arith))

  two : (C : ℕ → ℕ → Call) → ((i : ℕ) → 2 * i + 2 ≤ 4 → f i ≡ g i) → C (f 0) (f 1) ≡ C (g 0) (g 1)
  two C p = rw (p 0 (omega arith), p 1 (omega arith))

  four : (C : ℕ → ℕ → ℕ → ℕ → Call) → ((i : ℕ) → 2 * i + 2 ≤ 8 → f i ≡ g i) → C (f 0) (f 1) (f 2) (f 3) ≡ C (g 0) (g 1) (g 2) (g 3)
  four C p = rw (p 0 (omega arith), p 1 (omega arith), p 2 (omega arith), p 3 (omega arith))

  with_set : (C : ℕ → ℕ → ℕ → Call) → ((i : ℕ) → 2 * i + 2 ≤ 20 → f i ≡ g i) → m ≡ n → C (f 0) (f 1) m ≡ C (g 0) (g 1) n
  with_set C p q = rw (p 0 (omega arith), p 1 (omega arith), q)

  called_same : (k : ℕ) → k < 17 → ((i : ℕ) → 2 * i + 2 ≤ rest_digits k → f i ≡ g i) → (rest_digits k ≡ 20 → m ≡ n) → called_by k f m ≡ called_by k g n
  unfolding rest_digits called_by
  called_same =
      by_kind (λ k. ((i : ℕ) → 2 * i + 2 ≤ rest_digits k → f i ≡ g i) → (rest_digits k ≡ 20 → m ≡ n) → called_by k f m ≡ called_by k g n)
      (λ p q. refl)
      (λ p q. two (λ a b. Table (Assign a b)) p)
      (λ p q. two (λ a b. Table (Withdraw a b)) p)
      (λ p q. two (λ a b. Table (Permit a b)) p)
      (λ p q. two (λ a b. Table (Revoke a b)) p)
      (λ p q. two (λ a b. Table (Forward a b)) p)
      (λ p q. one (λ a. Session Server a Open) p)
      (λ p q. two (λ a b. Session Server a (Conflicting b)) p)
      (λ p q. with_set (λ a b c. Session Server a (Add b c)) p (q refl))
      (λ p q. four (Read Server) p)
      (λ p q. two (λ a b. Session Server a (Show b)) p)
      (λ p q. one (λ a. Session TermBank a Open) p)
      (λ p q. two (λ a b. Session TermBank a (Conflicting b)) p)
      (λ p q. with_set (λ a b c. Session TermBank a (Add b c)) p (q refl))
      (λ p q. four (Read TermBank) p)
      (λ p q. two (λ a b. Session TermBank a (Show b)) p)
      (λ p q. two (λ a b. Table (Mandate a b)) p)

known_kind : (k : ℕ) (f : ℕ → ℕ) (m : ℕ) → is_frame (called_by k f m) ≡ true → (1 ≤ k) × (k < 17)
unfolding is_frame
known_kind k f m e = go (dec_lt k 1) (dec_lt 16 k)
  where
    go : Dec (k < 1) → Dec (16 < k) → (1 ≤ k) × (k < 17)
    go (yes l) h = absurd (true≢false (sym e ∙ ap is_frame (unknown k f m (inl l))))
    go (no l) (yes h) = absurd (true≢false (sym e ∙ ap is_frame (unknown k f m (inr h))))
    go (no l) (no h) = (omega (arith, l), omega (arith, h))

-- ---- an input that begins with the digits of a frame and a line feed

record Framed (d : List ℕ) (k : ℕ) : Type 0 where
  pub long : 2 ≤ length d
  pub kind : all_digits (take 2 d) ≡ true
  pub is : number (take 2 d) ≡ k
  pub known : k < 17
  pub within : rest_digits k < length (drop 2 d)
  pub feed : get_or (drop 2 d) (rest_digits k) 0 ≡ line_feed
  pub digits : all_digits (take (rest_digits k) (drop 2 d)) ≡ true

digit_feed : (b : ℕ) → ltb (digit b) 16 ≡ true → b ≡ line_feed → ⊥
unfolding digit
digit_feed b t e = true≢false (sym t ∙ ap (λ x. ltb (digit x) 16) e)

-- digits are no line feeds
feed_behind : (n : ℕ) (s : List ℕ) → n < length s → get_or s n 0 ≡ line_feed → all_digits (take n s) ≡ true → feed_at s ≡ n
unfolding all_digits
feed_behind zero [] l f d = absurd (omega arith)
feed_behind zero (b ∷ s) l f d = feed_at_here b s f
feed_behind (suc n) [] l f d = absurd (omega arith)
feed_behind (suc n) (b ∷ s) l f d =
    let p = and_both (ltb (digit b) 16) (all_digits (take n s)) d in
    feed_at_later b s (digit_feed b p.0) ∙ ap suc (feed_behind n s (omega arith) f p.1)

call_parts : (k : ℕ) (line rest : List ℕ) → all_digits line ≡ true → number (take 2 line) ≡ k → drop 2 line ≡ rest → length rest ≡ rest_digits k → call_of line ≡ called k rest
unfolding call_of frame
call_parts k line rest d e f l = rw (d, e, f, eq-eqb (length rest) (rest_digits k) l)

module _ (d : List ℕ) (k : ℕ) (framed : Framed d k) where
  line_digits : all_digits (take (2 + rest_digits k) d) ≡ true
  line_digits = all_take 2 (rest_digits k) d ∙ rw (framed.kind, framed.digits)

  framed_feed : feed_at d ≡ 2 + rest_digits k
  framed_feed = feed_behind (2 + rest_digits k) d (omega (arith, framed.within, length-drop 2 d)) (sym (get_or-drop 2 d (rest_digits k) 0) ∙ framed.feed) line_digits

  module _ (bytes : Bytes d) where
    framed_kind : pair_at high_table low_table d 0 ≡ k
    framed_kind = (pair_two d 0 bytes framed.long).value framed.kind ∙ framed.is

    framed_call : call_by high_table low_table d ≡ call_of (take (2 + rest_digits k) d)
    unfolding call_by called
    framed_call =
        let n : ℕ = rest_digits k in
        let rest : List ℕ = drop 2 d in
        let few : n ≤ length rest = omega (arith, framed.within) in
        let at_two : 2 ≤ 2 + n = omega arith in
        rw framed_kind
        (called_same (λ i. pair_at high_table low_table rest (2 * i)) (field (take n rest)) (pairs_number high_table low_table (drop 4 rest) 8) (number (drop 4 (take n rest))) k framed.known
        (field_pair rest n (bytes_drop 2 d bytes) few framed.digits) (set_pairs rest n (bytes_drop 2 d bytes) few framed.digits))
        ∙ sym (call_parts k (take (2 + n) d) (take n rest) line_digits (rw (take-take 2 (2 + n) d at_two) framed.is)
        (ap (drop 2) (take-add 2 n d) ∙ drop_at (take 2 d) (take n rest) 2 (length-take-le 2 d framed.long)) (length-take-le n rest few))

-- what is read as one is one
framed_by : (d : List ℕ) → Bytes d → begins high_table low_table d ≡ true → Framed d (pair_at high_table low_table d 0)
unfolding call_by
framed_by d b e =
    let begun = begun_parts high_table low_table d e in
    let k : ℕ = pair_at high_table low_table d 0 in
    let known = (known_kind k _ _ begun.known).1 in
    let even : 2 * (rest_digits k / 2) ≡ rest_digits k = (kind_digits k known).0 in
    let two = pair_two d 0 b begun.long in
    let kind : all_digits (take 2 d) ≡ true = sym two.test ∙ lt-ltb k 256 (omega arith) in
    let parts = ended_parts high_table low_table (drop 2 d) (rest_digits k / 2) begun.ended in
    let rest = bytes_drop 2 d b in
    record {
      long = begun.long;
      kind = kind;
      is = sym (two.value kind);
      known = known;
      within = rw even at parts.0;
      feed = rw even at parts.1;
      digits = rw even at (sym (pairs_digits (rest_digits k / 2) (drop 2 d) rest (omega (arith, parts.0))) ∙ parts.2);
    }

-- and what is one is read as one
framed_begins : (d : List ℕ) (k : ℕ) → Bytes d → Framed d k → is_frame (call_of (take (2 + rest_digits k) d)) ≡ true → begins high_table low_table d ≡ true
unfolding begins
framed_begins d k b f e =
    let n : ℕ = rest_digits k / 2 in
    let even : rest_digits k ≡ 2 * n = sym (kind_digits k f.known).0 in
    let within : 2 * n < length (drop 2 d) = rw even at f.within in
    let ended : ended_by high_table low_table (drop 2 d) n ≡ true = ended_right high_table low_table (drop 2 d) n within (rw even at f.feed)
    (pairs_digits n (drop 2 d) (bytes_drop 2 d b) (omega arith) ∙ (rw even at f.digits)) in
    rw (le-leb 2 (length d) f.long, framed_call d k f b, e, framed_kind d k f b, ended)

-- a line that is a frame has the digits of its kind, and no more
record Whole (line : List ℕ) (k : ℕ) : Type 0 where
  pub all : all_digits line ≡ true
  pub size : length line ≡ 2 + rest_digits k
  pub known : k < 17

whole_frame : (line : List ℕ) → is_frame (call_of line) ≡ true → Whole line (number (take 2 line))
unfolding call_of frame is_frame called
whole_frame line e = go (all_digits line) refl (eqb (length (drop 2 line)) (rest_digits k)) refl e
  where
    k : ℕ
    k = number (take 2 line)

    go : (t : Bool) → all_digits line ≡ t → (u : Bool) → eqb (length (drop 2 line)) (rest_digits k) ≡ u
        → is_frame (cond t (cond u (called k (drop 2 line)) Unreadable) Unreadable) ≡ true → Whole line k
    go true d true l f =
        let n : length (drop 2 line) ≡ rest_digits k = eqb-true (length (drop 2 line)) (rest_digits k) l in
        let known = known_kind k _ _ f in
        record { all = d; size = omega (arith, length-drop 2 line, known.0, (kind_digits k known.1).1); known = known.1 }
    go true d false l f = absurd (true≢false (sym f))
    go false d u l f = absurd (true≢false (sym f))

-- where a line stands that is a frame, the input begins with that frame
framed_here : (d : List ℕ) (m : ℕ) → m < length d → get_or d m 0 ≡ line_feed → is_frame (call_of (take m d)) ≡ true
    → (Framed d (number (take 2 (take m d)))) × (m ≡ 2 + rest_digits (number (take 2 (take m d))))
framed_here d m l f e =
    let k : ℕ = number (take 2 (take m d)) in
    let w = whole_frame (take m d) e in
    let few : m ≤ length d = omega arith in
    let size : m ≡ 2 + rest_digits k = sym (length-take-le m d few) ∙ w.size in
    let two : 2 ≤ m = omega arith in
    let all : (all_digits (take 2 d) && all_digits (take (rest_digits k) (drop 2 d))) ≡ true = sym (all_take 2 (rest_digits k) d) ∙ ap (λ i. all_digits (take i d)) (sym size) ∙ w.all in
    let parts = and_both (all_digits (take 2 d)) _ all in (
      record {
        long = omega arith;
        kind = parts.0;
        is = ap number (sym (take-take 2 m d two));
        known = w.known;
        within = omega (arith, length-drop 2 d);
        feed = get_or-drop 2 d (rest_digits k) 0 ∙ ap (λ i. get_or d i 0) (sym size) ∙ f;
        digits = parts.1;
      },
      size,
    )

here_begins : (d : List ℕ) (m : ℕ) → Bytes d → m < length d → get_or d m 0 ≡ line_feed → is_frame (call_of (take m d)) ≡ true → begins high_table low_table d ≡ true
here_begins d m b l f e = let h = framed_here d m l f e in framed_begins d _ b h.0 (ap (λ i. is_frame (call_of (take i d))) (sym h.1) ∙ e)

no_frame_call : (c : Call) → (is_frame c ≡ true → ⊥) → Unreadable ≡ c
unfolding is_frame
no_frame_call (Table c) e = absurd (e refl)
no_frame_call (Session p s a) e = absurd (e refl)
no_frame_call (Read p u s f d) e = absurd (e refl)
no_frame_call Unreadable e = refl

-- ---- the next line

feed_byte : (s : List ℕ) → feed_at s < length s → get_or s (feed_at s) 0 ≡ line_feed
feed_byte s l =
    let few : feed_at s ≤ length s = omega arith in
    ap (λ x. get_or x (feed_at s) 0) (feed_there s l) ∙ get_or_at (take (feed_at s) s) line_feed (drop (suc (feed_at s)) s) 0 (feed_at s) (length-take-le (feed_at s) s few)

-- for whoever lends the tables of the digits
pub next_right : (s : List ℕ) (at : ℕ) → Bytes s → LineAt s at (next_by high_table low_table s at)
unfolding next_by line_by
next_right s at bytes = frame_by_is high_table low_table d (λ o. LineAt s at (line_by s at o)) (λ e. other (dec_lt (at + feed_at d) (length s)) e) (λ e.
    let framed = framed_by d b e in
    let feed = framed_feed d _ framed in
    rw (← feed)
    (record {
      place = refl;
      inside = omega (arith, framed.within, length-drop 2 d, length-drop at s);
      call = framed_call d _ framed b ∙ ap (λ i. call_of (take i d)) (sym feed);
    }))
  where
    d : List ℕ
    d = drop at s

    b : Bytes d
    b = bytes_drop at s bytes

    other : Dec (at + feed_at d < length s) → begins high_table low_table d ≡ false → LineAt s at (line_by s at None)
    other (yes l) e =
        let m : feed_at d < length d = omega (arith, length-drop at s) in
        rw (lt-ltb (at + feed_at d) (length s) l)
        (record { place = refl; inside = l; call = no_frame_call _ (λ h. true≢false (sym (here_begins d (feed_at d) b m (feed_byte d m) h) ∙ e)) })
    other (no l) e = rw (le-ltb (at + feed_at d) (length s) (omega (arith, l))) (omega (arith, l, feed_at_le d, length-drop at s))

-- ---- a line by itself

empty_line : (line : List ℕ) → 0 ≡ length line → Unreadable ≡ call_of line
unfolding call_of all_digits frame number number_from rest_digits called called_by
empty_line [] e = refl
empty_line (b ∷ line) e = absurd (omega arith)

module _ (line : List ℕ) (bytes : Bytes line) {high low framed : List ℕ} {r : Option Frame} (highs : high ≡ high_table) (lows : low ≡ low_table) (fed : framed ≡ line ++ (line_feed ∷ [])) (given : r ≡ frame_by high low framed) where
  read : r ≡ frame_by high_table low_table (line ++ (line_feed ∷ []))
  read = rw (← fed, ← highs, ← lows) given

  front : take (length line) (line ++ (line_feed ∷ [])) ≡ line
  front = take_at line (line_feed ∷ []) (length line) refl

  pub line_found : {f : Frame} → r ≡ Some f → f.digits ≡ length line → f.call ≡ call_of line
  line_found {f} q h =
      frame_by_is high_table low_table (line ++ (line_feed ∷ [])) (λ o. Some f ≡ o → f.call ≡ call_of line) (λ e p. absurd cc)
      (λ e p.
      let c : f.call ≡ call_by high_table low_table (line ++ (line_feed ∷ [])) = cc in
      let d : f.digits ≡ 2 + rest_digits (pair_at high_table low_table (line ++ (line_feed ∷ [])) 0) = cc in
      c ∙ framed_call _ _ (framed_by _ (bytes_feed line bytes) e) (bytes_feed line bytes) ∙ ap call_of (ap (λ n. take n (line ++ (line_feed ∷ []))) (sym d ∙ h) ∙ front))
      (sym q ∙ read)

  -- no frame is as long as the line
  line_other : ((f : Frame) → r ≡ Some f → f.digits ≡ length line → ⊥) → Unreadable ≡ call_of line
  line_other n =
      let d : List ℕ = line ++ (line_feed ∷ []) in
      let b : Bytes d = bytes_feed line bytes in
      let l : length line < length d = omega (arith, length-append line (line_feed ∷ [])) in
      let g : get_or d (length line) 0 ≡ line_feed = get_or_at line line_feed [] 0 (length line) refl in
      no_frame_call (call_of line) (λ h.
      let i : is_frame (call_of (take (length line) d)) ≡ true = rw front h in
      let there = framed_here d (length line) l g i in
      frame_by_is high_table low_table d (λ o. frame_by high_table low_table d ≡ o → ⊥)
      (λ e m. true≢false (sym (here_begins d (length line) b l g i) ∙ e))
      (λ e m. n _ (read ∙ m) (sym (framed_feed d _ (framed_by d b e)) ∙ framed_feed d _ there.0 ∙ sym there.1))
      refl)

  pub line_longer : {f : Frame} → r ≡ Some f → (f.digits ≡ length line → ⊥) → Unreadable ≡ call_of line
  line_longer {f} q h = line_other (λ g p l. let same : f ≡ g = cc in h (rw same l))

  pub line_none : r ≡ None → Unreadable ≡ call_of line
  line_none q = line_other (λ g p l. absurd cc)
