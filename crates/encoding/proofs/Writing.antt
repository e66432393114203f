-- The laws of what is written: how two writes make one, what a loop over digits keeps, and the parts of a line.
-- Nothing here has to be read to understand a contract.
-- Assumes nothing.
use Prim.Native.Nat.{ℕ, zero, suc, ◌+◌, ◌*◌, ◌/◌, ◌%◌, ◌≤◌, ◌<◌}
use mathlib.Core.Path.{◌≡◌, refl, sym, ap, ◌∙◌, subst}
use mathlib.Core.Bool.{Bool, true, ◌&&◌}
use mathlib.Core.List.{List, [], ◌∷◌, ◌++◌, append_assoc, append-nil}
use native.Mathlib.Nat.{add-zero, zero-add, zero-mul}
use native.Mathlib.Numerals.{add-one}
use native.Mathlib.Omega.{arith}
use lib.Dec.{ltb}
use lib.ListN.{length, get_or, take, drop, set, replicate, length-append, length-take, length-drop, length-set, take-append-drop}
use lib.Seq.{get_or-take, get_or-drop, length-take-le, take_at, drop_at, take-suc, drop-drop, drop-length, set_at}
use borrow.Author.Tests.{ltb-true}
use Rattle.std.specs.Simd.{first_chunks}
use Rattle.sets.proofs.Laws.{and_both}
use Rattle.model.specs.declared.Constraint.{Constraint}
use Rattle.model.specs.declared.Sessions.{Sessions}
use Rattle.model.specs.declared.calls.Answer.{Answer}
use Rattle.model.specs.declared.calls.Answer.TheVariants.{Version, Roles, Flow, Granted, Constraint as Answer-as-Constraint, Refused}
use Rattle.model.specs.Limits.{flow_count}
use Rattle.model.specs.State.{all_sessions, filled, place, set_place, roleset_at}
use Rattle.model.specs.Calls.{returned, verdict_of, constraint_at}
use Rattle.model.proofs.Laws.{get_d_filled}
use Rattle.protocol.specs.Widths.{version_digits, set_digits}
use Rattle.protocol.specs.Digits.{glyph, hex}
use Rattle.protocol.specs.Lines.{line_feed, role_sets, values, shown_sets, line_of}
use Rattle.protocol.specs.Run.{shown_in}
use Rattle.protocol.proofs.Laws.{hex_length, values_length}
use Rattle.answers.specs.Answers.{has_place, shown_place}
use Rattle.output.specs.Output.{room_at}
use Rattle.encoding.specs.Written.{Wrote, Puts, constraint_of}

-- ---- writes

-- nothing is written
pub wrote_nothing : (old : List ℕ) (at : ℕ) → at ≤ length old → Wrote old old at at []
wrote_nothing old at l = record { room = omega arith; place = omega arith; holds = rw add-zero (sym (take-append-drop at old)) }

-- a write does not change the length
pub wrote_length : {old new : List ℕ} {at next : ℕ} {bytes : List ℕ} → Wrote old new at next bytes → length new ≡ length old
wrote_length {old} {new} {at} {next} {bytes} w =
    let l = w.room in
    ap length w.holds
    ∙ simp (length-append, length-drop) (rw (length-take-le at old (omega arith)) (omega arith))

-- two writes, the second where the first ended, are one
pub wrote_both : {a b c xs ys : List ℕ} {i j k : ℕ} → Wrote a b i j xs → Wrote b c j k ys → Wrote a c i k (xs ++ ys)
wrote_both {a} {b} {c} {xs} {ys} {i} {j} {k} first second =
    let l = first.room in
    let both : length (xs ++ ys) ≡ length xs + length ys = length-append xs ys in
    let at : length (take i a ++ xs) ≡ j = length-append (take i a) xs ∙ ap (λ n. n + length xs) (length-take-le i a (omega arith)) ∙ sym first.place in
    let split : b ≡ (take i a ++ xs) ++ drop j a = first.holds ∙ sym (append_assoc (take i a) xs _) ∙ ap (λ n. (take i a ++ xs) ++ drop n a) (sym first.place) in
    let front : take j b ≡ take i a ++ xs = ap (take j) split ∙ take_at (take i a ++ xs) (drop j a) j at in
    let back : drop j b ≡ drop j a = ap (drop j) split ∙ drop_at (take i a ++ xs) (drop j a) j at in
    let end : j + length ys ≡ i + length (xs ++ ys) = omega (arith, first.place) in
    let rest : drop (j + length ys) b ≡ drop (i + length (xs ++ ys)) a = sym (drop-drop (length ys) j b) ∙ ap (drop (length ys)) back ∙ drop-drop (length ys) j a ∙ ap (λ n. drop n a) end in
    record {
      room = omega (arith, second.room, first.place, wrote_length first);
      place = omega (arith, second.place, first.place);
      holds = second.holds ∙ rw (front, rest) (simp append_assoc);
    }

-- the same bytes
pub wrote_same : {old new : List ℕ} {at next : ℕ} {a b : List ℕ} → a ≡ b → Wrote old new at next a → Wrote old new at next b
wrote_same {old} {new} {at} {next} q w = subst (λ (bytes : List ℕ). Wrote old new at next bytes) q w

-- where n digits end, and that they don't change the length
pub wrote_hex : {old new : List ℕ} {at next : ℕ} (n v : ℕ) → Wrote old new at next (hex n v) → (next ≡ at + n) × (length new ≡ length old)
wrote_hex {at = at} n v w = (w.place ∙ ap (λ (m : ℕ). at + m) (hex_length n v), wrote_length w)

-- ---- digits

hex_suc : (n v : ℕ) → hex (suc n) v ≡ hex n (v / 16) ++ (glyph (v % 16) ∷ [])
unfolding hex
hex_suc n v = refl

-- n digits of v from `at` on, of which the last are written, and the first k, which are those of x, are not
pub record Digits (old : List ℕ) (at n v : ℕ) (new : List ℕ) (x k : ℕ) : Type 0 where
  pub tail : List ℕ
  pub few : k ≤ n
  pub same : length new ≡ length old
  pub split : hex n v ≡ hex k x ++ tail
  pub holds : new ≡ take (at + k) old ++ (tail ++ drop (at + n) old)

pub digits_start : (old : List ℕ) (at n v : ℕ) → Digits old at n v old v n
digits_start old at n v = record {
  tail = [];
  few = omega arith;
  same = refl;
  split = sym (append-nil (hex n v));
  holds = sym (take-append-drop (at + n) old);
}

pub digits_step : {old : List ℕ} {at n v : ℕ} {new : List ℕ} {x k j d : ℕ} → d ≡ glyph (x % 16) → Digits old at n v new x k → at + n ≤ length old → k ≡ suc j → Digits old at n v (set new (at + j) d) (x / 16) j
digits_step {old} {at} {n} {v} {new} {x} {k} {j} {d} e g l q =
    let few : k ≤ n = g.few in
    let here : at + j < length old = omega arith in
    let next : at + k ≡ suc (at + j) = omega arith in
    let rest : List ℕ = g.tail ++ drop (at + n) old in
    let split : new ≡ take (at + j) old ++ (get_or old (at + j) 0 ∷ rest) = g.holds ∙ rw (next, take-suc old (at + j) 0) (append_assoc (take (at + j) old) _ _) in
    let short : length (take (at + j) old) ≡ at + j = length-take-le (at + j) old (omega arith) in
    record {
      tail = d ∷ g.tail;
      few = omega arith;
      same = length-set new (at + j) d ∙ g.same;
      split = g.split ∙ rw (q, hex_suc, ← e) (append_assoc (hex j (x / 16)) (d ∷ []) g.tail);
      holds = ap (λ z. set z (at + j) d) split ∙ set_at (take (at + j) old) _ rest d (at + j) short;
    }

pub digits_done : {old : List ℕ} {at n v : ℕ} {new : List ℕ} {x : ℕ} → Digits old at n v new x 0 → at + n ≤ length old → Wrote old new at (at + n) (hex n v)
unfolding hex
digits_done {old} {at} {n} {v} {new} {x} g l = record {
  room = rw hex_length l;
  place = rw hex_length;
  holds = rw (hex_length, g.split) (rw add-zero at g.holds);
}

-- ---- lines

-- a role set more, of the first n
pub wrote_set : {a b c : List ℕ} {at j k : ℕ} (i n : ℕ) (s : List ℕ) → i < length (take n s) → Wrote a b at j (role_sets i s) → Wrote b c j k (hex set_digits (get_or (take n s) i 0)) → Wrote a c at k (role_sets (i + 1) s)
unfolding role_sets
wrote_set i n s l first second =
    let few : i < n = omega (arith, l, length-take n s) in
    rw (add-one i) (wrote_both first (wrote_same (ap (hex set_digits) (get_or-take n s i 0 few)) second))

-- where the values of an answer end
pub wrote_values : {old new : List ℕ} {at next : ℕ} (a : Answer) (c : Constraint) → shown_sets a ≤ flow_count → Wrote old new at next (values a c) → next ≤ at + (version_digits + set_digits * (1 + flow_count))
wrote_values a c l w = omega (arith, w.place, values_length a c l)

-- a write from the start that is as long as the buffer is all of it
pub wrote_whole : {old new bytes : List ℕ} {next : ℕ} → Wrote old new 0 next bytes → length bytes ≡ length old → new ≡ bytes
wrote_whole {old} {new} {bytes} w q = w.holds ∙ rw (zero-add (length bytes), q, drop-length old, append-nil)

-- sixteen digits and a line feed
pub number_length : (v : ℕ) → length (hex set_digits v ++ (line_feed ∷ [])) ≡ set_digits + 1
number_length v = length-append (hex set_digits v) (line_feed ∷ []) ∙ ap (λ (n : ℕ). n + 1) (hex_length set_digits v)

-- the parts of a line, and its line feed
pub wrote_line : {x y z w : List ℕ} {i j k l : ℕ} (a : Answer) (c : Constraint) (v : ℕ) → v ≡ returned (verdict_of a) → Wrote x y i j (hex 2 v) → Wrote y z j k (values a c) → Wrote z w k l (line_feed ∷ []) → Wrote x w i l (line_of a c)
unfolding line_of
wrote_line a c v e two rest feed = rw (← e) (wrote_both two (wrote_both rest feed))

-- ---- how many role sets an answer shows

-- a flow that is shown, where no more role sets are shown than there are
pub shown_below : (a : Answer) (s f : ℕ) → a ≡ Answer-as-Constraint s f → shown_sets a ≤ flow_count → f < flow_count
unfolding shown_sets
shown_below a s f e l = rw e at l

-- ---- a line from a place on

pub puts_line : {can : Bool} {old new : List ℕ} {at next : ℕ} {bytes : List ℕ} → can ≡ true → Wrote old new at next bytes → Puts can old new at next bytes
puts_line e w = record { place = rw e w.place; holds = rw e w.holds }

-- who knows that there is room has the line written
pub puts_wrote : {can : Bool} {old new : List ℕ} {at next : ℕ} {bytes : List ℕ} → can ≡ true → at + length bytes ≤ length old → Puts can old new at next bytes → Wrote old new at next bytes
puts_wrote e l p = record { room = l; place = rw e at p.place; holds = rw e at p.holds }

-- ---- the constraint that an answer shows is a part of the arrays

-- role sets that are the same as far as they are written
role_sets_same : (n : ℕ) (a b : List ℕ) → ((i : ℕ) → i < n → get_or a i 0 ≡ get_or b i 0) → role_sets n a ≡ role_sets n b
unfolding role_sets
role_sets_same zero a b h = refl
role_sets_same (suc n) a b h = rw (role_sets_same n a b (λ i l. h i (omega arith)), h n (omega arith))

part_sets : (S : Sessions) (s f i : ℕ) → i < flow_count → get_or (take flow_count (drop (place s f * flow_count) S.rolesets)) i 0 ≡ get_or (constraint_at S s f).roles i 0
unfolding constraint_at roleset_at set_place
part_sets S s f i l =
    let z : 0 + i ≡ i = omega arith in
    let there : get_or (filled 0 (roleset_at S.rolesets s f) flow_count (replicate flow_count 0)) i 0 ≡ get_or S.rolesets (place s f * flow_count + i) 0 = rw z at (get_d_filled 0 (roleset_at S.rolesets s f) flow_count (replicate flow_count 0) i (omega arith) l) in
    rw (get_or-take, get_or-drop) (sym there)

line_shown : (S : Sessions) (a : Answer) → has_place a ≡ true → line_of a (constraint_of (get_or S.versions (shown_place a) 0) (get_or S.denies (shown_place a) 0) (take flow_count (drop (shown_place a * flow_count) S.rolesets))) ≡ line_of a (shown_in S a)
unfolding line_of values shown_in shown_place constraint_at has_place
line_shown S (Version v) p = refl
line_shown S (Roles m) p = refl
line_shown S (Flow n k v) p = refl
line_shown S Granted p = refl
line_shown S (Answer-as-Constraint s f) p =
    let q = and_both (ltb s all_sessions) (ltb f flow_count) p in
    let few : f < flow_count = ltb-true f flow_count q.1 in
    rw (q.0, q.1, role_sets_same (suc f) (take flow_count (drop (place s f * flow_count) S.rolesets)) (constraint_at S s f).roles (λ i l. part_sets S s f i (omega arith)))
line_shown S (Refused why) p = refl

-- which part the kth of the chunks is
chunk_at : (n c k : ℕ) (xs : List ℕ) → k < c → get_or (first_chunks n c xs) k [] ≡ take n (drop (k * n) xs)
chunk_at n zero k xs l = absurd (omega (arith, l))
chunk_at n (suc c) zero xs l = rw (zero-mul n) refl
chunk_at n (suc c) (suc k) xs l =
    let e : n + k * n ≡ suc k * n = omega arith in
    chunk_at n c k (drop n xs) (omega (arith, l)) ∙ ap (take n) (drop-drop (k * n) n xs ∙ ap (λ (m : ℕ). drop m xs) e)

-- an answer with a place shows no more role sets than a constraint has
pub place_few : (a : Answer) → has_place a ≡ true → shown_sets a ≤ flow_count
unfolding has_place shown_sets
place_few (Version v) p = omega arith
place_few (Roles m) p = omega arith
place_few (Flow n k v) p = omega arith
place_few Granted p = omega arith
place_few (Answer-as-Constraint s f) p = ltb-true f flow_count (and_both (ltb s all_sessions) (ltb f flow_count) p).1
place_few (Refused why) p = omega arith

pub puts_answer : (S : Sessions) (a : Answer) {old new : List ℕ} {at next : ℕ} {sets : List (List ℕ)} (n k : ℕ) → room_at old at ≡ true → has_place a ≡ true → k ≡ shown_place a → k < n → sets ≡ first_chunks flow_count n S.rolesets
    → Wrote old new at next (line_of a (constraint_of (get_or S.versions k 0) (get_or S.denies k 0) (get_or sets k [])))
    → Puts (room_at old at && has_place a) old new at next (line_of a (shown_in S a))
puts_answer S a n k room has e l parts w = puts_line (rw (room, has)) (wrote_same (rw (parts, chunk_at flow_count n k S.rolesets l, e) (line_shown S a has)) w)
