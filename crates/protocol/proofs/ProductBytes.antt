-- K1 over bytes: each line of the output is the answer to a line of the input, so what the ledger's answers to two lists of calls have in common, two outputs have.
-- Assumes nothing.
use Prim.Native.Nat.{ℕ, zero, suc, ◌/◌, ◌%◌}
use mathlib.Core.Path.{◌≡◌, refl, sym, ap, ap₂, ◌∙◌}
use mathlib.Core.Bool.{Bool, true, false, cond, ◌||◌}
use mathlib.Core.List.{List, [], ◌∷◌, ◌++◌, map, append-nil, append_assoc}
use native.Mathlib.Omega.{arith}
use lib.Dec.{leb}
use lib.ListN.{length, get_or, take}
use Rattle.tables.specs.Tables.{role_count, database_count}
use Rattle.model.specs.declared.calls.Change.{Change}
use Rattle.model.specs.declared.calls.Change.TheVariants.{Assign, Withdraw, Permit, Revoke, Forward, Mandate}
use Rattle.model.specs.declared.calls.Product.{Product}
use Rattle.model.specs.declared.calls.Product.TheVariants.{Server, TermBank}
use Rattle.model.specs.declared.calls.Ask.TheVariants.{Open, Conflicting, Add, Show}
use Rattle.model.specs.declared.calls.Call.{Call}
use Rattle.model.specs.declared.calls.Call.TheVariants.{Table, Session, Read, Unreadable}
use Rattle.model.specs.Refusals.{flow_added, rows, change_rows, first_met, refusal, accepts, ledger_after}
use Rattle.model.specs.Demands.{call_at, ledger_at}
use Rattle.model.specs.Products.{is_of, struck, swap}
use Rattle.model.proofs.Products.{products}
use Rattle.protocol.specs.Widths.{set_digits}
use Rattle.protocol.specs.Specification.{digits, in_digits, two, bits, M, spelled, HasFrame, Says, line_feed, Feedless, Input, Book, next, blank, sets_of, told, answer_line, answers}
use Rattle.protocol.specs.Specification.{frame as says_frame, malformed as says_malformed, none as feedless_none, byte as feedless_byte}
use Rattle.protocol.specs.Specification.{ended as input_ended, line as input_line, unended as input_unended}
use Rattle.protocol.specs.Lines.{call_of}
use Rattle.protocol.specs.Run.{Split, split, last_call, calls_of, run, feed_at}
use Rattle.protocol.specs.Products.{answers_left, lines_left, to_lines_left, ProductBytes}
use Rattle.protocol.proofs.Laws.{NoFeed, none, byte, no_feed_append, no_feed_of, split_line}
use Rattle.protocol.proofs.Exact.{input_one, input_some, exact}
use Rattle.protocol.proofs.Products.{product_answers}

-- ---- no digit is a line feed

at_no_feed : {xs : List ℕ} → NoFeed xs → (i : ℕ) → get_or xs i 0 ≡ line_feed → ⊥
at_no_feed none i e = omega arith
at_no_feed (byte n h) zero e = n e
at_no_feed (byte n h) (suc i) e = at_no_feed h i e

digits_no_feed : NoFeed digits
unfolding digits feed_at
digits_no_feed = no_feed_of digits refl

number_no_feed : (n v : ℕ) → NoFeed (in_digits n v)
unfolding in_digits
number_no_feed zero v = none
number_no_feed (suc n) v = no_feed_append (number_no_feed n (v / 16)) (byte (at_no_feed digits_no_feed (v % 16)) none)

set_no_feed : (p : ℕ → Bool) → NoFeed (M p)
unfolding M
set_no_feed p = number_no_feed set_digits (bits role_count p)

sets_no_feed : (n : ℕ) (sets : ℕ → ℕ → Bool) → NoFeed (sets_of n sets)
unfolding sets_of
sets_no_feed zero sets = none
sets_no_feed (suc n) sets = no_feed_append (sets_no_feed n sets) (set_no_feed (sets n))

ruleset no_feeds = (no_feed_append, number_no_feed, set_no_feed, sets_no_feed)

told_no_feed : (b : Book) (c : Call) → NoFeed (told b c)
unfolding told
told_no_feed b (Table c) = search no_feeds
told_no_feed b (Session p s Open) = search no_feeds
told_no_feed b (Session p s (Conflicting d)) = search no_feeds
told_no_feed b (Session p s (Add d m)) = search no_feeds
told_no_feed b (Session p s (Show f)) = search no_feeds
told_no_feed b (Read p u s f d) = none
told_no_feed b Unreadable = none

spelled_no_feed : (c : Call) → NoFeed (spelled c)
unfolding spelled
spelled_no_feed (Table (Assign u r)) = search no_feeds
spelled_no_feed (Table (Withdraw u r)) = search no_feeds
spelled_no_feed (Table (Permit r d)) = search no_feeds
spelled_no_feed (Table (Revoke r d)) = search no_feeds
spelled_no_feed (Table (Forward d e)) = search no_feeds
spelled_no_feed (Table (Mandate r d)) = search no_feeds
spelled_no_feed (Session Server s Open) = search no_feeds
spelled_no_feed (Session Server s (Conflicting d)) = search no_feeds
spelled_no_feed (Session Server s (Add d m)) = search no_feeds
spelled_no_feed (Session Server s (Show f)) = search no_feeds
spelled_no_feed (Session TermBank s Open) = search no_feeds
spelled_no_feed (Session TermBank s (Conflicting d)) = search no_feeds
spelled_no_feed (Session TermBank s (Add d m)) = search no_feeds
spelled_no_feed (Session TermBank s (Show f)) = search no_feeds
spelled_no_feed (Read Server u s f d) = search no_feeds
spelled_no_feed (Read TermBank u s f d) = search no_feeds
spelled_no_feed Unreadable = none

feedless : {line : List ℕ} → NoFeed line → Feedless line
feedless none = feedless_none
feedless (byte n h) = feedless_byte n (feedless h)

-- ---- the lines of an output

-- an answer line without its line feed
body : Book → Call → List ℕ
body b c = two (refusal b.ledger c) ++ cond (accepts b.ledger c) (told b c) []

body_no_feed : (b : Book) (c : Call) → NoFeed (body b c)
unfolding body
body_no_feed b c = no_feed_append (number_no_feed _ _) (go (accepts b.ledger c))
  where
    go : (t : Bool) → NoFeed (cond t (told b c) [])
    go true = told_no_feed b c
    go false = none

answer_body : (b : Book) (c : Call) (rest : List ℕ) → answer_line b c ++ rest ≡ body b c ++ (line_feed ∷ rest)
unfolding answer_line body
answer_body b c rest = simp append_assoc

split_answer : (b : Book) (c : Call) (rest : List ℕ) → split (answer_line b c ++ rest) ≡ record { lines = body b c ∷ (split rest).lines; rest = (split rest).rest }
split_answer b c rest = ap split (answer_body b c rest) ∙ split_line (body b c) rest (body_no_feed b c)

bodies : Book → List Call → List (List ℕ)
bodies b [] = []
bodies b (c ∷ cs) = body b c ∷ bodies (next b c) cs

output_lines : (b : Book) (cs : List Call) → (split (answers b cs)).lines ≡ bodies b cs
unfolding answers bodies
output_lines b [] = unfold split in refl
output_lines b (c ∷ cs) = ap (λ (s : Split). s.lines) (split_answer b c (answers (next b c) cs)) ∙ ap (λ (ls : List (List ℕ)). body b c ∷ ls) (output_lines (next b c) cs)

length_bodies : (b : Book) (cs : List Call) → length (bodies b cs) ≡ length cs
unfolding bodies
length_bodies b [] = refl
length_bodies b (c ∷ cs) = ap suc (length_bodies (next b c) cs)

-- line j of an output answers call j
line_at : (b : Book) (cs : List Call) (j : ℕ) (c : Change) → call_at cs j ≡ Table c → (m : Book) × (m.ledger ≡ ledger_after b.ledger (take j cs)) × (get_or (bodies b cs) j [] ≡ body m (Table c))
unfolding bodies call_at ledger_after next
line_at b [] j c e = let z : ◌≡◌ {A = ℕ} 0 1 = cc in absurd (omega arith)
line_at b (x ∷ cs) zero c e = (b, refl, ap (body b) e)
line_at b (x ∷ cs) (suc j) c e = line_at (next b x) cs j c e

-- ---- what is left when one product's lines are struck out

-- an answer line's body again, from its bytes alone
first_line : List ℕ → List ℕ
first_line bytes = get_or (split bytes).lines 0 []

first_body : (b : Book) (c : Call) → first_line (answer_line b c) ≡ body b c
unfolding first_line
first_body b c = ap (λ (s : Split). get_or s.lines 0 []) (rw append-nil at (split_answer b c []))

module _ (other : Product) where
  struck_lines : (lines : List (List ℕ)) (rest : List ℕ) → struck other (map call_of lines ++ last_call rest) ≡ map call_of (lines_left other lines) ++ last_call rest
  unfolding struck lines_left
  struck_lines [] [] = unfold last_call in refl
  struck_lines [] (b ∷ bs) = unfold last_call is_of in refl
  struck_lines (line ∷ lines) rest = go (is_of other (call_of line)) (struck_lines lines rest)
    where
      go : (t : Bool) → struck other (map call_of lines ++ last_call rest) ≡ map call_of (lines_left other lines) ++ last_call rest
          → cond t (struck other (map call_of lines ++ last_call rest)) (call_of line ∷ struck other (map call_of lines ++ last_call rest)) ≡ map call_of (cond t (lines_left other lines) (line ∷ lines_left other lines)) ++ last_call rest
      go true h = h
      go false h = ap (λ (cs : List Call). call_of line ∷ cs) h

  lines_left_by : (b : Book) (lines : List (List ℕ)) (rest : List ℕ)
      → to_lines_left other lines (bodies b (map call_of lines ++ last_call rest)) ≡ map first_line (answers_left other b (map call_of lines ++ last_call rest))
  unfolding to_lines_left bodies answers_left
  lines_left_by b [] [] = unfold last_call in refl
  lines_left_by b [] (x ∷ xs) = unfold last_call is_of in ap (λ (l : List ℕ). l ∷ []) (sym (first_body b Unreadable))
  lines_left_by b (line ∷ lines) rest = go (is_of other (call_of line)) _ _ (lines_left_by (next b (call_of line)) lines rest)
    where
      go : (t : Bool) (x y : List (List ℕ)) → x ≡ map first_line y → cond t x (body b (call_of line) ∷ x) ≡ map first_line (cond t y (answer_line b (call_of line) ∷ y))
      go true x y h = h
      go false x y h = ap₂ (λ (l : List ℕ) (ls : List (List ℕ)). l ∷ ls) (sym (first_body b (call_of line))) h

-- ---- the products' frames change places

-- the two products' frames have the same fields
has_swap : (c : Call) → HasFrame c → HasFrame (swap c)
unfolding swap
has_swap (Table c) h = h
has_swap (Session p s Open) h = h
has_swap (Session p s (Conflicting d)) h = h
has_swap (Session p s (Add d m)) h = h
has_swap (Session p s (Show f)) h = h
has_swap (Read p u s f d) h = h
has_swap Unreadable h = h

-- a malformed line stays as it is
swap_line : {line : List ℕ} {c : Call} → Feedless line → Says line c → (m : List ℕ) × Feedless m × Says m (swap c)
swap_line n (says_frame c h) = (spelled (swap c), feedless (spelled_no_feed (swap c)), says_frame (swap c) (has_swap c h))
swap_line {line} n (says_malformed l f) = (line, n, unfold swap in says_malformed line f)

swap_input : {input : List ℕ} {cs : List Call} → Input input cs → (b : List ℕ) × Input b (map swap cs)
swap_input input_ended = ([], input_ended)
swap_input (input_line bytes c rest cs n s i) =
    let l = swap_line n s in
    let r = swap_input i in
    (l.0 ++ (line_feed ∷ r.0), input_line l.0 (swap c) r.0 (map swap cs) l.1 l.2 r.1)
swap_input (input_unended rest n h) = (rest, unfold swap in input_unended rest n h)

-- ---- forwarding

refused_body : (b : Book) (c : Call) → refusal b.ledger c ≡ 5 → body b c ≡ two 5
unfolding body accepts
refused_body b c h = rw (h, append-nil)

-- no other number of a forwarding frame's has the digits of 5
forward_number : (b : Book) (d e : ℕ) → body b (Table (Forward d e)) ≡ two 5 → refusal b.ledger (Table (Forward d e)) ≡ 5
unfolding body refusal rows change_rows first_met
forward_number b d e h = go (leb database_count d || leb database_count e) (flow_added b.ledger) (b.ledger.forwards d e) _ h
  where
    go : (x y z : Bool) (more : List ℕ) → two (cond x 2 (cond y 5 (cond z 3 0))) ++ more ≡ two 5 → ◌≡◌ {A = ℕ} (cond x 2 (cond y 5 (cond z 3 0))) 5
    go true y z more h = unfold in_digits digits in absurd (omega (arith, ap (λ (xs : List ℕ). get_or xs 1 0) h))
    go false true z more h = refl
    go false false true more h = unfold in_digits digits in absurd (omega (arith, ap (λ (xs : List ℕ). get_or xs 1 0) h))
    go false false false more h = unfold in_digits digits in absurd (omega (arith, ap (λ (xs : List ℕ). get_or xs 1 0) h))

-- ---- together

reads : (input : List ℕ) → Input input (calls_of input)
reads input = let r = input_some input in rw (input_one r.1) r.1

run_answers : (input : List ℕ) → run input ≡ answers blank (calls_of input)
run_answers input = let r = (exact input).allowed in r.2 ∙ ap (answers blank) (sym (input_one r.1))

run_lines : (a : List ℕ) → (split (run a)).lines ≡ bodies blank (calls_of a)
run_lines a = ap (λ (bytes : List ℕ). (split bytes).lines) (run_answers a) ∙ output_lines blank (calls_of a)

run_left : (other : Product) (a : List ℕ) → to_lines_left other (split a).lines (split (run a)).lines ≡ map first_line (answers_left other blank (calls_of a))
unfolding calls_of
run_left other a = ap (to_lines_left other (split a).lines) (run_lines a) ∙ lines_left_by other blank (split a).lines (split a).rest

same_struck : (other : Product) (a b : List ℕ) → lines_left other (split a).lines ≡ lines_left other (split b).lines → (split a).rest ≡ (split b).rest → struck other (calls_of a) ≡ struck other (calls_of b)
unfolding calls_of
same_struck other a b h r =
    struck_lines other (split a).lines (split a).rest
    ∙ ap₂ (λ (lines : List (List ℕ)) (rest : List ℕ). map call_of lines ++ last_call rest) h r
    ∙ sym (struck_lines other (split b).lines (split b).rest)

pub product_bytes : ProductBytes
unfolding ledger_at blank
product_bytes = record {
  says = reads;
  answered = λ a. ap length (run_lines a) ∙ length_bodies blank (calls_of a);
  alike = λ a b h. run_answers b ∙ ap (answers blank) h ∙ product_answers.alike (calls_of a) ∙ sym (run_answers a);
  exchanged = λ a. let r = swap_input (reads a) in (r.0, input_one r.1);
  apart = λ other a b h r f g.
      run_left other a ∙ ap (map first_line) (product_answers.apart other (calls_of a) (calls_of b) (same_struck other a b h r) f g) ∙ sym (run_left other b);
  closes = λ a i j d e l h f x y.
      let m = line_at blank (calls_of a) j (Forward d e) f in
      rw (run_lines a, m.2) (refused_body m.0 (Table (Forward d e)) (rw m.1 (products.closes (calls_of a) i j d e l h f x y)));
  stays = λ a j d e n f h.
      let m = line_at blank (calls_of a) j (Forward d e) f in
      products.stays (calls_of a) j d e n (rw (← m.1) (forward_number m.0 d e (rw (run_lines a, m.2) at h)));
}
