-- What becomes of a file's pairs, and what is printed of them, one case for each number.
-- Assumes nothing.
use Prim.Native.Nat.{ℕ, zero, suc, ◌+◌, ◌^◌, ◌<◌}
use mathlib.Core.Path.{◌≡◌, refl, sym, ap, ap₂, ◌∙◌}
use mathlib.Core.Bool.{Bool, true, false, cond, false≢true}
use mathlib.Core.List.{List, [], ◌∷◌}
use native.Mathlib.Omega.{arith}
use lib.Dec.{eqb}
use lib.ListN.{length, get_or, take, length-append}
use lib.Seq.{take_at}
use borrow.Author.Tests.{eqb-true, eq-eqb}
use Rattle.sets.proofs.Laws.{and_both}
use Rattle.model.specs.declared.Engine.{Engine}
use Rattle.model.specs.declared.calls.Call.{Call}
use Rattle.model.specs.declared.calls.Call.TheVariants.{Unreadable}
use Rattle.model.specs.Calls.{after}
use Rattle.protocol.specs.Digits.{number}
use Rattle.protocol.specs.Run.{reply}
use Rattle.protocol.specs.Specification.{digits, in_digits, Book, next, blank, answer_line}
use Rattle.protocol.proofs.Laws.{hex_length}
use Rattle.protocol.proofs.Spelling.{hex_digits, number_hex}
use Rattle.protocol.proofs.Saying.{says_one}
use Rattle.protocol.proofs.Exact.{Agrees as Fits, agrees_line, agrees_next}
use Rattle.trace.specs.declared.replaying.Outcome.{Outcome}
use Rattle.trace.specs.declared.replaying.Outcome.TheVariants.{AllAgree, Differs, FrameLast}
use Rattle.trace.specs.Outcomes.{same, agrees, outcome_from, printed}
use Rattle.trace.specs.Recorded.{Pair, Say, book_after, Agrees, AgreeBefore, number_line, sixteen_line, Long, Short}
use Rattle.trace.specs.Recorded.Say.{none as say_none, more as say_more}
use Rattle.trace.proofs.Lines.{frame_in_is}
use Rattle.trace.proofs.Pairs.{Lined, lined_none, lined_last, lined_more}

-- ---- the same bytes

pub same_is : (a b : List ℕ) → same a b ≡ true → a ≡ b
unfolding same
same_is [] [] h = refl
same_is [] (y ∷ ys) h = absurd (false≢true h)
same_is (x ∷ xs) [] h = absurd (false≢true h)
same_is (x ∷ xs) (y ∷ ys) h =
    let p = and_both (eqb x y) (same xs ys) h in
    ap₂ (λ (b : ℕ) (bs : List ℕ). b ∷ bs) (eqb-true x y p.0) (same_is xs ys p.1)

pub same_self : (a : List ℕ) → same a a ≡ true
unfolding same
same_self [] = refl
same_self (x ∷ xs) = rw (eq-eqb x x refl) (same_self xs)

-- ---- the outcome of these pairs, from a book on

-- pair i has the answer line of the specification
abbrev AgreesFrom : Book → List Pair → List Call → ℕ → Type 0
AgreesFrom b ps cs i = (get_or ps i (record { frame = []; answer = [] })).answer ≡ answer_line (book_after b (take i cs)) (get_or cs i Unreadable)

abbrev AgreeFrom : Book → List Pair → List Call → ℕ → Type 0
AgreeFrom b ps cs n = (i : ℕ) → i < n → AgreesFrom b ps cs i

-- where the first pair agrees, and n pairs after it do, so do n + 1
pub agree_more : (b : Book) (p : Pair) (ps : List Pair) (c : Call) (cs : List Call) (n : ℕ) → p.answer ≡ answer_line b c → AgreeFrom (next b c) ps cs n → AgreeFrom b (p ∷ ps) (c ∷ cs) (suc n)
unfolding book_after
agree_more b p ps c cs n h f zero l = h
agree_more b p ps c cs n h f (suc i) l = f i (omega arith)

-- how the pairs end, the first with number n: as the specification's answers have it
pub data Ends (n : ℕ) (b : Book) (ps : List Pair) (last : Bool) (cs : List Call) : Outcome → Type 0 where
  ends_differs : (i m : ℕ) → m ≡ n + i → i < length ps → AgreeFrom b ps cs i → (AgreesFrom b ps cs i → ⊥) → Ends n b ps last cs (Differs m)
  ends_agree : last ≡ false → AgreeFrom b ps cs (length ps) → Ends n b ps last cs AllAgree
  ends_frame : last ≡ true → AgreeFrom b ps cs (length ps) → Ends n b ps last cs FrameLast

-- where the first pair agrees, the others decide
pub ends_next : (n m : ℕ) (b : Book) (p : Pair) (ps : List Pair) (last : Bool) (c : Call) (cs : List Call) {o : Outcome} → m ≡ suc n → p.answer ≡ answer_line b c
    → Ends m (next b c) ps last cs o → Ends n b (p ∷ ps) last (c ∷ cs) o
unfolding book_after
ends_next n m b p ps last c cs k h (ends_differs i j e l f g) = ends_differs (suc i) j (omega arith) (omega arith) (agree_more b p ps c cs i h f) g
ends_next n m b p ps last c cs k h (ends_agree e f) = ends_agree e (agree_more b p ps c cs (length ps) h f)
ends_next n m b p ps last c cs k h (ends_frame e f) = ends_frame e (agree_more b p ps c cs (length ps) h f)

-- else it is the one that differs
pub ends_pair : (n m : ℕ) (e : Engine) (b : Book) (p : Pair) (ps : List Pair) (last : Bool) (c : Call) (cs : List Call) (o : Outcome) → m ≡ suc n → Fits e b → Ends m (next b c) ps last cs o
    → Ends n b (p ∷ ps) last (c ∷ cs) (cond (same (reply e c) p.answer) o (Differs n))
unfolding book_after
ends_pair n m e b p ps last c cs o k h r = go (same (reply e c) p.answer) refl
  where
    go : (t : Bool) → same (reply e c) p.answer ≡ t → Ends n b (p ∷ ps) last (c ∷ cs) (cond t o (Differs n))
    go true q = ends_next n m b p ps last c cs k (sym (same_is (reply e c) p.answer q) ∙ agrees_line e b c h) r
    go false q =
        ends_differs 0 n (omega arith) (omega arith) (λ i l. absurd (omega arith))
        (λ a. false≢true (sym q ∙ ap (same (reply e c)) (a ∙ sym (agrees_line e b c h)) ∙ same_self (reply e c)))

-- from an engine that agrees with a book, the outcome is that of the book
pub ends : (n : ℕ) (e : Engine) (b : Book) {lines : List (List ℕ)} {ps : List Pair} {last : Bool} {cs : List Call} → Fits e b → Lined lines ps last → Say ps cs
    → Ends n b ps last cs (outcome_from n e lines)
unfolding outcome_from agrees
ends n e b h lined_none say_none = ends_agree refl (λ i l. absurd (omega arith))
ends n e b h (lined_last frame) say_none = ends_frame refl (λ i l. absurd (omega arith))
ends n e b h (lined_more p lines ps last r) (say_more q c qs cs s t) =
    rw (frame_in_is p.frame, says_one s) (ends_pair n _ e b p ps last c cs _ (omega arith) h (ends _ (after e c) (next b c) (agrees_next e b c h) r t))

-- ---- the printed lines tell the numbers apart

pub number_length : (n : ℕ) → length (in_digits 16 n) ≡ 16
number_length n = ap length (sym (hex_digits 16 n)) ∙ hex_length 16 n

pub number_apart : (m n : ℕ) → m < 16 ^ 16 → n < 16 ^ 16 → number_line m ≡ number_line n → m ≡ n
number_apart m n k l e =
    sym (number_hex 16 m k)
    ∙ ap number (hex_digits 16 m ∙ digits_same ∙ sym (hex_digits 16 n))
    ∙ number_hex 16 n l
  where
    digits_same : in_digits 16 m ≡ in_digits 16 n
    digits_same = sym (take_at (in_digits 16 m) (10 ∷ []) 16 (number_length m)) ∙ ap (take 16) e ∙ take_at (in_digits 16 n) (10 ∷ []) 16 (number_length n)

pub number_sixteen : (n : ℕ) → number_line n ≡ sixteen_line → ⊥
number_sixteen n e = omega (arith, length-append (in_digits 16 n) (10 ∷ []), number_length n, ap length e)

pub zeros_printed : printed AllAgree ≡ number_line 0
unfolding printed digits in_digits
zeros_printed = refl

-- ---- what is printed of a file, and when

pub data Prints (file : List ℕ) (ps : List Pair) (last : Bool) (cs : List Call) (line : List ℕ) : Type 0 where
  prints_long : Long file → line ≡ sixteen_line → Prints file ps last cs line
  prints_number : (i : ℕ) → Short file → i < length ps → AgreeBefore ps cs i → (Agrees ps cs i → ⊥) → line ≡ number_line (suc i) → Prints file ps last cs line
  prints_zeros : Short file → AgreeBefore ps cs (length ps) → last ≡ false → line ≡ number_line 0 → Prints file ps last cs line
  prints_frame : Short file → AgreeBefore ps cs (length ps) → last ≡ true → line ≡ sixteen_line → Prints file ps last cs line

pub short_prints : (file : List ℕ) (ps : List Pair) (last : Bool) (cs : List Call) {o : Outcome} → Short file → Ends 1 blank ps last cs o → Prints file ps last cs (printed o)
unfolding printed
short_prints file ps last cs k (ends_differs i m e l f g) = prints_number i k l f g (ap number_line (let q : m ≡ suc i = omega arith in q))
short_prints file ps last cs k (ends_agree e f) = prints_zeros k f e zeros_printed
short_prints file ps last cs k (ends_frame e f) = prints_frame k f e refl
