-- A chain of checks against the rows of the refusal table: row by row, whatever the call.
-- Assumes nothing.
use Prim.Native.Nat.{ℕ, suc}
use mathlib.Core.Path.{◌≡◌, refl, sym, ap, ◌∙◌}
use mathlib.Core.Bool.{Bool, true, false, ◌||◌}
use mathlib.Core.List.{List, [], ◌∷◌}
use native.Mathlib.Omega.{arith}
use Rattle.sets.proofs.Laws.{or_none}
use Rattle.model.specs.declared.Engine.{Engine}
use Rattle.model.specs.declared.calls.Refusal.{Refusal}
use Rattle.model.specs.declared.calls.Verdict.{Verdict}
use Rattle.model.specs.declared.calls.Verdict.TheVariants.{Granted, Refused}
use Rattle.model.specs.declared.calls.Answer.{Answer}
use Rattle.model.specs.declared.calls.Answer.TheVariants.{Version, Roles, Flow, Granted as Answer-as-Granted, Constraint as Answer-as-Constraint, Refused as Answer-as-Refused}
use Rattle.model.specs.Calls.{number_of, returned, verdict_of, Done, done, refuse, unless, bar, answer_of}
use Rattle.model.specs.Refusals.{first_met}

-- x is what a chain of checks comes to, of what was s: the number is that of the first row met; a refusal leaves s; and else x is what is granted
pub record Checked {S : Type 0} (s : S) (rows : List (ℕ × Bool)) (granted x : Done S) : Type 0 where
  pub number : returned (verdict_of x.answer) ≡ first_met rows
  pub refused : (why : Refusal) → verdict_of x.answer ≡ Refused why → x.after ≡ s
  pub passed : verdict_of x.answer ≡ Granted → x ≡ granted

-- the three kinds of chains: of changes, of answers to questions, and of verdicts on reads
pub record Kind (A S : Type 0) : Type 0 where
  pub was : S
  pub end : A → Done S
  pub stop : Bool → Refusal → A → A
  pub stops : (why : Refusal) (later : A) → end (stop true why later) ≡ done (Answer-as-Refused why) was
  pub goes : (why : Refusal) (later : A) → end (stop false why later) ≡ end later

abbrev pub changing : {S : Type 0} → S → Kind (Done S) S
changing s = record { was = s; end = λ x. x; stop = λ b why later. refuse b why s later; stops = λ why later. refl; goes = λ why later. refl }

abbrev pub asking : {S : Type 0} → S → Kind Answer S
asking s = record { was = s; end = λ a. done a s; stop = unless; stops = λ why later. refl; goes = λ why later. refl }

unfoldable pub reading : Engine → Kind Verdict Engine
unfolding answer_of
reading e = record { was = e; end = λ v. done (answer_of v) e; stop = bar; stops = λ why later. refl; goes = λ why later. refl }

-- no check is left
pub all_passed : {S : Type 0} (s : S) (a : Answer) (t : S) → verdict_of a ≡ Granted → Checked s [] (done a t) (done a t)
unfolding first_met returned
all_passed s a t h = record { number = ap returned h; refused = λ why r. absurd (let z : ◌≡◌ {A = ℕ} 0 1 = cc in omega arith); passed = λ g. refl }

-- a refusal
pub stopped : {S : Type 0} (s : S) (why : Refusal) (rows : List (ℕ × Bool)) (granted : Done S) → Checked s ((number_of why, true) ∷ rows) granted (done (Answer-as-Refused why) s)
unfolding first_met returned verdict_of
stopped s why rows granted = record { number = refl; refused = λ w r. refl; passed = λ g. absurd (let z : ◌≡◌ {A = ℕ} 0 1 = cc in omega arith) }

-- a row that is not met
pub missed : {S : Type 0} (s : S) (n : ℕ) (rows : List (ℕ × Bool)) (granted x : Done S) → Checked s rows granted x → Checked s ((n, false) ∷ rows) granted x
unfolding first_met
missed s n rows granted x c = record { number = c.number; refused = c.refused; passed = c.passed }

module _ {A S : Type 0} (k : Kind A S) (why : Refusal) {rows : List (ℕ × Bool)} {granted : Done S} (later : A) where
  -- the check is one of those that the row joins
  pub check_or : (a b row : Bool) → row ≡ (a || b) → (a ≡ false → Checked k.was ((number_of why, b) ∷ rows) granted (k.end later)) → Checked k.was ((number_of why, row) ∷ rows) granted (k.end (k.stop a why later))
  check_or a b row e f = rw e (go a f)
    where
      go : (c : Bool) → (c ≡ false → Checked k.was ((number_of why, b) ∷ rows) granted (k.end later)) → Checked k.was ((number_of why, c || b) ∷ rows) granted (k.end (k.stop c why later))
      go true g = rw (k.stops why later) (stopped k.was why rows granted)
      go false g = rw (k.goes why later) (g refl)

  -- the check is the row
  pub check : {a row : Bool} → a ≡ row → (a ≡ false → Checked k.was rows granted (k.end later)) → Checked k.was ((number_of why, row) ∷ rows) granted (k.end (k.stop a why later))
  check {a} {row} e f = check_or a false row (sym e ∙ or_none a) (λ h. missed k.was (number_of why) rows granted (k.end later) (f h))

-- two checks are the row
pub check_two : {A S : Type 0} (k : Kind A S) (why : Refusal) {rows : List (ℕ × Bool)} {granted : Done S} (later : A) (a b : Bool)
    → (a ≡ false → b ≡ false → Checked k.was rows granted (k.end later)) → Checked k.was ((number_of why, a || b) ∷ rows) granted (k.end (k.stop a why (k.stop b why later)))
check_two k why later a b f = check_or k why (k.stop b why later) a b (a || b) refl (λ g. check k why later refl (f g))

-- of a part of something larger
pub within : {S T : Type 0} (put : S → T) {s : S} {rows : List (ℕ × Bool)} {granted x : Done S} → Checked s rows granted x
    → Checked (put s) rows (done granted.answer (put granted.after)) (done x.answer (put x.after))
within put c = record { number = c.number; refused = λ why h. ap put (c.refused why h); passed = λ h. ap (λ (y : Done _). done y.answer (put y.after)) (c.passed h) }

-- ---- what a number, or a refusal, says

-- a row that is not met leaves the rows after it
pub not_met : (n : ℕ) (b : Bool) (rows : List (ℕ × Bool)) → first_met ((suc n, b) ∷ rows) ≡ 0 → (b ≡ false) × (first_met rows ≡ 0)
unfolding first_met
not_met n true rows h = absurd (omega arith)
not_met n false rows h = (refl, h)

-- an answer that refuses
pub refused_answer : (a : Answer) (why : Refusal) → verdict_of a ≡ Refused why → a ≡ Answer-as-Refused why
unfolding verdict_of
refused_answer (Version v) why h = absurd (let z : ◌≡◌ {A = ℕ} 0 1 = cc in omega arith)
refused_answer (Roles m) why h = absurd (let z : ◌≡◌ {A = ℕ} 0 1 = cc in omega arith)
refused_answer (Flow n k v) why h = absurd (let z : ◌≡◌ {A = ℕ} 0 1 = cc in omega arith)
refused_answer Answer-as-Granted why h = absurd (let z : ◌≡◌ {A = ℕ} 0 1 = cc in omega arith)
refused_answer (Answer-as-Constraint s f) why h = absurd (let z : ◌≡◌ {A = ℕ} 0 1 = cc in omega arith)
refused_answer (Answer-as-Refused w) why h = cc

-- the same answer, and what it leaves
pub same_answer : {S : Type 0} {a b : Answer} (s : S) → a ≡ b → done a s ≡ done b s
same_answer s e = ap (λ (x : Answer). done x s) e
