-- An array with a number for each flow, as a closure makes it.
-- Assumes nothing.
use Prim.Native.Nat.{ℕ, zero, suc, ◌+◌, ◌≤◌, ◌<◌}
use mathlib.Core.Path.{◌≡◌, sym, ap, ◌∙◌}
use mathlib.Core.List.{List}
use mathlib.Core.Logic.{⊎_elim}
use native.Mathlib.Nat.{zero-add, eq-or-lt_of_le}
use native.Mathlib.Omega.{arith}
use denote.Param.Members.{Mut}
use lib.ListN.{get_or, replicate}
use Rattle.std.specs.Fn.{Called}
use Rattle.std.specs.Array.{IsFromFnResultFrom, IsFromFnResult, MapsFrom, IsMapOf}
use Rattle.model.specs.Limits.{flow_count}
use Rattle.model.proofs.Laws.{get_d_filled, by_elements}
use Rattle.graph.specs.Graph.{by_flow}

pub flow_at : (p : ℕ → ℕ) (g : ℕ) → g < flow_count → get_or (by_flow p) g 0 ≡ p g
flow_at p g l = rw (zero-add g) at (get_d_filled 0 p flow_count (replicate flow_count 0) g (omega arith) l)

-- made by a closure that changes nothing it captures: number j is what it gives for j
made_at : {F : Type 0} (call : Mut F (ℕ × Unit {0}) ℕ) (f : F) (p : ℕ → ℕ) (ys : List ℕ) → ((x b : ℕ) (q : F) → Called call f (x, tt) b q → (q ≡ f) × (b ≡ p x))
    → (n i : ℕ) → IsFromFnResultFrom call f ys i n → (j : ℕ) → i ≤ j → j < i + n → get_or ys j 0 ≡ p j
made_at call f p ys gives zero i t j l k = absurd (omega arith)
made_at call f p ys gives (suc n) i t j l k =
    let here = gives i t.1 t.0 t.3 in
    let rest : IsFromFnResultFrom call f ys (i + 1) n = rw here.0 at t.4 in
    ⊎_elim (λ (e : i ≡ j). rw (← e) (t.2.1 0 ∙ here.1)) (λ (m : i < j). made_at call f p ys gives n (i + 1) rest j (omega arith) (omega arith)) (eq-or-lt_of_le l)

-- made of another array by such a closure: number j is what it gives for that array's number j
mapped_at : {F : Type 0} (call : Mut F (ℕ × Unit {0}) ℕ) (f : F) (p : ℕ → ℕ) (xs ys : List ℕ) → ((x b : ℕ) (q : F) → Called call f (x, tt) b q → (q ≡ f) × (b ≡ p x))
    → (n i : ℕ) → MapsFrom call f xs ys i n → (j : ℕ) → i ≤ j → j < i + n → get_or ys j 0 ≡ p (get_or xs j 0)
mapped_at call f p xs ys gives zero i t j l k = absurd (omega arith)
mapped_at call f p xs ys gives (suc n) i t j l k =
    let here = gives t.1 t.2 t.0 t.5 in
    let rest : MapsFrom call f xs ys (i + 1) n = rw here.0 at t.6 in
    ⊎_elim (λ (e : i ≡ j). rw (← e) (t.4.1 0 ∙ here.1 ∙ ap p (sym (t.3.1 0)))) (λ (m : i < j). mapped_at call f p xs ys gives n (i + 1) rest j (omega arith) (omega arith)) (eq-or-lt_of_le l)

pub flows_from_fn : {F : Type 0} (call : Mut F (ℕ × Unit {0}) ℕ) (f : F) (p : ℕ → ℕ) (ys : List ℕ) → IsFromFnResult call f ys flow_count
    → ((x b : ℕ) (q : F) → Called call f (x, tt) b q → (q ≡ f) × (b ≡ p x)) → ys ≡ by_flow p
flows_from_fn call f p ys r gives = by_elements p flow_count ys _ r.long (omega arith) (λ g k. made_at call f p ys gives flow_count 0 r.each g (omega arith) (omega arith))

pub flows_mapped : {F : Type 0} (call : Mut F (ℕ × Unit {0}) ℕ) (f : F) (p : ℕ → ℕ) (xs ys : List ℕ) → IsMapOf call f xs ys flow_count
    → ((x b : ℕ) (q : F) → Called call f (x, tt) b q → (q ≡ f) × (b ≡ p x)) → ys ≡ by_flow (λ g. p (get_or xs g 0))
flows_mapped call f p xs ys r gives = by_elements (λ g. p (get_or xs g 0)) flow_count ys _ r.long (omega arith) (λ g k. mapped_at call f p xs ys gives flow_count 0 r.each g (omega arith) (omega arith))
