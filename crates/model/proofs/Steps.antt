-- The three steps of section 3.2, member by member, and that an addition stores what they come to.
-- Assumes nothing.
use Prim.Native.Nat.{ℕ, zero, suc, ◌+◌, ◌≤◌, ◌<◌}
use mathlib.Core.Path.{◌≡◌, sym, ◌∙◌}
use mathlib.Core.List.{List}
use native.Mathlib.Decide.{dec_lt, ℕ_discrete}
use native.Mathlib.Omega.{arith}
use lib.ListN.{length}
use borrow.Author.Tests.{eq-eqb}
use Rattle.rows.proofs.Meaning.{reach_iff}
use Rattle.tables.specs.declared.Tables.{Tables}
use Rattle.tables.specs.Tables.{user_count, role_count, database_count}
use Rattle.model.specs.declared.Engine.{Engine}
use Rattle.model.specs.declared.calls.Product.{Product}
use Rattle.model.specs.declared.calls.Ask.TheVariants.{Open, Conflicting, Add, Show}
use Rattle.model.specs.declared.calls.Call.{Call}
use Rattle.model.specs.declared.calls.Call.TheVariants.{Table, Session, Read, Unreadable}
use Rattle.model.specs.declared.calls.Verdict.TheVariants.{Granted}
use Rattle.model.specs.State.{session_at, role_set}
use Rattle.model.specs.Calls.{verdict, after}
use Rattle.model.specs.Demands.{engine_after, engine_at, call_at}
use Rattle.model.specs.Meaning.{flows_of, reach_of, Added, Means}
use Rattle.model.specs.Steps.{databases, roles, overlapping_roles, StepsMean, tables_at, next_flow, AddsAt, deny_given, roles_given, Steps}
use Rattle.model.proofs.Laws.{session_one}
use Rattle.model.proofs.Ledgers.{one_session}
use Rattle.model.proofs.SeenRows.{within_add, after_cases}
use Rattle.model.proofs.Meaning.{among_means, readers_mean, call_means, fresh_means}
use Rattle.model.proofs.Lasting.{engine_step, past_end, still_there, lasting}

pub steps_mean : (T : Tables) → StepsMean T
steps_mean T = record {
  first = λ root d. reach_iff database_count T.forwards root d;
  second = λ found r. readers_mean role_count user_count database_count T found r;
  third = λ may deny r. among_means role_count user_count database_count T may deny r;
}

-- ---- each flow has its addition

-- the call c that made flow g of product p's session s
abbrev Made : Engine → Call → Product → ℕ → ℕ → Type 0
Made e c p s g = (root : ℕ) × (chosen : ℕ) × (c ≡ Session p s (Add root chosen)) × (flows_of e (session_at p s) ≡ g)

-- an accepted call that leaves a flow which was not there is its addition
made : (e new : Engine) (c : Call) (p : Product) (s g : ℕ) → verdict e c ≡ Granted → Means e new c → flows_of e (session_at p s) ≤ g → g < flows_of new (session_at p s) → Made e c p s g
made e new (Table c) p s g h m l k = let q : flows_of new (session_at p s) ≡ flows_of e (session_at p s) = rw m.1 in absurd (omega arith)
made e new (Session q t Open) p s g h m l k = absurd (omega (arith, m.counts (session_at p s)))
made e new (Session q t (Conflicting root)) p s g h m l k = let z : flows_of new (session_at p s) ≡ flows_of e (session_at p s) = rw m in absurd (omega arith)
made e new (Session q t (Add root chosen)) p s g h m l k = go (ℕ_discrete (session_at p s) (session_at q t))
  where
    go : Dec (session_at p s ≡ session_at q t) → Made e (Session q t (Add root chosen)) p s g
    go (yes z) =
        let w = one_session p q s t (sym (session_one p q s t (within_add e q t root chosen h).0) ∙ eq-eqb (session_at p s) (session_at q t) z) in
        let n : flows_of new (session_at p s) ≡ flows_of e (session_at p s) + 1 = rw z m.counted in
        (root, chosen, rw (w.0, w.1), omega arith)
    go (no z) = absurd (omega (arith, m.elsewhere (session_at p s) z))
made e new (Session q t (Show f)) p s g h m l k = let z : flows_of new (session_at p s) ≡ flows_of e (session_at p s) = rw m in absurd (omega arith)
made e new (Read q u t f d) p s g h m l k = let z : flows_of new (session_at p s) ≡ flows_of e (session_at p s) = rw m in absurd (omega arith)
made e new Unreadable p s g h m l k = absurd m

-- before the first call there is none
none_yet : (cs : List Call) (p : Product) (s : ℕ) → next_flow cs 0 p s ≡ 0
unfolding engine_at engine_after
none_yet cs p s = (fresh_means.sessions (session_at p s)).1

-- a call that leaves a flow which was not there is accepted
granted : (e : Engine) (c : Call) (s g : ℕ) → flows_of e s ≤ g → g < flows_of (after e c) s → verdict e c ≡ Granted
granted e c s g l k = after_cases (λ new. g < flows_of new s → verdict e c ≡ Granted) e c (λ m. absurd (omega arith)) (λ h m. h) k

abbrev Origin : List Call → ℕ → Product → ℕ → ℕ → Type 0
Origin cs i p s g = (j : ℕ) × (root : ℕ) × (chosen : ℕ) × (j < i) × AddsAt cs j p s root chosen × (next_flow cs j p s ≡ g)

origin : (cs : List Call) (i : ℕ) (p : Product) (s g : ℕ) → g < next_flow cs i p s → Origin cs i p s g
origin cs zero p s g l = absurd (omega (arith, none_yet cs p s))
origin cs (suc i) p s g l = go (dec_lt g (next_flow cs i p s)) (λ k. origin cs i p s g k)
  where
    e : Engine
    e = engine_at cs i

    c : Call
    c = call_at cs i

    here : i < length cs → next_flow cs i p s ≤ g → Origin cs (suc i) p s g
    here k n =
        let m : g < flows_of (after e c) (session_at p s) = rw (engine_step cs i k) at l in
        let h = granted e c (session_at p s) g n m in
        let w = made e (after e c) c p s g h (call_means cs i c h) n m in
        (i, w.0, w.1, omega arith, record { within = k; asked = w.2; accepted = rw w.2 at h }, w.3)

    go : Dec (g < next_flow cs i p s) → (g < next_flow cs i p s → Origin cs i p s g) → Origin cs (suc i) p s g
    go (yes k) f = let w = f k in (w.0, w.1, w.2, omega (arith, w.3), w.4, w.5)
    go (no k) f = there (dec_lt i (length cs))
      where
        there : Dec (i < length cs) → Origin cs (suc i) p s g
        there (yes m) = here m (omega arith)
        there (no m) = let z : next_flow cs (suc i) p s ≡ next_flow cs i p s = rw (past_end cs i (omega arith)) in absurd (omega arith)

-- ---- the steps joined

module _ (cs : List Call) (i j : ℕ) (p : Product) (s root chosen older before : ℕ) (l : j ≤ i) (a : AddsAt cs i p s root chosen) (b : AddsAt cs j p s older before) where
  -- what the two calls left
  now : Added (engine_at cs i) (engine_at cs (suc i)) (session_at p s) root chosen
  now = (lasting cs).stored p i s root chosen a.within a.asked a.accepted

  then : Added (engine_at cs j) (engine_at cs (suc j)) (session_at p s) older before
  then = (lasting cs).stored p j s older before b.within b.asked b.accepted

  -- the databases that call j found are those that call i goes by
  kept : reach_of (engine_at cs (suc i)) (session_at p s) (next_flow cs j p s) ≡ databases (tables_at cs j) older
  kept = ((lasting cs).kept (suc j) (suc i) (session_at p s) (next_flow cs j p s) (omega arith) (omega (arith, then.counted))).reach ∙ then.reach_is

  up_to : next_flow cs j p s ≤ next_flow cs i p s
  up_to = go (ℕ_discrete i j)
    where
      go : Dec (i ≡ j) → next_flow cs j p s ≤ next_flow cs i p s
      go (yes q) = rw q (omega arith)
      go (no q) = omega (arith, still_there cs (suc j) i (session_at p s) (next_flow cs j p s) (omega arith) (omega (arith, then.counted)))

  joined : roles_given cs i p s (next_flow cs j p s) ≡ overlapping_roles (tables_at cs i) (roles (tables_at cs i) (databases (tables_at cs j) older)) (deny_given cs i p s)
  unfolding role_set
  joined = rw kept at (now.roles_are (next_flow cs j p s) up_to)

pub steps : (cs : List Call) → Steps cs
steps cs = record { added = λ i p s g l. origin cs i p s g l; joined = λ i j p s root chosen older before l a b. joined cs i j p s root chosen older before l a b }
