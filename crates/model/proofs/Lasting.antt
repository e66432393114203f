-- What an addition stores and what lasts of it, for every list of calls from a fresh engine.
-- Assumes nothing.
use Prim.Native.Nat.{ℕ, zero, suc, ◌+◌, ◌≤◌, ◌<◌}
use mathlib.Core.Path.{◌≡◌, refl, ap, ◌∙◌}
use mathlib.Core.List.{List, [], ◌∷◌, ◌++◌}
use native.Mathlib.Decide.{dec_lt, ℕ_discrete}
use native.Mathlib.Omega.{arith}
use lib.ListN.{length, get_or, take}
use lib.Seq.{take-suc}
use Rattle.model.specs.declared.Directory.{Directory}
use Rattle.model.specs.declared.Engine.{Engine}
use Rattle.model.specs.declared.calls.Ask.TheVariants.{Open, Conflicting, Add, Show}
use Rattle.model.specs.declared.calls.Call.{Call}
use Rattle.model.specs.declared.calls.Call.TheVariants.{Table, Session, Read, Unreadable}
use Rattle.model.specs.Limits.{flow_count}
use Rattle.model.specs.State.{fresh, session_at, engine_of}
use Rattle.model.specs.Calls.{after}
use Rattle.model.specs.Demands.{engine_after, engine_at, call_at}
use Rattle.model.specs.Meaning.{flows_of, SameFlow, Added, Means}
use Rattle.model.specs.Lasting.{Lasting}
use Rattle.model.proofs.Invariants.{Sized}
use Rattle.model.proofs.Ledgers.{along}
use Rattle.model.proofs.SeenRows.{after_cases}
use Rattle.model.proofs.Meaning.{means, sized_at, call_means}

-- ---- one call

-- flow f of session s is there, and is as it was
record Still (old new : Engine) (s f : ℕ) : Type 0 where
  there : f < flows_of new s
  same : SameFlow old new s f

-- whatever the tables and the versions are
still_sessions : (e : Engine) (D : Directory) (s f : ℕ) → f < flows_of e s → Still e (engine_of D e.sessions) s f
still_sessions e D s f l = record { there = l; same = record { root = refl; reach = refl; version = refl; deny = refl; roles = λ g k. refl } }

still_here : (e : Engine) (s f : ℕ) → f < flows_of e s → Still e e s f
still_here e s f l = still_sessions e e.directory s f l

still_later : {a b c : Engine} {s f : ℕ} → Still a b s f → Still b c s f → Still a c s f
still_later x y =
    let p = x.same in
    let q = y.same in
    record {
      there = y.there;
      same = record { root = q.root ∙ p.root; reach = q.reach ∙ p.reach; version = q.version ∙ p.version; deny = q.deny ∙ p.deny; roles = λ g k. q.roles g k ∙ p.roles g k };
    }

-- an addition, to this session or to another
still_added : (e new : Engine) (t root chosen s f : ℕ) → f < flow_count → f < flows_of e s → Added e new t root chosen → Still e new s f
still_added e new t root chosen s f m l a = go (ℕ_discrete s t)
  where
    go : Dec (s ≡ t) → Still e new s f
    go (yes q) =
        let k : flows_of new s ≡ flows_of e s + 1 = rw q a.counted in
        let n : f < flows_of e t = rw (← q) l in
        record { there = omega arith; same = a.older s f m (λ p r. omega arith) }
    go (no q) = record { there = rw (a.elsewhere s q) l; same = a.older s f m (λ p r. q p) }

-- any accepted call
still_means : (e new : Engine) (c : Call) (s f : ℕ) → f < flow_count → f < flows_of e s → Means e new c → Still e new s f
still_means e new (Table c) s f k l m = rw m.1 (still_sessions e new.directory s f l)
still_means e new (Session p t Open) s f k l m = record { there = rw (m.counts s) l; same = m.flows s f }
still_means e new (Session p t (Conflicting root)) s f k l m = rw m (still_here e s f l)
still_means e new (Session p t (Add root chosen)) s f k l m = still_added e new (session_at p t) root chosen s f k l m
still_means e new (Session p t (Show g)) s f k l m = rw m (still_here e s f l)
still_means e new (Read p u t g d) s f k l m = rw m (still_here e s f l)
still_means e new Unreadable s f k l m = absurd m

still_after : (e : Engine) (c : Call) (s f : ℕ) → Sized e → f < flows_of e s → Still e (after e c) s f
still_after e c s f z l = after_cases (λ new. Still e new s f) e c (still_here e s f l) (λ h. still_means e _ c s f (omega (arith, z.few s)) l (means e c z h))

-- ---- a list of calls

pub engine_both : (e : Engine) (xs ys : List Call) → engine_after e (xs ++ ys) ≡ engine_after (engine_after e xs) ys
unfolding engine_after
engine_both e [] ys = refl
engine_both e (x ∷ xs) ys = engine_both (after e x) xs ys

pub engine_step : (cs : List Call) (k : ℕ) → k < length cs → engine_at cs (suc k) ≡ after (engine_at cs k) (call_at cs k)
unfolding engine_at call_at engine_after
engine_step cs k h = rw (take-suc cs k Unreadable) (engine_both fresh (take k cs) (get_or cs k Unreadable ∷ []))

-- past its end nothing more happens
take_past : (cs : List Call) (k : ℕ) → length cs ≤ k → take (suc k) cs ≡ take k cs
take_past [] zero l = refl
take_past [] (suc k) l = refl
take_past (c ∷ cs) zero l = absurd (omega arith)
take_past (c ∷ cs) (suc k) l = ap (λ (r : List Call). c ∷ r) (take_past cs k (omega arith))

pub past_end : (cs : List Call) (k : ℕ) → length cs ≤ k → engine_at cs (suc k) ≡ engine_at cs k
unfolding engine_at
past_end cs k l = rw (take_past cs k l)

still_next : (cs : List Call) (k s f : ℕ) → f < flows_of (engine_at cs k) s → Still (engine_at cs k) (engine_at cs (suc k)) s f
still_next cs k s f l = go (dec_lt k (length cs))
  where
    go : Dec (k < length cs) → Still (engine_at cs k) (engine_at cs (suc k)) s f
    go (yes m) = rw (engine_step cs k m) (still_after (engine_at cs k) (call_at cs k) s f (sized_at cs k) l)
    go (no m) = rw (past_end cs k (omega arith)) (still_here (engine_at cs k) s f l)

still_at : (cs : List Call) (i j s f : ℕ) → i ≤ j → f < flows_of (engine_at cs i) s → Still (engine_at cs i) (engine_at cs j) s f
still_at cs i j s f m l = along (λ k. Still (engine_at cs i) (engine_at cs k) s f) i j m (still_here (engine_at cs i) s f l) (λ k a b h. still_later h (still_next cs k s f h.there))

-- and it is there from then on
pub still_there : (cs : List Call) (i j s f : ℕ) → i ≤ j → f < flows_of (engine_at cs i) s → f < flows_of (engine_at cs j) s
still_there cs i j s f m l = (still_at cs i j s f m l).there

pub lasting : (cs : List Call) → Lasting cs
lasting cs = record {
  stored = λ p i s root chosen l c h. rw (engine_step cs i l, c) (call_means cs i (Session p s (Add root chosen)) h);
  kept = λ i j s f m l. (still_at cs i j s f m l).same;
}
