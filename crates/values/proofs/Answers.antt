-- A constraint that is shown.
-- Assumes nothing.
use Prim.Native.Nat.{ℕ, ◌<◌}
use mathlib.Core.Path.{◌≡◌, refl}
use mathlib.Core.Bool.{Bool, true, false, not}
use native.Mathlib.Omega.{arith}
use lib.Dec.{leb}
use borrow.Author.Tests.{leb-false}
use Rattle.sets.specs.Sets.{has}
use Rattle.model.specs.Limits.{flow_count}
use Rattle.model.specs.State.{all_sessions}
use Rattle.model.specs.declared.Sessions.{Sessions}
use Rattle.model.specs.declared.calls.Answer.{Answer}
use Rattle.model.specs.declared.calls.Answer.TheVariants.{Constraint}
use Rattle.model.specs.declared.calls.Refusal.{Refusal}
use Rattle.model.specs.declared.calls.Refusal.TheVariants.{AboveLimit, NotOpen, NoSuchFlow}
use Rattle.model.specs.declared.calls.Verdict.TheVariants.{Granted, Refused}
use Rattle.model.specs.Calls.{unless, verdict_of, flows_in, show}

unless_granted : (b : Bool) (why : Refusal) (a : Answer) → verdict_of (unless b why a) ≡ Granted → (b ≡ false) × (verdict_of a ≡ Granted)
unfolding verdict_of
unless_granted true why a h = let z : ◌≡◌ {A = ℕ} 0 1 = cc in absurd (omega arith)
unless_granted false why a h = (refl, h)

-- a constraint that is shown is that of a session and a flow below their limits
pub show_within : (S : Sessions) (s f : ℕ) → verdict_of (show S s f) ≡ Granted → (s < all_sessions) × (f < flow_count)
unfolding show
show_within S s f h =
    let open' : Answer = unless (not (has S.opened s)) NotOpen (unless (leb (flows_in S s) f) NoSuchFlow (Constraint s f)) in
    let p = unless_granted (leb all_sessions s) AboveLimit (unless (leb flow_count f) AboveLimit open') h in
    (leb-false all_sessions s p.0, leb-false flow_count f (unless_granted (leb flow_count f) AboveLimit open' p.1).0)

-- and where none is shown the call is refused
unless_refused : (b : Bool) (why : Refusal) (a : Answer) → ((t g : ℕ) → unless b why a ≡ Constraint t g → ⊥) → (((t g : ℕ) → a ≡ Constraint t g → ⊥) → (w : Refusal) × (verdict_of a ≡ Refused w)) → (w : Refusal) × (verdict_of (unless b why a) ≡ Refused w)
unfolding verdict_of
unless_refused true why a h later = (why, refl)
unless_refused false why a h later = later h

pub show_refused : (S : Sessions) (s f : ℕ) → ((t g : ℕ) → show S s f ≡ Constraint t g → ⊥) → (w : Refusal) × (verdict_of (show S s f) ≡ Refused w)
unfolding show
show_refused S s f none =
    unless_refused (leb all_sessions s) AboveLimit _ none (λ h.
    unless_refused (leb flow_count f) AboveLimit _ h (λ i.
    unless_refused (not (has S.opened s)) NotOpen _ i (λ j.
    unless_refused (leb (flows_in S s) f) NoSuchFlow (Constraint s f) j (λ k. absurd (k s f refl)))))
