-- An engine that is carried over has the old one's numbers and answers its reads.
-- Assumes nothing.
use Prim.Native.Nat.{ℕ}
use mathlib.Core.Path.{◌≡◌, refl}
use Rattle.model.specs.declared.calls.Product.{Product}
use Rattle.model.specs.declared.calls.Call.TheVariants.{Read}
use Rattle.model.specs.Calls.{links, by_duty, read, step, answer, verdict}
use Rattle.model.proofs.Laws.{verdict_answer}
use Rattle.carrying.specs.declared.OldEngine.{OldEngine}
use Rattle.carrying.specs.Carrying.{carried_directory, carried_sessions, carried_over, old_read, Carried}

as_before : (old : OldEngine) (p : Product) (u s f d : ℕ) → verdict (carried_over old) (Read p u s f d) ≡ old_read old p u s f d
unfolding verdict answer step read links by_duty carried_over carried_directory carried_sessions old_read
as_before old p u s f d = verdict_answer (old_read old p u s f d)

pub carried : (old : OldEngine) → Carried old
unfolding carried_over carried_directory carried_sessions
carried old = record {
  unchanged = record { users = refl; system = refl; flows = refl; roles = refl; readers = refl; forwards = refl; mandates = refl; opened = refl; counts = refl; roots = refl; reaches = refl; denies = refl; rolesets = refl };
  as_before = as_before old;
}
