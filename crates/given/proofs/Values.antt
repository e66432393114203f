-- What the values mean that a caller is given back: demand 1 says what each answer is.
-- Assumes nothing.
use mathlib.Core.Path.{refl}
use Rattle.model.specs.declared.Engine.{Engine}
use Rattle.model.specs.declared.calls.Ask.TheVariants.{Open, Conflicting, Add}
use Rattle.model.specs.declared.calls.Call.TheVariants.{Table, Session}
use Rattle.model.proofs.Seen.{demand1}
use Rattle.given.specs.Given.{version_or, roles_or, flow_or, size_or, ValuesMean}

pub values_mean : (e : Engine) → ValuesMean e
unfolding version_or roles_or flow_or size_or
values_mean e =
    record {
      kept = λ c why old h. rw ((demand1 e c).refused why h).0 (refl, refl, refl, refl);
      changed = λ c old h. rw ((demand1 e (Table c)).told h) refl;
      opened = λ p s old h. rw ((demand1 e (Session p s Open)).told h) refl;
      asked = λ p s root old r h l. let t = (demand1 e (Session p s (Conflicting root))).told h in rw t.1 (t.2 r l);
      added = λ p s root chosen old h. rw ((demand1 e (Session p s (Add root chosen))).told h) (refl, refl, refl);
    }
