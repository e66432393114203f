-- What a call by value gives back is its answer and the engine after it.
-- Assumes nothing.
use mathlib.Core.Path.{refl}
use Rattle.model.specs.declared.Engine.{Engine}
use Rattle.model.specs.declared.calls.Call.{Call}
use Rattle.engine.specs.Changed.{changed_by, ChangedMeans}

pub changed_means : (e : Engine) (c : Call) → ChangedMeans e c
unfolding changed_by
changed_means e c = record { answered = refl; led = refl }
