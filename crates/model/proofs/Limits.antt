-- The theorem that specs/Limits states.
-- Assumes nothing.
use mathlib.Core.Path.{refl}
use Rattle.model.specs.Limits.{Limits}

pub limits : Limits
limits = record {
  users = refl;
  roles = refl;
  databases = refl;
  sessions = refl;
  flows = refl;
  versions = refl;
  products = refl;
  all_sessions = refl;
  places = refl;
  role_sets = refl;
}
