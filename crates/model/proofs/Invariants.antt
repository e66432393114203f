-- What every engine reached by calls has: arrays of their lengths, and flows only where a session is open.
-- Assumes nothing.
use Prim.Native.Nat.{ℕ, ◌≤◌, ◌<◌}
use mathlib.Core.Path.{◌≡◌}
use mathlib.Core.Bool.{false}
use lib.ListN.{length}
use Rattle.sets.specs.Sets.{has}
use Rattle.tables.specs.Tables.{user_count, database_count}
use Rattle.model.specs.declared.Engine.{Engine}
use Rattle.model.specs.Limits.{flow_count}
use Rattle.model.specs.State.{all_sessions, place_count, role_set_count}
use Rattle.model.specs.Calls.{flows_in}

-- the arrays have their lengths, no session has more flows than its limit, and one that is not open has none
pub record Sized (e : Engine) : Type 0 where
  pub roles : length e.directory.tables.roles ≡ user_count
  pub readers : length e.directory.tables.readers ≡ database_count
  pub forwards : length e.directory.tables.forwards ≡ database_count
  pub mandates : length e.directory.tables.mandates ≡ database_count
  pub users : length e.directory.versions ≡ user_count
  pub counts : length e.sessions.counts ≡ all_sessions
  pub roots : length e.sessions.roots ≡ place_count
  pub reaches : length e.sessions.reaches ≡ place_count
  pub versions : length e.sessions.versions ≡ place_count
  pub denies : length e.sessions.denies ≡ place_count
  pub rolesets : length e.sessions.rolesets ≡ role_set_count
  pub few : (s : ℕ) → flows_in e.sessions s ≤ flow_count
  pub shut : (s : ℕ) → s < all_sessions → has e.sessions.opened s ≡ false → flows_in e.sessions s ≡ 0
