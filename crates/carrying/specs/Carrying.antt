-- Request K4: "An engine of the old width is carried over with each version's number and all else unchanged, and it answers every read as before."
-- Of the old engine its struct is kept (src) and its verdict on a read, here. Statements; proofs/Carrying has the theorems.
-- Assumes nothing.
use Rattle.std.specs.Prelude.{ℕ, ◌≡◌, cond, not, leb, ltb, get_or}
use Rattle.sets.specs.Sets.{has, meeting}
use Rattle.tables.specs.Tables.{user_count, role_count, database_count}
use Rattle.model.specs.declared.Directory.{Directory}
use Rattle.model.specs.declared.Sessions.{Sessions}
use Rattle.model.specs.declared.Engine.{Engine}
use Rattle.model.specs.declared.calls.Refusal.TheVariants.{AboveLimit, NotOpen, NoSuchFlow, OutOfReach, NoPermission, Changed, Linkable}
use Rattle.model.specs.declared.calls.Product.{Product}
use Rattle.model.specs.declared.calls.Call.TheVariants.{Read}
use Rattle.model.specs.declared.calls.Verdict.{Verdict}
use Rattle.model.specs.declared.calls.Verdict.TheVariants.{Granted}
use Rattle.model.specs.Limits.{flow_count}
use Rattle.model.specs.State.{all_sessions, session_at, tables_of, directory_of, sessions_of, engine_of, place, linkable, roleset_at}
use Rattle.model.specs.Calls.{bar, verdict}
use Rattle.carrying.specs.declared.OldDirectory.{OldDirectory}
use Rattle.carrying.specs.declared.OldSessions.{OldSessions}
use Rattle.carrying.specs.declared.OldEngine.{OldEngine}

-- ---- carrying over

unfoldable pub carried_directory : OldDirectory → Directory
carried_directory D = directory_of (tables_of D.roles D.readers D.forwards D.mandates) D.versions D.version

unfoldable pub carried_sessions : OldSessions → Sessions
carried_sessions S = sessions_of S.opened S.counts S.roots S.reaches S.versions S.denies S.rolesets

unfoldable pub carried_over : OldEngine → Engine
carried_over old = engine_of (carried_directory old.directory) (carried_sessions old.sessions)

-- "with each version's number and all else unchanged"
pub record Unchanged (old : OldEngine) (e : Engine) : Type 0 where
  pub users : e.directory.versions ≡ old.directory.versions
  pub system : e.directory.version ≡ old.directory.version
  pub flows : e.sessions.versions ≡ old.sessions.versions
  pub roles : e.directory.tables.roles ≡ old.directory.roles
  pub readers : e.directory.tables.readers ≡ old.directory.readers
  pub forwards : e.directory.tables.forwards ≡ old.directory.forwards
  pub mandates : e.directory.tables.mandates ≡ old.directory.mandates
  pub opened : e.sessions.opened ≡ old.sessions.opened
  pub counts : e.sessions.counts ≡ old.sessions.counts
  pub roots : e.sessions.roots ≡ old.sessions.roots
  pub reaches : e.sessions.reaches ≡ old.sessions.reaches
  pub denies : e.sessions.denies ≡ old.sessions.denies
  pub rolesets : e.sessions.rolesets ≡ old.sessions.rolesets

-- ---- the old engine's verdict on a read of product p's session s

-- rows 2, 6, 10 to 12, and 13 and 14 outside a mandate, as they were when versions had 16 bits
unfoldable pub old_read : OldEngine → Product → ℕ → ℕ → ℕ → ℕ → Verdict
old_read old p u s f d =
    let D : OldDirectory = old.directory in
    let S : OldSessions = old.sessions in
    let n : ℕ = session_at p s in
    let held : ℕ = get_or D.roles u 0 in
    bar (leb user_count u) AboveLimit
    (bar (leb database_count d) AboveLimit
    (bar (leb all_sessions n) AboveLimit
    (bar (leb flow_count f) AboveLimit
    (bar (not (has S.opened n)) NotOpen
    (bar (leb (get_or S.counts n 0) f) NoSuchFlow
    (bar (not (has (get_or S.reaches (place n f) 0) d)) OutOfReach
    (bar (not (meeting role_count held (get_or D.readers d 0))) NoPermission
    (cond (meeting role_count held (get_or D.mandates d 0)) Granted
    (bar (ltb (get_or S.versions (place n f) 0) (get_or D.versions u 0)) Changed
    (bar (linkable role_count flow_count held (get_or S.denies (place n f) 0) (roleset_at S.rolesets n f)) Linkable Granted))))))))))

-- ---- what is promised of every engine of the old width, reached by calls or not

pub record Carried (old : OldEngine) : Type 0 where
  pub unchanged : Unchanged old (carried_over old)
  -- "and it answers every read as before"
  pub as_before : (p : Product) (u s f d : ℕ) → verdict (carried_over old) (Read p u s f d) ≡ old_read old p u s f d
