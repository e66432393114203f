-- What an accepted call changes and answers. Calls has it at the end of each call's checks; here it stands alone.
-- Assumes nothing.
use Prim.Native.Nat.{ℕ}
use lib.Dec.{eqb}
use Rattle.sets.specs.Sets.{inserted, joined, size_of}
use Rattle.rows.specs.Reach.{reach}
use Rattle.tables.specs.declared.Tables.{Tables}
use Rattle.tables.specs.Tables.{role_count, database_count, assigned, withdrawn, permitted, revoked, forwarded, mandated}
use Rattle.model.specs.declared.Directory.{Directory}
use Rattle.model.specs.declared.Sessions.{Sessions}
use Rattle.model.specs.declared.Engine.{Engine}
use Rattle.model.specs.declared.calls.Refusal.TheVariants.{Malformed}
use Rattle.model.specs.declared.calls.Change.{Change}
use Rattle.model.specs.declared.calls.Change.TheVariants.{Assign, Withdraw, Permit, Revoke, Forward, Mandate}
use Rattle.model.specs.declared.calls.Ask.{Ask}
use Rattle.model.specs.declared.calls.Ask.TheVariants.{Open, Conflicting, Add, Show}
use Rattle.model.specs.declared.calls.Call.{Call}
use Rattle.model.specs.declared.calls.Call.TheVariants.{Table, Session, Read, Unreadable}
use Rattle.model.specs.declared.calls.Answer.{Answer}
use Rattle.model.specs.declared.calls.Answer.TheVariants.{Version, Roles, Flow, Granted as Answer-as-Granted, Constraint as Answer-as-Constraint, Refused as Answer-as-Refused}
use Rattle.model.specs.State.{session_at, sessions_of, engine_of, deny_before, new_version}
use Rattle.model.specs.Calls.{with_tables, to_holders, flows_in, conflicts_in, with_flow}

-- a change of the tables: the pair, and the new versions that are due
unfoldable pub changed_tables : Tables → Change → Tables
changed_tables T (Assign u r) = assigned T u r
changed_tables T (Withdraw u r) = withdrawn T u r
changed_tables T (Permit r d) = permitted T r d
changed_tables T (Revoke r d) = revoked T r d
changed_tables T (Forward d x) = forwarded T d x
changed_tables T (Mandate r d) = mandated T r d

unfoldable pub given_by : Directory → Change → Directory
given_by D (Assign u r) = new_version D (λ w. eqb w u)
given_by D (Withdraw u r) = D
given_by D (Permit r d) = to_holders D r
given_by D (Revoke r d) = to_holders D r
given_by D (Forward d x) = D
given_by D (Mandate r d) = D

unfoldable pub changed_directory : Directory → Change → Directory
changed_directory D c = given_by (with_tables D (changed_tables D.tables c)) c

unfoldable pub session_opened : Sessions → ℕ → Sessions
session_opened S s = sessions_of (inserted 64 S.opened s) S.counts S.roots S.reaches S.versions S.denies S.rolesets

unfoldable pub changed_sessions : Directory → Sessions → ℕ → Ask → Sessions
changed_sessions D S s Open = session_opened S s
changed_sessions D S s (Conflicting root) = S
changed_sessions D S s (Add root chosen) = with_flow D S s root (reach database_count D.tables.forwards root) (joined role_count (deny_before S.denies s (flows_in S s)) chosen)
changed_sessions D S s (Show f) = S

unfoldable pub ask_answer : Directory → Sessions → ℕ → Ask → Answer
ask_answer D S s Open = Version D.version
ask_answer D S s (Conflicting root) = Roles (conflicts_in D.tables S s (reach database_count D.tables.forwards root))
ask_answer D S s (Add root chosen) = Flow (flows_in S s) (size_of database_count (reach database_count D.tables.forwards root)) D.version
ask_answer D S s (Show f) = Answer-as-Constraint s f

-- any call
unfoldable pub changed : Engine → Call → Engine
changed e (Table c) = engine_of (changed_directory e.directory c) e.sessions
changed e (Session p s a) = engine_of e.directory (changed_sessions e.directory e.sessions (session_at p s) a)
changed e (Read p u s f d) = e
changed e Unreadable = e

unfoldable pub accepted : Engine → Call → Answer
accepted e (Table c) = Version (changed_directory e.directory c).version
accepted e (Session p s a) = ask_answer e.directory e.sessions (session_at p s) a
accepted e (Read p u s f d) = Answer-as-Granted
accepted e Unreadable = Answer-as-Refused Malformed
