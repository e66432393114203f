-- The calls: of each its checks in the order of the refusal table, its change and its answer, in one equation. The contracts promise these of the code.
-- Nobody has to believe them: Demands says what they come to, by a ledger that knows nothing of them.
-- Assumes nothing.
use Rattle.std.specs.Prelude.{ℕ, suc, ◌+◌, ◌^◌, Bool, true, false, cond, not, ◌&&◌, List, leb, ltb, eqb, get_or, set, replicate}
use Rattle.sets.specs.Sets.{has, inserted, joined, meeting, size_of}
use Rattle.rows.specs.Reach.{reach}
use Rattle.tables.specs.declared.Tables.{Tables}
use Rattle.tables.specs.Tables.{user_count, role_count, database_count, holds, may_read, forwards_to, has_mandate, held_by, assigned, withdrawn, permitted, revoked, forwarded, mandated}
use Rattle.model.specs.declared.Constraint.{Constraint}
use Rattle.model.specs.declared.Directory.{Directory}
use Rattle.model.specs.declared.Sessions.{Sessions}
use Rattle.model.specs.declared.Engine.{Engine}
use Rattle.model.specs.declared.Shown.{Shown}
use Rattle.model.specs.declared.calls.Refusal.{Refusal}
use Rattle.model.specs.declared.calls.Refusal.TheVariants.{Malformed, AboveLimit, AlreadyThere, NotThere, FlowAdded, NotOpen, SessionFull, NotConflicting, VersionsSpent, NoSuchFlow, OutOfReach, NoPermission, Changed, Linkable, Mandated}
use Rattle.model.specs.declared.calls.Change.{Change}
use Rattle.model.specs.declared.calls.Change.TheVariants.{Assign, Withdraw, Permit, Revoke, Forward, Mandate}
use Rattle.model.specs.declared.calls.Product.{Product}
use Rattle.model.specs.declared.calls.Ask.{Ask}
use Rattle.model.specs.declared.calls.Ask.TheVariants.{Open, Conflicting, Add, Show}
use Rattle.model.specs.declared.calls.Call.{Call}
use Rattle.model.specs.declared.calls.Call.TheVariants.{Table, Session, Read, Unreadable}
use Rattle.model.specs.declared.calls.Verdict.{Verdict}
use Rattle.model.specs.declared.calls.Verdict.TheVariants.{Granted, Refused}
use Rattle.model.specs.declared.calls.Answer.{Answer}
use Rattle.model.specs.declared.calls.Answer.TheVariants.{Version, Roles, Flow, Granted as Answer-as-Granted, Constraint as Answer-as-Constraint, Refused as Answer-as-Refused}
use Rattle.model.specs.Limits.{flow_count, last_version}
use Rattle.model.specs.State.{all_sessions, session_at, directory_of, sessions_of, engine_of, filled, place, set_place, any_flow, reach_with, conflicts, outside, deny_before, role_set, roleset_at, linkable, new_version}

-- ---- the number of each refusal, as document 01's table has it; 15 is K3's

unfoldable pub number_of : Refusal → ℕ
number_of Malformed = 1
number_of AboveLimit = 2
number_of AlreadyThere = 3
number_of NotThere = 4
number_of FlowAdded = 5
number_of NotOpen = 6
number_of SessionFull = 7
number_of NotConflicting = 8
number_of VersionsSpent = 9
number_of NoSuchFlow = 10
number_of OutOfReach = 11
number_of NoPermission = 12
number_of Changed = 13
number_of Linkable = 14
number_of Mandated = 15

-- "00 accepted, else the number refused"
unfoldable pub returned : Verdict → ℕ
returned Granted = 0
returned (Refused why) = number_of why

-- whether an answer accepts its call, or refuses it
unfoldable pub verdict_of : Answer → Verdict
verdict_of (Version v) = Granted
verdict_of (Roles m) = Granted
verdict_of (Flow n k v) = Granted
verdict_of Answer-as-Granted = Granted
verdict_of (Answer-as-Constraint s f) = Granted
verdict_of (Answer-as-Refused why) = Refused why

-- ---- an answer, and what it leaves of what it was asked of

pub record Done (S : Type 0) : Type 0 where
  pub answer : Answer
  pub after : S

abbrev pub done : {S : Type 0} → Answer → S → Done S
done a s = record { answer = a; after = s }

-- refused where the test holds, and nothing changes; else what the later checks say
abbrev pub refuse : {S : Type 0} → Bool → Refusal → S → Done S → Done S
refuse true why s later = done (Answer-as-Refused why) s
refuse false why s later = later

-- the same for a question, and for a read, which change nothing
abbrev pub unless : Bool → Refusal → Answer → Answer
unless true why later = Answer-as-Refused why
unless false why later = later

abbrev pub bar : Bool → Refusal → Verdict → Verdict
bar true why later = Refused why
bar false why later = later

-- ---- changes of the tables

abbrev pub with_tables : Directory → Tables → Directory
with_tables D T = directory_of T D.versions D.version

-- "for 01–06 the system version", and for 10
abbrev pub told : Directory → Done Directory
told D = done (Version D.version) D

-- "a new version for all users who hold the role; if nobody does, none"
unfoldable pub to_holders : Directory → ℕ → Directory
to_holders D r = cond (held_by user_count D.tables.roles r) (new_version D (λ u. holds D.tables u r)) D

-- A change that can give a new version is told the last one: the engine's own is `last_version`, and that of the engine of before K4 was less.

-- a new version is due to the holders of r, and there is none left
unfoldable pub spent : ℕ → Directory → ℕ → Bool
spent last D r = held_by user_count D.tables.roles r && eqb D.version last

-- 01: rows 2, 3, 9
unfoldable pub assign : ℕ → Directory → ℕ → ℕ → Done Directory
assign last D u r =
    refuse (leb user_count u) AboveLimit D
    (refuse (leb role_count r) AboveLimit D
    (refuse (holds D.tables u r) AlreadyThere D
    (refuse (eqb D.version last) VersionsSpent D
    (told (new_version (with_tables D (assigned D.tables u r)) (λ w. eqb w u))))))

-- 02: rows 2, 4
unfoldable pub withdraw : Directory → ℕ → ℕ → Done Directory
withdraw D u r =
    refuse (leb user_count u) AboveLimit D
    (refuse (leb role_count r) AboveLimit D
    (refuse (not (holds D.tables u r)) NotThere D
    (told (with_tables D (withdrawn D.tables u r)))))

-- 03: rows 2, 3, 9
unfoldable pub permit : ℕ → Directory → ℕ → ℕ → Done Directory
permit last D r d =
    refuse (leb role_count r) AboveLimit D
    (refuse (leb database_count d) AboveLimit D
    (refuse (may_read D.tables r d) AlreadyThere D
    (refuse (spent last D r) VersionsSpent D
    (told (to_holders (with_tables D (permitted D.tables r d)) r)))))

-- 04: rows 2, 4, 15, 9
unfoldable pub revoke : ℕ → Directory → ℕ → ℕ → Done Directory
revoke last D r d =
    refuse (leb role_count r) AboveLimit D
    (refuse (leb database_count d) AboveLimit D
    (refuse (not (may_read D.tables r d)) NotThere D
    (refuse (has_mandate D.tables r d) Mandated D
    (refuse (spent last D r) VersionsSpent D
    (told (to_holders (with_tables D (revoked D.tables r d)) r))))))

-- 05: rows 2, 5, 3; `counts` tells how many flows each session has
unfoldable pub forward : Directory → List ℕ → ℕ → ℕ → Done Directory
forward D counts d e =
    refuse (leb database_count d) AboveLimit D
    (refuse (leb database_count e) AboveLimit D
    (refuse (any_flow counts) FlowAdded D
    (refuse (forwards_to D.tables d e) AlreadyThere D
    (told (with_tables D (forwarded D.tables d e))))))

-- 10 (K3): rows 2, 3, 4
unfoldable pub mandate : Directory → ℕ → ℕ → Done Directory
mandate D r d =
    refuse (leb role_count r) AboveLimit D
    (refuse (leb database_count d) AboveLimit D
    (refuse (has_mandate D.tables r d) AlreadyThere D
    (refuse (not (may_read D.tables r d)) NotThere D
    (told (with_tables D (mandated D.tables r d))))))

-- ---- what is asked of a session, which has its number among those of both products

abbrev pub flows_in : Sessions → ℕ → ℕ
flows_in S s = get_or S.counts s 0

-- 06 and 0b: rows 2, 3
unfoldable pub open_session : ℕ → Sessions → ℕ → Done Sessions
open_session version S s =
    refuse (leb all_sessions s) AboveLimit S
    (refuse (has S.opened s) AlreadyThere S
    (done (Version version) (sessions_of (inserted 64 S.opened s) S.counts S.roots S.reaches S.versions S.denies S.rolesets)))

-- the conflicting roles of session s with a flow of this reach counted in as the next one
unfoldable pub conflicts_in : Tables → Sessions → ℕ → ℕ → ℕ
conflicts_in T S s new = conflicts role_count user_count database_count T (suc (flows_in S s)) (reach_with S.reaches s (flows_in S s) new)

-- 07 and 0c: rows 2, 6, 7
unfoldable pub conflicting : Tables → Sessions → ℕ → ℕ → Answer
conflicting T S s root =
    unless (leb all_sessions s) AboveLimit
    (unless (leb database_count root) AboveLimit
    (unless (not (has S.opened s)) NotOpen
    (unless (leb flow_count (flows_in S s)) SessionFull
    (Roles (conflicts_in T S s (reach database_count T.forwards root))))))

-- the sessions with one flow more, the next one of session s: its root and reach, and its constraint, which is "its version (the system version then),
-- its deny set, and one role set for each flow up to itself"
unfoldable pub with_flow : Directory → Sessions → ℕ → ℕ → ℕ → ℕ → Sessions
with_flow D S s root new deny =
    let n : ℕ = flows_in S s in
    sessions_of S.opened (set S.counts s (n + 1)) (set S.roots (place s n) root) (set S.reaches (place s n) new)
    (set S.versions (place s n) D.version) (set S.denies (place s n) deny)
    (filled (set_place s n 0) (λ g. role_set role_count user_count database_count D.tables deny (reach_with S.reaches s n new g)) flow_count S.rolesets)

-- 08 and 0d: rows 2, 6, 7, 8; a chosen role above its limit would make a number above 64 bits.
-- "The flow's deny set is the previous flow's deny set (empty for flow 0) joined with the chosen set."
unfoldable pub add : Directory → Sessions → ℕ → ℕ → ℕ → Done Sessions
add D S s root chosen =
    let n : ℕ = flows_in S s in
    let new : ℕ = reach database_count D.tables.forwards root in
    refuse (leb all_sessions s) AboveLimit S
    (refuse (leb database_count root) AboveLimit S
    (refuse (leb (2 ^ role_count) chosen) AboveLimit S
    (refuse (not (has S.opened s)) NotOpen S
    (refuse (leb flow_count n) SessionFull S
    (refuse (outside role_count chosen (conflicts_in D.tables S s new)) NotConflicting S
    (done (Flow n (size_of database_count new) D.version) (with_flow D S s root new (joined role_count (deny_before S.denies s n) chosen))))))))

-- 0a and 0f: rows 2, 6, 10
unfoldable pub show : Sessions → ℕ → ℕ → Answer
show S s f =
    unless (leb all_sessions s) AboveLimit
    (unless (leb flow_count f) AboveLimit
    (unless (not (has S.opened s)) NotOpen
    (unless (leb (flows_in S s) f) NoSuchFlow
    (Answer-as-Constraint s f))))

-- ---- 09 and 0e, a read: rows 2, 6, 10 to 14, of which a mandate passes 13 and 14 (K3)

-- "refused as linkable if u holds a role of f's deny set and u's roles meet at least two of f's role sets", by f's constraint
unfoldable pub links : Sessions → ℕ → ℕ → ℕ → Bool
links S s f held = linkable role_count flow_count held (get_or S.denies (place s f) 0) (roleset_at S.rolesets s f)

-- "the user holds a role with a mandate at the database read"; `held` are the user's roles
unfoldable pub by_duty : Tables → ℕ → ℕ → Bool
by_duty T held d = meeting role_count held (get_or T.mandates d 0)

unfoldable pub read : Directory → Sessions → ℕ → ℕ → ℕ → ℕ → Verdict
read D S u s f d =
    let held : ℕ = get_or D.tables.roles u 0 in
    bar (leb user_count u) AboveLimit
    (bar (leb database_count d) AboveLimit
    (bar (leb all_sessions s) AboveLimit
    (bar (leb flow_count f) AboveLimit
    (bar (not (has S.opened s)) NotOpen
    (bar (leb (flows_in S s) f) NoSuchFlow
    (bar (not (has (get_or S.reaches (place s f) 0) d)) OutOfReach
    (bar (not (meeting role_count held (get_or D.tables.readers d 0))) NoPermission
    (cond (by_duty D.tables held d) Granted
    (bar (ltb (get_or S.versions (place s f) 0) (get_or D.versions u 0)) Changed
    (bar (links S s f held) Linkable Granted))))))))))

-- the verdict on a read as an answer
unfoldable pub answer_of : Verdict → Answer
answer_of Granted = Answer-as-Granted
answer_of (Refused why) = Answer-as-Refused why

-- ---- any call, group by group; of a product's session its number is taken

unfoldable pub change : ℕ → Directory → List ℕ → Change → Done Directory
change last D counts (Assign u r) = assign last D u r
change last D counts (Withdraw u r) = withdraw D u r
change last D counts (Permit r d) = permit last D r d
change last D counts (Revoke r d) = revoke last D r d
change last D counts (Forward d e) = forward D counts d e
change last D counts (Mandate r d) = mandate D r d

unfoldable pub ask : Directory → Sessions → ℕ → Ask → Done Sessions
ask D S s Open = open_session D.version S s
ask D S s (Conflicting root) = done (conflicting D.tables S s root) S
ask D S s (Add root chosen) = add D S s root chosen
ask D S s (Show f) = done (show S s f) S

unfoldable pub step : ℕ → Engine → Call → Done Engine
step last e (Table c) = let x : Done Directory = change last e.directory e.sessions.counts c in done x.answer (engine_of x.after e.sessions)
step last e (Session p s a) = let x : Done Sessions = ask e.directory e.sessions (session_at p s) a in done x.answer (engine_of e.directory x.after)
step last e (Read p u s f d) = done (answer_of (read e.directory e.sessions u (session_at p s) f d)) e
step last e Unreadable = done (Answer-as-Refused Malformed) e

-- a call's answer, its verdict, and the engine after it: versions go up to `last_version`
unfoldable pub answer : Engine → Call → Answer
answer e c = (step last_version e c).answer

unfoldable pub verdict : Engine → Call → Verdict
verdict e c = verdict_of (answer e c)

unfoldable pub after : Engine → Call → Engine
after e c = (step last_version e c).after

-- ---- a constraint that is shown, by value

-- the constraint of flow f of session s, whose role sets are its first f + 1
unfoldable pub constraint_at : Sessions → ℕ → ℕ → Constraint
constraint_at S s f = record { version = get_or S.versions (place s f) 0; deny = get_or S.denies (place s f) 0; roles = filled 0 (roleset_at S.rolesets s f) flow_count (replicate flow_count 0) }

-- zero beside a refusal: "nothing but the number is returned"
unfoldable pub shown_at : Sessions → ℕ → ℕ → Shown
shown_at S s f = record { answer = show S s f; constraint = shown_constraint (verdict_of (show S s f)) }
  where
    shown_constraint : Verdict → Constraint
    shown_constraint Granted = constraint_at S s f
    shown_constraint (Refused why) = record { version = 0; deny = 0; roles = replicate flow_count 0 }

-- the same of a product's session, whose number is taken
unfoldable pub shown_by : Engine → Product → ℕ → ℕ → Shown
shown_by e p s f = shown_at e.sessions (session_at p s) f
