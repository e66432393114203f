-- Request K4, over whole lists: calls to the engine of the old width, from a fresh one; it is carried over; then calls to the engine.
-- The old engine is the calls' own text with the old width's last version in it, and so is its ledger. Statements; proofs/Moving has the theorems.
-- Assumes nothing.
use Rattle.std.specs.Prelude.{ℕ, suc, ◌-◌, ◌^◌, ◌≤◌, ◌≡◌, cond, List, [], ◌∷◌, ◌++◌, ◌≢◌, ltb, eqb, length, take}
use Rattle.model.specs.declared.Engine.{Engine}
use Rattle.model.specs.declared.calls.Refusal.TheVariants.{VersionsSpent}
use Rattle.model.specs.declared.calls.Call.{Call}
use Rattle.model.specs.declared.calls.Call.TheVariants.{Unreadable}
use Rattle.model.specs.declared.calls.Verdict.TheVariants.{Refused}
use Rattle.model.specs.Limits.{last_version}
use Rattle.model.specs.State.{fresh}
use Rattle.model.specs.Calls.{verdict_of, step}
use Rattle.model.specs.Ledger.{Ledger, start, linked}
use Rattle.model.specs.Refusals.{rows, first_met, taken, ledger_after}
use Rattle.model.specs.Demands.{engine_after, engine_at, call_at, Run, Demand3}
use Rattle.carrying.specs.declared.OldEngine.{OldEngine}
use Rattle.carrying.specs.Carrying.{carried_over}

-- document 01's "versions 0–65535"
abbrev pub old_last : ℕ
old_last = 65535

-- ---- the old engine

-- the old struct with an engine's numbers
unfoldable pub old_of : Engine → OldEngine
old_of e = record {
  directory = record { roles = e.directory.tables.roles; readers = e.directory.tables.readers; forwards = e.directory.tables.forwards; mandates = e.directory.tables.mandates; versions = e.directory.versions; version = e.directory.version };
  sessions = record { opened = e.sessions.opened; counts = e.sessions.counts; roots = e.sessions.roots; reaches = e.sessions.reaches; versions = e.sessions.versions; denies = e.sessions.denies; rolesets = e.sessions.rolesets };
}

-- after a list of calls
unfoldable pub old_after : OldEngine → List Call → OldEngine
old_after old [] = old
old_after old (c ∷ cs) = old_after (old_of (step old_last (carried_over old) c).after) cs

-- before call i of a list, from a fresh one
unfoldable pub old_at : List Call → ℕ → OldEngine
old_at cs i = old_after (old_of fresh) (take i cs)

-- and its ledger: the first row that a call meets, and how it is taken
unfoldable pub old_refusal : Ledger → Call → ℕ
old_refusal l c = first_met (rows old_last l (linked l) c)

unfoldable pub old_ledger_step : Ledger → Call → Ledger
old_ledger_step l c = cond (eqb (old_refusal l c) 0) (taken l c) l

unfoldable pub old_ledger_after : Ledger → List Call → Ledger
old_ledger_after l [] = l
old_ledger_after l (c ∷ cs) = old_ledger_after (old_ledger_step l c) cs

-- ---- a run that moves: cs to the old engine, ds to the one carried over. Its calls are those of cs ++ ds, and before call i there were so many of each

unfoldable pub moved_at : List Call → List Call → ℕ → Engine
moved_at cs ds i = engine_after (carried_over (old_at cs i)) (take (i - length cs) ds)

unfoldable pub moved_ledger : List Call → List Call → ℕ → Ledger
moved_ledger cs ds i = ledger_after (old_ledger_after start (take i cs)) (take (i - length cs) ds)

-- the last version for call i
unfoldable pub last_at : List Call → ℕ → ℕ
last_at cs i = cond (ltb i (length cs)) old_last last_version

-- what `Demand3` speaks of
abbrev pub moved_run : List Call → List Call → Run
moved_run cs ds = record {
  calls = length (cs ++ ds);
  call = call_at (cs ++ ds);
  engine = moved_at cs ds;
  ledger = moved_ledger cs ds;
  verdict = λ i. verdict_of (step (last_at cs i) (moved_at cs ds i) (call_at (cs ++ ds) i)).answer;
  refusal = λ i. first_met (rows (last_at cs i) (moved_ledger cs ds i) (linked (moved_ledger cs ds i)) (call_at (cs ++ ds) i));
}

-- `Demand3` of such a run
abbrev pub Moved : List Call → List Call → Type 0
Moved cs ds = Demand3 (moved_run cs ds)

-- ---- any other promise about lists goes on too: what calls to the old engine lead to, calls to the engine lead to

pub record Led (cs : List Call) : Type 0 where
  -- the old last version was the greatest number of 16 bits, and the system version stayed within it
  pub bits : suc old_last ≡ 2 ^ 16
  pub within : (i : ℕ) → (old_at cs i).directory.version ≤ old_last
  -- as many calls
  pub calls : List Call
  pub many : length calls ≡ length cs
  -- with the same engine before each
  pub engines : (i : ℕ) → carried_over (old_at cs i) ≡ engine_at calls i
  -- they are the same calls, but where the old engine had no version left: there stands a line that is no frame
  pub same : (i : ℕ) → verdict_of (step old_last (carried_over (old_at cs i)) (call_at cs i)).answer ≢ Refused VersionsSpent → call_at calls i ≡ call_at cs i
  pub struck : (i : ℕ) → verdict_of (step old_last (carried_over (old_at cs i)) (call_at cs i)).answer ≡ Refused VersionsSpent → call_at calls i ≡ Unreadable
