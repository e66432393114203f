-- The verdict on a read by its number.
-- Assumes nothing.
use Rattle.std.specs.Prelude.{ℕ, List, [], ◌∷◌, get_or}
use Rattle.model.specs.declared.calls.Refusal.TheVariants.{Malformed, AboveLimit, AlreadyThere, NotThere, FlowAdded, NotOpen, SessionFull, NotConflicting, VersionsSpent, NoSuchFlow, OutOfReach, NoPermission, Changed, Linkable, Mandated}
use Rattle.model.specs.declared.calls.Verdict.{Verdict}
use Rattle.model.specs.declared.calls.Verdict.TheVariants.{Granted, Refused}

-- number k stands at place k
unfoldable pub verdicts : List Verdict
verdicts =
    Granted
    ∷ Refused Malformed
    ∷ Refused AboveLimit
    ∷ Refused AlreadyThere
    ∷ Refused NotThere
    ∷ Refused FlowAdded
    ∷ Refused NotOpen
    ∷ Refused SessionFull
    ∷ Refused NotConflicting
    ∷ Refused VersionsSpent
    ∷ Refused NoSuchFlow
    ∷ Refused OutOfReach
    ∷ Refused NoPermission
    ∷ Refused Changed
    ∷ Refused Linkable
    ∷ Refused Mandated
    ∷ []

unfoldable pub verdict_by : ℕ → Verdict
verdict_by n = get_or verdicts n (Refused Malformed)
