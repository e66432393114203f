-- The number of a verdict tells the verdict.
-- Assumes nothing.
use mathlib.Core.Path.{◌≡◌, refl}
use Rattle.model.specs.declared.calls.Refusal.TheVariants.{Malformed, AboveLimit, AlreadyThere, NotThere, FlowAdded, NotOpen, SessionFull, NotConflicting, VersionsSpent, NoSuchFlow, OutOfReach, NoPermission, Changed, Linkable, Mandated}
use Rattle.model.specs.declared.calls.Verdict.{Verdict}
use Rattle.model.specs.declared.calls.Verdict.TheVariants.{Granted, Refused}
use Rattle.model.specs.Calls.{number_of, returned}
use Rattle.verdict.specs.Numbers.{verdicts, verdict_by}

pub back : (v : Verdict) → verdict_by (returned v) ≡ v
unfolding verdict_by verdicts returned number_of
back Granted = refl
back (Refused Malformed) = refl
back (Refused AboveLimit) = refl
back (Refused AlreadyThere) = refl
back (Refused NotThere) = refl
back (Refused FlowAdded) = refl
back (Refused NotOpen) = refl
back (Refused SessionFull) = refl
back (Refused NotConflicting) = refl
back (Refused VersionsSpent) = refl
back (Refused NoSuchFlow) = refl
back (Refused OutOfReach) = refl
back (Refused NoPermission) = refl
back (Refused Changed) = refl
back (Refused Linkable) = refl
back (Refused Mandated) = refl
