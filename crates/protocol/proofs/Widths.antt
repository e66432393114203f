-- The theorem that specs/Widths states.
-- Assumes nothing.
use mathlib.Core.Path.{refl}
use Rattle.protocol.specs.Widths.{Widths}

pub widths : Widths
widths = record { fields = refl; versions = refl; sets = refl; frames = refl; answers = refl }
