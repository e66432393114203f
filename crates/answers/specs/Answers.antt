-- The flow whose constraint an answer shows. Its session has its number among those of both products.
-- Assumes nothing.
use Rattle.std.specs.Prelude.{ℕ, Bool, true, cond, ◌&&◌, ltb}
use Rattle.model.specs.declared.calls.Answer.{Answer}
use Rattle.model.specs.declared.calls.Answer.TheVariants.{Version, Roles, Flow, Granted, Constraint as Answer-as-Constraint, Refused}
use Rattle.model.specs.Limits.{flow_count}
use Rattle.model.specs.State.{all_sessions, place}

-- an answer shows no constraint, or that of a flow that has a place
unfoldable pub has_place : Answer → Bool
has_place (Version v) = true
has_place (Roles m) = true
has_place (Flow n k v) = true
has_place Granted = true
has_place (Answer-as-Constraint s f) = ltb s all_sessions && ltb f flow_count
has_place (Refused why) = true

-- the place of the flow that an answer shows; 0 where it shows none
unfoldable pub shown_place : Answer → ℕ
shown_place (Version v) = 0
shown_place (Roles m) = 0
shown_place (Flow n k v) = 0
shown_place Granted = 0
shown_place (Answer-as-Constraint s f) = cond (ltb s all_sessions && ltb f flow_count) (place s f) 0
shown_place (Refused why) = 0
