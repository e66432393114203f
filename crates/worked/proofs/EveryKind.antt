-- The runs of every kind and of a full session, settled by computing.
-- Assumes nothing.
use mathlib.Core.Path.{◌≡◌, refl}
use mathlib.Core.List.{◌++◌}
use Rattle.sets.specs.Sets.{has, set_of, some, count, inserted, removed, joined, shared, lacking, meeting, size_of}
use Rattle.rows.specs.Rows.{there, entered, struck, image}
use Rattle.rows.specs.Reach.{onward, level, reach}
use Rattle.tables.specs.Tables.{with_roles, with_readers, with_forwards, with_mandates, assigned, withdrawn, permitted, revoked, forwarded, mandated, held_by, overlaps, parents_of, statically_reads}
use Rattle.tables.specs.Tables.{fresh as empty_tables}
use Rattle.model.specs.State.{first_of, session_at, filled, place, set_place, any_flow, reach_with, conflicts, outside, deny_before, role_set, linkable, roleset_at, given, new_version, fresh}
use Rattle.model.specs.Calls.{number_of, returned, verdict_of, to_holders, spent, assign, withdraw, permit, revoke, forward, mandate, open_session, conflicts_in, conflicting, with_flow, add, show, links, by_duty, read, answer_of, change, ask, step, answer, after, constraint_at}
use Rattle.protocol.specs.Digits.{digit, all_digits, number_from, number, glyph, hex}
use Rattle.protocol.specs.Lines.{field, rest_digits, called_by, called, frame, call_of, role_sets, values, line_of}
use Rattle.protocol.specs.Run.{with_byte, split, last_call, calls_of, shown_in, reply, replies, run}
use Rattle.worked.specs.Runs.{input_of, output_of}
use Rattle.worked.specs.EveryKind.{every_kind, unended, malformed, full_session}

pub kinds_by_computing : run (input_of every_kind ++ unended) ≡ output_of every_kind ++ malformed
unfolding has set_of some count inserted removed joined shared lacking meeting size_of there entered struck image onward level reach with_roles with_readers with_forwards with_mandates assigned withdrawn permitted revoked forwarded mandated held_by overlaps parents_of statically_reads empty_tables filled place set_place any_flow reach_with conflicts outside deny_before role_set linkable roleset_at given new_version first_of session_at fresh number_of returned verdict_of to_holders spent assign withdraw permit revoke forward mandate open_session conflicts_in conflicting with_flow add show links by_duty read answer_of change ask step answer after constraint_at digit all_digits number_from number glyph hex field rest_digits called_by called frame call_of role_sets values line_of with_byte split last_call calls_of shown_in reply replies run every_kind input_of output_of
kinds_by_computing = refl

pub full_by_computing : run (input_of full_session) ≡ output_of full_session
unfolding has set_of some count inserted removed joined shared lacking meeting size_of there entered struck image onward level reach with_roles with_readers with_forwards with_mandates assigned withdrawn permitted revoked forwarded mandated held_by overlaps parents_of statically_reads empty_tables filled place set_place any_flow reach_with conflicts outside deny_before role_set linkable roleset_at given new_version first_of session_at fresh number_of returned verdict_of to_holders spent assign withdraw permit revoke forward mandate open_session conflicts_in conflicting with_flow add show links by_duty read answer_of change ask step answer after constraint_at digit all_digits number_from number glyph hex field rest_digits called_by called frame call_of role_sets values line_of with_byte split last_call calls_of shown_in reply replies run full_session input_of output_of
full_by_computing = refl
