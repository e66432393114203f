-- The runs are settled by computing, and the specification allows them.
-- Assumes nothing.
use mathlib.Core.Path.{◌≡◌, refl, ◌∙◌}
use mathlib.Core.List.{map, ◌++◌}
use lib.Chars.{codes}
use Rattle.sets.specs.Sets.{has, set_of, some, count, inserted, removed, joined, shared, lacking, meeting, size_of}
use Rattle.rows.specs.Rows.{there, entered, struck, image}
use Rattle.rows.specs.Reach.{onward, level, reach}
use Rattle.tables.specs.Tables.{with_roles, with_readers, with_forwards, with_mandates, assigned, withdrawn, permitted, revoked, forwarded, mandated, held_by, overlaps, parents_of, statically_reads}
use Rattle.tables.specs.Tables.{fresh as empty_tables}
use Rattle.model.specs.State.{first_of, session_at, filled, place, set_place, any_flow, reach_with, conflicts, outside, deny_before, role_set, linkable, roleset_at, given, new_version, fresh}
use Rattle.model.specs.Calls.{number_of, returned, verdict_of, to_holders, spent, assign, withdraw, permit, revoke, forward, mandate, open_session, conflicts_in, conflicting, with_flow, add, show, links, by_duty, read, answer_of, change, ask, step, answer, after, constraint_at}
use Rattle.protocol.specs.Digits.{digit, all_digits, number_from, number, glyph, hex}
use Rattle.protocol.specs.Lines.{field, rest_digits, called_by, called, frame, call_of, role_sets, values, line_of}
use Rattle.protocol.specs.Run.{with_byte, split, last_call, calls_of, shown_in, reply, replies, run}
use Rattle.model.specs.Products.{opposite, swap}
use Rattle.protocol.specs.Specification.{digits}
use Rattle.protocol.proofs.Exact.{exact}
use Rattle.protocol.proofs.ProductBytes.{product_bytes}
use Rattle.worked.specs.Runs.{input_of, output_of}
use Rattle.worked.specs.EveryKind.{every_kind, unended, full_session}
use Rattle.worked.specs.Worked.{worked, duty, bank_digit, of_the_bank, bank_input_of, Settled}
use Rattle.worked.proofs.EveryKind.{kinds_by_computing, full_by_computing}

texts : codes "0123456789abcdef" ≡ digits
unfolding digits
texts = refl

by_computing : run (input_of worked) ≡ output_of worked
unfolding has set_of some count inserted removed joined shared lacking meeting size_of there entered struck image onward level reach with_roles with_readers with_forwards assigned withdrawn permitted revoked forwarded held_by overlaps parents_of statically_reads empty_tables filled place set_place any_flow reach_with conflicts outside deny_before role_set linkable roleset_at given new_version first_of session_at fresh number_of returned verdict_of to_holders spent assign withdraw permit revoke forward open_session conflicts_in conflicting with_flow add show links by_duty read answer_of change ask step answer after constraint_at digit all_digits number_from number glyph hex field rest_digits called_by called frame call_of role_sets values line_of with_byte split last_call calls_of shown_in reply replies run worked input_of output_of
by_computing = refl

duty_by_computing : run (input_of duty) ≡ output_of duty
unfolding has set_of some count inserted removed joined shared lacking meeting size_of there entered struck image onward level reach with_roles with_readers with_forwards with_mandates assigned withdrawn permitted revoked forwarded mandated held_by overlaps parents_of statically_reads empty_tables filled place set_place any_flow reach_with conflicts outside deny_before role_set linkable roleset_at given new_version first_of session_at fresh number_of returned verdict_of to_holders spent assign withdraw permit revoke forward mandate open_session conflicts_in conflicting with_flow add show links by_duty read answer_of change ask step answer after constraint_at digit all_digits number_from number glyph hex field rest_digits called_by called frame call_of role_sets values line_of with_byte split last_call calls_of shown_in reply replies run worked duty input_of output_of
duty_by_computing = refl

-- the bank's frames say the same calls, but for the product; so they are answered alike
exchanged : calls_of (bank_input_of worked) ≡ map swap (calls_of (input_of worked))
unfolding digit all_digits number_from number field rest_digits called_by called frame call_of with_byte split last_call calls_of swap opposite worked input_of bank_digit of_the_bank bank_input_of
exchanged = refl

bank_alike : run (bank_input_of worked) ≡ output_of worked
bank_alike = product_bytes.alike (input_of worked) (bank_input_of worked) exchanged ∙ by_computing

pub settled : Settled
settled = record {
  texts = texts;
  written = by_computing;
  allowed = rw (← by_computing) (exact (input_of worked)).allowed;
  bank_written = bank_alike;
  bank_allowed = rw (← bank_alike) (exact (bank_input_of worked)).allowed;
  duty_written = duty_by_computing;
  duty_allowed = rw (← duty_by_computing) (exact (input_of duty)).allowed;
  kinds_written = kinds_by_computing;
  kinds_allowed = rw (← kinds_by_computing) (exact (input_of every_kind ++ unended)).allowed;
  full_written = full_by_computing;
  full_allowed = rw (← full_by_computing) (exact (input_of full_session)).allowed;
}
