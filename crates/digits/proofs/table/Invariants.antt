-- The table has the digits so far.
use mathlib.Core.Path.{◌≡◌}
use Rattle.digits.specs.Tables.{digit_table}
use Rattle.digits.proofs.table.Given as goal

abbrev pub invariant-loop-value : goal.invariant-loop-value
invariant-loop-value l = l.table ≡ digit_table l.times l.value
