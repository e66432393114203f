-- Outer loop: what is found is the roles of those users passed whose roles meet two of the sets.
-- Inner loop: `seen` is how many of the sets passed the user's roles meet, and no more than one.
use Prim.Native.Nat.{◌≤◌, ◌*◌}
use mathlib.Core.Path.{◌≡◌}
use lib.Dec.{leb}
use lib.ListN.{length, get_or}
use Rattle.sets.specs.Sets.{count, meeting}
use Rattle.tables.specs.Tables.{role_count}
use Rattle.search.proofs.Laws.{Found}
use Rattle.search.proofs.conflicts.Given as goal

abbrev pub invariant-flows : goal.invariant-flows
invariant-flows l = (l.seen ≤ 1) × (count l.set-index (λ g. meeting role_count l.held (get_or l.may g 0)) ≡ l.seen)

abbrev pub invariant-loop-u : goal.invariant-loop-u
invariant-loop-u l = Found role_count l.roles (λ v. leb 2 (count (length l.may) (λ g. meeting role_count (get_or l.roles v 0) (get_or l.may g 0)))) l.u l.found

abbrev pub invariant-loop-block : goal.invariant-loop-block
invariant-loop-block l = Found role_count l.roles (λ v. leb 2 (count (length l.may) (λ g. meeting role_count (get_or l.roles v 0) (get_or l.may g 0)))) (l.block * 8) l.found
