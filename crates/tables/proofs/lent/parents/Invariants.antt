-- What is found is the roles of those users passed who hold a role of s.
use Rattle.tables.proofs.Laws.{Parents}
use Rattle.tables.proofs.lent.parents.Given as goal

abbrev pub invariant-loop-row : goal.invariant-loop-row
invariant-loop-row l = Parents 64 l.roles l.s l.row-index l.found
