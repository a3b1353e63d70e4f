use Rattle.std.proofs.Common.{◌≡◌, true}
use Rattle.std.proofs.lemmas.List.Elements.{All-weaker}
use Rattle.pls_perms.specs.Assignment.{feasible, neighbours}
use Rattle.pls_perms.proofs.AssignmentNeighbours.{IsNeighbour, neighbours-All}
use Rattle.pls_perms.proofs.StoredPermutations.{is_permutation-order}
use Rattle.pls_perms.proofs.assignment.laws.assignment_laws.Goals as goal

pub returns-clause-order : goal.returns-clause-order
returns-clause-order c = is_permutation-order

pub returns-clause-neighbours : goal.returns-clause-neighbours
returns-clause-neighbours c = λ k s limits many holds.
    All-weaker (IsNeighbour k) (λ q. feasible k q.1 ≡ true) (λ q is. is.feasible) (neighbours k s) (neighbours-All k s limits many holds)
