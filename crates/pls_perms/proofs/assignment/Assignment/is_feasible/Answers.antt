use Rattle.std.proofs.Common.{ap, ◌∙◌}
use Rattle.pls_perms.specs.Assignment.{feasible}
use Rattle.pls_perms.specs.Permutation.{is_permutation}
use Rattle.pls_perms.proofs.assignment.Assignment.is_feasible.Goals as goal

pub returns : goal.returns
unfolding feasible
returns c = c.is_permutation.ensures ∙ ap (λ n. is_permutation n c.args.sol.now) c.size.ensures.value
