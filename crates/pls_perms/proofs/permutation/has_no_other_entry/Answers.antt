use Rattle.std.proofs.Common.{◌==◌, refl, ap, ◌∙◌}
use Rattle.pls_vectors.specs.Solution.{entry}
use Rattle.pls_perms.specs.Permutation.{no_other_entry}
use Rattle.pls_perms.proofs.Distinct.{no_other-step}
use Rattle.pls_perms.proofs.permutation.has_no_other_entry.Goals as goal

pub loop-i-init : goal.loop-i-init
unfolding no_other_entry
loop-i-init c = refl

pub loop-i-preserved : goal.loop-i-preserved
loop-i-preserved c =
    no_other-step (λ i. entry c.args.sol.now i == 0) c.loop-i.i c.loop-i.all _ c.loop-i-test.true (ap (λ x. x == 0) c.entry.ensures)
    ∙ c.loop-i.invariant
