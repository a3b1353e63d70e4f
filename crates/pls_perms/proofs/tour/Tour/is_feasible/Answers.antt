use Rattle.std.proofs.Common.{◌==◌, ◌&&◌, ap, sym, ◌∙◌}
use Rattle.pls_vectors.specs.Solution.{entry}
use Rattle.pls_perms.specs.Permutation.{is_permutation}
use Rattle.pls_perms.specs.Tour.{feasible}
use Rattle.pls_perms.proofs.tour.Tour.is_feasible.Goals as goal

pub returns-then-is_permutation : goal.returns-then-is_permutation
unfolding feasible
returns-then-is_permutation c =
    let s = c.args.sol.now in
    let shape = c.is_permutation.ensures ∙ ap (λ n. is_permutation n s) c.size.ensures.value in
    sym (ap (λ b. b && (entry s 0 == 0)) (sym shape ∙ c.if-is_permutation.true) ∙ ap (λ e. e == 0) (sym c.entry.ensures))

pub returns-else-is_permutation : goal.returns-else-is_permutation
unfolding feasible
returns-else-is_permutation c =
    let s = c.args.sol.now in
    let shape = c.is_permutation.ensures ∙ ap (λ n. is_permutation n s) c.size.ensures.value in
    c.if-is_permutation.false ∙ sym (ap (λ b. b && (entry s 0 == 0)) (sym shape ∙ c.if-is_permutation.false))
