use Rattle.std.proofs.Common.{ℤ, List, length, ap, ◌∙◌, arith}
use Rattle.pls_perms.proofs.TotalCosts.{total_cost-none, length-value, value-from_sums}
use Rattle.pls_perms.proofs.assignment.Assignment.value.Goals as goal

pub vector_of-requires-clause-unused : goal.vector_of-requires-clause-unused
vector_of-requires-clause-unused c = λ matrix past at.
    let objectives = c.objectives.ensures.value in
    c.total.ensures.total matrix at ∙ total_cost-none c.args.self.now c.objectives.ensures.limits c.args.sol.now matrix (omega arith)

pub returns-clause-value : goal.returns-clause-value
returns-clause-value c =
    let few = c.objectives.ensures.limits.few_objectives in
    rw c.objectives.ensures.value at c.vector_of.ensures
    ∙ value-from_sums c.args.self.now c.args.sol.now c.total.result (λ matrix at. c.total.ensures.total matrix (omega arith))

pub returns-clause-parts : goal.returns-clause-parts
returns-clause-parts c = ap (λ (parts : List ℤ). length parts) (returns-clause-value c) ∙ length-value c.args.self.now c.args.sol.now
