use Rattle.std.proofs.Common.{ℤ, List, length, ap, ◌∙◌, arith}
use Rattle.pls_knapsack.proofs.Vectors.{length-value}
use Rattle.pls_knapsack.proofs.Tallies.{feasible-parts, no_value, value-from_sums}
use Rattle.pls_knapsack.proofs.knapsack.Knapsack.value.Goals as goal

pub total-requires : goal.total-requires
total-requires c =
    let was = feasible-parts c.args.self.now c.args.sol.now c.requires in was.long

pub vector_of-requires-clause-unused : goal.vector_of-requires-clause-unused
vector_of-requires-clause-unused c = λ row past at.
    c.total.ensures.profits row at ∙ no_value c.args.self.now c.objectives.ensures.limits c.args.sol.now row (omega arith)

pub returns-clause-value : goal.returns-clause-value
returns-clause-value c =
    let few = c.objectives.ensures.limits.few_objectives in
    rw c.objectives.ensures.value at c.vector_of.ensures
    ∙ value-from_sums c.args.self.now c.args.sol.now c.total.result.profits (λ row at. c.total.ensures.profits row (omega arith))

pub returns-clause-parts : goal.returns-clause-parts
returns-clause-parts c = ap (λ (parts : List ℤ). length parts) (returns-clause-value c) ∙ length-value c.args.self.now c.args.sol.now
