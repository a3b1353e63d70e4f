use Rattle.std.proofs.Common.{ℤ, List, length, ap, ◌∙◌, arith}
use Rattle.pls_perms.proofs.TourValues.{no_length, value-from_lengths, length-value}
use Rattle.pls_perms.proofs.tour.Tour.value.Goals as goal

pub vector_of-requires-clause-unused : goal.vector_of-requires-clause-unused
vector_of-requires-clause-unused c = λ row past at.
    let objectives = c.objectives.ensures.value in
    c.lengths.ensures.value row at ∙ no_length c.args.self.now c.lengths.ensures.limits c.args.sol.now row (omega arith)

pub returns-clause-value : goal.returns-clause-value
returns-clause-value c =
    let few = c.lengths.ensures.limits.few_objectives in
    rw c.objectives.ensures.value at c.vector_of.ensures
    ∙ value-from_lengths c.args.self.now c.args.sol.now c.lengths.result (λ list below. c.lengths.ensures.value list (omega arith))

pub returns-clause-parts : goal.returns-clause-parts
returns-clause-parts c = ap (λ (parts : List ℤ). length parts) (returns-clause-value c) ∙ length-value c.args.self.now c.args.sol.now
