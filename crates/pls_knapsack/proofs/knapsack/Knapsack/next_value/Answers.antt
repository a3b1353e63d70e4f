use Rattle.std.proofs.Common.{◌≡◌, ◌∷◌, Bool, ℤ, List, length, if◌then◌else◌, ap, sym, ◌∙◌, arith}
use Rattle.pls_vectors.specs.Solution.{Solution}
use Rattle.pls_knapsack.specs.Instance.{value}
use Rattle.pls_knapsack.specs.Neighbours.{flipped}
use Rattle.pls_knapsack.specs.Walk.{left}
use Rattle.pls_knapsack.proofs.Vectors.{length-value}
use Rattle.pls_knapsack.proofs.Tallies.{no_value, value-from_sums}
use Rattle.pls_knapsack.proofs.knapsack.Knapsack.next_value.Goals as goal
use Rattle.pls_knapsack.proofs.knapsack.Knapsack.next_value.Goals.{After-vector_of, then-is_flip, else-is_flip}

pub vector_of-requires-clause-unused : goal.vector_of-requires-clause-unused
vector_of-requires-clause-unused c = λ row past at.
    c.values_flipped-values.ensures row at
    ∙ no_value c.args.self.now c.objectives.ensures.limits (flipped c.if-is_flip.tally.now.sol c.in-Some.item) row (omega arith)

abbrev found : After-vector_of → Solution
found c = flipped (if c.in-Some.is_flip then c.find.new.walk.start.sol else c.find.new.walk.reduced.sol) c.in-Some.item

found-tally : (c : After-vector_of) → flipped c.if-is_flip.tally.now.sol c.in-Some.item ≡ found c
found-tally c =
    let at = λ (b : Bool). flipped (if b then c.find.new.walk.start.sol else c.find.new.walk.reduced.sol) c.in-Some.item in
    elim c.if-is_flip.branch [
      | then-is_flip w ↦ rw w.tally-is (ap at (sym w.if-is_flip.true))
      | else-is_flip w ↦ rw w.tally-is (ap at (sym w.if-is_flip.false))
    ]

pub returns-clause-value : goal.returns-clause-value
returns-clause-value c =
    let k = c.args.self.now in
    let few = c.objectives.ensures.limits.few_objectives in
    rw c.objectives.ensures.value at c.vector_of.ensures
    ∙ (value-from_sums k (flipped c.if-is_flip.tally.now.sol c.in-Some.item) c.values_flipped-values.result
    (λ row at. c.values_flipped-values.ensures row (omega arith))
    ∙ ap (λ q. value k q) (found-tally c))

pub returns-clause-step : goal.returns-clause-step
unfolding left
returns-clause-step c =
    c.in-Some.ensures.step ∙ ap (λ v. (v, found c) ∷ left c.args.self.now c.find.new.walk) (sym (returns-clause-value c))

pub returns-clause-parts : goal.returns-clause-parts
returns-clause-parts c = ap (λ (parts : List ℤ). length parts) (returns-clause-value c) ∙ length-value c.args.self.now (found c)
