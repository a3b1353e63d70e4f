use Rattle.std.proofs.Common.{◌∷◌, ℤ, List, length, true, refl, ap, sym, ◌∙◌, arith}
use Rattle.std.proofs.lemmas.Bool.{both_ways}
use Rattle.pls_vectors.specs.Solution.{Solution}
use Rattle.pls_perms.specs.AssignmentWalk.{current, left}
use Rattle.pls_perms.specs.declared.walk.Walk.{Walk}
use Rattle.pls_perms.proofs.TotalCosts.{total_cost-none, feasible-swapped, length-value, value-from_sums, left-step, left-end}
use Rattle.pls_perms.proofs.assignment.Assignment.next_value.Goals as goal
use Rattle.pls_perms.proofs.assignment.Assignment.next_value.Goals.{After-vector_of}

abbrev after : After-vector_of → Walk
after c = record c.args.walk.now { pair = c.in-Some.pair }

pub returns-in_default-clause-end : goal.returns-in_default-clause-end
returns-in_default-clause-end c = (
  λ none. left-end c.args.self.now c.args.walk.now (rw c.size.ensures.value at c.in_default.ensures.end),
  λ end. refl,
)

pub vector_of-requires-clause-unused : goal.vector_of-requires-clause-unused
vector_of-requires-clause-unused c = λ matrix past at.
    let objectives = c.objectives.ensures.value in
    c.sums_exchanged-sums.ensures matrix at ∙ total_cost-none c.args.self.now c.objectives.ensures.limits _ matrix (omega arith)

pub returns-clause-value : goal.returns-clause-value
returns-clause-value c =
    let few = c.objectives.ensures.limits.few_objectives in
    rw c.objectives.ensures.value at c.vector_of.ensures
    ∙ value-from_sums c.args.self.now (current (after c)) c.sums_exchanged-sums.result (λ matrix at. c.sums_exchanged-sums.ensures matrix (omega arith))

pub returns-clause-step : goal.returns-clause-step
returns-clause-step c =
    let agents = c.size.ensures.value in
    left-step c.args.self.now c.args.walk.now c.in-Some.pair (rw agents at c.in-Some.ensures.step)
    ∙ ap (λ v. (v, current (after c)) ∷ left c.args.self.now (after c)) (sym (returns-clause-value c))

pub returns-clause-end : goal.returns-clause-end
returns-clause-end c = (
  λ some. absurd (both_ways true some refl),
  λ end. absurd
      (let agents = c.size.ensures.value in
      let more = ap (λ (ps : List (List ℤ × Solution)). length ps) (sym end ∙ left-step c.args.self.now c.args.walk.now c.in-Some.pair (rw agents at c.in-Some.ensures.step)) in
      omega arith),
)

pub returns-clause-feasible : goal.returns-clause-feasible
returns-clause-feasible c =
    let agents = c.size.ensures.value in
    let ordered = c.in-Some.ensures.ordered in
    let below = c.in-Some.ensures.below in
    feasible-swapped c.args.self.now c.size.ensures.limits c.args.walk.now.start c.in-Some.pair.first c.in-Some.pair.second
    c.requires.words (omega arith) (omega arith) c.requires.feasible

pub returns-clause-parts : goal.returns-clause-parts
returns-clause-parts c = ap (λ (parts : List ℤ). length parts) (returns-clause-value c) ∙ length-value c.args.self.now (current (after c))
