use Rattle.std.proofs.Common.{◌≡◌, ◌∷◌, ℕ, ℤ, List, map, length, refl, ap, sym, ◌∙◌, subst, arith}
use Rattle.pls_vectors.specs.Solution.{reversed}
use Rattle.pls_perms.specs.declared.tour.walk.TourWalk.{TourWalk}
use Rattle.pls_perms.specs.Tour.{point}
use Rattle.pls_perms.specs.TourWalk.{current, left}
use Rattle.pls_perms.specs.Walk.{pairs_after}
use Rattle.pls_perms.proofs.TourValues.{no_length, value-from_lengths, length-value}
use Rattle.pls_perms.proofs.TourWalks.{feasible-reversed, left-next}
use Rattle.pls_perms.proofs.tour.Tour.next_value.Goals as goal
use Rattle.pls_perms.proofs.tour.Tour.next_value.Goals.{After-vector_of}

-- the walk afterwards
abbrev after : After-vector_of → TourWalk
after c = record { walk = record c.args.walk.now.walk { pair = c.in-Some.pair }; cities = c.args.walk.now.cities }

pub vector_of-requires-clause-unused : goal.vector_of-requires-clause-unused
vector_of-requires-clause-unused c = λ row past at.
    let objectives = c.objectives.ensures.value in
    c.lengths_reversed.ensures.value row at ∙ no_length c.args.self.now c.requires.limits _ row (omega arith)

pub returns-clause-value : goal.returns-clause-value
returns-clause-value c =
    let few = c.requires.limits.few_objectives in
    rw c.objectives.ensures.value at c.vector_of.ensures
    ∙ value-from_lengths c.args.self.now (current (after c)) c.lengths_reversed.result (λ list below. c.lengths_reversed.ensures.value list (omega arith))

pub returns-clause-parts : goal.returns-clause-parts
returns-clause-parts c = ap (λ (parts : List ℤ). length parts) (returns-clause-value c) ∙ length-value c.args.self.now (current (after c))

pub returns-clause-feasible : goal.returns-clause-feasible
returns-clause-feasible c =
    let begins = c.requires.pair.from in
    let size = c.size.ensures.value in
    let later = c.in-Some.ensures.from in
    let order = c.in-Some.ensures.ordered in
    let within = c.in-Some.ensures.below in
    feasible-reversed c.args.self.now c.args.walk.now.walk.start c.in-Some.pair.first c.in-Some.pair.second
    c.requires.limits.few_cities c.requires.words c.requires.feasible (omega arith) (omega arith) (omega arith)

pub returns-clause-step : goal.returns-clause-step
unfolding left
returns-clause-step c =
    let w = c.args.walk.now.walk in
    left-next c.args.self.now w.start w.pair c.in-Some.pair c.vector_of.result
    (subst (λ n. pairs_after n w.pair ≡ (c.in-Some.pair.first, c.in-Some.pair.second) ∷ pairs_after n c.in-Some.pair) c.size.ensures.value c.in-Some.ensures.step)
    (returns-clause-value c)

pub returns-clause-end : goal.returns-clause-end
returns-clause-end c = (λ wrong. cc, λ empty. let none = sym (returns-clause-step c) ∙ empty in cc)

pub returns-in_default-clause-end : goal.returns-in_default-clause-end
unfolding left
returns-in_default-clause-end c =
    let k = c.args.self.now in
    let w = c.args.walk.now.walk in
    let none = ap (λ n. pairs_after n w.pair) (sym c.size.ensures.value) ∙ c.in_default.ensures.end in
    (λ _. ap (λ (ps : List (ℕ × ℕ)). map (λ (p : ℕ × ℕ). point k (reversed w.start p.0 p.1)) ps) none, λ _. refl)
