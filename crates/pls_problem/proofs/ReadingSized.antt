-- The numbers behind the sizes: capacities, and then profits and weights, costs or edges.
use Rattle.std.proofs.Common.{◌≡◌, ℕ, List, ◌++◌, replicate, Result, Err, Ok, refl, sym, ap, ◌∙◌}
use Rattle.pls_io.specs.Words.{PlacedWord}
use Rattle.pls_vectors.specs.Limits.{Limits}
use Rattle.pls_problem.specs.declared.kind.Kind.{Kind}
use Rattle.pls_problem.specs.declared.kind.Kind.TheVariants.{Knapsack, Assignment, Tour}
use Rattle.pls_problem.specs.declared.instance.Instance.{Instance}
use Rattle.pls_problem.specs.declared.reader.BadInstance.{BadInstance}
use Rattle.pls_problem.specs.declared.sizes.Sizes.{Sizes}
use Rattle.pls_problem.specs.Kinds.{number_limits, instance_of}
use Rattle.pls_problem.specs.Reading.{reading_then, numbers, ended_with, sized}
use Rattle.pls_problem.specs.Sizes.{listed, in_text, capacities_for, amounts_for, capacity_count, amount_count}
use Rattle.pls_problem.proofs.ReadingSteps.{Read, after, numbers-then, numbers-fault}

abbrev pub up_to : ℕ → Limits
up_to most = record { least = 0; most = most }

abbrev pub large : Limits
large = up_to 1000000000

abbrev pub small : Limits
small = up_to 1000000

-- both lists of numbers, in their order
abbrev pub wanted : ℕ → ℕ → List Limits
wanted capacities amounts = replicate capacities large ++ replicate amounts small

number_limits-listed :
    (kind : Kind) (objectives size rules : ℕ)
    → number_limits kind (listed kind objectives size rules) ≡ wanted (capacities_for kind rules) (amounts_for kind objectives size rules)
unfolding number_limits
number_limits-listed Knapsack objectives size rules = refl
number_limits-listed Assignment objectives size rules = refl
number_limits-listed Tour objectives size rules = refl

pub number_limits-wanted : (s : Sizes) → number_limits s.kind (in_text s) ≡ wanted (capacity_count s) (amount_count s)
number_limits-wanted s = number_limits-listed s.kind s.objectives s.size s.rules

abbrev pub ended : Kind → List ℕ → Result Read BadInstance → Result Instance BadInstance
ended kind sizes r = reading_then (λ (rest : Read). ended_with (instance_of kind sizes rest.0) rest.1) r

-- so many capacities and so many amounts are read
module _ (end : ℕ) (s : Sizes) (m n : ℕ) (of_m : m ≡ capacity_count s) (of_n : n ≡ amount_count s) (words : List PlacedWord) where
  sized-wanted : sized end s.kind (in_text s) words ≡ ended s.kind (in_text s) (numbers end (wanted m n) words)
  sized-wanted =
      ap (λ (limits : List Limits). ended s.kind (in_text s) (numbers end limits words))
      (number_limits-wanted s ∙ (ap (λ (k : ℕ). wanted k (amount_count s)) (sym of_m) ∙ ap (wanted m) (sym of_n)))

  pub fault_in_capacities : (e : BadInstance) → numbers end (replicate m large) words ≡ Err e → sized end s.kind (in_text s) words ≡ Err e
  fault_in_capacities e fault =
      sized-wanted ∙ ap (ended s.kind (in_text s)) (numbers-fault end (replicate m large) (replicate n small) words e fault)

  module _ (capacities : List ℕ) (left : List PlacedWord) (read : numbers end (replicate m large) words ≡ Ok (capacities, left)) where
    sized-behind : sized end s.kind (in_text s) words ≡ ended s.kind (in_text s) (after capacities (numbers end (replicate n small) left))
    sized-behind =
        sized-wanted ∙ ap (ended s.kind (in_text s)) (numbers-then end (replicate m large) (replicate n small) words capacities left read)

    pub fault_in_amounts : (e : BadInstance) → numbers end (replicate n small) left ≡ Err e → sized end s.kind (in_text s) words ≡ Err e
    fault_in_amounts e fault = sized-behind ∙ ap (λ (r : Result Read BadInstance). ended s.kind (in_text s) (after capacities r)) fault

    -- all numbers were read
    pub sized-read :
        (amounts : List ℕ) (left' : List PlacedWord) → numbers end (replicate n small) left ≡ Ok (amounts, left')
        → sized end s.kind (in_text s) words ≡ ended_with (instance_of s.kind (in_text s) (capacities ++ amounts)) left'
    sized-read amounts left' read' =
        sized-behind ∙ ap (λ (r : Result Read BadInstance). ended s.kind (in_text s) (after capacities r)) read'
