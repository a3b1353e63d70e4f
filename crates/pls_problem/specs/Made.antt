use Rattle.std.specs.Prelude.{ℕ, zero, suc, ◌+◌, ◌*◌, ◌/◌, ◌%◌, List, [], ◌∷◌, ◌++◌, map, sum, drop}
use Rattle.std.specs.List.{range_with_len}
use Rattle.rand_core.specs.Stream.{Stream, next_u64}
use Rattle.pls_problem.specs.declared.instance.Instance.{Instance}
use Rattle.pls_problem.specs.declared.kind.Kind.{Kind}
use Rattle.pls_problem.specs.declared.kind.Kind.TheVariants.{Knapsack, Assignment, Tour}
use Rattle.pls_problem.specs.declared.make_spec.MakeSpec.{MakeSpec}
use Rattle.pls_problem.specs.declared.sizes.Sizes.{Sizes}
use Rattle.pls_problem.specs.Kinds.{instance_of}
use Rattle.pls_problem.specs.Rows.{row_of}
use Rattle.pls_problem.specs.Shuffle.{seeded}
use Rattle.pls_problem.specs.Sizes.{AreWithinLimits, amount_count, in_text}

-- the kind and the sizes of what is made
abbrev pub sizes_in : MakeSpec → Sizes
sizes_in spec = record { kind = spec.kind; objectives = spec.objectives; size = spec.size; rules = spec.rules }

-- the limits of what an instance is made from
abbrev pub IsWithinLimits : MakeSpec → Type 0
IsWithinLimits spec = AreWithinLimits (sizes_in spec)

-- The next numbers of a stream, each 1 + word mod 100; beside them the words that are left.
unfoldable pub drawn : ℕ → Stream → List ℕ × Stream
drawn zero words = ([], words)
drawn (suc n) words =
    let next = next_u64 words in let others = drawn n next.1 in ((1 + next.0 % 100) ∷ others.0, others.1)

-- the capacity of each row: half the sum of its weights, rounded down
abbrev pub half_sums : ℕ → ℕ → List ℕ → List ℕ
half_sums rows items weights =
    map (λ row. sum (row_of items row weights) / 2) (range_with_len 0 rows)

-- the capacities of a knapsack with these profits and weights; the other kinds have none
abbrev pub made_capacities : Kind → ℕ → ℕ → ℕ → List ℕ → List ℕ
made_capacities Knapsack objectives size rules amounts = half_sums rules size (drop (objectives * size) amounts)
made_capacities Assignment objectives size rules amounts = []
made_capacities Tour objectives size rules amounts = []

-- the instance whose profits and weights, costs or edges are drawn in the order of the text
abbrev pub made_from : Sizes → Stream → Instance
made_from s words =
    let amounts = (drawn (amount_count s) words).0 in
    instance_of s.kind (in_text s) (made_capacities s.kind s.objectives s.size s.rules amounts ++ amounts)

-- the instance that is made from its kind, its sizes and a seed
abbrev pub made : MakeSpec → Instance
made spec = made_from (sizes_in spec) (seeded spec.seed)
