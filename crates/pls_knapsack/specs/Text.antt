use Rattle.std.specs.Prelude.{ℕ, ◌+◌, ◌*◌, List, [], ◌∷◌, ◌++◌, take, drop, replicate}
use Rattle.pls_vectors.specs.Limits.{Limits}
use Rattle.pls_knapsack.specs.Instance.{Instance}

-- the sizes of an instance: how many objectives, items and weight rows
abbrev pub size_limits : List Limits
size_limits =
    record { least = 2; most = 4 } ∷ record { least = 1; most = 256 } ∷ record { least = 1; most = 8 } ∷ []

-- the numbers after the sizes: the capacities, the profit rows, the weight rows
abbrev pub number_limits : ℕ → ℕ → ℕ → List Limits
number_limits objectives items rules =
    replicate rules (record { least = 0; most = 1000000000 })
    ++ replicate ((objectives + rules) * items) (record { least = 0; most = 1000000 })

-- the instance with these sizes and the numbers after them
abbrev pub instance_of : ℕ → ℕ → ℕ → List ℕ → Instance
instance_of objectives items rules numbers =
    record {
      items = items;
      objectives = objectives;
      rules = rules;
      capacities = take rules numbers;
      profits = take (objectives * items) (drop rules numbers);
      weights = drop (rules + objectives * items) numbers;
    }
