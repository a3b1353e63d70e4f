use Rattle.std.specs.Prelude.{ℕ, ◌*◌, List, [], ◌∷◌, replicate}
use Rattle.pls_vectors.specs.Limits.{Limits}
use Rattle.pls_perms.specs.Tour.{TourInstance, edge_count, instance_from}

-- the sizes of an instance: how many objectives and cities
abbrev pub size_limits : List Limits
size_limits = record { least = 2; most = 4 } ∷ record { least = 3; most = 256 } ∷ []

-- the numbers after the sizes: the edges, list after list
abbrev pub number_limits : ℕ → ℕ → List Limits
number_limits objectives cities = replicate (objectives * edge_count cities) (record { least = 0; most = 1000000 })

-- the instance with these sizes and the numbers after them
abbrev pub instance_of : ℕ → ℕ → List ℕ → TourInstance
instance_of objectives cities numbers = instance_from objectives cities numbers
