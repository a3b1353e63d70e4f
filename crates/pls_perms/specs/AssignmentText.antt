use Rattle.std.specs.Prelude.{ℕ, ◌*◌, List, [], ◌∷◌, replicate}
use Rattle.pls_vectors.specs.Limits.{Limits}
use Rattle.pls_perms.specs.Assignment.{AssignmentInstance, instance_from}

-- the sizes of an instance: how many objectives and agents
abbrev pub size_limits : List Limits
size_limits = record { least = 2; most = 4 } ∷ record { least = 1; most = 256 } ∷ []

-- the numbers after the sizes: the costs, row after row and matrix after matrix
abbrev pub number_limits : ℕ → ℕ → List Limits
number_limits objectives agents = replicate (objectives * agents * agents) (record { least = 0; most = 1000000 })

-- the instance with these sizes and the numbers after them
abbrev pub instance_of : ℕ → ℕ → List ℕ → AssignmentInstance
instance_of objectives agents numbers = instance_from objectives agents numbers
