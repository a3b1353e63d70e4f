-- What is said of an instance by its kind alone.
use Rattle.std.specs.Prelude.{ℕ, List, Option, Some, None, codes, slice_index, if◌then◌else◌}
use Rattle.std.specs.Str.{bytes_eq}
use Rattle.pls_vectors.specs.Limits.{Limits}
use Rattle.pls_knapsack.specs.Text as knapsack
use Rattle.pls_perms.specs.AssignmentText as assignment
use Rattle.pls_perms.specs.TourText as tour
use Rattle.pls_problem.specs.declared.instance.Instance.{Instance}
use Rattle.pls_problem.specs.declared.instance.Instance.TheVariants as instance
use Rattle.pls_problem.specs.declared.kind.Kind.{Kind}
use Rattle.pls_problem.specs.declared.kind.Kind.TheVariants.{Knapsack, Assignment, Tour}

-- the name of a kind, in texts and on the command line
abbrev pub kind_name : Kind → List ℕ
kind_name Knapsack = codes "knapsack"
kind_name Assignment = codes "assignment"
kind_name Tour = codes "tour"

-- the kind that a text names
abbrev pub kind_named : List ℕ → Option Kind
kind_named text =
    if bytes_eq text (codes "knapsack") then Some Knapsack
    else if bytes_eq text (codes "assignment") then Some Assignment
    else if bytes_eq text (codes "tour") then Some Tour
    else None

-- the kind of an instance
abbrev pub kind_of : Instance → Kind
kind_of (instance.Knapsack k) = Knapsack
kind_of (instance.Assignment k) = Assignment
kind_of (instance.Tour k) = Tour

-- the least items, agents or cities, and the least weight rows
abbrev pub least_size : Kind → ℕ
least_size Knapsack = 1
least_size Assignment = 1
least_size Tour = 3

abbrev pub least_rules : Kind → ℕ
least_rules Knapsack = 1
least_rules Assignment = 0
least_rules Tour = 0

-- ---- the numbers of a text

-- the sizes, of which the first are how many objectives, and how many items, agents or cities
unfoldable pub size_limits : Kind → List Limits
size_limits Knapsack = knapsack.size_limits
size_limits Assignment = assignment.size_limits
size_limits Tour = tour.size_limits

-- the numbers after these sizes
unfoldable pub number_limits : Kind → List ℕ → List Limits
number_limits Knapsack sizes = knapsack.number_limits (slice_index sizes 0) (slice_index sizes 1) (slice_index sizes 2)
number_limits Assignment sizes = assignment.number_limits (slice_index sizes 0) (slice_index sizes 1)
number_limits Tour sizes = tour.number_limits (slice_index sizes 0) (slice_index sizes 1)

-- the instance with these sizes and these numbers after them
unfoldable pub instance_of : Kind → List ℕ → List ℕ → Instance
instance_of Knapsack sizes numbers =
    instance.Knapsack (knapsack.instance_of (slice_index sizes 0) (slice_index sizes 1) (slice_index sizes 2) numbers)
instance_of Assignment sizes numbers = instance.Assignment (assignment.instance_of (slice_index sizes 0) (slice_index sizes 1) numbers)
instance_of Tour sizes numbers = instance.Tour (tour.instance_of (slice_index sizes 0) (slice_index sizes 1) numbers)
