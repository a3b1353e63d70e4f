use Rattle.std.specs.Prelude.{ℕ, ◌*◌, List, [], ◌∷◌, ◌++◌, codes}
use Rattle.std.specs.Fmt.{decimal}
use Rattle.std.specs.List.{flat_map, join_by, range_with_len}
use Rattle.pls_io.specs.Lines.{line}
use Rattle.pls_knapsack.specs.Instance as knapsack
use Rattle.pls_perms.specs.Assignment as assignment
use Rattle.pls_perms.specs.Tour as tour
use Rattle.pls_problem.specs.declared.instance.Instance.{Instance}
use Rattle.pls_problem.specs.declared.instance.Instance.TheVariants.{Knapsack, Assignment, Tour}
use Rattle.pls_problem.specs.declared.kind.Kind.{Kind}
use Rattle.pls_problem.specs.declared.kind.Kind.TheVariants as kind
use Rattle.pls_problem.specs.Kinds.{kind_name}
use Rattle.pls_problem.specs.Rows.{row_of}

-- numbers separated by single spaces
abbrev pub numbers_text : List ℕ → List ℕ
numbers_text numbers = join_by decimal (codes " ") numbers

abbrev pub numbers_line : List ℕ → List ℕ
numbers_line numbers = line (numbers_text numbers)

-- a line for each of these rows of numbers
abbrev pub rows_text : ℕ → ℕ → List ℕ → List ℕ
rows_text rows items numbers =
    flat_map (λ row. numbers_line (row_of items row numbers)) (range_with_len 0 rows)

-- the first line of an instance: its kind and its sizes
abbrev pub head_line : Kind → List ℕ → List ℕ
head_line kind sizes = codes "pls1 " ++ kind_name kind ++ codes " " ++ numbers_line sizes

-- the text of a knapsack: its first line, one for the capacities, one for each profit row and one for each weight row
abbrev pub knapsack_text : knapsack.Instance → List ℕ
knapsack_text k =
    head_line kind.Knapsack (k.objectives ∷ k.items ∷ k.rules ∷ [])
    ++ numbers_line k.capacities
    ++ rows_text k.objectives k.items k.profits
    ++ rows_text k.rules k.items k.weights

-- the text of an assignment: its first line, and one for each row of each matrix
abbrev pub assignment_text : assignment.AssignmentInstance → List ℕ
assignment_text k =
    head_line kind.Assignment (k.objectives ∷ k.agents ∷ []) ++ rows_text (k.objectives * k.agents) k.agents k.costs

-- the text of a tour: its first line, and one for each list of edges
abbrev pub tour_text : tour.TourInstance → List ℕ
tour_text k =
    head_line kind.Tour (k.objectives ∷ k.cities ∷ []) ++ rows_text k.objectives (tour.edge_count k.cities) k.edges

-- the text of an instance
unfoldable pub instance_text : Instance → List ℕ
instance_text (Knapsack k) = knapsack_text k
instance_text (Assignment k) = assignment_text k
instance_text (Tour k) = tour_text k
