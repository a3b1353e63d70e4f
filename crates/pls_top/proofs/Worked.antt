-- The runs and the texts of small instances, computed.
use Rattle.std.specs.Prelude.{◌≡◌, ℕ, true, nat_lt, if◌then◌else◌, List, [], ◌∷◌, length, map, None, codes}
use Rattle.std.specs.Fmt.{digits}
use Rattle.std.proofs.Common.{refl}
use Rattle.pls_vectors.specs.Solution.{Solution, no_items, with_item, byte, with_byte, entry, with_entry, with_entries, stored, swapped, reversed}
use Rattle.pls_knapsack.specs.Instance.{value, fits, no_other_bit, feasible, filled}
use Rattle.pls_knapsack.specs.Neighbours.{points, neighbours}
use Rattle.pls_perms.specs.Assignment as assignment
use Rattle.pls_perms.specs.Tour as tour
use Rattle.pls_perms.specs.Permutation.{pairs}
use Rattle.pls_problem.specs.declared.instance.Instance.{Instance}
use Rattle.pls_problem.specs.declared.instance.Instance.TheVariants.{Knapsack, Assignment, Tour}
use Rattle.pls_problem.specs.declared.reader.BadInstance.TheVariants.{Short, Range}
use Rattle.pls_problem.specs.Instance.{value as value_of, neighbours as neighbours_of}
use Rattle.pls_top.specs.declared.status.Status.TheVariants.{Usage}
use Rattle.pls_archive.specs.History.{accepting}
use Rattle.pls_archive.specs.Reply.{nondominated}
use Rattle.pls_archive.specs.Explorations.{entries_of_run, cuts}
use Rattle.pls_archive.specs.Sequential.{sequential_run}
use Rattle.pls_search.specs.Neighbours.{point_of, neighbours_of as near}
use Rattle.pls_search.specs.declared.end.End.TheVariants.{Closed, Stopped}
use Rattle.pls_top.specs.Runs.{SearchRun, front_of, counts_of}
use Rattle.pls_top.specs.Report.{report, demo_report}
use Rattle.pls_top.specs.Due.{due, instance_line}
use Rattle.pls_top.proofs.Dues.{no_run}

-- the sequential run from these starts, stopped where an exploration was cut
abbrev run_from : Instance → List Solution → ℕ → SearchRun
run_from i sols moves =
    let first = sequential_run nondominated (near i) (map (point_of i) sols) moves in
    record {
      accepting = length (accepting (entries_of_run first));
      first = first;
      others = [];
      end = if nat_lt 0 (cuts (near i) (first ∷ [])) then Stopped else Closed;
    }

-- its text
abbrev found : Instance → List Solution → ℕ → List ℕ
found i sols moves =
    let r = run_from i sols moves in report i (front_of r) (counts_of i r) r.end

-- the same in three lines
abbrev shown : Instance → List Solution → ℕ → List ℕ
shown i sols moves =
    let r = run_from i sols moves in demo_report i 9 (front_of r) (counts_of i r) r.end

-- two items that fit together
abbrev two : Instance
two = Knapsack (record {
  items = 2;
  objectives = 2;
  rules = 1;
  capacities = 10 ∷ [];
  profits = 3 ∷ 1 ∷ 1 ∷ 3 ∷ [];
  weights = 2 ∷ 3 ∷ [];
})

abbrev both : Solution
both = with_item (with_item (no_items 2) 0 true) 1 true

-- two moves are just enough: no exploration is cut short
two_moves : found two (both ∷ []) 2 ≡ codes "front 1 knapsack 2\n4 4 : 0 1\nend closed explored 1 evaluated 2 accepted 1\n"
unfolding digits value fits no_other_bit feasible filled points neighbours value_of neighbours_of
two_moves = refl

no_moves : found two (both ∷ []) 0 ≡ codes "front 1 knapsack 2\n4 4 : 0 1\nend stopped explored 0 evaluated 0 accepted 1\n"
unfolding digits value fits no_other_bit feasible filled points neighbours value_of neighbours_of
no_moves = refl

-- an item that does not fit
abbrev one : Instance
one = Knapsack (record {
  items = 1;
  objectives = 2;
  rules = 1;
  capacities = 0 ∷ [];
  profits = 1 ∷ 1 ∷ [];
  weights = 1 ∷ [];
})

none_fits : found one (no_items 1 ∷ []) 0 ≡ codes "front 1 knapsack 2\n0 0 : -\nend closed explored 1 evaluated 0 accepted 1\n"
unfolding digits value fits no_other_bit feasible filled points neighbours value_of neighbours_of
none_fits = refl

none_shown :
    shown one (no_items 1 ∷ []) 0
    ≡ codes "demo knapsack 1 2 seed 9\nmembers 1 first 0 0 last 0 0\nend closed explored 1 evaluated 0 accepted 1\n"
unfolding digits value fits no_other_bit feasible filled points neighbours value_of neighbours_of
none_shown = refl

-- of two equal items the one that was submitted first stays
abbrev equal : Instance
equal = Knapsack (record {
  items = 2;
  objectives = 2;
  rules = 1;
  capacities = 2 ∷ [];
  profits = 1 ∷ 1 ∷ 1 ∷ 1 ∷ [];
  weights = 2 ∷ 2 ∷ [];
})

equal_items :
    found equal (with_item (no_items 2) 1 true ∷ with_item (no_items 2) 0 true ∷ []) 9
    ≡ codes "front 1 knapsack 2\n1 1 : 1\nend closed explored 1 evaluated 2 accepted 1\n"
unfolding digits value fits no_other_bit feasible filled points neighbours value_of neighbours_of
equal_items = refl

-- three items, from item 2 with nine, seven and three moves, and from two starts
abbrev three : Instance
three = Knapsack (record {
  items = 3;
  objectives = 2;
  rules = 1;
  capacities = 5 ∷ [];
  profits = 3 ∷ 1 ∷ 2 ∷ 1 ∷ 3 ∷ 2 ∷ [];
  weights = 2 ∷ 3 ∷ 4 ∷ [];
})

abbrev item_two : Solution
item_two = with_item (no_items 3) 2 true

nine_moves : found three (item_two ∷ []) 9 ≡ codes "front 1 knapsack 2\n4 4 : 0 1\nend closed explored 3 evaluated 9 accepted 4\n"
unfolding digits value fits no_other_bit feasible filled points neighbours value_of neighbours_of
nine_moves = refl

seven_moves : found three (item_two ∷ []) 7 ≡ codes "front 1 knapsack 2\n4 4 : 0 1\nend stopped explored 2 evaluated 7 accepted 4\n"
unfolding digits value fits no_other_bit feasible filled points neighbours value_of neighbours_of
seven_moves = refl

three_moves :
    found three (item_two ∷ []) 3
    ≡ codes "front 3 knapsack 2\n1 3 : 1\n2 2 : 2\n3 1 : 0\nend stopped explored 1 evaluated 3 accepted 3\n"
unfolding digits value fits no_other_bit feasible filled points neighbours value_of neighbours_of
three_moves = refl

three_shown :
    shown three (item_two ∷ []) 3
    ≡ codes "demo knapsack 3 2 seed 9\nmembers 3 first 1 3 last 3 1\nend stopped explored 1 evaluated 3 accepted 3\n"
unfolding digits value fits no_other_bit feasible filled points neighbours value_of neighbours_of
three_shown = refl

two_starts :
    found three (item_two ∷ with_item (with_item (no_items 3) 0 true) 1 true ∷ []) 1
    ≡ codes "front 1 knapsack 2\n4 4 : 0 1\nend stopped explored 0 evaluated 1 accepted 2\n"
unfolding digits value fits no_other_bit feasible filled points neighbours value_of neighbours_of
two_starts = refl

-- two agents: each order is the other's one neighbour
abbrev agents : Instance
agents = Assignment (record { objectives = 2; agents = 2; costs = 1 ∷ 5 ∷ 5 ∷ 1 ∷ 5 ∷ 1 ∷ 1 ∷ 5 ∷ [] })

two_agents :
    found agents (stored (0 ∷ 1 ∷ []) ∷ []) 9
    ≡ codes "front 2 assignment 2\n10 2 : 1 0\n2 10 : 0 1\nend closed explored 2 evaluated 2 accepted 2\n"
unfolding digits value_of neighbours_of assignment.value assignment.total_cost assignment.neighbours pairs swapped stored with_entries with_entry with_byte byte entry
two_agents = refl

agents_shown :
    shown agents (stored (1 ∷ 0 ∷ []) ∷ []) 9
    ≡ codes "demo assignment 2 2 seed 9\nmembers 2 first 10 2 last 2 10\nend closed explored 2 evaluated 2 accepted 2\n"
unfolding digits value_of neighbours_of assignment.value assignment.total_cost assignment.neighbours pairs swapped stored with_entries with_entry with_byte byte entry
agents_shown = refl

-- three cities: the other way round is as long
three_cities :
    found (Tour (record { objectives = 2; cities = 3; edges = 1 ∷ 2 ∷ 3 ∷ 4 ∷ 5 ∷ 6 ∷ [] })) (stored (0 ∷ 1 ∷ 2 ∷ []) ∷ []) 9
    ≡ codes "front 1 tour 2\n6 15 : 0 1 2\nend closed explored 1 evaluated 1 accepted 1\n"
unfolding digits value_of neighbours_of tour.value tour.tour_length tour.place_of tour.neighbours pairs reversed stored with_entries with_entry with_byte byte entry
three_cities = refl

-- four cities, of which one more way round is accepted
four_cities :
    found (Tour (record { objectives = 2; cities = 4; edges = 1 ∷ 9 ∷ 1 ∷ 1 ∷ 9 ∷ 1 ∷ 9 ∷ 1 ∷ 5 ∷ 5 ∷ 1 ∷ 9 ∷ [] }))
    (stored (0 ∷ 1 ∷ 2 ∷ 3 ∷ []) ∷ []) 9
    ≡ codes "front 2 tour 2\n20 12 : 0 2 1 3\n4 28 : 0 1 2 3\nend closed explored 2 evaluated 6 accepted 2\n"
unfolding digits value_of neighbours_of tour.value tour.tour_length tour.place_of tour.neighbours pairs reversed stored with_entries with_entry with_byte byte entry
four_cities = refl

-- lines of faults
no_line : due None no_run [] ≡ record { status = Usage; text = codes "error usage\n" }
no_line = refl

short_line : instance_line (Short 16777216) ≡ codes "error instance short 16777216\n"
unfolding digits
short_line = refl

range_line : instance_line (Range 22) ≡ codes "error instance range 22\n"
unfolding digits
range_line = refl
