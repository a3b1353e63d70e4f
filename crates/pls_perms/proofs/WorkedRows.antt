-- The values and the neighbours of small assignments and tours, computed.
use Rattle.std.proofs.Common.{◌≡◌, ℕ, ℤ, pos, neg_ℤ, true, false, List, [], ◌∷◌, map, refl}
use Rattle.pls_vectors.specs.Solution.{no_items, byte, with_byte, entry, entries, with_entry, with_entries, stored, order, swapped, reversed}
use Rattle.pls_perms.specs.Permutation.{no_repeated, are_distinct_below, no_other_entry, is_permutation, pairs}
use Rattle.pls_perms.specs.Assignment.{AssignmentInstance}
use Rattle.pls_perms.specs.Tour.{TourInstance, place_of}
use Rattle.pls_perms.specs.Assignment as assignment
use Rattle.pls_perms.specs.Tour as tour

-- the value of these original numbers
costing : List ℕ → List ℤ
costing xs = map (λ x. neg_ℤ (pos x)) xs

order-of_three : order 3 ≡ stored (0 ∷ 1 ∷ 2 ∷ [])
unfolding stored order
order-of_three = refl

-- the first two words, where entry 8 is in the second
reversed-over_words : entries (reversed (order 10) 1 8) ≡ 0 ∷ 8 ∷ 7 ∷ 6 ∷ 5 ∷ 4 ∷ 3 ∷ 2 ∷ 1 ∷ 9 ∷ []
unfolding byte with_byte entry entries with_entry with_entries stored order reversed
reversed-over_words = refl

swapped-over_words : entries (swapped (order 10) 1 8) ≡ 0 ∷ 8 ∷ 2 ∷ 3 ∷ 4 ∷ 5 ∷ 6 ∷ 7 ∷ 1 ∷ 9 ∷ []
unfolding byte with_byte entry entries with_entry with_entries stored order swapped
swapped-over_words = refl

pairs-of_four : pairs 1 4 ≡ (1, 2) ∷ (1, 3) ∷ (2, 3) ∷ []
unfolding pairs
pairs-of_four = refl

places-of_four : place_of 4 0 1 ∷ place_of 4 0 3 ∷ place_of 4 2 1 ∷ place_of 4 3 2 ∷ [] ≡ 0 ∷ 2 ∷ 3 ∷ 5 ∷ []
unfolding place_of
places-of_four = refl

repeated-entry : is_permutation 2 (stored (1 ∷ 1 ∷ [])) ≡ false
unfolding byte with_byte entry entries with_entry with_entries stored no_repeated are_distinct_below no_other_entry is_permutation
repeated-entry = refl

other-entry : is_permutation 2 (with_entries (no_items 2) 0 (1 ∷ 0 ∷ 1 ∷ [])) ≡ false
unfolding byte with_byte entry entries with_entry with_entries stored no_repeated are_distinct_below no_other_entry is_permutation
other-entry = refl

-- two agents
two_agents : AssignmentInstance
two_agents = record { objectives = 2; agents = 2; costs = 1 ∷ 5 ∷ 5 ∷ 1 ∷ 5 ∷ 1 ∷ 1 ∷ 5 ∷ [] }

feasible-two_agents : assignment.feasible two_agents (stored (1 ∷ 0 ∷ [])) ≡ true
unfolding two_agents byte with_byte entry entries with_entry with_entries stored no_repeated are_distinct_below no_other_entry is_permutation assignment.feasible
feasible-two_agents = refl

value-two_agents : assignment.value two_agents (order 2) ≡ costing (2 ∷ 10 ∷ [])
unfolding two_agents costing byte with_byte entry with_entry with_entries stored order assignment.total_cost assignment.value
value-two_agents = refl

neighbours-two_agents :
    assignment.neighbours two_agents (order 2) ≡ (costing (10 ∷ 2 ∷ []), stored (1 ∷ 0 ∷ [])) ∷ []
unfolding two_agents costing byte with_byte entry with_entry with_entries stored order swapped pairs assignment.total_cost assignment.value assignment.neighbours
neighbours-two_agents = refl

neighbours-two_agents_back :
    assignment.neighbours two_agents (stored (1 ∷ 0 ∷ [])) ≡ (costing (2 ∷ 10 ∷ []), order 2) ∷ []
unfolding two_agents costing byte with_byte entry with_entry with_entries stored order swapped pairs assignment.total_cost assignment.value assignment.neighbours
neighbours-two_agents_back = refl

-- three cities: the one neighbour has an equal value
three_cities : TourInstance
three_cities = record { objectives = 2; cities = 3; edges = 1 ∷ 2 ∷ 3 ∷ 4 ∷ 5 ∷ 6 ∷ [] }

value-three_cities : tour.value three_cities (order 3) ≡ costing (6 ∷ 15 ∷ [])
unfolding three_cities costing byte with_byte entry with_entry with_entries stored order place_of tour.tour_length tour.value
value-three_cities = refl

neighbours-three_cities :
    tour.neighbours three_cities (order 3) ≡ (costing (6 ∷ 15 ∷ []), stored (0 ∷ 2 ∷ 1 ∷ [])) ∷ []
unfolding three_cities costing byte with_byte entry with_entry with_entries stored order reversed pairs place_of tour.tour_length tour.value tour.neighbours
neighbours-three_cities = refl

-- four cities
four_cities : TourInstance
four_cities = record { objectives = 2; cities = 4; edges = 1 ∷ 9 ∷ 1 ∷ 1 ∷ 9 ∷ 1 ∷ 9 ∷ 1 ∷ 5 ∷ 5 ∷ 1 ∷ 9 ∷ [] }

feasible-four_cities : tour.feasible four_cities (stored (0 ∷ 2 ∷ 1 ∷ 3 ∷ [])) ≡ true
unfolding four_cities byte with_byte entry entries with_entry with_entries stored no_repeated are_distinct_below no_other_entry is_permutation tour.feasible
feasible-four_cities = refl

feasible-city_moved : tour.feasible four_cities (stored (2 ∷ 0 ∷ 1 ∷ 3 ∷ [])) ≡ false
unfolding four_cities byte with_byte entry entries with_entry with_entries stored no_repeated are_distinct_below no_other_entry is_permutation tour.feasible
feasible-city_moved = refl

value-four_cities : tour.value four_cities (order 4) ≡ costing (4 ∷ 28 ∷ [])
unfolding four_cities costing byte with_byte entry with_entry with_entries stored order place_of tour.tour_length tour.value
value-four_cities = refl

neighbours-four_cities :
    tour.neighbours four_cities (order 4)
    ≡ (costing (20 ∷ 12 ∷ []), stored (0 ∷ 2 ∷ 1 ∷ 3 ∷ []))
    ∷ (costing (4 ∷ 28 ∷ []), stored (0 ∷ 3 ∷ 2 ∷ 1 ∷ []))
    ∷ (costing (20 ∷ 20 ∷ []), stored (0 ∷ 1 ∷ 3 ∷ 2 ∷ []))
    ∷ []
unfolding four_cities costing byte with_byte entry with_entry with_entries stored order reversed pairs place_of tour.tour_length tour.value tour.neighbours
neighbours-four_cities = refl
