-- The starts of a search are feasible.
use Rattle.std.proofs.Common.{◌≡◌, ◌<◌, ◌≤◌, ◌==◌, ℕ, zero, suc, List, length, slice_index, true, refl, ◌∙◌, arith}
use Rattle.std.proofs.lemmas.Bool.{and_from}
use Rattle.std.proofs.lemmas.List.{get_or_past}
use Rattle.std.proofs.lemmas.Bool.{cases_lt}
use Rattle.std.proofs.Common.{inl, inr}
use Rattle.std.proofs.lemmas.List.Elements.{All-cons}
use Rattle.std.proofs.lemmas.List.FromFn.{length-range_with_len, get_or-range_with_len}
use Rattle.std.proofs.lemmas.List.Sorted.{All-permutation, length_permutation}
use Rattle.std.specs.List.{All, range_with_len}
use Rattle.rand_core.specs.Stream.{Stream}
use Rattle.pls_vectors.specs.Solution.{Solution, stored, entry}
use Rattle.pls_vectors.proofs.Rearranged.{HasWords-stored, entry-stored}
use Rattle.pls_knapsack.proofs.Greedy.{greedy-feasible}
use Rattle.pls_perms.specs.Permutation.{is_permutation}
use Rattle.pls_perms.specs.Assignment as assignment
use Rattle.pls_perms.specs.Tour as tour
use Rattle.pls_perms.proofs.StoredPermutations.{is_permutation-stored}
use Rattle.pls_problem.specs.declared.instance.Instance.{Instance}
use Rattle.pls_problem.specs.declared.instance.Instance.TheVariants.{Knapsack, Assignment, Tour}
use Rattle.pls_problem.specs.Instance.{IsWithinLimits, size, feasible}
use Rattle.pls_problem.specs.Shuffle.{seeded}
use Rattle.pls_problem.specs.Starts.{IsOrder, start_of, starts_from, starts, shuffled_order}
use Rattle.pls_problem.proofs.Shuffles.{shuffled_order-IsOrder}

-- an order has an entry for each item, agent or city, which is below their number
pub length-order : (i : Instance) (order : List ℕ) → IsOrder i order → length order ≡ size i
length-order i order is = length_permutation (range_with_len 0 (size i)) order is.all ∙ length-range_with_len 0 (size i)

pub entries_small : (i : Instance) (order : List ℕ) → IsOrder i order → length order ≤ 256 → All (λ x. x < 256) order
entries_small i order is few =
    let n : ℕ = size i in
    let long = length-order i order is in
    All-permutation (λ x. x < 256) (range_with_len 0 n) order is.all
    (λ k d inside.
    let below : k < n = omega (arith, length-range_with_len 0 n) in
    let at = get_or-range_with_len 0 n k d below in
    omega (arith, at, below, long))

small_at : (order : List ℕ) → All (λ x. x < 256) order → (k : ℕ) → slice_index order k < 256
small_at order all k =
    elim (cases_lt k (length order)) [
      | inl inside ↦ all k 0 inside
      | inr past ↦ (let none = get_or_past order k 0 past in omega (arith, none))
    ]

is_zero : (x : ℕ) → x ≡ 0 → (x == 0) ≡ true
is_zero x none = rw none refl

-- the start that an order stands for
pub start_of-feasible :
    (i : Instance) (order : List ℕ) → IsOrder i order → 1 ≤ length order → length order ≤ 256 → feasible i (start_of i order) ≡ true
unfolding start_of feasible assignment.feasible tour.feasible
start_of-feasible (Knapsack k) order is some few = greedy-feasible k order
start_of-feasible (Assignment k) order is some few =
    let long = length-order (Assignment k) order is in
    is_permutation-stored k.agents order (omega arith) (omega arith) is.all
start_of-feasible (Tour k) order is some few =
    let long = length-order (Tour k) order is in
    let small = small_at order (entries_small (Tour k) order is few) in
    and_from (is_permutation k.cities (stored order)) (entry (stored order) 0 == 0)
    (is_permutation-stored k.cities order (omega arith) (omega arith) is.all)
    (is_zero (entry (stored order) 0) (entry-stored order few small 0 ∙ is.kept 0 (omega arith)))

-- a feasible solution; a permutation is stored in 32 words
abbrev pub IsSound : Instance → Solution → Type 0
IsSound (Knapsack k) s = feasible (Knapsack k) s ≡ true
IsSound (Assignment k) s = (feasible (Assignment k) s ≡ true) × (length s.words ≡ 32)
IsSound (Tour k) s = (feasible (Tour k) s ≡ true) × (length s.words ≡ 32)

pub IsSound-feasible : (i : Instance) (s : Solution) → IsSound i s → feasible i s ≡ true
IsSound-feasible (Knapsack k) s is = is
IsSound-feasible (Assignment k) s is = is.0
IsSound-feasible (Tour k) s is = is.0

start_of-IsSound : (i : Instance) (order : List ℕ) → IsOrder i order → 1 ≤ length order → length order ≤ 256 → IsSound i (start_of i order)
unfolding start_of
start_of-IsSound (Knapsack k) order is some few = start_of-feasible (Knapsack k) order is some few
start_of-IsSound (Assignment k) order is some few = (
  start_of-feasible (Assignment k) order is some few,
  (HasWords-stored order few (small_at order (entries_small (Assignment k) order is few))).many,
)
start_of-IsSound (Tour k) order is some few =
    (start_of-feasible (Tour k) order is some few, (HasWords-stored order few (small_at order (entries_small (Tour k) order is few))).many)

-- the sizes of an instance within its limits
sizes_within : (i : Instance) → IsWithinLimits i → (1 ≤ size i) × (size i ≤ 256)
sizes_within (Knapsack k) limits = (limits.some_items, limits.few_items)
sizes_within (Assignment k) limits = (limits.some_agents, limits.few_agents)
sizes_within (Tour k) limits = (omega (arith, limits.some_cities), limits.few_cities)

starts_from-All : (i : Instance) → IsWithinLimits i → (count : ℕ) (words : Stream) → All (IsSound i) (starts_from i count words)
unfolding starts_from
starts_from-All i limits zero words = λ k d inside. absurd (omega arith)
starts_from-All i limits (suc count) words =
    let first = shuffled_order i words in
    let within = sizes_within i limits in
    let ordered = shuffled_order-IsOrder i words within.0 in
    let long = length-order i first.0 ordered in
    All-cons (IsSound i) (start_of i first.0) (starts_from i count first.1)
    (start_of-IsSound i first.0 ordered (omega (arith, within.0)) (omega (arith, within.1)))
    (starts_from-All i limits count first.1)

pub starts-All : (i : Instance) → IsWithinLimits i → (seed count : ℕ) → All (IsSound i) (starts i seed count)
starts-All i limits seed count = starts_from-All i limits count (seeded seed)
