-- The lengths and the value of a tour.
use Rattle.std.proofs.Common.{◌≡◌, ◌≢◌, ℕ, ◌+◌, ◌-◌, ◌*◌, ◌%◌, ◌<◌, ◌≤◌, pos, neg_ℤ, List, length, map, slice_index, All, nat_lt, min, max, ap, sym, ◌∙◌, inl, inr, arith}
use Rattle.std.specs.List.{range_with_len}
use Rattle.std.proofs.Math.Nat.{mul-le-mul_right}
use Rattle.std.proofs.lemmas.Bool.{cases_lt, cases_order, cond-true, cond-false, lt-ltb, le-ltb}
use Rattle.std.proofs.lemmas.List.{get_or_past}
use Rattle.std.proofs.lemmas.List.Elements.{All-get_or}
use Rattle.std.proofs.lemmas.List.FromFn.{length-map-range_with_len}
use Rattle.pls_vectors.specs.Solution.{Solution, entry}
use Rattle.pls_perms.specs.Tour.{TourInstance, IsWithinLimits, edge, edge_between, place_from, place_of, tour_length, value}
use Rattle.pls_vectors.proofs.Ranges.{map-range_same}
use Rattle.pls_perms.proofs.Stretches.{sum_from-le}
use Rattle.pls_perms.proofs.TourLengths.{Reverses, closed-reversed, closed-reversed_whole}

-- a number of a list of small ones
pub small_at : (xs : List ℕ) (m i : ℕ) → All (λ x. x ≤ m) xs → slice_index xs i ≤ m
small_at xs m i small =
    elim (cases_lt i (length xs)) [
      | inl within ↦ All-get_or (λ x. x ≤ m) xs i 0 within small
      | inr past ↦ rw get_or_past (omega arith)
    ]

-- no number stands past the rows
pub none_past : (xs : List ℕ) (rows width row place : ℕ) → length xs ≡ rows * width → rows ≤ row → slice_index xs (row * width + place) ≡ 0
none_past xs rows width row place long past =
    let more = mul-le-mul_right width past in
    get_or_past xs (row * width + place) 0 (omega arith)

-- the edge between two cities, whichever comes first
pub place_of-first : (n a b : ℕ) → a < b → place_of n a b ≡ place_from n a b
unfolding place_of
place_of-first n a b order = cond-true (nat_lt a b) (place_from n a b) (place_from n b a) (lt-ltb a b order)

pub place_of-second : (n a b : ℕ) → b ≤ a → place_of n a b ≡ place_from n b a
unfolding place_of
place_of-second n a b order = cond-false (nat_lt a b) (place_from n a b) (place_from n b a) (le-ltb a b order)

pub place_of-symmetric : (n a b : ℕ) → place_of n a b ≡ place_of n b a
place_of-symmetric n a b =
    elim (cases_order a b) [
      | inl same ↦ ap (λ x. place_of n x b) same ∙ ap (λ x. place_of n b x) (sym same)
      | inr apart ↦
          elim apart [
            | inl less ↦ place_of-first n a b less ∙ sym (place_of-second n b a (omega arith))
            | inr more ↦ place_of-second n a b (omega arith) ∙ sym (place_of-first n b a more)
          ]
    ]

pub place_of-min_max : (n a b : ℕ) → a ≢ b → place_from n (min a b) (max a b) ≡ place_of n a b
place_of-min_max n a b apart =
    elim (cases_lt a b) [
      | inl less ↦
          let low : min a b ≡ a = omega arith in
          let high : max a b ≡ b = omega arith in
          rw (low, high) (sym (place_of-first n a b less))
      | inr more ↦
          let low : min a b ≡ b = omega arith in
          let high : max a b ≡ a = omega arith in
          rw (low, high) (sym (place_of-second n a b more))
    ]

pub edge_between-symmetric : (k : TourInstance) (list a b : ℕ) → edge_between k list a b ≡ edge_between k list b a
edge_between-symmetric k list a b = ap (λ place. edge k list place) (place_of-symmetric k.cities a b)

module _ (k : TourInstance) (limits : IsWithinLimits k) where
  pub small_edge : (list place : ℕ) → edge k list place ≤ 1000000
  small_edge list place = small_at k.edges 1000000 _ limits.small_edges

  pub small_between : (list a b : ℕ) → edge_between k list a b ≤ 1000000
  small_between list a b = small_edge list (place_of k.cities a b)

  no_edge : (list place : ℕ) → k.objectives ≤ list → edge k list place ≡ 0
  no_edge list place past = none_past k.edges k.objectives _ list place limits.lists past

  -- a length fits a word
  pub small_length : (s : Solution) (list : ℕ) → tour_length k s list ≤ 256000000
  unfolding tour_length
  small_length s list =
      let sum = sum_from-le (λ i. edge_between k list (entry s i) (entry s ((i + 1) % k.cities))) 0 k.cities 1000000 (λ i. small_edge list _) in
      let few = limits.few_cities in
      omega arith

  -- a list that the instance does not have has none
  pub no_length : (s : Solution) (list : ℕ) → k.objectives ≤ list → tour_length k s list ≡ 0
  unfolding tour_length
  no_length s list past =
      let sum = sum_from-le (λ i. edge_between k list (entry s i) (entry s ((i + 1) % k.cities))) 0 k.cities 0 (λ i. let none = no_edge list (place_of k.cities (entry s i) (entry s ((i + 1) % k.cities))) past in omega arith) in
      omega arith

-- the lengths after the stretch from i to j is reversed: two edges go and two come
pub tour_length-reversed :
    (k : TourInstance) (s q : Solution) (h i j list : ℕ) → h + 1 ≡ i → i ≤ j → j < k.cities
    → Reverses (λ x. entry s x) (λ x. entry q x) i j
    → tour_length k q list + (edge_between k list (entry s h) (entry s i) + edge_between k list (entry s j) (entry s ((j + 1) % k.cities)))
    ≡ tour_length k s list + (edge_between k list (entry s h) (entry s j) + edge_between k list (entry s i) (entry s ((j + 1) % k.cities)))
unfolding tour_length
tour_length-reversed k s q h i j list first order within reverses =
    closed-reversed (λ a b. edge_between k list a b) (λ a b. edge_between-symmetric k list a b) (λ x. entry s x) (λ x. entry q x)
    h i (j - i) j (k.cities - (j + 1)) k.cities first (omega arith) (omega arith) reverses

-- a reversal of all cities but city 0 keeps the lengths
pub tour_length-reversed_whole :
    (k : TourInstance) (s q : Solution) (list : ℕ) → 2 ≤ k.cities → Reverses (λ x. entry s x) (λ x. entry q x) 1 (k.cities - 1)
    → tour_length k q list ≡ tour_length k s list
unfolding tour_length
tour_length-reversed_whole k s q list some reverses =
    closed-reversed_whole (λ a b. edge_between k list a b) (λ x. entry s x) (λ x. entry q x) k.cities (λ a b. edge_between-symmetric k list a b) some reverses

-- the value of a tour whose lengths are known
pub value-from_lengths :
    (k : TourInstance) (s : Solution) (lengths : List ℕ)
    → ((list : ℕ) → list < k.objectives → slice_index lengths list ≡ tour_length k s list)
    → map (λ list. neg_ℤ (pos (slice_index lengths list))) (range_with_len 0 k.objectives) ≡ value k s
unfolding value
value-from_lengths k s lengths is =
    map-range_same (λ list. neg_ℤ (pos (slice_index lengths list))) (λ list. neg_ℤ (pos (tour_length k s list))) k.objectives
    (λ list below. ap (λ x. neg_ℤ (pos x)) (is list below))

-- tours with equal lengths have one value
pub value-same : (k : TourInstance) (s q : Solution) → ((list : ℕ) → tour_length k q list ≡ tour_length k s list) → value k q ≡ value k s
unfolding value
value-same k s q same =
    map-range_same (λ list. neg_ℤ (pos (tour_length k q list))) (λ list. neg_ℤ (pos (tour_length k s list))) k.objectives
    (λ list _. ap (λ x. neg_ℤ (pos x)) (same list))

-- a value has a part for each objective
pub length-value : (k : TourInstance) (s : Solution) → length (value k s) ≡ k.objectives
unfolding value
length-value k s = length-map-range_with_len _ 0 k.objectives
