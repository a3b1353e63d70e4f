-- How many neighbours a choice has at most.
use Rattle.std.proofs.Common.{◌≡◌, ℕ, ◌+◌, ◌-◌, ◌*◌, ◌≤◌, Bool, true, false, cond, not, List, [], ◌∷◌, ◌++◌, length, suc, refl, ap, ◌∙◌, inl, inr, arith}
use Rattle.std.specs.List.{filter, sum_by}
use Rattle.std.proofs.Math.Nat.{mul_comm, mul-le-mul_right}
use Rattle.std.proofs.lemmas.Bool.{cases_lt}
use Rattle.std.proofs.lemmas.List.{length-append, length-map}
use Rattle.std.proofs.lemmas.List.Concat.{length-flat_map}
use Rattle.std.proofs.lemmas.List.Filters.{length-filter_both}
use Rattle.std.proofs.lemmas.List.FromFn.{length-range_with_len}
use Rattle.std.proofs.lemmas.List.Sums.{sum_by-cons}
use Rattle.pls_vectors.specs.Solution.{Solution, chosen}
use Rattle.pls_knapsack.specs.Instance.{Instance, items_of, feasible}
use Rattle.pls_knapsack.specs.Neighbours.{flips, exchanges_of, exchanges, points, neighbours}

-- no more pass than there are
length-filter-le : {X : Type 0} (p : X → Bool) (xs : List X) → length (filter p xs) ≤ length xs
length-filter-le p [] = omega arith
length-filter-le p (x ∷ xs) =
    let rest = length-filter-le p xs in
    elim (p x) as (λ b. length (cond b (x ∷ filter p xs) (filter p xs)) ≤ suc (length xs)) [
      | true ↦ omega arith
      | false ↦ omega arith
    ]

length-points : (k : Instance) (choices : List Solution) → length (points k choices) ≤ length choices
unfolding points
length-points k choices = rw length-map (length-filter-le (λ q. feasible k q) choices)

-- a sum of equal terms
sum_by-equal : {X : Type 0} (f : X → ℕ) (m : ℕ) (xs : List X) → ((x : X) → f x ≡ m) → sum_by f xs ≡ length xs * m
sum_by-equal f m [] each = omega arith
sum_by-equal f m (x ∷ xs) each = omega (arith, sum_by-cons f x xs, sum_by-equal f m xs each, each x)

-- a part and the rest of at most 256
product-le : (a b : ℕ) → b ≤ a → a + b ≤ 256 → a * b ≤ 16384
product-le a b less few =
    let h : ℕ = 128 - b in
    let both : b + h ≡ 128 = omega arith in
    let product = ap (λ x. h * x) both in
    let wide : a * b ≤ (128 + h) * b = mul-le-mul_right b (omega arith) in
    omega arith

pub product-le-both : (a b : ℕ) → a + b ≤ 256 → a * b ≤ 16384
product-le-both a b few =
    elim (cases_lt a b) [
      | inl less ↦ rw mul_comm (product-le b a (omega arith) (omega arith))
      | inr more ↦ product-le a b more few
    ]

-- how many neighbours there are at most
pub length-neighbours : (k : Instance) (s : Solution) → k.items ≤ 256 → length (neighbours k s) ≤ 16640
unfolding neighbours
length-neighbours k s few =
    let taken = filter (λ i. chosen s i) (items_of k) in
    let free = filter (λ j. not (chosen s j)) (items_of k) in
    let long = length-range_with_len 0 k.items in
    let both = length-filter_both (λ i. chosen s i) (λ j. not (chosen s j)) (λ _. refl) (items_of k) in
    let flipped : length (flips k s) ≡ k.items = length-map (items_of k) _ ∙ long in
    let each : (i : ℕ) → length (exchanges_of k s i) ≡ length free = λ i. length-map free _ in
    let exchanged : length (exchanges k s) ≡ length taken * length free =
    length-flat_map (λ i. exchanges_of k s i) taken ∙ sum_by-equal (λ i. length (exchanges_of k s i)) (length free) taken each in
    let most = product-le-both (length taken) (length free) (omega arith) in
    omega (arith, length-points k (flips k s ++ exchanges k s), length-append (flips k s) (exchanges k s))
