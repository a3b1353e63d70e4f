-- A walk over the neighbours of a tour.
use Rattle.std.proofs.Common.{◌≡◌, ◌≢◌, ℕ, ◌+◌, ◌-◌, ◌%◌, ◌<◌, ◌≤◌, ◌==◌, true, ◌&&◌, ℤ, List, [], ◌∷◌, length, map, slice_index, All, refl, ap, sym, ◌∙◌, inl, inr, arith}
use Rattle.std.proofs.Math.Nat.{mod_self, mod-eq_of_lt, mod-lt}
use Rattle.std.proofs.lemmas.Bool.{cases_lt, and_parts, and_from, eqb-true, eq-eqb}
use Rattle.std.proofs.lemmas.List.{length-map}
use Rattle.std.proofs.lemmas.List.Elements.{All-map, All-weaker}
use Rattle.pls_vectors.specs.Solution.{Solution, entry, entries, with_entry, with_entries, reversed}
use Rattle.pls_vectors.proofs.Entries.{words-with_entry}
use Rattle.pls_vectors.proofs.Rearranged.{mirror-inside, mirror-before, mirror-after, entry-reversed}
use Rattle.pls_perms.specs.declared.tour.walk.TourWalk.{TourWalk}
use Rattle.pls_perms.specs.declared.pair.Pair.{Pair}
use Rattle.pls_perms.specs.Walk.{pairs_after}
use Rattle.pls_perms.specs.Permutation.{are_distinct_below, no_other_entry, is_permutation, pairs}
use Rattle.pls_perms.specs.Tour.{TourInstance, IsWithinLimits, edge_between, feasible, tour_length, point, value, neighbours}
use Rattle.pls_perms.specs.TourWalk.{IsWalkOf, current}
use Rattle.pls_perms.proofs.Permutations.{IsPermutationOf, IsPermutationOf-from, is_permutation-reversed}
use Rattle.pls_perms.proofs.Pairs.{length-pairs}
use Rattle.pls_perms.proofs.PairsWithin.{IsPairWithin, pairs-within}
use Rattle.pls_perms.proofs.TourLengths.{Reverses, next-last, next-inner}
use Rattle.pls_perms.proofs.TourValues.{tour_length-reversed, tour_length-reversed_whole, value-same}

-- a feasible tour, place by place
pub record IsTour (n : ℕ) (s : Solution) : Type 0 where
  pub permutation : IsPermutationOf n s
  pub first : entry s 0 ≡ 0

pub feasible-parts : (k : TourInstance) (s : Solution) → k.cities ≤ 256 → feasible k s ≡ true → IsTour k.cities s
unfolding feasible
feasible-parts k s few holds =
    let parts = and_parts (is_permutation k.cities s) (entry s 0 == 0) holds in
    record { permutation = IsPermutationOf-from k.cities s few parts.0; first = eqb-true (entry s 0) 0 parts.1 }

pub feasible-len : (k : TourInstance) (s : Solution) → feasible k s ≡ true → s.len ≡ k.cities
unfolding feasible is_permutation
feasible-len k s holds =
    let parts = and_parts (is_permutation k.cities s) (entry s 0 == 0) holds in
    let shape = and_parts ((s.len == k.cities) && no_other_entry k.cities s) (are_distinct_below k.cities (entries s)) parts.0 in
    eqb-true s.len k.cities (and_parts (s.len == k.cities) (no_other_entry k.cities s) shape.0).0

-- what a reversal of a stretch without the first city makes of a tour
pub Reverses-reversed :
    (s : Solution) (i j : ℕ) → length s.words ≡ 32 → i ≤ j → j < 256 → Reverses (λ x. entry s x) (λ x. entry (reversed s i j) x) i j
Reverses-reversed s i j stored order few =
    record {
      within = λ k l least least' both.
          let place : i + j - k ≡ l = omega arith in
          entry-reversed s i j k stored few (omega arith) ∙ ap (λ p. entry s p) (mirror-inside i j k least (omega arith) ∙ place);
      before = λ k less. entry-reversed s i j k stored few (omega arith) ∙ ap (λ p. entry s p) (mirror-before i j k less);
      beyond = λ k more. entry-reversed s i j k stored few (omega arith) ∙ ap (λ p. entry s p) (mirror-after i j k more);
    }

-- it has as many words
words-with_entries : (s : Solution) (i : ℕ) (xs : List ℕ) → length s.words ≡ 32 → length (with_entries s i xs).words ≡ 32
unfolding with_entries
words-with_entries s i [] stored = stored
words-with_entries s i (x ∷ xs) stored = words-with_entries (with_entry s i x) (i + 1) xs (words-with_entry s i x stored)

words-reversed : (s : Solution) (i j : ℕ) → length s.words ≡ 32 → length (reversed s i j).words ≡ 32
unfolding reversed
words-reversed s i j stored = words-with_entries s i _ stored

pub feasible-reversed :
    (k : TourInstance) (s : Solution) (i j : ℕ) → k.cities ≤ 256 → length s.words ≡ 32 → feasible k s ≡ true
    → 1 ≤ i → i ≤ j → j < k.cities → feasible k (reversed s i j) ≡ true
unfolding feasible
feasible-reversed k s i j few stored holds begins order within =
    let parts = and_parts (is_permutation k.cities s) (entry s 0 == 0) holds in
    let reverses = Reverses-reversed s i j stored order (omega arith) in
    and_from _ _ (is_permutation-reversed k.cities s i j few stored (omega arith) within parts.0)
    (eq-eqb (entry (reversed s i j) 0) 0 (reverses.before 0 (omega arith) ∙ eqb-true (entry s 0) 0 parts.1))

-- a reversal of all cities but city 0 keeps the value
pub value-reversed_whole :
    (k : TourInstance) (s : Solution) → IsWithinLimits k → length s.words ≡ 32 → value k (reversed s 1 (k.cities - 1)) ≡ value k s
value-reversed_whole k s limits stored =
    let some = limits.some_cities in
    let few = limits.few_cities in
    let reverses = Reverses-reversed s 1 (k.cities - 1) stored (omega arith) (omega arith) in
    value-same k s (reversed s 1 (k.cities - 1)) (λ list. tour_length-reversed_whole k s (reversed s 1 (k.cities - 1)) list (omega arith) reverses)

-- what holds of each neighbour of a stored tour: it is stored and feasible, and it stands with its value
pub record IsNeighbour (k : TourInstance) (q : List ℤ × Solution) : Type 0 where
  pub stored : length q.1.words ≡ 32
  pub feasible : feasible k q.1 ≡ true
  pub value : q.0 ≡ value k q.1

pub neighbours-All :
    (k : TourInstance) (s : Solution) → IsWithinLimits k → length s.words ≡ 32 → feasible k s ≡ true → All (IsNeighbour k) (neighbours k s)
unfolding neighbours
neighbours-All k s limits stored holds =
    All-map (IsNeighbour k) (λ (p : ℕ × ℕ). point k (reversed s p.0 p.1)) (pairs 1 k.cities)
    (All-weaker (IsPairWithin 1 k.cities) (λ p. IsNeighbour k (point k (reversed s p.0 p.1)))
    (λ p within.
    let order = within.order in
    record {
      stored = words-reversed s p.0 p.1 stored;
      feasible = feasible-reversed k s p.0 p.1 limits.few_cities stored holds within.begins (omega arith) within.below;
      value = refl;
    })
    (pairs 1 k.cities) (pairs-within 1 k.cities))

-- how many neighbours there are
pub length-neighbours : (k : TourInstance) (s : Solution) → IsWithinLimits k → length (neighbours k s) ≤ 32385
unfolding neighbours
length-neighbours k s limits =
    let count = length-map (pairs 1 k.cities) (λ p. point k (reversed s p.0 p.1)) in
    let some = limits.some_cities in
    let few = limits.few_cities in
    let most = length-pairs 254 1 k.cities (omega arith) (omega arith) in
    omega arith

-- different places have different cities
pub cities_differ : (n : ℕ) (s : Solution) (i j : ℕ) → IsTour n s → i < j → j < n → entry s i ≢ entry s j
cities_differ n s i j tour order below = λ same.
    let e = tour.permutation.distinct i j (omega arith) below same in
    absurd (omega arith)

-- a city and the next one are different
pub step-apart : (n : ℕ) (s : Solution) (i : ℕ) → 2 ≤ n → IsTour n s → i < n → entry s i ≢ entry s ((i + 1) % n)
step-apart n s i some tour below =
    elim (cases_lt (i + 1) n) [
      | inl inner ↦ rw (next-inner n i inner) (cities_differ n s i (i + 1) tour (omega arith) inner)
      | inr last ↦ rw (next-last n i (omega arith)) (λ same. cities_differ n s 0 i tour (omega arith) below (sym same))
    ]

-- the neighbours from a pair of places on, where the next pair and its value are known
pub left-next :
    (k : TourInstance) (s : Solution) (p q : Pair) (v : List ℤ)
    → pairs_after k.cities p ≡ (q.first, q.second) ∷ pairs_after k.cities q → v ≡ value k (reversed s q.first q.second)
    → map (λ p. point k (reversed s p.0 p.1)) (pairs_after k.cities p)
    ≡ (v, reversed s q.first q.second) ∷ map (λ p. point k (reversed s p.0 p.1)) (pairs_after k.cities q)
left-next k s p q v next is =
    ap (λ (ps : List (ℕ × ℕ)). map (λ (p : ℕ × ℕ). point k (reversed s p.0 p.1)) ps) next
    ∙ ap (λ (x : List ℤ). (x, reversed s q.first q.second) ∷ map (λ (p : ℕ × ℕ). point k (reversed s p.0 p.1)) (pairs_after k.cities q)) (sym is)

module _ (k : TourInstance) (w : TourWalk) (is : IsWalkOf k w) where
  tour : IsTour k.cities w.walk.start
  tour = feasible-parts k w.walk.start is.limits.few_cities is.feasible

  -- the city at a place, and at the one past the last
  at-place : (i : ℕ) → i < k.cities → slice_index w.cities i ≡ entry w.walk.start i
  at-place i below = is.cities i (omega arith) ∙ ap (λ x. entry w.walk.start x) (mod-eq_of_lt below)

  at-past : slice_index w.cities k.cities ≡ entry w.walk.start 0
  at-past = is.cities k.cities (omega arith) ∙ ap (λ x. entry w.walk.start x) (mod_self k.cities)

  pub city-within : (i : ℕ) → i ≤ k.cities → slice_index w.cities i < k.cities
  city-within i below =
      let some = is.limits.some_cities in
      rw (is.cities i below) (tour.permutation.below (i % k.cities) (mod-lt i (omega arith)))

  pub cities-apart : (i j : ℕ) → i < j → j < k.cities → slice_index w.cities i ≢ slice_index w.cities j
  cities-apart i j order below =
      rw (at-place i (omega arith), at-place j below) (cities_differ k.cities w.walk.start i j tour order below)

  pub cities-apart_after : (i j : ℕ) → 1 ≤ i → i ≤ j → j < k.cities → slice_index w.cities i ≢ slice_index w.cities (j + 1)
  cities-apart_after i j some order below =
      elim (cases_lt (j + 1) k.cities) [
        | inl inner ↦ cities-apart i (j + 1) (omega arith) inner
        | inr last ↦
            let end : j + 1 ≡ k.cities = omega arith in
            rw (end, at-past, at-place i (omega arith))
            (λ same. cities_differ k.cities w.walk.start 0 i tour (omega arith) (omega arith) (sym same))
      ]

  -- the lengths with the stretch reversed
  pub length-current :
      (list : ℕ) → list < 4
      → tour_length k (current w) list
      + (edge_between k list (slice_index w.cities (w.walk.pair.first - 1)) (slice_index w.cities w.walk.pair.first)
      + edge_between k list (slice_index w.cities w.walk.pair.second) (slice_index w.cities (w.walk.pair.second + 1)))
      ≡ slice_index w.walk.sums list
      + (edge_between k list (slice_index w.cities (w.walk.pair.first - 1)) (slice_index w.cities w.walk.pair.second)
      + edge_between k list (slice_index w.cities w.walk.pair.first) (slice_index w.cities (w.walk.pair.second + 1)))
  length-current list at =
      let i = w.walk.pair.first in
      let j = w.walk.pair.second in
      let begins = is.pair.from in
      let order = is.pair.ordered in
      let within = is.pair.below in
      let few = is.limits.few_cities in
      let reverses = Reverses-reversed w.walk.start i j is.words order (omega arith) in
      let changed = tour_length-reversed k w.walk.start (current w) (i - 1) i j list (omega arith) order within reverses in
      let before = at-place (i - 1) (omega arith) in
      let begin = at-place i (omega arith) in
      let end = at-place j within in
      let after = is.cities (j + 1) (omega arith) in
      rw (before, begin, end, after, is.sums list at) changed
