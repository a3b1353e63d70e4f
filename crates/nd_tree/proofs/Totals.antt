-- Sums of distances, one vector more, and the choices that they make.
use Rattle.std.proofs.Common.{◌≡◌, ℕ, ◌+◌, ◌*◌, ◌<◌, ◌≤◌, ℤ, List, [], ◌∷◌, ◌++◌, length, take, drop, set, slice_index, add-one, length-append, length-drop, ap, sym, ◌∙◌, arith}
use Rattle.std.specs.List.{sum_by}
use Rattle.std.proofs.lemmas.List.{take_more, take_all, length-take-le, get_or-take}
use Rattle.std.proofs.lemmas.List.Sums.{sum_by_push}
use Rattle.pls_vectors.proofs.Ranges.{range_with_len-suc, sum_by-range_suc, sum_by-range_same}
use Rattle.nd_tree.specs.Split.{Begun, value_at, distance, places, with_largest, total_distance, begun}
use Rattle.nd_tree.proofs.Distances.{distance-turned, distance-self}
use Rattle.nd_tree.proofs.Sums.{below-written}
use Rattle.nd_tree.proofs.Chosen.{IsChoice-at, below-left, with_largest-same, All-places}

pub sum-places : (f : ℕ → ℕ) (k : ℕ) → sum_by f (places (k + 1)) ≡ sum_by f (places k) + f k
sum-places f k = rw add-one (sum_by-range_suc f k)

pub places-more : (k : ℕ) → places (k + 1) ≡ places k ++ k ∷ []
places-more k = rw add-one (range_with_len-suc 0 k k (omega arith))

module _ (values : List (List ℤ)) where
  -- the distances to the vectors before it, and to itself
  pub total-own : (k : ℕ) → sum_by (λ i. distance (value_at values i) (value_at values k)) (places k) ≡ total_distance values (places (k + 1)) k
  total-own k =
      let v = value_at values k in
      let turned = sum_by-range_same (λ i. distance (value_at values i) v) (λ i. distance v (value_at values i)) k (λ i below. distance-turned (value_at values i) v) in
      omega (arith, turned, sum-places (λ i. distance v (value_at values i)) k, distance-self v)

  pub total-chosen :
      (i k : ℕ) (chosen : List ℕ) → length chosen ≡ k + 1
      → total_distance values chosen i ≡ total_distance values (take k chosen) i + distance (value_at values i) (value_at values (slice_index chosen k))
  total-chosen i k chosen long =
      let split : chosen ≡ take k chosen ++ slice_index chosen k ∷ [] = sym (take_all (k + 1) chosen (omega arith)) ∙ take_more chosen k 0 (omega arith) in
      ap (λ ks. total_distance values ks i) split
      ∙ sum_by_push (λ j. distance (value_at values i) (value_at values j)) (take k chosen) (slice_index chosen k)

  -- the sums to all choose the first
  pub begun-first :
      (sums : List ℕ) (b : Begun) → length values ≡ 21 → b.chosen ≡ [] → b.left ≡ places 21
      → ((k : ℕ) → k < 21 → slice_index sums k ≡ 4 * total_distance values (places 21) k)
      → with_largest (λ k. slice_index sums k) b ≡ begun values 0
  unfolding begun
  begun-first sums b many none all sums_are =
      let is : b ≡ record { chosen = []; left = places 21 } =
      ap (λ (ks : List ℕ). record b { chosen = ks }) none ∙ ap (λ (ks : List ℕ). record { chosen = []; left = ks }) all in
      ap (with_largest (λ k. slice_index sums k)) is
      ∙ (with_largest-same (λ k. slice_index sums k) (total_distance values (places 21)) 21 (record { chosen = []; left = places 21 }) sums_are (All-places 21)
      ∙ ap (λ n. with_largest (total_distance values (places n)) (record { chosen = []; left = places n })) (sym many))

  -- and the sums to those chosen the next
  pub begun-next :
      (sums : List ℕ) (b : Begun) (k : ℕ) → length values ≡ 21 → k < 20 → b ≡ begun values k
      → ((i : ℕ) → i < 21 → slice_index sums i ≡ 4 * total_distance values b.chosen i)
      → with_largest (λ i. slice_index sums i) b ≡ begun values (k + 1)
  unfolding begun
  begun-next sums b k many few is sums_are =
      let below = below-left b (IsChoice-at values b k many (omega arith) is) in
      rw add-one
      (with_largest-same (λ i. slice_index sums i) (total_distance values b.chosen) 21 b sums_are below
      ∙ ap (λ before. with_largest (total_distance values before.chosen) before) is)

  -- the sums of the first k vectors among themselves, once those of the next were added: v is that vector, `sums` what they were, and
  -- `own` its own sum
  module _ (sums after : List ℕ) (k own : ℕ) (v : List ℤ) (within : k < length sums) (long : length after ≡ length (take k sums)) where
    front : length (take k sums) ≡ k
    front = length-take-le k sums (omega arith)

    inside : k < length (after ++ drop k sums)
    inside = omega (arith, long, front, length-append after (drop k sums), length-drop k sums)

    pub sums-next :
        v ≡ value_at values k
        → ((i : ℕ) → i < k → slice_index sums i ≡ 4 * total_distance values (places k) i)
        → ((i : ℕ) → i < length (take k sums) → slice_index after i ≡ slice_index (take k sums) i + 4 * distance (value_at values i) v)
        → own ≡ 4 * sum_by (λ i. distance (value_at values i) v) (places (length (take k sums)))
        → (i : ℕ) → i < k + 1 → slice_index (set (after ++ drop k sums) k own) i ≡ 4 * total_distance values (places (k + 1)) i
    sums-next is so_far added all =
        below-written (λ i n. n ≡ 4 * total_distance values (places (k + 1)) i) after (drop k sums) k own (long ∙ front) inside
        (λ i less.
        let same : slice_index (take k sums) i ≡ slice_index sums i = get_or-take k sums i 0 less in
        let at : distance (value_at values i) v ≡ distance (value_at values i) (value_at values k) = ap (distance (value_at values i)) is in
        let more = added i (omega (arith, front)) in
        let was = so_far i less in
        omega (arith, more, same, was, at, sum-places (λ j. distance (value_at values i) (value_at values j)) k))
        (all
        ∙ (ap (λ n. 4 * sum_by (λ i. distance (value_at values i) v) (places n)) front
        ∙ (ap (λ w. 4 * sum_by (λ i. distance (value_at values i) w) (places k)) is ∙ ap (λ n. 4 * n) (total-own k))))

    pub bound-next :
        (m : ℕ) → ((i : ℕ) → i < k → slice_index sums i ≤ k * m)
        → ((i : ℕ) → i < length (take k sums) → slice_index after i ≤ slice_index (take k sums) i + m)
        → own ≤ length (take k sums) * m
        → (i : ℕ) → i < k + 1 → slice_index (set (after ++ drop k sums) k own) i ≤ (k + 1) * m
    bound-next m so_far added all =
        below-written (λ i n. n ≤ (k + 1) * m) after (drop k sums) k own (long ∙ front) inside
        (λ i less.
        let same : slice_index (take k sums) i ≡ slice_index sums i = get_or-take k sums i 0 less in
        let more = added i (omega (arith, front)) in
        let was = so_far i less in
        omega (arith, more, same, was))
        (omega (arith, all, ap (λ n. n * m) front))
