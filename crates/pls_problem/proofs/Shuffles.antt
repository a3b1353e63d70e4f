-- Orders of items, and shuffles of them.
use Rattle.std.proofs.Common.{◌≡◌, ◌<◌, ◌≤◌, ◌+◌, ◌-◌, ℕ, List, length, get_or, subst, sym, ap, arith, zero-add, ◌∙◌}
use Rattle.std.specs.List.{range_with_len}
use Rattle.std.specs.List.Sorted.{IsPermutation}
use Rattle.std.proofs.lemmas.List.FromFn.{length-range_with_len, get_or-range_with_len}
use Rattle.std.proofs.Common.{eqb, eq-eqb, ne_eqb, ⊎_elim}
use Rattle.std.proofs.lemmas.Bool.Decides.{Decides-eqb, eqb_tells}
use Rattle.std.proofs.lemmas.List.{ext_get_or}
use Rattle.std.proofs.lemmas.List.Sorted.{All-permutation}
use Rattle.std.proofs.lemmas.Map.Keys.{IsDistinct-IsPermutation}
use Rattle.std.proofs.lemmas.Map.Made.{AllPairs-from_IsDistinct, IsDistinct-from_AllPairs}
use Rattle.rand_core.specs.Stream.{Stream}
use Rattle.pls_knapsack.specs.Instance.{Instance, IsOrderOf}
use Rattle.pls_problem.specs.declared.instance.Instance.{Instance as AnyInstance}
use Rattle.pls_problem.specs.declared.instance.Instance.TheVariants as instance
use Rattle.pls_problem.specs.Instance.{size}
use Rattle.pls_problem.specs.Shuffle.{shuffled}
use Rattle.pls_problem.specs.Starts.{IsOrder, least_shuffled, shuffled_order}
use Rattle.pls_problem.proofs.ShuffleSteps.{shuffled-moves, shuffled-keeps}

ranked : (n i d : ℕ) → i < length (range_with_len 0 n) → (i < n) × (get_or (range_with_len 0 n) i d ≡ i)
ranked n i d inside =
    let below : i < n = omega (arith, length-range_with_len 0 n) in
    (below, get_or-range_with_len 0 n i d below ∙ zero-add i)

ascending_is_order : (k : Instance) → IsOrderOf k (range_with_len 0 k.items)
ascending_is_order k = record {
  items = λ i d inside. omega (arith, ranked k.items i d inside);
  once = λ i j d less inside same. absurd (omega (arith, same, ranked k.items j d inside, ranked k.items i d (omega arith)));
}

eqb_flips : (a b : ℕ) → eqb a b ≡ eqb b a
eqb_flips a b =
    ⊎_elim
    (λ e. e.0 ∙ sym (eq-eqb b a (sym e.1)))
    (λ e. e.0 ∙ sym (ne_eqb b a (λ same. e.1 (sym same))))
    (eqb_tells a b)

-- a shuffle of the items names each just once
pub shuffle_is_order : (k : Instance) (n : ℕ) (order : List ℕ) → n ≡ k.items → IsPermutation (range_with_len 0 n) order → IsOrderOf k order
shuffle_is_order k n order all moved =
    let P : ℕ → Type 0 = λ m. IsPermutation (range_with_len 0 m) order in
    let shuffled = subst P all moved in
    let ascending = ascending_is_order k in
    record {
      items = All-permutation (λ item. item < k.items) (range_with_len 0 k.items) order shuffled ascending.items;
      once =
          AllPairs-from_IsDistinct {eq = eqb} Decides-eqb order
          (IsDistinct-IsPermutation eqb eqb_flips (range_with_len 0 k.items) order shuffled
          (IsDistinct-from_AllPairs {eq = eqb} Decides-eqb (range_with_len 0 k.items) ascending.once));
    }

-- entries that are their own places
pub in_order : (n : ℕ) (entries : List ℕ) → length entries ≡ n → ((k : ℕ) → k < n → get_or entries k 0 ≡ k) → entries ≡ range_with_len 0 n
in_order n entries all own =
    ext_get_or 0 entries (range_with_len 0 n) (all ∙ sym (length-range_with_len 0 n))
    (λ k inside.
    let below : k < n = omega arith in
    own k below ∙ sym (get_or-range_with_len 0 n k 0 below ∙ zero-add k))

-- a shuffle of 0, 1, .., n-1 is an order
least-few : (i : AnyInstance) → least_shuffled i ≤ 1
least-few (instance.Knapsack k) = omega arith
least-few (instance.Assignment k) = omega arith
least-few (instance.Tour k) = omega arith

pub shuffled_order-IsOrder : (i : AnyInstance) (words : Stream) → 1 ≤ size i → IsOrder i (shuffled_order i words).0
shuffled_order-IsOrder i words some =
    let n : ℕ = size i in
    let least : ℕ = least_shuffled i in
    let all : least + (n - least) ≤ length (range_with_len 0 n) = omega (arith, length-range_with_len 0 n, least-few i) in
    record {
      all = shuffled-moves least (n - least) words (range_with_len 0 n) all;
      kept = λ place before.
          shuffled-keeps least (n - least) words (range_with_len 0 n) place all before
          ∙ (get_or-range_with_len 0 n place 0 (omega (arith, least-few i)) ∙ zero-add place);
    }

-- what was shuffled from the order 0, 1, .., n-1 on
pub order_drawn :
    (i : AnyInstance) (words words' : Stream) (entries ordered : List ℕ) (n least : ℕ) → ordered ≡ range_with_len 0 n → n ≡ size i
    → least ≡ least_shuffled i → (entries, words') ≡ shuffled least (length ordered - least) words ordered → 1 ≤ n → IsOrder i entries
order_drawn i words words' entries ordered n least begun all is drawn some =
    let whole : ordered ≡ range_with_len 0 (size i) = begun ∙ ap (range_with_len 0) all in
    let long : length ordered ≡ size i = ap (λ (xs : List ℕ). length xs) whole ∙ length-range_with_len 0 (size i) in
    let same : entries ≡ (shuffled_order i words).0 =
    ap (λ (d : List ℕ × Stream). d.0) drawn
    ∙ (ap (λ (m : ℕ). (shuffled least (m - least) words ordered).0) long
    ∙ (ap (λ (xs : List ℕ). (shuffled least (size i - least) words xs).0) whole
    ∙ ap (λ (l : ℕ). (shuffled l (size i - l) words (range_with_len 0 (size i))).0) is)) in
    subst (IsOrder i) (sym same) (shuffled_order-IsOrder i words (omega arith))
