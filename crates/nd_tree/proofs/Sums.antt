-- Numbers that are added to the first elements of a list, one after the other.
use Rattle.std.proofs.Common.{◌≡◌, ℕ, ◌+◌, ◌<◌, ◌≤◌, ◌≢◌, List, ◌++◌, length, set, slice_index, sym, ◌∙◌, subst, arith, below_more, get_or-set_same, get_or-set_other}
use Rattle.std.proofs.lemmas.List.{get_or_append_left}

-- f i, which is at most m, was added to each element i of the first k
pub record IsAdded (f : ℕ → ℕ) (m : ℕ) (before after : List ℕ) (k : ℕ) : Type 0 where
  pub added : (i : ℕ) → i < k → slice_index after i ≡ slice_index before i + f i
  pub bound : (i : ℕ) → i < k → slice_index after i ≤ slice_index before i + m
  pub others : (i : ℕ) → k ≤ i → slice_index after i ≡ slice_index before i

pub IsAdded-more :
    (f : ℕ → ℕ) (m : ℕ) (before after : List ℕ) (k more : ℕ) → k < length after → more ≡ f k → more ≤ m
    → IsAdded f m before after k → IsAdded f m before (set after k (slice_index after k + more)) (k + 1)
IsAdded-more f m before after k more within is few so_far =
    let was = so_far.others k (omega arith) in
    let here : slice_index (set after k (slice_index after k + more)) k ≡ slice_index after k + more = get_or-set_same after k _ 0 within in
    record {
      added = below_more _ k
          (λ i below. let other : i ≢ k = omega arith in get_or-set_other after k i _ 0 other ∙ so_far.added i below)
          (omega (arith, is));
      bound = below_more _ k
          (λ i below.
          let other : i ≢ k = omega arith in
          let same : slice_index (set after k (slice_index after k + more)) i ≡ slice_index after i = get_or-set_other after k i _ 0 other in
          let before_it = so_far.bound i below in
          omega arith)
          (omega arith);
      others = λ i past. let other : i ≢ k = omega arith in get_or-set_other after k i _ 0 other ∙ so_far.others i (omega arith);
    }

-- what holds of the first k numbers, and of one that is written at k
pub below-written :
    (P : ℕ → ℕ → Type 0) (front rest : List ℕ) (k own : ℕ) → length front ≡ k → k < length (front ++ rest)
    → ((i : ℕ) → i < k → P i (slice_index front i)) → P k own → (i : ℕ) → i < k + 1 → P i (slice_index (set (front ++ rest) k own) i)
below-written P front rest k own long within each here =
    below_more _ k
    (λ i below.
    let other : i ≢ k = omega arith in
    let same : slice_index (set (front ++ rest) k own) i ≡ slice_index front i =
    get_or-set_other (front ++ rest) k i own 0 other ∙ get_or_append_left front rest 0 i (omega arith) in
    subst (P i) (sym same) (each i below))
    (subst (P k) (sym (get_or-set_same (front ++ rest) k own 0 within)) here)
