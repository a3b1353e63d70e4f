-- Total costs of permutations: how large they are, and how an exchange of two entries changes them.
use Rattle.std.proofs.Common.{◌≡◌, inl, inr, ℕ, ◌+◌, ◌*◌, ◌<◌, ◌≤◌, ◌==◌, ◌&&◌, pos, neg_ℤ, true, List, [], ◌∷◌, length, map, slice_index, refl, ap, ◌∙◌, arith}
use Rattle.std.specs.List.{range_with_len}
use Rattle.std.proofs.Math.Nat.{mul-le-mul_right}
use Rattle.std.proofs.lemmas.Bool.{cases_lt, and_parts, eqb-true}
use Rattle.std.proofs.lemmas.List.{get_or_past, length-map}
use Rattle.std.proofs.lemmas.List.FromFn.{length-map-range_with_len}
use Rattle.std.proofs.lemmas.List.Elements.{All-get_or}
use Rattle.pls_vectors.specs.Solution.{Solution, entry, entries, swapped}
use Rattle.pls_vectors.proofs.Ranges.{sum_by-range_le, map-range_same}
use Rattle.pls_vectors.proofs.Rearranged.{exchange-first, exchange-second, exchange-other, entry-swapped}
use Rattle.pls_perms.specs.Assignment.{AssignmentInstance, IsWithinLimits, cost, total_cost, value, feasible, point, neighbours}
use Rattle.pls_perms.specs.AssignmentWalk.{left}
use Rattle.pls_perms.specs.Permutation.{no_other_entry, are_distinct_below, is_permutation, pairs}
use Rattle.pls_perms.specs.Walk.{pairs_after}
use Rattle.pls_perms.specs.declared.pair.Pair.{Pair}
use Rattle.pls_perms.specs.declared.walk.Walk.{Walk}
use Rattle.pls_perms.proofs.Pairs.{length-pairs}
use Rattle.pls_perms.proofs.Permutations.{IsPermutationOf-from, is_permutation-swapped}
use Rattle.pls_perms.proofs.TwoPlaces.{sum-two}

module _ (k : AssignmentInstance) (limits : IsWithinLimits k) where
  pub cost-le : (matrix row column : ℕ) → cost k matrix row column ≤ 1000000
  cost-le matrix row column =
      let i : ℕ = (matrix * k.agents + row) * k.agents + column in
      elim (cases_lt i (length k.costs)) [
        | inl below ↦ All-get_or (λ x. x ≤ 1000000) k.costs i 0 below limits.small_costs
        | inr past ↦ (let none : slice_index k.costs i ≡ 0 = get_or_past k.costs i 0 past in omega arith)
      ]

  -- the matrices that there are not cost nothing
  pub cost-none : (matrix row column : ℕ) → k.objectives ≤ matrix → cost k matrix row column ≡ 0
  cost-none matrix row column past =
      let rows = mul-le-mul_right k.agents past in
      let more : k.objectives * k.agents ≤ matrix * k.agents + row = omega arith in
      let places = mul-le-mul_right k.agents more in
      let all = limits.matrices in
      get_or_past k.costs ((matrix * k.agents + row) * k.agents + column) 0 (omega arith)

  pub total_cost-le : (s : Solution) (matrix : ℕ) → total_cost k s matrix ≤ 256000000
  unfolding total_cost
  total_cost-le s matrix =
      let most = sum_by-range_le (λ i. cost k matrix i (entry s i)) k.agents 1000000 (λ i below. cost-le matrix i (entry s i)) in
      let few = limits.few_agents in
      omega arith

  pub total_cost-none : (s : Solution) (matrix : ℕ) → k.objectives ≤ matrix → total_cost k s matrix ≡ 0
  unfolding total_cost
  total_cost-none s matrix past =
      let most = sum_by-range_le (λ i. cost k matrix i (entry s i)) k.agents 0 (λ i below. (let none = cost-none matrix i (entry s i) past in omega arith)) in
      omega arith

  pub feasible-swapped :
      (s : Solution) (i j : ℕ) → length s.words ≡ 32 → i < k.agents → j < k.agents → feasible k s ≡ true
      → feasible k (swapped s i j) ≡ true
  unfolding feasible
  feasible-swapped s i j many i_in j_in h = is_permutation-swapped k.agents s i j limits.few_agents many i_in j_in h

  -- an exchange of two entries changes two costs of each matrix
  pub total_cost-swapped :
      (s : Solution) (i j matrix : ℕ) → length s.words ≡ 32 → i < j → j < k.agents
      → total_cost k (swapped s i j) matrix + (cost k matrix i (entry s i) + cost k matrix j (entry s j))
      ≡ total_cost k s matrix + (cost k matrix i (entry s j) + cost k matrix j (entry s i))
  unfolding total_cost
  total_cost-swapped s i j matrix many less j_in =
      let few = limits.few_agents in
      let at = λ (m : ℕ). entry-swapped s i j m many (omega arith) (omega arith) in
      let both = sum-two (λ m. cost k matrix m (entry s m)) (λ m. cost k matrix m (entry (swapped s i j) m)) k.agents i j less j_in
      (λ m below first second. ap (λ e. cost k matrix m e) (at m ∙ ap (λ p. entry s p) (exchange-other i j m first second))) in
      let first : cost k matrix i (entry (swapped s i j) i) ≡ cost k matrix i (entry s j) =
      ap (λ e. cost k matrix i e) (at i ∙ ap (λ p. entry s p) (exchange-first i j i refl)) in
      let second : cost k matrix j (entry (swapped s i j) j) ≡ cost k matrix j (entry s i) =
      ap (λ e. cost k matrix j e) (at j ∙ ap (λ p. entry s p) (exchange-second i j j refl)) in
      omega arith

-- a feasible solution has the instance's length
pub feasible-len : (k : AssignmentInstance) (s : Solution) → feasible k s ≡ true → s.len ≡ k.agents
unfolding feasible is_permutation
feasible-len k s h =
    eqb-true _ _ (and_parts (s.len == k.agents) (no_other_entry k.agents s) (and_parts ((s.len == k.agents) && no_other_entry k.agents s) (are_distinct_below k.agents (entries s)) h).0).0

-- its entries are columns
pub feasible-column :
    (k : AssignmentInstance) (s : Solution) (i : ℕ) → k.agents ≤ 256 → feasible k s ≡ true → i < k.agents → entry s i < k.agents
unfolding feasible
feasible-column k s i few h below = (IsPermutationOf-from k.agents s few h).below i below

-- a value has a part for each objective
pub length-value : (k : AssignmentInstance) (s : Solution) → length (value k s) ≡ k.objectives
unfolding value
length-value k s = length-map-range_with_len _ 0 k.objectives

pub value-from_sums :
    (k : AssignmentInstance) (s : Solution) (sums : List ℕ)
    → ((matrix : ℕ) → matrix < k.objectives → slice_index sums matrix ≡ total_cost k s matrix)
    → map (λ matrix. neg_ℤ (pos (slice_index sums matrix))) (range_with_len 0 k.objectives) ≡ value k s
unfolding value
value-from_sums k s sums is = map-range_same _ _ k.objectives (λ matrix at. ap (λ x. neg_ℤ (pos x)) (is matrix at))

-- a step of a walk
pub left-step :
    (k : AssignmentInstance) (w : Walk) (p : Pair) → pairs_after k.agents w.pair ≡ (p.first, p.second) ∷ pairs_after k.agents p
    → left k w ≡ point k (swapped w.start p.first p.second) ∷ left k (record w { pair = p })
unfolding left
left-step k w p step = ap (λ (ps : List (ℕ × ℕ)). map (λ q. point k (swapped w.start q.0 q.1)) ps) step

pub left-end : (k : AssignmentInstance) (w : Walk) → pairs_after k.agents w.pair ≡ [] → left k w ≡ []
unfolding left
left-end k w none = ap (λ (ps : List (ℕ × ℕ)). map (λ q. point k (swapped w.start q.0 q.1)) ps) none

pub left-begin :
    (k : AssignmentInstance) (w : Walk) (s : Solution) → w.start ≡ s → pairs_after k.agents w.pair ≡ pairs 0 k.agents → left k w ≡ neighbours k s
unfolding left neighbours
left-begin k w s start all =
    ap (λ (ps : List (ℕ × ℕ)). map (λ q. point k (swapped w.start q.0 q.1)) ps) all
    ∙ ap (λ (t : Solution). map (λ q. point k (swapped t q.0 q.1)) (pairs 0 k.agents)) start

pub length-neighbours : (k : AssignmentInstance) (s : Solution) → k.agents ≤ 256 → length (neighbours k s) ≤ 32640
unfolding neighbours
length-neighbours k s few =
    let many = length-pairs 255 0 k.agents (omega arith) (omega arith) in
    let same = length-map (pairs 0 k.agents) (λ q. point k (swapped s q.0 q.1)) in
    omega arith
