-- What holds of each neighbour of an assignment.
use Rattle.std.proofs.Common.{◌≡◌, ℕ, true, ℤ, List, length, All, refl, arith}
use Rattle.std.proofs.lemmas.List.Elements.{All-map, All-weaker}
use Rattle.pls_vectors.specs.Solution.{Solution, entry, with_entry, swapped}
use Rattle.pls_vectors.proofs.Entries.{words-with_entry}
use Rattle.pls_perms.specs.Assignment.{AssignmentInstance, IsWithinLimits, feasible, point, value, neighbours}
use Rattle.pls_perms.specs.Permutation.{pairs}
use Rattle.pls_perms.proofs.PairsWithin.{IsPairWithin, pairs-within}
use Rattle.pls_perms.proofs.TotalCosts.{feasible-swapped}

words-swapped : (s : Solution) (i j : ℕ) → length s.words ≡ 32 → length (swapped s i j).words ≡ 32
unfolding swapped
words-swapped s i j many = words-with_entry (with_entry s i (entry s j)) j (entry s i) (words-with_entry s i (entry s j) many)

-- what holds of each neighbour of a stored permutation: it is stored and feasible, and it stands with its value
pub record IsNeighbour (k : AssignmentInstance) (q : List ℤ × Solution) : Type 0 where
  pub stored : length q.1.words ≡ 32
  pub feasible : feasible k q.1 ≡ true
  pub value : q.0 ≡ value k q.1

pub neighbours-All :
    (k : AssignmentInstance) (s : Solution) → IsWithinLimits k → length s.words ≡ 32 → feasible k s ≡ true → All (IsNeighbour k) (neighbours k s)
unfolding neighbours
neighbours-All k s limits many holds =
    All-map (IsNeighbour k) (λ (p : ℕ × ℕ). point k (swapped s p.0 p.1)) (pairs 0 k.agents)
    (All-weaker (IsPairWithin 0 k.agents) (λ p. IsNeighbour k (point k (swapped s p.0 p.1)))
    (λ p within.
    let ordered = within.order in
    let below = within.below in
    record {
      stored = words-swapped s p.0 p.1 many;
      feasible = feasible-swapped k limits s p.0 p.1 many (omega arith) below holds;
      value = refl;
    })
    (pairs 0 k.agents) (pairs-within 0 k.agents))
