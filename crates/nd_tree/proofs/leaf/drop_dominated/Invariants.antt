use Rattle.std.specs.Prelude.{◌≡◌, ◌≤◌, ◌-◌, not, length, vec_len, vec_capacity}
use Rattle.pls_vectors.specs.Dominance.{weakly_dominates}
use Rattle.pls_vectors.specs.Archive.{dominates}
use Rattle.pls_archive.specs.declared.point.Point.{Point}
use Rattle.nd_tree.specs.Seen.{paired}
use Rattle.nd_tree.proofs.Filtered.{IsFilteredTo}
use Rattle.nd_tree.proofs.leaf.drop_dominated.Given as goal

abbrev pub invariant-loop-k : goal.invariant-loop-k
invariant-loop-k l =
    IsFilteredTo (λ (q : Point). not (dominates weakly_dominates l.value q.value)) (paired l.fn.values.items l.fn.sols.items) (paired l.values.items l.sols.items) l.k
    × (length l.values.items ≡ length l.sols.items)
    × (vec_capacity l.values ≡ vec_capacity l.fn.values)
    × (vec_capacity l.sols ≡ vec_capacity l.fn.sols)
    × (vec_len l.values ≤ vec_len l.fn.values)

abbrev pub decreases-loop-k : goal.decreases-loop-k
decreases-loop-k l = length l.values.items - l.k
