use Rattle.std.specs.Prelude.{◌≡◌, length, take, IsTrue}
use Rattle.pls_vectors.specs.Box.{encloses}
use Rattle.pls_archive.specs.Lists.{Every}
use Rattle.nd_tree.specs.Split.{value_at}
use Rattle.nd_tree.proofs.leaf.range_of.Given as goal

abbrev pub invariant-loop-k : goal.invariant-loop-k
invariant-loop-k l = Every (λ v. IsTrue (encloses l.range v)) (take l.k l.values) × (length l.range.ideal ≡ length (value_at l.values 0))
