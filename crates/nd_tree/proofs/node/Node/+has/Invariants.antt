use Rattle.std.specs.Prelude.{ℕ, ◌<◌, get_or, IsFalse}
use Rattle.pls_archive.specs.Reply.{has_value}
use Rattle.nd_tree.specs.Seen.{Seen}
use Rattle.nd_tree.proofs.node.Node.+has.Given as goal

abbrev pub invariant-loop-k : goal.invariant-loop-k
invariant-loop-k l = (j : ℕ) → j < l.k → (d : Seen) → IsFalse (has_value (get_or l.children.items j d).points l.value)
