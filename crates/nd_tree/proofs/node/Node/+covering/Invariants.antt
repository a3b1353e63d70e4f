use Rattle.std.specs.Prelude.{ℕ, ◌<◌, get_or, IsFalse}
use Rattle.pls_archive.specs.Reply.{some_weakly_dominates}
use Rattle.nd_tree.specs.Seen.{Seen}
use Rattle.nd_tree.specs.Questions.{in_turn}
use Rattle.nd_tree.proofs.node.Node.+covering.Given as goal

abbrev pub invariant-loop-i : goal.invariant-loop-i
invariant-loop-i l = (j : ℕ) → j < l.i → (d : Seen) → IsFalse (some_weakly_dominates (get_or l.children.items (in_turn l.first j) d).points l.value)
