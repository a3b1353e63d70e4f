use Rattle.std.proofs.Common.{ℕ, ◌<◌, [], length}
use Rattle.era_rows.specs.Passes.{known_of}
use Rattle.nd_rows.specs.Nodes.{Nodes, heads, AreFormed}
use Rattle.nd_update.specs.Building.{Does}
use Rattle.nd_update.specs.Needed.{ReadsOnly, opened}
use Rattle.nd_update.specs.Left.{left, entries}
use Rattle.nd_update.specs.Sweeps.{Lists}
use Rattle.nd_update.proofs.removes.list_nodes.Given as goal

-- what is left to be looked at stands behind the words of the others
abbrev pub invariant-loop-k : goal.invariant-loop-k
invariant-loop-k l =
    Does l.rows [] [] [] l.fn.pass l.pass
    × ((t : Nodes) → AreFormed l.rows.shape t → Lists l.rows t [] l.fn.pass → Lists l.rows (left l.value l.k t) (entries l.value l.k t) l.pass × ((j : ℕ) → j < l.k → 0 < length (heads (left l.value j t)))
    × ReadsOnly (opened l.value t) (known_of l.fn.pass) (known_of l.pass))
