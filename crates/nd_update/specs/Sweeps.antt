-- The same of what a pass has: its list, the words that it knows, the rows that it took and those that it marked.
use Rattle.std.specs.Prelude.{ℕ, ℤ, List}
use Rattle.era_rows.specs.Known.{pinned_copy, known_words}
use Rattle.era_rows.specs.Passes.{known_of, marked_of, work_of}
use Rattle.era_rows.specs.declared.pass.Pass.{Pass}
use Rattle.era_rows.specs.declared.rows.Rows.{Rows}
use Rattle.era_rows.specs.declared.law.Law.{Ghosts}
use Rattle.pls_archive.specs.declared.call.Entry.{Entry}
use Rattle.nd_rows.specs.Nodes.{Nodes}
use Rattle.nd_update.specs.Left.{AreListed, CanSettle, IsSwept}

module _ {L : Type 0} {G : Ghosts L Entry} (r : Rows L Entry) where
  -- these nodes are still to be looked at
  abbrev pub Lists : Nodes → List ℕ → Pass L Entry G → Type 0
  Lists ns others p = AreListed r.shape (pinned_copy (known_of p)) r.rows ns others (work_of p)

  -- the first of these nodes is to be settled, and those behind it were, of which so many points go
  abbrev pub Settles : List ℤ → Nodes → List ℕ → Pass L Entry G → ℕ → Type 0
  Settles v ns others p removed =
      CanSettle r.rows v r.shape (pinned_copy (known_of p)) ns others (work_of p) (known_words (known_of p)) (known_of p).core.fresh (marked_of p) removed

  -- all were settled
  abbrev pub Sweeps : List ℤ → Nodes → List ℕ → Pass L Entry G → ℕ → Type 0
  Sweeps v ns others p removed =
      IsSwept r.rows v r.shape ns others (work_of p) (known_words (known_of p)) (known_of p).core.fresh (marked_of p) removed
