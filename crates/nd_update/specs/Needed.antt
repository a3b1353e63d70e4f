-- The rows of the pinned tree that an update by a value needs, and that it reads no others.
use Rattle.std.specs.Prelude.{ℕ, zero, suc, ◌⊎◌, ◌||◌, Bool, true, false, ℤ, List, [], ◌∷◌, ◌++◌, if◌then◌else◌}
use Rattle.era_core.specs.Lists.{In}
use Rattle.era_rows.specs.Known.{Known, pinned_copy}
use Rattle.pls_vectors.specs.Box.{decision}
use Rattle.pls_vectors.specs.Dominance.{weakly_dominates}
use Rattle.pls_vectors.specs.declared.range.Decision.{Decision}
use Rattle.pls_vectors.specs.declared.range.Decision.TheVariants.{AllCover, CoversAll, Apart, Mixed}
use Rattle.nd_rows.specs.Nodes.{Nodes, no_nodes, leaf, inner, heads, rows_of, rows_with, is_mixed}
use Rattle.nd_update.specs.Counted.{WasRead}
use Rattle.nd_update.specs.Insertion.{place_among}
use Rattle.nd_update.specs.Removal.{without_dominated}

-- of the rows of the pinned tree, the pass found between two moments words of these alone
abbrev pub ReadsOnly : List ℕ → Known → Known → Type 0
ReadsOnly rows before after = (x : ℕ) → In x (pinned_copy before).rows → WasRead x after → WasRead x before ⊎ In x rows

-- the value weakly dominates all that is in the box
abbrev pub all_go : Decision → Bool
all_go AllCover = false
all_go CoversAll = true
all_go Apart = false
all_go Mixed = false

module _ (v : List ℤ) where
  -- the rows of the nodes; all rows below one whose box tells that all its points go; and what is needed below one whose box leaves it
  -- open which of them weakly dominate the value, or are weakly dominated by it
  abbrev pub needed_below : Nodes → List ℕ
  needed_below no_nodes = []
  needed_below (leaf r b placed later) = r ∷ ((if is_mixed b v || all_go (decision b v) then rows_with placed else []) ++ needed_below later)
  needed_below (inner r b kids later) =
      r ∷ ((if all_go (decision b v) then rows_of kids else (if is_mixed b v then needed_below kids else [])) ++ needed_below later)

  -- the same by the nadir alone: points below may go where the value weakly dominates it
  abbrev pub opened : Nodes → List ℕ
  opened no_nodes = []
  opened (leaf r b placed later) = r ∷ ((if weakly_dominates v b.nadir then rows_with placed else []) ++ opened later)
  opened (inner r b kids later) = r ∷ ((if weakly_dominates v b.nadir then opened kids else []) ++ opened later)

  -- the rows on the way of the value down to a leaf, from the node at this place on, and all rows that they link
  abbrev pub on_way : Nodes → ℕ → List ℕ
  on_way no_nodes k = []
  on_way (leaf r b placed later) zero = r ∷ rows_with placed
  on_way (leaf r b placed later) (suc k) = on_way later k
  on_way (inner r b kids later) zero = r ∷ (heads kids ++ on_way kids (place_among v kids))
  on_way (inner r b kids later) (suc k) = on_way later k

  -- what an update needs: what a question and a removal need, and the way in the tree without the points that go, in which `new` stands
  -- for each row that is still to be written
  abbrev pub needed : ℕ → Nodes → List ℕ
  needed new t = needed_below t ++ on_way (without_dominated new v t) 0
