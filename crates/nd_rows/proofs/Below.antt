-- What a pass looks at below a node.
use Rattle.std.proofs.Common.{◌≡◌, ℕ, ◌%◌, ◌/◌, true, Option, Some, List, [], ◌∷◌, length, subst, arith, ℤ}
use Rattle.era_core.specs.Versions.{Copy, look_up}
use Rattle.era_rows.specs.Known.{pinned_copy}
use Rattle.era_rows.specs.Passes.{known_of}
use Rattle.era_rows.specs.declared.pass.Pass.{Pass}
use Rattle.era_rows.specs.declared.rows.Rows.{Rows}
use Rattle.era_rows.specs.declared.law.Law.{Ghosts}
use Rattle.nd_rows.specs.Nodes.{Placed, Nodes, no_nodes, leaf, inner, rows_with, points_of, necessary}
use Rattle.nd_rows.specs.Reads.{LooksIn}
use Rattle.nd_rows.specs.Walk.{HasPlaced, BeginAt, Finds, is_open}
use Rattle.nd_rows.proofs.Looks.{looks_more, looks_among, looks_at, same_copy, stays}
use Rattle.nd_rows.proofs.Pending.{nothing_first, row_necessary, placed_necessary, leaf_placed, first_word, length_rows, links_count}

module _ {L E : Type 0} {G : Ghosts L E} (r : Rows L E) (objectives : ℕ) (v : List ℤ) (p q s : Pass L E G) (row : ℕ) where
  -- a look at the row of a node is necessary
  pub looks_row : (ns : Nodes) → BeginAt objectives (pinned_copy (known_of p)) row ns → LooksIn r (row ∷ []) q s → LooksIn r (necessary v ns) q s
  looks_row ns at looks = looks_at r (necessary v ns) q s row (row_necessary objectives (pinned_copy (known_of p)) row v ns at) looks

  -- and so are looks at the points of a leaf whose box leaves the question open
  pub looks_leaf : (ns : Nodes) (first : ℕ) → BeginAt objectives (pinned_copy (known_of p)) row ns → look_up (pinned_copy (known_of p)).cells row 0 ≡ Some first → first % 4 ≡ 0 → is_open v ns ≡ true
      → ((placed : List Placed) → HasPlaced objectives (pinned_copy (known_of p)) row placed → length placed ≡ first / 4 → LooksIn r (row ∷ rows_with placed) q s) → LooksIn r (necessary v ns) q s
  looks_leaf no_nodes first at there kind is looks = absurd (nothing_first _ _ at.here)
  looks_leaf (leaf r' b placed later) first at there kind is looks =
      let c = pinned_copy (known_of p) in
      looks_among r (necessary v (leaf r' b placed later)) (row ∷ rows_with placed) q s (placed_necessary objectives c row v r' b placed later is at)
      (looks placed (leaf_placed objectives c row r' b placed later at) (let n = length_rows placed in let e = links_count objectives c row (leaf r' b placed later) first at there in omega arith))
  looks_leaf (inner r' b kids later) first at there kind is looks = absurd (let e = first_word objectives (pinned_copy (known_of p)) row (inner r' b kids later) first at there in omega arith)

-- the box of a node was read, and then its word 0
module _ {L E : Type 0} {G : Ghosts L E} (r : Rows L E) (v : List ℤ) (p q s : Pass L E G) (row : ℕ) (ns : Nodes) (at : BeginAt (length v) (pinned_copy (known_of p)) row ns)
    (box : LooksIn r (row ∷ []) p q) (first : LooksIn r (row ∷ []) q s) where
  both : LooksIn r (row ∷ []) p s
  both = looks_more r (row ∷ []) p q s box first

  pub begin_still : BeginAt (length v) (pinned_copy (known_of s)) row ns
  begin_still = stays r (λ (c : Copy). BeginAt (length v) c row ns) (row ∷ []) p s both at

  -- and then what is below it
  pub looks_below : (t : Pass L E G) → LooksIn r (necessary v ns) s t → LooksIn r (necessary v ns) p t
  looks_below t below = looks_more r (necessary v ns) p s t (looks_row r (length v) v p p s row ns at both) below

  pub finds_below : (before after : Option ℕ) → Finds (length v) (pinned_copy (known_of s)) (necessary v ns) (points_of ns) before after
      → Finds (length v) (pinned_copy (known_of p)) (necessary v ns) (points_of ns) before after
  finds_below before after finds = subst (λ (c : Copy). Finds (length v) c (necessary v ns) (points_of ns) before after) (same_copy r (row ∷ []) p s both) finds
