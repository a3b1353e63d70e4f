-- The points of one node after another are gathered.
use Rattle.std.proofs.Common.{◌≡◌, ℕ, ◌+◌, ◌/◌, ◌%◌, Some, List, ◌∷◌, ◌++◌, length, reverse, refl, sym, ap, ◌∙◌, append_assoc, arith}
use Rattle.std.proofs.lemmas.List.{append-nil}
use Rattle.era_core.specs.Versions.{Copy, look_up}
use Rattle.pls_archive.specs.declared.point.Point.{Point}
use Rattle.nd_rows.specs.Nodes.{Placed, Nodes, no_nodes, leaf, inner, points_of, points_with, followed_by}
use Rattle.nd_rows.specs.Walk.{HasPlaced, BeginAt, AreOnList, own_points, Gathers, Gathered, kids_of, later_of}
use Rattle.nd_rows.proofs.Following.{points-followed}
use Rattle.nd_rows.proofs.Left.{left_first, left_none, left_kids}
use Rattle.nd_rows.proofs.Pending.{nothing_first, leaf_placed, links_of, links_count, length_rows, first_word}

-- the points of nodes are those of the first itself, then those of its children, then those of the others
points_own : (ns : Nodes) → points_of ns ≡ own_points ns ++ points_of (followed_by (kids_of ns) (later_of ns))
points_own no_nodes = refl
points_own (leaf r b placed later) = refl
points_own (inner r b kids later) = sym (points-followed kids later)

module _ (objectives : ℕ) (c : Copy) (row : ℕ) where
  -- a leaf gives its points
  pub leaf_gathers : (ns : Nodes) (first : ℕ) → BeginAt objectives c row ns → look_up c.cells row 0 ≡ Some first → first % 4 ≡ 0 → (before after : List ℕ) (points more : List Point)
      → ((placed : List Placed) → HasPlaced objectives c row placed → length placed ≡ first / 4 → more ≡ points ++ points_with placed) → after ≡ before → Gathers ns before after points more
  leaf_gathers no_nodes first at there kind before after points more gives work = absurd (nothing_first _ _ at.here)
  leaf_gathers (leaf r b placed later) first at there kind before after points more gives work =
      let n = length_rows placed in let e = links_count objectives c row (leaf r b placed later) first at there in
      record { work = ap reverse work; gathered = gives placed (leaf_placed objectives c row r b placed later at) (omega arith) }
  leaf_gathers (inner r b kids later) first at there kind before after points more gives work =
      absurd (let e = first_word objectives c row (inner r b kids later) first at there in omega arith)

  -- and an inner node its children
  pub inner_gathers : (ns : Nodes) (first : ℕ) → BeginAt objectives c row ns → look_up c.cells row 0 ≡ Some first → (first % 4 ≡ 0 → ⊥) → (before after : List ℕ) (points : List Point)
      → reverse after ≡ links_of ns ++ reverse before → Gathers ns before after points points
  inner_gathers no_nodes first at there kind before after points work = absurd (nothing_first _ _ at.here)
  inner_gathers (leaf r b placed later) first at there kind before after points work =
      absurd (kind (let e = first_word objectives c row (leaf r b placed later) first at there in omega arith))
  inner_gathers (inner r b kids later) first at there kind before after points work = record { work = work; gathered = sym (append-nil points) }

module _ (objectives : ℕ) (c : Copy) (ns : Nodes) where
  -- at the start
  pub gathered_none : (rows : ℕ) (work : List ℕ) (points : List Point) → AreOnList objectives c rows work ns → Gathered objectives c ns (points ++ points_of ns) 0 work points
  gathered_none rows work points is = record { left = ns; are_left = left_first objectives c rows work ns is; gathered = refl }

  module _ (all : List Point) (k : ℕ) (work : List ℕ) (points : List Point) (so_far : Gathered objectives c ns all k work points) where
    -- nothing is left
    pub gathered_all : length work ≡ 0 → points ≡ all
    gathered_all none =
        sym (append-nil points) ∙ ap (λ ns. points ++ points_of ns) (sym (left_none objectives c ns k work so_far.left so_far.are_left none)) ∙ so_far.gathered

    -- one more node has given its points
    pub gathered_node : (row : ℕ) (rest after : List ℕ) (more : List Point) → reverse work ≡ row ∷ reverse rest → Gathers so_far.left rest after points more → Gathered objectives c ns all (k + 1) after more
    gathered_node row rest after more top gives =
        let next = followed_by (kids_of so_far.left) (later_of so_far.left) in
        record {
          left = next;
          are_left = left_kids objectives c ns k work so_far.left so_far.are_left row rest top after gives.work;
          gathered = ap (λ ps. ps ++ points_of next) gives.gathered ∙ append_assoc points (own_points so_far.left) (points_of next)
              ∙ ap (λ ps. points ++ ps) (sym (points_own so_far.left)) ∙ so_far.gathered;
        }
