-- The row of a point that answers a question, from the leaf that links it up to the root.
use Rattle.std.proofs.Common.{◌≡◌, ℕ, ◌/◌, ◌%◌, inl, inr, true, Option, Some, None, List, length, sym, subst, ◌∙◌, arith, ℤ}
use Rattle.std.specs.Prelude.{IfSome}
use Rattle.std.specs.Option.{option_or}
use Rattle.era_core.specs.Lists.{In}
use Rattle.era_core.specs.Versions.{Copy, look_up}
use Rattle.era_core.proofs.ListFacts.{in_tail}
use Rattle.pls_archive.specs.declared.point.Point.{Point}
use Rattle.pls_archive.specs.Lists as lists
use Rattle.pls_archive.proofs.Every.{In-left}
use Rattle.nd_rows.specs.Nodes.{Placed, Nodes, no_nodes, leaf, inner, rows_with, points_with, points_of, necessary}
use Rattle.nd_rows.specs.Walk.{HasPlaced, BeginAt, IsRowOf, Finds, is_open}
use Rattle.nd_rows.proofs.Pending.{nothing_first, first_word, leaf_placed, placed_necessary, length_rows, links_count}

module _ (objectives : ℕ) (c : Copy) where
  module _ (few rows : List ℕ) (some_points points : List Point) (among_rows : (x : ℕ) → In x few → In x rows) (among_points : (p : Point) → lists.In p some_points → lists.In p points) where
    row_among_more : (row : ℕ) → IsRowOf objectives c few some_points row → IsRowOf objectives c rows points row
    row_among_more row is = record { point = is.point; has = is.has; needed = among_rows row is.needed; among = among_points is.point is.among }

    -- among more rows and points
    pub finds_among : (before after : Option ℕ) → Finds objectives c few some_points before after → Finds objectives c rows points before after
    finds_among before after (inl same) = inl same
    finds_among before after (inr found) = inr (found.0, found.1, row_among_more found.0 found.2)

    if_among : (point : Option ℕ) → IfSome point (IsRowOf objectives c few some_points) → IfSome point (IsRowOf objectives c rows points)
    if_among None found = found
    if_among (Some row) found = row_among_more row found

  module _ (rows : List ℕ) (points : List Point) where
    -- once, and then once more
    pub finds_both : (before mid after : Option ℕ) → Finds objectives c rows points before mid → Finds objectives c rows points mid after → Finds objectives c rows points before after
    finds_both before mid after one (inr found) = inr found
    finds_both before mid after (inl first) (inl second) = inl (second ∙ first)
    finds_both before mid after (inr found) (inl second) = inr (found.0, second ∙ found.1, found.2)

    -- a point of a leaf, where there is one
    pub finds_or : (point before after : Option ℕ) → IfSome point (IsRowOf objectives c rows points) → after ≡ option_or point before → Finds objectives c rows points before after
    finds_or None before after found is = inl is
    finds_or (Some row) before after found is = inr (row, is, found)

    -- where nothing was found before
    pub found_first : (after : Option ℕ) → Finds objectives c rows points None after → IfSome after (IsRowOf objectives c rows points)
    found_first after (inl same) = subst (λ (o : Option ℕ). IfSome o (IsRowOf objectives c rows points)) (sym same) tt
    found_first after (inr found) = subst (λ (o : Option ℕ). IfSome o (IsRowOf objectives c rows points)) (sym found.1) found.2

  -- the points of a leaf are points below it, and their rows are necessary where its box leaves the question open
  pub leaf_found : (row : ℕ) (v : List ℤ) (ns : Nodes) (first : ℕ) → BeginAt objectives c row ns → look_up c.cells row 0 ≡ Some first → first % 4 ≡ 0 → is_open v ns ≡ true → (point : Option ℕ)
      → ((placed : List Placed) → HasPlaced objectives c row placed → length placed ≡ first / 4 → IfSome point (IsRowOf objectives c (rows_with placed) (points_with placed)))
      → IfSome point (IsRowOf objectives c (necessary v ns) (points_of ns))
  leaf_found row v no_nodes first at there kind mixed point found = absurd (nothing_first _ _ at.here)
  leaf_found row v (leaf r b placed later) first at there kind mixed point found =
      if_among (rows_with placed) (necessary v (leaf r b placed later)) (points_with placed) (points_of (leaf r b placed later))
      (λ x here. placed_necessary objectives c row v r b placed later mixed at x (in_tail x row (rows_with placed) here))
      (λ p here. In-left p (points_with placed) (points_of later) here)
      point (found placed (leaf_placed objectives c row r b placed later at) (let n = length_rows placed in let e = links_count objectives c row (leaf r b placed later) first at there in omega arith))
  leaf_found row v (inner r b kids later) first at there kind mixed point found = absurd (let e = first_word objectives c row (inner r b kids later) first at there in omega arith)
