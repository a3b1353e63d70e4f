-- How many rows a tree has at most, by its points.
use Rattle.std.proofs.Common.{◌≡◌, ℕ, ◌+◌, ◌*◌, ◌≤◌, ⊎_elim, [], length, ap, ◌∙◌, arith, length-append}
use Rattle.std.proofs.lemmas.List.{length-map}
use Rattle.era_core.specs.Versions.{Copy}
use Rattle.nd_rows.specs.Layout.{IsTreeOf}
use Rattle.nd_rows.specs.Nodes.{Placed, Nodes, no_nodes, leaf, inner, heads, rows_of, rows_with, points_of, points_with, AreFormed, IsEmptyLeaf}

-- each leaf has a point, and there are fewer inner nodes than leaves
few_rows : (d : ℕ) (ns : Nodes) → AreFormed d ns → length (rows_of ns) + length (heads ns) ≤ 3 * length (points_of ns)
few_rows d no_nodes formed = omega arith
few_rows d (leaf r b placed later) formed =
    let rest = few_rows d later formed.2 in
    let some = formed.0 in
    let rows = length-append (rows_with placed) (rows_of later) in
    let points = length-append (points_with placed) (points_of later) in
    let mine = length-map placed (λ (p : Placed). p.row) in
    let theirs = length-map placed (λ (p : Placed). p.point) in
    omega (arith, rest, some, rows, points, mine, theirs)
few_rows d (inner r b kids later) formed =
    let rest = few_rows d later formed.4 in
    let below = few_rows d kids formed.3 in
    let some = formed.0 in
    let rows = length-append (rows_of kids) (rows_of later) in
    let points = length-append (points_of kids) (points_of later) in
    omega (arith, rest, below, some, rows, points)

few_empty : (t : Nodes) → IsEmptyLeaf t → length (rows_of t) ≤ 1
few_empty no_nodes empty = absurd empty
few_empty (leaf r b placed later) empty =
    let same : length (rows_of (leaf r b placed later)) ≡ length (rows_of (leaf r b [] no_nodes)) =
    ap (λ ps. length (rows_of (leaf r b ps later))) empty.0 ∙ ap (λ ns. length (rows_of (leaf r b [] ns))) empty.1 in
    omega (arith, same)
few_empty (inner r b kids later) empty = absurd empty

pub tree_rows : (d : ℕ) (c : Copy) (t : Nodes) → IsTreeOf d c t → length c.rows ≤ 3 * length (points_of t) + 1
tree_rows d c t tree =
    let all = ap length tree.rows_are in
    ⊎_elim (λ empty. (let one = few_empty t empty in omega (arith, all, one))) (λ formed. (let few = few_rows d t formed in omega (arith, all, few))) tree.formed
