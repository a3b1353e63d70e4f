-- Nodes that are pending: what stands in the row of the first, and what asking it tells.
use Rattle.std.proofs.Common.{◌≡◌, ℕ, suc, ◌+◌, ◌*◌, ◌/◌, ◌%◌, length-append, ◌<◌, ◌≤◌, ⊎_elim, Bool, true, IsTrue, Option, Some, None, List, [], ◌∷◌, ◌++◌, length, get_or, reverse, refl, sym, ap, ap₂, subst, ◌∙◌, arith, ℤ}
use Rattle.std.specs.Prelude.{if◌then◌else◌}
use Rattle.std.proofs.lemmas.Option.{same_Some}
use Rattle.era_core.specs.Lists.{In}
use Rattle.era_core.specs.Versions.{Copy, look_up}
use Rattle.era_core.proofs.ListFacts.{in_head, in_tail, in_cases, in-append_left}
use Rattle.pls_vectors.specs.Box.{Box}
use Rattle.pls_vectors.specs.Dominance.{weakly_dominates}
use Rattle.nd_rows.specs.declared.question.Question.{Question}
use Rattle.nd_rows.specs.Nodes.{Placed, Nodes, no_nodes, leaf, inner, heads, rows_of, rows_with, points_of, points_with, AreFormed, IsEmptyLeaf, Encloses, is_mixed, necessary}
use Rattle.nd_rows.specs.Layout.{IsLinkRow, IsBoxRow}
use Rattle.nd_rows.specs.Walk.{some_meets, box_told, HasPlaced, BeginAt, Asks, points_below, kids_of, later_of, is_open}
use Rattle.nd_rows.proofs.Corners.{corners_of, box_tells, box_open}

-- the links of the first node, its kind and its box
abbrev pub links_of : Nodes → List ℕ
links_of no_nodes = []
links_of (leaf r b placed later) = rows_with placed
links_of (inner r b kids later) = heads kids

abbrev pub kind_of : Nodes → ℕ
kind_of no_nodes = 0
kind_of (leaf r b placed later) = 0
kind_of (inner r b kids later) = 1

abbrev pub box_of_first : Nodes → Box
box_of_first no_nodes = record { ideal = []; nadir = [] }
box_of_first (leaf r b placed later) = b
box_of_first (inner r b kids later) = b

pub length_rows : (placed : List Placed) → length (rows_with placed) ≡ length placed
length_rows [] = refl
length_rows (p ∷ placed) = ap suc (length_rows placed)

pub length_points : (placed : List Placed) → length (points_with placed) ≡ length placed
length_points [] = refl
length_points (p ∷ placed) = ap suc (length_points placed)

pub first_is : (xs ys : List ℕ) (x y : ℕ) → x ∷ xs ≡ y ∷ ys → x ≡ y
first_is xs ys x y e = ap (λ zs. get_or zs 0 0) e

pub nothing_first : (xs : List ℕ) (x : ℕ) → [] ≡ x ∷ xs → ⊥
nothing_first xs x e = let n : 0 ≡ suc (length xs) = ap length e in omega arith

module _ (objectives : ℕ) (c : Copy) (row : ℕ) where
  pub link_row : (ns : Nodes) → BeginAt objectives c row ns → IsLinkRow c.cells (kind_of ns) row (links_of ns)
  link_row no_nodes at = absurd (nothing_first _ _ at.here)
  link_row (leaf r b placed later) at = subst (λ x. IsLinkRow c.cells 0 x (rows_with placed)) (first_is _ _ r row at.here) at.pending.written.0
  link_row (inner r b kids later) at = subst (λ x. IsLinkRow c.cells 1 x (heads kids)) (first_is _ _ r row at.here) at.pending.written.0

  pub box_row : (ns : Nodes) → BeginAt objectives c row ns → 0 < length (links_of ns) → IsBoxRow objectives c.cells row (box_of_first ns)
  box_row no_nodes at some = absurd (nothing_first _ _ at.here)
  box_row (leaf r b placed later) at some =
      subst (λ x. IsBoxRow objectives c.cells x b) (first_is _ _ r row at.here) (at.pending.written.1 (subst (λ n. 0 < n) (length_rows placed) some))
  box_row (inner r b kids later) at some = subst (λ x. IsBoxRow objectives c.cells x b) (first_is _ _ r row at.here) at.pending.written.1

  -- a node has at most as many links as a row has room for
  pub few_links : (ns : Nodes) → BeginAt objectives c row ns → length (links_of ns) ≤ 39
  few_links no_nodes at = omega arith
  few_links (leaf r b placed later) at =
      subst (λ n. n ≤ 39) (sym (length_rows placed)) (⊎_elim (λ empty. let none = ap length empty.0 in omega arith) (λ formed. let few = formed.1 in omega arith) at.pending.formed)
  few_links (inner r b kids later) at = ⊎_elim (λ empty. absurd empty) (λ formed. formed.2) at.pending.formed

  pub row_among : (ns : Nodes) → BeginAt objectives c row ns → In row c.rows
  row_among no_nodes at = absurd (nothing_first _ _ at.here)
  row_among (leaf r b placed later) at = at.pending.among row (subst (λ x. In x (rows_of (leaf r b placed later))) (first_is _ _ r row at.here) (in_head r _))
  row_among (inner r b kids later) at = at.pending.among row (subst (λ x. In x (rows_of (inner r b kids later))) (first_is _ _ r row at.here) (in_head r _))

  pub row_necessary : (v : List ℤ) (ns : Nodes) → BeginAt objectives c row ns → In row (necessary v ns)
  row_necessary v no_nodes at = absurd (nothing_first _ _ at.here)
  row_necessary v (leaf r b placed later) at = subst (λ x. In x (necessary v (leaf r b placed later))) (first_is _ _ r row at.here) (in_head r _)
  row_necessary v (inner r b kids later) at = subst (λ x. In x (necessary v (inner r b kids later))) (first_is _ _ r row at.here) (in_head r _)

  -- word 0 counts the links and has the kind
  pub first_word : (ns : Nodes) (first : ℕ) → BeginAt objectives c row ns → look_up c.cells row 0 ≡ Some first → first ≡ 4 * length (links_of ns) + kind_of ns
  first_word ns first at there = same_Some _ _ (sym there ∙ (link_row ns at).first)

  -- the points of a leaf
  pub leaf_placed : (r : ℕ) (b : Box) (placed : List Placed) (later : Nodes) → BeginAt objectives c row (leaf r b placed later) → HasPlaced objectives c row placed
  leaf_placed r b placed later at = record {
    linked = (link_row (leaf r b placed later) at).linked;
    points = at.pending.written.2;
    among = λ x here. at.pending.among x (in_tail x r _ (in-append_left x (rows_with placed) (rows_of later) here));
    few = ⊎_elim (λ empty. let none = ap length empty.0 in omega arith) (λ formed. let few = formed.1 in omega arith) at.pending.formed;
  }

  -- and their rows, with its own, are of the copy
  pub placed_among : (placed : List Placed) → In row c.rows → HasPlaced objectives c row placed → (x : ℕ) → In x (row ∷ rows_with placed) → In x c.rows
  placed_among placed here has x is = ⊎_elim (λ e. subst (λ y. In y c.rows) (sym e) here) (has.among x) (in_cases x row (rows_with placed) is)

-- the first of nodes that have points below them has links
pub some_links : (objectives : ℕ) (ns : Nodes) (row : ℕ) → AreFormed objectives ns → heads ns ≡ row ∷ heads (later_of ns) → 0 < length (links_of ns)
some_links objectives no_nodes row formed here = absurd (nothing_first _ _ here)
some_links objectives (leaf r b placed later) row formed here = let one = formed.0 in let n = length_rows placed in omega arith
some_links objectives (inner r b kids later) row formed here = let two = formed.0 in omega arith

-- a node has a point below it
some_points : (objectives : ℕ) (ns : Nodes) → AreFormed objectives ns → 0 < length (heads ns) → 0 < length (points_of ns)
some_points objectives no_nodes formed some = absurd (omega arith)
some_points objectives (leaf r b placed later) formed some =
    let one = formed.0 in let n = length_points placed in let all = length-append (points_with placed) (points_of later) in omega arith
some_points objectives (inner r b kids later) formed some =
    let two = formed.0 in let below = some_points objectives kids formed.3 (omega arith) in let all = length-append (points_of kids) (points_of later) in omega arith

module _ (objectives : ℕ) (c : Copy) (row : ℕ) (v : List ℤ) where
  points_there : (ns : Nodes) → BeginAt objectives c row ns → 0 < length (links_of ns) → 0 < length (points_below ns)
  points_there no_nodes at some = absurd (omega arith)
  points_there (leaf r b placed later) at some = let n = length_points placed in let m = length_rows placed in omega arith
  points_there (inner r b kids later) at some = ⊎_elim (λ empty. absurd empty) (λ formed. some_points objectives kids formed.3 some) at.pending.formed

  boxed_there : (ns : Nodes) → BeginAt objectives c row ns → Encloses (box_of_first ns) (points_below ns)
  boxed_there no_nodes at = absurd (nothing_first _ _ at.here)
  boxed_there (leaf r b placed later) at = at.pending.boxed.0
  boxed_there (inner r b kids later) at = at.pending.boxed.0

  -- what its box answers
  box_asks : (ask : Question) → (ns : Nodes) → BeginAt objectives c row ns → 0 < length (links_of ns) → (answer : Bool)
      → Some answer ≡ box_told ask (box_of_first ns) v → some_meets ask (points_below ns) v ≡ answer
  box_asks ask ns at some answer is = box_tells ask (box_of_first ns) v (points_below ns) (points_there ns at some) (boxed_there ns at) answer (sym is)

  box_opens : (ask : Question) → (ns : Nodes) → BeginAt objectives c row ns → None ≡ box_told ask (box_of_first ns) v → is_open v ns ≡ true
  box_opens ask no_nodes at is = absurd (nothing_first _ _ at.here)
  box_opens ask (leaf r b placed later) at is = box_open ask b v (sym is)
  box_opens ask (inner r b kids later) at is = box_open ask b v (sym is)

  -- what was told of its box, where it has points below it
  module _ (ask : Question) (ns : Nodes) (formed : AreFormed objectives ns) (at : BeginAt objectives c row ns) (told : Option Bool)
      (tells : (b : Box) → IsBoxRow objectives c.cells row b → IsTrue (weakly_dominates b.ideal b.nadir) → told ≡ box_told ask b v) where
    told_first : told ≡ box_told ask (box_of_first ns) v
    told_first =
        let some = some_links objectives ns row formed at.here in
        tells (box_of_first ns) (box_row objectives c row ns at some) (corners_of (box_of_first ns) (points_below ns) (points_there ns at some) (boxed_there ns at))

    pub told_answer : (answer : Bool) → told ≡ Some answer → some_meets ask (points_below ns) v ≡ answer
    told_answer answer is = box_asks ask ns at (some_links objectives ns row formed at.here) answer (sym is ∙ told_first)

    pub told_nothing : told ≡ None → is_open v ns ≡ true
    told_nothing is = box_opens ask ns at (sym is ∙ told_first)

  -- the points of a leaf answer for it
  pub leaf_asks : (ask : Question) → (ns : Nodes) (first : ℕ) → BeginAt objectives c row ns → look_up c.cells row 0 ≡ Some first → first % 4 ≡ 0 → (answer : Bool) (before after : List ℕ)
      → ((placed : List Placed) → HasPlaced objectives c row placed → length placed ≡ first / 4 → answer ≡ some_meets ask (points_with placed) v) → after ≡ before → Asks ask v ns (Some answer) before after
  leaf_asks ask no_nodes first at there kind answer before after tells work = absurd (nothing_first _ _ at.here)
  leaf_asks ask (leaf r b placed later) first at there kind answer before after tells work =
      let n = length_rows placed in let e = first_word objectives c row (leaf r b placed later) first at there in
      (sym (tells placed (leaf_placed objectives c row r b placed later at) (omega arith)), work)
  leaf_asks ask (inner r b kids later) first at there kind answer before after tells work =
      absurd (let e = first_word objectives c row (inner r b kids later) first at there in omega arith)

  -- the children of an inner node are to be asked
  pub inner_asks : (ask : Question) → (ns : Nodes) (first : ℕ) → BeginAt objectives c row ns → look_up c.cells row 0 ≡ Some first → (first % 4 ≡ 0 → ⊥) → is_open v ns ≡ true → (before after : List ℕ)
      → reverse after ≡ links_of ns ++ reverse before → Asks ask v ns None before after
  inner_asks ask no_nodes first at there kind mixed before after work = absurd (nothing_first _ _ at.here)
  inner_asks ask (leaf r b placed later) first at there kind mixed before after work =
      absurd (kind (let e = first_word objectives c row (leaf r b placed later) first at there in omega arith))
  inner_asks ask (inner r b kids later) first at there kind mixed before after work = (refl, mixed, work)

  -- the rows that a leaf links are necessary where its box leaves the question mixed
  pub placed_necessary : (r : ℕ) (b : Box) (placed : List Placed) (later : Nodes) → is_mixed b v ≡ true → BeginAt objectives c row (leaf r b placed later) → (x : ℕ) → In x (row ∷ rows_with placed) → In x (necessary v (leaf r b placed later))
  placed_necessary r b placed later mixed at x here =
      ⊎_elim
      (λ e. subst (λ y. In y (necessary v (leaf r b placed later))) (sym e) (row_necessary objectives c row v (leaf r b placed later) at))
      (λ point. in_tail x r _ (in-append_left x (if is_mixed b v then rows_with placed else []) (necessary v later) (subst (λ t. In x (if t then rows_with placed else [])) (sym mixed) point)))
      (in_cases x row (rows_with placed) here)

-- word 0 is known
pub first_there : (objectives : ℕ) (c : Copy) (row : ℕ) (ns : Nodes) → BeginAt objectives c row ns → (first : ℕ) → ((w : ℕ) → look_up c.cells row 0 ≡ Some w → first ≡ w) → look_up c.cells row 0 ≡ Some first
first_there objectives c row ns at first found = let is = (link_row objectives c row ns at).first in is ∙ ap Some (sym (found _ is))

-- How many links the first node has, by its word 0.
module _ (objectives : ℕ) (c : Copy) (row : ℕ) (ns : Nodes) (first : ℕ) (at : BeginAt objectives c row ns) (there : look_up c.cells row 0 ≡ Some first) where
  low_kind : (ns : Nodes) → kind_of ns ≤ 1
  low_kind no_nodes = omega arith
  low_kind (leaf r b placed later) = omega arith
  low_kind (inner r b kids later) = omega arith

  pub links_count : length (links_of ns) ≡ first / 4
  links_count = let e = first_word objectives c row ns first at there in let low = low_kind ns in omega arith

  -- it has none where it is a leaf without points, alone
  pub linked_formed : (first / 4 ≡ 0 → ⊥) → AreFormed objectives ns
  linked_formed linked = ⊎_elim (λ empty. absurd (linked (sym links_count ∙ unlinked ns empty))) (λ formed. formed) at.pending.formed
    where
      unlinked : (ns : Nodes) → IsEmptyLeaf ns → length (links_of ns) ≡ 0
      unlinked no_nodes empty = absurd empty
      unlinked (leaf r b placed later) empty = ap (λ (ps : List Placed). length (rows_with ps)) empty.0
      unlinked (inner r b kids later) empty = absurd empty

  pub unlinked_points : first / 4 ≡ 0 → points_of ns ≡ []
  unlinked_points none =
      ⊎_elim (empty_points ns) (λ formed. absurd (let some = some_links objectives ns row formed at.here in let n = links_count in omega arith)) at.pending.formed
    where
      empty_points : (ns : Nodes) → IsEmptyLeaf ns → points_of ns ≡ []
      empty_points no_nodes empty = refl
      empty_points (leaf r b placed later) empty = ap₂ (λ ps ns. points_with ps ++ points_of ns) empty.0 empty.1
      empty_points (inner r b kids later) empty = absurd empty

  pub count_small : first / 4 ≤ 39
  count_small = let e = links_count in let few = few_links objectives c row ns at in omega arith

module _ (objectives : ℕ) (c : Copy) (row : ℕ) where
  -- a node of the kind of leaves links points
  pub leaf_there : (ns : Nodes) (first : ℕ) → BeginAt objectives c row ns → look_up c.cells row 0 ≡ Some first → first % 4 ≡ 0 → (placed : List Placed) × HasPlaced objectives c row placed × (length placed ≡ first / 4)
  leaf_there no_nodes first at there kind = absurd (nothing_first _ _ at.here)
  leaf_there (leaf r b placed later) first at there kind =
      (placed, leaf_placed objectives c row r b placed later at, (let n = length_rows placed in let e = links_count objectives c row (leaf r b placed later) first at there in omega arith))
  leaf_there (inner r b kids later) first at there kind = absurd (let e = first_word objectives c row (inner r b kids later) first at there in omega arith)

  -- and one of another kind links its children
  pub inner_links : (ns : Nodes) (first : ℕ) → BeginAt objectives c row ns → look_up c.cells row 0 ≡ Some first → (first % 4 ≡ 0 → ⊥) → heads (kids_of ns) ≡ links_of ns
  inner_links no_nodes first at there other = refl
  inner_links (leaf r b placed later) first at there other = absurd (other (let e = first_word objectives c row (leaf r b placed later) first at there in omega arith))
  inner_links (inner r b kids later) first at there other = refl
