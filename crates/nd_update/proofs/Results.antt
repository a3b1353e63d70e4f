-- What is left of nodes side by side, node by node, and of nodes whose box tells it.
use Rattle.std.proofs.Common.{◌≡◌, ℕ, suc, Bool, true, false, nat_lt, if◌then◌else◌, List, [], ◌∷◌, length, map, refl, sym, ap, ap₂, ◌∙◌, arith, append-nil, ℤ}
use Rattle.std.specs.Prelude.{◌||◌}
use Rattle.std.specs.List.{list_any}
use Rattle.std.proofs.lemmas.List.Folds.{list_any-append}
use Rattle.pls_archive.specs.declared.point.Point.{Point}
use Rattle.pls_archive.specs.Lists.{total, how_many, one_if}
use Rattle.pls_vectors.specs.Box.{Box}
use Rattle.pls_vectors.specs.Dominance.{weakly_dominates}
use Rattle.pls_archive.proofs.Every.{Every-append, total-append}
use Rattle.nd_rows.specs.Nodes.{Placed, Nodes, no_nodes, leaf, inner, heads, points_of, points_with, followed_by, Encloses, AreFormed}
use Rattle.nd_update.specs.Removal.{is_hit, staying, changed_leaf, changed_inner, without_dominated}
use Rattle.nd_update.proofs.Filters.{by_test}
use Rattle.nd_update.proofs.RemovedRows.{all_go, none_goes, gone}

pub followed-assoc : (ns ms others : Nodes) → followed_by (followed_by ns ms) others ≡ followed_by ns (followed_by ms others)
followed-assoc no_nodes ms others = refl
followed-assoc (leaf r b placed later) ms others = ap (λ ns. leaf r b placed ns) (followed-assoc later ms others)
followed-assoc (inner r b kids later) ms others = ap (λ ns. inner r b kids ns) (followed-assoc later ms others)

module _ (new : ℕ) (v : List ℤ) where
  leaf-followed : (b : Box) (placed : List Placed) (later others : Nodes) → changed_leaf new b placed (followed_by later others) ≡ followed_by (changed_leaf new b placed later) others
  leaf-followed b [] later others = refl
  leaf-followed b (p ∷ placed) later others = refl

  inner-followed : (b : Box) (kids later others : Nodes) → changed_inner new b kids (followed_by later others) ≡ followed_by (changed_inner new b kids later) others
  inner-followed b kids later others =
      by_test (λ s. (if s then followed_by kids (followed_by later others) else inner new b kids (followed_by later others)) ≡ followed_by (if s then followed_by kids later else inner new b kids later) others) (nat_lt (length (heads kids)) 2)
      (λ few. sym (followed-assoc kids later others)) (λ many. refl)

  -- what is left of nodes and of others is what is left of each
  pub without-followed : (ns others : Nodes) → without_dominated new v (followed_by ns others) ≡ followed_by (without_dominated new v ns) (without_dominated new v others)
  without-followed no_nodes others = refl
  without-followed (leaf r b placed later) others =
      by_test (λ s. (if s then changed_leaf new b (staying v placed) (without_dominated new v (followed_by later others)) else leaf r b placed (without_dominated new v (followed_by later others)))
      ≡ followed_by (if s then changed_leaf new b (staying v placed) (without_dominated new v later) else leaf r b placed (without_dominated new v later)) (without_dominated new v others)) (is_hit v (points_with placed))
      (λ hit. ap (λ ns. changed_leaf new b (staying v placed) ns) (without-followed later others) ∙ leaf-followed b (staying v placed) (without_dominated new v later) (without_dominated new v others))
      (λ none. ap (λ ns. leaf r b placed ns) (without-followed later others))
  without-followed (inner r b kids later) others =
      by_test (λ s. (if s then changed_inner new b (without_dominated new v kids) (without_dominated new v (followed_by later others)) else inner r b kids (without_dominated new v (followed_by later others)))
      ≡ followed_by (if s then changed_inner new b (without_dominated new v kids) (without_dominated new v later) else inner r b kids (without_dominated new v later)) (without_dominated new v others)) (is_hit v (points_of kids))
      (λ hit. ap (λ ns. changed_inner new b (without_dominated new v kids) ns) (without-followed later others) ∙ inner-followed b (without_dominated new v kids) (without_dominated new v later) (without_dominated new v others))
      (λ none. ap (λ ns. inner r b kids ns) (without-followed later others))

  -- a node whose nadir the value does not weakly dominate stays as it is
  module _ (r : ℕ) (b : Box) (later : Nodes) where
    pub whole-leaf : (placed : List Placed) → Encloses b (points_with placed) → weakly_dominates v b.nadir ≡ false → without_dominated new v (leaf r b placed later) ≡ leaf r b placed (without_dominated new v later)
    whole-leaf placed box nadir =
        ap (λ s. if s then changed_leaf new b (staying v placed) (without_dominated new v later) else leaf r b placed (without_dominated new v later)) (none_goes v b (points_with placed) box nadir)

    pub whole-inner : (kids : Nodes) → Encloses b (points_of kids) → weakly_dominates v b.nadir ≡ false → without_dominated new v (inner r b kids later) ≡ inner r b kids (without_dominated new v later)
    whole-inner kids box nadir =
        ap (λ s. if s then changed_inner new b (without_dominated new v kids) (without_dominated new v later) else inner r b kids (without_dominated new v later)) (none_goes v b (points_of kids) box nadir)

  -- and one whose ideal it weakly dominates is gone
  pub gone-leaf : (objectives r : ℕ) (b : Box) (placed : List Placed) → AreFormed objectives (leaf r b placed no_nodes) → Encloses b (points_with placed) → weakly_dominates v b.ideal ≡ true → without_dominated new v (leaf r b placed no_nodes) ≡ no_nodes
  gone-leaf objectives r b placed formed box ideal = gone v new objectives (leaf r b placed no_nodes) formed (Every-append _ (points_with placed) [] (all_go v b (points_with placed) box ideal) tt)

  pub gone-inner : (objectives r : ℕ) (b : Box) (kids : Nodes) → AreFormed objectives (inner r b kids no_nodes) → Encloses b (points_of kids) → weakly_dominates v b.ideal ≡ true → without_dominated new v (inner r b kids no_nodes) ≡ no_nodes
  gone-inner objectives r b kids formed box ideal = gone v new objectives (inner r b kids no_nodes) formed (Every-append _ (points_of kids) [] (all_go v b (points_of kids) box ideal) tt)

-- each of the nodes alone, and nodes put side by side again
abbrev pub each_alone : Nodes → List Nodes
each_alone no_nodes = []
each_alone (leaf r b placed later) = leaf r b placed no_nodes ∷ each_alone later
each_alone (inner r b kids later) = inner r b kids no_nodes ∷ each_alone later

abbrev pub side_by_side : List Nodes → Nodes
side_by_side [] = no_nodes
side_by_side (ns ∷ list) = followed_by ns (side_by_side list)

pub together : (ns : Nodes) → side_by_side (each_alone ns) ≡ ns
together no_nodes = refl
together (leaf r b placed later) = ap (λ ns. leaf r b placed ns) (together later)
together (inner r b kids later) = ap (λ ns. inner r b kids ns) (together later)

pub length-alone : (ns : Nodes) → length (each_alone ns) ≡ length (heads ns)
length-alone no_nodes = refl
length-alone (leaf r b placed later) = ap suc (length-alone later)
length-alone (inner r b kids later) = ap suc (length-alone later)

module _ (new : ℕ) (v : List ℤ) where
  -- what is left of nodes is what is left of each
  pub without-each : (ns : Nodes) → without_dominated new v ns ≡ side_by_side (map (without_dominated new v) (each_alone ns))
  without-each no_nodes = refl
  without-each (leaf r b placed later) =
      without-followed new v (leaf r b placed no_nodes) later ∙ ap (followed_by (without_dominated new v (leaf r b placed no_nodes))) (without-each later)
  without-each (inner r b kids later) =
      without-followed new v (inner r b kids no_nodes) later ∙ ap (followed_by (without_dominated new v (inner r b kids no_nodes))) (without-each later)

-- a point of the nodes goes where one of some node does, and as many go as of all together
module _ (v : List ℤ) where
  abbrev pub hit_alone : Nodes → Bool
  hit_alone ns = is_hit v (points_of ns)

  pub hit-each : (ns : Nodes) → is_hit v (points_of ns) ≡ list_any hit_alone (each_alone ns)
  hit-each no_nodes = refl
  hit-each (leaf r b placed later) =
      list_any-append (λ (p : Point). weakly_dominates v p.value) (points_with placed) (points_of later)
      ∙ ap₂ (λ s t. s || t) (ap (is_hit v) (sym (append-nil (points_with placed)))) (hit-each later)
  hit-each (inner r b kids later) =
      list_any-append (λ (p : Point). weakly_dominates v p.value) (points_of kids) (points_of later)
      ∙ ap₂ (λ s t. s || t) (ap (is_hit v) (sym (append-nil (points_of kids)))) (hit-each later)

  abbrev pub going_of : Nodes → ℕ
  going_of ns = how_many (λ (p : Point). weakly_dominates v p.value) (points_of ns)

  pub going-each : (ns : Nodes) → going_of ns ≡ total going_of (each_alone ns)
  going-each no_nodes = refl
  going-each (leaf r b placed later) =
      let rest = going-each later in
      let both = total-append (λ (p : Point). one_if (weakly_dominates v p.value)) (points_with placed) (points_of later) in
      let alone = ap (how_many (λ (p : Point). weakly_dominates v p.value)) (append-nil (points_with placed)) in omega arith
  going-each (inner r b kids later) =
      let rest = going-each later in
      let both = total-append (λ (p : Point). one_if (weakly_dominates v p.value)) (points_of kids) (points_of later) in
      let alone = ap (how_many (λ (p : Point). weakly_dominates v p.value)) (append-nil (points_of kids)) in omega arith
