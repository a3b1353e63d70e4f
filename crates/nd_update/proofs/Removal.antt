-- The tree without the points that a value weakly dominates: its points, boxes and forms, what stays written, and the rows that go.
use Rattle.std.proofs.Common.{◌≡◌, ℕ, suc, ◌+◌, ◌≤◌, Bool, not, nat_lt, if◌then◌else◌, List, [], ◌∷◌, ◌++◌, length, refl, sym, ap, ap₂, subst, ◌∙◌, arith, length-append, ℤ}
use Rattle.std.specs.List.{filter}
use Rattle.std.proofs.lemmas.Bool.{ltb-true, ltb-false}
use Rattle.std.proofs.lemmas.List.Elements.{filter-append}
use Rattle.era_core.specs.Lists.{times}
use Rattle.pls_vectors.specs.Box.{Box}
use Rattle.pls_vectors.specs.Dominance.{weakly_dominates}
use Rattle.pls_archive.specs.declared.point.Point.{Point}
use Rattle.pls_archive.proofs.Every.{Every-filter}
use Rattle.nd_rows.specs.Nodes.{Placed, Nodes, no_nodes, leaf, inner, heads, rows_with, points_of, points_with, followed_by, Encloses, AreBoxed, AreFormed}
use Rattle.nd_rows.proofs.Following.{heads-followed, points-followed, formed-followed, boxed-followed}
use Rattle.nd_update.specs.Removal.{is_hit, staying, going, changed_leaf, changed_inner, without_dominated}
use Rattle.nd_update.proofs.Filters.{by_test, filter-rest, filter-map}

-- a box encloses some of what it encloses
pub encloses-filter : (b : Box) (test : Point → Bool) (points : List Point) → Encloses b points → Encloses b (filter test points)
encloses-filter b test points box = record {
  all = Every-filter _ test points box.all;
  corners = Every-filter _ test points box.corners;
}

module _ (v : List ℤ) where
  -- the point stays
  abbrev pub stays : Point → Bool
  stays p = not (weakly_dominates v p.value)

  points-staying : (placed : List Placed) → points_with (staying v placed) ≡ filter stays (points_with placed)
  points-staying placed = filter-map stays (λ (p : Placed). p.point) placed

  pub staying_going : (x : ℕ) (placed : List Placed) → times x (rows_with (staying v placed)) + times x (rows_with (going v placed)) ≡ times x (rows_with placed)
  staying_going x [] = refl
  staying_going x (p ∷ placed) =
      let rest = staying_going x placed in
      by_test (λ s. times x (rows_with (if not s then p ∷ staying v placed else staying v placed)) + times x (rows_with (if s then p ∷ going v placed else going v placed)) ≡ times x (p.row ∷ rows_with placed))
      (weakly_dominates v p.point.value)
      (λ passes. omega arith) (λ fails. omega arith)

  -- Nodes are without the points of each that the value weakly dominates.
  module _ (new : ℕ) where
    points-leaf : (b : Box) (placed : List Placed) (later : Nodes) → points_of (changed_leaf new b placed later) ≡ points_with placed ++ points_of later
    points-leaf b [] later = refl
    points-leaf b (p ∷ placed) later = refl

    points-inner : (b : Box) (kids later : Nodes) → points_of (changed_inner new b kids later) ≡ points_of kids ++ points_of later
    points-inner b kids later =
        by_test (λ s. points_of (if s then followed_by kids later else inner new b kids later) ≡ points_of kids ++ points_of later) (nat_lt (length (heads kids)) 2)
        (λ few. points-followed kids later) (λ many. refl)

    pub points-without : (ns : Nodes) → points_of (without_dominated new v ns) ≡ filter stays (points_of ns)
    points-without no_nodes = refl
    points-without (leaf r b placed later) =
        by_test (λ s. points_of (if s then changed_leaf new b (staying v placed) (without_dominated new v later) else leaf r b placed (without_dominated new v later)) ≡ filter stays (points_with placed ++ points_of later))
        (is_hit v (points_with placed))
        (λ hit. points-leaf b (staying v placed) _ ∙ ap₂ (λ xs ys. xs ++ ys) (points-staying placed) (points-without later) ∙ sym (filter-append stays (points_with placed) (points_of later)))
        (λ none. ap₂ (λ xs ys. xs ++ ys) (sym (filter-rest (λ (p : Point). weakly_dominates v p.value) (points_with placed) none)) (points-without later) ∙ sym (filter-append stays (points_with placed) (points_of later)))
    points-without (inner r b kids later) =
        by_test (λ s. points_of (if s then changed_inner new b (without_dominated new v kids) (without_dominated new v later) else inner r b kids (without_dominated new v later)) ≡ filter stays (points_of kids ++ points_of later))
        (is_hit v (points_of kids))
        (λ hit. points-inner b (without_dominated new v kids) _ ∙ ap₂ (λ xs ys. xs ++ ys) (points-without kids) (points-without later) ∙ sym (filter-append stays (points_of kids) (points_of later)))
        (λ none. ap₂ (λ xs ys. xs ++ ys) (sym (filter-rest (λ (p : Point). weakly_dominates v p.value) (points_of kids) none)) (points-without later) ∙ sym (filter-append stays (points_of kids) (points_of later)))

    -- boxes
    boxed-leaf : (b : Box) (placed : List Placed) (later : Nodes) → Encloses b (points_with placed) → AreBoxed later → AreBoxed (changed_leaf new b placed later)
    boxed-leaf b [] later box rest = rest
    boxed-leaf b (p ∷ placed) later box rest = (box, rest)

    pub boxed-without : (ns : Nodes) → AreBoxed ns → AreBoxed (without_dominated new v ns)
    boxed-without no_nodes boxed = tt
    boxed-without (leaf r b placed later) boxed =
        by_test (λ s. AreBoxed (if s then changed_leaf new b (staying v placed) (without_dominated new v later) else leaf r b placed (without_dominated new v later))) (is_hit v (points_with placed))
        (λ hit. boxed-leaf b (staying v placed) _ (subst (Encloses b) (sym (points-staying placed)) (encloses-filter b stays (points_with placed) boxed.0)) (boxed-without later boxed.1))
        (λ none. (boxed.0, boxed-without later boxed.1))
    boxed-without (inner r b kids later) boxed =
        by_test (λ s. AreBoxed (if s then changed_inner new b (without_dominated new v kids) (without_dominated new v later) else inner r b kids (without_dominated new v later))) (is_hit v (points_of kids))
        (λ hit. by_test (λ s. AreBoxed (if s then followed_by (without_dominated new v kids) (without_dominated new v later) else inner new b (without_dominated new v kids) (without_dominated new v later)))
        (nat_lt (length (heads (without_dominated new v kids))) 2)
        (λ few. boxed-followed _ _ (boxed-without kids boxed.1) (boxed-without later boxed.2))
        (λ many. (subst (Encloses b) (sym (points-without kids)) (encloses-filter b stays (points_of kids) boxed.0), boxed-without kids boxed.1, boxed-without later boxed.2)))
        (λ none. (boxed.0, boxed.1, boxed-without later boxed.2))

    -- no more nodes side by side than before
    heads-leaf : (b : Box) (placed : List Placed) (later : Nodes) → length (heads (changed_leaf new b placed later)) ≤ suc (length (heads later))
    heads-leaf b [] later = omega arith
    heads-leaf b (p ∷ placed) later = omega arith

    pub heads-without : (ns : Nodes) → length (heads (without_dominated new v ns)) ≤ length (heads ns)
    heads-without no_nodes = omega arith
    heads-without (leaf r b placed later) =
        let rest = heads-without later in
        by_test (λ s. length (heads (if s then changed_leaf new b (staying v placed) (without_dominated new v later) else leaf r b placed (without_dominated new v later))) ≤ suc (length (heads later))) (is_hit v (points_with placed))
        (λ hit. let one = heads-leaf b (staying v placed) (without_dominated new v later) in omega arith) (λ none. omega arith)
    heads-without (inner r b kids later) =
        let rest = heads-without later in
        by_test (λ s. length (heads (if s then changed_inner new b (without_dominated new v kids) (without_dominated new v later) else inner r b kids (without_dominated new v later))) ≤ suc (length (heads later))) (is_hit v (points_of kids))
        (λ hit. by_test (λ s. length (heads (if s then followed_by (without_dominated new v kids) (without_dominated new v later) else inner new b (without_dominated new v kids) (without_dominated new v later))) ≤ suc (length (heads later)))
        (nat_lt (length (heads (without_dominated new v kids))) 2)
        (λ few. let one = ltb-true _ _ few in let all = ap length (heads-followed (without_dominated new v kids) (without_dominated new v later)) in let parts = length-append (heads (without_dominated new v kids)) (heads (without_dominated new v later)) in omega arith)
        (λ many. omega arith))
        (λ none. omega arith)

    -- numbers of links
    formed-leaf : (objectives : ℕ) (b : Box) (placed : List Placed) (later : Nodes) → length placed ≤ 20 → AreFormed objectives later → AreFormed objectives (changed_leaf new b placed later)
    formed-leaf objectives b [] later few rest = rest
    formed-leaf objectives b (p ∷ placed) later few rest = (omega arith, few, rest)

    length-filter_le : {A : Type 0} (test : A → Bool) (xs : List A) → length (filter test xs) ≤ length xs
    length-filter_le test [] = omega arith
    length-filter_le test (x ∷ xs) =
        let rest = length-filter_le test xs in
        by_test (λ s. length (if s then x ∷ filter test xs else filter test xs) ≤ suc (length xs)) (test x) (λ passes. omega arith) (λ fails. omega arith)

    pub formed-without : (objectives : ℕ) (ns : Nodes) → AreFormed objectives ns → AreFormed objectives (without_dominated new v ns)
    formed-without objectives no_nodes formed = tt
    formed-without objectives (leaf r b placed later) formed =
        by_test (λ s. AreFormed objectives (if s then changed_leaf new b (staying v placed) (without_dominated new v later) else leaf r b placed (without_dominated new v later))) (is_hit v (points_with placed))
        (λ hit. formed-leaf objectives b (staying v placed) _ (let fewer = length-filter_le (λ (p : Placed). stays p.point) placed in let few = formed.1 in omega arith) (formed-without objectives later formed.2))
        (λ none. (formed.0, formed.1, formed-without objectives later formed.2))
    formed-without objectives (inner r b kids later) formed =
        by_test (λ s. AreFormed objectives (if s then changed_inner new b (without_dominated new v kids) (without_dominated new v later) else inner r b kids (without_dominated new v later))) (is_hit v (points_of kids))
        (λ hit. by_test (λ s. AreFormed objectives (if s then followed_by (without_dominated new v kids) (without_dominated new v later) else inner new b (without_dominated new v kids) (without_dominated new v later)))
        (nat_lt (length (heads (without_dominated new v kids))) 2)
        (λ few. formed-followed objectives _ _ (formed-without objectives kids formed.3) (formed-without objectives later formed.4))
        (λ many. let two = ltb-false _ _ many in let fewer = heads-without kids in let most = formed.1 in let room = formed.2 in (two, omega arith, omega arith, formed-without objectives kids formed.3, formed-without objectives later formed.4)))
        (λ none. (formed.0, formed.1, formed.2, formed.3, formed-without objectives later formed.4))
