-- The rows of the tree without dominated points: those that go, those that are still to be written, and those that are looked at.
use Rattle.std.proofs.Common.{◌≡◌, ◌≢◌, ℕ, ◌+◌, ◌<◌, ◌≤◌, Bool, true, false, not, nat_lt, if◌then◌else◌, List, [], ◌∷◌, ◌++◌, length, refl, sym, ap, ap₂, ◌∙◌, arith, length-append, ℤ, true≢false, IsTrue}
use Rattle.std.specs.List.{filter}
use Rattle.std.proofs.lemmas.Bool.{ltb-true, lt-ltb, and_parts, and_from, false_from_ne_true, not_from_false}
use Rattle.era_core.specs.Lists.{times}
use Rattle.era_core.proofs.ListFacts.{times-append, times-tail, times-head}
use Rattle.pls_vectors.specs.Box.{Box, encloses}
use Rattle.pls_vectors.specs.Dominance.{weakly_dominates}
use Rattle.pls_vectors.proofs.Dominance.{weakly_dominates-trans}
use Rattle.pls_archive.specs.declared.point.Point.{Point}
use Rattle.pls_archive.specs.Lists.{Every}
use Rattle.pls_archive.proofs.Every.{Every-map, Every-left, Every-right}
use Rattle.nd_rows.specs.Nodes.{Placed, Nodes, no_nodes, leaf, inner, heads, rows_of, rows_with, points_of, points_with, followed_by, Encloses, AreBoxed, AreFormed}
use Rattle.nd_rows.proofs.Following.{rows-followed}
use Rattle.nd_update.specs.Removal.{is_hit, staying, going, changed_leaf, changed_inner, without_dominated, changed_rows, dropped, is_cut, cut_rows}
use Rattle.nd_update.proofs.Filters.{by_test, any-one, each-any, filter-out, left-one}
use Rattle.nd_update.proofs.Removal.{stays, points-without, formed-without, staying_going}

module _ (v : List ℤ) (new : ℕ) where
  -- each row of the nodes is a row still, or is dropped
  rows-leaf : (x : ℕ) → x ≢ new → (b : Box) (placed : List Placed) (later : Nodes) → times x (rows_of (changed_leaf new b placed later)) ≡ times x (rows_with placed) + times x (rows_of later)
  rows-leaf x other b [] later = omega arith
  rows-leaf x other b (p ∷ placed) later = times-tail x new (rows_with (p ∷ placed) ++ rows_of later) other ∙ times-append x (rows_with (p ∷ placed)) (rows_of later)

  rows-inner : (x : ℕ) → x ≢ new → (b : Box) (kids later : Nodes) → times x (rows_of (changed_inner new b kids later)) ≡ times x (rows_of kids) + times x (rows_of later)
  rows-inner x other b kids later =
      by_test (λ s. times x (rows_of (if s then followed_by kids later else inner new b kids later)) ≡ times x (rows_of kids) + times x (rows_of later)) (nat_lt (length (heads kids)) 2)
      (λ few. ap (times x) (rows-followed kids later) ∙ times-append x (rows_of kids) (rows_of later))
      (λ many. times-tail x new (rows_of kids ++ rows_of later) other ∙ times-append x (rows_of kids) (rows_of later))

  pub dropped-rows : (x : ℕ) → x ≢ new → (ns : Nodes) → times x (rows_of (without_dominated new v ns)) + times x (dropped v ns) ≡ times x (rows_of ns)
  dropped-rows x other no_nodes = refl
  dropped-rows x other (leaf r b placed later) =
      let rest = dropped-rows x other later in
      let below = times-append x (rows_with placed) (rows_of later) in
      by_test
      (λ s. times x (rows_of (if s then changed_leaf new b (staying v placed) (without_dominated new v later) else leaf r b placed (without_dominated new v later))) + times x ((if s then r ∷ rows_with (going v placed) else []) ++ dropped v later)
      ≡ times x (r ∷ (rows_with placed ++ rows_of later)))
      (is_hit v (points_with placed))
      (λ hit. let left = rows-leaf x other b (staying v placed) (without_dominated new v later) in let parts = staying_going v x placed in
      let gone = times-append x (r ∷ rows_with (going v placed)) (dropped v later) in omega arith)
      (λ none. let left = times-append x (rows_with placed) (rows_of (without_dominated new v later)) in omega arith)
  dropped-rows x other (inner r b kids later) =
      let rest = dropped-rows x other later in
      let below = times-append x (rows_of kids) (rows_of later) in
      by_test
      (λ s. times x (rows_of (if s then changed_inner new b (without_dominated new v kids) (without_dominated new v later) else inner r b kids (without_dominated new v later))) + times x ((if s then r ∷ dropped v kids else []) ++ dropped v later)
      ≡ times x (r ∷ (rows_of kids ++ rows_of later)))
      (is_hit v (points_of kids))
      (λ hit. let left = rows-inner x other b (without_dominated new v kids) (without_dominated new v later) in let parts = dropped-rows x other kids in
      let gone = times-append x (r ∷ dropped v kids) (dropped v later) in omega arith)
      (λ none. let left = times-append x (rows_of kids) (rows_of (without_dominated new v later)) in omega arith)

  -- one row is to be written for each node that changed and is not gone
  staying-known : (placed : List Placed) → times new (rows_with placed) ≡ 0 → times new (rows_with (staying v placed)) ≡ 0
  staying-known placed known = let parts = staying_going v new placed in omega arith

  fresh-leaf : (b : Box) (placed : List Placed) (later : Nodes) (r : ℕ) → times new (rows_with placed) ≡ 0
      → times new (rows_of (changed_leaf new b placed later)) ≡ length (if nat_lt 0 (length placed) then r ∷ [] else []) + times new (rows_of later)
  fresh-leaf b [] later r known = omega arith
  fresh-leaf b (p ∷ placed) later r known = let some = ap (λ s. length (if s then r ∷ [] else [])) (lt-ltb 0 (length (p ∷ placed)) (omega arith)) in let one = times-head new (rows_with (p ∷ placed) ++ rows_of later) in let parts = times-append new (rows_with (p ∷ placed)) (rows_of later) in omega arith

  pub fresh-without : (ns : Nodes) → times new (rows_of ns) ≡ 0 → times new (rows_of (without_dominated new v ns)) ≡ length (changed_rows new v ns)
  fresh-without no_nodes known = refl
  fresh-without (leaf r b placed later) known =
      let parts = times-append new (rows_with placed) (rows_of later) in
      let rest = fresh-without later (omega arith) in
      by_test
      (λ s. times new (rows_of (if s then changed_leaf new b (staying v placed) (without_dominated new v later) else leaf r b placed (without_dominated new v later)))
      ≡ length ((if s then (if nat_lt 0 (length (staying v placed)) then r ∷ [] else []) else []) ++ changed_rows new v later))
      (is_hit v (points_with placed))
      (λ hit. let here = fresh-leaf b (staying v placed) (without_dominated new v later) r (staying-known placed (omega arith)) in
      let both = length-append (if nat_lt 0 (length (staying v placed)) then r ∷ [] else []) (changed_rows new v later) in omega arith)
      (λ none. let left = times-append new (rows_with placed) (rows_of (without_dominated new v later)) in omega arith)
  fresh-without (inner r b kids later) known =
      let parts = times-append new (rows_of kids) (rows_of later) in
      let below = fresh-without kids (omega arith) in
      let rest = fresh-without later (omega arith) in
      by_test
      (λ s. times new (rows_of (if s then changed_inner new b (without_dominated new v kids) (without_dominated new v later) else inner r b kids (without_dominated new v later)))
      ≡ length ((if s then (if nat_lt (length (heads (without_dominated new v kids))) 2 then [] else r ∷ []) ++ changed_rows new v kids else []) ++ changed_rows new v later))
      (is_hit v (points_of kids))
      (λ hit. by_test
      (λ s. times new (rows_of (if s then followed_by (without_dominated new v kids) (without_dominated new v later) else inner new b (without_dominated new v kids) (without_dominated new v later)))
      ≡ length (((if s then [] else r ∷ []) ++ changed_rows new v kids) ++ changed_rows new v later))
      (nat_lt (length (heads (without_dominated new v kids))) 2)
      (λ few. let both = length-append (changed_rows new v kids) (changed_rows new v later) in
      let all = ap (times new) (rows-followed (without_dominated new v kids) (without_dominated new v later)) in let left = times-append new (rows_of (without_dominated new v kids)) (rows_of (without_dominated new v later)) in omega arith)
      (λ many. let both = length-append (r ∷ changed_rows new v kids) (changed_rows new v later) in
      let one = times-head new (rows_of (without_dominated new v kids) ++ rows_of (without_dominated new v later)) in let left = times-append new (rows_of (without_dominated new v kids)) (rows_of (without_dominated new v later)) in omega arith))
      (λ none. let left = times-append new (rows_of kids) (rows_of (without_dominated new v later)) in omega arith)

  -- the nodes that changed are dropped, and what is dropped was known
  pub changed-dropped : (x : ℕ) (ns : Nodes) → times x (changed_rows new v ns) ≤ times x (dropped v ns)
  changed-dropped x no_nodes = omega arith
  changed-dropped x (leaf r b placed later) =
      let rest = changed-dropped x later in
      by_test (λ s. times x ((if s then (if nat_lt 0 (length (staying v placed)) then r ∷ [] else []) else []) ++ changed_rows new v later) ≤ times x ((if s then r ∷ rows_with (going v placed) else []) ++ dropped v later)) (is_hit v (points_with placed))
      (λ hit. by_test (λ s. times x ((if s then r ∷ [] else []) ++ changed_rows new v later) ≤ times x ((r ∷ rows_with (going v placed)) ++ dropped v later)) (nat_lt 0 (length (staying v placed)))
      (λ some. let gone = times-append x (rows_with (going v placed)) (dropped v later) in omega arith)
      (λ none. let gone = times-append x (rows_with (going v placed)) (dropped v later) in omega arith))
      (λ none. rest)
  changed-dropped x (inner r b kids later) =
      let below = changed-dropped x kids in
      let rest = changed-dropped x later in
      by_test (λ s. times x ((if s then (if nat_lt (length (heads (without_dominated new v kids))) 2 then [] else r ∷ []) ++ changed_rows new v kids else []) ++ changed_rows new v later) ≤ times x ((if s then r ∷ dropped v kids else []) ++ dropped v later)) (is_hit v (points_of kids))
      (λ hit. let gone = times-append x (dropped v kids) (dropped v later) in
      let parts = times-append x ((if nat_lt (length (heads (without_dominated new v kids))) 2 then [] else r ∷ []) ++ changed_rows new v kids) (changed_rows new v later) in
      let first = times-append x (if nat_lt (length (heads (without_dominated new v kids))) 2 then [] else r ∷ []) (changed_rows new v kids) in
      let one : times x (if nat_lt (length (heads (without_dominated new v kids))) 2 then [] else r ∷ []) ≤ times x (r ∷ []) = by_test (λ s. times x (if s then [] else r ∷ []) ≤ times x (r ∷ [])) (nat_lt (length (heads (without_dominated new v kids))) 2) (λ few. omega arith) (λ many. omega arith) in omega arith)
      (λ none. rest)

  pub dropped-known : (ns : Nodes) → times new (rows_of ns) ≡ 0 → times new (dropped v ns) ≡ 0
  dropped-known no_nodes known = refl
  dropped-known (leaf r b placed later) known =
      let parts = times-append new (rows_with placed) (rows_of later) in
      let rest = dropped-known later (omega arith) in
      by_test (λ s. times new ((if s then r ∷ rows_with (going v placed) else []) ++ dropped v later) ≡ 0) (is_hit v (points_with placed))
      (λ hit. let gone = times-append new (rows_with (going v placed)) (dropped v later) in let split = staying_going v new placed in omega arith) (λ none. rest)
  dropped-known (inner r b kids later) known =
      let parts = times-append new (rows_of kids) (rows_of later) in
      let below = dropped-known kids (omega arith) in
      let rest = dropped-known later (omega arith) in
      by_test (λ s. times new ((if s then r ∷ dropped v kids else []) ++ dropped v later) ≡ 0) (is_hit v (points_of kids))
      (λ hit. let gone = times-append new (dropped v kids) (dropped v later) in omega arith) (λ none. rest)

-- What a box tells of the points below its node.
module _ (v : List ℤ) (b : Box) (points : List Point) (box : Encloses b points) where
  -- all go where the value weakly dominates the ideal
  pub all_go : weakly_dominates v b.ideal ≡ true → Every (λ (p : Point). weakly_dominates v p.value ≡ true) points
  all_go ideal = Every-map (λ (p : Point). IsTrue (encloses b p.value)) (λ (p : Point). weakly_dominates v p.value ≡ true)
      (λ p inside. weakly_dominates-trans v b.ideal p.value ideal (and_parts (weakly_dominates b.ideal p.value) _ inside).0) points box.all

  -- where one goes, the value weakly dominates the nadir
  pub one_goes : is_hit v points ≡ true → weakly_dominates v b.nadir ≡ true
  one_goes hit =
      any-one (λ (p : Point). weakly_dominates v p.value) (weakly_dominates v b.nadir ≡ true) points hit
      (Every-map (λ (p : Point). IsTrue (encloses b p.value)) (λ (p : Point). weakly_dominates v p.value ≡ true → weakly_dominates v b.nadir ≡ true)
      (λ p inside over. weakly_dominates-trans v p.value b.nadir over (and_parts (weakly_dominates b.ideal p.value) _ inside).1) points box.all)

  -- so none goes where it does not
  pub none_goes : weakly_dominates v b.nadir ≡ false → is_hit v points ≡ false
  none_goes nadir = false_from_ne_true _ (λ hit. true≢false (sym (one_goes hit) ∙ nadir))

  -- where one goes and one stays, the box is cut
  pub some_go : is_hit v points ≡ true → 0 < length (filter (λ (p : Point). not (weakly_dominates v p.value)) points) → is_cut b v ≡ true
  some_go hit left =
      and_from _ _ (one_goes hit) (not_from_false _ (false_from_ne_true _ (λ ideal.
      left-one (λ (p : Point). weakly_dominates v p.value) ⊥ points left
      (Every-map (λ (p : Point). weakly_dominates v p.value ≡ true) (λ (p : Point). weakly_dominates v p.value ≡ false → ⊥) (λ p goes stays. true≢false (sym goes ∙ stays)) points (all_go ideal)))))

-- a node has a point below it
pub some_points : (objectives : ℕ) (ns : Nodes) → AreFormed objectives ns → 0 < length (heads ns) → 0 < length (points_of ns)
some_points objectives no_nodes formed some = absurd (omega arith)
some_points objectives (leaf r b [] later) formed some = absurd (let one = formed.0 in omega arith)
some_points objectives (leaf r b (p ∷ placed) later) formed some = omega arith
some_points objectives (inner r b kids later) formed some =
    let two = formed.0 in let below = some_points objectives kids formed.3 (omega arith) in let all = length-append (points_of kids) (points_of later) in omega arith

module _ (v : List ℤ) (new objectives : ℕ) where
  -- where all points go, no node is left, and all rows are dropped
  no_points : (ns : Nodes) → AreFormed objectives ns → points_of ns ≡ [] → ns ≡ no_nodes
  no_points no_nodes formed none = refl
  no_points (leaf r b placed later) formed none = absurd (let some = some_points objectives (leaf r b placed later) formed (omega arith) in let e = ap length none in omega arith)
  no_points (inner r b kids later) formed none = absurd (let some = some_points objectives (inner r b kids later) formed (omega arith) in let e = ap length none in omega arith)

  pub gone : (ns : Nodes) → AreFormed objectives ns → Every (λ (p : Point). weakly_dominates v p.value ≡ true) (points_of ns) → without_dominated new v ns ≡ no_nodes
  gone ns formed each = no_points _ (formed-without v new objectives ns formed) (points-without v new ns ∙ filter-out (λ (p : Point). weakly_dominates v p.value) (points_of ns) each)

  hit_below : (ns : Nodes) → AreFormed objectives ns → 0 < length (heads ns) → Every (λ (p : Point). weakly_dominates v p.value ≡ true) (points_of ns) → is_hit v (points_of ns) ≡ true
  hit_below ns formed some each = each-any (λ (p : Point). weakly_dominates v p.value) (points_of ns) (some_points objectives ns formed some) each

  going_all : (placed : List Placed) → Every (λ (p : Point). weakly_dominates v p.value ≡ true) (points_with placed) → going v placed ≡ placed
  going_all [] each = refl
  going_all (p ∷ placed) each = ap (λ s. if s then p ∷ going v placed else going v placed) each.0 ∙ ap (λ ps. p ∷ ps) (going_all placed each.1)

  some_placed : (placed : List Placed) → 1 ≤ length placed → 0 < length (points_with placed)
  some_placed [] one = absurd (omega arith)
  some_placed (p ∷ placed) one = omega arith

  pub dropped-all : (ns : Nodes) → AreFormed objectives ns → Every (λ (p : Point). weakly_dominates v p.value ≡ true) (points_of ns) → dropped v ns ≡ rows_of ns
  dropped-all no_nodes formed each = refl
  dropped-all (leaf r b placed later) formed each =
      let first = Every-left _ (points_with placed) (points_of later) each in
      ap (λ s. (if s then r ∷ rows_with (going v placed) else []) ++ dropped v later) (each-any (λ (p : Point). weakly_dominates v p.value) (points_with placed) (some_placed placed formed.0) first)
      ∙ ap₂ (λ ps xs. r ∷ (rows_with ps ++ xs)) (going_all placed first) (dropped-all later formed.2 (Every-right _ (points_with placed) (points_of later) each))
  dropped-all (inner r b kids later) formed each =
      let first = Every-left _ (points_of kids) (points_of later) each in
      ap (λ s. (if s then r ∷ dropped v kids else []) ++ dropped v later) (hit_below kids formed.3 (let two = formed.0 in omega arith) first)
      ∙ ap₂ (λ ys xs. r ∷ (ys ++ xs)) (dropped-all kids formed.3 first) (dropped-all later formed.4 (Every-right _ (points_of kids) (points_of later) each))

  nothing : (s : Bool) → ◌++◌ {A = ℕ} (if s then [] else []) [] ≡ []
  nothing true = refl
  nothing false = refl

  -- the nodes that changed and are not gone have a box that is cut
  changed_gone : (ns : Nodes) → AreFormed objectives ns → Every (λ (p : Point). weakly_dominates v p.value ≡ true) (points_of ns) → changed_rows new v ns ≡ []
  changed_gone no_nodes formed each = refl
  changed_gone (leaf r b placed later) formed each =
      let first = Every-left _ (points_with placed) (points_of later) each in
      ap₂ (λ n xs. (if is_hit v (points_with placed) then (if nat_lt 0 n then r ∷ [] else []) else []) ++ xs) (ap length (none_stays placed first)) (changed_gone later formed.2 (Every-right _ (points_with placed) (points_of later) each))
      ∙ nothing (is_hit v (points_with placed))
    where
      none_stays : (placed : List Placed) → Every (λ (p : Point). weakly_dominates v p.value ≡ true) (points_with placed) → staying v placed ≡ []
      none_stays [] each = refl
      none_stays (p ∷ placed) each = ap (λ s. if not s then p ∷ staying v placed else staying v placed) each.0 ∙ none_stays placed each.1
  changed_gone (inner r b kids later) formed each =
      let first = Every-left _ (points_of kids) (points_of later) each in
      ap₂ (λ ns xs. (if is_hit v (points_of kids) then (if nat_lt (length (heads ns)) 2 then [] else r ∷ []) ++ changed_rows new v kids else []) ++ xs) (gone kids formed.3 first) (changed_gone later formed.4 (Every-right _ (points_of kids) (points_of later) each))
      ∙ ap (λ xs. (if is_hit v (points_of kids) then xs else []) ++ []) (changed_gone kids formed.3 first)
      ∙ nothing (is_hit v (points_of kids))

  pub changed_cut : (x : ℕ) (ns : Nodes) → AreFormed objectives ns → AreBoxed ns → times x (changed_rows new v ns) ≤ times x (cut_rows v ns)
  changed_cut x no_nodes formed boxed = omega arith
  changed_cut x (leaf r b placed later) formed boxed =
      let rest = changed_cut x later formed.2 boxed.1 in
      let mine = times-append x (if is_hit v (points_with placed) then (if nat_lt 0 (length (staying v placed)) then r ∷ [] else []) else []) (changed_rows new v later) in
      let cut = times-append x (if is_cut b v then r ∷ [] else []) (cut_rows v later) in
      let here : times x (if is_hit v (points_with placed) then (if nat_lt 0 (length (staying v placed)) then r ∷ [] else []) else []) ≤ times x (if is_cut b v then r ∷ [] else []) =
      by_test (λ s. times x (if s then (if nat_lt 0 (length (staying v placed)) then r ∷ [] else []) else []) ≤ times x (if is_cut b v then r ∷ [] else [])) (is_hit v (points_with placed))
      (λ hit. by_test (λ s. times x (if s then r ∷ [] else []) ≤ times x (if is_cut b v then r ∷ [] else [])) (nat_lt 0 (length (staying v placed)))
      (λ some. let e = ap (λ s. times x (if s then r ∷ [] else [])) (some_go v b (points_with placed) boxed.0 hit (some_left placed (ltb-true _ _ some))) in omega arith)
      (λ none. omega arith))
      (λ none. omega arith) in
      omega arith
    where
      some_left : (placed : List Placed) → 0 < length (staying v placed) → 0 < length (filter (stays v) (points_with placed))
      some_left [] some = some
      some_left (p ∷ placed) some =
          by_test (λ s. 0 < length (if not s then p ∷ staying v placed else staying v placed) → 0 < length (if not s then p.point ∷ filter (stays v) (points_with placed) else filter (stays v) (points_with placed))) (weakly_dominates v p.point.value)
          (λ goes some. some_left placed some) (λ stay some. omega arith) some
  changed_cut x (inner r b kids later) formed boxed =
      let below = changed_cut x kids formed.3 boxed.1 in
      let rest = changed_cut x later formed.4 boxed.2 in
      let none_left : List ℕ = if nat_lt (length (heads (without_dominated new v kids))) 2 then [] else r ∷ [] in
      let mine = times-append x (if is_hit v (points_of kids) then none_left ++ changed_rows new v kids else []) (changed_rows new v later) in
      let cut = times-append x (if is_cut b v then r ∷ cut_rows v kids else []) (cut_rows v later) in
      let here : times x (if is_hit v (points_of kids) then none_left ++ changed_rows new v kids else []) ≤ times x (if is_cut b v then r ∷ cut_rows v kids else []) =
      by_test (λ s. times x (if s then none_left ++ changed_rows new v kids else []) ≤ times x (if is_cut b v then r ∷ cut_rows v kids else [])) (is_hit v (points_of kids))
      (λ hit. by_test (λ s. weakly_dominates v b.ideal ≡ s → times x (none_left ++ changed_rows new v kids) ≤ times x (if is_cut b v then r ∷ cut_rows v kids else [])) (weakly_dominates v b.ideal)
      (λ over is. let each = all_go v b (points_of kids) boxed.0 is in
      let e = ap₂ (λ ns xs. times x ((if nat_lt (length (heads ns)) 2 then [] else r ∷ []) ++ xs)) (gone kids formed.3 each) (changed_gone kids formed.3 each) in omega arith)
      (λ under is. let e = ap (λ s. times x (if s then r ∷ cut_rows v kids else [])) (and_from _ _ (one_goes v b (points_of kids) boxed.0 hit) (not_from_false _ is)) in
      let few : times x none_left ≤ times x (r ∷ []) = by_test (λ s. times x (if s then [] else r ∷ []) ≤ times x (r ∷ [])) (nat_lt (length (heads (without_dominated new v kids))) 2) (λ few. omega arith) (λ many. omega arith) in
      let parts = times-append x none_left (changed_rows new v kids) in omega arith) refl)
      (λ none. omega arith) in
      omega arith
