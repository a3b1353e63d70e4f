-- The nodes of the list are settled one by one, from its end.
use Rattle.std.proofs.Common.{◌≡◌, ◌≢◌, ℕ, zero, suc, ◌+◌, ◌-◌, ◌/◌, ◌%◌, ◌<◌, ◌≤◌, ⊎_elim, Bool, true, false, not, nat_lt, if◌then◌else◌, Some, List, [], ◌∷◌, ◌++◌, length, map, take, drop, set, refl, sym, ap, ap₂, subst, ◌∙◌, arith, append-nil, append_assoc, length-append, ℤ}
use Rattle.std.specs.Prelude.{◌&&◌, ◌||◌, replicate}
use Rattle.std.proofs.lemmas.Bool.{lt-ltb, cases_eq}
use Rattle.std.proofs.Math.Seq.{take-append_seam, drop-append_seam}
use Rattle.era_core.specs.declared.sizes.TheConstants.{ROOT_ROWS}
use Rattle.era_core.specs.Lists.{times, In}
use Rattle.era_core.specs.Versions.{Cell, Copy, look_up}
use Rattle.era_core.proofs.ListFacts.{times-append, times-head, in_head, in_tail, in-append_left}
use Rattle.pls_vectors.specs.Box.{Box}
use Rattle.pls_vectors.specs.Dominance.{weakly_dominates}
use Rattle.pls_archive.specs.declared.point.Point.{Point}
use Rattle.pls_archive.specs.Lists.{one_if}
use Rattle.nd_rows.specs.Nodes.{Placed, Nodes, no_nodes, leaf, inner, heads, rows_of, rows_with, points_of, points_with, followed_by, Encloses}
use Rattle.nd_rows.specs.Walk.{ArePending, BeginAt, HasPlaced}
use Rattle.nd_rows.proofs.Following.{rows-followed}
use Rattle.nd_rows.proofs.Corners.{corners_of}
use Rattle.nd_rows.proofs.Pending.{leaf_placed, links_count, length_rows, length_points}
use Rattle.nd_update.specs.Removal.{is_hit, staying, without_dominated, dropped}
use Rattle.nd_update.specs.Naming.{AreNamed, names_of}
use Rattle.nd_update.specs.Building.{Elsewhere}
use Rattle.nd_update.specs.Left.{hits, entry, leaf_word, inner_word, is_touched, hits_of, hits_in, IsHitLeaf, IsBoxed, IsResult, AreResults, IsSettled, IsSwept, IsNodeLeft, CanSettle, AreKidsLeft}
use Rattle.nd_update.proofs.Filters.{by_test}
use Rattle.nd_update.proofs.RemovedRows.{none_goes, some_points, dropped-rows}
use Rattle.nd_update.proofs.Naming.{rows-named}
use Rattle.nd_update.proofs.Swept.{followed-none, none_of, none_without, none_dropped, names_none, heads_in, AreParted, parted, results_named, results_length, results_touched}
use Rattle.nd_update.proofs.Settled.{dropped_few, AreBoth, settled_parts, leaf_stays, inner_stays, swept_stays, swept_node, swept_as}
use Rattle.nd_update.proofs.Listing.{next_inner}

not_some : (n : ℕ) → (0 < n → ⊥) → n ≡ 0
not_some zero h = refl
not_some (suc n) h = absurd (h (omega arith))

-- ---- points that go, by tests at places
pub hits_none : (n : ℕ) → hits_in (replicate n false) ≡ 0
hits_none zero = refl
hits_none (suc n) = let rest = hits_none n in omega (arith, rest)

pub hits_few : (xs : List Bool) → hits_in xs ≤ length xs
hits_few [] = omega arith
hits_few (x ∷ xs) = let rest = hits_few xs in by_test (λ s. one_if s + hits_in xs ≤ suc (length xs)) x (λ t. omega (arith, rest)) (λ f. omega (arith, rest))

hits-append : (xs ys : List Bool) → hits_in (xs ++ ys) ≡ hits_in xs + hits_in ys
hits-append [] ys = omega arith
hits-append (x ∷ xs) ys = let rest = hits-append xs ys in omega (arith, rest)

module _ (v : List ℤ) where
  hits_mapped : (placed : List Placed) → hits_in (map (λ (p : Placed). weakly_dominates v p.point.value) placed) ≡ hits v (points_with placed)
  hits_mapped [] = refl
  hits_mapped (p ∷ placed) = let rest = hits_mapped placed in omega (arith, rest)

  pub hits_are : (placed : List Placed) → hits_in (hits_of v placed) ≡ hits v (points_with placed)
  hits_are placed =
      let both = hits-append (map (λ (p : Placed). weakly_dominates v p.point.value) placed) (replicate (20 - length placed) false) in
      let none = hits_none (20 - length placed) in let mapped = hits_mapped placed in omega (arith, both, none, mapped)

  -- as many stay as do not go
  pub stay_or_go : (placed : List Placed) → length (staying v placed) + hits v (points_with placed) ≡ length placed
  stay_or_go [] = refl
  stay_or_go (p ∷ placed) =
      let rest = stay_or_go placed in
      by_test (λ s. length (if not s then p ∷ staying v placed else staying v placed) + (one_if s + hits v (points_with placed)) ≡ suc (length placed)) (weakly_dominates v p.point.value)
      (λ goes. omega (arith, rest)) (λ stays. omega (arith, rest))

  pub hit_none : (points : List Point) → hits v points ≡ 0 → is_hit v points ≡ false
  hit_none [] none = refl
  hit_none (p ∷ points) none =
      by_test (λ s. one_if s + hits v points ≡ 0 → (s || is_hit v points) ≡ false) (weakly_dominates v p.value)
      (λ goes none. absurd (omega (arith, none))) (λ stays none. hit_none points (omega (arith, none))) none

  pub hit_some : (points : List Point) → 0 < hits v points → is_hit v points ≡ true
  hit_some points some = by_test (λ s. is_hit v points ≡ s → is_hit v points ≡ true) (is_hit v points) (λ e is. is) (λ e is. absurd (let none = none_of v points is in omega (arith, some, none))) refl

pub nothing_stays : {A : Type 0} (xs : List A) → length xs ≡ 0 → xs ≡ []
nothing_stays [] none = refl
nothing_stays (x ∷ xs) none = absurd (omega (arith, none))

-- the list falls apart
pub work_apart : (front first second work : List ℕ) (count from : ℕ) → work ≡ front ++ (first ++ second) → length second ≡ count → from ≡ length work - count → (take from work ≡ front ++ first) × (drop from work ≡ second) × (from + count ≡ length work)
work_apart front first second work count from is len at =
    let all = is ∙ sym (append_assoc front first second) in
    let n = ap length all ∙ length-append (front ++ first) second in
    let e : from ≡ length (front ++ first) = omega (arith, n, len, at) in
    (ap₂ (λ i ws. take i ws) e all ∙ take-append_seam (front ++ first) second, ap₂ (λ i ws. drop i ws) e all ∙ drop-append_seam (front ++ first) second, omega (arith, n, len, e))

module _ (new : ℕ) (v : List ℤ) (objectives : ℕ) (c : Copy) (low : new ≤ 262144) (inside : (x : ℕ) → In x c.rows → x < new) where
  -- rows of pending nodes are known
  pub known_rows : (xs : List ℕ) → ((x : ℕ) → In x xs → In x c.rows) → times new xs ≡ 0
  known_rows xs among = not_some (times new xs) (λ here. let less = inside new (among new here) in omega (arith, less))

  pub known_row : (x : ℕ) → In x c.rows → x ≢ new
  known_row x here e = let less = inside x here in omega (arith, less, e)

  -- rows of what is left are rows
  pub small_heads : (ns named : Nodes) → AreNamed new (without_dominated new v ns) named → ((x : ℕ) → In x (rows_of ns) → In x c.rows) → ((x : ℕ) → In x (names_of new (without_dominated new v ns) named) → x < new)
      → (x : ℕ) → In x (heads named) → x < ROOT_ROWS
  small_heads ns named are among names x here =
      ⊎_elim
      (λ e. omega (arith, e, low))
      (λ other.
      let all = rows-named new x other (without_dominated new v ns) named are in
      let fewer = dropped-rows v new x other ns in
      let row = heads_in named x here in
      cases (times x (rows_of ns)) (λ known. let less = inside x (among x known) in omega (arith, less, low)) (λ none. let less = names x (omega (arith, all, fewer, row, none)) in omega (arith, less, low)))
      (cases_eq x new)
    where
      cases : (n : ℕ) → (0 < n → x < ROOT_ROWS) → (n ≡ 0 → x < ROOT_ROWS) → x < ROOT_ROWS
      cases zero some none = none refl
      cases (suc n) some none = some (omega arith)

  module _ (others work : List ℕ) (cells : List Cell) (taken marked : List ℕ) (removed : ℕ) where
    cons_leaf : (r : ℕ) (b : Box) (placed : List Placed) (later : Nodes) (w : ℕ) (ws : List ℕ) (m rest : Nodes) → IsResult new v w (leaf r b placed no_nodes) m → AreResults new v ws later rest → AreResults new v (w ∷ ws) (leaf r b placed later) (followed_by m rest)
    cons_leaf r b placed later w ws m rest is are = (m, rest, refl, is, are)

    cons_inner : (r : ℕ) (b : Box) (kids later : Nodes) (w : ℕ) (ws : List ℕ) (m rest : Nodes) → IsResult new v w (inner r b kids no_nodes) m → AreResults new v ws later rest → AreResults new v (w ∷ ws) (inner r b kids later) (followed_by m rest)
    cons_inner r b kids later w ws m rest is are = (m, rest, refl, is, are)

    -- ---- nodes of which the list tells that they stay
    none_in_leaf : (b : Box) (placed : List Placed) → Encloses b (points_with placed) → (nat_lt 0 (length placed) && weakly_dominates v b.nadir) ≡ false → is_hit v (points_with placed) ≡ false
    none_in_leaf b [] box none = refl
    none_in_leaf b (p ∷ placed) box none =
        none_goes v b (points_with (p ∷ placed)) box (sym (ap (λ s. s && weakly_dominates v b.nadir) (lt-ltb 0 (length (p ∷ placed)) (omega arith))) ∙ none)

    pub sweep_stays : (ns : Nodes) → CanSettle new v objectives c ns others work cells taken marked removed → entry v ns < ROOT_ROWS → IsSwept new v objectives ns others work cells taken marked removed
    sweep_stays no_nodes can small = absurd (let some = can.some in omega (arith, some))
    sweep_stays (leaf r b placed later) can small =
        let among = can.pending.among in
        by_test (λ s. (nat_lt 0 (length placed) && weakly_dominates v b.nadir) ≡ s → (if s then leaf_word r else r) < ROOT_ROWS → IsSwept new v objectives later (others ++ (if s then leaf_word r else r) ∷ []) work cells taken marked removed → IsSwept new v objectives (leaf r b placed later) others work cells taken marked removed)
        (nat_lt 0 (length placed) && weakly_dominates v b.nadir)
        (λ over is low swept. absurd (omega (arith, low)))
        (λ under is low swept. swept_stays new v objectives others r work (leaf r b placed no_nodes) later (cons_leaf r b placed later) cells taken marked removed swept
        (leaf_stays new v objectives r b placed cells (none_in_leaf b placed can.pending.boxed.0 is) (known_row r (among r (in_head r _))) (known_rows (rows_with placed) (λ x here. among x (in_tail x r _ (in-append_left x (rows_with placed) (rows_of later) here))))))
        refl small can.swept
    sweep_stays (inner r b kids later) can small =
        let among = can.pending.among in
        by_test (λ s. weakly_dominates v b.nadir ≡ s → (if s then inner_word (length (heads kids)) r else r) < ROOT_ROWS → IsSwept new v objectives (followed_by later (if s then kids else no_nodes)) (others ++ (if s then inner_word (length (heads kids)) r else r) ∷ []) work cells taken marked removed → IsSwept new v objectives (inner r b kids later) others work cells taken marked removed)
        (weakly_dominates v b.nadir)
        (λ over is low swept. absurd (omega (arith, low)))
        (λ under is low swept. swept_stays new v objectives others r work (inner r b kids no_nodes) later (cons_inner r b kids later) cells taken marked removed
        (subst (λ ns. IsSwept new v objectives ns (others ++ r ∷ []) work cells taken marked removed) (followed-none later) swept)
        (inner_stays new v objectives r b kids cells (none_goes v b (points_of kids) can.pending.boxed.0 is) (known_row r (among r (in_head r _))) (known_rows (rows_of kids) (λ x here. among x (in_tail x r _ (in-append_left x (rows_of kids) (rows_of later) here))))))
        refl small can.swept

    -- ---- what a word of the list tells
    pub kind_leaf : (ns : Nodes) → ArePending objectives c ns → 0 < length (heads ns) → (found : ℕ) → found ≡ entry v ns → found / ROOT_ROWS ≡ 3
        → (b : Box) × (placed : List Placed) × (later : Nodes) × (ns ≡ leaf (found % ROOT_ROWS) b placed later) × (0 < length placed)
    kind_leaf no_nodes p some found is kind = absurd (omega (arith, some))
    kind_leaf (leaf r b placed later) p some found is kind =
        let row = inside r (p.among r (in_head r _)) in
        by_test (λ s. (nat_lt 0 (length placed) && weakly_dominates v b.nadir) ≡ s → found ≡ (if s then leaf_word r else r)
        → (b' : Box) × (placed' : List Placed) × (later' : Nodes) × (leaf r b placed later ≡ leaf (found % ROOT_ROWS) b' placed' later') × (0 < length placed'))
        (nat_lt 0 (length placed) && weakly_dominates v b.nadir)
        (λ over full is. (b, placed, later, ap (λ x. leaf x b placed later) (let e : r ≡ found % ROOT_ROWS = omega (arith, is, row, low) in e), some_placed placed full))
        (λ under full is. absurd (omega (arith, is, kind, row, low)))
        refl is
      where
        some_placed : (placed : List Placed) → (nat_lt 0 (length placed) && weakly_dominates v b.nadir) ≡ true → 0 < length placed
        some_placed [] full = absurd (let e : false ≡ true = full in cc)
        some_placed (p ∷ placed) full = omega arith
    kind_leaf (inner r b kids later) p some found is kind =
        let row = inside r (p.among r (in_head r _)) in
        absurd (by_test (λ s. found ≡ (if s then inner_word (length (heads kids)) r else r) → ⊥) (weakly_dominates v b.nadir)
        (λ over is. omega (arith, is, kind, row, low)) (λ under is. omega (arith, is, kind, row, low)) is)

    pub kind_inner : (ns : Nodes) → ArePending objectives c ns → 0 < length (heads ns) → (found : ℕ) → found ≡ entry v ns → (found / ROOT_ROWS ≡ 0 → ⊥) → (found / ROOT_ROWS ≡ 3 → ⊥)
        → (b : Box) × (kids later : Nodes) × (ns ≡ inner (found % ROOT_ROWS) b kids later) × (weakly_dominates v b.nadir ≡ true) × (found / ROOT_ROWS ≡ 4 + length (heads kids))
    kind_inner no_nodes p some found is other another = absurd (omega (arith, some))
    kind_inner (leaf r b placed later) p some found is other another =
        let row = inside r (p.among r (in_head r _)) in
        absurd (by_test (λ s. found ≡ (if s then leaf_word r else r) → ⊥) (nat_lt 0 (length placed) && weakly_dominates v b.nadir)
        (λ over is. another (omega (arith, is, row, low))) (λ under is. other (omega (arith, is, row, low))) is)
    kind_inner (inner r b kids later) p some found is other another =
        let row = inside r (p.among r (in_head r _)) in
        by_test (λ s. weakly_dominates v b.nadir ≡ s → found ≡ (if s then inner_word (length (heads kids)) r else r)
        → (b' : Box) × (kids' later' : Nodes) × (inner r b kids later ≡ inner (found % ROOT_ROWS) b' kids' later') × (weakly_dominates v b'.nadir ≡ true) × (found / ROOT_ROWS ≡ 4 + length (heads kids')))
        (weakly_dominates v b.nadir)
        (λ over full is. (b, kids, later, ap (λ x. inner x b kids later) (let e : r ≡ found % ROOT_ROWS = omega (arith, is, row, low) in e), full, (let e : found / ROOT_ROWS ≡ 4 + length (heads kids) = omega (arith, is, row, low) in e)))
        (λ under full is. absurd (other (omega (arith, is, row, low))))
        refl is

    -- ---- a leaf
    module _ (row : ℕ) (b : Box) (placed : List Placed) (later : Nodes) (can : CanSettle new v objectives c (leaf row b placed later) others work cells taken marked removed) where
      pub leaf_at : BeginAt objectives c row (leaf row b placed later)
      leaf_at = record { pending = can.pending; here = refl }

      pub leaf_row : In row c.rows
      leaf_row = can.pending.among row (in_head row _)

      pub leaf_points : HasPlaced objectives c row placed
      leaf_points = leaf_placed objectives c row row b placed later leaf_at

      pub leaf_few : length placed ≤ 20
      leaf_few = ⊎_elim (λ empty. let none = ap length empty.0 in omega (arith, none)) (λ formed. formed.1) can.pending.formed

      pub leaf_known : times new (rows_with placed) ≡ 0
      leaf_known = known_rows (rows_with placed) leaf_points.among

      pub leaf_count : (first : ℕ) → look_up c.cells row 0 ≡ Some first → length placed ≡ first / 4
      leaf_count first there = let n = length_rows placed in let e = links_count objectives c row (leaf row b placed later) first leaf_at there in omega (arith, n, e)

      pub hit_leaf : (count : ℕ) (hit : List Bool) → length placed ≡ count → 0 < length placed → hit ≡ hits_of v placed → IsHitLeaf objectives c row count hit v b placed
      hit_leaf count hit n some is = record {
        points = leaf_points;
        counted = n;
        few = leaf_few;
        boxed = can.pending.written.1 some;
        corners = corners_of b (points_with placed) (let m = length_points placed in omega (arith, m, some)) can.pending.boxed.0;
        hit = is;
      }

      pub leaf_marks : (x : ℕ) → times x marked + times x (row ∷ rows_with placed) ≤ 1
      leaf_marks x =
          let once = can.once x in let all = times-append x (rows_with placed) (rows_of later) in
          let gone = can.swept.settled.marked_are x in let few = dropped_few v x later in omega (arith, once, all, gone, few)

      -- no point goes
      pub leaf_same : (cells' : List Cell) → hits v (points_with placed) ≡ 0 → IsNodeLeft new v objectives (leaf row b placed no_nodes) cells' [] [] 0 row
      leaf_same cells' none = leaf_stays new v objectives row b placed cells' (hit_none v (points_with placed) none) (known_row row leaf_row) leaf_known

      -- it was settled
      pub sweep_leaf : (k w more : ℕ) → length others ≡ k → (cells' : List Cell) (t m : List ℕ) → IsNodeLeft new v objectives (leaf row b placed no_nodes) cells' t m more w → Elsewhere t cells cells' → ((x : ℕ) → In x taken → times x t ≡ 0)
          → (work' taken' marked' : List ℕ) → work' ≡ set work k w → taken' ≡ taken ++ t → marked' ≡ marked ++ m → IsSwept new v objectives (leaf row b placed later) others work' cells' taken' marked' (removed + more)
      sweep_leaf k w more at cells' t m one elsewhere apart work' taken' marked' now more_taken more_marked =
          swept_as new v objectives (leaf row b placed later) others work' cells' (taken ++ t) (marked ++ m) taken' marked' (removed + more) (removed + more)
          (swept_node new v objectives others (entry v (leaf row b placed later)) work (leaf row b placed no_nodes) later (cons_leaf row b placed later) w cells cells' taken marked removed t t m more
          can.swept elsewhere apart one work' (now ∙ ap (λ i. set work i w) (sym at)))
          (λ x. ap (times x) more_taken) (λ x. ap (times x) more_marked) refl

    -- ---- an inner node
    module _ (row : ℕ) (b : Box) (kids later : Nodes) (can : CanSettle new v objectives c (inner row b kids later) others work cells taken marked removed) (over : weakly_dominates v b.nadir ≡ true) (count : ℕ) (counted : length (heads kids) ≡ count) where
      abbrev own_word : ℕ
      own_word = entry v (inner row b kids later)

      pub swept : IsSwept new v objectives (followed_by later kids) (others ++ own_word ∷ []) work cells taken marked removed
      swept = subst (λ ns. IsSwept new v objectives ns (others ++ own_word ∷ []) work cells taken marked removed) (next_inner v row b kids later over) can.swept

      pub parts : AreParted new v swept.results later kids swept.named
      parts = parted new v swept.results later kids swept.named swept.are_results

      both : AreBoth new v objectives later kids parts.named_first parts.named_second cells taken marked removed
      both = settled_parts new v objectives later kids parts.named_first parts.named_second cells taken marked removed
          (results_named new v parts.first later parts.named_first parts.results_first) (results_named new v parts.second kids parts.named_second parts.results_second)
          (subst (λ m. IsSettled new v objectives (followed_by later kids) m cells taken marked removed) parts.named_are swept.settled)

      apart_at : (from : ℕ) → from ≡ length work - count → (take from work ≡ (others ++ own_word ∷ []) ++ parts.first) × (drop from work ≡ parts.second) × (from + count ≡ length work)
      apart_at from at =
          work_apart (others ++ own_word ∷ []) parts.first parts.second work count from (swept.listed ∙ ap (λ ws. (others ++ own_word ∷ []) ++ ws) parts.words_are) (results_length new v parts.second kids parts.named_second parts.results_second ∙ counted) at

      pub inner_length : count ≤ length work
      inner_length =
          let n = results_length new v parts.second kids parts.named_second parts.results_second in
          let e = ap length (swept.listed ∙ ap (λ ws. (others ++ own_word ∷ []) ++ ws) parts.words_are) ∙ length-append (others ++ own_word ∷ []) (parts.first ++ parts.second) in
          let m = length-append parts.first parts.second in omega (arith, n, e, m, counted)

      pub inner_row : In row c.rows
      inner_row = can.pending.among row (in_head row _)

      kids_among : (x : ℕ) → In x (rows_of kids) → In x c.rows
      kids_among x here = can.pending.among x (in_tail x row _ (in-append_left x (rows_of kids) (rows_of later) here))

      pub inner_few : count ≤ 20
      inner_few = ⊎_elim (λ empty. absurd empty) (λ formed. let most = formed.1 in let box = can.pending.written.1.ideal in let four = box.is_value.at_most_four in let parts = box.parts in omega (arith, most, four, parts, counted)) can.pending.formed

      pub inner_boxed : IsBoxed objectives c row b
      inner_boxed = record {
        boxed = can.pending.written.1;
        corners = ⊎_elim (λ empty. absurd empty) (λ formed. corners_of b (points_of kids) (some_points objectives kids formed.3 (let two = formed.0 in omega (arith, two))) can.pending.boxed.0) can.pending.formed;
      }

      -- its row was not marked
      pub inner_unmarked : times row marked ≡ 0
      inner_unmarked =
          let once = can.once row in let head = times-head row (rows_of kids ++ rows_of later) in let all = times-append row (rows_of kids) (rows_of later) in
          let gone = swept.settled.marked_are row in let few = dropped_few v row (followed_by later kids) in
          let same = ap (times row) (rows-followed later kids) in let both = times-append row (rows_of later) (rows_of kids) in omega (arith, once, head, all, gone, few, same, both)

      module _ (from : ℕ) (at : from ≡ length work - count) where
        pub from_in : from ≤ length work
        from_in = let e = (apart_at from at).2 in omega (arith, e)

        pub from_count : from + count ≡ length work
        from_count = (apart_at from at).2

        -- the place of its own word is before them
        pub place_in : length others < length (take from work)
        place_in = let e = ap length (apart_at from at).0 ∙ length-append (others ++ own_word ∷ []) parts.first in let n = length-append others (own_word ∷ []) in omega (arith, e, n)

        module _ (names_low : (x : ℕ) → In x taken → x < new) where
          kids_small : (x : ℕ) → In x (heads parts.named_second) → x < ROOT_ROWS
          kids_small = small_heads kids parts.named_second both.theirs.is_named kids_among (λ x here. names_low x (let all = both.taken_are x in omega (arith, here, all)))

          -- whether they changed
          pub kids_touched : is_touched (drop from work) ≡ is_hit v (points_of kids)
          kids_touched = ap is_touched (apart_at from at).1 ∙ results_touched new v parts.second kids parts.named_second parts.results_second kids_small

          -- what is left of them
          pub kids_left : is_hit v (points_of kids) ≡ true → AreKidsLeft new v objectives (drop from work) kids parts.named_second cells taken
          kids_left hit = record {
            are_results = subst (λ ws. AreResults new v ws kids parts.named_second) (sym (apart_at from at).1) parts.results_second;
            written = both.theirs.written;
            among = λ x. let all = both.taken_are x in omega (arith, all);
            small = kids_small;
            known = known_rows (rows_of kids) kids_among;
            hit = hit;
          }

        -- the others without them
        swept_later : IsSwept new v objectives later (others ++ own_word ∷ []) (take from work) cells (names_of new (without_dominated new v later) parts.named_first) (dropped v later) (hits v (points_of later))
        swept_later = record { results = parts.first; named = parts.named_first; listed = (apart_at from at).0; are_results = parts.results_first; settled = both.mine }

        -- none of them changed
        pub sweep_inner_none : is_hit v (points_of kids) ≡ false → (cells' : List Cell) → Elsewhere [] cells cells' → (work' taken' marked' : List ℕ) → work' ≡ set (take from work) (length others) row → taken' ≡ taken ++ [] → marked' ≡ marked ++ []
            → IsSwept new v objectives (inner row b kids later) others work' cells' taken' marked' removed
        sweep_inner_none none cells' elsewhere work' taken' marked' now more_taken more_marked =
            let known = known_rows (rows_of kids) kids_among in
            let names = names_of new (without_dominated new v later) parts.named_first in
            let below : names_of new (without_dominated new v kids) parts.named_second ≡ [] = ap (λ ms. names_of new ms parts.named_second) (none_without v new kids none) ∙ names_none new kids parts.named_second known in
            swept_as new v objectives (inner row b kids later) others work' cells' (names ++ []) (dropped v later ++ []) taken' marked' (hits v (points_of later) + 0) removed
            (swept_node new v objectives others own_word (take from work) (inner row b kids no_nodes) later (cons_inner row b kids later) row cells cells' names (dropped v later) (hits v (points_of later)) [] [] [] 0
            swept_later elsewhere (λ x here. refl) (inner_stays new v objectives row b kids cells' none (known_row row inner_row) known) work' now)
            (λ x. let all = both.taken_are x in let e = ap (times x) below in let n = ap (times x) (append-nil names) in let m = ap (times x) (more_taken ∙ append-nil taken) in omega (arith, all, e, n, m))
            (λ x. let all = both.marked_are x in let e = ap (times x) (none_dropped v kids none) in let n = ap (times x) (append-nil (dropped v later)) in let m = ap (times x) (more_marked ∙ append-nil marked) in omega (arith, all, e, n, m))
            (let all = both.counted in let e = none_of v (points_of kids) none in omega (arith, all, e))

        -- some did
        pub sweep_inner : (w : ℕ) (cells' : List Cell) (t : List ℕ) → IsNodeLeft new v objectives (inner row b kids no_nodes) cells' (names_of new (without_dominated new v kids) parts.named_second ++ t) (row ∷ dropped v kids) (hits v (points_of kids)) w
            → Elsewhere t cells cells' → ((x : ℕ) → In x taken → times x t ≡ 0) → (work' taken' marked' : List ℕ) → work' ≡ set (take from work) (length others) w → taken' ≡ taken ++ t → marked' ≡ marked ++ row ∷ []
            → IsSwept new v objectives (inner row b kids later) others work' cells' taken' marked' removed
        sweep_inner w cells' t one elsewhere apart work' taken' marked' now more_taken more_marked =
            let first = names_of new (without_dominated new v later) parts.named_first in
            let second = names_of new (without_dominated new v kids) parts.named_second in
            swept_as new v objectives (inner row b kids later) others work' cells' (first ++ (second ++ t)) (dropped v later ++ row ∷ dropped v kids) taken' marked' (hits v (points_of later) + hits v (points_of kids)) removed
            (swept_node new v objectives others own_word (take from work) (inner row b kids no_nodes) later (cons_inner row b kids later) w cells cells' first (dropped v later) (hits v (points_of later)) t (second ++ t) (row ∷ dropped v kids) (hits v (points_of kids))
            swept_later elsewhere (λ x here. apart x (let all = both.taken_are x in omega (arith, here, all))) one work' now)
            (λ x. let all = both.taken_are x in let e = ap (times x) more_taken ∙ times-append x taken t in let n = times-append x first (second ++ t) in let m = times-append x second t in omega (arith, all, e, n, m))
            (λ x. let all = both.marked_are x in let e = ap (times x) more_marked ∙ times-append x marked (row ∷ []) in let n = times-append x (dropped v later) (row ∷ dropped v kids) in omega (arith, all, e, n))
            both.counted
