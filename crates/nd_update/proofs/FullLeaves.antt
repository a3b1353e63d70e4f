-- A full leaf: its points are read one after another, and a leaf is written for each group of them and of one more.
use Rattle.std.proofs.Common.{◌≡◌, ℕ, zero, suc, ◌+◌, ◌-◌, ◌<◌, ◌≤◌, inl, inr, ⊎_elim, ℤ, Some, List, [], ◌∷◌, ◌++◌, length, map, take, get_or, set, refl, sym, ap, subst, ◌∙◌, arith, length-append}
use Rattle.std.specs.Prelude.{replicate}
use Rattle.std.proofs.lemmas.List.{take_all, take_more, length-map}
use Rattle.era_core.specs.declared.sizes.TheConstants.{MOST_ROWS}
use Rattle.era_core.specs.Lists.{times, In}
use Rattle.era_core.specs.Versions.{Cell, look_up}
use Rattle.era_core.proofs.ListFacts.{times-append, times-tail, in_head, in_tail}
use Rattle.era_rows.specs.Known.{Known, known_words}
use Rattle.era_rows.specs.Passes.{known_of, IsReadable}
use Rattle.era_rows.specs.declared.pass.Pass.{Pass}
use Rattle.era_rows.specs.declared.rows.Rows.{Rows}
use Rattle.era_rows.specs.declared.law.Law.{Ghosts}
use Rattle.pls_archive.specs.declared.call.Entry.{Entry}
use Rattle.pls_archive.specs.declared.point.Point.{Point}
use Rattle.pls_archive.specs.Lists.{Every}
use Rattle.pls_archive.proofs.Every.{Every-append}
use Rattle.nd_rows.specs.declared.layout.TheConstants.{LEAF, FIRST_LINK, IDEAL, VALUE}
use Rattle.nd_rows.specs.Nodes.{Placed, no_nodes, rows_with, points_with}
use Rattle.nd_tree.specs.Split.{split}
use Rattle.nd_rows.specs.Layout.{HasWords, HasValue, IsLinkRow, IsBoxRow, IsPointRow}
use Rattle.nd_rows.proofs.Sides.{word_at}
use Rattle.nd_update.specs.Building.{Outside, IsBuilding, Does}
use Rattle.nd_update.specs.Insertion.{at_places, values_with}
use Rattle.nd_update.specs.FilledLeaves.{HasLinked, AreGroupLeaves, values_box}
use Rattle.nd_update.proofs.Alike.{words-alike, value-alike}
use Rattle.nd_update.proofs.Division.{few-groups, many_groups}
use Rattle.nd_update.proofs.Building.{does_both, does_write, now_fresh, still_fresh}
use Rattle.nd_update.proofs.Filling.{taken_apart, still_words, groups_still, groups_more, group_leaf, link_more}

-- ---- lists

module _ {A : Type 0} where
  pub put_one : (xs : List A) (k m : ℕ) (d e : A) → k < length xs → set (take k xs ++ replicate (suc m) d) k (get_or xs k e) ≡ take (suc k) xs ++ replicate m d
  put_one [] k m d e low = absurd (omega arith)
  put_one (x ∷ xs) zero m d e low = refl
  put_one (x ∷ xs) (suc k) m d e low = ap (λ ys. x ∷ ys) (put_one xs k m d e (omega arith))

  -- one more of a list stands in its place
  pub put_next : (xs read : List A) (k : ℕ) (d e x : A) → k < length xs → k < 21 → x ≡ get_or xs k e → read ≡ take k xs ++ replicate (21 - k) d → set read k x ≡ take (k + 1) xs ++ replicate (21 - (k + 1)) d
  put_next xs read k d e x low less is before =
      ap (λ y. set read k y) is
      ∙ ap (λ ys. set ys k (get_or xs k e)) (before ∙ ap (λ n. take k xs ++ replicate n d) (let same : 21 - k ≡ suc (21 - (k + 1)) = omega arith in same))
      ∙ put_one xs k (21 - (k + 1)) d e low
      ∙ ap (λ n. take n xs ++ replicate (21 - (k + 1)) d) (let same : suc k ≡ k + 1 = omega arith in same)

  pub put_all : (xs read : List A) (k : ℕ) (d : A) → k ≡ 20 → length xs ≡ 20 → read ≡ take k xs ++ replicate (21 - k) d → read ≡ xs ++ d ∷ []
  put_all xs read k d done long is =
      is ∙ ap (λ n. take n xs ++ replicate (21 - n) d) done ∙ ap (λ ys. ys ++ d ∷ []) (take_all 20 xs (omega arith))

  pub every_get : (P : A → Type 0) (xs : List A) (k : ℕ) (e : A) → k < length xs → Every P xs → P (get_or xs k e)
  every_get P [] k e low each = absurd (omega arith)
  every_get P (x ∷ xs) zero e low each = each.0
  every_get P (x ∷ xs) (suc k) e low each = every_get P xs k e (omega arith) each.1

-- ---- points

-- a row that a pass may read is a row
pub readable_low : {L : Type 0} {G : Ghosts L Entry} (r : Rows L Entry) (p : Pass L Entry G) → IsBuilding r p → (x : ℕ) → IsReadable x (known_of p) → x < MOST_ROWS
readable_low r p building x readable =
    let few = p.tied.few in
    let same = building.is_pass.sized.rows_are in
    ⊎_elim (λ mine. let low = building.inside x mine in omega (arith, low, same, few)) (λ old. let low = p.tied.tree.inside x old in omega (arith, low, few)) readable

module _ (objectives : ℕ) (k : Known) (row : ℕ) (placed : List Placed) (has : HasLinked objectives k row placed) (i : ℕ) (low : i < length placed) where
  long_rows : length (rows_with placed) ≡ length placed
  long_rows = length-map placed (λ (p : Placed). p.row)

  pub link_word : look_up (known_words k) row (FIRST_LINK + i) ≡ Some (get_or (rows_with placed) i 0)
  link_word = word_at (known_words k) row FIRST_LINK (rows_with placed) has.linked i (let same = long_rows in omega arith)

  pub link_readable : IsReadable (get_or (rows_with placed) i 0) k
  link_readable = has.readable _ (among placed i low)
    where
      among : (ps : List Placed) (n : ℕ) → n < length ps → In (get_or (rows_with ps) n 0) (rows_with ps)
      among [] n less = absurd (omega arith)
      among (q ∷ ps) zero less = in_head q.row (rows_with ps)
      among (q ∷ ps) (suc n) less = in_tail (get_or (rows_with ps) n 0) q.row (rows_with ps) (among ps n (omega arith))

  pub link_value : HasValue objectives (known_words k) (get_or (rows_with placed) i 0) VALUE (get_or (values_with placed) i [])
  link_value = at placed i low has.points
    where
      at : (ps : List Placed) (n : ℕ) → n < length ps → Every (IsPointRow objectives (known_words k)) ps → HasValue objectives (known_words k) (get_or (rows_with ps) n 0) VALUE (get_or (values_with ps) n [])
      at [] n less each = absurd (omega arith)
      at (q ∷ ps) zero less each = each.0.value
      at (q ∷ ps) (suc n) less each = at ps n (omega arith) each.1

pub each_long : (objectives : ℕ) (cells : List Cell) (placed : List Placed) → Every (IsPointRow objectives cells) placed → Every (λ v. length v ≡ objectives) (values_with placed)
each_long objectives cells [] each = tt
each_long objectives cells (p ∷ placed) each = (each.0.value.parts, each_long objectives cells placed each.1)

points_long : (objectives : ℕ) (placed : List Placed) → Every (λ v. length v ≡ objectives) (values_with placed) → Every (λ (p : Point). length p.value ≡ objectives) (points_with placed)
points_long objectives [] each = tt
points_long objectives (p ∷ placed) each = (each.0, points_long objectives placed each.1)

pub values_push : (placed : List Placed) (q : Placed) → values_with (placed ++ q ∷ []) ≡ values_with placed ++ q.point.value ∷ []
values_push [] q = refl
values_push (x ∷ placed) q = ap (λ xs. x.point.value ∷ xs) (values_push placed q)

-- values of 20 points, and one more
module _ (objectives : ℕ) (cells : List Cell) (placed : List Placed) (each : Every (IsPointRow objectives cells) placed) (long : length placed ≡ 20) (value : List ℤ) (parts : length value ≡ objectives) where
  pub all_long : (values : List (List ℤ)) → values ≡ values_with placed ++ value ∷ [] → Every (λ v. length v ≡ objectives) values
  all_long values is = subst (Every (λ v. length v ≡ objectives)) (sym is) (Every-append _ (values_with placed) (value ∷ []) (each_long objectives cells placed each) (parts, tt))

  pub all_uniform : (values : List (List ℤ)) → values ≡ values_with placed ++ value ∷ [] → (k : ℕ) (e : List ℤ) → k < length values → length (get_or values k e) ≡ length (get_or values 0 [])
  all_uniform values is k e low =
      every_get (λ v. length v ≡ objectives) values k e low (all_long values is) ∙ sym (every_get (λ v. length v ≡ objectives) values 0 [] (omega arith) (all_long values is))

  pub some_parts : (2 ≤ objectives) × (objectives ≤ 4)
  some_parts = by_first placed each long
    where
      by_first : (ps : List Placed) → Every (IsPointRow objectives cells) ps → length ps ≡ 20 → (2 ≤ objectives) × (objectives ≤ 4)
      by_first [] is many = absurd (omega arith)
      by_first (q ∷ ps) is many =
          let v = is.0.value in let few = v.is_value.at_most_four in let two = v.is_value.at_least_two in let same = v.parts in (omega arith, omega arith)

-- ---- one group more

module _ {L : Type 0} {G : Ghosts L Entry} (r : Rows L Entry) (row : ℕ) (leaves : List ℕ) (leaf : ℕ) (p q s u : Pass L Entry G) (so_far : Does r leaves [] (row ∷ leaves) p q) (wrote : Does r (leaf ∷ []) [] (leaf ∷ []) q s)
    (linked : Does r [] [] (row ∷ []) s u) (fresh : In row (known_of p).core.fresh) where
  pub row_still : In row (known_of s).core.fresh
  row_still = still_fresh r (leaf ∷ []) [] (leaf ∷ []) q s wrote row (still_fresh r leaves [] (row ∷ leaves) p q so_far row fresh)

  leaf_apart : (x : ℕ) → In x (known_of q).core.fresh → times x (leaf ∷ []) ≡ 0
  leaf_apart x mine = taken_apart r (leaf ∷ []) [] (leaf ∷ []) q s wrote x (inl mine)

  row_leaf : times row (leaf ∷ []) ≡ 0
  row_leaf = leaf_apart row (still_fresh r leaves [] (row ∷ leaves) p q so_far row fresh)

  leaves_apart : times row leaves ≡ 0
  leaves_apart = taken_apart r leaves [] (row ∷ leaves) p q so_far row (inl fresh)

  other_row : (x : ℕ) (xs : List ℕ) → In x xs → times row xs ≡ 0 → times x (row ∷ []) ≡ 0
  other_row x xs here none = times-tail x row [] (λ same. (let e = ap (λ y. times y xs) same in omega (arith, here, none, e)))

  pub groups_does : Does r (leaves ++ leaf ∷ []) [] (row ∷ (leaves ++ leaf ∷ [])) p u
  groups_does =
      does_write r (leaves ++ leaf ∷ []) [] (row ∷ (leaves ++ leaf ∷ [])) (row ∷ []) p s u (λ x here. (let both = times-append x (row ∷ []) (leaves ++ leaf ∷ []) in omega (arith, here, both)))
      (does_both r leaves [] (row ∷ leaves) (leaf ∷ []) [] (leaf ∷ []) p q s so_far wrote) linked

  pub groups_link : (g place : ℕ) → length leaves ≡ g → place ≡ FIRST_LINK + g → HasWords (known_words (known_of q)) row FIRST_LINK leaves → Outside row place (place + 1) (known_words (known_of s)) (known_words (known_of u))
      → look_up (known_words (known_of u)) row place ≡ Some leaf → HasWords (known_words (known_of u)) row FIRST_LINK (leaves ++ leaf ∷ [])
  groups_link g place long at has out there =
      link_more row leaves place leaf (known_words (known_of s)) (known_words (known_of u))
      (words-alike 0 (known_words (known_of q)) (known_words (known_of s)) row FIRST_LINK leaves (still_words r (leaf ∷ []) [] (leaf ∷ []) q s wrote 0 row row_leaf) has) (omega arith) out there

  pub groups_kept : (place : ℕ) → place < IDEAL → ((k : ℕ) → IDEAL ≤ k → look_up (known_words (known_of q)) row k ≡ look_up (known_words (known_of p)) row k) → Outside row place (place + 1) (known_words (known_of s)) (known_words (known_of u))
      → (k : ℕ) → IDEAL ≤ k → look_up (known_words (known_of u)) row k ≡ look_up (known_words (known_of p)) row k
  groups_kept place low kept out k high = out row k (inr (inr (omega arith))) ∙ wrote.elsewhere row k row_leaf ∙ kept k high

  -- leaves for the groups before, and for this one
  pub groups_next : (objectives : ℕ) (placed : List Placed) (groups : List (List ℕ)) (g : ℕ) (group : List ℕ) (links : List ℕ) (values : List (List ℤ)) → g < length groups → group ≡ get_or groups g [] → rows_with placed ≡ links → values_with placed ≡ values
      → AreGroupLeaves objectives (known_words (known_of q)) placed leaves (take g groups)
      → IsLinkRow (known_words (known_of s)) LEAF leaf (at_places links group) → IsBoxRow objectives (known_words (known_of s)) leaf (values_box (at_places values group))
      → AreGroupLeaves objectives (known_words (known_of u)) placed (leaves ++ leaf ∷ []) (take (g + 1) groups)
  groups_next objectives placed groups g group links values low is rows vals before linked' boxed =
      let mine = group_leaf objectives (known_words (known_of s)) placed leaf group
      (subst (λ ls. IsLinkRow (known_words (known_of s)) LEAF leaf (at_places ls group)) (sym rows) linked')
      (subst (λ vs. IsBoxRow objectives (known_words (known_of s)) leaf (values_box (at_places vs group))) (sym vals) boxed) in
      let first = groups_still r (leaf ∷ []) [] (leaf ∷ []) q s wrote objectives placed leaves (take g groups) (λ x here. leaf_apart x (now_fresh r leaves [] (row ∷ leaves) p q so_far x here)) before in
      let all = groups_more objectives (known_words (known_of s)) placed leaves (take g groups) leaf group first mine in
      let none : times row (leaves ++ leaf ∷ []) ≡ 0 = (let both = times-append row leaves (leaf ∷ []) in let one = leaves_apart in let two = row_leaf in omega arith) in
      let now = groups_still r [] [] (row ∷ []) s u linked objectives placed (leaves ++ leaf ∷ []) (take g groups ++ group ∷ []) (λ x here. other_row x (leaves ++ leaf ∷ []) here none) all in
      subst (AreGroupLeaves objectives (known_words (known_of u)) placed (leaves ++ leaf ∷ [])) (sym (take_more groups g [] low ∙ ap (λ ks. take g groups ++ ks ∷ []) (sym is))) now

pub long_push : (leaves : List ℕ) (leaf g : ℕ) → length leaves ≡ g → length (leaves ++ leaf ∷ []) ≡ g + 1
long_push leaves leaf g long = let both = length-append leaves (leaf ∷ []) in omega arith

-- all groups, and then the first word
module _ {L : Type 0} {G : Ghosts L Entry} (r : Rows L Entry) (row : ℕ) (leaves : List ℕ) (p q s : Pass L Entry G) (so_far : Does r leaves [] (row ∷ leaves) p q) (first : Does r [] [] (row ∷ []) q s) where
  pub done_does : Does r leaves [] (row ∷ leaves) p s
  done_does = does_write r leaves [] (row ∷ leaves) (row ∷ []) p q s (λ x here. (let both = times-append x (row ∷ []) leaves in omega (arith, here, both))) so_far first

  pub done_groups : In row (known_of p).core.fresh → (objectives : ℕ) (placed : List Placed) (groups : List (List ℕ)) → AreGroupLeaves objectives (known_words (known_of q)) placed leaves groups → AreGroupLeaves objectives (known_words (known_of s)) placed leaves groups
  done_groups fresh objectives placed groups are =
      let none = taken_apart r leaves [] (row ∷ leaves) p q so_far row (inl fresh) in
      groups_still r [] [] (row ∷ []) q s first objectives placed leaves groups (λ x here. times-tail x row [] (λ same. (let e = ap (λ y. times y leaves) same in omega (arith, here, none, e)))) are

-- a value of a row that was not changed
pub value_read : {L : Type 0} {G : Ghosts L Entry} (r : Rows L Entry) (t m c : List ℕ) (p q : Pass L Entry G) → Does r t m c p q → (objectives row place : ℕ) (v : List ℤ) → times row c ≡ 0
    → HasValue objectives (known_words (known_of p)) row place v → HasValue objectives (known_words (known_of q)) row place v
value_read r t m c p q one objectives row place v none has = value-alike objectives (known_words (known_of p)) (known_words (known_of q)) row place v (still_words r t m c p q one objectives row none) has

-- how many groups there are, and how many places each has
module _ (objectives : ℕ) (cells : List Cell) (placed : List Placed) (each : Every (IsPointRow objectives cells) placed) (long : length placed ≡ 20) (value : List ℤ) (parts : length value ≡ objectives) (values : List (List ℤ))
    (is : values ≡ values_with placed ++ value ∷ []) where
  -- some points with these values
  abbrev points : List Placed
  points = map (λ v. record { row = 0; point = record { value = v; sol = record { len = 0; words = [] } } }) values

  same_values : (vs : List (List ℤ)) → values_with (map (λ v. record { row = 0; point = record { value = v; sol = record { len = 0; words = [] } } }) vs) ≡ vs
  same_values [] = refl
  same_values (v ∷ vs) = ap (λ ws. v ∷ ws) (same_values vs)

  many : length points ≡ 21
  many =
      let a : length points ≡ length values = length-map values (λ (v : List ℤ). record { row = 0; point = record { value = v; sol = record { len = 0; words = [] } } }) in
      let b : length values ≡ length (values_with placed ++ value ∷ []) = ap length is in
      let both = length-append (values_with placed) (value ∷ []) in
      let same : length (values_with placed) ≡ length placed = length-map placed (λ (p : Placed). p.point.value) in omega arith

  long_points : Every (λ (p : Point). length p.value ≡ objectives) (points_with points)
  long_points = points_long objectives points (subst (Every (λ v. length v ≡ objectives)) (sym (same_values values)) (all_long objectives cells placed each long value parts values is))

  pub groups_few : Every (λ ks. (0 < length ks) × (length ks ≤ 20)) (split values)
  groups_few =
      let d = some_parts objectives cells placed each long value parts in
      subst (λ vs. Every (λ ks. (0 < length ks) × (length ks ≤ 20)) (split vs)) (same_values values) (few-groups 0 objectives d.0 d.1 (record { ideal = []; nadir = [] }) points no_nodes long_points many)

  pub groups_are : length (split values) ≡ objectives + 1
  groups_are =
      let d = some_parts objectives cells placed each long value parts in
      let full = many in
      let n : length (split (values_with points)) ≡ objectives + 1 = many_groups 0 objectives d.0 d.1 (record { ideal = []; nadir = [] }) points no_nodes long_points (omega arith) in
      let same : length (split (values_with points)) ≡ length (split values) = ap (λ vs. length (split vs)) (same_values values) in omega arith

  pub groups_count : length (split values) ≤ 5
  groups_count = let low = (some_parts objectives cells placed each long value parts).1 in let n = groups_are in omega arith
