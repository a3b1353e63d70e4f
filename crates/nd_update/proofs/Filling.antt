-- Points that a pass puts into leaves in its rows.
use Rattle.std.proofs.Common.{◌≡◌, ◌≢◌, ℕ, zero, suc, ◌+◌, ◌*◌, ◌<◌, ◌≤◌, inl, inr, ⊎_elim, IsTrue, ℤ, Option, Some, None, MatchOption, List, [], ◌∷◌, ◌++◌, length, map, take, drop, get_or, refl, sym, ap, ap₂, subst, ◌∙◌, arith, length-append}
use Rattle.std.proofs.lemmas.Grind.{flat_map-append}
use Rattle.std.proofs.lemmas.List.{take_more, drop-map, take-map, map-append, length-map}
use Rattle.std.proofs.lemmas.Bool.{and_parts}
use Rattle.era_core.specs.declared.sizes.TheConstants.{KINDS}
use Rattle.era_core.specs.Lists.{times, In}
use Rattle.era_core.specs.Versions.{Cell, Copy, look_up}
use Rattle.era_core.proofs.ListFacts.{times-append, times-head, times-tail, in_head, in_tail}
use Rattle.era_rows.specs.Known.{known_words}
use Rattle.era_rows.specs.Passes.{known_of, marked_of, IsReadable}
use Rattle.era_rows.specs.declared.pass.Pass.{Pass}
use Rattle.era_rows.specs.declared.rows.Rows.{Rows}
use Rattle.era_rows.specs.declared.law.Law.{Ghosts}
use Rattle.pls_archive.specs.declared.call.Entry.{Entry}
use Rattle.pls_archive.specs.declared.point.Point.{Point}
use Rattle.pls_vectors.specs.Box.{Box, box_of, grown, encloses}
use Rattle.pls_vectors.specs.Dominance.{weakly_dominates}
use Rattle.pls_vectors.proofs.Boxes.{weakly_dominates-length}
use Rattle.nd_rows.specs.declared.layout.TheConstants.{LEAF, FIRST_LINK, IDEAL, NADIR}
use Rattle.nd_rows.specs.Nodes.{Placed, rows_with}
use Rattle.nd_rows.specs.Layout.{HasWords, HasValue, IsLinkRow, IsBoxRow, IsPointRow}
use Rattle.nd_update.specs.Building.{Outside, IsBuilding, Does}
use Rattle.nd_update.specs.Counted.{IsPaid}
use Rattle.nd_update.specs.Insertion.{at_places, box_around, grown_by, values_with}
use Rattle.nd_update.specs.Naming.{IsLeafRow}
use Rattle.nd_update.specs.FilledLeaves.{HasLinked, IsGroupLeaf, AreGroupLeaves, AreDivided, IsPut, grown_all, values_box}
use Rattle.nd_update.proofs.Alike.{Agree, words-alike, links-alike, box-alike, point-alike, points-alike}
use Rattle.nd_update.proofs.Building.{words_outside, words_snoc, does_both, does_wider, writes_both, now_fresh, still_fresh, still_readable, still_pinned}
use Rattle.nd_update.proofs.Paying.{paid_took}

no_times : (n : ℕ) → (0 < n → ⊥) → n ≡ 0
no_times zero none = refl
no_times (suc n) none = absurd (none (omega arith))

-- ---- places

module _ {A : Type 0} where
  pub places-append : (xs : List A) (ks js : List ℕ) → at_places xs (ks ++ js) ≡ at_places xs ks ++ at_places xs js
  places-append xs ks js = flat_map-append (λ k. take 1 (drop k xs)) ks js

  one_there : (xs : List A) (k : ℕ) (d : A) → k < length xs → take 1 (drop k xs) ≡ get_or xs k d ∷ []
  one_there [] k d low = absurd (omega arith)
  one_there (x ∷ xs) zero d low = refl
  one_there (x ∷ xs) (suc k) d low = one_there xs k d (omega arith)

  -- one place more
  pub places_next : (xs : List A) (group : List ℕ) (i : ℕ) (x d : A) → i < length group → get_or group i 0 < length xs → x ≡ get_or xs (get_or group i 0) d
      → at_places xs (take (i + 1) group) ≡ at_places xs (take i group) ++ x ∷ []
  places_next xs group i x d low within there =
      ap (at_places xs) (take_more group i 0 low) ∙ places-append xs (take i group) (get_or group i 0 ∷ [])
      ∙ ap (λ ys. at_places xs (take i group) ++ (ys ++ [])) (one_there xs (get_or group i 0) d within ∙ ap (λ y. y ∷ []) (sym there))

places-map : {A B : Type 0} (f : A → B) (xs : List A) (ks : List ℕ) → map f (at_places xs ks) ≡ at_places (map f xs) ks
places-map f xs [] = refl
places-map f xs (k ∷ ks) =
    map-append f (take 1 (drop k xs)) (at_places xs ks) ∙ ap₂ (λ ys zs. ys ++ zs) (sym (ap (take 1) (drop-map f k xs) ∙ take-map f 1 (drop k xs))) (places-map f xs ks)

-- ---- boxes

grown_all-next : (b : Box) (vs : List (List ℤ)) (v : List ℤ) → grown_all b (vs ++ v ∷ []) ≡ grown (grown_all b vs) v
grown_all-next b [] v = refl
grown_all-next b (w ∷ vs) v = grown_all-next (grown b w) vs v

pub values_box-next : (vs : List (List ℤ)) (v : List ℤ) → 0 < length vs → values_box (vs ++ v ∷ []) ≡ grown (values_box vs) v
values_box-next [] v some = absurd (omega arith)
values_box-next (w ∷ vs) v some = grown_all-next (box_of w) vs v

grown_by-values : (b : Box) (placed : List Placed) → grown_by b placed ≡ grown_all b (values_with placed)
grown_by-values b [] = refl
grown_by-values b (p ∷ placed) = grown_by-values (grown b p.point.value) placed

pub around-values : (placed : List Placed) → box_around placed ≡ values_box (values_with placed)
around-values [] = refl
around-values (p ∷ placed) = grown_by-values (box_of p.point.value) placed

pub parts_enclosing : (b : Box) (v : List ℤ) → IsTrue (encloses b v) → (length b.ideal ≡ length v) × (length b.nadir ≡ length v)
parts_enclosing b v inside =
    let both = and_parts (weakly_dominates b.ideal v) (weakly_dominates v b.nadir) inside in
    (weakly_dominates-length b.ideal v both.0, sym (weakly_dominates-length v b.nadir both.1))

-- ---- rows

-- the words of a box stand where others are written
pub box_still : (objectives : ℕ) (a b : List Cell) (row : ℕ) (box : Box) → ((k : ℕ) → IDEAL ≤ k → look_up b row k ≡ look_up a row k) → IsBoxRow objectives a row box → IsBoxRow objectives b row box
box_still objectives a b row box same is = record { ideal = value IDEAL box.ideal (omega arith) is.ideal; nadir = value NADIR box.nadir (omega arith) is.nadir }
  where
    words : (p : ℕ) (ws : List ℕ) → IDEAL ≤ p → HasWords a row p ws → HasWords b row p ws
    words p [] high has = tt
    words p (w ∷ ws) high has = (same p high ∙ has.0, words (p + 1) ws (omega arith) has.1)

    value : (p : ℕ) (v : List ℤ) → IDEAL ≤ p → HasValue objectives a row p v → HasValue objectives b row p v
    value p v high has = record { words = words p _ high has.words; is_value = has.is_value; parts = has.parts }

-- links that stand, and then the first word, and then the box
pub link_row : (kind row : ℕ) (links : List ℕ) (a b c : List Cell) → HasWords a row FIRST_LINK links → length links ≤ 20 → Outside row 0 1 a b → look_up b row 0 ≡ Some (KINDS * length links + kind)
    → Outside row IDEAL (NADIR + 4) b c → IsLinkRow c kind row links
link_row kind row links a b c has few first there box = record {
  first = box row 0 (inr (inl (omega arith))) ∙ there;
  linked = words_outside row IDEAL (NADIR + 4) b c box row FIRST_LINK links (inr (inl (omega arith))) (words_outside row 0 1 a b first row FIRST_LINK links (inr (inr (omega arith))) has);
}

-- the same without a box
pub first_row : (kind row : ℕ) (links : List ℕ) (a b : List Cell) → HasWords a row FIRST_LINK links → Outside row 0 1 a b → look_up b row 0 ≡ Some (KINDS * length links + kind) → IsLinkRow b kind row links
first_row kind row links a b has first there = record {
  first = there;
  linked = words_outside row 0 1 a b first row FIRST_LINK links (inr (inr (omega arith))) has;
}

-- one link more
pub link_more : (row : ℕ) (links : List ℕ) (place w : ℕ) (a b : List Cell) → HasWords a row FIRST_LINK links → place ≡ FIRST_LINK + length links → Outside row place (place + 1) a b → look_up b row place ≡ Some w
    → HasWords b row FIRST_LINK (links ++ w ∷ [])
link_more row links place w a b has at out there =
    words_snoc b row FIRST_LINK links w (words_outside row place (place + 1) a b out row FIRST_LINK links (inr (inl (omega arith))) has)
    (subst (λ n. look_up b row n ≡ Some w) at there)

-- ---- steps

module _ {L : Type 0} {G : Ghosts L Entry} (r : Rows L Entry) (t m c : List ℕ) (p q : Pass L Entry G) (one : Does r t m c p q) where
  -- a row that could be read was not taken
  pub taken_apart : (x : ℕ) → IsReadable x (known_of p) → times x t ≡ 0
  taken_apart x readable =
      let once = one.building.once x in
      let parts = ap (times x) one.fresh in
      let both = times-append x (known_of p).core.fresh t in
      ⊎_elim (λ mine. omega (arith, once, parts, both, mine))
      (λ old. no_times (times x t) (λ here.
      let unread = one.building.unread x (omega (arith, parts, both, here)) in
      let same = ap (λ (y : Copy). times x y.rows) (still_pinned r t m c p q one) in omega (arith, unread, same, old)))
      readable

  pub still_words : (objectives x : ℕ) → times x c ≡ 0 → Agree objectives (known_words (known_of p)) (known_words (known_of q)) x
  still_words objectives x none k w there = one.elsewhere x k none ∙ there

  pub linked_still : (objectives row : ℕ) (placed : List Placed) → times row c ≡ 0 → ((x : ℕ) → IsReadable x (known_of p) → times x c ≡ 0) → HasLinked objectives (known_of p) row placed → HasLinked objectives (known_of q) row placed
  linked_still objectives row placed none apart has = record {
    linked = words-alike objectives (known_words (known_of p)) (known_words (known_of q)) row FIRST_LINK (rows_with placed) (still_words objectives row none) has.linked;
    points = points-alike objectives (known_words (known_of p)) (known_words (known_of q)) placed (λ x here. still_words objectives x (apart x (has.readable x here))) has.points;
    readable = λ x here. still_readable r t m c p q one x (has.readable x here);
  }

  -- leaves of groups stay
  pub groups_still : (objectives : ℕ) (placed : List Placed) (leaves : List ℕ) (groups : List (List ℕ)) → ((x : ℕ) → In x leaves → times x c ≡ 0)
      → AreGroupLeaves objectives (known_words (known_of p)) placed leaves groups → AreGroupLeaves objectives (known_words (known_of q)) placed leaves groups
  groups_still objectives placed [] [] apart are = tt
  groups_still objectives placed [] (group ∷ groups) apart are = absurd are
  groups_still objectives placed (row ∷ leaves) [] apart are = absurd are
  groups_still objectives placed (row ∷ leaves) (group ∷ groups) apart are =
      let same = still_words objectives row (apart row (in_head row leaves)) in (
        record {
          links = links-alike objectives (known_words (known_of p)) (known_words (known_of q)) LEAF row _ same are.0.links;
          boxed = λ some. box-alike objectives (known_words (known_of p)) (known_words (known_of q)) row _ same (are.0.boxed some);
        },
        groups_still objectives placed leaves groups (λ x here. apart x (in_tail x row leaves here)) are.1,
      )

-- a leaf for one group more
pub groups_more : (objectives : ℕ) (cells : List Cell) (placed : List Placed) (leaves : List ℕ) (groups : List (List ℕ)) (row : ℕ) (group : List ℕ)
    → AreGroupLeaves objectives cells placed leaves groups → IsGroupLeaf objectives cells placed row group → AreGroupLeaves objectives cells placed (leaves ++ row ∷ []) (groups ++ group ∷ [])
groups_more objectives cells placed [] [] row group are is = (is, tt)
groups_more objectives cells placed [] (g ∷ groups) row group are is = absurd are
groups_more objectives cells placed (l ∷ leaves) [] row group are is = absurd are
groups_more objectives cells placed (l ∷ leaves) (g ∷ groups) row group are is = (are.0, groups_more objectives cells placed leaves groups row group are.1 is)

-- a leaf with the points at these places, by its links and its box
pub group_leaf : (objectives : ℕ) (cells : List Cell) (placed : List Placed) (row : ℕ) (group : List ℕ) → IsLinkRow cells LEAF row (at_places (rows_with placed) group)
    → IsBoxRow objectives cells row (values_box (at_places (values_with placed) group)) → IsGroupLeaf objectives cells placed row group
group_leaf objectives cells placed row group links box = record {
  links = subst (IsLinkRow cells LEAF row) (sym (places-map (λ (p : Placed). p.row) placed group)) links;
  boxed = λ some. subst (IsBoxRow objectives cells row) (sym (around-values (at_places placed group) ∙ ap values_box (places-map (λ (p : Placed). p.point.value) placed group))) box;
}

-- a point, and then a leaf with it alone
module _ {L : Type 0} {G : Ghosts L Entry} (r : Rows L Entry) (objectives at leaf : ℕ) (p q s : Pass L Entry G) (took : Does r (at ∷ []) [] [] p q) (wrote : Does r [] [] (at ∷ []) q s) where
  pub point_does : Does r (at ∷ []) [] (at ∷ []) p s
  point_does = does_both r (at ∷ []) [] [] [] [] (at ∷ []) p q s took wrote

  pub point_paid : (n : ℕ) → IsBuilding r p → IsPaid n (known_of p) (marked_of p) → IsPaid (n + 1) (known_of s) (marked_of s)
  point_paid n building paid = paid_took r n at [] (at ∷ []) p s building point_does paid

  module _ (t u v w : Pass L Entry G) (took' : Does r (leaf ∷ []) [] [] s t) (link : Does r [] [] (leaf ∷ []) t u) (first : Does r [] [] (leaf ∷ []) u v) (box : Does r [] [] (leaf ∷ []) v w) where
    leaf_does : Does r (leaf ∷ []) [] (leaf ∷ []) s w
    leaf_does = does_both r (leaf ∷ []) [] [] [] [] (leaf ∷ []) s t w took' (writes_both r leaf t v w (writes_both r leaf t u v link first) box)

    pub alone_does : Does r (at ∷ leaf ∷ []) [] (at ∷ leaf ∷ []) p w
    alone_does = does_both r (at ∷ []) [] (at ∷ []) (leaf ∷ []) [] (leaf ∷ []) p s w point_does leaf_does

    pub alone_point : (point : Point) → IsPointRow objectives (known_words (known_of s)) (record { row = at; point = point }) → IsPointRow objectives (known_words (known_of w)) (record { row = at; point = point })
    alone_point point is =
        let apart = taken_apart r (leaf ∷ []) [] (leaf ∷ []) s w leaf_does at (inl (now_fresh r (at ∷ []) [] (at ∷ []) p s point_does at (in_head at []))) in
        point-alike objectives (known_words (known_of s)) (known_words (known_of w)) (record { row = at; point = point }) (still_words r (leaf ∷ []) [] (leaf ∷ []) s w leaf_does objectives at apart) is

    pub alone_leaf : (point : Point) (b : Box) → look_up (known_words (known_of u)) leaf FIRST_LINK ≡ Some at → Outside leaf 0 1 (known_words (known_of u)) (known_words (known_of v)) → look_up (known_words (known_of v)) leaf 0 ≡ Some (KINDS * 1 + LEAF)
        → Outside leaf IDEAL (NADIR + 4) (known_words (known_of v)) (known_words (known_of w)) → IsBoxRow objectives (known_words (known_of w)) leaf b → b ≡ box_of point.value
        → IsLeafRow objectives (known_words (known_of w)) leaf (box_of point.value) (record { row = at; point = point } ∷ [])
    alone_leaf point b linked out there out' boxed is = record {
      links = link_row LEAF leaf (at ∷ []) (known_words (known_of u)) (known_words (known_of v)) (known_words (known_of w)) (linked, tt) (omega arith) out there out';
      boxed = λ some. subst (IsBoxRow objectives (known_words (known_of w)) leaf) is boxed;
    }

-- ---- the links and the box of a leaf, one point after another

module _ (objectives leaf : ℕ) (links : List ℕ) (values : List (List ℤ)) (group : List ℕ) (inside : (i : ℕ) → i < length group → (get_or group i 0 < length links) × (get_or group i 0 < length values))
    (parts : (i : ℕ) → i < length group → (v : List ℤ) → v ≡ get_or values (get_or group i 0) v → length v ≡ objectives) where
  pub link_first : (cells : List Cell) (x : ℕ) → 0 < length group → x ≡ get_or links (get_or group 0 0) 0 → look_up cells leaf FIRST_LINK ≡ Some x → HasWords cells leaf FIRST_LINK (at_places links (take 1 group))
  link_first cells x some is there = subst (HasWords cells leaf FIRST_LINK) (sym (places_next links group 0 x 0 some (inside 0 some).0 is)) (there, tt)

  pub links_long : (k x : ℕ) → k < length group → x ≡ get_or links (get_or group k 0) 0 → length (at_places links (take k group)) ≡ k → length (at_places links (take (k + 1) group)) ≡ k + 1
  links_long k x low is long =
      let both = length-append (at_places links (take k group)) (x ∷ []) in
      let e = ap length (places_next links group k x 0 low (inside k low).0 is) in omega arith

  pub link_next : (k x place : ℕ) (a b : List Cell) → k < length group → x ≡ get_or links (get_or group k 0) 0 → place ≡ FIRST_LINK + k → length (at_places links (take k group)) ≡ k → HasWords a leaf FIRST_LINK (at_places links (take k group))
      → Outside leaf place (place + 1) a b → look_up b leaf place ≡ Some x → HasWords b leaf FIRST_LINK (at_places links (take (k + 1) group))
  link_next k x place a b low is at long has out there =
      subst (HasWords b leaf FIRST_LINK) (sym (places_next links group k x 0 low (inside k low).0 is)) (link_more leaf (at_places links (take k group)) place x a b has (omega arith) out there)

  pub box_first : (v : List ℤ) (range : Box) → 0 < length group → v ≡ get_or values (get_or group 0 0) v → range ≡ box_of v → range ≡ values_box (at_places values (take 1 group))
  box_first v range some is one = one ∙ sym (ap values_box (places_next values group 0 v v some (inside 0 some).1 is))

  pub box_next : (k : ℕ) (v : List ℤ) (range range' : Box) → 1 ≤ k → k < length group → v ≡ get_or values (get_or group k 0) v → range ≡ values_box (at_places values (take k group)) → range' ≡ grown range v
      → range' ≡ values_box (at_places values (take (k + 1) group))
  box_next k v range range' some low is before now =
      now ∙ ap (λ b. grown b v) before ∙ sym (values_box-next (at_places values (take k group)) v (nonempty k some low)) ∙ sym (ap values_box (places_next values group k v v low (inside k low).1 is))
    where
      nonempty : (n : ℕ) → 1 ≤ n → n < length group → 0 < length (at_places values (take n group))
      nonempty zero some low = absurd (omega arith)
      nonempty (suc n) some low = by_list group inside low
        where
          by_list : (ks : List ℕ) → ((i : ℕ) → i < length ks → (get_or ks i 0 < length links) × (get_or ks i 0 < length values)) → suc n < length ks → 0 < length (at_places values (take (suc n) ks))
          by_list [] within low = absurd (omega arith)
          by_list (j ∷ ks) within low =
              let d : List ℤ = [] in
              let one = ap length (one_there values j d (within 0 (omega arith)).1) in
              let both = length-append (take 1 (drop j values)) (at_places values (take n ks)) in omega arith

  pub box_long : (k : ℕ) (v : List ℤ) (range range' : Box) → k < length group → v ≡ get_or values (get_or group k 0) v → IsTrue (encloses range' v) → (length range'.ideal ≡ objectives) × (length range'.nadir ≡ objectives)
  box_long k v range range' low is inside' =
      let long = parts k low v is in
      let both = parts_enclosing range' v inside' in (both.0 ∙ long, both.1 ∙ long)

-- ---- a point for a leaf in a fresh row

module _ {L : Type 0} {G : Ghosts L Entry} (r : Rows L Entry) (objectives at row : ℕ) (p q s : Pass L Entry G) (took : Does r (at ∷ []) [] [] p q) (wrote : Does r [] [] (at ∷ []) q s) (fresh : In row (known_of p).core.fresh) where
  at_does : Does r (at ∷ []) [] (at ∷ []) p s
  at_does = point_does r objectives at 0 p q s took wrote

  row_apart : times row (at ∷ []) ≡ 0
  row_apart = taken_apart r (at ∷ []) [] (at ∷ []) p s at_does row (inl fresh)

  pub row_fresh : In row (known_of s).core.fresh
  row_fresh = still_fresh r (at ∷ []) [] (at ∷ []) p s at_does row fresh

  pub linked_on : (placed : List Placed) → HasLinked objectives (known_of p) row placed → HasLinked objectives (known_of s) row placed
  linked_on placed has = linked_still r (at ∷ []) [] (at ∷ []) p s at_does objectives row placed row_apart (λ x readable. taken_apart r (at ∷ []) [] (at ∷ []) p s at_does x readable) has

  pub put_kept : (u : Pass L Entry G) → ((k : ℕ) → IDEAL ≤ k → look_up (known_words (known_of u)) row k ≡ look_up (known_words (known_of s)) row k) → (k : ℕ) → IDEAL ≤ k → look_up (known_words (known_of u)) row k ≡ look_up (known_words (known_of p)) row k
  put_kept u kept k high = kept k high ∙ at_does.elsewhere row k row_apart

  module _ (u : Pass L Entry G) (leaves : List ℕ) (filled : Does r leaves [] (row ∷ leaves) s u) where
    pub put_does : Does r (at ∷ leaves) [] (row ∷ at ∷ leaves) p u
    put_does =
        does_wider r (at ∷ leaves) [] (at ∷ row ∷ leaves) (row ∷ at ∷ leaves) p u (λ x here. omega (arith, here))
        (does_both r (at ∷ []) [] (at ∷ []) leaves [] (row ∷ leaves) p s u at_does filled)

    pub put_point : (point : Point) → IsPointRow objectives (known_words (known_of s)) (record { row = at; point = point }) → IsPointRow objectives (known_words (known_of u)) (record { row = at; point = point })
    put_point point is =
        let mine : In at (known_of s).core.fresh = now_fresh r (at ∷ []) [] (at ∷ []) p s at_does at (in_head at []) in
        let other : at ≢ row = λ e. (let head = subst (λ x. times row (x ∷ []) ≡ 1) (sym e) (times-head row []) in let none = row_apart in omega (arith, head, none)) in
        let apart : times at (row ∷ leaves) ≡ 0 = times-tail at row leaves other ∙ taken_apart r leaves [] (row ∷ leaves) s u filled at (inl mine) in
        point-alike objectives (known_words (known_of s)) (known_words (known_of u)) (record { row = at; point = point }) (still_words r leaves [] (row ∷ leaves) s u filled objectives at apart) is

    -- where the leaf has room
    pub put_fits : (placed : List Placed) (point : Point) → leaves ≡ [] → length placed < 20 → IsLinkRow (known_words (known_of u)) LEAF row (rows_with (placed ++ record { row = at; point = point } ∷ []))
        → IsPointRow objectives (known_words (known_of s)) (record { row = at; point = point }) → IsPut objectives (known_words (known_of u)) row placed point at leaves
    put_fits placed point none low links is = record { point = put_point point is; fits = λ few. (none, links); full = λ e. absurd (omega arith) }

    pub put_full : (placed : List Placed) (point : Point) → length placed ≡ 20 → AreDivided objectives (known_words (known_of u)) row (placed ++ record { row = at; point = point } ∷ []) leaves
        → IsPointRow objectives (known_words (known_of s)) (record { row = at; point = point }) → IsPut objectives (known_words (known_of u)) row placed point at leaves
    put_full placed point many divided is = record { point = put_point point is; fits = λ few. absurd (omega arith); full = λ e. divided }

-- one link more, and the first word
pub rows_push : (placed : List Placed) (q : Placed) → rows_with (placed ++ q ∷ []) ≡ rows_with placed ++ q.row ∷ []
rows_push [] q = refl
rows_push (x ∷ placed) q = ap (λ xs. x.row ∷ xs) (rows_push placed q)

pub leaf_row : (row : ℕ) (placed : List Placed) (q : Placed) (a b c : List Cell) → HasWords a row FIRST_LINK (rows_with placed) → Outside row (FIRST_LINK + length placed) (FIRST_LINK + length placed + 1) a b
    → look_up b row (FIRST_LINK + length placed) ≡ Some q.row → Outside row 0 1 b c → look_up c row 0 ≡ Some (KINDS * (length placed + 1) + LEAF) → IsLinkRow c LEAF row (rows_with (placed ++ q ∷ []))
leaf_row row placed q a b c has out there first word =
    let long = length-map placed (λ (p : Placed). p.row) in
    let both = length-append (rows_with placed) (q.row ∷ []) in
    let all : length (rows_with placed ++ q.row ∷ []) ≡ length placed + 1 = omega arith in
    subst (IsLinkRow c LEAF row) (sym (rows_push placed q))
    (first_row LEAF row (rows_with placed ++ q.row ∷ []) b c
    (link_more row (rows_with placed) (FIRST_LINK + length placed) q.row a b has (omega arith) out there) first (word ∙ ap (λ n. Some (KINDS * n + LEAF)) (sym all)))

pub match_both : {A : Type 0} (o : Option A) (M N : Type 0) (P Q : A → Type 0) → (M → N) → ((x : A) → P x → Q x) → MatchOption o M P → MatchOption o N Q
match_both None M N P Q none on is = none is
match_both (Some x) M N P Q none on is = on x is
