-- What is read of a node at which the point is: rows on its way, or fresh ones.
use Rattle.std.proofs.Common.{◌≡◌, ◌≢◌, ℕ, ◌/◌, ◌%◌, ◌⊎◌, inl, inr, ⊎_elim, if◌then◌else◌, eq-eqb, ℤ, Some, List, [], ◌∷◌, ◌++◌, length, refl, sym, ap, subst, ◌∙◌, arith}
use Rattle.era_core.specs.declared.sizes.TheConstants.{KINDS}
use Rattle.era_core.specs.Lists.{In}
use Rattle.era_core.specs.Versions.{look_up}
use Rattle.era_core.proofs.ListFacts.{in_cases, in_head, in_tail, in-append_left, in-append_right}
use Rattle.era_rows.specs.Known.{pinned_copy, known_words}
use Rattle.era_rows.specs.Passes.{known_of, marked_of}
use Rattle.era_rows.specs.declared.pass.Pass.{Pass}
use Rattle.era_rows.specs.declared.rows.Rows.{Rows}
use Rattle.era_rows.specs.declared.law.Law.{Ghosts}
use Rattle.pls_archive.specs.declared.call.Entry.{Entry}
use Rattle.pls_archive.specs.declared.point.Point.{Point}
use Rattle.pls_vectors.specs.Box.{Box}
use Rattle.nd_rows.specs.declared.layout.TheConstants.{LEAF}
use Rattle.nd_rows.specs.Nodes.{Placed, Nodes, no_nodes, leaf, inner, heads, rows_with}
use Rattle.nd_update.specs.Building.{IsBuilding, Does}
use Rattle.nd_update.specs.FilledLeaves.{HasLinked}
use Rattle.nd_update.specs.Insertion.{place_among}
use Rattle.nd_update.specs.Left.{IsLeft}
use Rattle.nd_update.specs.Naming.{HasName, ArePlacedNamed, AreNamed, name_of, names_with, names_of}
use Rattle.nd_update.specs.Needed.{ReadsOnly, on_way}
use Rattle.nd_update.specs.Removal.{without_dominated}
use Rattle.nd_update.specs.Ways.{HasNode, touched}
use Rattle.nd_update.proofs.Building.{still_fresh}
use Rattle.nd_update.proofs.Descending.{IsFocused, IsAt}
use Rattle.nd_update.proofs.Focusing.{the_leaf, leaf_focused, leaf_links, the_inner, inner_focused}
use Rattle.nd_update.proofs.Naming.{heads-named}
use Rattle.nd_update.proofs.Reading.{only_within, only_fresh, only_then, then_only}

-- ---- the rows that named nodes link

-- the rows that the first of the nodes links
abbrev pub links_of_first : Nodes → List ℕ
links_of_first no_nodes = []
links_of_first (leaf r b placed later) = rows_with placed
links_of_first (inner r b kids later) = heads kids

module _ (new : ℕ) where
  -- a row with a name is one that was named, or known before
  name_or_row : (r name x : ℕ) (rows names others : List ℕ) → HasName new r name → In x (name ∷ rows) → (In x rows → In x names ⊎ In x others) → In x (name_of new r name ++ names) ⊎ In x (r ∷ others)
  name_or_row r name x rows names others has here below =
      ⊎_elim
      (λ e.
      ⊎_elim
      (λ is_new. inl (in-append_left x (name_of new r name) names (subst (λ b. In x (if b then name ∷ [] else [])) (sym (eq-eqb r new is_new)) (subst (λ y. In x (y ∷ [])) e (in_head x [])))))
      (λ same. inr (subst (λ y. In x (y ∷ others)) (e ∙ same) (in_head x others)))
      has)
      (λ later. ⊎_elim (λ named. inl (in-append_right x (name_of new r name) names named)) (λ known. inr (in_tail x r others known)) (below later))
      (in_cases x name rows here)

  placed_named : (placed named : List Placed) → ArePlacedNamed new placed named → (x : ℕ) → In x (rows_with named) → In x (names_with new placed named) ⊎ In x (rows_with placed)
  placed_named [] [] are x here = inr here
  placed_named [] (q ∷ named) are x here = absurd are
  placed_named (p ∷ placed) [] are x here = absurd are
  placed_named (p ∷ placed) (q ∷ named) are x here = name_or_row p.row q.row x (rows_with named) (names_with new placed named) (rows_with placed) are.0 here (placed_named placed named are.2 x)

  -- names of what is below a node, and of the nodes after it
  past : (x : ℕ) (first rows names others : List ℕ) → In x names ⊎ In x rows → In x (first ++ (others ++ names)) ⊎ In x rows
  past x first rows names others = ⊎_elim (λ named. inl (in-append_right x first (others ++ names) (in-append_right x others names named))) (λ known. inr known)

  below : (x : ℕ) (first rows names others : List ℕ) → In x names ⊎ In x rows → In x (first ++ (names ++ others)) ⊎ In x rows
  below x first rows names others = ⊎_elim (λ named. inl (in-append_right x first (names ++ others) (in-append_left x names others named))) (λ known. inr known)

  pub heads_or_names : (ns ms : Nodes) → AreNamed new ns ms → (x : ℕ) → In x (heads ms) → In x (names_of new ns ms) ⊎ In x (heads ns)
  heads_or_names no_nodes no_nodes are x here = inr here
  heads_or_names no_nodes (leaf name box named others) are x here = absurd are
  heads_or_names no_nodes (inner name box named others) are x here = absurd are
  heads_or_names (leaf r b placed later) no_nodes are x here = absurd are
  heads_or_names (leaf r b placed later) (leaf name box named others) are x here =
      name_or_row r name x (heads others) (names_with new placed named ++ names_of new later others) (heads later) are.0 here
      (λ after. past x [] (heads later) (names_of new later others) (names_with new placed named) (heads_or_names later others are.3 x after))
  heads_or_names (leaf r b placed later) (inner name box named others) are x here = absurd are
  heads_or_names (inner r b kids later) no_nodes are x here = absurd are
  heads_or_names (inner r b kids later) (leaf name box named others) are x here = absurd are
  heads_or_names (inner r b kids later) (inner name box named others) are x here =
      name_or_row r name x (heads others) (names_of new kids named ++ names_of new later others) (heads later) are.0 here
      (λ after. past x [] (heads later) (names_of new later others) (names_of new kids named) (heads_or_names later others are.3 x after))

  -- a row that the first of named nodes links is named, or was linked
  links_or_names : (ns ms : Nodes) → AreNamed new ns ms → (x : ℕ) → In x (links_of_first ms) → In x (names_of new ns ms) ⊎ In x (links_of_first ns)
  links_or_names no_nodes no_nodes are x here = inr here
  links_or_names no_nodes (leaf name box named others) are x here = absurd are
  links_or_names no_nodes (inner name box named others) are x here = absurd are
  links_or_names (leaf r b placed later) no_nodes are x here = absurd are
  links_or_names (leaf r b placed later) (leaf name box named others) are x here =
      below x (name_of new r name) (rows_with placed) (names_with new placed named) (names_of new later others) (placed_named placed named are.2 x here)
  links_or_names (leaf r b placed later) (inner name box named others) are x here = absurd are
  links_or_names (inner r b kids later) no_nodes are x here = absurd are
  links_or_names (inner r b kids later) (leaf name box named others) are x here = absurd are
  links_or_names (inner r b kids later) (inner name box named others) are x here =
      below x (name_of new r name) (heads kids) (names_of new kids named) (names_of new later others) (heads_or_names kids named are.2 x here)

links_touched : (own : ℕ) (v : List ℤ) (ns : Nodes) → links_of_first (touched own v ns) ≡ links_of_first ns
links_touched own v no_nodes = refl
links_touched own v (leaf r b placed later) = refl
links_touched own v (inner r b kids later) = refl

-- the links of a node are on the way from there, and so is a node alone
links_on_way : (v : List ℤ) (ns : Nodes) (x : ℕ) → In x (links_of_first ns) → In x (on_way v ns 0)
links_on_way v no_nodes x here = here
links_on_way v (leaf r b placed later) x here = in_tail x r (rows_with placed) here
links_on_way v (inner r b kids later) x here =
    in_tail x r (heads kids ++ on_way v kids (place_among v kids)) (in-append_left x (heads kids) (on_way v kids (place_among v kids)) here)

none_in : (x : ℕ) (xs : List ℕ) → length xs ≡ 0 → In x xs → ⊥
none_in x [] none here = omega arith
none_in x (y ∷ xs) none here = omega arith

head_on_way : (v : List ℤ) (ns : Nodes) → length (heads ns) ≡ 1 → (x : ℕ) → In x (heads ns) → In x (on_way v ns 0)
head_on_way v no_nodes one x here = here
head_on_way v (leaf r b placed later) one x here =
    ⊎_elim (λ e. subst (λ y. In x (y ∷ rows_with placed)) e (in_head x (rows_with placed))) (λ after. absurd (none_in x (heads later) (omega (arith, one)) after)) (in_cases x r (heads later) here)
head_on_way v (inner r b kids later) one x here =
    let below = heads kids ++ on_way v kids (place_among v kids) in
    ⊎_elim (λ e. subst (λ y. In x (y ∷ below)) e (in_head x below)) (λ after. absurd (none_in x (heads later) (omega (arith, one)) after)) (in_cases x r (heads later) here)

-- ---- at a node

-- the rows on the way of the point in what is left
abbrev pub way_left : ℕ → Point → Nodes → List ℕ
way_left new point t = on_way point.value (without_dominated new point.value t) 0

module _ {L : Type 0} {G : Ghosts L Entry} (r : Rows L Entry) (objectives : ℕ) (point : Point) (t : Nodes) where
  module _ (q : Pass L Entry G) (building : IsBuilding r q) (row root steps : ℕ) (ns ms : Nodes) (outer outside : List ℕ) (is : IsFocused objectives r.rows point t (known_of q) (marked_of q) row root steps ns ms outer outside) where
    link_on_way : (x : ℕ) → In x (pinned_copy (known_of q)).rows → In x (links_of_first ms) → In x (way_left r.rows point t)
    link_on_way x here linked =
        ⊎_elim
        (λ named. absurd (let fresh = is.fresh_are x in let unread = building.unread x (omega (arith, fresh, named)) in omega (arith, unread, here)))
        (λ known. is.onwards x (links_on_way point.value ns x (subst (In x) (links_touched r.rows point.value ns) known)))
        (links_or_names r.rows (touched r.rows point.value ns) ms is.is_named x linked)

    -- of a node in a fresh row, and of the rows that it links, those of the pinned tree are on the way
    only_near : In row (known_of q).core.fresh → (s : Pass L Entry G) → ReadsOnly (row ∷ links_of_first ms) (known_of q) (known_of s) → ReadsOnly (way_left r.rows point t) (known_of q) (known_of s)
    only_near mine s only =
        only_within (row ∷ links_of_first ms) (way_left r.rows point t) (known_of q) (known_of s)
        (λ x here near.
        ⊎_elim
        (λ e. absurd (let fresh = subst (λ y. In y (known_of q).core.fresh) (sym e) mine in let unread = building.unread x fresh in omega (arith, unread, here)))
        (λ linked. link_on_way x here linked)
        (in_cases x row (links_of_first ms) near))
        only

  -- at a node in a fresh row, after rows on the way: its first word was read, and then what belongs to its kind
  module _ (o p q : Pass L Entry G) (taken marked changed : List ℕ) (does : Does r taken marked changed o p) (so_far : ReadsOnly (way_left r.rows point t) (known_of o) (known_of p)) (read : Does r [] [] [] p q)
      (row root steps w : ℕ) (word : (x : ℕ) → look_up (known_words (known_of p)) row 0 ≡ Some x → w ≡ x) (at : IsAt objectives r.rows point t (known_of p) (marked_of p) row root steps) (mine : In row (known_of p).core.fresh) (first : ReadsOnly (row ∷ []) (known_of p) (known_of q)) (s : Pass L Entry G) where
    after_first : ReadsOnly (way_left r.rows point t) (known_of q) (known_of s) → ReadsOnly (way_left r.rows point t) (known_of o) (known_of s)
    after_first rest =
        only_then r taken marked changed (way_left r.rows point t) o p s does so_far (then_only r [] [] [] (way_left r.rows point t) p q s read (only_fresh r p q row does.building mine first) rest)

    mine_still : In row (known_of q).core.fresh
    mine_still = still_fresh r [] [] [] p q read row mine

    pub only_leaf : w % KINDS ≡ LEAF → ((placed : List Placed) → HasLinked objectives (known_of q) row placed → length placed ≡ w / KINDS → ReadsOnly (row ∷ rows_with placed) (known_of q) (known_of s)) → ReadsOnly (way_left r.rows point t) (known_of o) (known_of s)
    only_leaf is_leaf only =
        let one = the_leaf r objectives point t p q read row root steps w word at is_leaf in
        after_first
        (only_near q read.building row root steps at.0 (leaf row one.0 one.1 no_nodes) at.2.0 at.2.1.0 (leaf_focused r objectives point t p q read row root steps w word at is_leaf) mine_still s
        (only one.1 (leaf_links r objectives point t p q read row root steps w word at is_leaf) one.3))

    pub only_inner : w % KINDS ≢ LEAF → ((b : Box) (kids : Nodes) → HasNode objectives (known_of q) row (inner row b kids no_nodes) → length (heads kids) ≡ w / KINDS → ReadsOnly (row ∷ heads kids) (known_of q) (known_of s))
        → ReadsOnly (way_left r.rows point t) (known_of o) (known_of s)
    only_inner is_inner only =
        let one = the_inner r objectives point t p q read row root steps w word at is_inner in
        let is = inner_focused r objectives point t p q read row root steps w word at is_inner in
        after_first (only_near q read.building row root steps at.0 (inner row one.0 one.1 no_nodes) at.2.0 at.2.1.0 is mine_still s (only one.0 one.1 is.node one.3))

  -- the root of what is left, where it is a row of the pinned tree
  module _ (p q : Pass L Entry G) (building : IsBuilding r p) (removed root : ℕ) (is_left : IsLeft r.rows point.value objectives t (known_words (known_of p)) (known_of p).core.fresh (marked_of p) (Some root) removed) where
    root_on_way : (x : ℕ) → In x (pinned_copy (known_of p)).rows → In x (root ∷ []) → In x (way_left r.rows point t)
    root_on_way x here is_root =
        let left = without_dominated r.rows point.value t in
        let rooted = is_left.rooted root refl in
        ⊎_elim
        (λ named. absurd (let taken = is_left.settled.taken_are x in let unread = building.unread x (omega (arith, taken, named)) in omega (arith, unread, here)))
        (λ known. head_on_way point.value left (sym (heads-named r.rows left is_left.named is_left.settled.is_named) ∙ ap length rooted) x known)
        (heads_or_names r.rows left is_left.named is_left.settled.is_named x (subst (In x) (sym rooted) is_root))

    pub only_root : ReadsOnly (root ∷ []) (known_of p) (known_of q) → ReadsOnly (way_left r.rows point t) (known_of p) (known_of q)
    only_root only = only_within (root ∷ []) (way_left r.rows point t) (known_of p) (known_of q) root_on_way only
