-- The tree that was written, with the point, may be published.
use Rattle.std.proofs.Common.{◌≡◌, ◌≢◌, ℕ, ◌+◌, ◌-◌, ◌^◌, ◌<◌, ◌≤◌, ◌⊎◌, inl, inr, ⊎_elim, min, false, List, [], ◌∷◌, ◌++◌, length, take, refl, sym, ap, subst, ◌∙◌, arith, length-append, zero, suc, Bool, true}
use Rattle.std.proofs.lemmas.Bool.{cases_eq}
use Rattle.era_core.specs.Lists.{times, In, without}
use Rattle.era_core.specs.Versions.{Cell, Copy, look_up}
use Rattle.era_core.proofs.ListFacts.{in_head}
use Rattle.era_core.proofs.Room.{length-below}
use Rattle.era_rows.specs.Known.{pinned_copy, known_words, copy_known, copy_by}
use Rattle.era_rows.specs.Passes.{known_of, seen_of, marked_of, IsPassOf}
use Rattle.era_rows.specs.declared.pass.Pass.{Pass}
use Rattle.era_rows.specs.declared.rows.Rows.{Rows}
use Rattle.era_rows.specs.declared.law.Law.{Ghosts}
use Rattle.pls_archive.specs.declared.call.Entry.{Entry}
use Rattle.pls_archive.specs.declared.point.Point.{Point}
use Rattle.pls_archive.specs.Lists.{how_many, one_if}
use Rattle.pls_archive.specs.Reply.{some_weakly_dominates}
use Rattle.pls_vectors.specs.Dominance.{weakly_dominates}
use Rattle.nd_rows.specs.Nodes.{Placed, Nodes, no_nodes, leaf, inner, heads, rows_of, rows_with, points_of, points_with, AreFormed}
use Rattle.nd_rows.specs.Layout.{IsTreeOf, StandsFor}
use Rattle.nd_rows.specs.Entries.{IsRight, added}
use Rattle.nd_rows.specs.NdLaws.{links_are}
use Rattle.nd_rows.specs.Reads.{HasPinnedTree}
use Rattle.nd_update.specs.Building.{Builds, IsBuilding}
use Rattle.nd_update.specs.Built.{IsPublishable}
use Rattle.nd_update.specs.Insertion.{updated}
use Rattle.nd_update.specs.Naming.{AreNamed, name_of, names_with, names_of}
use Rattle.nd_update.specs.Updates.{MayUpdate, IsUpdate, IsWritten, IsNewTree, removed_from}
use Rattle.nd_update.specs.Left.{hits}
use Rattle.nd_update.specs.Inserted.{IsInserted}
use Rattle.nd_update.proofs.Building.{same_copy, pinned_words}
use Rattle.nd_update.proofs.Removing.{inside_now}
use Rattle.nd_update.proofs.Links.{tree_made}
use Rattle.nd_update.proofs.Naming.{name-new, formed-named, rows-named, names-new}
use Rattle.nd_update.proofs.Updates.{updates, is_written_tree, stands_for}

abbrev first : List ℕ → ℕ
first [] = 0
first (x ∷ xs) = x

-- a number that is in no list of rows below it
absent : (n : ℕ) (xs : List ℕ) → ((x : ℕ) → In x xs → x < n) → times n xs ≡ 0
absent n xs below = none (times n xs) (below n)
  where
    none : (m : ℕ) → (0 < m → n < n) → m ≡ 0
    none zero low = refl
    none (suc m) low = let high = low (omega arith) in absurd (omega arith)

-- there are no more points than rows
length-points : (placed : List Placed) → length (points_with placed) ≡ length (rows_with placed)
length-points [] = refl
length-points (p ∷ placed) = ap suc (length-points placed)

points_few : (ns : Nodes) → length (points_of ns) ≤ length (rows_of ns)
points_few no_nodes = omega arith
points_few (leaf r b placed later) =
    let rest = points_few later in let same = length-points placed in
    let points = length-append (points_with placed) (points_of later) in let rows = length-append (rows_with placed) (rows_of later) in omega arith
points_few (inner r b kids later) =
    let rest = points_few later in let below = points_few kids in
    let points = length-append (points_of kids) (points_of later) in let rows = length-append (rows_of kids) (rows_of later) in omega arith

how_many-few : {A : Type 0} (test : A → Bool) (xs : List A) → how_many test xs ≤ length xs
how_many-few test [] = omega arith
how_many-few test (x ∷ xs) = let rest = how_many-few test xs in let one = one_most (test x) in omega arith
  where
    one_most : (s : Bool) → one_if s ≤ 1
    one_most true = omega arith
    one_most false = omega arith

-- an update by a point that no point of the pinned tree covers may be, also where the pass has gone on
module _ {L : Type 0} {G : Ghosts L Entry} (r : Rows L Entry) (p : Pass L Entry G) (t : Nodes) (point : Point) where
  pub may_be : IsPassOf r p → IsTreeOf r.shape (pinned_copy (known_of p)) t → length point.value ≡ r.shape → 2 ≤ r.shape → r.shape ≤ 4 → some_weakly_dominates (points_of t) point.value ≡ false
      → MayUpdate r.shape r.rows point (pinned_copy (known_of p)) t
  may_be is_pass is parts some few uncovered = record {
    is_tree = is;
    some = some;
    few = few;
    parts = parts;
    uncovered = uncovered;
    no_row = absent r.rows (pinned_copy (known_of p)).rows (inside_now r p is_pass);
  }

  pub may_on : MayUpdate r.shape r.rows point (pinned_copy (known_of p)) t → (q : Pass L Entry G) → Builds (known_of p) (known_of q) → MayUpdate r.shape r.rows point (pinned_copy (known_of q)) t
  may_on may q builds = subst (λ (d : Copy). MayUpdate r.shape r.rows point d t) (sym (same_copy (known_of p) (known_of q) builds)) may

module _ {L : Type 0} {G : Ghosts L Entry} (r : Rows L Entry) (p : Pass L Entry G) (n : ℕ) (tree : HasPinnedTree r n p) (point : Point) where
  abbrev t : Nodes
  t = tree.stands.0

  abbrev c : Copy
  c = pinned_copy (known_of p)

  is : IsTreeOf r.shape c t
  is = tree.stands.1

  row_inside : (x : ℕ) → In x c.rows → x < r.rows
  row_inside x here = inside_now r p tree.is_pass x here

  -- the update may be
  pub may_update : length point.value ≡ r.shape → 2 ≤ r.shape → r.shape ≤ 4 → some_weakly_dominates (points_of t) point.value ≡ false → MayUpdate r.shape r.rows point c t
  may_update parts some few uncovered = may_be r p t point tree.is_pass is parts some few uncovered

  -- also where the pass has gone on
  pub still_may : MayUpdate r.shape r.rows point c t → (q : Pass L Entry G) → Builds (known_of p) (known_of q) → MayUpdate r.shape r.rows point (pinned_copy (known_of q)) t
  still_may may q builds = may_on r p t point may q builds

  -- no more points go than there are
  pub hits_few : hits point.value (points_of t) ≤ r.rows
  hits_few =
      let low = length-below r.rows c.rows is.once row_inside in
      let same = ap length is.rows_are in
      let points = points_few t in
      let few = how_many-few (λ (q : Point). weakly_dominates point.value q.value) (points_of t) in omega arith

  module _ (may : MayUpdate r.shape r.rows point c t) (q : Pass L Entry G) (builds : Builds (known_of p) (known_of q)) (building : IsBuilding r q) (root removed : ℕ)
      (ins : IsInserted r.rows r.shape point t (known_words (known_of q)) (known_of q).core.fresh (marked_of q) root) where
    abbrev named : Nodes
    named = ins.named

    abbrev cells : List Cell
    cells = known_words (known_of q)

    abbrev names : List ℕ
    names = names_of r.rows (updated r.rows point t) named

    update : IsUpdate r.shape r.rows point c t (updated r.rows point t)
    update = updates r.shape r.rows point c t may

    copy_is : pinned_copy (known_of q) ≡ c
    copy_is = same_copy (known_of p) (known_of q) builds

    in_fresh : (x : ℕ) → In x names → In x (known_of q).core.fresh
    in_fresh x here = let same = ins.taken_are x in omega arith

    written : IsWritten r.shape r.rows point c t named cells
    written = record {
      is_named = ins.is_named;
      different = λ x. let once = building.once x in let same = ins.taken_are x in omega arith;
      unused = λ x here. ap (λ (d : Copy). times x d.rows) (sym copy_is) ∙ building.unread x (in_fresh x here);
      stays = λ x here k w there. pinned_words r q building x (subst (λ (d : Copy). In x d.rows) (sym copy_is) here) k ∙ ap (λ (d : Copy). look_up d.cells x k) copy_is ∙ there;
      written = ins.written;
    }

    new_tree : IsNewTree r.shape r.rows point c t named (record { root = root; rows = rows_of named; cells = cells })
    new_tree = is_written_tree r.shape r.rows point c t named cells root may written ins.rooted

    -- each row of the new tree is fresh, or one of the pinned tree
    in_part : (x : ℕ) → In x (rows_of named) → In x (known_of q).core.fresh ⊎ In x c.rows
    in_part x here =
        ⊎_elim
        (λ e. inl (let all = names-new r.rows (updated r.rows point t) named ins.is_named in let same = ap (λ z. times z (rows_of named)) e in let also = ap (λ z. times z names) e in in_fresh x (omega arith)))
        (λ other. ⊎_elim
        (λ none. inr (let e : times x names ≡ 0 = none in let all = rows-named r.rows x other (updated r.rows point t) named ins.is_named in let old = update.rows x other in let same = ap (times x) is.rows_are in omega arith))
        (λ some. inl (in_fresh x some)) (zero_or (times x names)))
        (cases_eq x r.rows)
      where
        zero_or : (m : ℕ) → (m ≡ 0) ⊎ (0 < m)
        zero_or zero = inl refl
        zero_or (suc m) = inr (omega arith)

    -- and each fresh row is one of it
    used : (x : ℕ) → In x (known_of q).core.fresh → In x (rows_of named)
    used x here =
        let low = building.inside x here in
        let other : x ≢ r.rows = (λ e. omega (arith, e, low)) in
        let all = rows-named r.rows x other (updated r.rows point t) named ins.is_named in let same = ins.taken_are x in omega (arith, all, same, here)

    named_inside : (x : ℕ) → In x (rows_of named) → x < r.rows
    named_inside x here = ⊎_elim (λ mine. building.inside x mine) (λ old. row_inside x old) (in_part x here)

    few_rows : length (rows_of named) ≤ r.rows
    few_rows = length-below r.rows (rows_of named) new_tree.is_tree.once named_inside

    formed : AreFormed r.shape named
    formed = formed-named r.rows r.shape (updated r.rows point t) named ins.is_named update.formed

    same_shape : (known_of q).shape ≡ r.shape
    same_shape = builds.shape ∙ tree.is_pass.sized.shape_is

    same_rows : (known_of q).rows ≡ r.rows
    same_rows = builds.rows ∙ tree.is_pass.sized.rows_are

    -- the words that the pass knows make this tree at the root
    abbrev made : Copy
    made = copy_known (known_of q) root

    made_tree : IsTreeOf r.shape made named
    made_tree =
        subst (λ k. IsTreeOf r.shape (copy_by k cells root) named) (sym same_rows)
        (tree_made r.shape cells (λ kind x links row is_kind few. links_are cells x kind links row is_kind few) r.rows root named new_tree.is_tree formed few_rows)

    made_rows : made.rows ≡ rows_of named
    made_rows = made_tree.rows_are

    made_new : IsNewTree r.shape r.rows point c t named made
    made_new = record {
      is_tree = made_tree;
      points = new_tree.points;
      gone = λ x. new_tree.gone x ∙ ap (λ rows. times x (without rows c.rows)) (sym made_rows);
    }

    head_in : (x name : ℕ) (more : List ℕ) → x ≡ r.rows → name ≡ root → In root (name_of r.rows x name ++ more)
    head_in x name more is_new is_root =
        subst (λ xs. In root (xs ++ more)) (sym (name-new r.rows x name is_new)) (subst (λ y. In root (y ∷ more)) (sym is_root) (in_head root more))

    root_fresh : In root (known_of q).core.fresh
    root_fresh = in_fresh root (root_named (updated r.rows point t) named ins.is_named update.rooted ins.rooted)
      where
        root_named : (ns ms : Nodes) → AreNamed r.rows ns ms → heads ns ≡ r.rows ∷ [] → heads ms ≡ root ∷ [] → In root (names_of r.rows ns ms)
        root_named no_nodes ms are new_root is_root = absurd (let none = ap length new_root in omega arith)
        root_named (leaf x b placed later) no_nodes are new_root is_root = absurd are
        root_named (leaf x b placed later) (leaf name box points others) are new_root is_root =
            head_in x name (names_with r.rows placed points ++ names_of r.rows later others) (ap first new_root) (ap first is_root)
        root_named (leaf x b placed later) (inner name box kids others) are new_root is_root = absurd are
        root_named (inner x b kids later) no_nodes are new_root is_root = absurd are
        root_named (inner x b kids later) (leaf name box points others) are new_root is_root = absurd are
        root_named (inner x b kids later) (inner name box below others) are new_root is_root =
            head_in x name (names_of r.rows kids below ++ names_of r.rows later others) (ap first new_root) (ap first is_root)

    -- and stand for the archive with the point
    pub publishable : (counted : removed ≡ hits point.value (points_of t)) → seen_of q ≡ seen_of p → IsPublishable n point (record { root = root; removed = removed }) q
    publishable counted seen =
        let entry = added q.number (n + 1) point removed in
        let low = hits_few in
        let most = r.few_rows in
        let same : removed_from (points_of t) point ≡ removed = (let e : min (hits point.value (points_of t)) (2 ^ 32 - 1) ≡ hits point.value (points_of t) = omega arith in e ∙ sym counted) in
        let all = stands_for r.shape r.rows point c made t named (take n (seen_of p)) q.number (n + 1) may tree.stands.2 made_new in record {
          root = tree.root;
          may = record {
            pinned = builds.pinned ∙ tree.pinned;
            is_lawful = (named, subst (λ d. IsTreeOf d made named) (sym same_shape) made_tree);
            fresh_root = root_fresh;
            parts = λ x here. ⊎_elim (λ mine. inl mine) (λ old. inr (subst (λ (d : Copy). In x d.rows) (sym copy_is) old)) (in_part x (subst (In x) made_rows here));
            is_accepted = refl;
            named = q.tied.numbered;
            stamped = refl;
            is_right = in_state IsRight' same all.0;
            stands_for = in_state Stands' same all.1;
          };
          used = λ x here. subst (In x) (sym made_rows) (used x here);
          replaced = λ x. ins.marked_are x ∙ made_new.gone x ∙ ap (λ (d : Copy). times x (without made.rows d.rows)) (sym copy_is);
        }
      where
        -- what holds of the entry with the number of points that go, at the shape and the entries of the pass before
        IsRight' : ℕ → ℕ → List Entry → Type 0
        IsRight' d gone entries = IsRight d (added q.number (n + 1) point gone) entries

        Stands' : ℕ → ℕ → List Entry → Type 0
        Stands' d gone entries = StandsFor d made (entries ++ added q.number (n + 1) point gone ∷ [])

        in_state : (P : ℕ → ℕ → List Entry → Type 0) → removed_from (points_of t) point ≡ removed → P r.shape (removed_from (points_of t) point) (take n (seen_of p)) → P (known_of q).shape removed (take n (seen_of q))
        in_state P same holds =
            subst (λ d. P d removed (take n (seen_of q))) (sym same_shape)
            (subst (λ g. P r.shape g (take n (seen_of q))) same (subst (λ es. P r.shape (removed_from (points_of t) point) (take n es)) (sym seen) holds))
