-- Rows that were named: the same tree, whose rows are those known before and the names; and all of it is written where the names are.
use Rattle.std.proofs.Common.{◌≡◌, ◌≢◌, ℕ, suc, ◌+◌, inl, inr, ⊎_elim, if◌then◌else◌, List, [], ◌∷◌, ◌++◌, length, refl, sym, ap, ap₂, subst, ◌∙◌, arith, eq-eqb, ne_eqb}
use Rattle.std.proofs.lemmas.Bool.{cases_eq}
use Rattle.era_core.specs.Lists.{times, In}
use Rattle.era_core.specs.Versions.{Cell}
use Rattle.era_core.proofs.ListFacts.{times-append, times-tail, times-head, in_head, in_tail, in-append_left, in-append_right}
use Rattle.pls_vectors.specs.Box.{Box}
use Rattle.pls_archive.specs.declared.point.Point.{Point}
use Rattle.pls_archive.specs.Lists.{Every, total}
use Rattle.pls_archive.proofs.Every.{total-append}
use Rattle.nd_rows.specs.declared.layout.TheConstants.{LEAF, INNER}
use Rattle.nd_rows.specs.Nodes.{Placed, Nodes, no_nodes, leaf, inner, heads, rows_of, rows_with, points_of, points_with, Encloses, AreBoxed, AreFormed}
use Rattle.nd_rows.specs.Layout.{IsLinkRow, IsBoxRow, IsPointRow, AreWritten}
use Rattle.nd_update.specs.Naming.{HasName, ArePlacedNamed, AreNamed, name_of, names_with, names_of, IsLeafRow, IsInnerRow, AreKept, ArePlacedWritten, AreNamesWritten}
use Rattle.nd_update.proofs.Alike.{Agree, links-alike, box-alike, point-alike}

module _ (new : ℕ) where
  -- the same points, boxes and forms
  points-placed : (placed named : List Placed) → ArePlacedNamed new placed named → points_with named ≡ points_with placed
  points-placed [] [] are = refl
  points-placed [] (q ∷ named) are = absurd are
  points-placed (p ∷ placed) [] are = absurd are
  points-placed (p ∷ placed) (q ∷ named) are = ap₂ (λ x xs. x ∷ xs) are.1 (points-placed placed named are.2)

  pub length-placed : (placed named : List Placed) → ArePlacedNamed new placed named → length named ≡ length placed
  length-placed [] [] are = refl
  length-placed [] (q ∷ named) are = absurd are
  length-placed (p ∷ placed) [] are = absurd are
  length-placed (p ∷ placed) (q ∷ named) are = ap suc (length-placed placed named are.2)

  pub points-named : (ns ms : Nodes) → AreNamed new ns ms → points_of ms ≡ points_of ns
  points-named no_nodes no_nodes are = refl
  points-named no_nodes (leaf name box named others) are = absurd are
  points-named no_nodes (inner name box named others) are = absurd are
  points-named (leaf r b placed later) no_nodes are = absurd are
  points-named (leaf r b placed later) (leaf name box named others) are = ap₂ (λ xs ys. xs ++ ys) (points-placed placed named are.2) (points-named later others are.3)
  points-named (leaf r b placed later) (inner name box named others) are = absurd are
  points-named (inner r b kids later) no_nodes are = absurd are
  points-named (inner r b kids later) (leaf name box named others) are = absurd are
  points-named (inner r b kids later) (inner name box named others) are = ap₂ (λ xs ys. xs ++ ys) (points-named kids named are.2) (points-named later others are.3)

  pub heads-named : (ns ms : Nodes) → AreNamed new ns ms → length (heads ms) ≡ length (heads ns)
  heads-named no_nodes no_nodes are = refl
  heads-named no_nodes (leaf name box named others) are = absurd are
  heads-named no_nodes (inner name box named others) are = absurd are
  heads-named (leaf r b placed later) no_nodes are = absurd are
  heads-named (leaf r b placed later) (leaf name box named others) are = ap suc (heads-named later others are.3)
  heads-named (leaf r b placed later) (inner name box named others) are = absurd are
  heads-named (inner r b kids later) no_nodes are = absurd are
  heads-named (inner r b kids later) (leaf name box named others) are = absurd are
  heads-named (inner r b kids later) (inner name box named others) are = ap suc (heads-named later others are.3)

  same_box : (b box : Box) (points points' : List Point) → box ≡ b → points' ≡ points → Encloses b points → Encloses box points'
  same_box b box points points' e same is = subst (λ (x : Box). Encloses x points') (sym e) (subst (Encloses b) (sym same) is)

  pub boxed-named : (ns ms : Nodes) → AreNamed new ns ms → AreBoxed ns → AreBoxed ms
  boxed-named no_nodes no_nodes are boxed = tt
  boxed-named no_nodes (leaf name box named others) are boxed = absurd are
  boxed-named no_nodes (inner name box named others) are boxed = absurd are
  boxed-named (leaf r b placed later) no_nodes are boxed = absurd are
  boxed-named (leaf r b placed later) (leaf name box named others) are boxed =
      (same_box b box _ _ are.1 (points-placed placed named are.2) boxed.0, boxed-named later others are.3 boxed.1)
  boxed-named (leaf r b placed later) (inner name box named others) are boxed = absurd are
  boxed-named (inner r b kids later) no_nodes are boxed = absurd are
  boxed-named (inner r b kids later) (leaf name box named others) are boxed = absurd are
  boxed-named (inner r b kids later) (inner name box named others) are boxed =
      (same_box b box _ _ are.1 (points-named kids named are.2) boxed.0, boxed-named kids named are.2 boxed.1, boxed-named later others are.3 boxed.2)

  pub formed-named : (objectives : ℕ) (ns ms : Nodes) → AreNamed new ns ms → AreFormed objectives ns → AreFormed objectives ms
  formed-named objectives no_nodes no_nodes are formed = tt
  formed-named objectives no_nodes (leaf name box named others) are formed = absurd are
  formed-named objectives no_nodes (inner name box named others) are formed = absurd are
  formed-named objectives (leaf r b placed later) no_nodes are formed = absurd are
  formed-named objectives (leaf r b placed later) (leaf name box named others) are formed =
      let n = length-placed placed named are.2 in let one = formed.0 in let most = formed.1 in (omega arith, omega arith, formed-named objectives later others are.3 formed.2)
  formed-named objectives (leaf r b placed later) (inner name box named others) are formed = absurd are
  formed-named objectives (inner r b kids later) no_nodes are formed = absurd are
  formed-named objectives (inner r b kids later) (leaf name box named others) are formed = absurd are
  formed-named objectives (inner r b kids later) (inner name box named others) are formed =
      let n = heads-named kids named are.2 in let two = formed.0 in let most = formed.1 in let room = formed.2 in
      (omega arith, omega arith, omega arith, formed-named objectives kids named are.2 formed.3, formed-named objectives later others are.3 formed.4)

  -- Rows are counted by what each known row counts, and the names.
  module _ (x : ℕ) (known : ℕ → ℕ) (one : (r name : ℕ) → HasName new r name → times x (name ∷ []) ≡ known r + times x (name_of new r name)) where
    rows-placed : (placed named : List Placed) → ArePlacedNamed new placed named → times x (rows_with named) ≡ total known (rows_with placed) + times x (names_with new placed named)
    rows-placed [] [] are = refl
    rows-placed [] (q ∷ named) are = absurd are
    rows-placed (p ∷ placed) [] are = absurd are
    rows-placed (p ∷ placed) (q ∷ named) are =
        let here = one p.row q.row are.0 in
        let rest = rows-placed placed named are.2 in
        let both = times-append x (name_of new p.row q.row) (names_with new placed named) in omega arith

    rows-known : (ns ms : Nodes) → AreNamed new ns ms → times x (rows_of ms) ≡ total known (rows_of ns) + times x (names_of new ns ms)
    rows-known no_nodes no_nodes are = refl
    rows-known no_nodes (leaf name box named others) are = absurd are
    rows-known no_nodes (inner name box named others) are = absurd are
    rows-known (leaf r b placed later) no_nodes are = absurd are
    rows-known (leaf r b placed later) (leaf name box named others) are =
        let here = one r name are.0 in
        let below = rows-placed placed named are.2 in
        let rest = rows-known later others are.3 in
        let first = times-append x (name_of new r name) (names_with new placed named ++ names_of new later others) in
        let second = times-append x (names_with new placed named) (names_of new later others) in
        let before = total-append known (rows_with placed) (rows_of later) in
        let after = times-append x (rows_with named) (rows_of others) in omega arith
    rows-known (leaf r b placed later) (inner name box named others) are = absurd are
    rows-known (inner r b kids later) no_nodes are = absurd are
    rows-known (inner r b kids later) (leaf name box named others) are = absurd are
    rows-known (inner r b kids later) (inner name box named others) are =
        let here = one r name are.0 in
        let below = rows-known kids named are.2 in
        let rest = rows-known later others are.3 in
        let first = times-append x (name_of new r name) (names_of new kids named ++ names_of new later others) in
        let second = times-append x (names_of new kids named) (names_of new later others) in
        let before = total-append known (rows_of kids) (rows_of later) in
        let after = times-append x (rows_of named) (rows_of others) in omega arith

  pub name-new : (r name : ℕ) → r ≡ new → name_of new r name ≡ name ∷ []
  name-new r name e = ap (λ s. if s then name ∷ [] else []) (eq-eqb r new e)

  pub name-known : (r name : ℕ) → r ≢ new → name_of new r name ≡ []
  name-known r name other = ap (λ s. if s then name ∷ [] else []) (ne_eqb r new other)

  pub known-name : (r name : ℕ) → HasName new r name → r ≢ new → name ≡ r
  known-name r name (inl e) other = absurd (other e)
  known-name r name (inr e) other = e

  total-times : (x : ℕ) (xs : List ℕ) → total (λ r. times x (r ∷ [])) xs ≡ times x xs
  total-times x [] = refl
  total-times x (y ∷ xs) = let rest = total-times x xs in omega arith

  total-none : (xs : List ℕ) → total (λ (r : ℕ). 0) xs ≡ 0
  total-none [] = refl
  total-none (y ∷ xs) = let rest = total-none xs in omega arith

  -- a row of the tree is one known before, or a name
  pub rows-named : (x : ℕ) → x ≢ new → (ns ms : Nodes) → AreNamed new ns ms → times x (rows_of ms) ≡ times x (rows_of ns) + times x (names_of new ns ms)
  rows-named x other ns ms are =
      let all = rows-known x (λ r. times x (r ∷ [])) one ns ms are in
      let same = total-times x (rows_of ns) in omega arith
    where
      one : (r name : ℕ) → HasName new r name → times x (name ∷ []) ≡ times x (r ∷ []) + times x (name_of new r name)
      one r name has =
          ⊎_elim
          (λ e. let mine = ap (times x) (name-new r name e) in let none = times-tail x r [] (λ is. other (is ∙ e)) in omega arith)
          (λ known. let mine = ap (times x) (name-known r name known) in let same = ap (λ n. times x (n ∷ [])) (known-name r name has known) in omega arith)
          (cases_eq r new)

  -- and all of them are names where one would be `new`
  pub names-new : (ns ms : Nodes) → AreNamed new ns ms → times new (rows_of ms) ≡ times new (names_of new ns ms)
  names-new ns ms are =
      let all = rows-known new (λ r. 0) one ns ms are in
      let none = total-none (rows_of ns) in omega arith
    where
      one : (r name : ℕ) → HasName new r name → times new (name ∷ []) ≡ 0 + times new (name_of new r name)
      one r name has =
          ⊎_elim
          (λ e. let mine = ap (times new) (name-new r name e) in omega arith)
          (λ known. let mine = ap (times new) (name-known r name known) in let same = ap (λ n. times new (n ∷ [])) (known-name r name has known) in let none = times-tail new r [] (λ is. known (sym is)) in omega arith)
          (cases_eq r new)

  -- where all is known nothing changes
  same_rows : (placed named : List Placed) → ArePlacedNamed new placed named → times new (rows_with placed) ≡ 0 → rows_with named ≡ rows_with placed
  same_rows [] [] are known = refl
  same_rows [] (q ∷ named) are known = absurd are
  same_rows (p ∷ placed) [] are known = absurd are
  same_rows (p ∷ placed) (q ∷ named) are known =
      ap₂ (λ x xs. x ∷ xs) (known-name p.row q.row are.0 (λ e. let head = times-head new (rows_with placed) in let same = ap (λ n. times new (n ∷ rows_with placed)) e in omega arith))
      (same_rows placed named are.2 (omega arith))

  same_heads : (ns ms : Nodes) → AreNamed new ns ms → times new (rows_of ns) ≡ 0 → heads ms ≡ heads ns
  same_heads no_nodes no_nodes are known = refl
  same_heads no_nodes (leaf name box named others) are known = absurd are
  same_heads no_nodes (inner name box named others) are known = absurd are
  same_heads (leaf r b placed later) no_nodes are known = absurd are
  same_heads (leaf r b placed later) (leaf name box named others) are known =
      let both = times-append new (rows_with placed) (rows_of later) in
      ap₂ (λ x xs. x ∷ xs) (known-name r name are.0 (λ e. let head = times-head new (rows_with placed ++ rows_of later) in let same = ap (λ n. times new (n ∷ (rows_with placed ++ rows_of later))) e in omega arith))
      (same_heads later others are.3 (omega arith))
  same_heads (leaf r b placed later) (inner name box named others) are known = absurd are
  same_heads (inner r b kids later) no_nodes are known = absurd are
  same_heads (inner r b kids later) (leaf name box named others) are known = absurd are
  same_heads (inner r b kids later) (inner name box named others) are known =
      let both = times-append new (rows_of kids) (rows_of later) in
      ap₂ (λ x xs. x ∷ xs) (known-name r name are.0 (λ e. let head = times-head new (rows_of kids ++ rows_of later) in let same = ap (λ n. times new (n ∷ (rows_of kids ++ rows_of later))) e in omega arith))
      (same_heads later others are.3 (omega arith))

  -- all is written where what is known and what was named is
  module _ (objectives : ℕ) (cells : List Cell) where
    written-placed : (placed named : List Placed) → ArePlacedNamed new placed named → Every (λ (p : Placed). p.row ≢ new → IsPointRow objectives cells p) placed → ArePlacedWritten new objectives cells placed named
        → Every (IsPointRow objectives cells) named
    written-placed [] [] are kept names = tt
    written-placed [] (q ∷ named) are kept names = absurd are
    written-placed (p ∷ placed) [] are kept names = absurd are
    written-placed (p ∷ placed) (q ∷ named) are kept names = (
      ⊎_elim (λ e. names.0 e)
          (λ known. subst (IsPointRow objectives cells) (ap₂ (λ n x. record { row = n; point = x }) (sym (known-name p.row q.row are.0 known)) (sym are.1)) (kept.0 known)) (cases_eq p.row new),
      written-placed placed named are.2 kept.1 names.1,
    )

    -- a leaf and an inner node whose rows are known
    known-leaf : (r name : ℕ) (b box : Box) (placed named : List Placed) → name ≡ r → box ≡ b → rows_with named ≡ rows_with placed → length named ≡ length placed → IsLeafRow objectives cells r b placed → IsLeafRow objectives cells name box named
    known-leaf r name b box placed named e same rows long is = record {
      links = subst (λ n. IsLinkRow cells LEAF n (rows_with named)) (sym e) (subst (IsLinkRow cells LEAF r) (sym rows) is.links);
      boxed = λ some. subst (λ n. IsBoxRow objectives cells n box) (sym e) (subst (IsBoxRow objectives cells r) (sym same) (is.boxed (omega arith)));
    }

    known-inner : (r name : ℕ) (b box : Box) (kids named : Nodes) → name ≡ r → box ≡ b → heads named ≡ heads kids → IsInnerRow objectives cells r b kids → IsInnerRow objectives cells name box named
    known-inner r name b box kids named e same rows is = record {
      links = subst (λ n. IsLinkRow cells INNER n (heads named)) (sym e) (subst (IsLinkRow cells INNER r) (sym rows) is.links);
      boxed = subst (λ n. IsBoxRow objectives cells n box) (sym e) (subst (IsBoxRow objectives cells r) (sym same) is.boxed);
    }

    pub written-named : (ns ms : Nodes) → AreNamed new ns ms → AreKept new objectives cells ns → AreNamesWritten new objectives cells ns ms → AreWritten objectives cells ms
    written-named no_nodes no_nodes are kept names = tt
    written-named no_nodes (leaf name box named others) are kept names = absurd are
    written-named no_nodes (inner name box named others) are kept names = absurd are
    written-named (leaf r b placed later) no_nodes are kept names = absurd are
    written-named (leaf r b placed later) (leaf name box named others) are kept names =
        let row : IsLeafRow objectives cells name box named =
        ⊎_elim names.0 (λ known. let is = kept.0 known in known-leaf r name b box placed named (known-name r name are.0 known) are.1 (same_rows placed named are.2 is.1) (length-placed placed named are.2) is.0) (cases_eq r new) in
        (row.links, row.boxed, written-placed placed named are.2 kept.1 names.1, written-named later others are.3 kept.2 names.2)
    written-named (leaf r b placed later) (inner name box named others) are kept names = absurd are
    written-named (inner r b kids later) no_nodes are kept names = absurd are
    written-named (inner r b kids later) (leaf name box named others) are kept names = absurd are
    written-named (inner r b kids later) (inner name box named others) are kept names =
        let row : IsInnerRow objectives cells name box named =
        ⊎_elim names.0 (λ known. let is = kept.0 known in known-inner r name b box kids named (known-name r name are.0 known) are.1 (same_heads kids named are.2 is.1) is.0) (cases_eq r new) in
        (row.links, row.boxed, written-named kids named are.2 kept.1 names.1, written-named later others are.3 kept.2 names.2)

  -- words that agree on the known rows keep what is known
  pub kept-alike : (objectives : ℕ) (cells cells' : List Cell) (ns : Nodes) → ((r : ℕ) → In r (rows_of ns) → r ≢ new → Agree objectives cells cells' r) → AreKept new objectives cells ns → AreKept new objectives cells' ns
  kept-alike objectives cells cells' no_nodes same kept = tt
  kept-alike objectives cells cells' (leaf r b placed later) same kept = (
    (λ known. let mine = same r (in_head r _) known in let is = kept.0 known in (
      record { links = links-alike objectives cells cells' _ r _ mine is.0.links; boxed = λ some. box-alike objectives cells cells' r b mine (is.0.boxed some) },
      is.1,
    )),
    each placed (λ x here. same x (in_tail x r _ (in-append_left x (rows_with placed) (rows_of later) here))) kept.1,
    kept-alike objectives cells cells' later (λ x here. same x (in_tail x r _ (in-append_right x (rows_with placed) (rows_of later) here))) kept.2,
  )
    where
      each : (placed : List Placed) → ((r : ℕ) → In r (rows_with placed) → r ≢ new → Agree objectives cells cells' r) → Every (λ (p : Placed). p.row ≢ new → IsPointRow objectives cells p) placed → Every (λ (p : Placed). p.row ≢ new → IsPointRow objectives cells' p) placed
      each [] same kept = tt
      each (p ∷ placed) same kept =
          ((λ known. point-alike objectives cells cells' p (same p.row (in_head p.row (rows_with placed)) known) (kept.0 known)), each placed (λ r here. same r (in_tail r p.row (rows_with placed) here)) kept.1)
  kept-alike objectives cells cells' (inner r b kids later) same kept = (
    (λ known. let mine = same r (in_head r _) known in let is = kept.0 known in (
      record { links = links-alike objectives cells cells' _ r _ mine is.0.links; boxed = box-alike objectives cells cells' r b mine is.0.boxed },
      is.1,
    )),
    kept-alike objectives cells cells' kids (λ x here. same x (in_tail x r _ (in-append_left x (rows_of kids) (rows_of later) here))) kept.1,
    kept-alike objectives cells cells' later (λ x here. same x (in_tail x r _ (in-append_right x (rows_of kids) (rows_of later) here))) kept.2,
  )
