-- What a removal looks at: the rows of the nodes that it may open, and of which of them the pass finds words.
use Rattle.std.proofs.Common.{◌≡◌, ℕ, zero, suc, ◌/◌, ◌%◌, true, nat_lt, if◌then◌else◌, List, [], ◌∷◌, ◌++◌, length, take, refl, sym, ap, subst, ◌∙◌, arith, append_assoc, ℤ}
use Rattle.std.specs.Prelude.{◌&&◌}
use Rattle.std.proofs.lemmas.Bool.{and_parts}
use Rattle.era_core.specs.declared.sizes.TheConstants.{ROOT_ROWS}
use Rattle.era_core.specs.Lists.{In}
use Rattle.era_core.proofs.ListFacts.{times-append, in_head, in_tail, in-append_right}
use Rattle.era_rows.specs.Known.{Known}
use Rattle.era_rows.specs.Passes.{knows_of, known_of}
use Rattle.era_rows.specs.declared.pass.Pass.{Pass}
use Rattle.era_rows.specs.declared.rows.Rows.{Rows}
use Rattle.era_rows.specs.declared.law.Law.{Ghosts}
use Rattle.pls_archive.specs.declared.call.Entry.{Entry}
use Rattle.pls_vectors.specs.Box.{Box}
use Rattle.pls_vectors.specs.Dominance.{weakly_dominates}
use Rattle.nd_rows.specs.Nodes.{Placed, Nodes, no_nodes, leaf, inner, heads, rows_with, followed_by}
use Rattle.nd_rows.specs.Reads.{LooksIn}
use Rattle.nd_update.specs.Building.{IsBuilding, Does}
use Rattle.nd_update.specs.Left.{entry, next, left, leaf_word}
use Rattle.nd_update.specs.Needed.{ReadsOnly, opened}
use Rattle.nd_update.proofs.Filters.{by_test}
use Rattle.nd_update.proofs.Building.{looks_do}
use Rattle.nd_update.proofs.Swept.{followed-none}
use Rattle.nd_update.proofs.Reading.{only_row, only_both, only_reads, only_then}

-- ---- steps

module _ {L : Type 0} {G : Ghosts L Entry} (r : Rows L Entry) where
  -- looks at rows of the pinned tree
  pub only_at : (rows : List ℕ) (p q : Pass L Entry G) → IsBuilding r p → LooksIn r rows p q → ReadsOnly rows (known_of p) (known_of q)
  only_at rows p q building looks = only_reads rows (known_of p) (known_of q) building.counted.begun looks.reads

  -- and then at others
  pub only_looks : (rows : List ℕ) (p q s : Pass L Entry G) → IsBuilding r p → LooksIn r rows p q → ReadsOnly rows (known_of q) (known_of s) → ReadsOnly rows (known_of p) (known_of s)
  only_looks rows p q s building looks rest = only_both rows (known_of p) (known_of q) (known_of s) (looks_do r rows p q building looks).builds (only_at rows p q building looks) rest

  -- twice the same rows
  pub only_twice : (rows : List ℕ) (p q s : Pass L Entry G) → IsBuilding r p → LooksIn r rows p q → LooksIn r rows q s → ReadsOnly rows (known_of p) (known_of s)
  only_twice rows p q s building one two = only_looks rows p q s building one (only_at rows q s (looks_do r rows p q building one).building two)

  -- a look at a leaf, and then at its points
  pub looks_leaf : (p q s : Pass L Entry G) (row : ℕ) (placed : List Placed) → Does r [] [] [] p q → ReadsOnly (row ∷ []) (known_of p) (known_of q) → ReadsOnly (row ∷ rows_with placed) (known_of q) (known_of s)
      → ReadsOnly (row ∷ rows_with placed) (known_of p) (known_of s)
  looks_leaf p q s row placed does one two =
      only_then r [] [] [] (row ∷ rows_with placed) p q s does (only_row row (row ∷ rows_with placed) (known_of p) (known_of q) (in_head row (rows_with placed)) one) two

-- the list or the marks alone have changed since
pub only_kept : {L : Type 0} {G : Ghosts L Entry} (rows : List ℕ) (k : Known) (q s : Pass L Entry G) → knows_of s ≡ knows_of q → ReadsOnly rows k (known_of q) → ReadsOnly rows k (known_of s)
only_kept rows k q s knows only = subst (ReadsOnly rows k) (ap (λ x. x.view) (sym knows)) only

-- ---- the nodes that are opened
joined : (own xs ys all : List ℕ) → all ≡ xs ++ ys → own ++ all ≡ (own ++ xs) ++ ys
joined own xs ys all is = ap (λ zs. own ++ zs) is ∙ sym (append_assoc own xs ys)

module _ (v : List ℤ) where
  opened-followed : (ns others : Nodes) → opened v (followed_by ns others) ≡ opened v ns ++ opened v others
  opened-followed no_nodes others = refl
  opened-followed (leaf r b placed later) others = ap (λ xs. r ∷ xs) (joined (if weakly_dominates v b.nadir then rows_with placed else []) (opened v later) (opened v others) _ (opened-followed later others))
  opened-followed (inner r b kids later) others = ap (λ xs. r ∷ xs) (joined (if weakly_dominates v b.nadir then opened v kids else []) (opened v later) (opened v others) _ (opened-followed later others))

  -- those that are left to be looked at are among them
  opened_next : (ns : Nodes) (x : ℕ) → In x (opened v (next v ns)) → In x (opened v ns)
  opened_next no_nodes x here = here
  opened_next (leaf r b placed later) x here = in_tail x r _ (in-append_right x (if weakly_dominates v b.nadir then rows_with placed else []) (opened v later) here)
  opened_next (inner r b kids later) x here =
      by_test (λ s. In x (opened v (followed_by later (if s then kids else no_nodes))) → In x (r ∷ ((if s then opened v kids else []) ++ opened v later))) (weakly_dominates v b.nadir)
      (λ over there. in_tail x r _ (turned x (opened v later) (opened v kids) (subst (In x) (opened-followed later kids) there)))
      (λ under there. in_tail x r _ (subst (In x) (ap (opened v) (followed-none later)) there))
      here
    where
      turned : (x : ℕ) (xs ys : List ℕ) → In x (xs ++ ys) → In x (ys ++ xs)
      turned x xs ys here = let one = times-append x xs ys in let two = times-append x ys xs in omega (arith, here, one, two)

  pub opened_left : (k : ℕ) (t : Nodes) (x : ℕ) → In x (opened v (left v k t)) → In x (opened v t)
  opened_left zero t x here = here
  opened_left (suc k) t x here = opened_left k t x (opened_next (left v k t) x here)

  -- the row of the first one
  pub opened_first : (ns : Nodes) (x : ℕ) → In x (take 1 (heads ns)) → In x (opened v ns)
  opened_first no_nodes x here = here
  opened_first (leaf r b placed later) x here = omega (arith, here)
  opened_first (inner r b kids later) x here = omega (arith, here)

  -- and of its points, where it is a leaf that may change
  pub opened_leaf : (r : ℕ) (b : Box) (placed : List Placed) (later : Nodes) → weakly_dominates v b.nadir ≡ true → (x : ℕ) → In x (r ∷ rows_with placed) → In x (opened v (leaf r b placed later))
  opened_leaf r b placed later over x here =
      subst (λ s. In x (r ∷ ((if s then rows_with placed else []) ++ opened v later))) (sym over)
      (let both = times-append x (rows_with placed) (opened v later) in omega (arith, here, both))

  -- of a node with children that row
  pub opened_inner : (ns : Nodes) (r : ℕ) (b : Box) (kids later : Nodes) → ns ≡ inner r b kids later → (k l : Known) → ReadsOnly (r ∷ []) k l → ReadsOnly (opened v ns) k l
  opened_inner ns r b kids later is k l only = subst (λ ms. ReadsOnly (opened v ms) k l) (sym is) (only_row r (opened v (inner r b kids later)) k l (in_head r _) only)

  -- the word of such a leaf
  pub word_opens : (found : ℕ) (b : Box) (placed : List Placed) (later : Nodes) → found ≡ entry v (leaf (found % ROOT_ROWS) b placed later) → found / ROOT_ROWS ≡ 3 → weakly_dominates v b.nadir ≡ true
  word_opens found b placed later is kind =
      by_test (λ s. (nat_lt 0 (length placed) && weakly_dominates v b.nadir) ≡ s → found ≡ (if s then leaf_word (found % ROOT_ROWS) else found % ROOT_ROWS) → weakly_dominates v b.nadir ≡ true)
      (nat_lt 0 (length placed) && weakly_dominates v b.nadir)
      (λ both full is. (and_parts (nat_lt 0 (length placed)) (weakly_dominates v b.nadir) full).1)
      (λ plain full is. absurd (omega (arith, is, kind)))
      refl is
