-- A node gets a row of the pass.
use Rattle.std.proofs.Common.{◌≡◌, ℕ, zero, suc, ◌+◌, ◌*◌, ◌/◌, ◌<◌, ◌≤◌, inl, inr, ⊎_elim, false, Option, Some, None, MatchOption, List, [], ◌∷◌, ◌++◌, length, get_or, refl, sym, ap, subst, ◌∙◌, arith, append-nil, ℤ}
use Rattle.era_core.specs.declared.sizes.TheConstants.{KINDS}
use Rattle.era_core.specs.Lists.{times, In, is_in}
use Rattle.era_core.specs.Versions.{Copy, look_up}
use Rattle.era_core.proofs.ListFacts.{times-head, in_head}
use Rattle.era_rows.proofs.Flags.{in_list}
use Rattle.std.proofs.lemmas.Bool.{true≢false}
use Rattle.era_rows.specs.Known.{Known, pinned_copy, known_words}
use Rattle.era_rows.specs.Passes.{known_of, marked_of, IsReadable}
use Rattle.era_rows.specs.declared.pass.Pass.{Pass}
use Rattle.era_rows.specs.declared.rows.Rows.{Rows}
use Rattle.era_rows.specs.declared.law.Law.{Ghosts}
use Rattle.pls_archive.specs.declared.call.Entry.{Entry}
use Rattle.nd_rows.specs.declared.layout.TheConstants.{FIRST_LINK, IDEAL, NADIR}
use Rattle.nd_rows.specs.Nodes.{Nodes, no_nodes, leaf, inner, heads, rows_of, rows_with}
use Rattle.nd_rows.specs.Layout.{HasWords, IsLinkRow, IsBoxRow}
use Rattle.nd_update.specs.Building.{Outside, IsBuilding, Does}
use Rattle.nd_update.specs.Counted.{IsPaid, WasRead}
use Rattle.nd_update.specs.Ways.{IsBox, HasNode, IsOwned, touched, touched_box, link_count}
use Rattle.nd_update.proofs.Alike.{words-alike, links-alike}
use Rattle.nd_update.proofs.Building.{does_both, does_write, does_wider, still_fresh, now_fresh, words_outside, still_pinned}
use Rattle.nd_update.proofs.Filling.{taken_apart, still_words}
use Rattle.nd_update.proofs.Paying.{still_read, paid_marked}
use Rattle.nd_update.proofs.Touching.{kind_of, links_of, node_touched, node_first, node_box, node_alone, box_of_one, box_grown}

pub match_none : {A : Type 0} (o : Option A) (N : Type 0) (P : A → Type 0) → o ≡ None → N → MatchOption o N P
match_none o N P none is = subst (λ x. MatchOption x N P) (sym none) is

-- ---- a copy

module _ {L : Type 0} {G : Ghosts L Entry} (r : Rows L Entry) (row own : ℕ) (p q s : Pass L Entry G) (took : Does r (own ∷ []) [] [] p q) (wrote : Does r [] [] (own ∷ []) q s) (readable : IsReadable row (known_of p)) where
  begun : Does r (own ∷ []) [] (own ∷ []) p s
  begun = does_both r (own ∷ []) [] [] [] [] (own ∷ []) p q s took wrote

  pub copy_links_still : (links : List ℕ) → HasWords (known_words (known_of p)) row FIRST_LINK links → HasWords (known_words (known_of s)) row FIRST_LINK links
  copy_links_still links has =
      words-alike 0 (known_words (known_of p)) (known_words (known_of s)) row FIRST_LINK links
      (still_words r (own ∷ []) [] (own ∷ []) p s begun 0 row (taken_apart r (own ∷ []) [] (own ∷ []) p s begun row readable)) has

  pub copied_apart : row ≡ own → ⊥
  copied_apart same =
      let none = taken_apart r (own ∷ []) [] (own ∷ []) p s begun row readable in
      let head = subst (λ x. times row (x ∷ []) ≡ 1) same (times-head row []) in omega (arith, none, head)

  module _ (u : Pass L Entry G) (copied : Does r [] [] (own ∷ []) s u) where
    pub copied_does : Does r (own ∷ []) [] (own ∷ []) p u
    copied_does = does_write r (own ∷ []) [] (own ∷ []) (own ∷ []) p s u (λ x here. here) begun copied

    -- the row is one of the pinned tree still, and unmarked
    pub copied_here : In row (pinned_copy (known_of p)).rows → In row (pinned_copy (known_of u)).rows
    copied_here here = subst (λ (y : Copy). In row y.rows) (sym (still_pinned r (own ∷ []) [] (own ∷ []) p u copied_does)) here

    pub copied_unmarked : times row (marked_of p) ≡ 0 → times row (marked_of u) ≡ 0
    copied_unmarked none = ap (times row) (copied_does.marks ∙ append-nil (marked_of p)) ∙ none

  module _ (u w : Pass L Entry G) (copied : Does r [] [] (own ∷ []) s u) (marks : Does r [] (row ∷ []) [] u w) where
    pub copy_does : Does r (own ∷ []) (row ∷ []) (own ∷ []) p w
    copy_does = does_both r (own ∷ []) [] (own ∷ []) [] (row ∷ []) [] p u w (copied_does u copied) marks

    pub copy_paid : (n : ℕ) → IsBuilding r p → times row (marked_of p) ≡ 0 → WasRead row (known_of p) → IsPaid n (known_of p) (marked_of p) → IsPaid n (known_of w) (marked_of w)
    copy_paid n building unmarked read paid =
        paid_marked r n (own ∷ []) row [] (own ∷ []) p w building copy_does unmarked (still_read r (own ∷ []) (row ∷ []) (own ∷ []) p w building copy_does row read) (omega arith) paid

    pub copy_row : (kind count : ℕ) (links : List ℕ) → look_up (known_words (known_of s)) own 0 ≡ Some (KINDS * length links + kind) → Outside own FIRST_LINK (FIRST_LINK + count) (known_words (known_of s)) (known_words (known_of u))
        → HasWords (known_words (known_of u)) own FIRST_LINK links → IsLinkRow (known_words (known_of w)) kind own links
    copy_row kind count links first out has =
        links-alike 0 (known_words (known_of u)) (known_words (known_of w)) kind own links (still_words r [] (row ∷ []) [] u w marks 0 own refl)
        (record { first = out own 0 (inr (inl (omega arith))) ∙ first; linked = has })

-- ---- a node in its row

pub node_readable : (objectives : ℕ) (k : Known) (row : ℕ) (ms : Nodes) → HasNode objectives k row ms → IsReadable row k
node_readable objectives k row ms has = has.nodes.readable row (head_in ms has.here)
  where
    head_in : (ms : Nodes) → heads ms ≡ row ∷ [] → In row (rows_of ms)
    head_in no_nodes e = absurd (let n = ap length e in omega arith)
    head_in (leaf x box placed later) e = subst (λ y. In y (x ∷ (rows_with placed ++ rows_of later))) (ap (λ ys. get_or ys 0 0) e) (in_head x (rows_with placed ++ rows_of later))
    head_in (inner x box below later) e = subst (λ y. In y (x ∷ (rows_of below ++ rows_of later))) (ap (λ ys. get_or ys 0 0) e) (in_head x (rows_of below ++ rows_of later))

-- its first word tells how many links it has
pub node_count : (objectives : ℕ) (k : Known) (row : ℕ) (ms : Nodes) (w : ℕ) → HasNode objectives k row ms → ((x : ℕ) → look_up (known_words k) row 0 ≡ Some x → w ≡ x) → link_count ms ≡ w / KINDS
node_count objectives k row ms w has word =
    let first = node_first objectives k row ms has in
    let is = word (KINDS * length (links_of ms) + kind_of ms) first.0.first in
    let low = first.1 in
    let long = first.2 in omega arith

pub node_links : (objectives : ℕ) (k l : Known) (row : ℕ) (ms : Nodes) (w : ℕ) → HasNode objectives k row ms → ((x : ℕ) → look_up (known_words k) row 0 ≡ Some x → w ≡ x) → HasNode objectives l row ms
    → (kind : ℕ) × (links : List ℕ) × IsLinkRow (known_words l) kind row links × (w ≡ KINDS * length links + kind) × (kind < KINDS) × (length links ≤ 20)
node_links objectives k l row ms w has word now =
    let first = node_first objectives l row ms now in
    let before = node_first objectives k row ms has in
    let long = first.2 in
    let few = first.3 in
    (kind_of ms, links_of ms, first.0, word (KINDS * length (links_of ms) + kind_of ms) before.0.first, first.1, omega arith)

-- the box that it gets
pub node_grown : (objectives : ℕ) (k : Known) (row : ℕ) (ms : Nodes) (v : List ℤ) → length v ≡ objectives → HasNode objectives k row ms → IsBox objectives (touched_box v ms)
node_grown objectives k row ms v long has = by_count (link_count ms) refl
  where
    by_count : (n : ℕ) → link_count ms ≡ n → IsBox objectives (touched_box v ms)
    by_count zero none = subst (IsBox objectives) (sym (node_alone objectives k row ms v has none)) (box_of_one v objectives long)
    by_count (suc n) some = let box = node_box objectives k row ms v has (omega (arith, some)) in subst (IsBox objectives) (sym box.3) (box_grown box.0 v objectives long box.2)

-- the row that was got is fresh
module _ {L : Type 0} {G : Ghosts L Entry} (r : Rows L Entry) (row own : ℕ) (taken marked : List ℕ) (p q : Pass L Entry G) (one : Does r taken marked taken p q) (owned : IsOwned (known_of p) row own taken marked) where
  pub own_fresh : In own (known_of q).core.fresh
  own_fresh =
      ⊎_elim (λ old. subst (λ x. In x (known_of q).core.fresh) (sym old.1) (still_fresh r taken marked taken p q one row old.0))
      (λ new. now_fresh r taken marked taken p q one own (subst (In own) (sym new.1) (in_head own []))) owned

  own_wider : (x : ℕ) → In x taken → In x (own ∷ [])
  own_wider x here = ⊎_elim (λ old. absurd (let none : In x [] = subst (In x) old.2 here in omega (arith, none))) (λ new. subst (In x) new.1 here) owned

  module _ (s : Pass L Entry G) (boxed : Does r [] [] (own ∷ []) q s) where
    pub own_does : Does r taken marked (own ∷ []) p s
    own_does = does_write r taken marked (own ∷ []) (own ∷ []) p q s (λ x here. here) (does_wider r taken marked taken (own ∷ []) p q own_wider one) boxed

    pub own_node_is : (objectives : ℕ) (v : List ℤ) (ms : Nodes) → length v ≡ objectives → HasNode objectives (known_of p) row ms
        → ((kind : ℕ) (links : List ℕ) → kind < KINDS → length links ≤ 20 → IsLinkRow (known_words (known_of p)) kind row links → IsLinkRow (known_words (known_of q)) kind own links)
        → Outside own IDEAL (NADIR + 4) (known_words (known_of q)) (known_words (known_of s)) → IsBoxRow objectives (known_words (known_of s)) own (touched_box v ms) → HasNode objectives (known_of s) own (touched own v ms)
    own_node_is objectives v ms long has links out box =
        node_touched r own taken marked p s own_does objectives row v long (inl (still_fresh r [] [] (own ∷ []) q s boxed own own_fresh))
        (λ kind ls low few is.
        let now = links kind ls low few is in
        record {
          first = out own 0 (inr (inl (omega arith))) ∙ now.first;
          linked = words_outside own IDEAL (NADIR + 4) (known_words (known_of q)) (known_words (known_of s)) out own FIRST_LINK ls (inr (inl (omega arith))) now.linked;
        }) ms box
        (⊎_elim (λ old. inl old.1)
        (λ new. inr (none (times own (rows_of ms)) (λ here. (let apart = taken_apart r taken marked taken p q one own (has.nodes.readable own here) in let head = subst (λ xs. times own xs ≡ 1) (sym new.1) (times-head own []) in omega (arith, apart, head))))) owned) has
      where
        none : (n : ℕ) → (0 < n → ⊥) → n ≡ 0
        none zero never = refl
        none (suc n) never = absurd (never (omega arith))

-- ---- fresh or not

pub not_fresh : (x : ℕ) (xs : List ℕ) → is_in x xs ≡ false → times x xs ≡ 0
not_fresh x xs fails = none (times x xs) (λ here. true≢false (sym (in_list x xs here) ∙ fails))
  where
    none : (n : ℕ) → (0 < n → ⊥) → n ≡ 0
    none zero never = refl
    none (suc n) never = absurd (never (omega arith))

-- a row that can be read and is not fresh is one of the pinned tree
pub not_fresh_pinned : (k : Known) (x : ℕ) → IsReadable x k → is_in x k.core.fresh ≡ false → In x (pinned_copy k).rows
not_fresh_pinned k x readable fails = ⊎_elim (λ mine. absurd (let none = not_fresh x k.core.fresh fails in omega (arith, mine, none))) (λ old. old) readable

pub readable_row : {L : Type 0} {G : Ghosts L Entry} (r : Rows L Entry) (p : Pass L Entry G) → IsBuilding r p → (x : ℕ) → IsReadable x (known_of p) → x < r.rows
readable_row r p building x readable =
    let same = building.is_pass.sized.rows_are in
    ⊎_elim (λ mine. building.inside x mine) (λ old. let low = p.tied.tree.inside x old in omega (arith, low, same)) readable

-- ---- after nothing but reading

module _ {L : Type 0} {G : Ghosts L Entry} (r : Rows L Entry) (p q : Pass L Entry G) (read : Does r [] [] [] p q) (row : ℕ) where
  pub unmarked_still : (In row (pinned_copy (known_of p)).rows → times row (marked_of p) ≡ 0) → In row (pinned_copy (known_of q)).rows → times row (marked_of q) ≡ 0
  unmarked_still unmarked here =
      ap (times row) (read.marks ∙ append-nil (marked_of p)) ∙ unmarked (subst (λ (y : Copy). In row y.rows) (still_pinned r [] [] [] p q read) here)

  pub owned_same : (own : ℕ) (taken marked : List ℕ) → IsOwned (known_of q) row own taken marked → IsOwned (known_of p) row own taken marked
  owned_same own taken marked owned =
      let same = read.fresh ∙ append-nil (known_of p).core.fresh in
      ⊎_elim (λ old. inl (subst (In row) same old.0, old.1, old.2, old.3)) (λ new. inr (subst (λ xs. times row xs ≡ 0) same new.0, new.1, new.2)) owned
