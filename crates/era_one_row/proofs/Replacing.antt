-- A fresh row without links may take the place of the one row that is pinned.
use Rattle.std.proofs.Common.{◌≡◌, ℕ, zero, suc, ◌+◌, ◌/◌, ⊎_elim, inl, true, Some, List, [], ◌∷◌, flat_map, min, refl, sym, ap, subst, ◌∙◌, arith}
use Rattle.std.specs.Prelude.{is_some, unwrap_or}
use Rattle.std.proofs.lemmas.Bool.{cases_eq}
use Rattle.era_core.specs.declared.sizes.TheConstants.{MOST_LINKS, KINDS}
use Rattle.era_core.specs.Lists.{times, In, without, tree}
use Rattle.era_core.specs.Words.{run_of}
use Rattle.era_core.specs.Versions.{look_up, known, known_links}
use Rattle.era_core.proofs.ListFacts.{times-tail, in_head}
use Rattle.era_core.proofs.BatchFacts.{times-without_gone, times-without_kept}
use Rattle.era_rows.specs.Known.{Known, pinned_copy, known_words, copy_known}
use Rattle.era_rows.specs.May.{AreReplaced, MayPublish}
use Rattle.era_rows.specs.declared.views.Knows.{Knows}
use Rattle.era_rows.proofs.Trees.{look_up-of_rows}
use Rattle.era_one_row.specs.OneRow.{IsOneRow}
use Rattle.era_one_row.specs.Ready.{stamped}
use Rattle.era_one_row.specs.declared.law.Stamped.{Stamped}

-- a row without links is a tree by itself
alone : (links : ℕ → List ℕ) (depth r : ℕ) → links r ≡ [] → tree links depth r ≡ r ∷ []
alone links zero r none = refl
alone links (suc depth) r none = ap (λ xs. r ∷ flat_map (tree links depth) xs) none

module _ (k : Known) (q : ℕ) (no_links : look_up (known_words k) q 0 ≡ Some 0) where
  rows_are : (copy_known k q).rows ≡ q ∷ []
  rows_are = alone (known_links (known_words k)) k.rows q (ap (λ o. run_of (known (known_words k) q) 1 (min MOST_LINKS (unwrap_or o 0 / KINDS))) no_links)

  here : In q (copy_known k q).rows
  here = subst (In q) (sym rows_are) (in_head q [])

  -- what is known of the row is known of the tree
  pub found : (p w : ℕ) → look_up (known_words k) q p ≡ Some w → look_up (copy_known k q).cells q p ≡ Some w
  found p w is = look_up-of_rows (copy_known k q).rows (known_words k) q p here ∙ is

  -- the new tree is one row without links
  pub is_one_row : IsOneRow (copy_known k q)
  is_one_row = record {
    alone = rows_are;
    written = ap is_some (found 0 0 no_links);
    no_links = ap (λ o. unwrap_or o 0 / KINDS) (found 0 0 no_links);
  }

  -- where the pinned tree is another row, that row is the one that goes
  pub is_replaced : (p : ℕ) (marked : List ℕ) → (pinned_copy k).rows ≡ p ∷ [] → times q (pinned_copy k).rows ≡ 0 → marked ≡ p ∷ [] → AreReplaced q k marked
  is_replaced p marked one unread marks x = ⊎_elim
      (λ e. ap (times x) marks ∙ subst (λ y. times y (p ∷ []) ≡ times y (without (copy_known k q).rows (pinned_copy k).rows)) (sym e) pinned_goes)
      (λ other. ap (times x) marks ∙ sym (times-without_kept x (copy_known k q).rows (pinned_copy k).rows (ap (times x) rows_are ∙ times-tail x q [] other) ∙ ap (times x) one))
      (cases_eq x q)
    where
      none : times q (p ∷ []) ≡ 0
      none = ap (times q) (sym one) ∙ unread

      pinned_goes : times q (p ∷ []) ≡ times q (without (copy_known k q).rows (pinned_copy k).rows)
      pinned_goes = none ∙ sym (times-without_gone q (copy_known k q).rows (pinned_copy k).rows here)

-- so the pass may publish it, with an entry of its own
pub may_replace : (seen : Knows Stamped) (n p q number : ℕ) → look_up (known_words seen.view) q 0 ≡ Some 0 → seen.view.core.pinned ≡ Some (n, p) → In q seen.view.core.fresh → seen.view.core.number ≡ Some number
    → MayPublish (λ (e : Stamped). e.caller) (λ e. e.stamp) (λ _ _. true) (λ _ c. IsOneRow c) (λ _ _ _. Unit {0}) (λ _ _ _. Unit {0}) n p q (stamped number (n + 1)) seen
may_replace seen n p q number no_links pinned fresh numbered = record {
  pinned = pinned;
  is_lawful = is_one_row seen.view q no_links;
  fresh_root = fresh;
  parts = λ x inside. inl (⊎_elim (λ e. subst (λ y. In y seen.view.core.fresh) (sym e) fresh) (λ other. absurd (let one = ap (times x) (rows_are seen.view q no_links) in let none = times-tail x q [] other in omega arith)) (cases_eq x q));
  is_accepted = refl;
  named = numbered;
  stamped = refl;
  is_right = tt;
  stands_for = tt;
}
