-- A Publish of the running machine: refused, too late, or done.
use Rattle.std.proofs.Common.{◌≡◌, ◌≢◌, ℕ, zero, suc, ◌+◌, ◌<◌, ⊎_elim, Bool, true, false, cond, ltb, Some, List, [], ◌∷◌, ◌++◌, get_or, length, take, drop, set, refl, sym, ap, ◌∙◌, arith, lt-ltb, eq-eqb, ne_eqb}
use Rattle.std.specs.Prelude.{◌&&◌, ◌||◌, slice_index}
use Rattle.std.specs.List.{list_all}
use Rattle.std.proofs.lemmas.Bool.{and_from, and_parts, or_cases, ltb-true}
use Rattle.era_core.specs.declared.sizes.TheConstants.{LAST_VERSION}
use Rattle.era_core.specs.Lists.{times, In, is_in, all_different, without}
use Rattle.era_core.specs.Words.{root_word, tree_at}
use Rattle.era_core.specs.Views.{View, replacing}
use Rattle.era_core.specs.Machine.{IsRunning, are_linked, is_new_tree, may, may_publish, finds_pinned, words_published, view_published, allows, after}
use Rattle.era_core.specs.declared.event.Event.TheVariants.{Publish}
use Rattle.era_core.proofs.Runs.{list_all-in}
use Rattle.era_core.proofs.Running.{Stepped, stepped, Stored, stored, before, refused, none_of}

-- the rows of a new tree are rows
pub new_inside : (passes rows : ℕ) (ws fresh old new : List ℕ) → is_new_tree passes rows ws fresh old new ≡ true
    → ((x : ℕ) → In x fresh → x < rows) → ((x : ℕ) → In x old → x < rows) → (x : ℕ) → In x new → x < rows
new_inside passes rows ws fresh old new fits in_fresh in_old x here =
    let parts = and_parts (are_linked passes rows ws new && all_different new) (list_all (λ y. is_in y fresh || is_in y old) new) fits in
    ⊎_elim
    (λ a. in_fresh x (ltb-true 0 (times x fresh) a))
    (λ b. in_old x (ltb-true 0 (times x old) b))
    (or_cases (is_in x fresh) (is_in x old) (list_all-in (λ y. is_in y fresh || is_in y old) new x parts.1 here))

-- marks that were written whole
pub written : {A : Type 0} (n : ℕ) (old new : List A) → length old ≡ n → length new ≡ length old → take n (new ++ drop (length new) old) ≡ new
written zero [] [] a b = refl
written zero [] (y ∷ ys) a b = absurd (omega arith)
written zero (x ∷ xs) new a b = absurd (omega arith)
written (suc n) [] new a b = absurd (omega arith)
written (suc n) (x ∷ xs) [] a b = absurd (omega arith)
written (suc n) (x ∷ xs) (y ∷ ys) a b = ap (λ l. y ∷ l) (written n xs ys (omega arith) (omega arith))

pub clear_marks : (n rows : ℕ) (old new : List Bool) → length old ≡ n → length new ≡ length old → length old ≡ rows → ((x : ℕ) → get_or new x false ≡ false)
    → (length (take n (new ++ drop (length new) old)) ≡ rows) × ((x : ℕ) → get_or (take n (new ++ drop (length new) old)) x false ≡ false)
clear_marks n rows old new few same many clear =
    let e = written n old new few same in
    (ap (λ (l : List Bool). length l) e ∙ same ∙ many, λ x. ap (λ (l : List Bool). get_or l x false) e ∙ clear x)

-- what was found of the words and the rows that were read is so of the words and the rows
pub fits_read : (passes rows : ℕ) (ws us fresh list : List ℕ) (r q : ℕ) (found : Bool) → us ≡ ws → list ≡ fresh
    → found ≡ is_new_tree passes rows us list (tree_at passes rows us r) (tree_at passes rows us q)
    → is_new_tree passes rows ws fresh (tree_at passes rows ws r) (tree_at passes rows ws q) ≡ found
fits_read passes rows ws us fresh list r q found same_words same_rows e =
    let test : List ℕ → List ℕ → Bool = λ (vs : List ℕ) (ys : List ℕ). is_new_tree passes rows vs ys (tree_at passes rows vs r) (tree_at passes rows vs q) in
    sym (e ∙ ap (λ vs. test vs list) same_words ∙ ap (test ws) same_rows)

module _ {A : Type 0} (f : A → View) (passes rows : ℕ) (ws : List ℕ) (xs : List A) (running : IsRunning (before f passes rows ws xs))
    (k q : ℕ) (inside : k < passes) (p : A) (is : p ≡ get_or xs k p) (n r : ℕ) (pin : (f p).pinned ≡ Some (n, r)) where
  abbrev pub fits_by : Bool
  fits_by = is_new_tree passes rows ws (f p).fresh (tree_at passes rows ws r) (tree_at passes rows ws q)

  pub publish_refused : fits_by ≡ false → (allows (before f passes rows ws xs) (Publish k q) ≡ false) × (after (before f passes rows ws xs) (Publish k q) ≡ before f passes rows ws xs)
  publish_refused broken =
      refused f passes rows ws xs (Publish k q) p running inside is
      (ap (may_publish passes rows ws (f p) q) pin ∙ none_of (ltb n LAST_VERSION && ltb q rows && is_in q (f p).fresh) fits_by broken)

  module _ (low : n < LAST_VERSION) (row : q < rows) (fresh : is_in q (f p).fresh ≡ true) (fits : fits_by ≡ true) where
    may_be : true ≡ may passes rows ws (f p) (Publish k q)
    may_be =
        sym (ap (may_publish passes rows ws (f p) q) pin
        ∙ and_from (ltb n LAST_VERSION && ltb q rows && is_in q (f p).fresh) fits_by
        (and_from (ltb n LAST_VERSION && ltb q rows) (is_in q (f p).fresh)
        (and_from (ltb n LAST_VERSION) (ltb q rows) (lt-ltb n LAST_VERSION low) (lt-ltb q rows row)) fresh) fits)

    -- another pass has published meanwhile
    pub publish_late : slice_index ws 0 ≢ root_word n r → Stored f passes rows ws xs (Publish k q) true ws
    publish_late moved =
        let late : finds_pinned passes rows ws (f p).pinned ≡ false = ap (finds_pinned passes rows ws) pin ∙ ne_eqb (slice_index ws 0) (root_word n r) moved in
        stored f passes rows ws xs (Publish k q) true ws p running inside is may_be
        (sym (ap (λ b. cond b (words_published passes rows ws q (f p).pinned) ws) late))
        (sym (ap (λ b. cond b (view_published passes rows ws (f p) q (f p).pinned) (f p)) late))

    pub publish_done : slice_index ws 0 ≡ root_word n r → (w : A)
        → f w ≡ replacing n (without (tree_at passes rows ws q) (f p).fresh) (without (tree_at passes rows ws q) (tree_at passes rows ws r)) (f p)
        → Stepped f passes rows ws xs (Publish k q) true (set ws 0 (root_word (n + 1) q)) w
    publish_done found w left =
        let finds : finds_pinned passes rows ws (f p).pinned ≡ true = ap (finds_pinned passes rows ws) pin ∙ eq-eqb (slice_index ws 0) (root_word n r) found in
        stepped f passes rows ws xs (Publish k q) true (set ws 0 (root_word (n + 1) q)) p w running inside is may_be
        (ap (words_published passes rows ws q) (sym pin) ∙ sym (ap (λ b. cond b (words_published passes rows ws q (f p).pinned) ws) finds))
        (left ∙ ap (view_published passes rows ws (f p) q) (sym pin) ∙ sym (ap (λ b. cond b (view_published passes rows ws (f p) q (f p).pinned) (f p)) finds))
