-- Marks on rows, and a walk that takes them away.
use Rattle.std.proofs.Common.{◌≡◌, ◌≢◌, ℕ, zero, suc, ◌+◌, ◌-◌, ◌/◌, ◌<◌, ◌≤◌, ⊎_elim, Bool, true, false, not, cond, eqb, ltb, leb, List, [], ◌∷◌, ◌++◌, length, get_or, set, refl, sym, ap, subst, ◌∙◌, arith, eq-eqb, lt-ltb, get_or-set_same, get_or-set_other}
use Rattle.std.specs.Prelude.{◌&&◌, ◌||◌}
use Rattle.std.specs.List.{list_all}
use Rattle.std.proofs.lemmas.Bool.{cases_eq, and_parts, and_from, false≢true}
use Rattle.std.proofs.lemmas.List.{append-nil}
use Rattle.std.proofs.lemmas.List.Folds.{list_all-append}
use Rattle.era_core.specs.declared.sizes.TheConstants.{MOST_LINKS, KINDS}
use Rattle.era_core.specs.Lists.{times, In, is_in, all_different}
use Rattle.era_core.specs.Words.{run_of, cell, links}
use Rattle.era_core.specs.Machine.{are_linked}
use Rattle.era_core.proofs.ListFacts.{times-head, times-tail, times-append, in_head, in_tail, in-append_right}
use Rattle.era_core.proofs.Runs.{list_all-in, different_once}

pub in_at : (xs : List ℕ) (i d : ℕ) → i < length xs → In (get_or xs i d) xs
in_at [] i d below = absurd (omega arith)
in_at (x ∷ xs) zero d below = in_head x xs
in_at (x ∷ xs) (suc i) d below = in_tail (get_or xs i d) x xs (in_at xs i d (omega arith))

list_all-from : (test : ℕ → Bool) (xs : List ℕ) → ((x : ℕ) → In x xs → test x ≡ true) → list_all test xs ≡ true
list_all-from test [] each = refl
list_all-from test (x ∷ xs) each =
    and_from (test x) (list_all test xs) (each x (in_head x xs)) (list_all-from test xs (λ y here. each y (in_tail y x xs here)))

pub list_all-same : (f g : ℕ → Bool) (xs : List ℕ) → ((x : ℕ) → f x ≡ g x) → list_all f xs ≡ list_all g xs
list_all-same f g [] same = refl
list_all-same f g (x ∷ xs) same = ap (λ b. b && list_all f xs) (same x) ∙ ap (λ b. g x && b) (list_all-same f g xs same)

different_from_once : (xs : List ℕ) → ((x : ℕ) → times x xs ≤ 1) → all_different xs ≡ true
different_from_once xs once = list_all-from (λ x. eqb (times x xs) 1) xs (λ x here. eq-eqb (times x xs) 1 (let most = once x in omega arith))

-- a list with one more row
pub times-push_other : (x y : ℕ) (xs : List ℕ) → x ≢ y → times x (xs ++ y ∷ []) ≡ times x xs
times-push_other x y xs apart = omega (arith, times-append x xs (y ∷ []), times-tail x y [] apart)

pub is_in-push_same : (y : ℕ) (xs : List ℕ) → is_in y (xs ++ y ∷ []) ≡ true
is_in-push_same y xs = lt-ltb 0 (times y (xs ++ y ∷ [])) (omega (arith, times-append y xs (y ∷ []), times-head y []))

pub is_in-push_other : (x y : ℕ) (xs : List ℕ) → x ≢ y → is_in x (xs ++ y ∷ []) ≡ is_in x xs
is_in-push_other x y xs apart = ap (ltb 0) (times-push_other x y xs apart)

-- one more row has its mark
pub mark-more : (base marks : List Bool) (value : Bool) (done more : List ℕ) (y : ℕ) → more ≡ done ++ y ∷ [] → y < length marks
    → ((x : ℕ) → get_or marks x false ≡ cond (is_in x done) value (get_or base x false))
    → (x : ℕ) → get_or (set marks y value) x false ≡ cond (is_in x more) value (get_or base x false)
mark-more base marks value done more y is within so_far x =
    ⊎_elim
    (λ e.
    subst (λ z. get_or (set marks y value) z false ≡ cond (is_in z more) value (get_or base z false)) (sym e)
    (get_or-set_same marks y value false within ∙ sym (ap (λ b. cond b value (get_or base y false)) (ap (is_in y) is ∙ is_in-push_same y done))))
    (λ apart.
    get_or-set_other marks y x value false apart
    ∙ so_far x
    ∙ ap (λ b. cond b value (get_or base x false)) (sym (ap (is_in x) is ∙ is_in-push_other x y done apart)))
    (cases_eq x y)

-- one more link is a row
pub linked-more : (f : ℕ → ℕ) (rows place end w : ℕ) (all : Bool) → place < end → w ≡ f place → w < rows
    → list_all (λ y. ltb y rows) (run_of f place (end - place)) ≡ all → list_all (λ y. ltb y rows) (run_of f (place + 1) (end - (place + 1))) ≡ all
linked-more f rows place end w all below is row so_far =
    let rest : Bool = list_all (λ y. ltb y rows) (run_of f (place + 1) (end - (place + 1))) in
    let more : end - place ≡ suc (end - (place + 1)) = omega arith in
    sym (ap (λ n. list_all (λ y. ltb y rows) (run_of f place n)) more ∙ ap (λ b. b && rest) (lt-ltb (f place) rows (omega arith))) ∙ so_far

-- a mark in the range of none
marked_within : (marks : List Bool) (x : ℕ) → get_or marks x false ≡ true → x < length marks
marked_within [] x has = absurd (false≢true has)
marked_within (b ∷ marks) zero has = omega arith
marked_within (b ∷ marks) (suc x) has = let rest = marked_within marks x has in omega arith

pub either_mark : (a b : Bool) → cond b true (cond a true false) ≡ (a || b)
either_mark true true = refl
either_mark true false = refl
either_mark false true = refl
either_mark false false = refl

module _ (passes rows : ℕ) (ws : List ℕ) where
  -- no more links than the row has words for, each of them a row
  abbrev pub has_links : ℕ → Bool
  has_links x = leb (cell passes rows ws x 0 / KINDS) MOST_LINKS && list_all (λ y. ltb y rows) (links passes rows ws x)

  -- the rows are a tree that may come whole
  abbrev pub may_come_whole : List Bool → List ℕ → Bool
  may_come_whole marks xs = are_linked passes rows ws xs && all_different xs && list_all (λ x. get_or marks x false) xs

  -- the rows that came so far: each had a mark and links in order, none came twice, and they have lost their marks
  pub record Coming (before now : List Bool) (found : List ℕ) : Type 0 where
    pub linked : are_linked passes rows ws found ≡ true
    pub marked : list_all (λ x. get_or before x false) found ≡ true
    pub once : (x : ℕ) → times x found ≤ 1
    pub left : (x : ℕ) → get_or now x false ≡ (get_or before x false && not (is_in x found))

  module _ (before now : List Bool) (found : List ℕ) (coming : Coming before now found) where
    -- a row that may come has not come yet
    not_found : (row : ℕ) → get_or now row false ≡ true → (get_or before row false ≡ true) × (times row found ≡ 0)
    not_found row has =
        let both = and_parts (get_or before row false) (not (is_in row found)) (sym (coming.left row) ∙ has) in
        (both.0, none (times row found) both.1)
      where
        none : (n : ℕ) → not (ltb 0 n) ≡ true → n ≡ 0
        none zero e = refl
        none (suc n) e = absurd (false≢true (sym (ap not (lt-ltb 0 (suc n) (omega arith))) ∙ e))

    pub coming-more : (more : List ℕ) (row : ℕ) → more ≡ found ++ row ∷ [] → (get_or now row false && has_links row) ≡ true → Coming before (set now row false) more
    coming-more more row is may =
        let both = and_parts (get_or now row false) (has_links row) may in
        let fresh = not_found row both.0 in
        subst (Coming before (set now row false)) (sym is)
        (record {
          linked = list_all-append has_links found (row ∷ []) ∙ and_from (list_all has_links found) (has_links row && true) coming.linked (and_from (has_links row) true both.1 refl);
          marked =
              list_all-append (λ x. get_or before x false) found (row ∷ [])
              ∙ and_from (list_all (λ x. get_or before x false) found) (get_or before row false && true) coming.marked (and_from (get_or before row false) true fresh.0 refl);
          once = λ x.
              ⊎_elim
              (λ e. subst (λ z. times z (found ++ row ∷ []) ≤ 1) (sym e) (omega (arith, times-append row found (row ∷ []), times-head row [], fresh.1)))
              (λ apart. omega (arith, times-push_other x row found apart, coming.once x))
              (cases_eq x row);
          left = λ x.
              ⊎_elim
              (λ e.
              subst (λ z. get_or (set now row false) z false ≡ (get_or before z false && not (is_in z (found ++ row ∷ [])))) (sym e)
              (get_or-set_same now row false false (marked_within now row both.0) ∙ sym (ap (λ b. get_or before row false && not b) (is_in-push_same row found) ∙ and_false (get_or before row false))))
              (λ apart.
              get_or-set_other now row x false false apart
              ∙ coming.left x
              ∙ ap (λ b. get_or before x false && not b) (sym (is_in-push_other x row found apart)))
              (cases_eq x row);
        })
      where
        and_false : (b : Bool) → (b && false) ≡ false
        and_false true = refl
        and_false false = refl

    -- all came
    pub came_whole : (all : List ℕ) → found ++ [] ≡ all → true ≡ may_come_whole before all
    came_whole all is =
        sym (ap (may_come_whole before) (sym is ∙ append-nil found)
        ∙ and_from (are_linked passes rows ws found && all_different found) (list_all (λ x. get_or before x false) found)
        (and_from (are_linked passes rows ws found) (all_different found) coming.linked (different_from_once found coming.once)) coming.marked)

    -- a row is next that may not come
    pub stopped : (next all : List ℕ) (row : ℕ) → found ++ next ≡ all → In row next → (get_or now row false && has_links row) ≡ false → false ≡ may_come_whole before all
    stopped next all row is here no_way = by_value (may_come_whole before all) refl
      where
        by_value : (b : Bool) → may_come_whole before all ≡ b → false ≡ b
        by_value false e = refl
        by_value true e =
            let c = and_parts (are_linked passes rows ws all && all_different all) (list_all (λ x. get_or before x false) all) e in
            let d = and_parts (are_linked passes rows ws all) (all_different all) c.0 in
            let inside = subst (In row) is (in-append_right row found next here) in
            let none : times row found ≡ 0 = omega (arith, different_once all d.1 row, ap (times row) is, times-append row found next) in
            let has : get_or now row false ≡ true =
            coming.left row ∙ and_from (get_or before row false) (not (is_in row found)) (list_all-in (λ x. get_or before x false) all row c.1 inside) (ap (λ n. not (ltb 0 n)) none) in
            sym no_way ∙ and_from (get_or now row false) (has_links row) has (list_all-in has_links all row d.0 inside)
