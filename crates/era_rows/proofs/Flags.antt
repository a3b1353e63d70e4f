-- Flags on the fresh rows that a walk has not reached.
use Rattle.std.proofs.Common.{◌≡◌, ℕ, ◌<◌, ◌≤◌, ⊎_elim, Bool, true, false, not, cond, ltb, List, [], ◌∷◌, ◌++◌, length, get_or, set, filter, refl, sym, ap, subst, ◌∙◌, arith, lt-ltb, le-ltb, get_or-set_same, get_or-set_other}
use Rattle.std.specs.Prelude.{◌&&◌}
use Rattle.std.proofs.lemmas.Bool.{cases_eq, cases_lt, and_parts, ltb-true}
use Rattle.std.proofs.lemmas.List.{length-set, set-get_or, get_or_past}
use Rattle.std.proofs.Math.Bool.{and-true, and-false}
use Rattle.era_core.specs.Lists.{times, In, is_in, without}
use Rattle.era_core.proofs.ListFacts.{times-append, times-head, in_head, in_tail}
use Rattle.era_core.proofs.BatchFacts.{times-without_gone, times-without_kept}
use Rattle.era_core.proofs.Marks.{times-push_other, is_in-push_same, is_in-push_other}
use Rattle.era_rows.specs.Reach.{IsReached}
use Rattle.era_rows.proofs.Moves.{not_in}
use Rattle.era_core.proofs.Room.{AreBelow, different-push, length-below, room}

-- the test of membership finds a row that stands in the list
pub in_list : (x : ℕ) (xs : List ℕ) → In x xs → is_in x xs ≡ true
in_list x xs here = lt-ltb 0 (times x xs) here

-- and none that does not
pub not_in_list : (x : ℕ) (xs : List ℕ) → times x xs ≡ 0 → is_in x xs ≡ false
not_in_list x xs none = le-ltb 0 (times x xs) (omega arith)

-- what the test finds stands in the list
pub from_in : (x : ℕ) (xs : List ℕ) → is_in x xs ≡ true → In x xs
from_in x xs here = ltb-true 0 (times x xs) here

-- a row stands in what is left of a list where it stands in the list and is none of those that are gone
pub is_in-without : (x : ℕ) (gone xs : List ℕ) → is_in x (without gone xs) ≡ (is_in x xs && not (is_in x gone))
is_in-without x gone xs =
    ⊎_elim
    (λ none.
    ap (ltb 0) (times-without_kept x gone xs none)
    ∙ sym (and-true (is_in x xs))
    ∙ ap (λ b. is_in x xs && not b) (sym (not_in_list x gone none)))
    (λ some_times.
    not_in_list x (without gone xs) (times-without_gone x gone xs (omega arith))
    ∙ sym (and-false (is_in x xs))
    ∙ ap (λ b. is_in x xs && not b) (sym (in_list x gone (omega arith))))
    (cases_eq (times x gone) 0)

-- a filter takes the same elements by tests that say the same of each
pub filter-same : (f g : ℕ → Bool) (xs : List ℕ) → ((x : ℕ) → In x xs → f x ≡ g x) → filter f xs ≡ filter g xs
filter-same f g [] same = refl
filter-same f g (x ∷ xs) same =
    ap (λ b. cond b (x ∷ filter f xs) (filter f xs)) (same x (in_head x xs))
    ∙ ap (λ ys. cond (g x) (x ∷ ys) ys) (filter-same f g xs (λ y here. same y (in_tail y x xs here)))

-- a walk begins, and has reached no row
pub none_reached : (rows : ℕ) (fresh : List ℕ) (loose : List Bool) → length loose ≡ rows → AreBelow rows fresh
    → ((x : ℕ) → x < rows → get_or loose x false ≡ is_in x fresh) → IsReached rows fresh loose []
none_reached rows fresh loose counted inside flagged = record {
  counted = counted;
  left = λ x.
      ⊎_elim
      (λ low. flagged x low ∙ sym (and-true (is_in x fresh)))
      (λ high.
      get_or_past loose x false (omega arith)
      ∙ sym (and-true false)
      ∙ ap (λ b. b && true) (sym (not_in_list x fresh (⊎_elim (λ e. e) (λ some_times. absurd (let low = inside x (omega arith) in omega arith)) (cases_eq (times x fresh) 0)))))
      (cases_lt x rows);
  are_fresh = λ x here. absurd (omega arith);
  once = λ x. omega arith;
}

module _ (rows : ℕ) (fresh : List ℕ) (loose : List Bool) (reached : List ℕ) (so_far : IsReached rows fresh loose reached) where
  -- a row with a flag is fresh and was not reached
  pub loose_row : (row : ℕ) → get_or loose row false ≡ true → In row fresh × (times row reached ≡ 0)
  loose_row row has =
      let both = and_parts (is_in row fresh) (not (is_in row reached)) (sym (so_far.left row) ∙ has) in
      (from_in row fresh both.0, not_in row reached both.1)

  -- and there is room for it
  pub reached_room : (row : ℕ) → row < rows → AreBelow rows fresh → get_or loose row false ≡ true → length reached < rows
  reached_room row low inside has = room rows row reached so_far.once (λ x here. inside x (so_far.are_fresh x here)) (loose_row row has).1 low

  -- no more rows were reached than there are
  pub reached_few : AreBelow rows fresh → length reached ≤ rows
  reached_few inside = length-below rows reached so_far.once (λ x here. inside x (so_far.are_fresh x here))

  -- the row is reached, where it has a flag
  pub row_reached : (row : ℕ) → row < rows → IsReached rows fresh (set loose row false) (cond (get_or loose row false) (reached ++ row ∷ []) reached)
  row_reached row low = by_flag (get_or loose row false) refl
    where
      by_flag : (b : Bool) → get_or loose row false ≡ b → IsReached rows fresh (set loose row false) (cond b (reached ++ row ∷ []) reached)
      by_flag true e =
          let is = loose_row row e in
          record {
            counted = length-set loose row false ∙ so_far.counted;
            left = λ x.
                ⊎_elim
                (λ same.
                subst (λ z. get_or (set loose row false) z false ≡ (is_in z fresh && not (is_in z (reached ++ row ∷ [])))) (sym same)
                (get_or-set_same loose row false false (let count = so_far.counted in omega arith)
                ∙ sym (ap (λ t. is_in row fresh && not t) (is_in-push_same row reached) ∙ and-false (is_in row fresh))))
                (λ apart.
                get_or-set_other loose row x false false apart
                ∙ so_far.left x
                ∙ ap (λ t. is_in x fresh && not t) (sym (is_in-push_other x row reached apart)))
                (cases_eq x row);
            are_fresh = λ x here.
                ⊎_elim
                (λ same. subst (λ z. In z fresh) (sym same) is.0)
                (λ apart. so_far.are_fresh x (let e = times-push_other x row reached apart in omega arith))
                (cases_eq x row);
            once = λ x. different-push row reached so_far.once is.1 x;
          }
      by_flag false e = subst (λ xs. IsReached rows fresh xs reached) (sym (ap (set loose row) (sym e) ∙ set-get_or loose row false)) so_far

  -- a fresh row has been reached once the row has had its turn
  pub fresh_reached : (row : ℕ) → In row fresh → In row (cond (get_or loose row false) (reached ++ row ∷ []) reached)
  fresh_reached row here =
      ⊎_elim
      (λ none.
      subst (λ b. In row (cond b (reached ++ row ∷ []) reached))
      (sym (so_far.left row ∙ ap (λ b. b && not (is_in row reached)) (in_list row fresh here) ∙ ap (λ b. true && not b) (not_in_list row reached none)))
      (omega (arith, times-append row reached (row ∷ []), times-head row [])))
      (λ some_times.
      subst (λ b. In row (cond b (reached ++ row ∷ []) reached))
      (sym (so_far.left row ∙ ap (λ b. is_in row fresh && not b) (in_list row reached (omega arith)) ∙ and-false (is_in row fresh)))
      (omega arith))
      (cases_eq (times row reached) 0)

  module _ (new : List ℕ) (all : (x : ℕ) → In x fresh → is_in x reached ≡ is_in x new) where
    -- the flags are those of the fresh rows that are not in the new tree
    pub loose_now : (x : ℕ) → get_or loose x false ≡ is_in x (without new fresh)
    loose_now x =
        so_far.left x
        ∙ ⊎_elim
        (λ none. ap (λ b. b && not (is_in x reached)) (not_in_list x fresh none) ∙ sym (ap (λ b. b && not (is_in x new)) (not_in_list x fresh none)))
        (λ some_times. ap (λ b. is_in x fresh && not b) (all x (omega arith)))
        (cases_eq (times x fresh) 0)
        ∙ sym (is_in-without x new fresh)

    -- what a filter by the flags keeps
    pub fresh_left : filter (λ x. get_or loose x false) fresh ≡ without new fresh
    fresh_left =
        filter-same (λ x. get_or loose x false) (λ x. not (is_in x new)) fresh (λ x here.
        so_far.left x ∙ ap (λ b. b && not (is_in x reached)) (in_list x fresh here) ∙ ap not (all x here))

  -- with the reached rows the flags are those of all fresh rows
  pub loose_again : (x : ℕ) → cond (is_in x reached) true (get_or loose x false) ≡ is_in x fresh
  loose_again x =
      ⊎_elim
      (λ none.
      ap (λ b. cond b true (get_or loose x false)) (not_in_list x reached none)
      ∙ so_far.left x
      ∙ ap (λ b. is_in x fresh && not b) (not_in_list x reached none)
      ∙ and-true (is_in x fresh))
      (λ some_times.
      ap (λ b. cond b true (get_or loose x false)) (in_list x reached (omega arith)) ∙ sym (in_list x fresh (so_far.are_fresh x (omega arith))))
      (cases_eq (times x reached) 0)
