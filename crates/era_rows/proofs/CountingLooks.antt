-- How the rows that a call took, and those of a tree that it read, change look by look.
use Rattle.std.proofs.Common.{◌≡◌, ◌≢◌, ℕ, zero, suc, ◌+◌, ◌-◌, ◌<◌, ◌≤◌, ⊎_elim, Bool, true, false, List, [], ◌∷◌, ◌++◌, take, length, refl, sym, ap, subst, ◌∙◌, arith, ltb, leb, eqb, lt-ltb, le-ltb, le-leb, ne_eqb}
use Rattle.std.specs.Prelude.{◌&&◌, ◌||◌, count_by}
use Rattle.std.specs.List.{list_any}
use Rattle.std.proofs.Math.Seq.{take-append-add}
use Rattle.std.proofs.lemmas.Bool.{cases_eq, cases_lt, lt-leb, and_left, and_right}
use Rattle.std.proofs.lemmas.List.{take_all, take-append-le}
use Rattle.std.proofs.lemmas.List.Sums.{sum_by-append, sum_by-cons, sum_by-take-le, sum_by-le-sum_by}
use Rattle.std.proofs.lemmas.List.Folds.{list_any-append}
use Rattle.era_core.specs.declared.sizes.TheConstants.{WIDTH}
use Rattle.era_core.specs.Lists.{times}
use Rattle.era_core.specs.Words.{reservation_at, owner_at, cell_at}
use Rattle.era_core.proofs.ListFacts.{times-head, times-tail}
use Rattle.era_rows.specs.Known.{Look}
use Rattle.era_rows.specs.Passes.{OnlyTaken, looks_of}
use Rattle.era_rows.specs.FreshRows.{is_take, is_read, takes_in, rows_read, TakesWithin, CountsLooks}
use Rattle.era_rows.proofs.Seats.{bit}
use mathlib.Core.Option.{some}
use lib.ListN.{get_elem?}

-- what a test counts in two lists, and in one element more
count-append : {A : Type 0} (f : A → Bool) (xs ys : List A) → count_by f (xs ++ ys) ≡ count_by f xs + count_by f ys
count-append f xs ys = sum_by-append (λ y. bit (f y)) xs ys

count-cons : {A : Type 0} (f : A → Bool) (x : A) (xs : List A) → count_by f (x ∷ xs) ≡ bit (f x) + count_by f xs
count-cons f x xs = sum_by-cons (λ y. bit (f y)) x xs

count_push : {A : Type 0} (f : A → Bool) (xs : List A) (x : A) (b : Bool) → f x ≡ b → count_by f (xs ++ x ∷ []) ≡ count_by f xs + bit b
count_push f xs x b is =
    let both = count-append f xs (x ∷ []) in
    let one = count-cons f x [] in
    let same : bit (f x) ≡ bit b = ap bit is in omega arith

-- where two tests differ at r alone, the second counts one more for each r
count_one : (f g : ℕ → Bool) (r : ℕ) → f r ≡ false → g r ≡ true → ((x : ℕ) → x ≢ r → g x ≡ f x) → (xs : List ℕ) → count_by g xs ≡ count_by f xs + times r xs
count_one f g r was now same [] = refl
count_one f g r was now same (x ∷ xs) =
    let rest = count_one f g r was now same xs in
    let new = count-cons g x xs in
    let old = count-cons f x xs in
    ⊎_elim
    (λ e.
    let a : bit (f x) ≡ 0 = ap bit (ap f e ∙ was) in
    let b : bit (g x) ≡ 1 = ap bit (ap g e ∙ now) in
    let c : times r (x ∷ xs) ≡ 1 + times r xs = ap (λ y. times r (y ∷ xs)) e ∙ times-head r xs in omega arith)
    (λ apart.
    let a : bit (g x) ≡ bit (f x) = ap bit (same x apart) in
    let c : times r (x ∷ xs) ≡ times r xs = times-tail r x xs (λ e. apart (sym e)) in omega arith)
    (cases_eq x r)

module _ (passes rows : ℕ) where
  -- a look before the owners, one at an owner, and one behind the owners
  no_take-before : (i w : ℕ) → i < owner_at passes rows 0 → is_take passes rows (i, w) ≡ false
  no_take-before i w low = and_left _ (eqb w 0) (and_left _ (ltb i (owner_at passes rows rows)) (lt-leb (owner_at passes rows 0) i low))

  no_take-behind : (i w : ℕ) → owner_at passes rows rows ≤ i → is_take passes rows (i, w) ≡ false
  no_take-behind i w high = and_left _ (eqb w 0) (and_right (leb (owner_at passes rows 0) i) _ (le-ltb i (owner_at passes rows rows) high))

  take-owner : (r w : ℕ) → r < rows → is_take passes rows (owner_at passes rows r, w) ≡ eqb w 0
  take-owner r w low =
      ap (λ b. b && ltb (owner_at passes rows r) (owner_at passes rows rows) && eqb w 0) (le-leb (owner_at passes rows 0) (owner_at passes rows r) (omega arith))
      ∙ ap (λ b. b && eqb w 0) (lt-ltb (owner_at passes rows r) (owner_at passes rows rows) (omega arith))

  -- which row a cell is of
  pub read-own : (r p w : ℕ) → p < WIDTH → is_read passes rows r (cell_at passes rows r p, w) ≡ true
  read-own r p w low =
      ap (λ b. b && ltb (cell_at passes rows r p) (cell_at passes rows (r + 1) 0)) (le-leb (cell_at passes rows r 0) (cell_at passes rows r p) (omega arith))
      ∙ lt-ltb (cell_at passes rows r p) (cell_at passes rows (r + 1) 0) (omega arith)

  read-other : (r x p w : ℕ) → p < WIDTH → x ≢ r → is_read passes rows x (cell_at passes rows r p, w) ≡ false
  read-other r x p w low apart =
      ⊎_elim
      (λ less. and_right (leb (cell_at passes rows x 0) (cell_at passes rows r p)) _ (le-ltb (cell_at passes rows r p) (cell_at passes rows (x + 1) 0) (omega arith)))
      (λ most. and_left _ (ltb (cell_at passes rows r p) (cell_at passes rows (x + 1) 0)) (lt-leb (cell_at passes rows x 0) (cell_at passes rows r p) (omega arith)))
      (cases_lt x r)

  -- rows that were read stay read
  any_more : (f : Look → Bool) (looks more : List Look) → bit (list_any f looks) ≤ bit (list_any f (looks ++ more))
  any_more f looks more = let same = list_any-append f looks more in by_first (list_any f looks) (list_any f (looks ++ more)) same
    where
      by_first : (a b : Bool) → b ≡ (a || list_any f more) → bit a ≤ bit b
      by_first true b is = let e : bit b ≡ 1 = ap bit is in omega arith
      by_first false b is = omega arith

  pub read_more : (tree : List ℕ) (looks more : List Look) → rows_read passes rows tree looks ≤ rows_read passes rows tree (looks ++ more)
  read_more tree looks more =
      sum_by-le-sum_by (λ r. bit (list_any (is_read passes rows r) looks)) (λ r. bit (list_any (is_read passes rows r) (looks ++ more))) tree
      (λ r. any_more (is_read passes rows r) looks more)

  read_first : (tree : List ℕ) (looks : List Look) (r p w : ℕ) → times r tree ≡ 1 → p < WIDTH → list_any (is_read passes rows r) looks ≡ false
      → rows_read passes rows tree (looks ++ (cell_at passes rows r p, w) ∷ []) ≡ rows_read passes rows tree looks + 1
  read_first tree looks r p w once low unread =
      let look : Look = (cell_at passes rows r p, w) in
      let one = count_one
      (λ x. list_any (is_read passes rows x) looks)
      (λ x. list_any (is_read passes rows x) (looks ++ look ∷ []))
      r
      unread
      (list_any-append (is_read passes rows r) looks (look ∷ []) ∙ ap (λ b. b || list_any (is_read passes rows r) (look ∷ [])) unread ∙ ap (λ b. b || false) (read-own r p w low))
      (λ x apart. list_any-append (is_read passes rows x) looks (look ∷ []) ∙ ap (λ b. list_any (is_read passes rows x) looks || (b || false)) (read-other r x p w low apart) ∙ or_none (list_any (is_read passes rows x) looks))
      tree in
      omega arith
    where
      or_none : (b : Bool) → (b || false) ≡ b
      or_none true = refl
      or_none false = refl

  -- a call that has found nothing yet, and one that goes on with looks of which none is a take
  within_none : (tree : List ℕ) (most : ℕ) → TakesWithin passes rows tree most []
  within_none tree most zero = omega arith
  within_none tree most (suc n) = omega arith

  within_more : (tree : List ℕ) (most : ℕ) (looks more : List Look) → TakesWithin passes rows tree most looks
      → takes_in passes rows (looks ++ more) ≤ rows_read passes rows tree looks + most → TakesWithin passes rows tree most (looks ++ more)
  within_more tree most looks more within few n =
      ⊎_elim
      (λ early. subst (λ xs. takes_in passes rows xs ≤ rows_read passes rows tree xs + most) (sym (take-append-le n looks more (omega arith))) (within n))
      (λ late.
      let begun : take n (looks ++ more) ≡ looks ++ take (n - length looks) more =
      ap (λ m. take m (looks ++ more)) (let e : n ≡ length looks + (n - length looks) = omega arith in e) ∙ take-append-add looks more (n - length looks) in
      subst (λ xs. takes_in passes rows xs ≤ rows_read passes rows tree xs + most) (sym begun)
      (let some_more = sum_by-take-le (λ l. bit (is_take passes rows l)) more (n - length looks) in
      let all = count-append (is_take passes rows) looks more in
      let first = count-append (is_take passes rows) looks (take (n - length looks) more) in
      let rows_stay = read_more tree looks (take (n - length looks) more) in omega arith))
      (cases_lt n (length looks))

  -- one look more, by what it is
  pub counts_looks : CountsLooks passes rows
  counts_looks = record {
    take = λ looks r low. count_push (is_take passes rows) looks (owner_at passes rows r, 0) true (take-owner r 0 low);
    taken = λ looks r w low some_owner. count_push (is_take passes rows) looks (owner_at passes rows r, w) false (take-owner r w low ∙ ne_eqb w 0 (λ e. omega arith)) ∙ nothing (takes_in passes rows looks);
    read = λ looks r p w. count_push (is_take passes rows) looks (cell_at passes rows r p, w) false (no_take-behind (cell_at passes rows r p) w (omega arith)) ∙ nothing (takes_in passes rows looks);
    reservation = λ looks j w low. count_push (is_take passes rows) looks (reservation_at passes rows j, w) false (no_take-before (reservation_at passes rows j) w (omega arith)) ∙ nothing (takes_in passes rows looks);
    root = λ looks w. count_push (is_take passes rows) looks (0, w) false (no_take-before 0 w (omega arith)) ∙ nothing (takes_in passes rows looks);
    read_first = read_first;
    read_more = read_more;
    begins = within_none;
    goes_on = within_more;
  }
    where
      nothing : (n : ℕ) → n + 0 ≡ n
      nothing n = omega arith

  -- looks of which none is a take
  none_taken : (looks : List Look) → ((i : ℕ) (l : Look) → get_elem? looks i ≡ some l → is_take passes rows l ≡ false) → takes_in passes rows looks ≡ 0
  none_taken [] none = refl
  none_taken (l ∷ looks) none =
      let rest = none_taken looks (λ i m there. none (suc i) m there) in
      let one = count-cons (is_take passes rows) l looks in
      let first : bit (is_take passes rows l) ≡ 0 = ap bit (none 0 l refl) in omega arith

  -- a search that found these rows taken, and one that then took a row
  pub takes-found : (from to : ℕ) (looks : List Look) → to ≤ rows → OnlyTaken passes rows from to looks → takes_in passes rows looks ≡ 0
  takes-found from to looks inside only =
      none_taken looks (λ i l there.
      let was = only i l there in
      ap (λ place. is_take passes rows (place, l.1)) was.4 ∙ take-owner was.0 l.1 (let low = was.2 in omega arith) ∙ ne_eqb l.1 0 (λ e. (let some_owner = was.3 in omega arith)))

  pub takes-taken : (from to r : ℕ) (looks : List Look) → to ≤ rows → r < rows → OnlyTaken passes rows from to looks → takes_in passes rows (looks ++ (owner_at passes rows r, 0) ∷ []) ≡ 1
  takes-taken from to r looks inside low only = let none = takes-found from to looks inside only in let one = counts_looks.take looks r low in omega arith

  -- a scan
  pub takes-scan : (j : ℕ) (words : List ℕ) → j + length words ≤ passes → takes_in passes rows (looks_of passes rows j words) ≡ 0
  takes-scan j [] inside = refl
  takes-scan j (w ∷ words) inside =
      let rest = takes-scan (j + 1) words (omega arith) in
      let one = count-cons (is_take passes rows) (reservation_at passes rows j, w) (looks_of passes rows (j + 1) words) in
      let first : bit (is_take passes rows (reservation_at passes rows j, w)) ≡ 0 = ap bit (no_take-before (reservation_at passes rows j) w (omega arith)) in omega arith

  -- reads of words of rows, and a look at the root
  pub takes-read : (looks : List Look) → ((i : ℕ) (l : Look) → get_elem? looks i ≡ some l → (r p : ℕ) × (l.0 ≡ cell_at passes rows r p)) → takes_in passes rows looks ≡ 0
  takes-read looks cells =
      none_taken looks (λ i l there.
      let cell = cells i l there in
      ap (λ place. is_take passes rows (place, l.1)) cell.2 ∙ no_take-behind (cell_at passes rows cell.0 cell.1) l.1 (omega arith))

  pub takes-root : (looks : List Look) (w : ℕ) → takes_in passes rows looks ≡ 0 → takes_in passes rows (looks ++ (0, w) ∷ []) ≡ 0
  takes-root looks w none = counts_looks.root looks w ∙ none

  -- few takes in all are few takes at each moment, and the other way
  pub within_all : (tree : List ℕ) (most : ℕ) (looks : List Look) → takes_in passes rows looks ≤ most → TakesWithin passes rows tree most looks
  within_all tree most looks few n = let some_of = sum_by-take-le (λ l. bit (is_take passes rows l)) looks n in omega arith

  pub takes_all : (most : ℕ) (looks : List Look) → TakesWithin passes rows [] most looks → takes_in passes rows looks ≤ most
  takes_all most looks within =
      let all = subst (λ xs. takes_in passes rows xs ≤ 0 + most) (take_all (length looks) looks (omega arith)) (within (length looks)) in omega arith

  pub takes-append : (looks more : List Look) → takes_in passes rows (looks ++ more) ≡ takes_in passes rows looks + takes_in passes rows more
  takes-append looks more = count-append (is_take passes rows) looks more
