-- The rows and the versions of batches, and lists that rows have left.
use Rattle.std.proofs.Common.{◌≡◌, ◌≢◌, ℕ, zero, suc, ◌+◌, ◌<◌, ◌≤◌, ◌⊎◌, ⊎_elim, inl, inr, Bool, true, false, not, cond, leb, List, [], ◌∷◌, ◌++◌, refl, sym, ap, subst, ◌∙◌, arith, lt-ltb, le-ltb}
use Rattle.std.proofs.lemmas.Bool.{cases_eq, leb-true, and_parts, or_cases, ltb-true, false≢true}
use Rattle.std.specs.Prelude.{◌&&◌, Option, nat_eq}
use Rattle.std.specs.List.{list_any}
use Rattle.era_core.specs.Lists.{times, In, is_in, without}
use Rattle.era_core.specs.Views.{Batch, rows_in, versions_of, late, batch_of, without_row, clears}
use Rattle.era_core.proofs.ListFacts.{times-append, times-tail, in_cases, in_head, in_tail}

skip : (x y : ℕ) (b : Bool) (ys : List ℕ) → x ≢ y → times x (cond b (y ∷ ys) ys) ≡ times x ys
skip x y true ys apart = times-tail x y ys apart
skip x y false ys apart = refl

-- of two numbers whose sum is positive, one is
pub one_of_two : (m n : ℕ) → 0 < m + n → (0 < m) ⊎ (0 < n)
one_of_two zero n some_there = inr (omega arith)
one_of_two (suc m) n some_there = inl (omega arith)

-- a row that has left stands there no more, and each other row as often as before
pub times-without_gone : (x : ℕ) (gone xs : List ℕ) → In x gone → times x (without gone xs) ≡ 0
times-without_gone x gone [] here = refl
times-without_gone x gone (y ∷ ys) here =
    let rest = times-without_gone x gone ys here in
    ⊎_elim
    (λ e.
    let out : is_in y gone ≡ true = ap (λ v. is_in v gone) (sym e) ∙ lt-ltb 0 (times x gone) here in
    ap (λ b. times x (cond (not b) (y ∷ without gone ys) (without gone ys))) out ∙ rest)
    (λ apart. skip x y (not (is_in y gone)) (without gone ys) apart ∙ rest)
    (cases_eq x y)

pub times-without_kept : (x : ℕ) (gone xs : List ℕ) → times x gone ≡ 0 → times x (without gone xs) ≡ times x xs
times-without_kept x gone [] stays = refl
times-without_kept x gone (y ∷ ys) stays =
    let rest = times-without_kept x gone ys stays in
    ⊎_elim
    (λ e.
    let kept : is_in y gone ≡ false = ap (λ v. is_in v gone) (sym e) ∙ le-ltb 0 (times x gone) (omega arith) in
    ap (λ b. times x (cond (not b) (y ∷ without gone ys) (without gone ys))) kept ∙ ap (λ n. cond (nat_eq x y) 1 0 + n) rest)
    (λ apart. skip x y (not (is_in y gone)) (without gone ys) apart ∙ rest ∙ sym (times-tail x y ys apart))
    (cases_eq x y)

-- a list that is there or not has a row no more often than the list
pub part : (x : ℕ) (b : Bool) (xs : List ℕ) → times x (cond b xs []) ≤ times x xs
part x true xs = omega arith
part x false xs = omega arith

-- rows that were retired late were retired
pub times-late-le : (x n : ℕ) (batches : List Batch) → times x (late n batches) ≤ times x (rows_in batches)
times-late-le x n [] = omega arith
times-late-le x n (b ∷ bs) =
    let rest = times-late-le x n bs in
    let one = part x (leb n b.0) b.1 in
    omega (arith, times-append x (cond (leb n b.0) b.1 []) (late n bs), times-append x b.1 (rows_in bs))

pub times-rows_in-append : (x : ℕ) (xs ys : List Batch) → times x (rows_in (xs ++ ys)) ≡ times x (rows_in xs) + times x (rows_in ys)
times-rows_in-append x [] ys = omega arith
times-rows_in-append x (y ∷ xs) ys = omega (arith, times-rows_in-append x xs ys, times-append x y.1 (rows_in (xs ++ ys)), times-append x y.1 (rows_in xs))

pub times-late-append : (x n : ℕ) (xs ys : List Batch) → times x (late n (xs ++ ys)) ≡ times x (late n xs) + times x (late n ys)
times-late-append x n [] ys = omega arith
times-late-append x n (y ∷ xs) ys =
    let here : List ℕ = cond (leb n y.0) y.1 [] in
    omega (arith, times-late-append x n xs ys, times-append x here (late n (xs ++ ys)), times-append x here (late n xs))

pub times-versions_of-append : (b : ℕ) (xs ys : List Batch) → times b (versions_of (xs ++ ys)) ≡ times b (versions_of xs) + times b (versions_of ys)
times-versions_of-append b [] ys = omega arith
times-versions_of-append b (x ∷ xs) ys = let rest = times-versions_of-append b xs ys in omega arith

-- one batch, or none where it has no rows
pub times-rows_in-batch_of : (x n : ℕ) (xs : List ℕ) → times x (rows_in (batch_of n xs)) ≡ times x xs
times-rows_in-batch_of x n [] = refl
times-rows_in-batch_of x n (y ∷ ys) = omega (arith, times-append x (y ∷ ys) [])

pub times-late-batch_of : (x m n : ℕ) (xs : List ℕ) → times x (late m (batch_of n xs)) ≡ times x (cond (leb m n) xs [])
times-late-batch_of x m n [] = omega (arith, part x (leb m n) [])
times-late-batch_of x m n (y ∷ ys) = omega (arith, times-append x (cond (leb m n) (y ∷ ys) []) [])

pub versions_of-batch_of : (b n : ℕ) (xs : List ℕ) → In b (versions_of (batch_of n xs)) → b ≡ n
versions_of-batch_of b n [] here = absurd (omega arith)
versions_of-batch_of b n (y ∷ ys) here = ⊎_elim (λ e. e) (λ none. absurd (omega arith)) (in_cases b n [] here)

-- no other row stands in a list of one row
pub not_in_one : (x r : ℕ) → x ≢ r → times x (r ∷ []) ≡ 0
not_in_one x r apart = times-tail x r [] apart

-- equal counts stay equal where both lists are there or not
pub cond-times : (x : ℕ) (b : Bool) (xs ys : List ℕ) → times x xs ≡ times x ys → times x (cond b xs []) ≡ times x (cond b ys [])
cond-times x true xs ys e = e
cond-times x false xs ys e = refl

pub times-rows_in-without_row : (x r : ℕ) (bs : List Batch) → x ≢ r → times x (rows_in (without_row r bs)) ≡ times x (rows_in bs)
times-rows_in-without_row x r [] apart = refl
times-rows_in-without_row x r (b ∷ bs) apart =
    let rest = times-rows_in-without_row x r bs apart in
    omega (arith, times-rows_in-append x (batch_of b.0 (without (r ∷ []) b.1)) (without_row r bs), times-rows_in-batch_of x b.0 (without (r ∷ []) b.1), times-without_kept x (r ∷ []) b.1 (not_in_one x r apart), times-append x b.1 (rows_in bs))

pub times-late-without_row : (x r n : ℕ) (bs : List Batch) → x ≢ r → times x (late n (without_row r bs)) ≡ times x (late n bs)
times-late-without_row x r n [] apart = refl
times-late-without_row x r n (b ∷ bs) apart =
    let rest = times-late-without_row x r n bs apart in
    let one = cond-times x (leb n b.0) (without (r ∷ []) b.1) b.1 (times-without_kept x (r ∷ []) b.1 (not_in_one x r apart)) in
    let here : List ℕ = cond (leb n b.0) b.1 [] in
    omega (arith, times-late-append x n (batch_of b.0 (without (r ∷ []) b.1)) (without_row r bs), times-late-batch_of x n b.0 (without (r ∷ []) b.1), times-append x here (late n bs))

pub times-rows_in-row_gone : (r : ℕ) (bs : List Batch) → times r (rows_in (without_row r bs)) ≡ 0
times-rows_in-row_gone r [] = refl
times-rows_in-row_gone r (b ∷ bs) =
    let rest = times-rows_in-row_gone r bs in
    omega (arith, times-rows_in-append r (batch_of b.0 (without (r ∷ []) b.1)) (without_row r bs), times-rows_in-batch_of r b.0 (without (r ∷ []) b.1), times-without_gone r (r ∷ []) b.1 (in_head r []))

pub versions_of-without_row : (b r : ℕ) (bs : List Batch) → In b (versions_of (without_row r bs)) → In b (versions_of bs)
versions_of-without_row b r [] here = here
versions_of-without_row b r (x ∷ xs) here =
    ⊎_elim
    (λ first. let e = versions_of-batch_of b x.0 (without (r ∷ []) x.1) first in subst (λ (y : ℕ). In b (y ∷ versions_of xs)) e (in_head b (versions_of xs)))
    (λ later. in_tail b x.0 (versions_of xs) (versions_of-without_row b r xs later))
    (one_of_two (times b (versions_of (batch_of x.0 (without (r ∷ []) x.1)))) (times b (versions_of (without_row r xs))) (omega (arith, times-versions_of-append b (batch_of x.0 (without (r ∷ []) x.1)) (without_row r xs))))

-- a row with a cleared batch is retired
pub cleared_there : (r : ℕ) (least : Option ℕ) (bs : List Batch) → list_any (λ b. is_in r b.1 && clears least b.0) bs ≡ true → In r (rows_in bs)
cleared_there r least [] cleared = absurd (false≢true cleared)
cleared_there r least (b ∷ bs) cleared =
    ⊎_elim
    (λ first. let here = ltb-true 0 (times r b.1) (and_parts (is_in r b.1) (clears least b.0) first).0 in omega (arith, times-append r b.1 (rows_in bs)))
    (λ later. let rest = cleared_there r least bs later in omega (arith, times-append r b.1 (rows_in bs)))
    (or_cases (is_in r b.1 && clears least b.0) (list_any (λ x. is_in r x.1 && clears least x.0) bs) cleared)

-- a row that was retired late, and whose one batch is cleared: the batch's version is late and cleared
pub late_cleared : (r n : ℕ) (least : Option ℕ) (bs : List Batch) → times r (rows_in bs) ≤ 1
    → list_any (λ b. is_in r b.1 && clears least b.0) bs ≡ true → In r (late n bs)
    → (b : ℕ) × In b (versions_of bs) × (n ≤ b) × (clears least b ≡ true)
late_cleared r n least [] once cleared late_row = absurd (omega arith)
late_cleared r n least (b ∷ bs) once cleared late_row =
    let all = times-append r b.1 (rows_in bs) in
    let tail = times-late-le r n bs in
    let parts = times-append r (cond (leb n b.0) b.1 []) (late n bs) in
    let one = part r (leb n b.0) b.1 in
    ⊎_elim
    (λ first.
    let both = and_parts (is_in r b.1) (clears least b.0) first in
    let here : In r b.1 = ltb-true 0 (times r b.1) both.0 in
    let is_late : In r (cond (leb n b.0) b.1 []) = omega arith in
    (b.0, in_head b.0 (versions_of bs), leb-true n b.0 (late_only r (leb n b.0) b.1 is_late), both.1))
    (λ later.
    let there = cleared_there r least bs later in
    let rest = late_cleared r n least bs (omega arith) later (omega arith) in
    (rest.0, in_tail rest.0 b.0 (versions_of bs) rest.1, rest.2, rest.3))
    (or_cases (is_in r b.1 && clears least b.0) (list_any (λ x. is_in r x.1 && clears least x.0) bs) cleared)
  where
    late_only : (x : ℕ) (t : Bool) (xs : List ℕ) → In x (cond t xs []) → t ≡ true
    late_only x true xs here = refl
    late_only x false xs here = absurd (omega arith)
