-- Lists of different rows are no longer than the number of rows.
use Rattle.std.proofs.Common.{◌≡◌, ◌≢◌, ℕ, zero, suc, ◌+◌, ◌<◌, ◌≤◌, ⊎_elim, true, false, cond, not, List, [], ◌∷◌, ◌++◌, length, refl, sym, ap, subst, ◌∙◌, arith, lt-ltb, le-ltb}
use Rattle.std.proofs.lemmas.Bool.{cases_eq}
use Rattle.std.proofs.lemmas.List.{length_push}
use Rattle.era_core.specs.Lists.{times, In, without, is_in}
use Rattle.era_core.proofs.ListFacts.{times-head, times-tail, times-append, in_head}
use Rattle.era_core.proofs.BatchFacts.{times-without_gone, times-without_kept}

-- no row stands in the list twice
abbrev pub AreDifferent : List ℕ → Type 0
AreDifferent xs = (r : ℕ) → times r xs ≤ 1

-- each row of the list is below n
abbrev pub AreBelow : ℕ → List ℕ → Type 0
AreBelow n xs = (r : ℕ) → In r xs → r < n

pub length_without : (n : ℕ) (xs : List ℕ) → length (without (n ∷ []) xs) + times n xs ≡ length xs
length_without n [] = refl
length_without n (x ∷ xs) =
    let rest = length_without n xs in
    ⊎_elim
    (λ e.
    let out : is_in x (n ∷ []) ≡ true = lt-ltb 0 (times x (n ∷ [])) (let h = times-head n [] in let g : times x (n ∷ []) ≡ times n (n ∷ []) = ap (λ y. times y (n ∷ [])) e in omega arith) in
    let kept : length (without (n ∷ []) (x ∷ xs)) ≡ length (without (n ∷ []) xs) = ap (λ b. length (cond (not b) (x ∷ without (n ∷ []) xs) (without (n ∷ []) xs))) out in
    let one : times n (x ∷ xs) ≡ 1 + times n xs = ap (λ y. times n (y ∷ xs)) e ∙ times-head n xs in
    omega arith)
    (λ apart.
    let stays : is_in x (n ∷ []) ≡ false = le-ltb 0 (times x (n ∷ [])) (let h = times-tail x n [] apart in omega arith) in
    let kept : length (without (n ∷ []) (x ∷ xs)) ≡ suc (length (without (n ∷ []) xs)) = ap (λ b. length (cond (not b) (x ∷ without (n ∷ []) xs) (without (n ∷ []) xs))) stays in
    let none : times n (x ∷ xs) ≡ times n xs = times-tail n x xs (λ e. apart (sym e)) in
    omega arith)
    (cases_eq x n)

-- what a list keeps without one row
pub times-without_le : (x r : ℕ) (xs : List ℕ) → times x (without (r ∷ []) xs) ≤ times x xs
times-without_le x r xs =
    ⊎_elim
    (λ e. (let none = times-without_gone x (r ∷ []) xs (subst (λ y. In x (y ∷ [])) e (in_head x [])) in omega arith))
    (λ apart. (let same = times-without_kept x (r ∷ []) xs (times-tail x r [] apart) in omega arith))
    (cases_eq x r)

gone : (r : ℕ) (xs : List ℕ) → times r (without (r ∷ []) xs) ≡ 0
gone r xs = times-without_gone r (r ∷ []) xs (in_head r [])

pub length-below : (n : ℕ) (xs : List ℕ) → AreDifferent xs → AreBelow n xs → length xs ≤ n
length-below zero [] different below = omega arith
length-below zero (x ∷ xs) different below = absurd (let low = below x (in_head x xs) in omega arith)
length-below (suc n) xs different below =
    let left = without (n ∷ []) xs in
    let few = length-below n left (λ r. (let low = times-without_le r n xs in let one = different r in omega arith))
    (λ r here.
    let low = below r (let some_times = times-without_le r n xs in omega arith) in
    let other : r ≢ n = λ e. absurd (let none = gone n xs in let same : times r left ≡ times n left = ap (λ y. times y left) e in omega arith) in
    omega (arith, other)) in
    let parts = length_without n xs in
    let one = different n in
    omega arith

-- and a list in which each number below n stands is no shorter
pub length-all : (n : ℕ) (xs : List ℕ) → ((r : ℕ) → r < n → In r xs) → n ≤ length xs
length-all zero xs here = omega arith
length-all (suc n) xs here =
    let left = without (n ∷ []) xs in
    let rest = length-all n left (λ r low. (let there = here r (omega arith) in let same = times-without_kept r (n ∷ []) xs (times-tail r n [] (λ e. omega arith)) in omega arith)) in
    let parts = length_without n xs in
    let one = here n (omega arith) in
    omega arith

-- where a row is not in the list, the list is shorter than the number of rows, and with that row it is one of different rows
pub different-push : (r : ℕ) (xs : List ℕ) → AreDifferent xs → times r xs ≡ 0 → AreDifferent (xs ++ r ∷ [])
different-push r xs different none x =
    let parts = times-append x xs (r ∷ []) in
    ⊎_elim
    (λ e.
    let a : times x xs ≡ times r xs = ap (λ y. times y xs) e in
    let b : times x (r ∷ []) ≡ times r (r ∷ []) = ap (λ y. times y (r ∷ [])) e in
    let c = times-head r [] in omega arith)
    (λ apart. (let a = times-tail x r [] apart in let b = different x in omega arith))
    (cases_eq x r)

pub below-push : (n r : ℕ) (xs : List ℕ) → AreBelow n xs → r < n → AreBelow n (xs ++ r ∷ [])
below-push n r xs below row x here =
    let parts = times-append x xs (r ∷ []) in
    ⊎_elim
    (λ e. omega (arith, e))
    (λ apart. below x (let a = times-tail x r [] apart in omega arith))
    (cases_eq x r)

pub room : (n r : ℕ) (xs : List ℕ) → AreDifferent xs → AreBelow n xs → times r xs ≡ 0 → r < n → length xs < n
room n r xs different below none row =
    let few = length-below n (xs ++ r ∷ []) (different-push r xs different none) (below-push n r xs below row) in
    let one = length_push xs r in omega arith
