-- What weak dominance says of values of any lengths.
use Rattle.std.proofs.Common.{◌≡◌, ◌≢◌, ℕ, suc, ℤ, true, false, not, ◌&&◌, int_le, ◌+◌, ◌≤◌, min, zero, List, [], ◌∷◌, length, drop, Some, nat_cmp, int_cmp, Ordering, Less, Equal, Greater, add-one, refl, sym, ap, ◌∙◌, arith}
use Rattle.std.specs.Bool.{◌==◌}
use Rattle.std.specs.List.{slice_get}
use Rattle.std.specs.Cmp.Lexicographic.{slice_cmp}
use Rattle.std.specs.Ordering.{ordering_then, ordering_index, ord_min}
use Rattle.std.proofs.lemmas.Bool.Decides.{nat_tests}
use Rattle.std.proofs.lemmas.Bool.{and_parts, false_from_ne_true, both_ways}
use Rattle.pls_vectors.specs.Dominance.{weakly_dominates}
use Rattle.pls_vectors.specs.Archive.{dominates}

-- a value weakly dominates only values with as many parts
pub length-weakly_dominates : (xs ys : List ℤ) → weakly_dominates xs ys ≡ true → length xs ≡ length ys
length-weakly_dominates [] [] h = refl
length-weakly_dominates [] (y ∷ ys) h = cc
length-weakly_dominates (x ∷ xs) [] h = cc
length-weakly_dominates (x ∷ xs) (y ∷ ys) h =
    ap suc (length-weakly_dominates xs ys (and_parts (int_le y x) (weakly_dominates xs ys) h).1)

pub weakly_dominates-apart : (xs ys : List ℤ) → length xs ≢ length ys → weakly_dominates xs ys ≡ false
weakly_dominates-apart xs ys apart = false_from_ne_true _ (λ h. apart (length-weakly_dominates xs ys h))

pub dominates-apart : (xs ys : List ℤ) → length xs ≢ length ys → dominates weakly_dominates xs ys ≡ false
dominates-apart xs ys apart = ap (λ b. b && not (weakly_dominates ys xs)) (weakly_dominates-apart xs ys apart)

-- the lexicographic order of two lists, from their parts at a place
drop-at : (xs : List ℤ) (k : ℕ) (x : ℤ) → slice_get xs k ≡ Some x → drop k xs ≡ x ∷ drop (suc k) xs
drop-at [] k x at = cc
drop-at (y ∷ ys) zero x at = cc
drop-at (y ∷ ys) (suc k) x at = drop-at ys k x at

pub slice_cmp-at :
    (xs ys : List ℤ) (k : ℕ) (x y : ℤ) → slice_get xs k ≡ Some x → slice_get ys k ≡ Some y
    → slice_cmp int_cmp (drop k xs) (drop k ys) ≡ ordering_then (int_cmp x y) (slice_cmp int_cmp (drop (k + 1) xs) (drop (k + 1) ys))
slice_cmp-at xs ys k x y at at' = rw (drop-at xs k x at, drop-at ys k y at', add-one k) refl

-- where one of two lists is at its end, the shorter one is less
pub slice_cmp-end :
    (xs ys : List ℤ) (m n k : ℕ) → length xs + k ≡ m → length ys + k ≡ n → min m n ≤ k → slice_cmp int_cmp xs ys ≡ nat_cmp m n
slice_cmp-end [] [] m n k e f least = grind (arith, nat_tests)
slice_cmp-end [] (y ∷ ys) m n k e f least = grind (arith, nat_tests)
slice_cmp-end (x ∷ xs) [] m n k e f least = grind (arith, nat_tests)
slice_cmp-end (x ∷ xs) (y ∷ ys) m n k e f least = absurd (omega arith)

pub ord_min-nat : (m n : ℕ) → ord_min nat_cmp m n ≡ min m n
ord_min-nat m n = grind (arith, nat_tests)

-- the first parts decide where they are not equal, and else the later ones
pub then-unequal :
    (order first later whole : Ordering) → true ≡ not (ordering_index order == 1) → order ≡ first → whole ≡ ordering_then first later
    → order ≡ whole
then-unequal order Less later whole unequal e f = e ∙ sym f
then-unequal order Equal later whole unequal e f =
    absurd (both_ways true (unequal ∙ ap (λ o. not (ordering_index o == 1)) e) refl)
then-unequal order Greater later whole unequal e f = e ∙ sym f

pub then-equal :
    (order first later whole : Ordering) → false ≡ not (ordering_index order == 1) → order ≡ first → whole ≡ ordering_then first later
    → later ≡ whole
then-equal order Less later whole equal e f =
    absurd (both_ways false refl (equal ∙ ap (λ o. not (ordering_index o == 1)) e))
then-equal order Equal later whole equal e f = sym f
then-equal order Greater later whole equal e f =
    absurd (both_ways false refl (equal ∙ ap (λ o. not (ordering_index o == 1)) e))
