-- The members in ascending lexicographic order of their values: the same points, and the only such list.
use Rattle.std.proofs.Common.{◌≡◌, ℤ, true, false, List, [], ◌∷◌, get_or, Ordering, Less, Equal, Greater, refl, ap, ◌∙◌, arith}
use Rattle.std.specs.Cmp.{IsStrictWeakOrder, IsTotalOrder, on_total, int_cmp_total}
use Rattle.std.specs.Cmp.Lexicographic.{slice_cmp, lists_total}
use Rattle.std.specs.List.{IsDistinct}
use Rattle.std.specs.List.Sorted.{IsPermutation, IsSorted, IsSortedByKey, IsStrictlySortedBy}
use Rattle.std.specs.Ordering.{int_cmp, ordering_reverse, ordering_then, is_lt, is_gt, is_eq, eq_by_cmp}
use Rattle.std.proofs.lemmas.Bool.{cond_both, both_ways, false_from_ne_true, and_from}
use Rattle.std.proofs.lemmas.Int.{ints}
use Rattle.std.proofs.lemmas.List.Sorted.{ranks_by, IsPermutation-refl, IsPermutation-sym, IsPermutation-trans, IsPermutation-cons, IsPermutation-middle}
use Rattle.std.proofs.lemmas.Map.Keys.{IsDistinct-from_apart, IsDistinct-IsPermutation}
use Rattle.std.proofs.lemmas.Map.Lookups.{exact_signed}
use Rattle.pls_vectors.specs.Dominance.{weakly_dominates}
use Rattle.pls_vectors.specs.Solution.{no_items}
use Rattle.pls_vectors.proofs.ArchiveOfMembers.{archive-incomparable}
use Rattle.pls_archive.specs.declared.point.Point.{Point}
use Rattle.pls_archive.specs.Reply.{members, put_in_order, in_order}
use Rattle.pls_archive.specs.NondominatedRule.{point_weakly_dominates-IsPreorder}
use Rattle.pls_archive.proofs.Sorted.{same_from_sorted, strictly_from_sorted, BeginsFrom, BeginsFrom-sorted, IsSorted-nil, IsSorted-cons, IsSorted-rest}

-- the lexicographic order of the values of points
abbrev pub by_value : Point → Point → Ordering
by_value p q = slice_cmp int_cmp p.value q.value

pub by_value-IsTotalOrder : IsTotalOrder by_value
by_value-IsTotalOrder = on_total (λ (p : Point). p.value) (lists_total int_cmp_total)

-- what std's sorts ask of a comparison by value
pub by_value-IsStrictWeakOrder : IsStrictWeakOrder (λ (p q : Point). is_lt (slice_cmp int_cmp p.value q.value))
by_value-IsStrictWeakOrder = ranks_by (lists_total int_cmp_total) (λ (p : Point). p.value)

-- put in order, they are the same points
pub put_in_order-IsPermutation : (p : Point) (points : List Point) → IsPermutation (p ∷ points) (put_in_order p points)
put_in_order-IsPermutation p [] = IsPermutation-refl (p ∷ [])
put_in_order-IsPermutation p (q ∷ points) =
    let exchanged = IsPermutation-middle (q ∷ []) p points in
    let later = IsPermutation-cons q (p ∷ points) (put_in_order p points) (put_in_order-IsPermutation p points) in
    cond_both (is_gt (by_value p q)) (q ∷ put_in_order p points) (p ∷ q ∷ points) (IsPermutation (p ∷ q ∷ points))
    (λ above. IsPermutation-trans (p ∷ q ∷ points) (q ∷ p ∷ points) (q ∷ put_in_order p points) (IsPermutation-sym (q ∷ p ∷ points) (p ∷ q ∷ points) exchanged) later)
    (λ below. IsPermutation-refl (p ∷ q ∷ points))

pub in_order-IsPermutation : (points : List Point) → IsPermutation points (in_order points)
in_order-IsPermutation [] = IsPermutation-refl []
in_order-IsPermutation (p ∷ points) =
    IsPermutation-trans (p ∷ points) (p ∷ in_order points) (in_order (p ∷ points))
    (IsPermutation-cons p points (in_order points) (in_order-IsPermutation points))
    (put_in_order-IsPermutation p (in_order points))

-- and ascend
below_from_gt : (a : Ordering) → is_gt a ≡ true → is_lt a ≡ false
below_from_gt Less h = cc
below_from_gt Equal h = refl
below_from_gt Greater h = refl

below_from_reverse : (a b : Ordering) → b ≡ ordering_reverse a → is_gt a ≡ false → is_lt b ≡ false
below_from_reverse Less b e h = ap is_lt e
below_from_reverse Equal b e h = ap is_lt e
below_from_reverse Greater b e h = cc

BeginsFrom-put_in_order :
    (p q : Point) (points : List Point) → is_lt (by_value p q) ≡ false → BeginsFrom by_value q points
    → BeginsFrom by_value q (put_in_order p points)
BeginsFrom-put_in_order p q [] h from = h
BeginsFrom-put_in_order p q (r ∷ points) h from =
    cond_both (is_gt (by_value p r)) (r ∷ put_in_order p points) (p ∷ r ∷ points) (BeginsFrom by_value q) (λ above. from) (λ below. h)

put_in_order-IsSorted : (p : Point) (points : List Point) → IsSorted by_value points → IsSorted by_value (put_in_order p points)
put_in_order-IsSorted p [] sorted = IsSorted-cons by_value p [] tt sorted
put_in_order-IsSorted p (q ∷ points) sorted =
    let later = put_in_order-IsSorted p points (IsSorted-rest by_value q points sorted) in
    let first = BeginsFrom-sorted by_value q points sorted in
    cond_both (is_gt (by_value p q)) (q ∷ put_in_order p points) (p ∷ q ∷ points) (IsSorted by_value)
    (λ above. IsSorted-cons by_value q (put_in_order p points) (BeginsFrom-put_in_order p q points (below_from_gt (by_value p q) above) first) later)
    (λ below. IsSorted-cons by_value p (q ∷ points) (below_from_reverse (by_value p q) (by_value q p) (by_value-IsTotalOrder.antisymm q p) below) sorted)

pub in_order-IsSorted : (points : List Point) → IsSortedByKey (λ p. p.value) (slice_cmp int_cmp) (in_order points)
in_order-IsSorted [] = IsSorted-nil by_value
in_order-IsSorted (p ∷ points) = put_in_order-IsSorted p (in_order points) (in_order-IsSorted points)

-- members have different values
both_equal : (a b : Ordering) → is_eq (ordering_then a b) ≡ true → (a ≡ Equal) × (is_eq b ≡ true)
both_equal Less b h = cc
both_equal Equal b h = (refl, h)
both_equal Greater b h = cc

weakly_dominates-equal : (xs ys : List ℤ) → is_eq (slice_cmp int_cmp xs ys) ≡ true → weakly_dominates xs ys ≡ true
weakly_dominates-equal [] [] h = refl
weakly_dominates-equal [] (y ∷ ys) h = cc
weakly_dominates-equal (x ∷ xs) [] h = cc
weakly_dominates-equal (x ∷ xs) (y ∷ ys) h =
    let both = both_equal (int_cmp x y) (slice_cmp int_cmp xs ys) h in
    let e : x ≡ y = exact_signed x y both.0 in
    and_from _ _ (grind (arith, ints)) (weakly_dominates-equal xs ys both.1)

members-IsDistinct : (submitted : List Point) → IsDistinct (eq_by_cmp by_value) (members submitted)
members-IsDistinct submitted =
    IsDistinct-from_apart (eq_by_cmp by_value) (members submitted)
    (λ i j d before within.
    let pair = archive-incomparable point_weakly_dominates-IsPreorder submitted i j d before within in
    let p = get_or (members submitted) i d in
    let q = get_or (members submitted) j d in
    false_from_ne_true _ (λ same. both_ways _ pair.0 (weakly_dominates-equal p.value q.value same)))

eq_by_cmp-flips : (p q : Point) → eq_by_cmp by_value p q ≡ eq_by_cmp by_value q p
eq_by_cmp-flips p q = ap is_eq (by_value-IsTotalOrder.antisymm p q) ∙ is_eq-reverse (by_value q p)
  where
    is_eq-reverse : (a : Ordering) → is_eq (ordering_reverse a) ≡ is_eq a
    is_eq-reverse Less = refl
    is_eq-reverse Equal = refl
    is_eq-reverse Greater = refl

-- the members, sorted by whatever means, ascend strictly, and are the members in order
module _ (submitted sorted : List Point) (same : IsPermutation (members submitted) sorted) where
  pub sorted_members-IsStrictlySorted :
      IsSortedByKey (λ p. p.value) (slice_cmp int_cmp) sorted → IsStrictlySortedBy by_value sorted
  sorted_members-IsStrictlySorted ascending =
      let some_point : Point = record { value = []; sol = no_items 0 } in
      strictly_from_sorted by_value-IsTotalOrder sorted some_point ascending
      (IsDistinct-IsPermutation (eq_by_cmp by_value) eq_by_cmp-flips (members submitted) sorted same (members-IsDistinct submitted))

pub strictly_sorted_members-in_order :
    (submitted sorted : List Point) → IsPermutation (members submitted) sorted → IsStrictlySortedBy by_value sorted
    → sorted ≡ in_order (members submitted)
strictly_sorted_members-in_order submitted sorted same ascending =
    let ordered = in_order-IsPermutation (members submitted) in
    let there = IsPermutation-trans sorted (members submitted) (in_order (members submitted)) (IsPermutation-sym (members submitted) sorted same) ordered in
    let strictly = sorted_members-IsStrictlySorted submitted (in_order (members submitted)) ordered (in_order-IsSorted (members submitted)) in
    same_from_sorted by_value-IsTotalOrder sorted (in_order (members submitted)) there ascending strictly
    (IsPermutation-sym sorted (in_order (members submitted)) there)

pub sorted_members-in_order :
    (submitted sorted : List Point) → IsPermutation (members submitted) sorted
    → IsSortedByKey (λ p. p.value) (slice_cmp int_cmp) sorted → sorted ≡ in_order (members submitted)
sorted_members-in_order submitted sorted same ascending =
    strictly_sorted_members-in_order submitted sorted same (sorted_members-IsStrictlySorted submitted sorted same ascending)
