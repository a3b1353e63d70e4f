-- The members in order: what holds of the members holds of them.
use Rattle.std.proofs.Common.{◌≡◌, ℤ, zero, suc, Bool, ◌||◌, List, [], ◌∷◌, IsTrue, All, ap, sym, ◌∙◌, arith}
use Rattle.std.proofs.Math.Bool.{or-true, true-or}
use Rattle.std.specs.Prelude.{AllPairs, Contains}
use Rattle.std.specs.Ordering.{is_gt}
use Rattle.std.proofs.lemmas.Bool.{cond_both}
use Rattle.std.proofs.lemmas.List.Elements.{All-nil, All-cons, All-head, All-tail, All-weaker, All-contains_itself}
use Rattle.std.proofs.lemmas.List.Kept.{AllPairs-cons}
use Rattle.std.proofs.lemmas.List.Sorted.{All-permutation, list_any-IsPermutation}
use Rattle.pls_vectors.specs.Archive.{AreIncomparable}
use Rattle.pls_vectors.specs.Dominance.{weakly_dominates}
use Rattle.pls_vectors.proofs.Archive.{All-archive}
use Rattle.pls_vectors.proofs.ArchiveOfMembers.{archive-incomparable}
use Rattle.pls_vectors.proofs.Dominance.{weakly_dominates-refl}
use Rattle.pls_archive.specs.declared.point.Point.{Point}
use Rattle.pls_archive.specs.Reply.{point_weakly_dominates, members, some_weakly_dominates, put_in_order, in_order}
use Rattle.pls_archive.specs.RunLaws.{IsParetoLocalOptimum, IsParetoLocalOptimumSet}
use Rattle.pls_archive.proofs.InOrder.{by_value, put_in_order-IsPermutation, in_order-IsPermutation}
use Rattle.pls_archive.specs.NondominatedRule.{point_weakly_dominates-IsPreorder, some_weakly_dominates-members}

-- a relation between all pairs, whichever of the two is first
module _ (R : Point → Point → Type 0) (either : (p q : Point) → R p q → R q p) where
  first_pairs : (p : Point) (points : List Point) → AllPairs R (p ∷ points) → All (R p) points
  first_pairs p points all = λ i d inside. all zero (suc i) d (omega arith) (omega arith)

  later_pairs : (p : Point) (points : List Point) → AllPairs R (p ∷ points) → AllPairs R points
  later_pairs p points all = λ i j d before inside. all (suc i) (suc j) d (omega arith) (omega arith)

  put_in_order-AllPairs : (p : Point) (points : List Point) → All (R p) points → AllPairs R points → AllPairs R (put_in_order p points)
  put_in_order-AllPairs p [] first later = AllPairs-cons R p [] first later
  put_in_order-AllPairs p (q ∷ points) first later =
      let of_q = All-cons (R q) p points (either p q (All-head (R p) q points first)) (first_pairs q points later) in
      let rest = put_in_order-AllPairs p points (All-tail (R p) q points first) (later_pairs q points later) in
      cond_both (is_gt (by_value p q)) (q ∷ put_in_order p points) (p ∷ q ∷ points) (AllPairs R)
      (λ above. AllPairs-cons R q (put_in_order p points) (All-permutation (R q) (p ∷ points) (put_in_order p points) (put_in_order-IsPermutation p points) of_q) rest)
      (λ below. AllPairs-cons R p (q ∷ points) first later)

  in_order-AllPairs : (points : List Point) → AllPairs R points → AllPairs R (in_order points)
  in_order-AllPairs [] all = all
  in_order-AllPairs (p ∷ points) all =
      put_in_order-AllPairs p (in_order points)
      (All-permutation (R p) points (in_order points) (in_order-IsPermutation points) (first_pairs p points all))
      (in_order-AllPairs points (later_pairs p points all))

-- none weakly dominates another
pub in_order-incomparable : (submitted : List Point) → AllPairs (AreIncomparable point_weakly_dominates) (in_order (members submitted))
in_order-incomparable submitted =
    in_order-AllPairs (AreIncomparable point_weakly_dominates) (λ p q apart. (apart.1, apart.0)) (members submitted)
    (archive-incomparable point_weakly_dominates-IsPreorder submitted)

-- each was submitted
pub in_order-submitted : (submitted : List Point) → All (Contains submitted) (in_order (members submitted))
in_order-submitted submitted =
    All-permutation (Contains submitted) (members submitted) (in_order (members submitted)) (in_order-IsPermutation (members submitted))
    (All-archive point_weakly_dominates (Contains submitted) submitted (All-contains_itself submitted))

-- they weakly dominate what the members do
some_weakly_dominates-in_order :
    (points : List Point) (v : List ℤ) → some_weakly_dominates points v ≡ some_weakly_dominates (in_order points) v
some_weakly_dominates-in_order points v =
    list_any-IsPermutation (λ p. weakly_dominates p.value v) points (in_order points) (in_order-IsPermutation points)

-- points weakly dominate themselves
covers_themselves : (points : List Point) → All (λ p. IsTrue (some_weakly_dominates points p.value)) points
covers_themselves [] = All-nil (λ p. IsTrue (some_weakly_dominates [] p.value))
covers_themselves (p ∷ points) =
    let covered : Point → Type 0 = λ q. IsTrue (some_weakly_dominates (p ∷ points) q.value) in
    All-cons covered p points
    (ap (λ (b : Bool). b || some_weakly_dominates points p.value) (weakly_dominates-refl p.value) ∙ true-or (some_weakly_dominates points p.value))
    (All-weaker (λ q. IsTrue (some_weakly_dominates points q.value)) covered
    (λ q h. ap (λ (b : Bool). weakly_dominates p.value q.value || b) h ∙ or-true (weakly_dominates p.value q.value)) points (covers_themselves points))

-- and so what was submitted
pub in_order-covers :
    (submitted : List Point) → All (λ p. IsTrue (some_weakly_dominates (in_order (members submitted)) p.value)) submitted
in_order-covers submitted =
    All-weaker (λ p. IsTrue (some_weakly_dominates submitted p.value)) (λ p. IsTrue (some_weakly_dominates (in_order (members submitted)) p.value))
    (λ p h. sym (some_weakly_dominates-in_order (members submitted) p.value) ∙ (some_weakly_dominates-members submitted p.value ∙ h))
    submitted (covers_themselves submitted)

-- they are a Pareto local optimum set where the members are
pub in_order-IsParetoLocalOptimumSet :
    (near : Point → List Point) (points : List Point) → IsParetoLocalOptimumSet near points → IsParetoLocalOptimumSet near (in_order points)
in_order-IsParetoLocalOptimumSet near points set =
    let same = in_order-IsPermutation points in
    let covered : List Point → Point → Type 0 = λ by p. All (λ q. IsTrue (some_weakly_dominates by q.value)) (near p) in
    record {
      optima = All-permutation (IsParetoLocalOptimum near) points (in_order points) same set.optima;
      closed =
          All-permutation (covered (in_order points)) points (in_order points) same
          (All-weaker (covered points) (covered (in_order points))
          (λ p all. All-weaker (λ q. IsTrue (some_weakly_dominates points q.value)) (λ q. IsTrue (some_weakly_dominates (in_order points) q.value)) (λ q h. sym (some_weakly_dominates-in_order points q.value) ∙ h) (near p) all) points set.closed);
    }
