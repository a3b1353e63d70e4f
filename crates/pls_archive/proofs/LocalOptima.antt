-- Where every neighbour of a member is refused, the members of a nondominated archive are a Pareto local optimum set.
use Rattle.std.proofs.Common.{◌≡◌, ◌<◌, ℕ, true, false, IsTrue, List, length, get_or, All, sym, ◌∙◌}
use Rattle.std.specs.List.{list_any}
use Rattle.std.proofs.lemmas.Bool.{both_ways, false_from_ne_true}
use Rattle.std.proofs.lemmas.List.Folds.{list_any_none}
use Rattle.pls_vectors.specs.Archive.{dominates}
use Rattle.pls_vectors.specs.Dominance.{weakly_dominates}
use Rattle.pls_vectors.proofs.Archive.{archive-undominated, dominates-covered}
use Rattle.pls_vectors.proofs.Lists.{list_any-weaker}
use Rattle.pls_archive.specs.declared.point.Point.{Point}
use Rattle.pls_archive.specs.declared.call.Call.TheVariants.{Update}
use Rattle.pls_archive.specs.declared.call.Reply.TheVariants.{Refused}
use Rattle.pls_archive.specs.Lists.{In}
use Rattle.pls_archive.specs.Reply.{point_weakly_dominates, members, some_weakly_dominates, nondominated}
use Rattle.pls_archive.specs.RunLaws.{IsParetoLocalOptimum, IsParetoLocalOptimumSet, EndsInLocalOptima}
use Rattle.pls_archive.specs.NondominatedRule.{point_weakly_dominates-IsPreorder, some_weakly_dominates-members, update_is_refused, nondominated-IsRule}
use Rattle.pls_archive.proofs.ClosedFront.{closes_front}
use Rattle.pls_archive.proofs.Membership.{In-get_or, All-In}

module _ (neighbours : Point → List Point) (all : List Point)
    (refused : (p q : Point) → In p (members all) → In q (neighbours p) → nondominated all (Update q) ≡ Refused) where
  -- so a member weakly dominates the neighbour
  neighbour-covered : (p q : Point) → In p (members all) → In q (neighbours p) → IsTrue (some_weakly_dominates (members all) q.value)
  neighbour-covered p q member near = (update_is_refused all q).0 (refused p q member near)

  -- what a submission weakly dominates does not dominate a point that no submission dominates
  dominates_none :
      (m q : Point) → list_any (λ r. dominates point_weakly_dominates r m) all ≡ false
      → some_weakly_dominates all q.value ≡ true → dominates point_weakly_dominates q m ≡ false
  dominates_none m q undominated covered =
      false_from_ne_true _
      (λ h. both_ways _ undominated
      (list_any-weaker (λ r. weakly_dominates r.value q.value) (λ r. dominates point_weakly_dominates r m)
      (λ r by. dominates-covered point_weakly_dominates-IsPreorder r q m by h) all covered))

  member-IsParetoLocalOptimum : (k : ℕ) (d : Point) → k < length (members all) → IsParetoLocalOptimum neighbours (get_or (members all) k d)
  member-IsParetoLocalOptimum k d within =
      let m = get_or (members all) k d in
      let undominated = archive-undominated point_weakly_dominates all k d within in
      list_any_none (λ q. dominates point_weakly_dominates q m) (neighbours m)
      (All-In (λ q. dominates point_weakly_dominates q m ≡ false) (neighbours m)
      (λ q near. dominates_none m q undominated
      (sym (some_weakly_dominates-members all q.value) ∙ neighbour-covered m q (In-get_or (members all) k d within) near)))

  pub members-IsParetoLocalOptimumSet : IsParetoLocalOptimumSet neighbours (members all)
  members-IsParetoLocalOptimumSet = record {
    optima = member-IsParetoLocalOptimum;
    closed =
        All-In (λ p. All (λ q. IsTrue (some_weakly_dominates (members all) q.value)) (neighbours p)) (members all)
        (λ p member.
        All-In (λ q. IsTrue (some_weakly_dominates (members all) q.value)) (neighbours p) (λ q near. neighbour-covered p q member near));
  }

pub ends_in_local_optima : (neighbours : Point → List Point) → EndsInLocalOptima neighbours
ends_in_local_optima neighbours starts moves n first others run closed =
    members-IsParetoLocalOptimumSet neighbours _
    (closes_front members nondominated neighbours nondominated-IsRule starts moves n first others run closed)
