-- The archive of its own members, and that none of them covers another.
use Rattle.std.proofs.Common.{◌≡◌, Bool, true, false, not, inl, inr, List, [], ◌∷◌, ◌++◌, All, AllPairs, refl, ap, sym, ◌∙◌, subst, append_assoc, arith}
use Rattle.std.proofs.lemmas.Bool.{cases_Bool, and_from, and_left, both_ways, not-true, not_from_false, false_from_ne_true}
use Rattle.std.proofs.lemmas.List.{append-nil}
use Rattle.std.proofs.lemmas.List.Elements.{All-filter, filter_passes}
use Rattle.std.proofs.lemmas.List.Folds.{list_any_none}
use Rattle.std.proofs.lemmas.List.Kept.{AllPairs-filter}
use Rattle.std.proofs.lemmas.List.Quantifiers.{all_pairs_push}
use Rattle.pls_vectors.specs.Archive.{IsPreorder, weakly_dominated_by, dominates, nondominated_archive, with_submission, AreIncomparable}
use Rattle.pls_vectors.specs.ArchiveLaws.{HasIncomparableMembers, IsIdempotent, StandsForSubmissions}
use Rattle.pls_vectors.proofs.Archive.{spared_by, archive-by_cases, weakly_dominated_by-archive, archive-with_submission}
use Rattle.pls_vectors.proofs.FromEnd.{from_end}
use Rattle.pls_vectors.proofs.Lists.{filter-all, All-none, AllPairs-before, AllPairs-last}

module _ {P : Type 0} {covers : P → P → Bool} (order : IsPreorder covers) where
  -- what neither covers p nor is dominated by it
  incomparable-spared : (m p : P) → covers m p ≡ false → not (dominates covers p m) ≡ true → AreIncomparable covers m p
  incomparable-spared m p below spared =
      (below, false_from_ne_true _ (λ h. both_ways _ (not-true _ spared) (and_from _ _ h (not_from_false _ below))))

  -- no member covers another
  pub archive-incomparable : HasIncomparableMembers covers
  archive-incomparable =
      from_end (λ all. AllPairs (AreIncomparable covers) (nondominated_archive covers all)) more (λ i j d before within. absurd (omega arith))
    where
      more :
          (all : List P) (p : P) → AllPairs (AreIncomparable covers) (nondominated_archive covers all)
          → AllPairs (AreIncomparable covers) (nondominated_archive covers (all ++ p ∷ []))
      more all p so_far =
          let members = nondominated_archive covers all in
          let spared = spared_by covers p members in
          let R = AreIncomparable covers in
          elim (cases_Bool (weakly_dominated_by covers all p)) [
            | inl covered ↦ subst (AllPairs R) (sym (archive-by_cases order all p true covered)) so_far
            | inr new ↦
                let below = All-none (λ m. covers m p) members (weakly_dominated_by-archive order all p ∙ new) in
                let below_spared = All-filter (λ m. not (dominates covers p m)) (λ m. covers m p ≡ false) members below in
                let passes = filter_passes (λ m. not (dominates covers p m)) members in
                subst (AllPairs R) (sym (archive-by_cases order all p false new))
                (all_pairs_push R spared p (AllPairs-filter R _ members so_far)
                (λ k d within. incomparable-spared _ p (below_spared k d within) (passes k d within)))
          ]

  -- incomparable points are their own archive
  pub archive-of_incomparable : (points : List P) → AllPairs (AreIncomparable covers) points → nondominated_archive covers points ≡ points
  archive-of_incomparable =
      from_end (λ points. AllPairs (AreIncomparable covers) points → nondominated_archive covers points ≡ points) more (λ h. refl)
    where
      more :
          (points : List P) (p : P) → (AllPairs (AreIncomparable covers) points → nondominated_archive covers points ≡ points)
          → AllPairs (AreIncomparable covers) (points ++ p ∷ []) → nondominated_archive covers (points ++ p ∷ []) ≡ points ++ p ∷ []
      more points p so_far pairs =
          let with_p = AllPairs-last (AreIncomparable covers) points p pairs in
          let new = list_any_none (λ q. covers q p) points (λ k d within. (with_p k d within).0) in
          let spared : All (λ (q : P). not (dominates covers p q) ≡ true) points = λ k d within. not_from_false _ (and_left _ _ (with_p k d within).1) in
          archive-by_cases order points p false new
          ∙ ap (λ ms. ms ++ p ∷ [])
          (ap (spared_by covers p) (so_far (AllPairs-before (AreIncomparable covers) points p pairs)) ∙ filter-all _ points spared)

  -- the archive is its own archive
  pub archive-archive : IsIdempotent covers
  archive-archive all = archive-of_incomparable _ (archive-incomparable all)

  -- the members stand for the submissions, whatever comes later
  pub archive-append_archive : StandsForSubmissions covers
  archive-append_archive all =
      from_end (λ later. nondominated_archive covers (all ++ later) ≡ nondominated_archive covers (members ++ later)) more
      (ap (nondominated_archive covers) (append-nil all) ∙ sym (ap (nondominated_archive covers) (append-nil members) ∙ archive-archive all))
    where
      members : List P
      members = nondominated_archive covers all

      pushed :
          (before later : List P) (p : P)
          → nondominated_archive covers (before ++ (later ++ p ∷ [])) ≡ with_submission covers (nondominated_archive covers (before ++ later)) p
      pushed before later p =
          ap (nondominated_archive covers) (sym (append_assoc before later (p ∷ []))) ∙ archive-with_submission order (before ++ later) p

      more :
          (later : List P) (p : P) → nondominated_archive covers (all ++ later) ≡ nondominated_archive covers (members ++ later)
          → nondominated_archive covers (all ++ (later ++ p ∷ [])) ≡ nondominated_archive covers (members ++ (later ++ p ∷ []))
      more later p so_far =
          pushed all later p ∙ (ap (λ ms. with_submission covers ms p) so_far ∙ sym (pushed members later p))
