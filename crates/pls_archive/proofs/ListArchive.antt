-- What the list archive replies, whatever was submitted before.
use Rattle.std.proofs.Common.{◌≡◌, ℕ, ◌-◌, ◌^◌, min, Bool, true, false, not, ◌+◌, List, [], ◌∷◌, ◌++◌, length, filter, refl, ap, sym, subst, ◌∙◌, arith, ℤ, ◌&&◌, nat_lt, if◌then◌else◌}
use Rattle.std.specs.Prelude.{All, AllPairs}
use Rattle.std.specs.Cmp.Lexicographic.{slice_cmp}
use Rattle.std.specs.Ordering.{int_cmp}
use Rattle.std.specs.List.{list_any}
use Rattle.std.specs.List.Sorted.{IsPermutation, IsSortedByKey}
use Rattle.std.proofs.lemmas.List.Elements.{All-push}
use Rattle.std.proofs.lemmas.List.Sorted.{IsPermutation-trans}
use Rattle.pls_vectors.proofs.Archive.{All-archive}
use Rattle.pls_vectors.specs.Archive.{AreIncomparable, dominates}
use Rattle.pls_vectors.proofs.ArchiveOfMembers.{archive-of_incomparable, archive-incomparable}
use Rattle.pls_archive.specs.declared.point.Point.{Point}
use Rattle.pls_archive.specs.declared.call.Call.TheVariants.{Update, Covered, Member, Snapshot}
use Rattle.pls_archive.specs.declared.call.Reply.TheVariants.{Added, Refused, Yes, No, Points}
use Rattle.pls_archive.specs.declared.call.Taken.TheVariants as taken
use Rattle.pls_archive.specs.Lists.{one_if, how_many, AsOften}
use Rattle.pls_archive.specs.Reply.{point_weakly_dominates, members, some_weakly_dominates, has_value, removed_by, nondominated}
use Rattle.pls_archive.specs.Archives.{IsArchiveOf, Replies, Updates, yes_or_no}
use Rattle.pls_archive.specs.Plain.{AreMembers}
use Rattle.pls_archive.specs.NondominatedRule.{point_weakly_dominates-IsPreorder, some_weakly_dominates-members, members-with_covered, members-with_new}
use Rattle.pls_archive.proofs.Every.{total-append, length-filter}
use Rattle.pls_archive.proofs.InOrder.{sorted_members-in_order}
use Rattle.pls_archive.proofs.Same.{same_point, same_point-IsSameTest, list_any-how_many, AsOften-IsPermutation}

-- some element passes in the one list exactly where some passes in the other
list_any-AsOften : {A : Type 0} (xs ys : List A) → AsOften xs ys → (test : A → Bool) → list_any test xs ≡ list_any test ys
list_any-AsOften xs ys often test = list_any-how_many test xs ∙ (ap (λ n. nat_lt 0 n) (often test) ∙ sym (list_any-how_many test ys))

-- The members after the submissions, in any order: none weakly dominates another.
module _ (all points : List Point) (is : IsArchiveOf members nondominated all points) where
  covers-archive : (v : List ℤ) → some_weakly_dominates points v ≡ some_weakly_dominates all v
  covers-archive v = sym (list_any-AsOften (members all) points is _) ∙ some_weakly_dominates-members all v

  has_value-archive : (v : List ℤ) → has_value points v ≡ has_value (members all) v
  has_value-archive v = sym (list_any-AsOften (members all) points is _)

  removed-archive : (p : Point) → length (filter (dominates point_weakly_dominates p) points) ≡ length (filter (dominates point_weakly_dominates p) (members all))
  removed-archive p =
      length-filter _ points ∙ (sym (is (dominates point_weakly_dominates p)) ∙ sym (length-filter _ (members all)))

  pub covered-due : (v : List ℤ) (result : Bool) → result ≡ some_weakly_dominates points v → (if result then Yes else No) ≡ nondominated all (Covered v)
  covered-due v result e = ap (λ b. if b then Yes else No) (e ∙ covers-archive v)

  pub member-due : (v : List ℤ) (result : Bool) → result ≡ has_value points v → (if result then Yes else No) ≡ nondominated all (Member v)
  member-due v result e = ap (λ b. if b then Yes else No) (e ∙ has_value-archive v)

  pub snapshot-due :
      (sorted : List Point) → IsPermutation points sorted → IsSortedByKey (λ p. p.value) (slice_cmp int_cmp) sorted
      → Points sorted ≡ nondominated all Snapshot
  snapshot-due sorted same ascending =
      ap Points (sorted_members-in_order all sorted
      (IsPermutation-trans (members all) points sorted (AsOften-IsPermutation same_point same_point-IsSameTest (members all) points is) same) ascending)

  pub refused-due : (p : Point) → some_weakly_dominates points p.value ≡ true → Refused ≡ nondominated all (Update p)
  refused-due p covered =
      ap (λ b. if b then Refused else Added (removed_by all p)) (sym covered ∙ covers-archive p.value)

  pub added-due :
      (p : Point) (removed : ℕ) → some_weakly_dominates points p.value ≡ false
      → removed ≡ min (length (filter (dominates point_weakly_dominates p) points)) (2 ^ 32 - 1) → Added removed ≡ nondominated all (Update p)
  added-due p removed new e =
      ap Added (e ∙ ap (λ n. min n (2 ^ 32 - 1)) (removed-archive p))
      ∙ ap (λ b. if b then Refused else Added (removed_by all p)) (sym new ∙ covers-archive p.value)

  -- the members are the same after a point that one of them covers
  pub refused-grows : (p : Point) → some_weakly_dominates points p.value ≡ true → IsArchiveOf members nondominated (all ++ p ∷ []) points
  refused-grows p covered test =
      ap (how_many test) (members-with_covered all p (some_weakly_dominates-members all p.value ∙ (sym (covers-archive p.value) ∙ covered))) ∙ is test

  filter-often : (keep test : Point → Bool) (xs : List Point) → how_many test (filter keep xs) ≡ how_many (λ x. keep x && test x) xs
  filter-often keep test [] = refl
  filter-often keep test (x ∷ xs) = split (keep x) (filter-often keep test xs)
    where
      split :
          (b : Bool) → how_many test (filter keep xs) ≡ how_many (λ y. keep y && test y) xs
          → how_many test (if b then x ∷ filter keep xs else filter keep xs) ≡ one_if (b && test x) + how_many (λ y. keep y && test y) xs
      split true rest = omega arith
      split false rest = omega arith

  -- and after a new one, those that it does not dominate, and itself
  pub added-grows :
      (p : Point) → some_weakly_dominates points p.value ≡ false
      → IsArchiveOf members nondominated (all ++ p ∷ []) (filter (λ q. not (dominates point_weakly_dominates p q)) points ++ p ∷ [])
  added-grows p new test =
      let keep : Point → Bool = λ q. not (dominates point_weakly_dominates p q) in
      let is_new = members-with_new all p (some_weakly_dominates-members all p.value ∙ (sym (covers-archive p.value) ∙ new)) in
      let here = total-append (λ x. one_if (test x)) (filter keep points) (p ∷ []) in
      let there = total-append (λ x. one_if (test x)) (filter keep (members all)) (p ∷ []) in
      let same = filter-often keep test (members all) ∙ (is (λ x. keep x && test x) ∙ sym (filter-often keep test points)) in
      ap (how_many test) is_new ∙ omega arith

-- members that do not weakly dominate each other are an archive of their own
pub incomparable-own : (points : List Point) → AllPairs (AreIncomparable point_weakly_dominates) points → IsArchiveOf members nondominated points points
incomparable-own points apart test = ap (how_many test) (archive-of_incomparable point_weakly_dominates-IsPreorder points apart)

-- The calls of the list archive.
module _ (points : List Point) (apart : AllPairs (AreIncomparable point_weakly_dominates) points) where
  own : IsArchiveOf members nondominated points points
  own = incomparable-own points apart

  pub covered-Replies :
      (v : List ℤ) (result : Bool) → result ≡ some_weakly_dominates points v
      → Replies members nondominated points (Covered v) (yes_or_no result)
  covered-Replies v result e = record { own = own; due = λ all is. covered-due all points is v result e }

  pub member-Replies :
      (v : List ℤ) (result : Bool) → result ≡ has_value points v → Replies members nondominated points (Member v) (yes_or_no result)
  member-Replies v result e = record { own = own; due = λ all is. member-due all points is v result e }

  pub snapshot-Replies :
      (sorted : List Point) → IsPermutation points sorted → IsSortedByKey (λ p. p.value) (slice_cmp int_cmp) sorted
      → Replies members nondominated points Snapshot (Points sorted)
  snapshot-Replies sorted same ascending = record { own = own; due = λ all is. snapshot-due all points is sorted same ascending }

  module _ (p : Point) where
    pub refused-Updates : some_weakly_dominates points p.value ≡ true → Updates members nondominated p taken.Refused points points
    refused-Updates covered = record {
      replies = record { own = own; due = λ all is. refused-due all points is p covered };
      grows = λ all is. refused-grows all points is p covered;
    }

    pub added-Updates :
        (removed : ℕ) → some_weakly_dominates points p.value ≡ false
        → removed ≡ min (length (filter (dominates point_weakly_dominates p) points)) (2 ^ 32 - 1)
        → Updates members nondominated p (taken.Added removed) points (filter (λ q. not (dominates point_weakly_dominates p q)) points ++ p ∷ [])
    added-Updates removed new e = record {
      replies = record { own = own; due = λ all is. added-due all points is p removed new e };
      grows = λ all is. added-grows all points is p new;
    }

    -- the list with a new point is the archive of the list and the point, so that no member weakly dominates another
    pub added-AreMembers :
        (objectives : ℕ) → All (λ q. length q.value ≡ objectives) points → length p.value ≡ objectives
        → some_weakly_dominates points p.value ≡ false
        → AreMembers objectives (filter (λ q. not (dominates point_weakly_dominates p q)) points ++ p ∷ [])
    added-AreMembers objectives parts one new =
        let all = archive-of_incomparable point_weakly_dominates-IsPreorder points apart in
        let is : members (points ++ p ∷ []) ≡ filter (λ q. not (dominates point_weakly_dominates p q)) points ++ p ∷ [] =
        members-with_new points p (ap (λ ps. some_weakly_dominates ps p.value) all ∙ new)
        ∙ ap (λ (ps : List Point). filter (λ q. not (dominates point_weakly_dominates p q)) ps ++ p ∷ []) all in
        subst (AreMembers objectives) is (record {
          parts = All-archive point_weakly_dominates (λ q. length q.value ≡ objectives) (points ++ p ∷ [])
              (All-push (λ (q : Point). length q.value ≡ objectives) points p parts one);
          apart = archive-incomparable point_weakly_dominates-IsPreorder (points ++ p ∷ []);
        })

    -- as many were removed as the list became shorter
    pub removed-length :
        (before after : ℕ) → before ≡ length points → after ≡ length (filter (λ q. not (dominates point_weakly_dominates p q)) points)
        → before - after ≡ length (filter (dominates point_weakly_dominates p) points)
    removed-length before after e f = let both = parts-length points in omega arith
      where
        parts-length :
            (xs : List Point)
            → length (filter (dominates point_weakly_dominates p) xs) + length (filter (λ q. not (dominates point_weakly_dominates p q)) xs) ≡ length xs
        parts-length [] = refl
        parts-length (x ∷ xs) = split (dominates point_weakly_dominates p x) (parts-length xs)
          where
            split :
                (b : Bool)
                → length (filter (dominates point_weakly_dominates p) xs) + length (filter (λ q. not (dominates point_weakly_dominates p q)) xs) ≡ length xs
                → length (if b then x ∷ filter (dominates point_weakly_dominates p) xs else filter (dominates point_weakly_dominates p) xs)
                + length (if not b then x ∷ filter (λ q. not (dominates point_weakly_dominates p q)) xs else filter (λ q. not (dominates point_weakly_dominates p q)) xs)
                ≡ length (x ∷ xs)
            split true rest = omega arith
            split false rest = omega arith
