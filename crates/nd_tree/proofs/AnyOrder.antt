-- Members of an archive, in any order.
use Rattle.std.proofs.Common.{◌≡◌, ◌⊎◌, inl, inr, ℕ, suc, ◌<◌, max, nat_lt, nat_cmp, Bool, true, false, ◌||◌, not, List, [], ◌∷◌, ◌++◌, length, filter, refl, ap, sym, subst, ◌∙◌, arith, ℤ}
use Rattle.std.specs.Prelude.{All, AllPairs}
use Rattle.std.specs.List.{list_any}
use Rattle.std.specs.Ordering.{ord_max}
use Rattle.std.proofs.lemmas.Bool.{or_left, or_from, or_parts, cases_Bool}
use Rattle.std.proofs.lemmas.Bool.Decides.{nat_tests}
use Rattle.std.proofs.lemmas.List.Elements.{All-nil, All-cons}
use Rattle.std.proofs.lemmas.List.Folds.{list_any-append}
use Rattle.std.proofs.lemmas.List.Kept.{AllPairs-cons}
use Rattle.pls_vectors.specs.Archive.{AreIncomparable, dominates}
use Rattle.pls_vectors.proofs.ArchiveOfMembers.{archive-of_incomparable}
use Rattle.pls_vectors.proofs.Dominance.{weakly_dominates-refl}
use Rattle.pls_archive.specs.declared.point.Point.{Point}
use Rattle.pls_archive.specs.Lists.{Every, In, one_if, how_many, AsOften}
use Rattle.pls_archive.specs.Plain.{AreMembers}
use Rattle.pls_archive.specs.Reply.{point_weakly_dominates, members, some_weakly_dominates}
use Rattle.pls_archive.specs.NondominatedRule.{point_weakly_dominates-IsPreorder, some_weakly_dominates-members, members-with_new}
use Rattle.pls_archive.proofs.Every.{Every-at, Every-map, Every-from_All}
use Rattle.pls_archive.proofs.Same.{same_point, same_point-IsSameTest, how_many-In, In-how_many, list_any-how_many}

pub ord_max-nat : (m n : ℕ) → ord_max nat_cmp m n ≡ max m n
ord_max-nat m n = grind (arith, nat_tests)

pub list_any-often : {A : Type 0} (xs ys : List A) → AsOften xs ys → (test : A → Bool) → list_any test xs ≡ list_any test ys
list_any-often xs ys often test = list_any-how_many test xs ∙ (ap (λ n. nat_lt 0 n) (often test) ∙ sym (list_any-how_many test ys))

abbrev Apart : Point → Point → Type 0
Apart p q = AreIncomparable point_weakly_dominates p q

comparable : Point → Point → Bool
comparable p q = point_weakly_dominates p q || point_weakly_dominates q p

comparable-itself : (p : Point) → comparable p p ≡ true
unfolding comparable
comparable-itself p = or_left _ _ (weakly_dominates-refl p.value)

comparable-apart : (p q : Point) → Apart p q → comparable p q ≡ false
unfolding comparable
comparable-apart p q apart = or_from _ _ apart.0 apart.1

apart-comparable : (p q : Point) → comparable p q ≡ false → Apart p q
unfolding comparable
apart-comparable p q h = or_parts _ _ h

turned : (p q : Point) → comparable p q ≡ false → comparable q p ≡ false
turned p q h = let apart = apart-comparable p q h in comparable-apart q p (apart.1, apart.0)

All-from_Every : {A : Type 0} (P : A → Type 0) (xs : List A) → Every P xs → All P xs
All-from_Every P [] all = All-nil P
All-from_Every P (x ∷ xs) all = All-cons P x xs all.0 (All-from_Every P xs all.1)

Every-In : {A : Type 0} (P : A → Type 0) (xs : List A) → ((x : A) → In x xs → P x) → Every P xs
Every-In P [] each = tt
Every-In P (x ∷ xs) each = (each x (inl refl), Every-In P xs (λ y here. each y (inr here)))

module _ {A : Type 0} (test : A → Bool) where
  none_pass : (xs : List A) → Every (λ x. test x ≡ false) xs → how_many test xs ≡ 0
  none_pass [] all = refl
  none_pass (x ∷ xs) all = let here = ap one_if all.0 in let rest = none_pass xs all.1 in omega arith

  all_fail : (xs : List A) → how_many test xs ≡ 0 → Every (λ x. test x ≡ false) xs
  all_fail [] none = tt
  all_fail (x ∷ xs) none = split (cases_Bool (test x)) (all_fail xs)
    where
      split :
          (test x ≡ true) ⊎ (test x ≡ false) → (how_many test xs ≡ 0 → Every (λ y. test y ≡ false) xs)
          → Every (λ y. test y ≡ false) (x ∷ xs)
      split (inl h) rest = absurd (let here = ap one_if h in omega arith)
      split (inr h) rest = (h, rest (let here = ap one_if h in omega arith))

-- each is comparable with itself alone
abbrev ComparedOnce : List Point → Type 0
ComparedOnce points = (p : Point) → In p points → how_many (comparable p) points ≡ 1

compared_once : (points : List Point) → AllPairs Apart points → ComparedOnce points
compared_once [] apart p here = absurd here
compared_once (x ∷ points) apart p here = split here (compared_once points (λ i j d lt within. apart (suc i) (suc j) d (omega arith) (omega arith)) p)
  where
    head : All (Apart x) points
    head = λ k d within. apart 0 (suc k) d (omega arith) (omega arith)

    others : Every (λ q. comparable x q ≡ false) points
    others = Every-map (Apart x) (λ q. comparable x q ≡ false) (comparable-apart x) points (Every-from_All (Apart x) points head)

    split : In p (x ∷ points) → (In p points → how_many (comparable p) points ≡ 1) → how_many (comparable p) (x ∷ points) ≡ 1
    split (inl e) rest =
        subst (λ (q : Point). how_many (comparable q) (x ∷ points) ≡ 1) (sym e)
        (let itself = ap one_if (comparable-itself x) in let none = none_pass (comparable x) points others in omega arith)
    split (inr later) rest =
        let apart-first = ap one_if (turned x p (Every-at (λ q. comparable x q ≡ false) points p later others)) in
        let once = rest later in omega arith

apart_pairs : (points : List Point) → ComparedOnce points → AllPairs Apart points
apart_pairs [] once = λ i j d lt within. absurd (omega arith)
apart_pairs (x ∷ points) once =
    let first = once x (inl refl) in
    let itself = ap one_if (comparable-itself x) in
    let others = all_fail (comparable x) points (omega arith) in
    AllPairs-cons Apart x points
    (All-from_Every (Apart x) points (Every-map (λ q. comparable x q ≡ false) (Apart x) (apart-comparable x) points others))
    (apart_pairs points (λ p here.
    let apart-first = ap one_if (turned x p (Every-at (λ q. comparable x q ≡ false) points p here others)) in
    let whole = once p (inr here) in omega arith))

pub In-often : (xs ys : List Point) → AsOften xs ys → (p : Point) → In p ys → In p xs
In-often xs ys often p here =
    In-how_many same_point same_point-IsSameTest p xs
    (subst (λ (n : ℕ). 0 < n) (sym (often (same_point p))) (how_many-In (same_point p) p ys here (same_point-IsSameTest.itself p)))

pub AreMembers-often : (n : ℕ) (xs ys : List Point) → AsOften xs ys → AreMembers n xs → AreMembers n ys
AreMembers-often n xs ys often is = record {
  parts = All-from_Every (λ p. length p.value ≡ n) ys
      (Every-In (λ p. length p.value ≡ n) ys
      (λ p here. Every-at (λ q. length q.value ≡ n) xs p (In-often xs ys often p here) (Every-from_All (λ q. length q.value ≡ n) xs is.parts)));
  apart = apart_pairs ys
      (λ p here. sym (often (comparable p)) ∙ compared_once xs is.apart p (In-often xs ys often p here));
}

-- what was covered is covered after a new point has come in the place of those that it dominates
pub still-covered :
    (points after : List Point) (p : Point) (w : List ℤ) → AllPairs Apart points → some_weakly_dominates points p.value ≡ false
    → AsOften (filter (λ q. not (dominates point_weakly_dominates p q)) points ++ p ∷ []) after
    → some_weakly_dominates points w ≡ true → some_weakly_dominates after w ≡ true
still-covered points after p w apart new often some =
    let all = archive-of_incomparable point_weakly_dominates-IsPreorder points apart in
    let kept = filter (λ q. not (dominates point_weakly_dominates p q)) points ++ p ∷ [] in
    let is : members (points ++ p ∷ []) ≡ kept =
    members-with_new points p (ap (λ ps. some_weakly_dominates ps p.value) all ∙ new)
    ∙ ap (λ (ps : List Point). filter (λ q. not (dominates point_weakly_dominates p q)) ps ++ p ∷ []) all in
    sym (list_any-often kept after often _)
    ∙ (sym (ap (λ ps. some_weakly_dominates ps w) is)
    ∙ (some_weakly_dominates-members (points ++ p ∷ []) w
    ∙ (list_any-append _ points (p ∷ []) ∙ or_left _ _ some)))
