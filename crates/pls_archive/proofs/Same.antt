-- Tests that tell whether two points, or two tasks, are one; and lists with the same elements as often.
use Rattle.std.proofs.Common.{◌≡◌, ◌⊎◌, ℕ, ◌+◌, ◌<◌, ℤ, Bool, true, false, ◌&&◌, ◌||◌, nat_lt, rules, List, [], ◌∷◌, ◌++◌, refl, ap, sym, subst, ◌∙◌, arith, inl, inr}
use Rattle.std.specs.Bool.{Decides, ◌==◌}
use Rattle.std.specs.List.{list_any}
use Rattle.std.specs.Ordering.{int_eq}
use Rattle.std.specs.List.Sorted.{IsPermutation}
use Rattle.std.proofs.lemmas.Bool.{cases_Bool, and_parts}
use Rattle.std.proofs.lemmas.Bool.Decides.{Decides-int_eq, Decides-eqb}
use Rattle.std.proofs.lemmas.Slice.Eq.{slice_eq-Decides}
use Rattle.std.proofs.lemmas.List.Sorted.{IsPermutation-refl, IsPermutation-trans, IsPermutation-cons, IsPermutation-append_comm}
use lib.Pointwise.{pointwise}
use Rattle.pls_archive.specs.declared.point.Point.{Point}
use Rattle.pls_archive.specs.Lists.{In, how_many, one_if, AsOften}
use Rattle.pls_archive.specs.Explorations.{Task}
use Rattle.pls_archive.proofs.Every.{total-append}

-- a test that is true of two things exactly where they are one
pub record IsSameTest {A : Type 0} (same : A → A → Bool) : Type 0 where
  pub itself : (x : A) → same x x ≡ true
  pub only : (x y : A) → same x y ≡ true → x ≡ y

from_decides : {A : Type 0} (same : A → A → Bool) → ((x y : A) → Decides (same x y) (x ≡ y)) → IsSameTest same
from_decides same decides = record { itself = λ x. (decides x x).1 refl; only = λ x y h. (decides x y).0 h }

same_values : List ℤ → List ℤ → Bool
same_values xs ys = pointwise int_eq xs ys

same_words : List ℕ → List ℕ → Bool
same_words xs ys = pointwise (λ (m n : ℕ). m == n) xs ys

pub same_point : Point → Point → Bool
same_point p q = same_values p.value q.value && ((p.sol.len == q.sol.len) && same_words p.sol.words q.sol.words)

pub same_task : Task → Task → Bool
same_task s t = same_point s.point t.point && (s.stamp == t.stamp)

values-IsSameTest : IsSameTest same_values
unfolding same_values
values-IsSameTest = from_decides _ (λ xs ys. slice_eq-Decides Decides-int_eq xs ys _ refl)

words-IsSameTest : IsSameTest same_words
unfolding same_words
words-IsSameTest = from_decides _ (λ xs ys. slice_eq-Decides Decides-eqb xs ys _ refl)

both_true : (a b : Bool) → a ≡ true → b ≡ true → (a && b) ≡ true
both_true true true h k = refl
both_true true false h k = k
both_true false b h k = h

numbers-IsSameTest : IsSameTest (λ (m n : ℕ). m == n)
numbers-IsSameTest = from_decides _ Decides-eqb

pub same_point-IsSameTest : IsSameTest same_point
unfolding same_point
same_point-IsSameTest = record {
  itself = λ p. both_true _ _ (values-IsSameTest.itself p.value) (both_true _ _ (numbers-IsSameTest.itself p.sol.len) (words-IsSameTest.itself p.sol.words));
  only = λ p q h.
      let parts = and_parts (same_values p.value q.value) _ h in
      let stored = and_parts (p.sol.len == q.sol.len) _ parts.1 in
      let value = values-IsSameTest.only p.value q.value parts.0 in
      let len = numbers-IsSameTest.only p.sol.len q.sol.len stored.0 in
      let words = words-IsSameTest.only p.sol.words q.sol.words stored.1 in
      ap (λ (v : List ℤ). let r : Point = record p { value = v } in r) value
      ∙ (ap (λ (n : ℕ). let r : Point = record { value = q.value; sol = record p.sol { len = n } } in r) len
      ∙ ap (λ (ws : List ℕ). let r : Point = record { value = q.value; sol = record { len = q.sol.len; words = ws } } in r) words);
}

pub same_task-IsSameTest : IsSameTest same_task
unfolding same_task
same_task-IsSameTest = record {
  itself = λ t. both_true _ _ (same_point-IsSameTest.itself t.point) (numbers-IsSameTest.itself t.stamp);
  only = λ s t h.
      let parts = and_parts (same_point s.point t.point) _ h in
      ap (λ (p : Point). let r : Task = record s { point = p } in r) (same_point-IsSameTest.only s.point t.point parts.0)
      ∙ ap (λ (n : ℕ). let r : Task = record { point = t.point; stamp = n } in r) (numbers-IsSameTest.only s.stamp t.stamp parts.1);
}

module _ {A : Type 0} where
  -- one that stands in the list passes a test that it passes
  pub how_many-In : (test : A → Bool) (x : A) (xs : List A) → In x xs → test x ≡ true → 0 < how_many test xs
  how_many-In test x [] here passes = absurd here
  how_many-In test x (y ∷ xs) (inl e) passes =
      let one : one_if (test y) ≡ 1 = ap one_if (ap test (sym e) ∙ passes) in omega arith
  how_many-In test x (y ∷ xs) (inr later) passes =
      let rest = how_many-In test x xs later passes in omega arith

  pub list_any-how_many : (test : A → Bool) (xs : List A) → list_any test xs ≡ nat_lt 0 (how_many test xs)
  list_any-how_many test [] = refl
  list_any-how_many test (x ∷ xs) = split (test x) (list_any-how_many test xs)
    where
      positive : (n : ℕ) → true ≡ nat_lt 0 (1 + n)
      positive n = search rules

      split : (b : Bool) → list_any test xs ≡ nat_lt 0 (how_many test xs) → (b || list_any test xs) ≡ nat_lt 0 (one_if b + how_many test xs)
      split true rest = positive (how_many test xs)
      split false rest = rest ∙ ap (nat_lt 0) (sym (plus_zero (how_many test xs)))
        where
          plus_zero : (n : ℕ) → 0 + n ≡ n
          plus_zero n = omega arith

module _ {A : Type 0} (same : A → A → Bool) (is : IsSameTest same) where
  -- where a list has one like x, it has x
  pub In-how_many : (x : A) (xs : List A) → 0 < how_many (same x) xs → In x xs
  In-how_many x [] some = absurd (omega arith)
  In-how_many x (y ∷ xs) some = split (cases_Bool (same x y)) (In-how_many x xs)
    where
      split : (same x y ≡ true) ⊎ (same x y ≡ false) → (0 < how_many (same x) xs → In x xs) → In x (y ∷ xs)
      split (inl h) rest = inl (is.only x y h)
      split (inr h) rest = let none : one_if (same x y) ≡ 0 = ap one_if h in inr (rest (omega arith))

  parted : (x : A) (ys : List A) → In x ys → (before : List A) × (after : List A) × (ys ≡ before ++ x ∷ after)
  parted x [] here = absurd here
  parted x (y ∷ ys) (inl e) = ([], ys, ap (λ (z : A). z ∷ ys) (sym e))
  parted x (y ∷ ys) (inr later) = let found = parted x ys later in (y ∷ found.0, found.1, ap (λ (zs : List A). y ∷ zs) found.2)

  -- two lists with the same elements as often are permutations of each other
  pub AsOften-IsPermutation : (xs ys : List A) → AsOften xs ys → IsPermutation xs ys
  AsOften-IsPermutation [] [] often = IsPermutation-refl []
  AsOften-IsPermutation [] (y ∷ ys) often = absurd (let none = often (λ _. true) in omega arith)
  AsOften-IsPermutation (x ∷ xs) ys often =
      let here : one_if (same x x) ≡ 1 = ap one_if (is.itself x) in
      let found = parted x ys (In-how_many x ys (let same_many = often (same x) in omega arith)) in
      let before = found.0 in
      let after = found.1 in
      let rest : AsOften xs (before ++ after) = λ test.
      let whole = often test in
      let cut = ap (how_many test) found.2 in
      let parts = total-append (λ z. one_if (test z)) before (x ∷ after) in
      let joined = total-append (λ z. one_if (test z)) before after in omega arith
      in
      let moved = IsPermutation-append_comm (x ∷ after) before in
      subst (λ (zs : List A). IsPermutation (x ∷ xs) zs) (sym found.2)
      (IsPermutation-trans (x ∷ xs) (x ∷ (before ++ after)) (before ++ x ∷ after)
      (IsPermutation-cons x xs (before ++ after) (AsOften-IsPermutation xs (before ++ after) rest))
      (IsPermutation-trans (x ∷ (before ++ after)) (x ∷ (after ++ before)) (before ++ x ∷ after)
      (IsPermutation-cons x (before ++ after) (after ++ before) (IsPermutation-append_comm before after))
      moved))
