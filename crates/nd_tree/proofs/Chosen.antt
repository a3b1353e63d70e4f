-- Choosing the vectors that begin the groups: each place is chosen or left, once.
use Rattle.std.proofs.Common.{◌≡◌, ℕ, zero, suc, ◌+◌, ◌*◌, ◌<◌, nat_le, ℤ, List, [], ◌∷◌, ◌++◌, length, take, slice_index, get_or, All, refl, ap, sym, ◌∙◌, subst, arith, length-append}
use Rattle.std.specs.List.{remove}
use Rattle.std.specs.List.Sorted.{IsPermutation}
use Rattle.std.proofs.lemmas.Bool.Decides.{nat_tests}
use Rattle.std.proofs.lemmas.List.{get_or_default, get_or_read, get_or_append_left, get_or-append-add, length_push, take_at}
use Rattle.std.proofs.lemmas.List.FromFn.{length-range_with_len, get_or-range_with_len}
use Rattle.std.proofs.lemmas.List.Sorted.{IsPermutation-refl, IsPermutation-more, length_permutation, All-permutation}
use Rattle.nd_tree.specs.Split.{Begun, places, largest, with_largest, total_distance, begun}
use Rattle.nd_tree.proofs.First.{first_best-below, first_best-same}

pub All-places : (n : ℕ) → All (λ k. k < n) (places n)
All-places n k d below =
    let long = length-range_with_len 0 n in
    let is = get_or-range_with_len 0 n k d (omega arith) in
    omega arith

-- what holds of each element of both lists, holds of each of the first, and of the second
module _ {A : Type 0} (P : A → Type 0) where
  pub All-append_first : (xs ys : List A) → All P (xs ++ ys) → All P xs
  All-append_first xs ys all k d below =
      let long = length-append xs ys in
      subst P (get_or_append_left xs ys d k below) (all k d (omega arith))

  pub All-append_second : (xs ys : List A) → All P (xs ++ ys) → All P ys
  All-append_second xs ys all k d below =
      let long = length-append xs ys in
      subst P (get_or-append-add xs ys k d) (all (length xs + k) d (omega arith))

-- the places of n vectors, so many chosen
pub record IsChoice (n many : ℕ) (b : Begun) : Type 0 where
  pub once : IsPermutation (places n) (b.chosen ++ b.left)
  pub chosen : length b.chosen ≡ many

module _ {n many : ℕ} (b : Begun) (is : IsChoice n many b) where
  below : All (λ k. k < n) (b.chosen ++ b.left)
  below = All-permutation (λ k. k < n) (places n) (b.chosen ++ b.left) is.once (All-places n)

  pub below-chosen : All (λ k. k < n) b.chosen
  below-chosen = All-append_first (λ k. k < n) b.chosen b.left below

  pub below-left : All (λ k. k < n) b.left
  below-left = All-append_second (λ k. k < n) b.chosen b.left below

  pub length-left : many + length b.left ≡ n
  length-left =
      let all = length_permutation (places n) (b.chosen ++ b.left) is.once in
      omega (arith, all, length-append b.chosen b.left, length-range_with_len 0 n, is.chosen)

  pub IsChoice-with_largest : (number : ℕ → ℕ) → many < n → IsChoice n (many + 1) (with_largest number b)
  unfolding with_largest
  IsChoice-with_largest number few =
      let at = largest number b.left in
      let left = length-left in
      let within : at < length b.left = first_best-below (λ x y. nat_le (number y) (number x)) b.left (omega arith) in
      record {
        once = IsPermutation-more (places n) b.chosen b.left at (slice_index b.left at) within (get_or_default b.left at 0 _ within) is.once;
        chosen = length_push b.chosen (slice_index b.left at) ∙ ap (λ k. k + 1) is.chosen;
      }

pub IsChoice-begun : (values : List (List ℤ)) (k : ℕ) → k < length values → IsChoice (length values) (k + 1) (begun values k)
unfolding begun
IsChoice-begun values zero some =
    let all = places (length values) in
    let none : IsChoice (length values) 0 (record { chosen = []; left = all }) = record { once = IsPermutation-refl all; chosen = refl } in
    IsChoice-with_largest _ none (total_distance values all) some
IsChoice-begun values (suc k) few =
    let before = IsChoice-begun values k (omega arith) in
    let next : suc k ≡ k + 1 = omega arith in
    IsChoice-with_largest (begun values k) (subst (λ m. IsChoice (length values) m (begun values k)) (sym next) before)
    (total_distance values (begun values k).chosen) few

pub IsChoice-at : (values : List (List ℤ)) (b : Begun) (k : ℕ) → length values ≡ 21 → k < 21 → b ≡ begun values k → IsChoice 21 (k + 1) b
IsChoice-at values b k many few is =
    subst (λ (n : ℕ). IsChoice n (k + 1) b) many (subst (λ (c : Begun). IsChoice (length values) (k + 1) c) (sym is) (IsChoice-begun values k (omega arith)))

-- the last of those chosen is one of the vectors
pub last-within :
    (values : List (List ℤ)) (b : Begun) (k : ℕ) (chosen : List ℕ) → length values ≡ 21 → k < 21 → b ≡ begun values k → chosen ≡ b.chosen
    → (k < length chosen) × (slice_index chosen k < length values)
last-within values b k chosen many few is shown =
    let choice = IsChoice-at values b k many few is in
    let within : k < length b.chosen = omega (arith, choice.chosen) in
    let below : slice_index b.chosen k < 21 = below-chosen b choice k 0 within in
    (omega (arith, within, ap length shown), omega (arith, below, many, ap (λ (ks : List ℕ). slice_index ks k) shown))

-- four times each number chooses the same
pub with_largest-same :
    (f g : ℕ → ℕ) (n : ℕ) (b : Begun) → ((k : ℕ) → k < n → f k ≡ 4 * g k) → All (λ k. k < n) b.left → with_largest f b ≡ with_largest g b
unfolding with_largest
with_largest-same f g n b four all =
    ap (λ at. record { chosen = b.chosen ++ slice_index b.left at ∷ []; left = remove b.left at })
    (first_best-same (λ x y. nat_le (f y) (f x)) (λ x y. nat_le (g y) (g x)) (λ k. k < n)
    (λ x y p q. ap (λ m. nat_le m (f x)) (four y q) ∙ (ap (λ m. nat_le (4 * g y) m) (four x p) ∙ quarter (g y) (g x))) b.left all)
  where
    quarter : (x y : ℕ) → nat_le (4 * x) (4 * y) ≡ nat_le x y
    quarter x y = grind (arith, nat_tests)

abbrev choice_of : List ℕ → List ℕ → Begun
choice_of chosen left = record { chosen = chosen; left = left }

-- the largest was taken from those left
pub with_largest-taken :
    (number : ℕ → ℕ) (b : Begun) (chosen left after rest : List ℕ) (at x : ℕ) → choice_of chosen left ≡ b
    → at ≡ largest number left → at < length left → x ≡ get_or left at x → after ≡ chosen ++ x ∷ [] → rest ≡ remove left at
    → choice_of after rest ≡ with_largest number b
unfolding with_largest
with_largest-taken number b chosen left after rest at x same is within read pushed removed =
    let shown : x ≡ slice_index left at = get_or_read left at x within read 0 in
    rw (pushed, removed, shown, is) (ap (with_largest number) same)

-- those chosen before one more was
pub take-chosen : (number : ℕ → ℕ) (b : Begun) (n : ℕ) → length b.chosen ≡ n → take n (with_largest number b).chosen ≡ b.chosen
unfolding with_largest
take-chosen number b n long = take_at b.chosen _ n long
