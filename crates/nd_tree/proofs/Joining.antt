-- Joining: each place that is left goes to the end of one list, and none is lost.
use Rattle.std.proofs.Common.{◌≡◌, ℕ, zero, suc, ◌+◌, ◌<◌, ◌≤◌, nat_le, ℤ, List, [], ◌∷◌, ◌++◌, length, map, drop, get_or, set, slice_index, All, refl, ap, sym, ◌∙◌, subst, arith, append-nil, append_assoc, length-append}
use Rattle.std.specs.List.{concat}
use Rattle.std.specs.List.Sorted.{IsPermutation}
use Rattle.std.proofs.lemmas.List.{length_push, drop_more, drop_all}
use Rattle.std.proofs.lemmas.List.Elements.{All-nil, All-cons, All-head, All-tail}
use Rattle.std.proofs.lemmas.List.Sorted.{IsPermutation-refl, IsPermutation-sym, IsPermutation-trans, IsPermutation-middle, IsPermutation-append_left, IsPermutation-append_right}
use Rattle.arrayvec.specs.ArrayVec.{ArrayVec}
use Rattle.pls_vectors.specs.Box.{Box, grown, gap}
use Rattle.nd_tree.specs.Closest.{closest}
use Rattle.nd_tree.specs.Split.{value_at, changed_at, joined, lists_in}
use Rattle.nd_tree.proofs.First.{first_best-below}

module _ {A : Type 0} (f : A → A) where
  pub length-changed_at : (k : ℕ) (xs : List A) → length (changed_at k f xs) ≡ length xs
  length-changed_at k [] = refl
  length-changed_at zero (x ∷ xs) = refl
  length-changed_at (suc k) (x ∷ xs) = ap suc (length-changed_at k xs)

  pub All-changed_at : (P : A → Type 0) → ((x : A) → P x → P (f x)) → (k : ℕ) (xs : List A) → All P xs → All P (changed_at k f xs)
  All-changed_at P keeps k [] all = All-nil P
  All-changed_at P keeps zero (x ∷ xs) all = All-cons P (f x) xs (keeps x (All-head P x xs all)) (All-tail P x xs all)
  All-changed_at P keeps (suc k) (x ∷ xs) all =
      All-cons P x (changed_at k f xs) (All-head P x xs all) (All-changed_at P keeps k xs (All-tail P x xs all))

-- a write at one place changes what is seen of it there alone
pub changed_at-set :
    {A B : Type 0} (see : A → B) (f : B → B) (xs : List A) (k : ℕ) (was now : A)
    → k < length xs → was ≡ get_or xs k was → see now ≡ f (see was) → map see (set xs k now) ≡ changed_at k f (map see xs)
changed_at-set see f [] k was now within p q = absurd (omega arith)
changed_at-set see f (x ∷ xs) zero was now within p q = ap (λ y. y ∷ map see xs) (q ∙ ap (λ y. f (see y)) p)
changed_at-set see f (x ∷ xs) (suc k) was now within p q = ap (λ ys. see x ∷ ys) (changed_at-set see f xs k was now (omega arith) p q)

-- a list has no more elements than all together
pub room-at : (n : ℕ) (lists : List (ArrayVec ℕ)) (k : ℕ) (d : ArrayVec ℕ) → k < length lists → length (concat (lists_in lists)) < n → length (get_or lists k d).items < n
room-at n [] k d within few = absurd (omega arith)
room-at n (x ∷ xs) zero d within few = let long = length-append x.items (concat (lists_in xs)) in omega arith
room-at n (x ∷ xs) (suc k) d within few =
    let long = length-append x.items (concat (lists_in xs)) in
    room-at n xs k d (omega arith) (omega arith)

pub length-concat-changed :
    (k place : ℕ) (lists : List (List ℕ)) → k < length lists → length (concat (changed_at k (λ list. list ++ place ∷ []) lists)) ≡ length (concat lists) + 1
length-concat-changed k place [] within = absurd (omega arith)
length-concat-changed zero place (x ∷ xs) within =
    omega (arith, length-append (x ++ place ∷ []) (concat xs), length_push x place, length-append x (concat xs))
length-concat-changed (suc k) place (x ∷ xs) within =
    let rest = length-concat-changed k place xs (omega arith) in
    omega (arith, length-append x (concat (changed_at k (λ list. list ++ place ∷ []) xs)), length-append x (concat xs))

once-changed :
    (k place : ℕ) (lists : List (List ℕ)) → k < length lists → IsPermutation (place ∷ concat lists) (concat (changed_at k (λ list. list ++ place ∷ []) lists))
once-changed k place [] within = absurd (omega arith)
once-changed zero place (x ∷ xs) within =
    subst (λ (ys : List ℕ). IsPermutation (place ∷ (x ++ concat xs)) ys) (sym (append_assoc x (place ∷ []) (concat xs)))
    (IsPermutation-sym _ _ (IsPermutation-middle x place (concat xs)))
once-changed (suc k) place (x ∷ xs) within =
    IsPermutation-trans _ (x ++ (place ∷ concat xs)) _ (IsPermutation-sym _ _ (IsPermutation-middle x place (concat xs)))
    (IsPermutation-append_right x _ _ (once-changed k place xs (omega arith)))

pub closest-below : (boxes : List Box) (v : List ℤ) → 0 < length boxes → closest boxes v < length boxes
closest-below boxes v some = first_best-below (λ a b. nat_le (gap a v) (gap b v)) boxes some

module _ (values : List (List ℤ)) where
  pub length-joined : (lists : List (List ℕ)) (boxes : List Box) (left : List ℕ) → length (joined values lists boxes left) ≡ length lists
  unfolding joined
  length-joined lists boxes [] = refl
  length-joined lists boxes (k ∷ left) =
      let v = value_at values k in
      let j = closest boxes v in
      length-joined (changed_at j (λ list. list ++ k ∷ []) lists) (changed_at j (λ box. grown box v) boxes) left
      ∙ length-changed_at (λ list. list ++ k ∷ []) j lists

  pub some-joined :
      (lists : List (List ℕ)) (boxes : List Box) (left : List ℕ)
      → All (λ list. 0 < length list) lists → All (λ list. 0 < length list) (joined values lists boxes left)
  unfolding joined
  some-joined lists boxes [] all = all
  some-joined lists boxes (k ∷ left) all =
      let v = value_at values k in
      let j = closest boxes v in
      some-joined (changed_at j (λ list. list ++ k ∷ []) lists) (changed_at j (λ box. grown box v) boxes) left
      (All-changed_at (λ list. list ++ k ∷ []) (λ list. 0 < length list) (λ list some. let long = length_push list k in omega arith) j lists all)

  pub once-joined :
      (lists : List (List ℕ)) (boxes : List Box) (left : List ℕ) → length boxes ≡ length lists → 0 < length lists
      → IsPermutation (concat lists ++ left) (concat (joined values lists boxes left))
  unfolding joined
  once-joined lists boxes [] same some =
      subst (λ (ys : List ℕ). IsPermutation ys (concat lists)) (sym (append-nil (concat lists))) (IsPermutation-refl (concat lists))
  once-joined lists boxes (k ∷ left) same some =
      let v = value_at values k in
      let j = closest boxes v in
      let next = changed_at j (λ list. list ++ k ∷ []) lists in
      let within : j < length lists = let below = closest-below boxes v (omega arith) in omega arith in
      let long = length-changed_at (λ list. list ++ k ∷ []) j lists in
      let long_boxes = length-changed_at (λ box. grown box v) j boxes in
      IsPermutation-trans _ (k ∷ (concat lists ++ left)) _ (IsPermutation-middle (concat lists) k left)
      (IsPermutation-trans _ (concat next ++ left) _ (IsPermutation-append_left left _ _ (once-changed j k lists within))
      (once-joined next (changed_at j (λ box. grown box v) boxes) left (omega arith) (omega arith)))

  -- one more of those left has joined
  pub joined-next :
      (lists lists' : List (List ℕ)) (boxes boxes' : List Box) (left : List ℕ) (i : ℕ) (v : List ℤ) → i < length left
      → v ≡ value_at values (slice_index left i)
      → lists' ≡ changed_at (closest boxes v) (λ list. list ++ slice_index left i ∷ []) lists
      → boxes' ≡ changed_at (closest boxes v) (λ b. grown b v) boxes
      → joined values lists' boxes' (drop (i + 1) left) ≡ joined values lists boxes (drop i left)
  unfolding joined
  joined-next lists lists' boxes boxes' left i v within is p q = rw (p, q, is, drop_more left i 0 within) refl

  pub joined-none : (lists : List (List ℕ)) (boxes : List Box) (left : List ℕ) (i : ℕ) → length left ≤ i → joined values lists boxes (drop i left) ≡ lists
  unfolding joined
  joined-none lists boxes left i past = ap (joined values lists boxes) (drop_all i left past)
