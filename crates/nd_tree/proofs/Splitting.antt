-- What holds of a split.
use Rattle.std.proofs.Common.{◌≡◌, ℕ, ◌+◌, ◌<◌, ℤ, List, [], ◌∷◌, ◌++◌, length, map, All, refl, ap, ◌∙◌, subst, arith}
use Rattle.std.specs.List.{concat}
use Rattle.std.specs.List.Sorted.{IsPermutation}
use Rattle.std.proofs.lemmas.List.{length-map}
use Rattle.std.proofs.lemmas.List.Elements.{All-nil, All-cons, All-map}
use Rattle.std.proofs.lemmas.List.Sorted.{IsPermutation-trans, All-permutation}
use Rattle.pls_vectors.specs.Box.{Box, box_of}
use Rattle.nd_tree.specs.Split.{Begun, value_at, places, begun, joined, split}
use Rattle.nd_tree.proofs.Chosen.{IsChoice, IsChoice-begun, All-append_first, All-append_second, All-places}
use Rattle.nd_tree.proofs.Joining.{length-joined, some-joined, once-joined}

pub concat-alone : (ks : List ℕ) → concat (map (λ k. k ∷ []) ks) ≡ ks
concat-alone [] = refl
concat-alone (k ∷ ks) = ap (λ rest. k ∷ rest) (concat-alone ks)

All-concat : (P : ℕ → Type 0) (lists : List (List ℕ)) → All P (concat lists) → All (λ list. All P list) lists
All-concat P [] all = All-nil (λ list. All P list)
All-concat P (x ∷ xs) all =
    All-cons (λ list. All P list) x xs (All-append_first P x (concat xs) all) (All-concat P xs (All-append_second P x (concat xs) all))

module _ (values : List (List ℤ)) (few : length (value_at values 0) < length values) where
  abbrev b : Begun
  b = begun values (length (value_at values 0))

  abbrev alone : List (List ℕ)
  alone = map (λ k. k ∷ []) b.chosen

  abbrev boxes : List Box
  boxes = map (λ k. box_of (value_at values k)) b.chosen

  pub IsChoice-split : IsChoice (length values) (length (value_at values 0) + 1) b
  IsChoice-split = IsChoice-begun values (length (value_at values 0)) few

  pub count-split : length (split values) ≡ length (value_at values 0) + 1
  unfolding split
  count-split = length-joined values alone boxes b.left ∙ (length-map b.chosen (λ k. k ∷ []) ∙ IsChoice-split.chosen)

  pub some-split : All (λ group. 0 < length group) (split values)
  unfolding split
  some-split = some-joined values alone boxes b.left (All-map (λ group. 0 < length group) (λ (k : ℕ). k ∷ []) b.chosen (λ k d below. omega arith))

  pub once-split : IsPermutation (places (length values)) (concat (split values))
  unfolding split
  once-split =
      let many = IsChoice-split.chosen in
      let as_many = length-map b.chosen (λ (k : ℕ). k ∷ []) in
      let as_many_boxes = length-map b.chosen (λ k. box_of (value_at values k)) in
      IsPermutation-trans _ (b.chosen ++ b.left) _ IsChoice-split.once
      (subst (λ ks. IsPermutation (ks ++ b.left) (concat (joined values alone boxes b.left))) (concat-alone b.chosen)
      (once-joined values alone boxes b.left (omega arith) (omega arith)))

  pub below-split : All (λ group. All (λ place. place < length values) group) (split values)
  below-split =
      All-concat (λ place. place < length values) (split values)
      (All-permutation (λ place. place < length values) (places (length values)) (concat (split values)) once-split (All-places (length values)))

-- the split from its steps
pub split-made :
    (values : List (List ℤ)) (b : Begun) (chosen left : List ℕ) (lists : List (List ℕ)) (boxes : List Box)
    → b ≡ begun values (length (value_at values 0)) → chosen ≡ b.chosen → left ≡ b.left
    → lists ≡ map (λ k. k ∷ []) chosen → boxes ≡ map (λ k. box_of (value_at values k)) chosen
    → joined values lists boxes left ≡ split values
unfolding split
split-made values b chosen left lists boxes is p q r s = rw (r, s, p, q, is) refl
