-- A shuffle, one exchange after another.
use Rattle.std.proofs.Common.{◌≡◌, ◌<◌, ◌≤◌, ℕ, zero, suc, ◌+◌, ◌-◌, ◌%◌, List, length, get_or, refl, ap, arith, ◌∙◌}
use Rattle.std.proofs.Math.Nat.{mod-lt}
use Rattle.std.proofs.lemmas.List.Edits.{length-swap, swapped_from_swap}
use Rattle.std.proofs.lemmas.List.Sorted.{IsPermutation-refl, IsPermutation-swap, IsPermutation-trans}
use Rattle.std.specs.List.{swap}
use Rattle.std.specs.List.Sorted.{IsPermutation}
use Rattle.rand_core.specs.Stream.{Stream, next_u64}
use Rattle.pls_problem.specs.Shuffle.{shuffled}

pub shuffled-step :
    {X : Type 0} (least n : ℕ) (words words' : Stream) (xs xs' : List X) (word : ℕ) → 1 < n → (word, words') ≡ next_u64 words
    → xs' ≡ swap xs (least + (n - 1)) (least + word % n) → shuffled least (n - 1) words' xs' ≡ shuffled least n words xs
unfolding shuffled
shuffled-step least zero words words' xs xs' word more drawn moved = absurd (omega arith)
shuffled-step least (suc zero) words words' xs xs' word more drawn moved = absurd (omega arith)
shuffled-step least (suc (suc i)) words words' xs xs' word more drawn moved =
    let less : suc (suc i) - 1 ≡ suc i = omega arith in
    ap (λ (k : ℕ). shuffled least k words' xs') less
    ∙ ap (shuffled least (suc i) words') (moved ∙ ap (λ (k : ℕ). swap xs (least + k) (least + word % suc (suc i))) less)
    ∙ ap (λ (next : ℕ × Stream). shuffled least (suc i) next.1 (swap xs (least + suc i) (least + next.0 % suc (suc i)))) drawn

pub shuffled-done : {X : Type 0} (least n : ℕ) (words : Stream) (xs : List X) → n ≤ 1 → shuffled least n words xs ≡ (xs, words)
unfolding shuffled
shuffled-done least zero words xs few = refl
shuffled-done least (suc zero) words xs few = refl
shuffled-done least (suc (suc i)) words xs few = absurd (omega arith)

module _ (least : ℕ) where
  abbrev moved_at : {X : Type 0} → ℕ → Stream → List X → List X
  moved_at i words xs = swap xs (least + suc i) (least + (next_u64 words).0 % suc (suc i))

  chosen-in : (i : ℕ) (words : Stream) (n : ℕ) → least + suc (suc i) ≤ n → least + (next_u64 words).0 % suc (suc i) < n
  chosen-in i words n all =
      let below : (next_u64 words).0 % suc (suc i) < suc (suc i) = mod-lt (next_u64 words).0 (omega arith) in
      omega arith

  -- a shuffle moves entries, and loses none
  pub shuffled-moves :
      {X : Type 0} (n : ℕ) (words : Stream) (xs : List X) → least + n ≤ length xs → IsPermutation xs (shuffled least n words xs).0
  unfolding shuffled
  shuffled-moves zero words xs all = IsPermutation-refl xs
  shuffled-moves (suc zero) words xs all = IsPermutation-refl xs
  shuffled-moves (suc (suc i)) words xs all =
      let next = moved_at i words xs in
      IsPermutation-trans xs next (shuffled least (suc i) (next_u64 words).1 next).0
      (IsPermutation-swap xs next (least + suc i) (least + (next_u64 words).0 % suc (suc i)) (omega arith) (chosen-in i words (length xs) all) refl)
      (shuffled-moves (suc i) (next_u64 words).1 next (omega (arith, length-swap xs (least + suc i) (least + (next_u64 words).0 % suc (suc i)))))

  -- what stands before the least place stays
  pub shuffled-keeps :
      (n : ℕ) (words : Stream) (xs : List ℕ) (place : ℕ) → least + n ≤ length xs → place < least
      → get_or (shuffled least n words xs).0 place 0 ≡ get_or xs place 0
  unfolding shuffled
  shuffled-keeps zero words xs place all before = refl
  shuffled-keeps (suc zero) words xs place all before = refl
  shuffled-keeps (suc (suc i)) words xs place all before =
      let j = least + (next_u64 words).0 % suc (suc i) in
      let next = moved_at i words xs in
      let others = (swapped_from_swap xs next (least + suc i) j 0 (omega arith) (chosen-in i words (length xs) all) refl).2 in
      shuffled-keeps (suc i) (next_u64 words).1 next place (omega (arith, length-swap xs (least + suc i) j)) before
      ∙ others place (λ same. omega arith) (λ same. omega arith)
