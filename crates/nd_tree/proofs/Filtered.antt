-- A list from which a loop takes what is not kept, place by place.
use Rattle.std.proofs.Common.{◌≡◌, ℕ, suc, ◌+◌, ◌<◌, ◌≤◌, Bool, true, false, List, [], ◌∷◌, ◌++◌, length, take, drop, get_or, filter, refl, ap, sym, subst, ◌∙◌, arith}
use Rattle.std.proofs.lemmas.List.{length-take-le, take_all, drop_all, append_assoc, append-nil}
use Rattle.std.proofs.Math.Seq.{take-suc, drop-cons, take-append_seam, drop-append_seam}
use Rattle.pls_archive.proofs.Every.{filter-keep, filter-skip}

module _ {A : Type 0} (keep : A → Bool) where
  -- the first k elements are kept, and with what is kept of the others they are what is kept of all
  pub IsFilteredTo : List A → List A → ℕ → Type 0
  IsFilteredTo before xs k = take k xs ++ filter keep (drop k xs) ≡ filter keep before

  pub filtered-begins : (xs : List A) → IsFilteredTo xs xs 0
  unfolding IsFilteredTo
  filtered-begins xs = refl

  module _ (before xs : List A) (k : ℕ) (d : A) (below : k < length xs) (is : IsFilteredTo before xs k) where
    rest : drop k xs ≡ get_or xs k d ∷ drop (suc k) xs
    rest = drop-cons xs k d below

    long : length (take k xs) ≡ k
    long = length-take-le k xs (omega arith)

    -- an element that is not kept goes
    pub filtered-drops : keep (get_or xs k d) ≡ false → IsFilteredTo before (take k xs ++ drop (suc k) xs) k
    unfolding IsFilteredTo
    filtered-drops fails =
        let ys = take k xs ++ drop (suc k) xs in
        let first : take k ys ≡ take k xs = subst (λ (n : ℕ). take n ys ≡ take k xs) long (take-append_seam (take k xs) (drop (suc k) xs)) in
        let later : drop k ys ≡ drop (suc k) xs = subst (λ (n : ℕ). drop n ys ≡ drop (suc k) xs) long (drop-append_seam (take k xs) (drop (suc k) xs)) in
        ap (λ zs. zs ++ filter keep (drop k ys)) first
        ∙ (ap (λ zs. take k xs ++ filter keep zs) later
        ∙ (ap (λ zs. take k xs ++ zs) (sym (filter-skip keep (get_or xs k d) (drop (suc k) xs) fails))
        ∙ (ap (λ zs. take k xs ++ filter keep zs) (sym rest) ∙ is)))

    -- one that is kept stays
    pub filtered-keeps : keep (get_or xs k d) ≡ true → IsFilteredTo before xs (k + 1)
    unfolding IsFilteredTo
    filtered-keeps passes =
        let next : suc k ≡ k + 1 = omega arith in
        subst (λ (n : ℕ). take n xs ++ filter keep (drop n xs) ≡ filter keep before) next
        (ap (λ zs. zs ++ filter keep (drop (suc k) xs)) (take-suc xs k d below)
        ∙ (append_assoc (take k xs) (get_or xs k d ∷ []) (filter keep (drop (suc k) xs))
        ∙ (ap (λ zs. take k xs ++ zs) (sym (filter-keep keep (get_or xs k d) (drop (suc k) xs) passes))
        ∙ (ap (λ zs. take k xs ++ filter keep zs) (sym rest) ∙ is))))

  pub filtered-ends : (before xs : List A) (k : ℕ) → length xs ≤ k → IsFilteredTo before xs k → xs ≡ filter keep before
  unfolding IsFilteredTo
  filtered-ends before xs k past is =
      sym (ap (λ zs. take k xs ++ filter keep zs) (drop_all k xs past) ∙ (append-nil (take k xs) ∙ take_all k xs past)) ∙ is
