-- The elements of a list at the places of groups that have each place once: as many of each kind, and no group has nearly all.
use Rattle.std.proofs.Common.{◌≡◌, ℕ, zero, suc, ◌+◌, ◌<◌, ◌≤◌, List, [], ◌∷◌, length, take, drop, refl, sym, ap, ◌∙◌, arith, length-append}
use Rattle.std.specs.List.{range_with_len, concat}
use Rattle.std.specs.List.Sorted.{IsPermutation}
use Rattle.std.proofs.lemmas.List.Recursion.{is_sum_by}
use Rattle.std.proofs.lemmas.List.Sorted.{sum_by-IsPermutation}
use Rattle.nd_tree.specs.Split.{places}
use Rattle.pls_archive.specs.Lists.{Every, total}
use Rattle.pls_archive.proofs.Every.{total-append, total-flat_map, Every-append, Every-map}
use Rattle.nd_update.specs.Insertion.{at_places}

module _ {A : Type 0} where
  Every-one : (P : A → Type 0) (k : ℕ) (xs : List A) → Every P xs → Every P (take 1 (drop k xs))
  Every-one P zero [] each = tt
  Every-one P zero (x ∷ xs) each = (each.0, tt)
  Every-one P (suc k) [] each = tt
  Every-one P (suc k) (x ∷ xs) each = Every-one P k xs each.1

  pub Every-places : (P : A → Type 0) (xs : List A) (ks : List ℕ) → Every P xs → Every P (at_places xs ks)
  Every-places P xs [] each = tt
  Every-places P xs (k ∷ ks) each = Every-append P (take 1 (drop k xs)) (at_places xs ks) (Every-one P k xs each) (Every-places P xs ks each)

  length-one : (k : ℕ) (xs : List A) → k < length xs → length (take 1 (drop k xs)) ≡ 1
  length-one k [] low = absurd (omega arith)
  length-one zero (x ∷ xs) low = refl
  length-one (suc k) (x ∷ xs) low = length-one k xs (omega arith)

  pub length-places : (xs : List A) (ks : List ℕ) → Every (λ k. k < length xs) ks → length (at_places xs ks) ≡ length ks
  length-places xs [] each = refl
  length-places xs (k ∷ ks) each =
      let one = length-one k xs each.0 in
      let rest = length-places xs ks each.1 in
      let both = length-append (take 1 (drop k xs)) (at_places xs ks) in omega arith

  -- what is summed at all places is summed over the list
  module _ (f : A → ℕ) where
    abbrev at : List A → ℕ → ℕ
    at xs k = total f (take 1 (drop k xs))

    later : (g : ℕ → ℕ) (a n : ℕ) → total g (range_with_len (a + 1) n) ≡ total (λ k. g (suc k)) (range_with_len a n)
    later g a zero = refl
    later g a (suc n) =
        let rest = later g (a + 1) n in
        let here = ap g (let e : a + 1 ≡ suc a = omega arith in e) in omega arith

    all_places : (xs : List A) → total (at xs) (range_with_len 0 (length xs)) ≡ total f xs
    all_places [] = refl
    all_places (x ∷ xs) =
        let rest = all_places xs in
        let moved = later (at (x ∷ xs)) 0 (length xs) in omega arith

    total-concat : (g : ℕ → ℕ) (groups : List (List ℕ)) → total g (concat groups) ≡ total (total g) groups
    total-concat g [] = refl
    total-concat g (ks ∷ groups) =
        let rest = total-concat g groups in
        let both = total-append g ks (concat groups) in omega arith

    pub total-groups : (xs : List A) (groups : List (List ℕ)) → IsPermutation (places (length xs)) (concat groups) → total (λ ks. total f (at_places xs ks)) groups ≡ total f xs
    total-groups xs groups once =
        let summed = is_sum_by (total (at xs)) (at xs) refl (λ k ks. refl) in
        each groups ∙ sym (total-concat (at xs) groups) ∙ summed (concat groups) ∙ sum_by-IsPermutation (at xs) (places (length xs)) (concat groups) once ∙ sym (summed (places (length xs))) ∙ all_places xs
      where
        each : (groups : List (List ℕ)) → total (λ ks. total f (at_places xs ks)) groups ≡ total (total (at xs)) groups
        each [] = refl
        each (ks ∷ groups) =
            let one = total-flat_map f (λ k. take 1 (drop k xs)) ks in
            let rest = each groups in omega arith

    -- one group is among all
    pub total-group : (xs : List A) (groups : List (List ℕ)) → Every (λ ks. total f (at_places xs ks) ≤ total (λ js. total f (at_places xs js)) groups) groups
    total-group xs [] = tt
    total-group xs (ks ∷ groups) =
        (omega arith, Every-map (λ js. total f (at_places xs js) ≤ total (λ is. total f (at_places xs is)) groups) (λ js. total f (at_places xs js) ≤ total f (at_places xs ks) + total (λ is. total f (at_places xs is)) groups) (λ js few. omega arith) groups (total-group xs groups))

-- where each list has an element, one has at most those that the others leave
pub others : {A : Type 0} (lists : List (List A)) → Every (λ xs. 0 < length xs) lists → Every (λ xs. length xs + length lists ≤ total length lists + 1) lists
others [] some = tt
others (xs ∷ lists) some =
    let more = enough lists some.1 in
    (omega arith, Every-map (λ ys. length ys + length lists ≤ total length lists + 1) (λ ys. length ys + suc (length lists) ≤ (length xs + total length lists) + 1) (λ ys few. let one = some.0 in omega arith) lists (others lists some.1))
  where
    enough : {A : Type 0} (lists : List (List A)) → Every (λ xs. 0 < length xs) lists → length lists ≤ total length lists
    enough [] some = omega arith
    enough (xs ∷ lists) some = let rest = enough lists some.1 in let one = some.0 in omega arith
