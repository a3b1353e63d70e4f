-- Reading the words of a point, one after another.
use Rattle.std.proofs.Common.{◌≡◌, ℕ, zero, suc, ◌+◌, ◌-◌, ◌^◌, ◌<◌, ◌≤◌, ⊎_elim, List, [], ◌∷◌, ◌++◌, length, set, take, drop, get_or, refl, sym, ap, ◌∙◌, arith, IsTrue, ℤ, pos, true}
use Rattle.std.specs.Prelude.{replicate}
use Rattle.std.specs.List.{list_all}
use Rattle.std.proofs.lemmas.Bool.{and_from, cases_eq}
use Rattle.std.proofs.lemmas.Grind.{get_or-set_at}
use Rattle.std.proofs.lemmas.Int.{ints}
use Rattle.std.proofs.lemmas.List.{get_or-set_other}
use Rattle.std.proofs.lemmas.List.Folds.{list_all-append}
use Rattle.std.proofs.Math.Seq.{drop-append_seam, take-append_seam}
use Rattle.pls_vectors.specs.Dominance.{is_part}
use Rattle.pls_vectors.specs.Word.{to_word, from_word}
use Rattle.pls_vectors.specs.Vector.{places_of}

-- one more word stands at its place
pub next_word : (words target : List ℕ) (k x : ℕ) → k < length words → x ≡ get_or target k 0 → ((i : ℕ) → i < k → get_or words i 0 ≡ get_or target i 0)
    → (i : ℕ) → i < k + 1 → get_or (set words k x) i 0 ≡ get_or target i 0
next_word words target k x inside is before i low =
    ⊎_elim
    (λ e. get_or-set_at words k i x 0 e inside ∙ (is ∙ ap (λ j. get_or target j 0) (sym e)))
    (λ apart. get_or-set_other words k i x 0 apart ∙ before i (omega arith))
    (cases_eq i k)

-- one more part stands at its place, before those that are 0 still
put_part : (v : List ℤ) (k m : ℕ) → k < length v → set (take k v ++ replicate (suc m) (pos 0)) k (get_or v k (pos 0)) ≡ take (suc k) v ++ replicate m (pos 0)
put_part [] k m low = absurd (omega arith)
put_part (x ∷ v) zero m low = refl
put_part (x ∷ v) (suc k) m low = ap (λ xs. x ∷ xs) (put_part v k m (omega arith))

pub next_part : (parts v : List ℤ) (k : ℕ) (x : ℤ) → k < length v → length v ≤ 4 → x ≡ get_or v k (pos 0) → parts ≡ take k v ++ replicate (4 - k) (pos 0) → set parts k x ≡ take (k + 1) v ++ replicate (4 - (k + 1)) (pos 0)
next_part parts v k x low few is before =
    ap (λ y. set parts k y) is
    ∙ ap (λ ps. set ps k (get_or v k (pos 0))) (before ∙ ap (λ n. take k v ++ replicate n (pos 0)) (let e : 4 - k ≡ suc (4 - (k + 1)) = omega arith in e))
    ∙ put_part v k (4 - (k + 1)) low
    ∙ ap (λ n. take n v ++ replicate (4 - (k + 1)) (pos 0)) (let e : suc k ≡ k + 1 = omega arith in e)

-- a part is the part of its word, which is low enough
pub word_low : (x : ℤ) → IsTrue (is_part x) → to_word x ≤ 2 ^ 41
word_low x p = grind (arith, ints)

pub word_back : (x : ℤ) → IsTrue (is_part x) → from_word (to_word x) ≡ x
word_back x p = grind (arith, ints)

zeros : (n : ℕ) → list_all is_part (replicate n (pos 0)) ≡ true
zeros zero = refl
zeros (suc n) = zeros n

-- the places of a value make it
pub places_in_range : (v : List ℤ) → list_all is_part v ≡ true → list_all is_part (places_of v) ≡ true
places_in_range v all = list_all-append is_part v (replicate (4 - length v) (pos 0)) ∙ and_from _ _ all (zeros (4 - length v))

pub places_unused : (v : List ℤ) → drop (length v) (places_of v) ≡ replicate (4 - length v) (pos 0)
places_unused v = drop-append_seam v (replicate (4 - length v) (pos 0))

pub places_value : (v : List ℤ) → take (length v) (places_of v) ≡ v
places_value v = take-append_seam v (replicate (4 - length v) (pos 0))
