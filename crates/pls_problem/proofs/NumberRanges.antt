-- Numbers from 0 on, one more at the end.
use Rattle.std.proofs.Common.{◌≡◌, ℕ, ◌+◌, List, [], ◌∷◌, ◌++◌, map, refl, sym, ap, ◌∙◌, zero-add, append-nil}
use Rattle.std.proofs.lemmas.Grind.{flat_map-append}
use Rattle.std.proofs.lemmas.List.FromFn.{map-range_with_len_more}
use Rattle.std.specs.List.{flat_map, range_with_len}

map_same : (xs : List ℕ) → xs ≡ map (λ (i : ℕ). i) xs
map_same [] = refl
map_same (x ∷ xs) = ap (λ (t : List ℕ). x ∷ t) (map_same xs)

pub range_with_len-more : (n : ℕ) → range_with_len 0 (n + 1) ≡ range_with_len 0 n ++ n ∷ []
range_with_len-more n =
    map_same (range_with_len 0 (n + 1))
    ∙ (map-range_with_len_more (λ (i : ℕ). i) 0 n n (zero-add n)
    ∙ ap (λ (t : List ℕ). t ++ n ∷ []) (sym (map_same (range_with_len 0 n))))

pub flat_map-range-more :
    {X : Type 0} (f : ℕ → List X) (n : ℕ) → flat_map f (range_with_len 0 (n + 1)) ≡ flat_map f (range_with_len 0 n) ++ f n
flat_map-range-more f n =
    ap (flat_map f) (range_with_len-more n)
    ∙ (flat_map-append f (range_with_len 0 n) (n ∷ []) ∙ ap (λ t. flat_map f (range_with_len 0 n) ++ t) (append-nil (f n)))
