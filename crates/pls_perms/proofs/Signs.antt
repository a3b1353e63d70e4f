-- Vectors of negated sums.
use Rattle.std.proofs.Common.{◌≡◌, ℕ, zero, suc, ◌-◌, ◌^◌, ◌<◌, ◌≤◌, ℤ, pos, neg_ℤ, true, [], ◌∷◌, map, take, drop, replicate, refl, arith}
use Rattle.std.specs.List.{range_with_len, list_all}
use Rattle.std.proofs.lemmas.Bool.{and_from}
use Rattle.pls_vectors.specs.Dominance.{is_part}

-- a negated sum is a part of a vector
pub is_part-minus : (x : ℕ) → x < 2 ^ 32 → is_part (neg_ℤ (pos x)) ≡ true
is_part-minus zero small = refl
is_part-minus (suc x) small = grind arith

-- four places, the parts before n and the others
pub parts-of : (f : ℕ → ℤ) (n : ℕ) → n ≤ 4 → take n (f 0 ∷ f 1 ∷ f 2 ∷ f 3 ∷ []) ≡ map f (range_with_len 0 n)
parts-of f zero few = refl
parts-of f (suc zero) few = refl
parts-of f (suc (suc zero)) few = refl
parts-of f (suc (suc (suc zero))) few = refl
parts-of f (suc (suc (suc (suc zero)))) few = refl
parts-of f (suc (suc (suc (suc (suc n))))) few = absurd (omega arith)

pub others-of :
    (f : ℕ → ℤ) (n : ℕ) → 2 ≤ n → n ≤ 4 → ((k : ℕ) → n ≤ k → k < 4 → f k ≡ pos 0)
    → drop n (f 0 ∷ f 1 ∷ f 2 ∷ f 3 ∷ []) ≡ replicate (4 - n) (pos 0)
others-of f zero some few none = absurd (omega arith)
others-of f (suc zero) some few none = absurd (omega arith)
others-of f (suc (suc zero)) some few none = rw (none 2 (omega arith) (omega arith), none 3 (omega arith) (omega arith)) refl
others-of f (suc (suc (suc zero))) some few none = rw (none 3 (omega arith) (omega arith)) refl
others-of f (suc (suc (suc (suc zero)))) some few none = refl
others-of f (suc (suc (suc (suc (suc n))))) some few none = absurd (omega arith)

pub four_in_range :
    (f : ℕ → ℤ) → ((k : ℕ) → k < 4 → is_part (f k) ≡ true) → list_all is_part (f 0 ∷ f 1 ∷ f 2 ∷ f 3 ∷ []) ≡ true
four_in_range f each =
    and_from (is_part (f 0)) _ (each 0 (omega arith))
    (and_from (is_part (f 1)) _ (each 1 (omega arith))
    (and_from (is_part (f 2)) _ (each 2 (omega arith)) (and_from (is_part (f 3)) true (each 3 (omega arith)) refl)))
