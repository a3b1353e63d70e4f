-- The test of weak dominance by the signs of differences.
use Rattle.std.proofs.Common.{◌≡◌, ℕ, ◌<◌, ◌^◌, nat_lt, ℤ, pos, ◌-ℤ◌, to_z, of_z, w64, Bool, true, false, ◌&&◌, bit_or, IsTrue, int_le, List, [], ◌∷◌, length, slice_index_or, refl, ap, sym, ◌∙◌, arith}
use Rattle.std.specs.List.{list_all}
use Rattle.std.proofs.lemmas.Bool.Decides.{nat_tests}
use Rattle.std.proofs.lemmas.Int.{ints}
use Rattle.std.proofs.lemmas.List.Elements.{All-get_or}
use Rattle.std.proofs.lemmas.List.Sums.{AllPass-from_list_all}
use Rattle.std.proofs.lemmas.Nat.{or_lt, le_or_l, le_or_r}
use Rattle.pls_vectors.specs.Dominance.{weakly_dominates, is_part}
use lib.Signed.{le_z}

-- an or has no bit from bit m on where both numbers have none
pub below-or : (m a b : ℕ) → nat_lt (bit_or a b) (2 ^ m) ≡ (nat_lt a (2 ^ m) && nat_lt b (2 ^ m))
below-or m a b = grind (arith, nat_tests, or_lt m a b, le_or_l a b, le_or_r a b)

-- the highest bit is the sign
clear-sign : (n : ℕ) → n < 2 ^ 64 → le_z (pos 0) (to_z w64 n) ≡ nat_lt n (2 ^ 63)
clear-sign n fits = grind (arith, ints)

and_four : (p q r s : Bool) → (((p && q) && r) && s) ≡ (p && (q && (r && (s && true))))
and_four true true true true = refl
and_four true true true false = refl
and_four true true false s = refl
and_four true false r s = refl
and_four false q r s = refl

sign-or :
    (a b c d : ℕ) → a < 2 ^ 64 → b < 2 ^ 64 → c < 2 ^ 64 → d < 2 ^ 64
    → le_z (pos 0) (to_z w64 (bit_or (bit_or (bit_or a b) c) d))
    ≡ (nat_lt a (2 ^ 63) && (nat_lt b (2 ^ 63) && (nat_lt c (2 ^ 63) && (nat_lt d (2 ^ 63) && true))))
sign-or a b c d p q r s =
    let fits : bit_or (bit_or (bit_or a b) c) d < 2 ^ 64 = or_lt 64 _ d (or_lt 64 _ c (or_lt 64 a b p q) r) s in
    clear-sign _ fits
    ∙ (rw (below-or 63, below-or 63, below-or 63) (and_four (nat_lt a (2 ^ 63)) (nat_lt b (2 ^ 63)) (nat_lt c (2 ^ 63)) (nat_lt d (2 ^ 63))))

-- the difference of two parts, as it is stored, and its sign
abbrev difference : ℤ → ℤ → ℕ
difference x y = of_z w64 (to_z w64 (of_z w64 x) -ℤ to_z w64 (of_z w64 y))

difference-fits : (x y : ℤ) → IsTrue (is_part x) → IsTrue (is_part y) → difference x y < 2 ^ 64
difference-fits x y p q = grind (arith, ints)

difference-clear : (x y : ℤ) → IsTrue (is_part x) → IsTrue (is_part y) → nat_lt (difference x y) (2 ^ 63) ≡ int_le y x
difference-clear x y p q = grind (arith, ints)

abbrev pub place : List ℤ → ℕ → ℤ
place xs k = slice_index_or xs k (pos 0)

pub four_places : (xs : List ℤ) → length xs ≡ 4 → xs ≡ place xs 0 ∷ place xs 1 ∷ place xs 2 ∷ place xs 3 ∷ []
four_places [] e = absurd (omega arith)
four_places (a ∷ []) e = absurd (omega arith)
four_places (a ∷ b ∷ []) e = absurd (omega arith)
four_places (a ∷ b ∷ c ∷ []) e = absurd (omega arith)
four_places (a ∷ b ∷ c ∷ d ∷ []) e = refl
four_places (a ∷ b ∷ c ∷ d ∷ x ∷ xs) e = absurd (omega arith)

module _ (a b : List ℤ) (four : length a ≡ 4) (four' : length b ≡ 4) (p : IsTrue (list_all is_part a)) (q : IsTrue (list_all is_part b)) where
  part_at : (xs : List ℤ) (k : ℕ) → IsTrue (list_all is_part xs) → k < length xs → IsTrue (is_part (place xs k))
  part_at xs k all below = All-get_or (λ (x : ℤ). is_part x ≡ true) xs k (pos 0) below (AllPass-from_list_all is_part xs all)

  fits : (k : ℕ) → k < 4 → difference (place a k) (place b k) < 2 ^ 64
  fits k below = difference-fits (place a k) (place b k) (part_at a k p (omega arith)) (part_at b k q (omega arith))

  clear : (k : ℕ) → k < 4 → nat_lt (difference (place a k) (place b k)) (2 ^ 63) ≡ int_le (place b k) (place a k)
  clear k below = difference-clear (place a k) (place b k) (part_at a k p (omega arith)) (part_at b k q (omega arith))

  -- the or of the four differences has no sign where each part is at least the other's
  pub weakly_dominates-signs :
      le_z (pos 0) (to_z w64 (bit_or (bit_or (bit_or (difference (place a 0) (place b 0)) (difference (place a 1) (place b 1))) (difference (place a 2) (place b 2))) (difference (place a 3) (place b 3))))
      ≡ weakly_dominates a b
  weakly_dominates-signs =
      let c0 = clear 0 (omega arith) in
      let c1 = clear 1 (omega arith) in
      let c2 = clear 2 (omega arith) in
      let c3 = clear 3 (omega arith) in
      let ours = four_places a four in
      let theirs = four_places b four' in
      sign-or _ _ _ _ (fits 0 (omega arith)) (fits 1 (omega arith)) (fits 2 (omega arith)) (fits 3 (omega arith))
      ∙ (rw (c0, c1, c2, c3) refl
      ∙ (ap (λ ys. weakly_dominates (place a 0 ∷ place a 1 ∷ place a 2 ∷ place a 3 ∷ []) ys) (sym theirs) ∙ ap (λ xs. weakly_dominates xs b) (sym ours)))
