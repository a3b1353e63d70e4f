-- Comparing words part by part compares the values.
use Rattle.std.proofs.Common.{◌≡◌, ℕ, zero, suc, ◌+◌, ◌<◌, ◌^◌, Bool, true, false, Option, Some, None, List, [], ◌∷◌, length, map, drop, get_or, refl, sym, ap, ap₂, subst, ◌∙◌, arith, drop-cons, IsTrue, ℤ, pos, int_le, nat_lt, bit_or, bit_xor}
use Rattle.std.specs.Prelude.{◌&&◌, ◌==◌, if◌then◌else◌, nat_le}
use Rattle.std.proofs.lemmas.Int.{ints}
use Rattle.std.proofs.lemmas.Bool.Decides.{nat_tests}
use Rattle.std.proofs.lemmas.Nat.{le_or_l, le_or_r, and_le_l, and_le_r, xor_comm}
use lib.Bits.{or_add_and, xor_add_and, and_self}
use Rattle.era_core.specs.Versions.{Cell, look_up}
use Rattle.pls_vectors.specs.Dominance.{weakly_dominates, is_part}
use Rattle.pls_vectors.specs.Word.{to_word}
use Rattle.pls_vectors.proofs.Boxes.{place-part}
use Rattle.pls_vectors.proofs.Signs.{below-or}
use Rattle.nd_rows.specs.Layout.{HasWords, HasValue}
use Rattle.nd_rows.specs.Walk.{with_equal, sided, side_of}

-- the word at a place of words that stand in a row
pub word_at : (cells : List Cell) (r p : ℕ) (ws : List ℕ) → HasWords cells r p ws → (k : ℕ) → k < length ws → look_up cells r (p + k) ≡ Some (get_or ws k 0)
word_at cells r p [] there k low = absurd (omega arith)
word_at cells r p (w ∷ ws) there zero low = ap (look_up cells r) (let e : p + 0 ≡ p = omega arith in e) ∙ there.0
word_at cells r p (w ∷ ws) there (suc k) low = ap (look_up cells r) (let e : p + suc k ≡ (p + 1) + k = omega arith in e) ∙ word_at cells r (p + 1) ws there.1 k (omega arith)

length_words : (xs : List ℤ) → length (map to_word xs) ≡ length xs
length_words [] = refl
length_words (x ∷ xs) = ap suc (length_words xs)

word_of : (xs : List ℤ) (k : ℕ) → k < length xs → get_or (map to_word xs) k 0 ≡ to_word (get_or xs k (pos 0))
word_of [] k low = absurd (omega arith)
word_of (x ∷ xs) zero low = refl
word_of (x ∷ xs) (suc k) low = word_of xs k (omega arith)

-- the word of a part of a value that stands in a row
pub part_at : (objectives : ℕ) (cells : List Cell) (r p : ℕ) (xs : List ℤ) → HasValue objectives cells r p xs → (k : ℕ) → k < length xs → look_up cells r (p + k) ≡ Some (to_word (get_or xs k (pos 0)))
part_at objectives cells r p xs has k low =
    word_at cells r p (map to_word xs) has.words k (subst (λ n. k < n) (sym (length_words xs)) low) ∙ ap Some (word_of xs k low)

-- words are in the order of their parts
word_order : (x y : ℤ) → IsTrue (is_part x) → IsTrue (is_part y) → nat_le (to_word y) (to_word x) ≡ int_le y x
word_order x y p q = grind (arith, ints)

word_equal : (x y : ℤ) → IsTrue (is_part x) → IsTrue (is_part y) → int_le y x ≡ true → (to_word x == to_word y) ≡ int_le x y
word_equal x y p q le = grind (arith, ints)

-- the word of a part leaves the highest bit clear
pub word_fits : (x : ℤ) (w : ℕ) → IsTrue (is_part x) → w ≡ to_word x → w < 2 ^ 63
word_fits x w p is = grind (arith, ints)

-- Words were compared: an or of the differences, whose highest bit is clear where none falls short, and an or that is 0 where all
-- are equal. What the others tell follows
abbrev pub with_words : ℕ → ℕ → Option Bool → Option Bool
with_words short other side = if nat_lt short (2 ^ 63) then with_equal (other == 0) side else None

-- no word was compared
pub with_words-none : (o : Option Bool) → o ≡ with_words 0 0 o
with_words-none None = refl
with_words-none (Some b) = refl

combine : (b e w u : Bool) → (if b then with_equal e (if w then Some u else None) else None) ≡ (if b && w then Some (e && u) else None)
combine true e true u = refl
combine true e false u = refl
combine false e w u = refl

-- one more pair of parts
next_part : (x y : ℤ) (xs v : List ℤ) → IsTrue (is_part x) → IsTrue (is_part y)
    → sided (x ∷ xs) (y ∷ v) ≡ (if nat_le (to_word y) (to_word x) then with_equal (to_word x == to_word y) (sided xs v) else None)
next_part x y xs v p q =
    sym (ap (λ least. if least then with_equal (to_word x == to_word y) (sided xs v) else None) (word_order x y p q) ∙ by_part (int_le y x) refl)
  where
    by_part : (b : Bool) → int_le y x ≡ b
        → (if b then with_equal (to_word x == to_word y) (sided xs v) else None) ≡ (if b && weakly_dominates xs v then Some (int_le x y && weakly_dominates v xs) else None)
    by_part true le = ap (λ e. with_equal e (sided xs v)) (word_equal x y p q le) ∙ combine true (int_le x y) (weakly_dominates xs v) (weakly_dominates v xs)
    by_part false le = refl

with_both : (s e t f : Bool) (o : Option Bool) → (if s then with_equal e (if t then with_equal f o else None) else None) ≡ (if s && t then with_equal (e && f) o else None)
with_both false e t f o = refl
with_both true e false f o = refl
with_both true e true f None = refl
with_both true true true f (Some b) = refl
with_both true false true f (Some b) = refl

-- words are equal where no bit differs
pub same-xor : (w y : ℕ) → (bit_xor w y == 0) ≡ (w == y)
same-xor w y = grind (arith, nat_tests, xor_add_and w y, and_le_l w y, and_le_r w y, and_self w)

pub none-or : (a b : ℕ) → (bit_or a b == 0) ≡ ((a == 0) && (b == 0))
none-or a b = grind (arith, nat_tests, or_add_and a b, and_le_l a b, le_or_l a b, le_or_r a b)

-- one more pair of words
with_words-both : (short other d w y : ℕ) (o : Option Bool) → nat_lt d (2 ^ 63) ≡ nat_le y w
    → with_words short other (if nat_le y w then with_equal (w == y) o else None) ≡ with_words (bit_or short d) (bit_or other (bit_xor w y)) o
with_words-both short other d w y o d_is = rw (below-or 63, d_is, none-or, same-xor) (with_both (nat_lt short (2 ^ 63)) (other == 0) (nat_le y w) (w == y) o)

-- what is compared so far, with what is left, is the whole
sided_goes_on :
    (xs v : List ℤ) → length xs ≡ length v → (k short other : ℕ) → sided xs v ≡ with_words short other (sided (drop k xs) (drop k v))
    → k < length v → IsTrue (is_part (get_or xs k (pos 0))) → IsTrue (is_part (get_or v k (pos 0)))
    → (w y d : ℕ) → w ≡ to_word (get_or xs k (pos 0)) → y ≡ to_word (get_or v k (pos 0)) → nat_lt d (2 ^ 63) ≡ nat_le y w
    → sided xs v ≡ with_words (bit_or short d) (bit_or other (bit_xor w y)) (sided (drop (k + 1) xs) (drop (k + 1) v))
sided_goes_on xs v same k short other so_far low in_xs in_v w y d w_is y_is d_is =
    so_far
    ∙ ap (with_words short other) (ap₂ sided (drop-cons xs k (pos 0) (omega arith)) (drop-cons v k (pos 0) low)
    ∙ next_part (get_or xs k (pos 0)) (get_or v k (pos 0)) (drop (suc k) xs) (drop (suc k) v) in_xs in_v
    ∙ ap₂ (λ a b. if nat_le b a then with_equal (a == b) (sided (drop (suc k) xs) (drop (suc k) v)) else None) (sym w_is) (sym y_is))
    ∙ with_words-both short other d w y _ d_is
    ∙ ap (λ n. with_words (bit_or short d) (bit_or other (bit_xor w y)) (sided (drop n xs) (drop n v))) (let e : suc k ≡ k + 1 = omega arith in e)

-- The same, turned round or not.
module _ (turned : Bool) (xs v : List ℤ) (same : length xs ≡ length v) (k short other : ℕ)
    (so_far : side_of turned xs v ≡ with_words short other (side_of turned (drop k xs) (drop k v))) where
  pub side_goes_on :
      k < length v → IsTrue (is_part (get_or xs k (pos 0))) → IsTrue (is_part (get_or v k (pos 0)))
      → (w y d : ℕ) → w ≡ to_word (get_or xs k (pos 0)) → y ≡ to_word (get_or v k (pos 0))
      → (w < 2 ^ 63 → y < 2 ^ 63 → nat_lt d (2 ^ 63) ≡ (if turned then nat_le w y else nat_le y w))
      → side_of turned xs v ≡ with_words (bit_or short d) (bit_or other (bit_xor w y)) (side_of turned (drop (k + 1) xs) (drop (k + 1) v))
  side_goes_on low in_xs in_v w y d w_is y_is d_is = by_turn turned so_far (d_is (word_fits (get_or xs k (pos 0)) w in_xs w_is) (word_fits (get_or v k (pos 0)) y in_v y_is))
    where
      by_turn : (b : Bool) → side_of b xs v ≡ with_words short other (side_of b (drop k xs) (drop k v)) → nat_lt d (2 ^ 63) ≡ (if b then nat_le w y else nat_le y w)
          → side_of b xs v ≡ with_words (bit_or short d) (bit_or other (bit_xor w y)) (side_of b (drop (k + 1) xs) (drop (k + 1) v))
      by_turn false so_far d_is = sided_goes_on xs v same k short other so_far low in_xs in_v w y d w_is y_is d_is
      by_turn true so_far d_is =
          sided_goes_on v xs (sym same) k short other so_far (omega arith) in_v in_xs y w d y_is w_is d_is
          ∙ ap (λ x. with_words (bit_or short d) (bit_or other x) (sided (drop (k + 1) v) (drop (k + 1) xs))) (xor_comm y w)

-- a part of a value is in range
pub part_in_range : (objectives : ℕ) (cells : List Cell) (r p : ℕ) (xs : List ℤ) → HasValue objectives cells r p xs → (k : ℕ) → k < length xs → IsTrue (is_part (get_or xs k (pos 0)))
part_in_range objectives cells r p xs has k low = place-part xs k has.is_value.in_range low
