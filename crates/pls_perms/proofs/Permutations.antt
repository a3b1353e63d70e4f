-- Permutations, entry by entry, and what keeps a solution one.
use Rattle.std.proofs.Common.{◌≡◌, ◌≢◌, inl, inr, ℕ, zero, suc, ◌-◌, ◌+◌, ◌<◌, ◌≤◌, ◌==◌, nat_lt, Bool, true, false, not, ◌&&◌, ◌||◌, List, [], ◌∷◌, length, slice_index, refl, ap, sym, ◌∙◌, arith}
use Rattle.std.specs.List.{range_with_len, list_all, list_any}
use Rattle.std.proofs.lemmas.Bool.{cases_eq, cases_lt, eqb-true, and_parts, and_from, both_ways}
use Rattle.std.proofs.lemmas.List.FromFn.{length-map-range_with_len, get_or-map-range_with_len}
use Rattle.std.proofs.lemmas.List.Folds.{list_any_at}
use Rattle.pls_vectors.specs.Solution.{Solution, entry, entries, swapped, reversed}
use Rattle.pls_vectors.proofs.Rearranged.{exchange, exchange-first, exchange-second, exchange-other, mirror, mirror-inside, mirror-before, mirror-after, len-swapped, entry-swapped, len-reversed, entry-reversed}
use Rattle.pls_perms.specs.Permutation.{no_repeated, are_distinct_below, no_other_entry, is_permutation}

-- a permutation of the numbers below n, entry by entry
pub record IsPermutationOf (n : ℕ) (s : Solution) : Type 0 where
  pub len : s.len ≡ n
  pub others : (i : ℕ) → n ≤ i → i < 256 → entry s i ≡ 0
  pub below : (i : ℕ) → i < n → entry s i < n
  pub distinct : (i j : ℕ) → i < n → j < n → entry s i ≡ entry s j → i ≡ j

-- a test of each number of a range that begins anywhere
all_from : (p : ℕ → Bool) (a n i : ℕ) → list_all p (range_with_len a n) ≡ true → a ≤ i → i < a + n → p i ≡ true
all_from p a zero i all from below = absurd (omega arith)
all_from p a (suc n) i all from below =
    let both = and_parts (p a) (list_all p (range_with_len (a + 1) n)) all in
    elim (cases_eq i a) [
      | inl same ↦ ap p same ∙ both.0
      | inr other ↦ all_from p (a + 1) n i both.1 (omega arith) (omega arith)
    ]

from_all : (p : ℕ → Bool) (a n : ℕ) → ((i : ℕ) → a ≤ i → i < a + n → p i ≡ true) → list_all p (range_with_len a n) ≡ true
from_all p a zero each = refl
from_all p a (suc n) each =
    and_from (p a) (list_all p (range_with_len (a + 1) n)) (each a (omega arith) (omega arith))
    (from_all p (a + 1) n (λ i from below. each i (omega arith) (omega arith)))

-- tests of a list, place by place
all_at : (p : ℕ → Bool) (xs : List ℕ) (i : ℕ) → list_all p xs ≡ true → i < length xs → p (slice_index xs i) ≡ true
all_at p [] i all below = absurd (omega arith)
all_at p (x ∷ xs) zero all below = (and_parts (p x) (list_all p xs) all).0
all_at p (x ∷ xs) (suc i) all below = all_at p xs i (and_parts (p x) (list_all p xs) all).1 (omega arith)

at_all : (p : ℕ → Bool) (xs : List ℕ) → ((i : ℕ) → i < length xs → p (slice_index xs i) ≡ true) → list_all p xs ≡ true
at_all p [] each = refl
at_all p (x ∷ xs) each = and_from (p x) (list_all p xs) (each 0 (omega arith)) (at_all p xs (λ i below. each (suc i) (omega arith)))

not-true : (b : Bool) → not b ≡ true → b ≡ false
not-true false h = refl
not-true true h = sym h

not-false : (b : Bool) → b ≡ false → not b ≡ true
not-false false h = refl
not-false true h = sym h

eqb-same : (a : ℕ) → (a == a) ≡ true
eqb-same a = grind arith

none_at : (x : ℕ) (xs : List ℕ) → ((i : ℕ) → i < length xs → slice_index xs i ≢ x) → list_any (λ y. y == x) xs ≡ false
none_at x [] each = refl
none_at x (y ∷ xs) each =
    let other : (y == x) ≡ false = (let apart = each 0 (omega arith) in grind arith) in
    ap (λ b. b || list_any (λ y. y == x) xs) other ∙ none_at x xs (λ i below. each (suc i) (omega arith))

no_repeated-apart :
    (xs : List ℕ) (i j : ℕ) → no_repeated xs ≡ true → i < j → j < length xs → slice_index xs i ≢ slice_index xs j
unfolding no_repeated
no_repeated-apart [] i j once less below = absurd (omega arith)
no_repeated-apart (x ∷ xs) zero zero once less below = absurd (omega arith)
no_repeated-apart (x ∷ xs) zero (suc j) once less below = λ same.
    let first = not-true _ (and_parts (not (list_any (λ y. y == x) xs)) (no_repeated xs) once).0 in
    both_ways _ first (list_any_at (λ y. y == x) xs j 0 (omega arith) (rw (← same) (eqb-same x)))
no_repeated-apart (x ∷ xs) (suc i) zero once less below = absurd (omega arith)
no_repeated-apart (x ∷ xs) (suc i) (suc j) once less below =
    no_repeated-apart xs i j (and_parts (not (list_any (λ y. y == x) xs)) (no_repeated xs) once).1 (omega arith) (omega arith)

no_repeated-from :
    (xs : List ℕ) → ((i j : ℕ) → i < j → j < length xs → slice_index xs i ≢ slice_index xs j) → no_repeated xs ≡ true
unfolding no_repeated
no_repeated-from [] apart = refl
no_repeated-from (x ∷ xs) apart =
    and_from (not (list_any (λ y. y == x) xs)) (no_repeated xs)
    (not-false _ (none_at x xs (λ i below same. apart 0 (suc i) (omega arith) (omega arith) (sym same))))
    (no_repeated-from xs (λ i j less below. apart (suc i) (suc j) (omega arith) (omega arith)))

-- the entries as a list
pub length-entries : (s : Solution) → length (entries s) ≡ s.len
unfolding entries
length-entries s = length-map-range_with_len (λ i. entry s i) 0 s.len

pub entries-at : (s : Solution) (i : ℕ) → i < s.len → slice_index (entries s) i ≡ entry s i
unfolding entries
entries-at s i below = get_or-map-range_with_len (λ i. entry s i) 0 s.len i i 0 below (omega arith)

lt-true : (a b : ℕ) → nat_lt a b ≡ true → a < b
lt-true a b h = grind arith

true-lt : (a b : ℕ) → a < b → nat_lt a b ≡ true
true-lt a b h = grind arith

-- the test says what it is named
pub IsPermutationOf-from : (n : ℕ) (s : Solution) → n ≤ 256 → is_permutation n s ≡ true → IsPermutationOf n s
unfolding no_other_entry are_distinct_below is_permutation
IsPermutationOf-from n s few h =
    let both = and_parts ((s.len == n) && no_other_entry n s) (are_distinct_below n (entries s)) h in
    let first = and_parts (s.len == n) (no_other_entry n s) both.0 in
    let third = and_parts (list_all (λ x. nat_lt x n) (entries s)) (no_repeated (entries s)) both.1 in
    let len : s.len ≡ n = eqb-true _ _ first.0 in
    let long = length-entries s in
    let apart = λ (i j : ℕ) (less : i < j) (below : j < n) (same : entry s i ≡ entry s j).
    no_repeated-apart (entries s) i j third.1 less (omega arith)
    (entries-at s i (omega arith) ∙ (same ∙ sym (entries-at s j (omega arith)))) in
    record {
      len = len;
      others = λ i from below. eqb-true _ _ (all_from (λ i. entry s i == 0) n (256 - n) i first.1 from (omega arith));
      below = λ i below.
          let at = entries-at s i (omega arith) in
          rw at at (lt-true _ _ (all_at (λ x. nat_lt x n) (entries s) i third.0 (omega arith)));
      distinct = λ i j i_in j_in same.
          elim (cases_lt i j) [
            | inl less ↦ absurd (apart i j less j_in same)
            | inr more ↦
                elim (cases_eq i j) [
                  | inl e ↦ e
                  | inr other ↦ absurd (apart j i (omega arith) i_in (sym same))
                ]
          ];
    }

pub is_permutation-from : (n : ℕ) (s : Solution) → n ≤ 256 → IsPermutationOf n s → is_permutation n s ≡ true
unfolding no_other_entry are_distinct_below is_permutation
is_permutation-from n s few p =
    let len = p.len in
    let long = length-entries s in
    and_from ((s.len == n) && no_other_entry n s) (are_distinct_below n (entries s))
    (and_from (s.len == n) (no_other_entry n s) (rw len (eqb-same n))
    (from_all (λ i. entry s i == 0) n (256 - n) (λ i from below. rw (p.others i from (omega arith)) refl)))
    (and_from (list_all (λ x. nat_lt x n) (entries s)) (no_repeated (entries s))
    (at_all (λ x. nat_lt x n) (entries s) (λ i below. rw (entries-at s i (omega arith)) (true-lt _ _ (p.below i (omega arith)))))
    (no_repeated-from (entries s)
    (λ i j less below same.
    let e = p.distinct i j (omega arith) (omega arith) (sym (entries-at s i (omega arith)) ∙ (same ∙ entries-at s j (omega arith))) in
    absurd (omega arith))))

-- places below n moved about
pub record Rearranges (n : ℕ) (f : ℕ → ℕ) : Type 0 where
  pub within : (i : ℕ) → i < n → f i < n
  pub others : (i : ℕ) → n ≤ i → f i ≡ i
  pub back : (i : ℕ) → f (f i) ≡ i

pub IsPermutationOf-rearranged :
    (n : ℕ) (f : ℕ → ℕ) (s t : Solution) → Rearranges n f → t.len ≡ s.len → ((i : ℕ) → entry t i ≡ entry s (f i))
    → IsPermutationOf n s → IsPermutationOf n t
IsPermutationOf-rearranged n f s t moved len at p = record {
  len = len ∙ p.len;
  others = λ i from below. at i ∙ (ap (λ k. entry s k) (moved.others i from) ∙ p.others i from below);
  below = λ i below. rw at (p.below (f i) (moved.within i below));
  distinct = λ i j i_in j_in same.
      let e = p.distinct (f i) (f j) (moved.within i i_in) (moved.within j j_in) (sym (at i) ∙ (same ∙ at j)) in
      sym (moved.back i) ∙ (ap f e ∙ moved.back j);
}

pub Rearranges-exchange : (n i j : ℕ) → i < n → j < n → Rearranges n (exchange i j)
Rearranges-exchange n i j i_in j_in =
    record {
      within = λ k below.
          elim (cases_eq k j) [
            | inl second ↦ rw (exchange-second i j k second) i_in
            | inr other ↦
                elim (cases_eq k i) [
                  | inl first ↦ rw (exchange-first i j k first) j_in
                  | inr neither ↦ rw (exchange-other i j k neither other) below
                ]
          ];
      others = λ k from. exchange-other i j k (λ e. absurd (omega arith)) (λ e. absurd (omega arith));
      back = λ k.
          elim (cases_eq k j) [
            | inl second ↦ ap (λ m. exchange i j m) (exchange-second i j k second) ∙ (exchange-first i j i refl ∙ sym second)
            | inr other ↦
                elim (cases_eq k i) [
                  | inl first ↦ ap (λ m. exchange i j m) (exchange-first i j k first) ∙ (exchange-second i j j refl ∙ sym first)
                  | inr neither ↦ ap (λ m. exchange i j m) (exchange-other i j k neither other) ∙ exchange-other i j k neither other
                ]
          ];
    }

pub Rearranges-mirror : (n i j : ℕ) → j < n → Rearranges n (mirror i j)
Rearranges-mirror n i j j_in =
    record {
      within = λ k below.
          elim (cases_lt k i) [
            | inl before ↦ rw (mirror-before i j k before) below
            | inr from ↦
                elim (cases_lt j k) [
                  | inl after ↦ rw (mirror-after i j k after) below
                  | inr upto ↦ rw (mirror-inside i j k from upto) (omega arith)
                ]
          ];
      others = λ k from. mirror-after i j k (omega arith);
      back = λ k.
          elim (cases_lt k i) [
            | inl before ↦ ap (λ m. mirror i j m) (mirror-before i j k before) ∙ mirror-before i j k before
            | inr from ↦
                elim (cases_lt j k) [
                  | inl after ↦ ap (λ m. mirror i j m) (mirror-after i j k after) ∙ mirror-after i j k after
                  | inr upto ↦
                      ap (λ m. mirror i j m) (mirror-inside i j k from upto)
                      ∙ (mirror-inside i j (i + j - k) (omega arith) (omega arith) ∙ omega arith)
                ]
          ];
    }

-- so a permutation stays one when two entries are exchanged, or a stretch is reversed
pub is_permutation-swapped :
    (n : ℕ) (s : Solution) (i j : ℕ) → n ≤ 256 → length s.words ≡ 32 → i < n → j < n
    → is_permutation n s ≡ true → is_permutation n (swapped s i j) ≡ true
is_permutation-swapped n s i j few many i_in j_in h =
    is_permutation-from n (swapped s i j) few
    (IsPermutationOf-rearranged n (exchange i j) s (swapped s i j) (Rearranges-exchange n i j i_in j_in) (len-swapped s i j)
    (λ k. entry-swapped s i j k many (omega arith) (omega arith)) (IsPermutationOf-from n s few h))

pub is_permutation-reversed :
    (n : ℕ) (s : Solution) (i j : ℕ) → n ≤ 256 → length s.words ≡ 32 → i ≤ j + 1 → j < n
    → is_permutation n s ≡ true → is_permutation n (reversed s i j) ≡ true
is_permutation-reversed n s i j few many ordered j_in h =
    is_permutation-from n (reversed s i j) few
    (IsPermutationOf-rearranged n (mirror i j) s (reversed s i j) (Rearranges-mirror n i j j_in) (len-reversed s i j)
    (λ k. entry-reversed s i j k many (omega arith) ordered) (IsPermutationOf-from n s few h))
