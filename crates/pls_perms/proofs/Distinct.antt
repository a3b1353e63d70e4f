-- Numbers that are below n and do not repeat, one more of them, with a mark for each that was seen.
use Rattle.std.proofs.Common.{◌≡◌, inl, inr, ℕ, suc, ◌-◌, ◌+◌, ◌<◌, ◌==◌, nat_lt, Bool, true, false, not, ◌&&◌, ◌||◌, List, ◌∷◌, length, drop, slice_index_or, slice_set, refl, ap, sym, ◌∙◌, arith, get_or-set_same, get_or-set_other}
use Rattle.std.specs.List.{range_with_len, list_all, list_any}
use Rattle.std.proofs.Math.Bool.{and_assoc}
use Rattle.std.proofs.lemmas.Bool.{cases_eq}
use Rattle.std.proofs.lemmas.List.{drop_more}
use Rattle.pls_vectors.specs.Solution.{Solution, entry, entries}
use Rattle.pls_perms.specs.Permutation.{no_repeated, are_distinct_below, no_other_entry, is_permutation}
use Rattle.pls_perms.proofs.Permutations.{length-entries, entries-at}

reshuffle : (p q a b : Bool) → ((p && q) && (a && b)) ≡ ((a && p) && (b && q))
reshuffle true true true true = refl
reshuffle true true true false = refl
reshuffle true true false b = refl
reshuffle true false true true = refl
reshuffle true false true false = refl
reshuffle true false false b = refl
reshuffle false q true b = refl
reshuffle false q false b = refl

pub are_distinct-step :
    (n x : ℕ) (xs : List ℕ) (all fresh : Bool) → all ≡ are_distinct_below n xs
    → fresh ≡ (nat_lt x n && not (list_any (λ y. y == x) xs)) → (all && fresh) ≡ are_distinct_below n (x ∷ xs)
unfolding no_repeated are_distinct_below
are_distinct-step n x xs all fresh before here =
    let both : (all && fresh) ≡ ((list_all (λ x. nat_lt x n) xs && no_repeated xs) && (nat_lt x n && not (list_any (λ y. y == x) xs))) = cc in
    both ∙ reshuffle (list_all (λ x. nat_lt x n) xs) (no_repeated xs) (nat_lt x n) (not (list_any (λ y. y == x) xs))

pub marked-step :
    (seen : List Bool) (x y : ℕ) (xs : List ℕ) → x < length seen → slice_index_or seen y false ≡ list_any (λ z. z == y) xs
    → slice_index_or (slice_set seen x true) y false ≡ list_any (λ z. z == y) (x ∷ xs)
marked-step seen x y xs within before =
    elim (cases_eq y x) [
      | inl same ↦
          let equal : (x == y) ≡ true = grind arith in
          ap (λ k. slice_index_or (slice_set seen x true) k false) same
          ∙ (get_or-set_same seen x true false within ∙ sym (ap (λ b. b || list_any (λ z. z == y) xs) equal))
      | inr other ↦
          let apart : (x == y) ≡ false = grind arith in
          get_or-set_other seen x y true false other ∙ (before ∙ sym (ap (λ b. b || list_any (λ z. z == y) xs) apart))
    ]

-- the entries from the one before on
pub drop-entries : (s : Solution) (i : ℕ) → 0 < i → i < s.len + 1 → drop (i - 1) (entries s) ≡ entry s (i - 1) ∷ drop i (entries s)
drop-entries s i some within =
    let long = length-entries s in
    let next : i - 1 + 1 ≡ i = omega arith in
    drop_more (entries s) (i - 1) 0 (omega arith)
    ∙ (ap (λ x. x ∷ drop (i - 1 + 1) (entries s)) (entries-at s (i - 1) (omega arith)) ∙ ap (λ j. entry s (i - 1) ∷ drop j (entries s)) next)

-- the test of the entries from i on, one entry further
pub no_other-step :
    (p : ℕ → Bool) (i : ℕ) (all here : Bool) → i < 256 → here ≡ p i
    → ((all && here) && list_all p (range_with_len (i + 1) (256 - (i + 1)))) ≡ (all && list_all p (range_with_len i (256 - i)))
no_other-step p i all here below is =
    let more : 256 - i ≡ suc (256 - (i + 1)) = omega arith in
    and_assoc all here _
    ∙ (ap (λ b. all && (b && list_all p (range_with_len (i + 1) (256 - (i + 1))))) is
    ∙ sym (ap (λ m. all && list_all p (range_with_len i m)) more))

pub is_permutation-test :
    (n : ℕ) (s : Solution) (a b d : Bool) → (s.len == n) ≡ a → no_other_entry n s ≡ b → are_distinct_below n (entries s) ≡ d
    → is_permutation n s ≡ ((a && b) && d)
unfolding is_permutation
is_permutation-test n s a b d long clean distinct = cc
