-- The sum over the numbers that pass a test, where one more passes.
use Rattle.std.proofs.Common.{◌≡◌, ◌≢◌, ℕ, ◌+◌, ◌<◌, Bool, true, false, cond, suc, zero, ap, sym, ◌∙◌, inl, inr, arith}
use Rattle.std.specs.List.{range_with_len, sum_by}
use Rattle.std.proofs.lemmas.Bool.{cases_eq}
use Rattle.pls_vectors.proofs.Ranges.{sum_by-range_suc, sum_by-range_same}

-- the sum of f over the first n numbers that pass a test
abbrev sum_of : (ℕ → Bool) → (ℕ → ℕ) → ℕ → ℕ
sum_of p f n = sum_by (λ i. cond (p i) (f i) 0) (range_with_len 0 n)

-- one more number passes
pub sum_of-put :
    (p q : ℕ → Bool) (f : ℕ → ℕ) (n i : ℕ) → i < n → p i ≡ false → q i ≡ true → ((j : ℕ) → j ≢ i → q j ≡ p j)
    → sum_of q f n ≡ sum_of p f n + f i
sum_of-put p q f zero i below without with others = absurd (omega arith)
sum_of-put p q f (suc n) i below without with others =
    let upto_q = sum_by-range_suc (λ j. cond (q j) (f j) 0) n in
    let upto_p = sum_by-range_suc (λ j. cond (p j) (f j) 0) n in
    elim (cases_eq i n) [
      | inl same ↦
          let before = sum_by-range_same (λ j. cond (q j) (f j) 0) (λ j. cond (p j) (f j) 0) n
          (λ j at. ap (λ b. cond b (f j) 0) (others j (λ e. absurd (omega arith)))) in
          let there : cond (q n) (f n) 0 ≡ f n = ap (λ b. cond b (f n) 0) (ap q (sym same) ∙ with) in
          let here : cond (p n) (f n) 0 ≡ 0 = ap (λ b. cond b (f n) 0) (ap p (sym same) ∙ without) in
          let last : f n ≡ f i = ap f (sym same) in
          omega arith
      | inr apart ↦
          let before = sum_of-put p q f n i (omega arith) without with others in
          let last : cond (q n) (f n) 0 ≡ cond (p n) (f n) 0 = ap (λ b. cond b (f n) 0) (others n (λ e. apart (sym e))) in
          omega arith
    ]
