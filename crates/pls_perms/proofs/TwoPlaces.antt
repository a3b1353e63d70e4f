-- Sums over a range that differ at one place, and at two.
use Rattle.std.proofs.Common.{◌≡◌, ◌≢◌, inl, inr, ℕ, zero, suc, ◌+◌, ◌<◌, ap, sym, arith}
use Rattle.std.specs.List.{range_with_len, sum_by}
use Rattle.std.proofs.lemmas.Bool.{cases_eq}
use Rattle.pls_vectors.proofs.Ranges.{sum_by-range_suc, sum_by-range_same}

pub sum-one :
    (f g : ℕ → ℕ) (n i : ℕ) → i < n → ((k : ℕ) → k < n → k ≢ i → g k ≡ f k)
    → sum_by g (range_with_len 0 n) + f i ≡ sum_by f (range_with_len 0 n) + g i
sum-one f g zero i within others = absurd (omega arith)
sum-one f g (suc n) i within others =
    let upto_f = sum_by-range_suc f n in
    let upto_g = sum_by-range_suc g n in
    elim (cases_eq i n) [
      | inl last ↦
          let before = sum_by-range_same g f n (λ k below. others k (omega arith) (λ e. absurd (omega arith))) in
          let here_f : f i ≡ f n = ap f last in
          let here_g : g i ≡ g n = ap g last in
          omega arith
      | inr earlier ↦
          let before = sum-one f g n i (omega arith) (λ k below. others k (omega arith)) in
          let same = others n (omega arith) (λ e. earlier (sym e)) in
          omega arith
    ]

pub sum-two :
    (f g : ℕ → ℕ) (n i j : ℕ) → i < j → j < n → ((k : ℕ) → k < n → k ≢ i → k ≢ j → g k ≡ f k)
    → sum_by g (range_with_len 0 n) + (f i + f j) ≡ sum_by f (range_with_len 0 n) + (g i + g j)
sum-two f g zero i j less within others = absurd (omega arith)
sum-two f g (suc n) i j less within others =
    let upto_f = sum_by-range_suc f n in
    let upto_g = sum_by-range_suc g n in
    elim (cases_eq j n) [
      | inl last ↦
          let before = sum-one f g n i (omega arith) (λ k below apart. others k (omega arith) apart (λ e. absurd (omega arith))) in
          let here_f : f j ≡ f n = ap f last in
          let here_g : g j ≡ g n = ap g last in
          omega arith
      | inr earlier ↦
          let before = sum-two f g n i j less (omega arith) (λ k below. others k (omega arith)) in
          let same = others n (omega arith) (λ e. absurd (omega arith)) (λ e. earlier (sym e)) in
          omega arith
    ]
