-- The numbers of workers that are joined in order.
use Rattle.std.proofs.Common.{◌≡◌, ℕ, zero, suc, ◌+◌, ◌<◌, List, [], ◌∷◌, ◌++◌, length, ap, ap₂, sym, subst, ◌∙◌, arith, inl, inr}
use Rattle.std.specs.List.{range_with_len}
use Rattle.std.proofs.lemmas.List.FromFn.{length-range_with_len}
use Rattle.pls_vectors.proofs.Ranges.{range_with_len-suc}
use Rattle.pls_pool.specs.Accounts.{Apart, In}

below : (a n k : ℕ) → In k (range_with_len a n) → k < a + n
below a zero k there = absurd there
below a (suc n) k (inl is) = omega (arith, is)
below a (suc n) k (inr there) = omega (arith, below (a + 1) n k there)

not_last : (n k : ℕ) → k < n → In k (n ∷ []) → ⊥
not_last n k less (inl is) = absurd (omega (arith, is))
not_last n k less (inr there) = there

-- the first m of them, and the next one
module _ (m n : ℕ) (firsts next : List ℕ) (count : m ≡ n) (are : firsts ≡ range_with_len 0 m) (is : next ≡ n ∷ []) where
  pub numbers-apart : Apart firsts next
  numbers-apart k first other =
      let less = below 0 m k (subst (λ ks. In k ks) are first) in
      not_last n k (omega arith) (subst (λ ks. In k ks) is other)

  pub numbers-length : length firsts + length next ≡ n + 1
  numbers-length = omega (arith, ap length are, length-range_with_len 0 m, ap length is)

  pub numbers-joined : firsts ++ next ≡ range_with_len 0 (n + 1)
  numbers-joined =
      let one_more : suc n ≡ n + 1 = omega arith in
      ap₂ (λ (xs ys : List ℕ). xs ++ ys) (are ∙ ap (λ k. range_with_len 0 k) count) is
      ∙ (sym (range_with_len-suc 0 n n (omega arith)) ∙ ap (λ k. range_with_len 0 k) one_more)
