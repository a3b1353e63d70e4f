-- The length of a closed tour, and what a reversal of a stretch changes of it.
use Rattle.std.proofs.Common.{◌≡◌, ℕ, ◌+◌, ◌-◌, ◌%◌, ◌<◌, ◌≤◌, suc, ap, sym, ◌∙◌, inl, inr, arith}
use Rattle.std.proofs.Math.Nat.{mod_self, mod-eq_of_lt}
use Rattle.std.proofs.lemmas.Bool.{cases_lt}
use Rattle.pls_perms.proofs.Stretches.{sum_from, sum_from-first, sum_from-split, sum_from-same, sum_from-backwards}

-- the place after place i of n, which is 0 after the last
pub next-last : (n i : ℕ) → i + 1 ≡ n → (i + 1) % n ≡ 0
next-last n i last = ap (λ m. m % n) last ∙ mod_self n

pub next-inner : (n i : ℕ) → i + 1 < n → (i + 1) % n ≡ i + 1
next-inner n i inner = mod-eq_of_lt inner

-- the edge from the entry at a place to the one after it
abbrev pub step : (ℕ → ℕ → ℕ) → (ℕ → ℕ) → ℕ → ℕ → ℕ
step e p n i = e (p i) (p ((i + 1) % n))

-- the length of the closed tour through the first n entries
abbrev pub closed : (ℕ → ℕ → ℕ) → (ℕ → ℕ) → ℕ → ℕ
closed e p n = sum_from (step e p n) 0 n

-- the entries q are the entries p with those from i to j the other way round
pub record Reverses (p q : ℕ → ℕ) (i j : ℕ) : Type 0 where
  pub within : (k l : ℕ) → i ≤ k → i ≤ l → k + l ≡ i + j → q k ≡ p l
  pub before : (k : ℕ) → k < i → q k ≡ p k
  pub beyond : (k : ℕ) → j < k → q k ≡ p k

-- a sum around two places
sum_around :
    (f : ℕ → ℕ) (h i m j r n : ℕ) → h + 1 ≡ i → i + m ≡ j → j + 1 + r ≡ n
    → sum_from f 0 n ≡ sum_from f 0 h + (f h + (sum_from f i m + (f j + sum_from f (j + 1) r)))
sum_around f h i m j r n is_i is_j is_n =
    let whole : sum_from f 0 n ≡ sum_from f 0 (h + suc (m + suc r)) = ap (λ b. sum_from f 0 b) (let e : n ≡ h + suc (m + suc r) = omega arith in e) in
    let first = sum_from-split f 0 h (suc (m + suc r)) in
    let from_h : sum_from f (0 + h) (suc (m + suc r)) ≡ sum_from f h (suc (m + suc r)) = ap (λ a. sum_from f a (suc (m + suc r))) (let e : 0 + h ≡ h = omega arith in e) in
    let second = sum_from-first f h (m + suc r) in
    let from_i : sum_from f (h + 1) (m + suc r) ≡ sum_from f i (m + suc r) = ap (λ a. sum_from f a (m + suc r)) is_i in
    let third = sum_from-split f i m (suc r) in
    let from_j : sum_from f (i + m) (suc r) ≡ sum_from f j (suc r) = ap (λ a. sum_from f a (suc r)) is_j in
    let fourth = sum_from-first f j r in
    omega arith

module _ (e : ℕ → ℕ → ℕ) (symmetric : (a b : ℕ) → e a b ≡ e b a) (p q : ℕ → ℕ) (h i m j r n : ℕ) (is_i : h + 1 ≡ i) (is_j : i + m ≡ j) (is_n : j + 1 + r ≡ n) (reverses : Reverses p q i j) where
  -- the place after one past the stretch is not in it
  kept_after : (k : ℕ) → j ≤ k → k < n → q ((k + 1) % n) ≡ p ((k + 1) % n)
  kept_after k past below =
      elim (cases_lt (k + 1) n) [
        | inl inner ↦ ap q (next-inner n k inner) ∙ (reverses.beyond (k + 1) (omega arith) ∙ ap p (sym (next-inner n k inner)))
        | inr last ↦
            let end = next-last n k (omega arith) in
            ap q end ∙ (reverses.before 0 (omega arith) ∙ ap p (sym end))
      ]

  step_before : (k : ℕ) → k < h → step e q n k ≡ step e p n k
  step_before k below =
      let inner = next-inner n k (omega arith) in
      let here = reverses.before k (omega arith) in
      let next : q ((k + 1) % n) ≡ p ((k + 1) % n) = ap q inner ∙ (reverses.before (k + 1) (omega arith) ∙ ap p (sym inner)) in
      cc

  step_past : (k : ℕ) → j + 1 ≤ k → k < (j + 1) + r → step e q n k ≡ step e p n k
  step_past k least below =
      let here = reverses.beyond k (omega arith) in
      let next = kept_after k (omega arith) (omega arith) in
      cc

  step_within : (k l : ℕ) → i ≤ k → i ≤ l → k + l + 1 ≡ i + i + m → step e q n k ≡ step e p n l
  step_within k l least least' both =
      let next_k = ap q (next-inner n k (omega arith)) in
      let next_l = ap p (next-inner n l (omega arith)) in
      let here = reverses.within k (l + 1) least (omega arith) (omega arith) in
      let next = reverses.within (k + 1) l (omega arith) least' (omega arith) in
      let turned = symmetric (p (l + 1)) (p l) in
      cc

  -- what a reversal changes: two edges go and two come
  pub closed-reversed :
      closed e q n + (e (p h) (p i) + e (p j) (p ((j + 1) % n))) ≡ closed e p n + (e (p h) (p j) + e (p i) (p ((j + 1) % n)))
  closed-reversed =
      let around_q = sum_around (step e q n) h i m j r n is_i is_j is_n in
      let around_p = sum_around (step e p n) h i m j r n is_i is_j is_n in
      let front = sum_from-same (step e q n) (step e p n) 0 h (λ k _ below. step_before k (omega arith)) in
      let middle = sum_from-backwards (step e q n) (step e p n) i m step_within in
      let back = sum_from-same (step e q n) (step e p n) (j + 1) r step_past in
      let next_h : (h + 1) % n ≡ i = next-inner n h (omega arith) ∙ is_i in
      let in_p : step e p n h ≡ e (p h) (p i) = ap (λ x. e (p h) (p x)) next_h in
      let q_h = reverses.before h (omega arith) in
      let q_i = reverses.within i j (omega arith) (omega arith) (omega arith) in
      let q_j = reverses.within j i (omega arith) (omega arith) (omega arith) in
      let q_next = kept_after j (omega arith) (omega arith) in
      let in_q : step e q n h ≡ e (p h) (p j) = ap (λ x. e (q h) (q x)) next_h ∙ (let both : e (q h) (q i) ≡ e (p h) (p j) = cc in both) in
      let out_q : step e q n j ≡ e (p i) (p ((j + 1) % n)) = cc in
      omega arith

-- a sum over the entries does not change with their order in a stretch
pub sum-reversed :
    (f : ℕ → ℕ) (p q : ℕ → ℕ) (i j n : ℕ) → i ≤ j → j < n → Reverses p q i j
    → sum_from (λ k. f (q k)) 0 n ≡ sum_from (λ k. f (p k)) 0 n
sum-reversed f p q i j n order inside reverses =
    let fq = λ (k : ℕ). f (q k) in
    let fp = λ (k : ℕ). f (p k) in
    let m = j - i in
    let r = n - (j + 1) in
    let parts = sum_in_three fq i m r n (omega arith) in
    let parts' = sum_in_three fp i m r n (omega arith) in
    let front = sum_from-same fq fp 0 i (λ k _ below. ap f (reverses.before k (omega arith))) in
    let middle = sum_from-backwards fq fp i (suc m) (λ k l least least' both. ap f (reverses.within k l least least' (omega arith))) in
    let back = sum_from-same fq fp (i + suc m) r (λ k least _. ap f (reverses.beyond k (omega arith))) in
    omega arith
  where
    sum_in_three : (g : ℕ → ℕ) (i m r n : ℕ) → i + (suc m + r) ≡ n → sum_from g 0 n ≡ sum_from g 0 i + (sum_from g i (suc m) + sum_from g (i + suc m) r)
    sum_in_three g i m r n is =
        let whole : sum_from g 0 n ≡ sum_from g 0 (i + (suc m + r)) = ap (λ b. sum_from g 0 b) (sym is) in
        let first = sum_from-split g 0 i (suc m + r) in
        let from_i : sum_from g (0 + i) (suc m + r) ≡ sum_from g i (suc m + r) = ap (λ a. sum_from g a (suc m + r)) (let e : 0 + i ≡ i = omega arith in e) in
        let second = sum_from-split g i (suc m) r in
        omega arith

-- a reversal of all places but the first keeps the length
pub closed-reversed_whole :
    (e : ℕ → ℕ → ℕ) (p q : ℕ → ℕ) (n : ℕ) → ((a b : ℕ) → e a b ≡ e b a) → 2 ≤ n → Reverses p q 1 (n - 1) → closed e q n ≡ closed e p n
closed-reversed_whole e p q n symmetric some reverses =
    let j = n - 1 in
    let changed = closed-reversed e symmetric p q 0 1 (n - 2) j 0 n (omega arith) (omega arith) (omega arith) reverses in
    let end : e (p j) (p ((j + 1) % n)) ≡ e (p 0) (p j) = ap (λ x. e (p j) (p x)) (next-last n j (omega arith)) ∙ symmetric (p j) (p 0) in
    let begin : e (p 1) (p ((j + 1) % n)) ≡ e (p 0) (p 1) = ap (λ x. e (p 1) (p x)) (next-last n j (omega arith)) ∙ symmetric (p 1) (p 0) in
    omega arith
