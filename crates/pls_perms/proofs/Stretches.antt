-- Sums over a stretch of numbers: split, the same, and read backwards.
use Rattle.std.proofs.Common.{◌≡◌, ℕ, ◌+◌, ◌*◌, ◌<◌, ◌≤◌, slice_index, replicate, suc, zero, refl, ap, inl, inr, arith}
use Rattle.std.specs.List.{range_with_len, sum_by}
use Rattle.std.proofs.lemmas.Bool.{cases_lt}
use Rattle.std.proofs.lemmas.List.{get_or_past, get_or-replicate, length-replicate}
use Rattle.std.proofs.lemmas.List.Sums.{sum_by-cons}

-- the sum of f over the m numbers from a on
abbrev pub sum_from : (ℕ → ℕ) → ℕ → ℕ → ℕ
sum_from f a m = sum_by f (range_with_len a m)

pub sum_from-first : (f : ℕ → ℕ) (a m : ℕ) → sum_from f a (suc m) ≡ f a + sum_from f (a + 1) m
sum_from-first f a m = sum_by-cons f a (range_with_len (a + 1) m)

pub sum_from-split : (f : ℕ → ℕ) (a m n : ℕ) → sum_from f a (m + n) ≡ sum_from f a m + sum_from f (a + m) n
sum_from-split f a zero n =
    let begins : sum_from f (a + 0) n ≡ sum_from f a n = ap (λ b. sum_from f b n) (let e : a + 0 ≡ a = omega arith in e) in
    let same : sum_from f a (0 + n) ≡ sum_from f a n = ap (λ b. sum_from f a b) (let e : 0 + n ≡ n = omega arith in e) in
    omega arith
sum_from-split f a (suc m) n =
    let count : sum_from f a (suc m + n) ≡ sum_from f a (suc (m + n)) = ap (λ b. sum_from f a b) (let e : suc m + n ≡ suc (m + n) = omega arith in e) in
    let begins : sum_from f (a + suc m) n ≡ sum_from f ((a + 1) + m) n = ap (λ b. sum_from f b n) (let e : a + suc m ≡ (a + 1) + m = omega arith in e) in
    let whole = sum_from-first f a (m + n) in
    let front = sum_from-first f a m in
    let rest = sum_from-split f (a + 1) m n in
    omega arith

pub sum_from-last : (f : ℕ → ℕ) (a m : ℕ) → sum_from f a (suc m) ≡ sum_from f a m + f (a + m)
sum_from-last f a m =
    let count : sum_from f a (suc m) ≡ sum_from f a (m + 1) = ap (λ b. sum_from f a b) (let e : suc m ≡ m + 1 = omega arith in e) in
    let split = sum_from-split f a m 1 in
    let one = sum_from-first f (a + m) zero in
    let nothing : sum_from f ((a + m) + 1) 0 ≡ 0 = refl in
    omega arith

pub sum_from-same :
    (f g : ℕ → ℕ) (a m : ℕ) → ((k : ℕ) → a ≤ k → k < a + m → f k ≡ g k) → sum_from f a m ≡ sum_from g a m
sum_from-same f g a zero each = refl
sum_from-same f g a (suc m) each =
    let rest = sum_from-same f g (a + 1) m (λ k least below. each k (omega arith) (omega arith)) in
    let here = each a (omega arith) (omega arith) in
    let front_f = sum_from-first f a m in
    let front_g = sum_from-first g a m in
    omega arith

-- one more number in a sum that was kept
pub sum_from-more :
    (f : ℕ → ℕ) (i before x after : ℕ) → before ≡ sum_from f 0 i → x ≡ f i → after ≡ before + x → after ≡ sum_from f 0 (i + 1)
sum_from-more f i before x after sum here more =
    let last = sum_from-last f 0 i in
    let place : f (0 + i) ≡ f i = ap f (let e : 0 + i ≡ i = omega arith in e) in
    let count : sum_from f 0 (i + 1) ≡ sum_from f 0 (suc i) = ap (λ m. sum_from f 0 m) (let e : i + 1 ≡ suc i = omega arith in e) in
    omega arith

-- a stretch read backwards has the same sum
pub sum_from-backwards :
    (f g : ℕ → ℕ) (a m : ℕ) → ((k l : ℕ) → a ≤ k → a ≤ l → k + l + 1 ≡ a + a + m → f k ≡ g l) → sum_from f a m ≡ sum_from g a m
sum_from-backwards f g a m each = backwards f g a a m (λ k l least least' both. each k l least least' (omega arith))
  where
    backwards :
        (f g : ℕ → ℕ) (a b m : ℕ) → ((k l : ℕ) → a ≤ k → b ≤ l → k + l + 1 ≡ a + b + m → f k ≡ g l) → sum_from f a m ≡ sum_from g b m
    backwards f g a b zero each = refl
    backwards f g a b (suc m) each =
        let rest = backwards f g (a + 1) b m (λ k l least least' both. each k l (omega arith) (omega arith) (omega arith)) in
        let here = each a (b + m) (omega arith) (omega arith) (omega arith) in
        let front = sum_from-first f a m in
        let back = sum_from-last g b m in
        omega arith

-- a sum of numbers that are at most m
pub sum_from-le : (f : ℕ → ℕ) (a n m : ℕ) → ((k : ℕ) → f k ≤ m) → sum_from f a n ≤ n * m
sum_from-le f a zero m small = omega arith
sum_from-le f a (suc n) m small =
    let rest = sum_from-le f (a + 1) n m small in
    let here = small a in
    let front = sum_from-first f a n in
    let product : suc n * m ≡ n * m + m = omega arith in
    omega arith

-- zeros at every place
pub zeros-at : (m i : ℕ) → slice_index (replicate m 0) i ≡ 0
zeros-at m i =
    elim (cases_lt i m) [
      | inl below ↦ get_or-replicate m i 0 0 below
      | inr past ↦ get_or_past (replicate m 0) i 0 (rw length-replicate past)
    ]
