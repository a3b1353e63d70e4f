-- The places of edges in a list: how many there are, and which comes where.
use Rattle.std.proofs.Common.{◌≡◌, ℕ, ◌+◌, ◌-◌, ◌*◌, ◌/◌, ◌<◌, ◌≤◌, suc, zero, ap, sym, refl, arith}
use Rattle.pls_perms.specs.Tour.{edge_count, place_from}

-- the sum of the numbers below n
unfoldable pub below : ℕ → ℕ
below zero = 0
below (suc n) = below n + n

pub twice-below : (n : ℕ) → 2 * below n + n ≡ n * n
unfolding below
twice-below zero = refl
twice-below (suc n) = let before = twice-below n in omega arith

pub product-below : (n : ℕ) → n * (n - 1) + n ≡ n * n
product-below zero = refl
product-below (suc n) =
    let before : suc n * (suc n - 1) ≡ suc n * n = ap (λ m. suc n * m) (let e : suc n - 1 ≡ n = omega arith in e) in
    omega arith

-- so many pairs
pub edge_count-is : (n : ℕ) → edge_count n ≡ below n
edge_count-is n =
    let twice = twice-below n in
    let product = product-below n in
    omega arith

-- the pairs that begin with a number below a, and those of the c numbers from a on, are all
pub begins-is : (a c n : ℕ) → a + c ≡ n → a * (2 * n - a - 1) / 2 + below c ≡ below n
unfolding below
begins-is zero c n all = let same : below (0 + c) ≡ below n = ap below all in let count : below (0 + c) ≡ below c = ap below (let e : 0 + c ≡ c = omega arith in e) in omega arith
begins-is (suc a) c n all =
    let whole = twice-below n in
    let rest = twice-below c in
    let square : n * n ≡ (suc a + c) * (suc a + c) = ap (λ x. x * x) (sym all) in
    let factor : 2 * n - suc a - 1 ≡ a + 2 * c = omega arith in
    let product : suc a * (2 * n - suc a - 1) ≡ suc a * (a + 2 * c) = ap (λ x. suc a * x) factor in
    let twice : 2 * below n ≡ suc a * (2 * n - suc a - 1) + 2 * below c = omega arith in
    omega arith

-- the place of an edge is one of a list
pub place_from-below : (n a b : ℕ) → a < b → b < n → place_from n a b < edge_count n
unfolding below
place_from-below n a b order inside =
    let c = n - a - 1 in
    let all = begins-is a (suc c) n (omega arith) in
    let count : n * (n - 1) / 2 ≡ below n = edge_count-is n in
    omega arith

-- there are some
pub some_edges : (n : ℕ) → 3 ≤ n → 0 < edge_count n
some_edges n some =
    let last = place_from-below n 0 1 (omega arith) (omega arith) in
    omega arith
