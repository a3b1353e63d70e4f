-- The edges of a list stand in the order of the pairs of cities.
use Rattle.std.proofs.Common.{◌≡◌, ℕ, ◌+◌, ◌-◌, ◌*◌, ◌/◌, ◌<◌, ◌∷◌, ◌++◌, map, suc, zero, refl, ap, sym, ◌∙◌, arith}
use Rattle.std.specs.List.{range_with_len, flat_map}
use Rattle.std.proofs.lemmas.List.{map-append}
use Rattle.pls_perms.specs.Permutation.{pairs_with, pairs}
use Rattle.pls_perms.specs.Tour.{edge_count, place_of}
use Rattle.pls_perms.proofs.Places.{below, begins-is, edge_count-is}
use Rattle.pls_perms.proofs.TourValues.{place_of-first}

-- where the edges of city a to later ones begin
begins : ℕ → ℕ → ℕ
begins n a = a * (2 * n - a - 1) / 2

range-append : (a m n b : ℕ) → a + m ≡ b → range_with_len a m ++ range_with_len b n ≡ range_with_len a (m + n)
range-append a zero n b end =
    let start : range_with_len b n ≡ range_with_len a n = ap (λ x. range_with_len x n) (let e : b ≡ a = omega arith in e) in
    start ∙ ap (λ x. range_with_len a x) (let e : n ≡ 0 + n = omega arith in e)
range-append a (suc m) n b end =
    ap (λ xs. a ∷ xs) (range-append (a + 1) m n b (omega arith)) ∙ ap (λ x. range_with_len a x) (let e : suc (m + n) ≡ suc m + n = omega arith in e)

-- the edges of a city to later ones
places-row :
    (n a b t m : ℕ) → a < b → begins n a + (b - a - 1) ≡ t
    → map {A = ℕ × ℕ} (λ p. place_of n p.0 p.1) (map (λ k. (a, k)) (range_with_len b m)) ≡ range_with_len t m
unfolding begins
places-row n a b t zero order here = refl
places-row n a b t (suc m) order here =
    let first : place_of n a b ≡ t = place_of-first n a b order ∙ here in
    let rest = places-row n a (b + 1) (t + 1) m (omega arith) (omega arith) in
    cc

places-from :
    (n a c : ℕ) → a + c ≡ n
    → map {A = ℕ × ℕ} (λ p. place_of n p.0 p.1) (flat_map (λ i. pairs_with n i (i + 1)) (range_with_len a c)) ≡ range_with_len (begins n a) (below c)
unfolding begins below
places-from n a zero all = refl
places-from n a (suc c) all =
    let rest = places-from n (a + 1) c (omega arith) in
    let row = places-row n a (a + 1) (begins n a) (n - (a + 1)) (omega arith) (omega arith) in
    let long : n - (a + 1) ≡ c = omega arith in
    let here = begins-is a (suc c) n all in
    let next = begins-is (a + 1) c n (omega arith) in
    let end : begins n a + c ≡ begins n (a + 1) = omega arith in
    map-append {A = ℕ × ℕ} (λ p. place_of n p.0 p.1) (pairs_with n a (a + 1)) (flat_map (λ i. pairs_with n i (i + 1)) (range_with_len (a + 1) c))
    ∙ (ap (λ front. front ++ map {A = ℕ × ℕ} (λ p. place_of n p.0 p.1) (flat_map (λ i. pairs_with n i (i + 1)) (range_with_len (a + 1) c))) (row ∙ ap (λ m. range_with_len (begins n a) m) long)
    ∙ (ap (λ back. range_with_len (begins n a) c ++ back) rest
    ∙ (range-append (begins n a) c (below c) (begins n (a + 1)) end
    ∙ ap (λ m. range_with_len (begins n a) m) (let e : c + below c ≡ below c + c = omega arith in e))))

pub places-are_in_order : (n : ℕ) → map {A = ℕ × ℕ} (λ p. place_of n p.0 p.1) (pairs 0 n) ≡ range_with_len 0 (edge_count n)
unfolding pairs begins
places-are_in_order n =
    let all = places-from n 0 (n - 0) (omega arith) in
    let count : below (n - 0) ≡ edge_count n = ap below (let e : n - 0 ≡ n = omega arith in e) ∙ sym (edge_count-is n) in
    let start : begins n 0 ≡ 0 = omega arith in
    all ∙ (ap (λ m. range_with_len (begins n 0) m) count ∙ ap (λ a. range_with_len a (edge_count n)) start)
