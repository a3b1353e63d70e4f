-- Sums and tests over a range of numbers, one number further.
use Rattle.std.proofs.Common.{◌≡◌, ℕ, ◌+◌, ◌*◌, ◌<◌, ◌≤◌, Bool, true, false, ◌&&◌, [], ◌∷◌, ◌++◌, length, map, drop, suc, zero, zero-add, add-one, refl, ap, sym, ◌∙◌, inl, inr, arith}
use Rattle.std.specs.List.{range_with_len, sum_by, list_all}
use Rattle.std.proofs.lemmas.Bool.{cases_eq, and_parts, and_from}
use Rattle.std.proofs.lemmas.List.{map_push, drop_more, drop_all}
use Rattle.std.proofs.lemmas.List.FromFn.{length-range_with_len, get_or-range_with_len}
use Rattle.std.proofs.lemmas.List.Sums.{sum_by_push}
use Rattle.std.proofs.lemmas.List.Folds.{list_all-append}

-- one more number at the end of a range
pub range_with_len-suc : (a n b : ℕ) → a + n ≡ b → range_with_len a (suc n) ≡ range_with_len a n ++ b ∷ []
range_with_len-suc a zero b e = ap (λ x. x ∷ []) (omega arith)
range_with_len-suc a (suc n) b e = ap (λ xs. a ∷ xs) (range_with_len-suc (a + 1) n b (omega arith))

pub sum_by-range_suc : (f : ℕ → ℕ) (n : ℕ) → sum_by f (range_with_len 0 (suc n)) ≡ sum_by f (range_with_len 0 n) + f n
sum_by-range_suc f n = ap (λ xs. sum_by f xs) (range_with_len-suc 0 n n (omega arith)) ∙ sum_by_push f (range_with_len 0 n) n

and-true : (b : Bool) → (b && true) ≡ b
and-true true = refl
and-true false = refl

pub list_all-range_suc :
    (p : ℕ → Bool) (n : ℕ) → list_all p (range_with_len 0 (suc n)) ≡ (list_all p (range_with_len 0 n) && p n)
list_all-range_suc p n =
    ap (λ xs. list_all p xs) (range_with_len-suc 0 n n (omega arith))
    ∙ (list_all-append p (range_with_len 0 n) (n ∷ []) ∙ ap (λ b. list_all p (range_with_len 0 n) && b) (and-true (p n)))

-- the test of a range, one number further
pub list_all-range_more :
    (p : ℕ → Bool) (n : ℕ) (all here : Bool) → all ≡ list_all p (range_with_len 0 n) → here ≡ p n
    → (all && here) ≡ list_all p (range_with_len 0 (n + 1))
list_all-range_more p n all here before last =
    let both : (all && here) ≡ (list_all p (range_with_len 0 n) && p n) = cc in
    rw add-one (both ∙ sym (list_all-range_suc p n))

-- a test of each number of a range
pub list_all-range : (p : ℕ → Bool) (n : ℕ) → ((i : ℕ) → i < n → p i ≡ true) → list_all p (range_with_len 0 n) ≡ true
list_all-range p zero each = refl
list_all-range p (suc n) each =
    list_all-range_suc p n
    ∙ and_from _ _ (list_all-range p n (λ i below. each i (omega arith))) (each n (omega arith))

pub list_all-range_at : (p : ℕ → Bool) (n i : ℕ) → list_all p (range_with_len 0 n) ≡ true → i < n → p i ≡ true
list_all-range_at p zero i all below = absurd (omega arith)
list_all-range_at p (suc n) i all below =
    let both = and_parts _ _ (sym (list_all-range_suc p n) ∙ all) in
    elim (cases_eq i n) [
      | inl same ↦ ap p same ∙ both.1
      | inr other ↦ list_all-range_at p n i both.0 (omega arith)
    ]

-- what is the same at each number of a range
pub list_all-range_same :
    (p q : ℕ → Bool) (n : ℕ) → ((i : ℕ) → i < n → p i ≡ q i)
    → list_all p (range_with_len 0 n) ≡ list_all q (range_with_len 0 n)
list_all-range_same p q zero each = refl
list_all-range_same p q (suc n) each =
    let before = list_all-range_same p q n (λ i below. each i (omega arith)) in
    let last = each n (omega arith) in
    let both : (list_all p (range_with_len 0 n) && p n) ≡ (list_all q (range_with_len 0 n) && q n) = cc in
    list_all-range_suc p n ∙ (both ∙ sym (list_all-range_suc q n))

-- a longer range, of which the rest passes
pub list_all-range_longer :
    (p : ℕ → Bool) (m n : ℕ) → m ≤ n → ((i : ℕ) → m ≤ i → i < n → p i ≡ true)
    → list_all p (range_with_len 0 n) ≡ list_all p (range_with_len 0 m)
list_all-range_longer p m zero short rest = let none : m ≡ 0 = omega arith in ap (λ n. list_all p (range_with_len 0 n)) (sym none)
list_all-range_longer p m (suc n) short rest =
    elim (cases_eq m (suc n)) [
      | inl same ↦ ap (λ n. list_all p (range_with_len 0 n)) (sym same)
      | inr other ↦
          list_all-range_suc p n
          ∙ (ap (λ b. list_all p (range_with_len 0 n) && b) (rest n (omega arith) (omega arith))
          ∙ (and-true _ ∙ list_all-range_longer p m n (omega arith) (λ i past below. rest i past (omega arith))))
    ]

pub sum_by-range_same :
    (f g : ℕ → ℕ) (n : ℕ) → ((i : ℕ) → i < n → f i ≡ g i) → sum_by f (range_with_len 0 n) ≡ sum_by g (range_with_len 0 n)
sum_by-range_same f g zero each = refl
sum_by-range_same f g (suc n) each =
    omega (arith, sum_by-range_suc f n, sum_by-range_suc g n, sum_by-range_same f g n (λ i below. each i (omega arith)), each n (omega arith))

pub sum_by-range_le :
    (f : ℕ → ℕ) (n m : ℕ) → ((i : ℕ) → i < n → f i ≤ m) → sum_by f (range_with_len 0 n) ≤ n * m
sum_by-range_le f zero m each = omega arith
sum_by-range_le f (suc n) m each =
    omega (arith, sum_by-range_suc f n, sum_by-range_le f n m (λ i below. each i (omega arith)), each n (omega arith))

map-range_suc :
    {X : Type 0} (f : ℕ → X) (n : ℕ) → map f (range_with_len 0 (suc n)) ≡ map f (range_with_len 0 n) ++ f n ∷ []
map-range_suc f n = ap (λ xs. map f xs) (range_with_len-suc 0 n n (omega arith)) ∙ map_push f (range_with_len 0 n) n

pub map-range_same :
    {X : Type 0} (f g : ℕ → X) (n : ℕ) → ((i : ℕ) → i < n → f i ≡ g i)
    → map f (range_with_len 0 n) ≡ map g (range_with_len 0 n)
map-range_same f g zero each = refl
map-range_same f g (suc n) each =
    let before = map-range_same f g n (λ i below. each i (omega arith)) in
    let last = each n (omega arith) in
    let both : (map f (range_with_len 0 n) ++ f n ∷ []) ≡ (map g (range_with_len 0 n) ++ g n ∷ []) = cc in
    map-range_suc f n ∙ (both ∙ sym (map-range_suc g n))

-- what is left of a range from i on
pub drop-range : (n i : ℕ) → i < n → drop i (range_with_len 0 n) ≡ i ∷ drop (i + 1) (range_with_len 0 n)
drop-range n i below =
    let within : i < length (range_with_len 0 n) = rw length-range_with_len below in
    drop_more (range_with_len 0 n) i 0 within
    ∙ ap (λ x. x ∷ drop (i + 1) (range_with_len 0 n)) (get_or-range_with_len 0 n i 0 below ∙ zero-add i)

pub drop-range_end : (n i : ℕ) → n ≤ i → drop i (range_with_len 0 n) ≡ []
drop-range_end n i past = drop_all i (range_with_len 0 n) (rw length-range_with_len past)
