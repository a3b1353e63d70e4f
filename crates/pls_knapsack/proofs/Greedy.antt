-- The greedy fill, one item of its order after another.
use Rattle.std.proofs.Common.{◌≡◌, ℕ, ◌+◌, ◌-◌, ◌*◌, ◌/◌, ◌%◌, ◌^◌, ◌<◌, ◌≤◌, ◌==◌, true, false, if◌then◌else◌, nat_lt, List, length, slice_index, drop, replicate, suc, zero, add-one, refl, ap, sym, ◌∙◌, arith, [], ◌∷◌}
use Rattle.std.specs.List.{range_with_len, list_all}
use Rattle.std.specs.Int.{bit_at}
use Rattle.std.proofs.lemmas.Bool.{lt-ltb, le-leb, cond_both}
use Rattle.std.proofs.lemmas.List.{length-replicate, drop_more, drop_all}
use Rattle.std.proofs.lemmas.Nat.{pow_pos}
use Rattle.std.proofs.lemmas.Nat.Bits.{bit_at-zero}
use Rattle.pls_vectors.specs.Solution.{Solution, chosen, with_item, no_items}
use Rattle.pls_knapsack.specs.declared.knapsack.tally.Tally.{Tally}
use Rattle.pls_knapsack.specs.Instance.{Instance, profit, weight, sum_of_chosen, fits, no_other_bit, feasible, filled, greedy}
use Rattle.pls_knapsack.specs.Walk.{IsTally}
use Rattle.pls_vectors.proofs.Ranges.{list_all-range}
use Rattle.pls_knapsack.proofs.Tables.{zeros-at}
use Rattle.pls_knapsack.proofs.Tallies.{feasible-fits, sum_of_chosen-no}

-- nothing is chosen at first
pub chosen-no_items : (n i : ℕ) → chosen (no_items n) i ≡ false
chosen-no_items n i =
    let none : bit_at (slice_index (replicate 32 0) (i / 64)) (i % 64) ≡ 0 =
    ap (λ word. bit_at word (i % 64)) (zeros-at 32 (i / 64)) ∙ bit_at-zero (i % 64) in
    ap (λ bit. bit == 1) none

sum_of_chosen-no_items : (m n : ℕ) (amount : ℕ → ℕ) → sum_of_chosen n (no_items m) amount ≡ 0
sum_of_chosen-no_items m zero amount = refl
sum_of_chosen-no_items m (suc n) amount =
    ap (λ x. sum_of_chosen x (no_items m) amount) (sym (add-one n))
    ∙ (sum_of_chosen-no n (no_items m) amount (chosen-no_items m n) ∙ sum_of_chosen-no_items m n amount)

no_other_bit-no_items : (places n : ℕ) → list_all (λ j. nat_lt (slice_index (replicate 32 0) j) (2 ^ (n - 64 * j))) (range_with_len 0 places) ≡ true
no_other_bit-no_items places n =
    list_all-range _ places (λ j _. lt-ltb _ _ (rw zeros-at (pow_pos (n - 64 * j))))

feasible-no_items : (k : Instance) → feasible k (no_items k.items) ≡ true
unfolding no_other_bit fits
feasible-no_items k =
    feasible-fits k (no_items k.items) refl (no_other_bit-no_items 32 k.items)
    ∙ list_all-range _ k.rules (λ row _.
    let none = sum_of_chosen-no_items k.items k.items (weight k row) in
    le-leb _ _ (omega arith))

-- the tally of nothing
pub IsTally-no_items :
    (k : Instance) (t : Tally) → t.sol ≡ no_items k.items → t.values ≡ replicate 4 0
    → ((row : ℕ) → slice_index t.rooms row ≡ slice_index k.capacities row) → IsTally k t
IsTally-no_items k t sol values rooms =
    let none = λ (amount : ℕ → ℕ).
    ap (λ (s : Solution). sum_of_chosen k.items s amount) sol ∙ sum_of_chosen-no_items k.items k.items amount in
    record {
      stored = ap (λ (s : Solution). length s.words) sol ∙ length-replicate {A = ℕ} 32 0;
      feasible = ap (λ (s : Solution). feasible k s) sol ∙ feasible-no_items k;
      values = λ row _. ap (λ sums. slice_index sums row) values ∙ (zeros-at 4 row ∙ sym (none (profit k row)));
      rooms = λ row _. omega (arith, rooms row, none (weight k row));
    }

pub filled-start : (k : Instance) (s : Solution) (order : List ℕ) → s ≡ no_items k.items → filled k s order ≡ greedy k order
unfolding greedy
filled-start k s order e = ap (λ (s : Solution). filled k s order) e

-- one more item of the order
filled-more :
    (k : Instance) (s : Solution) (order : List ℕ) (i : ℕ) → i < length order
    → filled k s (drop i order)
    ≡ filled k (if feasible k (with_item s (slice_index order i) true) then with_item s (slice_index order i) true else s) (drop (i + 1) order)
unfolding filled
filled-more k s order i below = ap (λ rest. filled k s rest) (drop_more order i 0 below)

pub filled-takes :
    (k : Instance) (s : Solution) (order : List ℕ) (i : ℕ) → i < length order
    → feasible k (with_item s (slice_index order i) true) ≡ true
    → filled k (with_item s (slice_index order i) true) (drop (i + 1) order) ≡ filled k s (drop i order)
filled-takes k s order i below holds =
    sym (filled-more k s order i below
    ∙ ap (λ b. filled k (if b then with_item s (slice_index order i) true else s) (drop (i + 1) order)) holds)

pub filled-passes :
    (k : Instance) (s : Solution) (order : List ℕ) (i : ℕ) → i < length order
    → feasible k (with_item s (slice_index order i) true) ≡ false
    → filled k s (drop (i + 1) order) ≡ filled k s (drop i order)
filled-passes k s order i below fails =
    sym (filled-more k s order i below
    ∙ ap (λ b. filled k (if b then with_item s (slice_index order i) true else s) (drop (i + 1) order)) fails)

pub filled-end : (k : Instance) (s : Solution) (order : List ℕ) (i : ℕ) → length order ≤ i → filled k s (drop i order) ≡ s
unfolding filled
filled-end k s order i past = ap (λ rest. filled k s rest) (drop_all i order past)

-- a greedy fill stays feasible
pub filled-feasible : (k : Instance) (s : Solution) (order : List ℕ) → feasible k s ≡ true → feasible k (filled k s order) ≡ true
unfolding filled
filled-feasible k s [] fits = fits
filled-feasible k s (item ∷ order) fits =
    filled-feasible k (if feasible k (with_item s item true) then with_item s item true else s) order
    (cond_both (feasible k (with_item s item true)) (with_item s item true) s (λ q. feasible k q ≡ true) (λ taken. taken) (λ left. fits))

pub greedy-feasible : (k : Instance) (order : List ℕ) → feasible k (greedy k order) ≡ true
unfolding greedy
greedy-feasible k order = filled-feasible k (no_items k.items) order (feasible-no_items k)
