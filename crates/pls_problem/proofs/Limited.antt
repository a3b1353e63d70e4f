-- Instances that are made are within their limits.
use Rattle.std.proofs.Common.{◌≡◌, ◌≤◌, ◌*◌, ◌/◌, ◌%◌, ◌+◌, ◌++◌, ℕ, zero, suc, List, [], length, drop, refl, sym, ap, subst, arith}
use Rattle.std.specs.List.{All, range_with_len, sum}
use Rattle.std.proofs.lemmas.List.Elements.{All-cons, All-map, All-drop}
use Rattle.rand_core.specs.Stream.{Stream, next_u64}
use Rattle.pls_problem.specs.declared.kind.Kind.{Kind}
use Rattle.pls_problem.specs.declared.kind.Kind.TheVariants.{Knapsack, Assignment, Tour}
use Rattle.pls_problem.specs.declared.sizes.Sizes.{Sizes}
use Rattle.pls_problem.specs.Instance.{IsWithinLimits}
use Rattle.pls_problem.specs.Kinds.{instance_of}
use Rattle.pls_problem.specs.Made.{drawn, half_sums, made_capacities, made_from}
use Rattle.pls_problem.specs.Rows.{row_of}
use Rattle.pls_problem.specs.Sizes.{AreWithinLimits, AreNumbersOf, amount_count, capacities_for, in_text}
use Rattle.pls_problem.proofs.Making.{numbers_made, sum_of_row}
use Rattle.pls_problem.proofs.Sizing.{knapsack-limits, knapsack-made, assignment-limits, assignment-made, tour-limits, tour-made}

-- numbers that the sizes call for make an instance within its limits
pub instance_of-limits :
    (s : Sizes) (capacities amounts : List ℕ) → AreWithinLimits s → AreNumbersOf s capacities amounts
    → (kind : Kind) → s.kind ≡ kind → IsWithinLimits (instance_of s.kind (in_text s) (capacities ++ amounts))
instance_of-limits s capacities amounts sizes numbers Knapsack is =
    subst IsWithinLimits (knapsack-made s capacities amounts sizes numbers is) (knapsack-limits s capacities amounts sizes numbers is)
instance_of-limits s capacities amounts sizes numbers Assignment is =
    subst IsWithinLimits (assignment-made s capacities amounts sizes numbers is) (assignment-limits s capacities amounts sizes numbers is)
instance_of-limits s capacities amounts sizes numbers Tour is =
    subst IsWithinLimits (tour-made s capacities amounts sizes numbers is) (tour-limits s capacities amounts sizes numbers is)

drawn-many : (n : ℕ) (words : Stream) → length (drawn n words).0 ≡ n
unfolding drawn
drawn-many zero words = refl
drawn-many (suc n) words = ap suc (drawn-many n (next_u64 words).1)

drawn-small : (n : ℕ) (words : Stream) → All (λ x. x ≤ 100) (drawn n words).0
unfolding drawn
drawn-small zero words = λ k d inside. absurd (omega arith)
drawn-small (suc n) words =
    All-cons (λ x. x ≤ 100) (1 + (next_u64 words).0 % 100) (drawn n (next_u64 words).1).0 (omega arith) (drawn-small n (next_u64 words).1)

half_sums-small :
    (rules items : ℕ) (weights : List ℕ) → items ≤ 256 → All (λ x. x ≤ 100) weights → All (λ x. x ≤ 1000000000) (half_sums rules items weights)
half_sums-small rules items weights few small =
    All-map (λ x. x ≤ 1000000000) (λ row. sum (row_of items row weights) / 2) (range_with_len 0 rules)
    (λ k d inside. (let h = λ (row : ℕ). sum_of_row items row weights few small in half_of _ (h _)))
  where
    half_of : (n : ℕ) → n ≤ 25600 → n / 2 ≤ 1000000000
    half_of n few = omega arith

without_capacities :
    (s : Sizes) (amounts : List ℕ) → 0 ≡ capacities_for s.kind s.rules → length amounts ≡ amount_count s → All (λ x. x ≤ 100) amounts
    → AreNumbersOf s [] amounts
without_capacities s amounts none many small = record {
  capacity_list = none;
  amount_list = many;
  small_capacities = λ k d inside. absurd (omega arith);
  small_amounts = λ k d inside. (let h = small k d inside in omega arith);
}

pub made_from-limits : (s : Sizes) (words : Stream) → AreWithinLimits s → (kind : Kind) → s.kind ≡ kind → IsWithinLimits (made_from s words)
made_from-limits s words sizes kind is =
    let amounts = (drawn (amount_count s) words).0 in
    instance_of-limits s (made_capacities s.kind s.objectives s.size s.rules amounts) amounts sizes
    (subst (λ (c : List ℕ). AreNumbersOf s c amounts)
    (sym (ap (λ (k : Kind). made_capacities k s.objectives s.size s.rules amounts) is))
    (numbers kind is amounts (drawn-many (amount_count s) words) (drawn-small (amount_count s) words)))
    kind is
  where
    numbers :
        (k : Kind) → s.kind ≡ k → (amounts : List ℕ) → length amounts ≡ amount_count s → All (λ x. x ≤ 100) amounts
        → AreNumbersOf s (made_capacities k s.objectives s.size s.rules amounts) amounts
    numbers Knapsack same amounts many small =
        let weights = drop (s.objectives * s.size) amounts in
        numbers_made s (half_sums s.rules s.size weights) amounts weights same many small refl
        (half_sums-small s.rules s.size weights sizes.small_size (All-drop (λ x. x ≤ 100) (s.objectives * s.size) amounts small))
    numbers Assignment same amounts many small =
        without_capacities s amounts (ap (λ (k : Kind). capacities_for k s.rules) (sym same)) many small
    numbers Tour same amounts many small =
        without_capacities s amounts (ap (λ (k : Kind). capacities_for k s.rules) (sym same)) many small
