-- The numbers of a made instance, one after another.
use Rattle.std.proofs.Common.{◌≡◌, ◌≤◌, ℕ, zero, suc, ◌+◌, ◌*◌, ◌/◌, ◌%◌, List, [], ◌∷◌, ◌++◌, length, drop, refl, ap, arith, add-one, zero-add, sym, ◌∙◌}
use Rattle.std.specs.List.{All, sum}
use Rattle.std.proofs.lemmas.List.Elements.{All-take, All-drop}
use Rattle.std.proofs.lemmas.List.FromFn.{map-range_with_len_more, length-map-range_with_len}
use Rattle.std.proofs.lemmas.List.Sums.{sum_by-le}
use Rattle.std.proofs.lemmas.List.{length-take}
use Rattle.rand_core.specs.Stream.{Stream, next_u64}
use Rattle.pls_problem.specs.Rows.{row_of}
use Rattle.pls_problem.specs.declared.kind.Kind.{Kind}
use Rattle.pls_problem.specs.declared.kind.Kind.TheVariants.{Knapsack}
use Rattle.pls_problem.specs.declared.sizes.Sizes.{Sizes}
use Rattle.pls_problem.specs.Made.{drawn, half_sums}
use Rattle.pls_problem.specs.Sizes.{AreNumbersOf, amount_count, capacities_for}

abbrev with_next : List ℕ × Stream → List ℕ × Stream
with_next some = (some.0 ++ (1 + (next_u64 some.1).0 % 100) ∷ [], (next_u64 some.1).1)

drawn-suc : (i : ℕ) (words : Stream) → drawn (suc i) words ≡ with_next (drawn i words)
unfolding drawn
drawn-suc zero words = refl
drawn-suc (suc i) words =
    ap (λ (others : List ℕ × Stream). ((1 + (next_u64 words).0 % 100) ∷ others.0, others.1)) (drawn-suc i (next_u64 words).1)

-- one more number
pub drawn-push :
    (i : ℕ) (words left left' : Stream) (numbers : List ℕ) (word : ℕ) → (numbers, left) ≡ drawn i words → (word, left') ≡ next_u64 left
    → (numbers ++ (1 + word % 100) ∷ [], left') ≡ drawn (i + 1) words
drawn-push i words left left' numbers word some one =
    ap (λ (next : ℕ × Stream). (numbers ++ (1 + next.0 % 100) ∷ [], next.1)) one
    ∙ (ap with_next some ∙ rw add-one (sym (drawn-suc i words)))

pub drawn-none : (words : Stream) → ([], words) ≡ drawn 0 words
unfolding drawn
drawn-none words = refl

-- the sum of a row
pub sum_of_row : (items row : ℕ) (weights : List ℕ) → items ≤ 256 → All (λ n. n ≤ 100) weights → sum (row_of items row weights) ≤ 25600
sum_of_row items row weights few small =
    let of_row = sum_by-le (λ x. x) 100 (row_of items row weights)
    (All-take (λ n. n ≤ 100) items (drop (row * items) weights) (All-drop (λ n. n ≤ 100) (row * items) weights small)) in
    omega (arith, of_row, length-take items (drop (row * items) weights))

pub half_sums-push :
    (row items : ℕ) (weights sums : List ℕ) (more : ℕ) → sums ≡ half_sums row items weights → more ≡ sum (row_of items row weights) / 2
    → sums ++ more ∷ [] ≡ half_sums (row + 1) items weights
half_sums-push row items weights sums more done next =
    ap (λ (xs : List ℕ). xs ++ more ∷ []) done
    ∙ (ap (λ (n : ℕ). half_sums row items weights ++ n ∷ []) next
    ∙ sym (map-range_with_len_more (λ r. sum (row_of items r weights) / 2) 0 row row (zero-add row)))

pub length-half_sums : (rules items : ℕ) (weights : List ℕ) → length (half_sums rules items weights) ≡ rules
length-half_sums rules items weights = length-map-range_with_len (λ r. sum (row_of items r weights) / 2) 0 rules

-- the numbers of a knapsack that is made
pub numbers_made :
    (s : Sizes) (capacities amounts weights : List ℕ) → s.kind ≡ Knapsack → length amounts ≡ amount_count s → All (λ n. n ≤ 100) amounts
    → capacities ≡ half_sums s.rules s.size weights → All (λ n. n ≤ 1000000000) capacities → AreNumbersOf s capacities amounts
numbers_made s capacities amounts weights is many small halves small_halves = record {
  capacity_list =
      ap (λ (xs : List ℕ). length xs) halves
      ∙ (length-half_sums s.rules s.size weights ∙ ap (λ (k : Kind). capacities_for k s.rules) (sym is));
  amount_list = many;
  small_capacities = small_halves;
  small_amounts = λ k d inside. (let h = small k d inside in omega arith);
}
