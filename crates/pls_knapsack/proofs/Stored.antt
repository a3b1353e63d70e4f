-- How an instance is stored: what stands in the fields is the instance.
use Rattle.std.proofs.Common.{◌≡◌, ℕ, ◌-◌, ◌+◌, ◌*◌, ◌<◌, ◌++◌, List, [], length, map, take, replicate, slice_index, ap, sym, ◌∙◌, subst, refl, arith}
use Rattle.std.proofs.Math.ListN.{get_or-map}
use Rattle.std.proofs.Math.Seq.{take-append_seam}
use Rattle.std.proofs.lemmas.List.{get_or_default, length-map}
use Rattle.pls_knapsack.specs.declared.knapsack.amounts.Amounts.{Amounts}
use Rattle.pls_knapsack.specs.declared.knapsack.Knapsack.TheInside.{Inside}
use Rattle.pls_knapsack.specs.Instance.{Instance, IsWithinLimits}
use Rattle.pls_knapsack.specs.Stored.{instance_in, IsStored}
use Rattle.pls_knapsack.specs.Table.{no_amounts, item_at, IsTableOf, by_rows}
use Rattle.pls_knapsack.proofs.Tables.{by_rows-is, padded-at}

-- what is stored of an instance
pub record Stores (k : Inside) (i : Instance) : Type 0 where
  pub items : k.items ≡ i.items
  pub objectives : k.objectives ≡ i.objectives
  pub rules : k.rules ≡ i.rules
  pub capacities : k.capacities ≡ i.capacities ++ replicate (8 - length i.capacities) 0
  pub table : IsTableOf i.items i.items i.profits i.weights k.table.items

module _ (k : Inside) (i : Instance) (limits : IsWithinLimits i) (stores : Stores k i) where
  rows-in :
      (field : Amounts → List ℕ) (rows : ℕ) (xs : List ℕ) → length xs ≡ rows * i.items
      → ((row item : ℕ) → row < rows → item < i.items → slice_index (field (item_at k.table.items item)) row ≡ slice_index xs (row * i.items + item))
      → by_rows rows (map field k.table.items) ≡ xs
  rows-in field rows xs long at =
      let many : length (map field k.table.items) ≡ i.items = length-map k.table.items field ∙ stores.table.long in
      let column = λ (item : ℕ) (below : item < i.items).
      get_or_default (map field k.table.items) item [] (field no_amounts) (omega arith)
      ∙ get_or-map field k.table.items item no_amounts in
      by_rows-is rows i.items (map field k.table.items) xs many long
      (λ row item r below. ap (λ (c : List ℕ). slice_index c row) (column item below) ∙ at row item r below)

  -- it is that instance
  pub instance_in-stored : instance_in k ≡ i
  instance_in-stored =
      let profits =
      rows-in (λ x. x.profits) i.objectives i.profits limits.profit_rows
      (λ row item r below. stores.table.in_profits row item (let few = limits.few_objectives in omega arith) below) in
      let weights =
      rows-in (λ x. x.weights) i.rules i.weights limits.weight_rows
      (λ row item r below. stores.table.in_weights row item (let few = limits.few_rules in omega arith) below) in
      let capacities : take (length i.capacities) k.capacities ≡ i.capacities =
      ap (λ (xs : List ℕ). take (length i.capacities) xs) stores.capacities ∙ take-append_seam i.capacities _ in
      let long = limits.capacity_list in
      rw (stores.items, stores.objectives, stores.rules, profits, weights, ← long, capacities) refl

  pub IsStored-stored : IsStored k
  IsStored-stored =
      let is = instance_in-stored in
      record {
        limits = subst IsWithinLimits (sym is) limits;
        table = subst (λ (j : Instance). IsTableOf k.items k.items j.profits j.weights k.table.items) (sym is) (rw stores.items stores.table);
        capacities = λ row.
            ap (λ (xs : List ℕ). slice_index xs row) stores.capacities
            ∙ (padded-at i.capacities _ row ∙ ap (λ (j : Instance). slice_index j.capacities row) (sym is));
      }
