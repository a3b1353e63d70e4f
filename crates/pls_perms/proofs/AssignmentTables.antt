-- How an assignment is stored.
use Rattle.std.proofs.Common.{◌≡◌, ℕ, ◌+◌, ◌*◌, ◌<◌, ◌≤◌, List, slice_index, ap, sym, ◌∙◌, subst, arith}
use Rattle.std.proofs.Math.Nat.{mul-le-mul_right}
use Rattle.pls_perms.specs.declared.assignment.Assignment.TheInside.{Inside}
use Rattle.pls_perms.specs.Assignment.{AssignmentInstance, IsWithinLimits, cost, instance_from}
use Rattle.pls_perms.specs.AssignmentWalk.{instance_in, IsStored}
use Rattle.pls_perms.specs.Table.{numbers_at, IsTableOf}
use Rattle.pls_perms.proofs.Tables.{by_lists-is}

-- the place of a row and a column in each matrix
pub cost-at :
    (k : Inside) → IsStored k → (matrix row column : ℕ) → matrix < 4 → row < k.agents → column < k.agents
    → slice_index (numbers_at k.table.items (row * k.agents + column)) matrix ≡ cost (instance_in k) matrix row column
cost-at k stored matrix row column below row_in column_in =
    let more : row + 1 ≤ k.agents = omega arith in
    let rows = mul-le-mul_right k.agents more in
    let same : matrix * (k.agents * k.agents) + (row * k.agents + column) ≡ (matrix * k.agents + row) * k.agents + column = omega arith in
    stored.table.has matrix (row * k.agents + column) below (omega arith)
    ∙ ap (λ i. slice_index (instance_in k).costs i) same

module _ (k : Inside) (costs : List ℕ) (limits : IsWithinLimits (instance_from k.objectives k.agents costs)) (table : IsTableOf (k.agents * k.agents) (k.agents * k.agents) costs k.table.items) where
  -- it is the instance that it was made of
  pub instance_in-made : instance_in k ≡ instance_from k.objectives k.agents costs
  instance_in-made =
      let some = mul-le-mul_right k.agents limits.some_agents in
      let few = limits.few_objectives in
      let agents = limits.some_agents in
      let all = limits.matrices in
      ap (λ (xs : List ℕ). instance_from k.objectives k.agents xs)
      (by_lists-is k.objectives (k.agents * k.agents) costs k.table.items few (omega arith) (omega arith) table)

  pub IsStored-made : IsStored k
  IsStored-made =
      let is = instance_in-made in
      record {
        limits = subst IsWithinLimits (sym is) limits;
        table = subst (λ (i : AssignmentInstance). IsTableOf (k.agents * k.agents) (k.agents * k.agents) i.costs k.table.items) (sym is) table;
      }
