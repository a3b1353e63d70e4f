use Rattle.std.proofs.Common.{◌/◌, length, refl}
use Rattle.pls_knapsack.specs.declared.knapsack.Knapsack.TheInside.{Inside}
use Rattle.pls_knapsack.specs.Instance.{Instance, instance_from}
use Rattle.pls_knapsack.proofs.Stored.{Stores, instance_in-stored, IsStored-stored}
use Rattle.pls_knapsack.proofs.knapsack.Knapsack.new.Goals as goal
use Rattle.pls_knapsack.proofs.knapsack.Knapsack.new.Goals.{In_ok-table}

abbrev wanted : In_ok-table → Instance
wanted c = instance_from c.args.items c.args.profits.now c.args.capacities.now c.args.weights.now

abbrev made : In_ok-table → Inside
made c =
    record {
      items = c.args.items;
      objectives = length c.args.profits.now / c.args.items;
      rules = length c.args.capacities.now;
      capacities = c.padded-capacities.result;
      table = c.in_ok-table.table;
    }

stores : (c : In_ok-table) → Stores (made c) (wanted c)
stores c = record { items = refl; objectives = refl; rules = refl; capacities = c.padded-capacities.ensures; table = c.in_ok-table.ensures }

pub invariant_of-result : goal.invariant_of-result
invariant_of-result c = IsStored-stored (made c) (wanted c) c.requires (stores c)

pub returns : goal.returns
returns c = instance_in-stored (made c) (wanted c) c.requires (stores c)
