use Rattle.pls_perms.specs.declared.assignment.Assignment.TheInside.{Inside}
use Rattle.pls_perms.proofs.AssignmentTables.{instance_in-made, IsStored-made}
use Rattle.pls_perms.proofs.assignment.Assignment.new.Goals as goal
use Rattle.pls_perms.proofs.assignment.Assignment.new.Goals.{In_ok-table}

abbrev made : In_ok-table → Inside
made c = record { agents = c.args.agents; objectives = c.args.objectives; table = c.in_ok-table.table }

pub invariant_of-result : goal.invariant_of-result
invariant_of-result c = IsStored-made (made c) c.args.costs.now c.requires c.in_ok-table.ensures

pub returns : goal.returns
returns c = instance_in-made (made c) c.args.costs.now c.requires c.in_ok-table.ensures
