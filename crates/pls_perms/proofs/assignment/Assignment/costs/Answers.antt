use Rattle.std.proofs.Common.{◌≡◌, ◌*◌, ◌+◌, ◌<◌, ◌≤◌, [], ap, ◌∙◌, arith, length, slice_index}
use Rattle.std.proofs.Math.Nat.{mul-le-mul_right}
use Rattle.std.proofs.lemmas.List.{get_or_default}
use Rattle.pls_perms.specs.Assignment.{AssignmentInstance}
use Rattle.pls_perms.specs.Table.{numbers_at}
use Rattle.pls_perms.proofs.AssignmentTables.{cost-at}
use Rattle.pls_perms.proofs.assignment.Assignment.costs.Goals as goal

pub returns-clause-costs : goal.returns-clause-costs
returns-clause-costs c = λ matrix below.
    let k = c.self.inside in
    let stored = c.self.invariant in
    let agents = ap (λ (i : AssignmentInstance). i.agents) c.self.view_is in
    let row_in = c.requires.row_in in
    let column_in = c.requires.column_in in
    let more : c.args.row + 1 ≤ k.agents = omega arith in
    let rows = mul-le-mul_right k.agents more in
    let long = stored.table.places in
    let within : c.args.row * k.agents + c.args.column < length k.table.items = omega arith in
    let at : c.index.result.now ≡ numbers_at k.table.items (c.args.row * k.agents + c.args.column) =
    c.index.ensures ∙ get_or_default k.table.items (c.args.row * k.agents + c.args.column) _ [] within in
    rw (← c.self.view_is) (ap (λ x. slice_index x matrix) at ∙ cost-at k stored matrix c.args.row c.args.column below (omega arith) (omega arith))
