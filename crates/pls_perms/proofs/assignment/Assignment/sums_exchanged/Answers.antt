use Rattle.std.proofs.Common.{ap, ◌∙◌, arith}
use Rattle.pls_perms.specs.Assignment.{cost}
use Rattle.pls_perms.proofs.TotalCosts.{cost-le, total_cost-le, total_cost-swapped, feasible-column}
use Rattle.pls_perms.proofs.assignment.Assignment.sums_exchanged.Goals as goal

pub entry-before-requires : goal.entry-before-requires
entry-before-requires c =
    let few = c.requires.limits.few_agents in
    let ordered = c.requires.ordered in
    let below = c.requires.made.pair.below in
    omega arith

pub entry-after-requires : goal.entry-after-requires
entry-after-requires c =
    let few = c.requires.limits.few_agents in
    let below = c.requires.made.pair.below in
    omega arith

pub costs-requires-clause-column_in : goal.costs-requires-clause-column_in
costs-requires-clause-column_in c =
    let column = feasible-column c.args.self.now c.args.walk.now.start in
    rw c.entry-after.ensures (column c.args.walk.now.pair.second c.requires.limits.few_agents c.requires.made.feasible c.requires.made.pair.below)

pub costs-requires-2-clause-column_in : goal.costs-requires-2-clause-column_in
costs-requires-2-clause-column_in c =
    let column = feasible-column c.args.self.now c.args.walk.now.start in
    let ordered = c.requires.ordered in
    let below = c.requires.made.pair.below in
    rw c.entry-before.ensures (column c.args.walk.now.pair.first c.requires.limits.few_agents c.requires.made.feasible (omega arith))

pub costs-requires-3-clause-column_in : goal.costs-requires-3-clause-column_in
costs-requires-3-clause-column_in c =
    let column = feasible-column c.args.self.now c.args.walk.now.start in
    let ordered = c.requires.ordered in
    let below = c.requires.made.pair.below in
    rw c.entry-before.ensures (column c.args.walk.now.pair.first c.requires.limits.few_agents c.requires.made.feasible (omega arith))

pub costs-requires-4-clause-column_in : goal.costs-requires-4-clause-column_in
costs-requires-4-clause-column_in c =
    let column = feasible-column c.args.self.now c.args.walk.now.start in
    rw c.entry-after.ensures (column c.args.walk.now.pair.second c.requires.limits.few_agents c.requires.made.feasible c.requires.made.pair.below)

pub changed-requires-clause-fit : goal.changed-requires-clause-fit
changed-requires-clause-fit c = λ matrix below.
    let k = c.args.self.now in
    let w = c.args.walk.now in
    let limits = c.requires.limits in
    let sums = c.requires.made.sums matrix below in
    let most = total_cost-le k limits w.start matrix in
    let first = c.costs.ensures.costs matrix below in
    let second = c.costs-2.ensures.costs matrix below in
    let first_le = cost-le k limits matrix w.pair.first c.entry-after.result in
    let second_le = cost-le k limits matrix w.pair.second c.entry-before.result in
    omega arith

pub changed-requires-clause-kept : goal.changed-requires-clause-kept
changed-requires-clause-kept c = λ matrix below.
    let k = c.args.self.now in
    let w = c.args.walk.now in
    let sums = c.requires.made.sums matrix below in
    let difference = total_cost-swapped k c.requires.limits w.start w.pair.first w.pair.second matrix c.requires.made.words c.requires.ordered c.requires.made.pair.below in
    let first = c.costs.ensures.costs matrix below ∙ ap (λ e. cost k matrix w.pair.first e) c.entry-after.ensures in
    let second = c.costs-2.ensures.costs matrix below ∙ ap (λ e. cost k matrix w.pair.second e) c.entry-before.ensures in
    let third = c.costs-3.ensures.costs matrix below ∙ ap (λ e. cost k matrix w.pair.first e) c.entry-before.ensures in
    let fourth = c.costs-4.ensures.costs matrix below ∙ ap (λ e. cost k matrix w.pair.second e) c.entry-after.ensures in
    omega arith

pub returns : goal.returns
returns c = λ matrix below.
    let k = c.args.self.now in
    let w = c.args.walk.now in
    let sums = c.requires.made.sums matrix below in
    let difference = total_cost-swapped k c.requires.limits w.start w.pair.first w.pair.second matrix c.requires.made.words c.requires.ordered c.requires.made.pair.below in
    let first = c.costs.ensures.costs matrix below ∙ ap (λ e. cost k matrix w.pair.first e) c.entry-after.ensures in
    let second = c.costs-2.ensures.costs matrix below ∙ ap (λ e. cost k matrix w.pair.second e) c.entry-before.ensures in
    let third = c.costs-3.ensures.costs matrix below ∙ ap (λ e. cost k matrix w.pair.first e) c.entry-before.ensures in
    let fourth = c.costs-4.ensures.costs matrix below ∙ ap (λ e. cost k matrix w.pair.second e) c.entry-after.ensures in
    let made = c.changed.ensures matrix below in
    omega arith
