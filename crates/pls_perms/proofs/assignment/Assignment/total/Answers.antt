use Rattle.std.proofs.Common.{◌≡◌, ap, ◌∙◌, arith, add-one}
use Rattle.std.specs.List.{range_with_len, sum_by}
use Rattle.pls_vectors.specs.Solution.{entry}
use Rattle.pls_vectors.proofs.Ranges.{sum_by-range_suc, sum_by-range_le}
use Rattle.pls_perms.specs.Assignment.{cost, total_cost}
use Rattle.pls_perms.proofs.TotalCosts.{cost-le, feasible-len, feasible-column}
use Rattle.pls_perms.proofs.assignment.Assignment.total.Goals as goal

pub costs-requires-clause-row_in : goal.costs-requires-clause-row_in
costs-requires-clause-row_in c =
    let len = feasible-len c.args.self.now c.args.sol.now c.requires in
    let test = c.loop-i-test.true in
    let end = c.len-i-end.ensures.value in
    omega arith

pub costs-requires-clause-column_in : goal.costs-requires-clause-column_in
costs-requires-clause-column_in c =
    let len = feasible-len c.args.self.now c.args.sol.now c.requires in
    let test = c.loop-i-test.true in
    let end = c.len-i-end.ensures.value in
    let few = c.len-i-end.ensures.few in
    rw c.entry.ensures (feasible-column c.args.self.now c.args.sol.now c.loop-i.i (omega arith) c.requires (omega arith))

pub add-requires : goal.add-requires
add-requires c = λ matrix below.
    let k = c.args.self.now in
    let s = c.args.sol.now in
    let limits = c.costs.ensures.limits in
    let few = c.len-i-end.ensures.few in
    let test = c.loop-i-test.true in
    let most = sum_by-range_le (λ i. cost k matrix i (entry s i)) c.loop-i.i 1000000 (λ i at. cost-le k limits matrix i (entry s i)) in
    let one = cost-le k limits matrix c.loop-i.i c.entry.result in
    let sum = c.loop-i.invariant matrix below in
    let here = c.costs.ensures.costs matrix below in
    omega arith

pub loop-i-preserved : goal.loop-i-preserved
loop-i-preserved c = λ matrix below.
    let k = c.args.self.now in
    let s = c.args.sol.now in
    let more = sum_by-range_suc (λ i. cost k matrix i (entry s i)) c.loop-i.i in
    let sum = c.loop-i.invariant matrix below in
    let here = c.costs.ensures.costs matrix below in
    let entry_is = ap (λ e. cost k matrix c.loop-i.i e) c.entry.ensures in
    let added = c.add.ensures matrix below in
    rw add-one (omega arith)

pub returns-clause-total : goal.returns-clause-total
unfolding total_cost
returns-clause-total c = λ matrix below.
    let k = c.args.self.now in
    let s = c.args.sol.now in
    let len = feasible-len k s c.requires in
    let long = c.len-i-end.ensures.value in
    let upto = c.loop-i.auto.i-end in
    let past = c.loop-i-test.false in
    let all : c.loop-i.i ≡ k.agents = omega arith in
    c.loop-i.invariant matrix below ∙ ap (λ n. sum_by (λ i. cost k matrix i (entry s i)) (range_with_len 0 n)) all

pub returns-clause-some : goal.returns-clause-some
returns-clause-some c =
    let len = feasible-len c.args.self.now c.args.sol.now c.requires in
    let long = c.len-i-end.ensures.value in
    let some = c.len-i-end.ensures.some in
    omega arith

pub returns-clause-few : goal.returns-clause-few
returns-clause-few c =
    let len = feasible-len c.args.self.now c.args.sol.now c.requires in
    let long = c.len-i-end.ensures.value in
    let few = c.len-i-end.ensures.few in
    omega arith
