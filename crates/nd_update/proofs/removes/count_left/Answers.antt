use Rattle.std.proofs.Common.{◌+◌, length, drop, nat_lt, ap, ◌∙◌, arith}
use Rattle.std.proofs.lemmas.List.{length-drop}
use Rattle.era_rows.specs.Passes.{work_of}
use Rattle.nd_update.specs.Left.{alive, gone_word}
use Rattle.nd_update.proofs.Removing.{drop_there, count_alive, few_alive, one_le}
use Rattle.nd_update.proofs.removes.count_left.Goals as goal

pub overflow_add-count : goal.overflow_add-count
overflow_add-count c =
    let so_far = c.loop-k.invariant in
    let most = few_alive (drop c.args.from (work_of c.args.pass.now)) in
    let len = length-drop c.args.from (work_of c.args.pass.now) in
    let few = c.requires.few in
    let one = c.one-count.ensures in
    let low = one_le (nat_lt c.work.result gone_word) in omega (arith, so_far, most, len, few, one, low)

pub loop-k-preserved : goal.loop-k-preserved
loop-k-preserved c =
    let so_far = c.loop-k.invariant in
    let one = c.one-count.ensures in
    let all = ap (λ ws. length (alive ws)) (drop_there (work_of c.args.pass.now) c.loop-k.k c.work.result c.work.ensures) ∙ count_alive c.work.result (drop (c.loop-k.k + 1) (work_of c.args.pass.now)) in omega (arith, so_far, one, all)
