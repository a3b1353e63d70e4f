use Rattle.std.proofs.Common.{rules, ap, arith}
use Rattle.atomic_table.proofs.Lists.{at_index}
use Rattle.era_tests.proofs.rows.keeps_a_work_list.Goals as goal

pub use_work-requires : goal.use_work-requires
use_work-requires g c =
    let started = c.in_ok-passes.ensures.passes 0 c.index_mut.result.now (at_index _ 0 _ (search rules) (search rules)) in
    (started.no_work, (let rows = ap (λ k. k.rows) started.knows in omega (arith)))
