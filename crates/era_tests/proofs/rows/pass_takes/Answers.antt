use Rattle.std.proofs.Common.{rules}
use Rattle.atomic_table.proofs.Lists.{at_index}
use Rattle.era_tests.proofs.rows.pass_takes.Goals as goal

pub take_two_again-requires : goal.take_two_again-requires
take_two_again-requires c = (c.in_ok-rows.ensures.passes c.args.k c.index_mut.result.now (at_index _ c.args.k _ (search rules) (search rules))).is_pass
