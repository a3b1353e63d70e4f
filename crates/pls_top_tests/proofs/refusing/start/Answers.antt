use Rattle.std.proofs.Common.{rules, refl}
use Rattle.atomic_table.proofs.Lists.{at_index}
use Rattle.pls_top_tests.proofs.refusing.start.Goals as goal

pub returns-clause-ready : goal.returns-clause-ready
returns-clause-ready c =
    let (ready, view_is, none) = c.in_ok-tree.ensures.passes 0 c.remove.result (at_index _ 0 _ (search rules) (search rules)) in
    (ready, view_is, refl)
