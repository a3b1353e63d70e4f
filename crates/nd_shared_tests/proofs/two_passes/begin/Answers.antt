use Rattle.std.proofs.Common.{refl}
use Rattle.nd_shared.proofs.Built.{builds_at}
use Rattle.nd_shared.proofs.Refusals.{has_row}
use Rattle.nd_shared_tests.proofs.two_passes.begin.Goals as goal

pub build-requires-clause-tree : goal.build-requires-clause-tree
build-requires-clause-tree c = (c.open-stamp.result, c.open-stamp.ensures.opens.opened.tree)

pub returns-in-Ok-clause-built : goal.returns-in-Ok-clause-built
returns-in-Ok-clause-built c =
    let opens = c.open-stamp.ensures.opens in
    builds_at c.args.rows.now c.open-stamp.result c.args.pass.now c.open-stamp.new.pass c.build.new.pass opens c.build.ensures.goes c.build.ensures.work (c.build.ensures.same_full (has_row c.build.result _ c.in-Ok.is refl)) c.args.point.now c.in-Ok.built
    (c.in-Ok.ensures.built c.open-stamp.result opens.opened.tree)
