use Rattle.std.proofs.Common.{◌+◌, drop, sym, ap, ◌∙◌}
use Rattle.era_rows.specs.Passes.{work_of}
use Rattle.nd_rows.proofs.Pending.{first_is}
use Rattle.nd_update.specs.Left.{alive}
use Rattle.nd_update.proofs.Removing.{drop_there, alive_first, alive_gone}
use Rattle.nd_update.proofs.removes.first_left.Goals as goal

pub returns-then-found : goal.returns-then-found
returns-then-found c x xs is =
    let rest = drop (c.loop-k.k + 1) (work_of c.args.pass.now) in
    first_is (alive rest) xs _ x (sym (ap alive (drop_there (work_of c.args.pass.now) c.loop-k.k c.work-found.result c.work-found.ensures) ∙ alive_first c.work-found.result rest c.if-found.true) ∙ c.loop-k.invariant ∙ is)

pub loop-k-preserved : goal.loop-k-preserved
loop-k-preserved c =
    let rest = drop (c.loop-k.k + 1) (work_of c.args.pass.now) in
    sym (ap alive (drop_there (work_of c.args.pass.now) c.loop-k.k c.work-found.result c.work-found.ensures) ∙ alive_gone c.work-found.result rest c.if-found.false) ∙ c.loop-k.invariant
