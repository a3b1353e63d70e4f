use Rattle.std.proofs.Common.{ap, ◌∙◌}
use Rattle.era_rows.specs.declared.views.Knows.{Knows}
use Rattle.pls_archive.specs.declared.call.Entry.{Entry}
use Rattle.nd_shared.proofs.Opening.{still_listed}
use Rattle.nd_shared.proofs.Telling.{ready_left}
use Rattle.nd_shared_tests.proofs.two_passes.leave.Goals as goal

pub returns : goal.returns
returns c =
    ready_left c.args.rows.now c.args.pass.now c.unpin.new.pass c.requires.pass c.unpin.ensures.pass (ap (λ (k : Knows Entry). k.view) c.unpin.ensures.left) c.requires.no_fresh c.unpin.ensures.marks
    (c.unpin.ensures.same.same_work ∙ c.requires.idle) (still_listed c.args.pass.now c.unpin.new.pass c.unpin.ensures.same.same_number (ap (λ (k : Knows Entry). k.lists) c.unpin.ensures.left) c.requires.listed) c.requires.short
