use Rattle.std.proofs.Common.{sym, subst, ◌∙◌}
use Rattle.era_rows.specs.Passes.{known_of, knows_of}
use Rattle.nd_update.specs.Counted.{IsCounted}
use Rattle.nd_update.proofs.Counting.{counted_pinned}
use Rattle.nd_shared_tests.proofs.rows.open.Goals as goal

pub returns-clause-counted : goal.returns-clause-counted
returns-clause-counted c =
    let pin = c.pin.ensures in
    subst (IsCounted (known_of c.pin.new.pass)) (sym (pin.marks ∙ c.requires.rest.no_marks)) (counted_pinned _ _ _ _ _ _ c.pin.result.0 c.pin.result.1 (knows_of c.args.pass.now) (knows_of c.pin.new.pass) pin.pinned c.requires.rest.no_fresh)
