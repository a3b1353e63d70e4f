use Rattle.std.proofs.Common.{ap}
use Rattle.era_core.specs.Words.{root_word}
use Rattle.era_rows.specs.Known.{Known}
use Rattle.era_rows.specs.Passes.{known_of, knows_of}
use Rattle.era_one_row.proofs.Counting.{takes-pinned}
use Rattle.era_one_row.proofs.GoingOn.{pin_was_now}
use Rattle.era_one_row.proofs.replaces.open.Goals as goal

pub returns-clause-pinned : goal.returns-clause-pinned
returns-clause-pinned c = pin_was_now _ _ _ _ _ _ c.pin.result.0 c.pin.result.1 c.pin.ensures.small.1 (knows_of c.args.pass.now) (knows_of c.pin.new.pass) c.pin.ensures.pinned

pub returns-clause-takes : goal.returns-clause-takes
returns-clause-takes c =
    let pins = c.pin.ensures.pinned in
    takes-pinned c.args.rows.now.passes c.args.rows.now.rows pins.0 (root_word c.pin.result.0 c.pin.result.1) (known_of c.args.pass.now) (known_of c.pin.new.pass) (ap (λ (k : Known). k.looks) pins.1.view_is)
