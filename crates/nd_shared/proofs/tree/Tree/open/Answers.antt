use Rattle.std.proofs.Common.{◌+◌, ap, ◌∙◌}
use Rattle.era_rows.specs.Passes.{knows_of}
use Rattle.era_one_row.proofs.GoingOn.{pin_was_now}
use Rattle.nd_shared.proofs.Opening.{opens}
use Rattle.nd_shared.proofs.Reading.{unread_pinned}
use Rattle.nd_shared.proofs.tree.Tree.open.Goals as goal

pub returns-clause-opens : goal.returns-clause-opens
returns-clause-opens c = opens c.args.self.now.rows c.pin.result.0 c.pin.result.1 c.args.pass.now c.pin.new.pass c.pin.ensures.small.1 c.requires.ready c.pin.ensures.opened c.pin.ensures.number c.pin.ensures.pins

pub returns-clause-copies : goal.returns-clause-copies
returns-clause-copies c =
    let is = opens c.args.self.now.rows c.pin.result.0 c.pin.result.1 c.args.pass.now c.pin.new.pass c.pin.ensures.small.1 c.requires.ready c.pin.ensures.opened c.pin.ensures.number c.pin.ensures.pins in
    c.pin.ensures.pins.1.learns.consistent.paired ∙ ap (λ n. n + 1) is.all

pub returns-clause-pinned : goal.returns-clause-pinned
returns-clause-pinned c = pin_was_now _ _ _ _ _ _ c.pin.result.0 c.pin.result.1 c.pin.ensures.small.1 _ _ c.pin.ensures.pins

pub returns-clause-unread : goal.returns-clause-unread
returns-clause-unread c = unread_pinned c.pin.result.0 c.pin.result.1 (knows_of c.args.pass.now) (knows_of c.pin.new.pass) c.pin.ensures.small.1 c.pin.ensures.pins
