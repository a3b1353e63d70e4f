use Rattle.nd_shared.proofs.Opening.{opens}
use Rattle.nd_shared_tests.proofs.two_passes.open.Goals as goal

pub returns-clause-opens : goal.returns-clause-opens
returns-clause-opens c = opens c.args.rows.now c.pin.result.0 c.pin.result.1 c.args.pass.now c.pin.new.pass c.pin.ensures.small.1 c.requires.ready c.pin.ensures.opened c.pin.ensures.number c.pin.ensures.pins
