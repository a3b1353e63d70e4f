use Rattle.nd_shared.proofs.Recorded.{keeps_alike}
use Rattle.nd_shared.proofs.shared_calls.TreeShared.snapshot.Goals as goal

pub returns-clause-full : goal.returns-clause-full
returns-clause-full g c = keeps_alike c.args.self.now.rows c.args.pass.now c.snapshot_now.new.pass c.requires.ready.0 c.snapshot_now.ensures.ready.is_pass c.snapshot_now.ensures.full
