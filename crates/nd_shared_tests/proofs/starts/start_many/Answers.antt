use Rattle.nd_shared.specs.Views.{IsReady}
use Rattle.nd_shared.proofs.Starting.{each_all}
use Rattle.nd_shared_tests.proofs.starts.start_many.Goals as goal

pub returns-clause-ready : goal.returns-clause-ready
returns-clause-ready c = each_all (IsReady c.in_ok-tree.tree.rows) c.in_ok-tree.passes.items (λ k p at. (c.in_ok-tree.ensures.passes k p at).0)
