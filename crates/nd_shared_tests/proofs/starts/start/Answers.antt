use Rattle.std.proofs.Common.{◌∙◌, sym}
use Rattle.nd_shared.proofs.Starting.{one_ready}
use Rattle.nd_shared_tests.proofs.starts.start.Goals as goal

pub returns-clause-ready : goal.returns-clause-ready
returns-clause-ready c =
    one_ready c.in_ok-tree.tree.rows c.in_ok-tree.passes.items c.remove-pass.result (sym c.in_ok-tree.passes.ok.0 ∙ c.in_ok-tree.ensures.count) (λ k p at. (c.in_ok-tree.ensures.passes k p at).0) c.remove-pass.ensures.value
