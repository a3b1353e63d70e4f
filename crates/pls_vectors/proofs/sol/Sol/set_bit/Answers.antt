use Rattle.std.proofs.Common.{ap, arith}
use Rattle.pls_vectors.specs.Solution.{Solution}
use Rattle.pls_vectors.proofs.Solution.{chosen-with_item_same, chosen-with_item_other}
use Rattle.pls_vectors.proofs.sol.Sol.set_bit.Goals as goal

pub returns-clause-set : goal.returns-clause-set
returns-clause-set c =
    let s : Solution = record { len = c.self.inside.len; words = c.self.inside.words } in
    let len = ap (λ (t : Solution). t.len) c.self.view_is in
    rw c.with_bit.ensures (chosen-with_item_same s c.args.i c.args.on (omega arith))

pub returns-clause-others : goal.returns-clause-others
returns-clause-others c =
    let s : Solution = record { len = c.self.inside.len; words = c.self.inside.words } in
    let len = ap (λ (t : Solution). t.len) c.self.view_is in
    rw (c.with_bit.ensures, ← c.self.view_is) (λ j other. chosen-with_item_other s c.args.i j c.args.on (omega arith) other)
