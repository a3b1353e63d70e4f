use Rattle.std.proofs.Common.{◌∙◌, ap}
use Rattle.pls_knapsack.specs.Instance.{Instance}
use Rattle.pls_problem.specs.declared.instance.Instance.TheVariants.{Knapsack}
use Rattle.pls_problem.proofs.Sizing.{knapsack-limits, knapsack-made}
use Rattle.pls_problem.proofs.sizes.Sizes.knapsack.Goals as goal

pub new-requires : goal.new-requires
new-requires c =
    rw (c.split_at.ensures.front, c.split_at.ensures.back)
    (knapsack-limits c.args.self.now c.args.capacities.now c.args.amounts.now c.requires.sizes c.requires.numbers c.requires.kind)

pub returns : goal.returns
returns c =
    ap (λ (k : Instance). Knapsack k) c.in_ok-new.ensures
    ∙ rw (c.split_at.ensures.front, c.split_at.ensures.back)
    (knapsack-made c.args.self.now c.args.capacities.now c.args.amounts.now c.requires.sizes c.requires.numbers c.requires.kind)
