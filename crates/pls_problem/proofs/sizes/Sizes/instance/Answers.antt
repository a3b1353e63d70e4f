use Rattle.std.proofs.Common.{◌∙◌, ap}
use Rattle.pls_perms.specs.Assignment.{AssignmentInstance}
use Rattle.pls_perms.specs.Tour.{TourInstance}
use Rattle.pls_problem.specs.declared.instance.Instance.TheVariants.{Assignment, Tour}
use Rattle.pls_problem.proofs.Sizing.{assignment-made, tour-made}
use Rattle.pls_problem.proofs.sizes.Sizes.instance.Goals as goal

pub returns-in_ok-new-in-Assignment : goal.returns-in_ok-new-in-Assignment
returns-in_ok-new-in-Assignment c =
    ap (λ (k : AssignmentInstance). Assignment k) c.in_ok-new-in-Assignment.ensures
    ∙ assignment-made c.args.self.now c.args.capacities.now c.args.amounts.now c.requires.sizes c.requires.numbers c.in-Assignment.is

pub returns-in_ok-new-in-Tour : goal.returns-in_ok-new-in-Tour
returns-in_ok-new-in-Tour c =
    ap (λ (k : TourInstance). Tour k) c.in_ok-new-in-Tour.ensures
    ∙ tour-made c.args.self.now c.args.capacities.now c.args.amounts.now c.requires.sizes c.requires.numbers c.in-Tour.is
