use Rattle.std.proofs.Common.{◌≡◌, true, rules, sym, subst}
use Rattle.pls_vectors.specs.Solution.{Solution}
use Rattle.pls_problem.specs.Instance.{feasible}
use Rattle.pls_problem.specs.Starts.{start_of}
use Rattle.pls_problem.proofs.Shuffles.{shuffle_is_order}
use Rattle.pls_problem.proofs.Feasible.{entries_small, start_of-feasible}
use Rattle.pls_problem.proofs.instance.Instance.start_along.Goals as goal

pub greedy-requires : goal.greedy-requires
greedy-requires c = shuffle_is_order _ _ _ (search rules) c.requires.order.all

pub of_entries-requires-clause-bytes : goal.of_entries-requires-clause-bytes
of_entries-requires-clause-bytes c = entries_small c.args.self.now c.args.order.now c.requires.order c.requires.few

pub of_entries-requires-in-Tour-clause-bytes : goal.of_entries-requires-in-Tour-clause-bytes
of_entries-requires-in-Tour-clause-bytes c = entries_small c.args.self.now c.args.order.now c.requires.order c.requires.few

pub returns-in-Assignment-clause-feasible : goal.returns-in-Assignment-clause-feasible
unfolding start_of
returns-in-Assignment-clause-feasible c =
    let is : c.of_entries.result ≡ start_of c.args.self.now c.args.order.now = search rules in
    subst (λ (s : Solution). feasible c.args.self.now s ≡ true) (sym is)
    (start_of-feasible c.args.self.now c.args.order.now c.requires.order c.requires.some c.requires.few)

pub returns-in-Tour-clause-feasible : goal.returns-in-Tour-clause-feasible
unfolding start_of
returns-in-Tour-clause-feasible c =
    let is : c.of_entries-in-Tour.result ≡ start_of c.args.self.now c.args.order.now = search rules in
    subst (λ (s : Solution). feasible c.args.self.now s ≡ true) (sym is)
    (start_of-feasible c.args.self.now c.args.order.now c.requires.order c.requires.some c.requires.few)
