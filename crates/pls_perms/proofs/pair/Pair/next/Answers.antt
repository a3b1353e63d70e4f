use Rattle.std.proofs.Common.{refl}
use Rattle.pls_perms.proofs.Pairs.{pairs_after-next, pairs_after-row, pairs_after-end}
use Rattle.pls_perms.proofs.pair.Pair.next.Goals as goal

pub returns-then-self-n-clause-step : goal.returns-then-self-n-clause-step
returns-then-self-n-clause-step c = pairs_after-next c.args.n c.args.self _ refl refl c.if-self-n.true

pub returns-then-self-n-2-clause-step : goal.returns-then-self-n-2-clause-step
returns-then-self-n-2-clause-step c =
    pairs_after-row c.args.n c.args.self _ refl refl c.if-self-n.false c.if-self-n-2.true

pub returns-clause-end : goal.returns-clause-end
returns-clause-end c = pairs_after-end c.args.n c.args.self c.if-self-n.false c.if-self-n-2.false
