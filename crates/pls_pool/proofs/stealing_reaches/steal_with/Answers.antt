use Rattle.std.proofs.Common.{min, ap, sym, subst, ◌<◌, length}
use Rattle.crossbeam_deque.specs.Handles.{view, stealer_flavor}
use Rattle.pls_pool.specs.declared.hand.Hand.{Hand}
use Rattle.pls_pool.proofs.DequeMoves.{pops_at, finds_few_at}
use Rattle.pls_pool.proofs.stealing_reaches.steal_with.Goals as goal

pub steal_as-requires-clause-takes : goal.steal_as-requires-clause-takes
steal_as-requires-clause-takes g c =
    let pass = c.loop.pass in
    pops_at pass.id (view pass) (subst (λ (v : Hand _). 0 < length v.numbers) (sym c.loop.invariant.1) c.requires.holds) 1

pub steal_as-requires-clause-empty : goal.steal_as-requires-clause-empty
steal_as-requires-clause-empty g c =
    let pass = c.loop.pass in
    finds_few_at pass.id (view pass) (subst (λ (v : Hand _). 0 < length v.numbers) (sym c.loop.invariant.1) c.requires.holds) (min (stealer_flavor c.args.stealer.now) 1) (ap (λ n. min n 1) c.requires.fifo)
