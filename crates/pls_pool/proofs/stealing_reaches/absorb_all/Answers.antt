use Rattle.std.proofs.Common.{rules, length, sym, ap, subst, ◌∙◌, length-append, arith}
use Rattle.crossbeam_deque.specs.Handles.{view, worker_port, worker_view}
use Rattle.pls_pool.specs.Hands.{joining}
use Rattle.pls_pool.specs.Reaches.{guests_hand, ArePassesOf}
use Rattle.pls_pool.proofs.TaskMoves.{joins_at}
use Rattle.pls_pool.proofs.DequeMoves.{learns_at}
use Rattle.pls_pool.proofs.ReachMoves.{joins_on, rest_are}
use mathlib.Core.Option.{some}
use Rattle.pls_pool.proofs.stealing_reaches.absorb_all.Goals as goal

pub absorb-requires-clause-table : goal.absorb-requires-clause-table
absorb-requires-clause-table g c =
    let pass = c.in-Some.pass in (subst (ArePassesOf c.loop.worker) c.in-Some.ensures.items c.loop.invariant.3 0 pass (λ k. some pass)).0

pub absorb-requires-clause-rule : goal.absorb-requires-clause-rule
absorb-requires-clause-rule g c =
    let pass = c.in-Some.pass in
    joins_at (worker_port c.loop.worker) (worker_view c.loop.worker) pass.id (view pass) c.loop.invariant.5 (subst (ArePassesOf c.loop.worker) c.in-Some.ensures.items c.loop.invariant.3 0 pass (λ k. some pass)).1

pub loop-preserved : goal.loop-preserved
loop-preserved g c =
    let pass = c.in-Some.pass in
    let rest = c.pop_front.new.self in
    let was = c.loop.invariant in
    let rule = c.absorb.ensures.rule in (
      search rules,
      search rules,
      ap (λ v. joining v (guests_hand rest)) rule ∙ joins_on (worker_view c.loop.worker) pass rest ∙ ap (λ ps. joining (worker_view c.loop.worker) (guests_hand ps)) (sym c.in-Some.ensures.items) ∙ was.2,
      rest_are c.loop.worker c.absorb.new.self pass rest c.absorb.ensures.same.0.0 (subst (ArePassesOf c.loop.worker) c.in-Some.ensures.items was.3),
      (let len = ap length c.in-Some.ensures.items in let count = was.4 in omega arith),
      (let len = ap (λ v. length v.numbers) rule in let some = was.5 in omega (arith, length-append (worker_view c.loop.worker).numbers (view pass).numbers)),
    )

pub len_as-requires : goal.len_as-requires
len_as-requires g c = learns_at (worker_port c.loop.worker) (worker_view c.loop.worker) c.loop.invariant.5
