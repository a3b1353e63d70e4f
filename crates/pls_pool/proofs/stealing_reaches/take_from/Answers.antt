use Rattle.std.proofs.Common.{◌≡◌, [], subst, sym, ap, arith}
use Rattle.std.specs.Prelude.{MatchOption, slice_set}
use Rattle.crossbeam_deque.specs.Handles.{view, worker_port, worker_view}
use Rattle.pls_pool.specs.Reaches.{hand_at, guests_hand, IsReach, TookOne}
use Rattle.pls_pool.specs.TaskRule.{Learns}
use Rattle.pls_pool.proofs.ReachMoves.{first_guest, same_hand, guests_after, guests_found}
use Rattle.pls_pool.proofs.DequeMoves.{pops_at, finds_at}
use Rattle.pls_pool.proofs.stealing_reaches.take_from.Goals as goal

pub pop_as-requires-clause-fifo : goal.pop_as-requires-clause-fifo
pop_as-requires-clause-fifo g c =
    let worker = c.in-Own.worker in
    let own = subst (IsReach c.requires.reach.0 c.requires.reach.1 c.args.stealer.now) c.in-Own.is c.requires.reach.2 in λ fifo. pops_at (worker_port worker) (worker_view worker) own.holds 1

pub pop_as-requires-clause-lifo : goal.pop_as-requires-clause-lifo
pop_as-requires-clause-lifo g c =
    let worker = c.in-Own.worker in
    let own = subst (IsReach c.requires.reach.0 c.requires.reach.1 c.args.stealer.now) c.in-Own.is c.requires.reach.2 in λ lifo. absurd (let fifo = own.fifo in omega arith)

pub pop_as-requires-clause-empty : goal.pop_as-requires-clause-empty
pop_as-requires-clause-empty g c =
    let worker = c.in-Own.worker in
    let own = subst (IsReach c.requires.reach.0 c.requires.reach.1 c.args.stealer.now) c.in-Own.is c.requires.reach.2 in finds_at (worker_port worker) (worker_view worker) own.holds

pub steal_with-requires-clause-deque : goal.steal_with-requires-clause-deque
steal_with-requires-clause-deque g c =
    let guests = subst (IsReach c.requires.reach.0 c.requires.reach.1 c.args.stealer.now) c.in-Guests.is c.requires.reach.2 in
    (first_guest c.requires.reach.0 c.args.stealer.now c.in-Guests.passes c.in-Some.pass.now guests c.in-Some.ensures.value).deque

pub steal_with-requires-clause-fifo : goal.steal_with-requires-clause-fifo
steal_with-requires-clause-fifo g c =
    let guests = subst (IsReach c.requires.reach.0 c.requires.reach.1 c.args.stealer.now) c.in-Guests.is c.requires.reach.2 in
    (first_guest c.requires.reach.0 c.args.stealer.now c.in-Guests.passes c.in-Some.pass.now guests c.in-Some.ensures.value).fifo

pub steal_with-requires-clause-holds : goal.steal_with-requires-clause-holds
steal_with-requires-clause-holds g c =
    let guests = subst (IsReach c.requires.reach.0 c.requires.reach.1 c.args.stealer.now) c.in-Guests.is c.requires.reach.2 in
    (first_guest c.requires.reach.0 c.args.stealer.now c.in-Guests.passes c.in-Some.pass.now guests c.in-Some.ensures.value).holds

pub returns-in-Some-clause-reach : goal.returns-in-Some-clause-reach
returns-in-Some-clause-reach g c seats room reach =
    let guests = subst (IsReach seats room c.args.stealer.now) c.in-Guests.is reach in
    let same = same_hand c.steal_with.result (view c.in-Some.pass.now) (view c.steal_with.new.pass) c.steal_with.ensures.taken in
    guests_after seats c.args.stealer.now c.in-Some.pass.now c.steal_with.new.pass c.in-Guests.passes guests c.in-Some.ensures.value c.steal_with.ensures.deque same.0 same.1

pub returns-in-Some-clause-taken : goal.returns-in-Some-clause-taken
returns-in-Some-clause-taken g c =
    let guests = subst (IsReach c.requires.reach.0 c.requires.reach.1 c.args.stealer.now) c.in-Guests.is c.requires.reach.2 in
    let ps = slice_set c.in-Guests.passes 0 c.steal_with.new.pass in
    subst (λ v. MatchOption c.steal_with.result ((guests_hand ps ≡ v) × Learns v []) (λ x. TookOne x v (guests_hand ps))) (sym (ap hand_at c.in-Guests.is))
    (guests_found c.requires.reach.0 c.args.stealer.now c.in-Some.pass.now c.steal_with.new.pass c.steal_with.result c.in-Guests.passes guests c.in-Some.ensures.value c.steal_with.ensures.taken)
