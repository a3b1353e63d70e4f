use Rattle.std.proofs.Common.{rules, ◌≡◌, ◌+◌, ◌-◌, ◌≤◌, length, sym, ap, subst, ◌∙◌, arith}
use Rattle.std.specs.List.{range_with_len}
use Rattle.crossbeam_queue.specs.Fifo.{Forks}
use Rattle.pls_pool.specs.Hands.{started, giving, given}
use Rattle.pls_pool.specs.TaskRule.{Keeps}
use Rattle.pls_pool.specs.QueueSeats.{IsNewQueueSeat}
use Rattle.pls_pool.proofs.TaskMoves.{splits_range, left_range, given_range}
use Rattle.pls_pool.proofs.AccountMoves.{started_new}
use Rattle.pls_pool.proofs.Pushed.{each_pushed}
use Rattle.pls_pool.proofs.one_queue.OneQueue.split_others.Goals as goal

pub another-other-requires-clause-rule : goal.another-other-requires-clause-rule
another-other-requires-clause-rule g c =
    let pool = c.args.self.now in
    let pass = c.loop.pass in
    let low = c.loop-test.true in
    subst (λ v. Forks Keeps pass.id v (giving v) (given v)) (sym c.loop.invariant.1) (splits_range pass.id pool.seats (c.loop.counter - 1) (pool.seats + 1 - c.loop.counter) (omega arith))

pub seated-other-requires-clause-started : goal.seated-other-requires-clause-started
seated-other-requires-clause-started g c =
    let pool = c.args.self.now in
    let low = c.loop-test.true in (
      c.loop.counter - 1,
      c.another-other.ensures.rule.1 ∙ ap given c.loop.invariant.1 ∙ given_range pool.seats (c.loop.counter - 1) (pool.seats + 1 - c.loop.counter) (omega arith),
    )

pub loop-preserved : goal.loop-preserved
loop-preserved g c =
    let pool = c.args.self.now in
    let low = c.loop-test.true in
    let from = c.loop.counter - 1 in
    let some_given : 1 ≤ c.loop.counter = c.loop.auto.counter in
    let left_is : from + 1 ≡ c.loop.counter + 1 - 1 = omega arith in
    let count_is : pool.seats + 1 - c.loop.counter - 1 ≡ pool.seats + 1 - (c.loop.counter + 1) = omega arith in
    let count : length c.loop.others.items ≡ from = (let was = c.loop.invariant.2 in omega (arith, c.loop.others.ok.0)) in (
      search rules,
      c.another-other.ensures.rule.0 ∙ ap giving c.loop.invariant.1 ∙ left_range pool.seats from (pool.seats + 1 - c.loop.counter) (omega arith)
          ∙ (λ k. started pool.seats (range_with_len (left_is k) (count_is k))),
      search rules,
      each_pushed (IsNewQueueSeat pool) c.loop.others.items c.seated-other.result from c.push.new.self.items count (search rules) c.loop.invariant.3
          (record {
            seat = c.seated-other.ensures.seat;
            account = started_new _ _ pool.seats from (c.seated-other.ensures.hand ∙ c.another-other.ensures.rule.1 ∙ ap given c.loop.invariant.1 ∙ given_range pool.seats from (pool.seats + 1 - c.loop.counter) (omega arith)) c.seated-other.ensures.bare;
          }),
    )
