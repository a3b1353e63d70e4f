use Rattle.std.proofs.Common.{rules, ◌≡◌, ◌+◌, ◌-◌, ◌++◌, sym, ap, subst, ◌∙◌, arith}
use Rattle.std.proofs.lemmas.List.{length-set}
use Rattle.std.specs.List.{range_with_len}
use Rattle.atomic_table.proofs.Lists.{at_index}
use Rattle.crossbeam_deque.specs.Tasks.{Forks}
use Rattle.crossbeam_deque.specs.Handles.{IsPassOf, worker_port}
use Rattle.pls_pool.specs.Hands.{started, giving, given}
use Rattle.pls_pool.specs.TaskRule.{Keeps}
use Rattle.pls_pool.proofs.DealMoves.{deals_at, left_dealt, given_dealt, deal_one, dealt_all}
use Rattle.pls_pool.proofs.stealing_starts.deal.Goals as goal

pub another-requires : goal.another-requires
another-requires g c =
    let worker = c.loop-number.worker in
    let number = c.loop-number.number in
    let numbers = c.requires.numbers in
    let low = c.loop-number-test.true in
    let now = (c.loop-number.invariant.3 numbers.0 numbers.1 numbers.3).0 in
    subst (λ v. Forks Keeps (worker_port worker) v (giving v) (given v)) (sym now) (deals_at (worker_port worker) numbers.0 number (c.args.to - number) numbers.1 (omega arith) numbers.2)

pub loop-number-preserved : goal.loop-number-preserved
loop-number-preserved g c =
    let w0 = c.args.worker.now in
    let number = c.loop-number.number in
    let to = c.args.to in
    let low = c.loop-number-test.true in
    let was = c.loop-number.invariant in
    let same = c.another.ensures.same in
    let rule = c.another.ensures.rule in
    let all = c.loop-number.all.items in
    let left_is : to - number - 1 ≡ to - (number + 1) = omega arith in (
      (same.0.0 ∙ was.0.0, same.0.1 ∙ was.0.1, same.0.2 ∙ was.0.2, (let a = same.0.3 in let b = was.0.3 in omega arith)),
      same.1 ∙ was.1,
      length-set all number c.gain.new.seat ∙ was.2,
      λ seats kept is.
          let now = was.3 seats kept is in (
            rule.0 ∙ ap giving now.0 ∙ left_dealt seats number (to - number) kept (omega arith) ∙ ap (λ m. started seats (range_with_len (number + 1) m ++ kept)) left_is,
            deal_one seats w0 c.args.from number c.args.all.now.items all c.index_mut.result.now c.gain.new.seat c.in_ok-reach.reach now.1 (search rules) (at_index all number c.index_mut.result.now (search rules) c.index_mut.ensures.value)
                c.in_ok-gain.ensures
                (c.in_ok-reach.ensures number seats w0 (subst (λ d. IsPassOf d c.another.result) was.0.0 same.2) (rule.1 ∙ ap given now.0 ∙ given_dealt seats number (to - number) kept (omega arith))),
          ),
    )

pub returns-clause-kept : goal.returns-clause-kept
returns-clause-kept g c =
    let last : c.loop-number.number ≡ c.args.to = search rules in
    λ seats kept is. dealt_all seats c.args.worker.now c.loop-number.worker c.args.from c.args.to c.loop-number.number kept c.args.all.now.items c.loop-number.all.items last (c.loop-number.invariant.3 seats kept is)
