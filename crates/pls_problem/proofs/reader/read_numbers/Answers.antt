use Rattle.std.proofs.Common.{◌≤◌, inr, rules}
use Rattle.std.proofs.lemmas.List.Elements.{All-push}
use Rattle.std.proofs.lemmas.Result.{err_from_is_err_and}
use Rattle.pls_problem.proofs.ReadingSteps.{numbers-push, numbers-stop}
use Rattle.pls_problem.proofs.reader.read_numbers.Goals as goal

pub returns-in_err-read_number-clause-fault : goal.returns-in_err-read_number-clause-fault
returns-in_err-read_number-clause-fault c =
    let exit = c.from_residual-in_err-read_number in
    let p = err_from_is_err_and exit.result exit.ensures.1 in
    rw (p.1, p.2)
    (inr (numbers-stop c.args.end _ _ c.loop.counter c.args.count _ _ _ c.loop-test.true c.loop.invariant.read c.in_err-read_number.ensures.fault))

pub loop-preserved : goal.loop-preserved
loop-preserved c = record {
  read =
      rw c.push_reserved.ensures.items
      (numbers-push c.args.end _ _ c.loop.counter _ _ _ _ c.loop.invariant.read c.in_ok-read_number.ensures.read);
  count = search rules;
  limits = rw c.push_reserved.ensures.items (All-push (λ n. n ≤ c.args.most) _ _ c.loop.invariant.limits c.in_ok-read_number.ensures.limits.1);
  room = search rules;
}
