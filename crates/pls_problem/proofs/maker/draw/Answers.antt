use Rattle.std.proofs.Common.{◌≤◌, rules, arith}
use Rattle.std.proofs.lemmas.List.Elements.{All-push}
use Rattle.pls_problem.proofs.Making.{drawn-push, drawn-none}
use Rattle.pls_problem.proofs.maker.draw.Goals as goal

pub loop-init : goal.loop-init
loop-init g c = record {
  drawn = rw c.in_ok-numbers.ensures.items (drawn-none _);
  count = search rules;
  small = rw c.in_ok-numbers.ensures.items (λ k d inside. absurd (omega arith));
  room = search rules;
}

pub loop-preserved : goal.loop-preserved
loop-preserved g c = record {
  drawn =
      rw c.push_reserved.ensures.items
      (drawn-push c.loop.counter _ _ _ _ c.next_u64.result c.loop.invariant.drawn c.next_u64.ensures);
  count = search rules;
  small = rw c.push_reserved.ensures.items (All-push (λ n. n ≤ 100) _ _ c.loop.invariant.small (omega arith));
  room = search rules;
}
