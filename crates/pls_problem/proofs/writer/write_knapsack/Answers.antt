use Rattle.std.proofs.Common.{rules}
use Rattle.pls_problem.proofs.ReadBack.{instance-knapsack_text}
use Rattle.pls_problem.proofs.WritingNumbers.{appended}
use Rattle.pls_problem.proofs.writer.write_knapsack.Goals as goal

pub returns-clause-text : goal.returns-clause-text
returns-clause-text c =
    let k = c.args.knapsack.now in
    appended _ _ _ _ _ _ _ _ _
    (rw (c.objectives-objectives.ensures.value, c.size-items.ensures.value, c.rules-rules.ensures.value) at c.in_ok-write_head.ensures)
    (c.in_ok-write_numbers.ensures k.capacities (search rules) (λ place n inside given. search rules))
    (rw (c.objectives-objectives.ensures.value, c.size-items.ensures.value) at
    (c.in_ok-write_rows.ensures k.profits (search rules) (λ row item n row_in item_in given. search rules)))
    (rw (c.rules-rules.ensures.value, c.size-items.ensures.value) at
    (c.in_ok-write_rows-2.ensures k.weights (search rules) (λ row item n row_in item_in given. search rules)))

pub returns-clause-read : goal.returns-clause-read
returns-clause-read c = instance-knapsack_text _ c.size-items.ensures.limits
