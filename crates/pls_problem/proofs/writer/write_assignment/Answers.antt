use Rattle.std.proofs.Common.{◌≡◌, ◌+◌, ◌*◌, ◌/◌, ◌%◌, get_or, rules}
use Rattle.pls_problem.proofs.ReadBack.{instance-assignment_text}
use Rattle.pls_problem.proofs.WritingNumbers.{appended_twice, in_matrix}
use Rattle.pls_problem.proofs.writer.write_assignment.Goals as goal

pub returns-clause-text : goal.returns-clause-text
returns-clause-text c =
    let k = c.args.assignment.now in
    appended_twice _ _ _ _ _
    (rw (c.objectives-objectives.ensures.value, c.size-agents.ensures.value) at c.in_ok-write_head.ensures)
    (rw (c.objectives-objectives.ensures.value, c.size-agents.ensures.value) at
    (c.in_ok-write_rows.ensures k.costs (search rules)
    (λ row column n row_in column_in given.
    let at : n ≡ get_or k.costs ((row / c.size-agents.result * k.agents + row % c.size-agents.result) * k.agents + column) 0 = search rules in
    in_matrix k.agents c.size-agents.result row column k.costs n c.size-agents.ensures.value at)))

pub returns-clause-read : goal.returns-clause-read
returns-clause-read c = instance-assignment_text _ c.size-agents.ensures.limits
