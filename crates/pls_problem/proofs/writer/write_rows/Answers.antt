use Rattle.std.proofs.Common.{rules, ◌∙◌, refl}
use Rattle.pls_problem.specs.Rows.{row_of}
use Rattle.pls_problem.proofs.WritingNumbers.{rows_text-push, length-row_of, get_or-row_of}
use Rattle.pls_problem.proofs.writer.write_rows.Goals as goal

pub loop-row-preserved : goal.loop-row-preserved
loop-row-preserved g c =
    λ table long gives.
    let row = c.loop-row.row-counter in
    let items = c.args.items in
    rows_text-push row items table _ _ _ (row_of items row table) (c.loop-row.invariant table long gives) refl
    (c.in_ok-write_numbers.ensures (row_of items row table) (length-row_of row c.args.rows items table long c.loop-row-test.true)
    (λ place n inside given. gives row place n c.loop-row-test.true inside (search rules) ∙ get_or-row_of row items place table inside))
