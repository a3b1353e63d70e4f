use Rattle.std.proofs.Common.{◌≡◌, ◌<◌, ◌+◌, ◌*◌, ◌++◌, ℕ, List, length, get_or, string_bytes}
use Rattle.pls_problem.specs.Text.{rows_text}
use Rattle.pls_problem.proofs.writer.write_rows.Given as goal

abbrev pub invariant-loop-row : goal.invariant-loop-row
invariant-loop-row g l =
    (table : List ℕ) → length table ≡ l.rows * l.items
    → ((row item n : ℕ) → row < l.rows → item < l.items → goal.F-post g l.number row item n → n ≡ get_or table (row * l.items + item) 0)
    → string_bytes l.text ≡ string_bytes l.fn.text ++ rows_text l.row-counter l.items table
