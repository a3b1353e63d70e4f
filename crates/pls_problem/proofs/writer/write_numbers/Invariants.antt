use Rattle.std.proofs.Common.{◌≡◌, ◌<◌, ℕ, List, length, take, get_or, string_bytes}
use Rattle.std.specs.Fmt.{decimal}
use Rattle.pls_io.proofs.Joins.{Joins}
use Rattle.pls_problem.proofs.writer.write_numbers.Given as goal

abbrev pub invariant-loop-place : goal.invariant-loop-place
invariant-loop-place g l =
    (numbers : List ℕ) → length numbers ≡ l.count
    → ((place n : ℕ) → place < l.count → goal.F-post g l.number place n → n ≡ get_or numbers place 0)
    → Joins decimal (string_bytes l.fn.text) (take l.place numbers) (string_bytes l.text) l.any
