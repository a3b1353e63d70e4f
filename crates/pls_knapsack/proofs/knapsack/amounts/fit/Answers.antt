use Rattle.std.proofs.Common.{◌≡◌, ℕ, ◌+◌, ◌-◌, ◌%◌, ◌^◌, ◌<◌, nat_le, nat_lt, slice_index, ◌∙◌, arith}
use Rattle.std.proofs.lemmas.Bool.Decides.{nat_tests}
use Rattle.pls_vectors.proofs.Signs.{below-or}
use Rattle.pls_vectors.proofs.Ranges.{list_all-range_more}
use Rattle.pls_knapsack.proofs.knapsack.amounts.fit.Goals as goal

difference-fits :
    (room weight : ℕ) → room < 2 ^ 31 → weight < 2 ^ 31 → nat_lt ((room + (2 ^ 32 - weight)) % 2 ^ 32) (2 ^ 31) ≡ nat_le weight room
difference-fits room weight p q = grind (arith, nat_tests)

pub loop-row-preserved : goal.loop-row-preserved
loop-row-preserved c =
    let row = c.loop-row.row in
    let weight = λ (row : ℕ). slice_index c.args.weights.now row in
    let room = λ (row : ℕ). slice_index c.args.rooms.now row in
    below-or 31 c.loop-row.differences ((room row + (2 ^ 32 - weight row)) % 2 ^ 32)
    ∙ list_all-range_more (λ row. nat_le (weight row) (room row)) row _ _ c.loop-row.invariant
    (difference-fits (room row) (weight row) (c.requires.rooms row (omega arith)) (c.requires.weights row (omega arith)))
