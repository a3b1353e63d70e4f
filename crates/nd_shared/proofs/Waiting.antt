-- How many retired rows may wait at a pass.
use Rattle.std.proofs.Common.{◌≡◌, ℕ, ◌+◌, ◌*◌, ◌/◌, ◌%◌, ◌≤◌, min, arith}
use Rattle.std.proofs.lemmas.Nat.{le-div, div-add-mod'}
use Rattle.std.proofs.Math.Nat.{min-le_left}

-- those that are left are no more than one in so many rows
pub few_wait : (waiting rows passes most : ℕ) → 1 ≤ passes → waiting ≤ min (rows / (8 * passes)) most → waiting ≤ rows / (4 * passes)
few_wait waiting rows passes most some few =
    let part = rows / (8 * passes) in
    let least = min-le_left part most in
    let whole : part * (8 * passes) + rows % (8 * passes) ≡ rows = div-add-mod' rows (8 * passes) in
    let half : part * (4 * passes) ≤ rows = omega arith in
    let more : part ≤ rows / (4 * passes) = le-div part rows (4 * passes) (omega arith) half in
    omega (arith, few, least, more)
