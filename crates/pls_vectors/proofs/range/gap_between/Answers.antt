use Rattle.std.proofs.Common.{◌<◌, length, arith}
use Rattle.pls_vectors.proofs.Boxes.{gap_between-next, part_gap-places}
use Rattle.pls_vectors.proofs.range.gap_between.Goals as goal

pub loop-k-preserved : goal.loop-k-preserved
loop-k-preserved c =
    let ideal = c.args.ideal.now in
    let nadir = c.args.nadir.now in
    let parts = c.args.parts.now in
    let k = c.loop-k.k in
    let below = c.loop-k-test.true in
    let p : k < length ideal = omega (arith, c.told-ideal) in
    let q : k < length nadir = omega (arith, c.told-nadir) in
    let r : k < length parts = omega (arith, c.told-parts) in
    let next = gap_between-next ideal nadir parts k p q r in
    let same = part_gap-places ideal nadir parts k c.requires.ideal c.requires.nadir c.requires.parts p q r in
    let here = c.part_gap-sum.ensures.value in
    let few = c.part_gap-sum.ensures.bound in
    let done = c.loop-k.invariant.0 in
    let bound = c.loop-k.invariant.1 in
    (omega arith, omega arith)
