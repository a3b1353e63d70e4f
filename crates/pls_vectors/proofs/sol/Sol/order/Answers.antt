use Rattle.std.proofs.Common.{◌-◌, ◌+◌, ap, sym, ◌∙◌}
use Rattle.std.proofs.Math.Nat.{sub-zero}
use Rattle.std.specs.List.{range_with_len}
use Rattle.pls_vectors.specs.Solution.{with_entries}
use Rattle.pls_vectors.proofs.Rearranged.{order-begins, with_entries-range, with_entries-range_end}
use Rattle.pls_vectors.proofs.sol.Sol.order.Goals as goal

pub loop-i-init : goal.loop-i-init
loop-i-init c =
    rw sub-zero (ap (λ s. with_entries s 0 (range_with_len 0 c.args.n)) c.bits-sol.ensures ∙ order-begins c.args.n)

pub loop-i-preserved : goal.loop-i-preserved
loop-i-preserved c =
    let next = c.loop-i.i + 1 in
    ap (λ s. with_entries s next (range_with_len next (c.args.n - next))) c.set_entry.ensures
    ∙ (sym (with_entries-range c.loop-i.sol c.loop-i.i c.args.n c.loop-i-test.true) ∙ c.loop-i.invariant)

pub returns : goal.returns
returns c =
    sym (with_entries-range_end c.loop-i.sol c.loop-i.i c.args.n c.loop-i-test.false) ∙ c.loop-i.invariant
