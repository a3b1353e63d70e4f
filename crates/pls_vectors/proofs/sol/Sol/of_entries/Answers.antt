use Rattle.std.proofs.Common.{◌+◌, drop, ap, sym, ◌∙◌}
use Rattle.pls_vectors.specs.Solution.{with_entries, stored}
use Rattle.pls_vectors.proofs.Rearranged.{with_entries-drop, with_entries-drop_end}
use Rattle.pls_vectors.proofs.sol.Sol.of_entries.Goals as goal

pub loop-i-init : goal.loop-i-init
unfolding stored
loop-i-init c = ap (λ s. with_entries s 0 c.args.entries.now) c.bits-sol.ensures

pub loop-i-preserved : goal.loop-i-preserved
loop-i-preserved c =
    let next = c.loop-i.i + 1 in
    ap (λ s. with_entries s next (drop next c.args.entries.now)) c.set_entry.ensures
    ∙ (sym (with_entries-drop c.loop-i.sol c.loop-i.i c.args.entries.now c.loop-i-test.true) ∙ c.loop-i.invariant)

pub returns : goal.returns
returns c =
    sym (with_entries-drop_end c.loop-i.sol c.loop-i.i c.args.entries.now c.loop-i-test.false) ∙ c.loop-i.invariant
