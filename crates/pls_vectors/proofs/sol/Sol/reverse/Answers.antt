use Rattle.std.proofs.Common.{◌≡◌, ◌-◌, ◌+◌, refl, ap, sym, subst, ◌∙◌, arith, rules}
use Rattle.pls_vectors.specs.Solution.{Solution, reversed}
use Rattle.pls_vectors.proofs.Entries.{HasWords}
use Rattle.pls_vectors.proofs.Rearranged.{HasWords-swapped, len-swapped, reversed-step, reversed-end}
use Rattle.pls_vectors.proofs.sol.Sol.reverse.Goals as goal

pub loop-low-init : goal.loop-low-init
loop-low-init c =
    let few = c.self.invariant in
    let len = ap (λ (s : Solution). s.len) c.self.view_is in
    let ordered = c.requires.order in
    let within = c.requires.within in
    record {
      left = refl;
      has = subst HasWords c.self.view_is (record { many = c.self.told; fit = search rules });
      few = omega arith;
      ordered = omega arith;
      low_in = omega arith;
      within = within;
    }

pub loop-low-preserved : goal.loop-low-preserved
loop-low-preserved c =
    let w = c.loop-low.invariant in
    let less = c.loop-low-test.true in
    let is = c.swap.ensures in
    let len : c.swap.new.self.len ≡ c.loop-low.self.len = ap (λ (s : Solution). s.len) is ∙ len-swapped c.loop-low.self c.loop-low.low c.loop-low.high in
    let few = w.few in
    let within = w.within in
    record {
      left = ap (λ s. reversed s (c.loop-low.low + 1) (c.loop-low.high - 1)) is
          ∙ (reversed-step c.loop-low.self c.loop-low.low c.loop-low.high w.has less (omega arith) ∙ w.left);
      has = rw is (HasWords-swapped c.loop-low.self c.loop-low.low c.loop-low.high w.has (omega arith) (omega arith));
      few = omega arith;
      ordered = omega arith;
      low_in = omega arith;
      within = omega arith;
    }

pub returns : goal.returns
returns c =
    let w = c.loop-low.invariant in
    let few = w.few in
    let low_in = w.low_in in
    sym (reversed-end c.loop-low.self c.loop-low.low c.loop-low.high w.has c.loop-low-test.false w.ordered (omega arith)) ∙ w.left
