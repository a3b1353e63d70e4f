use Rattle.std.proofs.Common.{◌≡◌, ◌==◌, true, ap, sym, ◌∙◌}
use Rattle.std.proofs.lemmas.Bool.{eqb-true, and_left, and_right}
use Rattle.pls_knapsack.specs.Instance.{Instance, no_other_bit}
use Rattle.pls_knapsack.proofs.Tallies.{feasible-fits, feasible-unclean}
use Rattle.pls_knapsack.proofs.knapsack.Knapsack.is_feasible.Goals as goal
use Rattle.pls_knapsack.proofs.knapsack.Knapsack.is_feasible.Goals.{then-len-self, else-len-self}

pub returns-then-has_no_other_bit : goal.returns-then-has_no_other_bit
returns-then-has_no_other_bit c =
    let items = ap (λ (k : Instance). k.items) c.self.view_is in
    elim c.if-len-self.branch [
      | then-len-self w ↦
          let long = sym c.len.ensures.value ∙ (w.if-len-self.true ∙ items) in
          let clean : no_other_bit c.args.self.now.items c.args.sol.now ≡ true = rw (← items) (sym w.has_no_other_bit.ensures ∙ (sym w.value-is ∙ c.if-has_no_other_bit.true)) in
          c.is_within_capacities.ensures ∙ sym (feasible-fits c.args.self.now c.args.sol.now long clean)
      | else-len-self w ↦ absurd (w.if-len-self.false (eqb-true _ _ (sym w.value-is ∙ c.if-has_no_other_bit.true)))
    ]

pub returns-else-has_no_other_bit : goal.returns-else-has_no_other_bit
returns-else-has_no_other_bit c =
    let items = ap (λ (k : Instance). k.items) c.self.view_is in
    let s = c.args.sol.now in
    c.if-has_no_other_bit.false
    ∙ sym (feasible-unclean c.args.self.now s
    (elim c.if-len-self.branch [
      | then-len-self w ↦
          and_right (s.len == c.args.self.now.items) _ (rw (← items) (sym w.has_no_other_bit.ensures ∙ (sym w.value-is ∙ c.if-has_no_other_bit.false)))
      | else-len-self w ↦
          and_left (s.len == c.args.self.now.items) _ (rw (← items, ← c.len.ensures.value) (sym w.value-is ∙ c.if-has_no_other_bit.false))
    ]))
