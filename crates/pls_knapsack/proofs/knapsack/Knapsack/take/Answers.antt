use Rattle.std.proofs.Common.{lit<, ◌≡◌, ℕ, false, sym, subst, inl, inr, ◌∙◌, arith}
use Rattle.std.proofs.lemmas.Bool.{cases_eq}
use Rattle.pls_vectors.specs.Solution.{chosen}
use Rattle.pls_knapsack.proofs.Tallies.{tally-item, value-take, rooms_fit, IsTally-take}
use Rattle.pls_knapsack.proofs.knapsack.Knapsack.take.Goals as goal

pub subtract-requires : goal.subtract-requires
subtract-requires c = (
  lit< tt,
  λ row at.
      let less =
      value-take c.args.self.now c.args.tally.now c.amounts-amounts.ensures.limits c.requires.tally c.args.item c.requires.item_in c.amounts-amounts.result.now c.amounts-amounts.ensures.item
      c.requires.taken row at in
      omega arith,
)

pub add-requires : goal.add-requires
add-requires c = (lit< tt, rooms_fit c.args.self.now c.args.tally.now c.amounts-amounts.ensures.limits c.requires.tally c.args.item c.requires.item_in _ c.amounts-amounts.ensures.item)

pub set_bit-requires : goal.set_bit-requires
set_bit-requires c = tally-item c.args.self.now c.args.tally.now c.args.item c.requires.tally c.requires.item_in

pub returns-clause-tally : goal.returns-clause-tally
returns-clause-tally c =
    IsTally-take c.args.self.now c.args.tally.now c.amounts-amounts.ensures.limits c.requires.tally c.args.item c.requires.item_in _ c.amounts-amounts.ensures.item
    _ c.requires.taken c.set_bit.ensures.value c.subtract.ensures c.add.ensures

pub returns-clause-smaller : goal.returns-clause-smaller
returns-clause-smaller c = λ other free.
    elim (cases_eq other c.args.item) [
      | inl same ↦ subst (λ (m : ℕ). chosen c.set_bit.new.self m ≡ false) (sym same) c.set_bit.ensures.set
      | inr apart ↦ c.set_bit.ensures.others other apart ∙ free
    ]
