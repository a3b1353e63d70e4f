use Rattle.pls_knapsack.proofs.Tallies.{tally-item}
use Rattle.pls_knapsack.proofs.knapsack.Knapsack.solution.Goals as goal
use Rattle.pls_knapsack.proofs.knapsack.Knapsack.solution.Goals.{then-walk, else-walk}

pub bit-requires : goal.bit-requires
bit-requires c =
    let walk = c.args.walk.now in
    elim c.if-walk.branch [
      | then-walk w ↦ rw w.base-is (tally-item c.args.self.now walk.start walk.item c.requires.start c.requires.item_in)
      | else-walk w ↦ rw w.base-is (tally-item c.args.self.now walk.reduced walk.item c.requires.reduced c.requires.item_in)
    ]

pub set_bit-requires : goal.set_bit-requires
set_bit-requires c =
    let walk = c.args.walk.now in
    elim c.if-walk.branch [
      | then-walk w ↦ rw w.base-is (tally-item c.args.self.now walk.start walk.item c.requires.start c.requires.item_in)
      | else-walk w ↦ rw w.base-is (tally-item c.args.self.now walk.reduced walk.item c.requires.reduced c.requires.item_in)
    ]
