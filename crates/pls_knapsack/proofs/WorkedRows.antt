-- The neighbours of small choices, computed.
use Rattle.std.proofs.Common.{◌≡◌, ℕ, pos, [], ◌∷◌, replicate, refl}
use Rattle.pls_vectors.specs.Solution.{Solution}
use Rattle.pls_knapsack.specs.Instance.{Instance, value, fits, no_other_bit, feasible, filled, greedy}
use Rattle.pls_knapsack.specs.Neighbours.{points, neighbours}

-- the choice among n items whose bits are those of the number
choice : ℕ → ℕ → Solution
choice n bits = record { len = n; words = bits ∷ replicate 31 0 }

-- two items that both fit
two_items : Instance
two_items =
    record {
      items = 2;
      objectives = 2;
      rules = 1;
      profits = 3 ∷ 1 ∷ 1 ∷ 3 ∷ [];
      capacities = 10 ∷ [];
      weights = 2 ∷ 3 ∷ [];
    }

-- one item that does not fit
one_item : Instance
one_item =
    record {
      items = 1;
      objectives = 2;
      rules = 1;
      profits = 1 ∷ 1 ∷ [];
      capacities = 0 ∷ [];
      weights = 1 ∷ [];
    }

-- two equal items of which one fits
equal_items : Instance
equal_items =
    record {
      items = 2;
      objectives = 2;
      rules = 1;
      profits = 1 ∷ 1 ∷ 1 ∷ 1 ∷ [];
      capacities = 2 ∷ [];
      weights = 2 ∷ 2 ∷ [];
    }

-- three items of which two fit, but not the third with another
three_items : Instance
three_items =
    record {
      items = 3;
      objectives = 2;
      rules = 1;
      profits = 3 ∷ 1 ∷ 2 ∷ 1 ∷ 3 ∷ 2 ∷ [];
      capacities = 5 ∷ [];
      weights = 2 ∷ 3 ∷ 4 ∷ [];
    }

greedy-two_items : greedy two_items (0 ∷ 1 ∷ []) ≡ choice 2 3
unfolding choice two_items no_other_bit fits feasible filled greedy
greedy-two_items = refl

neighbours-two_items :
    neighbours two_items (choice 2 3) ≡ (pos 1 ∷ pos 3 ∷ [], choice 2 2) ∷ (pos 3 ∷ pos 1 ∷ [], choice 2 1) ∷ []
unfolding choice two_items value no_other_bit fits feasible points neighbours
neighbours-two_items = refl

greedy-one_item : greedy one_item (0 ∷ []) ≡ choice 1 0
unfolding choice one_item no_other_bit fits feasible filled greedy
greedy-one_item = refl

neighbours-one_item : neighbours one_item (choice 1 0) ≡ []
unfolding choice one_item value no_other_bit fits feasible points neighbours
neighbours-one_item = refl

greedy-equal_items : greedy equal_items (0 ∷ 1 ∷ []) ≡ choice 2 1
unfolding choice equal_items no_other_bit fits feasible filled greedy
greedy-equal_items = refl

neighbours-equal_items :
    neighbours equal_items (choice 2 1) ≡ (pos 0 ∷ pos 0 ∷ [], choice 2 0) ∷ (pos 1 ∷ pos 1 ∷ [], choice 2 2) ∷ []
unfolding choice equal_items value no_other_bit fits feasible points neighbours
neighbours-equal_items = refl

neighbours-three_items :
    neighbours three_items (choice 3 4)
    ≡ (pos 0 ∷ pos 0 ∷ [], choice 3 0) ∷ (pos 3 ∷ pos 1 ∷ [], choice 3 1) ∷ (pos 1 ∷ pos 3 ∷ [], choice 3 2) ∷ []
unfolding choice three_items value no_other_bit fits feasible points neighbours
neighbours-three_items = refl
