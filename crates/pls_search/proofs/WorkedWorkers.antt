-- What one worker did on a small instance, computed: it submits a start, and has a move for the first of its two neighbours.
use Rattle.std.specs.Prelude.{◌≡◌, ℕ, Bool, true, false, [], ◌∷◌, pos, Ok, Err}
use Rattle.std.proofs.Common.{refl, arith}
use Rattle.pls_vectors.specs.Solution.{no_items, with_item}
use Rattle.pls_knapsack.specs.Instance.{value, fits, no_other_bit, feasible}
use Rattle.pls_knapsack.specs.Neighbours.{points, neighbours}
use Rattle.pls_archive.specs.declared.point.Point.{Point}
use Rattle.pls_archive.specs.declared.call.Call.TheVariants.{Update, Member}
use Rattle.pls_archive.specs.declared.call.Reply.TheVariants.{Added, Refused, Yes, No}
use Rattle.pls_archive.specs.declared.call.Entry.{Entry}
use Rattle.pls_archive.specs.Lists.{one_if}
use Rattle.pls_archive.specs.Explorations.{Task, Exploration, CallerRun}
use Rattle.pls_archive.specs.Sequential.{InOrder, sequential_run}
use Rattle.pls_archive.specs.Reply.{nondominated}
use Rattle.pls_pool.specs.Accounts.{Account}
use Rattle.pls_pool.specs.Tallies.{started, opening}
use Rattle.pls_pool.specs.declared.cause.Cause.TheVariants.{Spent}
use Rattle.pls_problem.specs.declared.instance.Instance.{Instance}
use Rattle.pls_problem.specs.declared.instance.Instance.TheVariants.{Knapsack}
use Rattle.pls_problem.specs.Instance.{value as value_of, neighbours as all_neighbours, feasible as feasible_of}
use Rattle.pls_search.specs.declared.task.Task.{Task as Waiting}
use Rattle.pls_search.specs.Neighbours.{point_of, neighbours_of, is_of}
use Rattle.pls_search.specs.Workers.{Hands, Did, Work, IsWork, HasCounted, LinesUp, IsNewWorker, is_explored}
use Rattle.pls_search.specs.Steps.{causes_of}

-- two items that fit together
abbrev two : Instance
two = Knapsack (record {
  items = 2;
  objectives = 2;
  rules = 1;
  capacities = 10 ∷ [];
  profits = 3 ∷ 1 ∷ 1 ∷ 3 ∷ [];
  weights = 2 ∷ 3 ∷ [];
})

abbrev both : Point
both = point_of two (with_item (with_item (no_items 2) 0 true) 1 true)

-- the second item alone, which is the first neighbour
abbrev second : Point
second = point_of two (with_item (no_items 2) 1 true)

-- ---- points of the instance

both_is : is_of two both ≡ true
unfolding value fits no_other_bit feasible value_of feasible_of
both_is = refl

-- a value with a part too many is none
three_parts : is_of two (record { value = pos 4 ∷ pos 4 ∷ pos 4 ∷ []; sol = both.sol }) ≡ false
unfolding value fits no_other_bit feasible value_of feasible_of
three_parts = refl

-- and so is a solution of three items
three_items : is_of two (record { value = both.value; sol = no_items 3 }) ≡ false
unfolding value fits no_other_bit feasible value_of feasible_of
three_items = refl

-- ---- what was done

abbrev start : Entry
start = record { caller = 0; stamp = 1; call = Update both; reply = Added 0 }

abbrev question : Entry
question = record { caller = 0; stamp = 1; call = Member both.value; reply = Yes }

abbrev refused : Entry
refused = record { caller = 0; stamp = 1; call = Update second; reply = Refused }

abbrev first : Task
first = record { point = both; stamp = 1 }

abbrev exploration : Exploration
exploration = record { task = first; asked = question; updates = refused ∷ [] }

-- the same as in the sequential run with one move
abbrev alone : CallerRun
alone = sequential_run nondominated (neighbours_of two) (both ∷ []) 1

starts_alone : alone.starts ≡ start ∷ []
unfolding value fits no_other_bit feasible points neighbours value_of all_neighbours
starts_alone = refl

explores_alone : alone.explorations ≡ exploration ∷ []
unfolding value fits no_other_bit feasible points neighbours value_of all_neighbours
explores_alone = refl

abbrev how_many_first : (Task → Bool) → ℕ
how_many_first test = one_if (test first)

-- one task was opened and none is done; two moves were drawn, the second in vain
abbrev work : Work
work = record {
  run = record { starts = start ∷ []; explorations = exploration ∷ []; last = [] };
  spent = true;
  full = false;
  put = how_many_first;
  taken = how_many_first;
  opened = 1;
  done = 0;
  draws = 2;
  goes = 1;
}

work_is : IsWork two work
unfolding value fits no_other_bit feasible points neighbours value_of all_neighbours feasible_of
work_is = record {
  explores = record {
    each = (record { asks = refl; updates = refl; submits = (point_of two (with_item (no_items 2) 0 true) ∷ [], refl) }, tt);
    cut = ((λ more. absurd (omega arith)), tt);
  };
  points = (record { feasible = refl; value = refl; parts = refl }, (record { feasible = refl; value = refl; parts = refl }, tt));
  put_are = λ test. omega arith;
  opened_are = refl;
  taken_are = λ test. omega arith;
  done_are = refl;
  cut = refl;
  went = refl;
  drawn = refl;
}

-- an exploration that was cut is not done, and is cut for a cause; a draw in vain is told
done_fails : ¬ IsWork two (record work { done = 1 })
unfolding value fits no_other_bit feasible points neighbours value_of all_neighbours feasible_of
done_fails is = let none : 1 ≡ 0 = is.done_are in omega (arith, none)

uncut_fails : ¬ IsWork two (record work { spent = false })
unfolding value fits no_other_bit feasible points neighbours value_of all_neighbours feasible_of
uncut_fails is = let none : 1 ≡ 0 = is.cut in omega (arith, none)

undrawn_fails : ¬ IsWork two (record work { draws = 1 })
undrawn_fails is = let none : 1 ≡ 2 = is.drawn in omega (arith, none)

-- ---- hands

abbrev nothing : Account Waiting
nothing = record { numbers = 0 ∷ []; put = λ test. 0; taken = λ test. 0; spare = []; waiting = [] }

abbrev at_first : Hands
at_first = record { view = record { number = 0; observed = []; own = []; others = [] }; account = nothing; tally = started 1 1 1; explored = 0; evaluated = 0 }

new_is : IsNewWorker at_first
new_is = record { own = refl; put = λ test. refl; taken = λ test. refl; opened = refl; done = refl; draws = refl; goes = refl; explored = refl; evaluated = refl }

abbrev waiting : Waiting
waiting = record { point = both; stamp = 1 }

-- the start was submitted, and its task waits
abbrev begun : Hands
begun = record {
  view = record { number = 0; observed = start ∷ []; own = start ∷ []; others = [] };
  account = record nothing { put = λ test. one_if (test waiting); waiting = waiting ∷ [] };
  tally = opening at_first.tally;
  explored = 0;
  evaluated = 0;
}

begun_did : Did (start ∷ []) [] 0 0 0 0 0 at_first begun
begun_did = record {
  own = refl;
  put = λ test. omega arith;
  taken = λ test. refl;
  opened = refl;
  draws_are = refl;
  goes_are = refl;
  done_are = refl;
  explored_are = refl;
  evaluated_are = refl;
}

begun_lines : LinesUp [] begun
begun_lines = refl

in_order : InOrder begun.view.own 0 (exploration ∷ [])
in_order = (refl, tt)

-- ---- counts

-- a cut exploration and a skipped one are not counted, and a whole one is
cut_counts_none : is_explored two exploration ≡ false
unfolding value fits no_other_bit feasible points neighbours value_of all_neighbours
cut_counts_none = refl

skipped_counts_none : is_explored two (record { task = first; asked = record question { reply = No }; updates = [] }) ≡ false
unfolding value fits no_other_bit feasible points neighbours value_of all_neighbours
skipped_counts_none = refl

whole_counts : is_explored two (record exploration { updates = refused ∷ refused ∷ [] }) ≡ true
unfolding value fits no_other_bit feasible points neighbours value_of all_neighbours
whole_counts = refl

counts_are : HasCounted two (work.run ∷ []) (record begun { evaluated = 1 })
unfolding value fits no_other_bit feasible points neighbours value_of all_neighbours
counts_are = record { explored_are = refl; evaluated_are = refl }

-- ---- causes

spent_told : causes_of {A = Unit} (Err Spent) ≡ Spent ∷ []
spent_told = refl

nothing_told : causes_of {A = Unit} (Ok (tt {0})) ≡ []
nothing_told = refl
