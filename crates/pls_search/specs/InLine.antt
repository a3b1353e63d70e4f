-- A worker explores the tasks in order, where the pool was made for its seat alone.
use Rattle.std.specs.Prelude.{Bool, List, ◌++◌, length, map}
use Rattle.pls_archive.specs.Lists.{Every}
use Rattle.pls_archive.specs.History.{submissions}
use Rattle.pls_archive.specs.Explorations.{Task}
use Rattle.pls_archive.specs.Sequential.{InOrder}
use Rattle.pls_problem.specs.declared.instance.Instance.{Instance}
use Rattle.pls_search.specs.Neighbours.{IsPointOf}
use Rattle.pls_search.specs.Workers.{Hands, LinesUp}
use Rattle.pls_search.specs.Onwards.{ExploresOn}

-- What it explored in between are the tasks that its entries made, in order, from the first that was not explored before.
pub record ExploresInLine (i : Instance) (before after : Hands) (spent full : Bool) : Type 0 where
  pub on : ExploresOn i spent full before after
  pub in_order :
      (explored : List Task) → LinesUp explored before → Every (IsPointOf i) (submissions before.view.own)
      → InOrder before.view.own (length explored) on.explorations × LinesUp (explored ++ map (λ x. x.task) on.explorations) after
