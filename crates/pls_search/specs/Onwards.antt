-- A worker goes on exploring: what it does in between, whatever it did before, and whoever was joined into its hands.
use Rattle.std.specs.Prelude.{◌≡◌, ◌+◌, Bool, ◌||◌, List, ◌++◌, length, map}
use Rattle.std.specs.List.{flat_map}
use Rattle.pls_archive.specs.Lists.{Every, IsAmong, total, how_many, one_if}
use Rattle.pls_archive.specs.History.{submissions}
use Rattle.pls_archive.specs.Explorations.{Task, Exploration, IsExploration, OnlyLastIsCut, tasks, entries_of, evaluated_in, is_whole, is_cut}
use Rattle.pls_problem.specs.declared.instance.Instance.{Instance}
use Rattle.pls_search.specs.Neighbours.{neighbours_of, IsPointOf}
use Rattle.pls_search.specs.Workers.{Hands, Work, Did, is_explored}

-- Between two moments a worker made these explorations, of tasks that it took. Only the last may be cut: where no move was left,
-- or the archive was full.
pub record ExploresOn (i : Instance) (spent full : Bool) (before after : Hands) : Type 0 where
  pub explorations : List Exploration
  pub took : List Task
  pub each : Every (IsExploration (neighbours_of i)) explorations
  pub last : OnlyLastIsCut (neighbours_of i) explorations
  pub cut : how_many (is_cut (neighbours_of i)) explorations ≡ one_if (spent || full)
  pub points : Every (IsPointOf i) (submissions (flat_map entries_of explorations))
  pub taken : IsAmong (map (λ x. x.task) explorations) took
  pub did :
      Did (flat_map entries_of explorations) took (total evaluated_in explorations + one_if full + one_if spent)
      (total evaluated_in explorations + one_if full) (how_many (is_whole (neighbours_of i)) explorations)
      (how_many (is_explored i) explorations) (total evaluated_in explorations) before after

-- the work with what came to it
module _ {i : Instance} {spent full : Bool} {before after : Hands} where
  abbrev pub grown : Work → ExploresOn i spent full before after → Work
  grown w on = record {
    run = record { starts = w.run.starts; explorations = w.run.explorations ++ on.explorations; last = w.run.last };
    spent = spent;
    full = full;
    put = λ test. w.put test + how_many test (tasks (flat_map entries_of on.explorations));
    taken = λ test. w.taken test + how_many test on.took;
    opened = w.opened + length (tasks (flat_map entries_of on.explorations));
    done = w.done + how_many (is_whole (neighbours_of i)) on.explorations;
    draws = w.draws + (total evaluated_in on.explorations + one_if full + one_if spent);
    goes = w.goes + (total evaluated_in on.explorations + one_if full);
  }
