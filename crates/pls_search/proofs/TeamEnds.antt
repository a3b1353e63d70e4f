-- How the search of a team ends: cut short, stopped or closed.
use Rattle.std.proofs.Common.{◌≡◌, ◌⊎◌, ℕ, ◌+◌, ◌%◌, ◌^◌, ◌<◌, ◌≤◌, Bool, true, false, ◌||◌, List, [], ◌∷◌, length, ap, sym, subst, ◌∙◌, arith, inl, inr}
use Rattle.std.proofs.lemmas.List.{length-map}
use Rattle.pls_archive.specs.declared.point.Point.{Point}
use Rattle.pls_archive.specs.declared.call.Call.TheVariants.{Snapshot}
use Rattle.pls_archive.specs.declared.call.Entry.{Entry}
use Rattle.pls_archive.specs.Lists.{total, how_many, one_if, AsOften}
use Rattle.pls_archive.specs.Explorations.{Exploration, is_whole, is_cut, cuts, explorations_of, explored_tasks, tasks_of, tasks, entries_of_run}
use Rattle.pls_archive.specs.SearchRun.{IsClosed, IsStopped, IsCutShort, missing}
use Rattle.pls_archive.proofs.Every.{Every-map, total-le, total-every, total-plus}
use Rattle.pls_pool.specs.DeskRule.{HoldsAll, AllWent}
use Rattle.pls_pool.specs.declared.tally.Tally.{Tally}
use Rattle.pls_problem.specs.declared.instance.Instance.{Instance}
use Rattle.pls_search.specs.Neighbours.{neighbours_of}
use Rattle.pls_search.specs.Workers.{Hands, Work, IsWork, HasLeft}
use Rattle.pls_search.specs.Teams.{runs_of, fulls, spents, ending_with, IsTeam, IsAccounted, IsSmall}
use Rattle.pls_search.proofs.Totals.{as_often, among-length, total-explorations, how_many-both, length-all_tasks}
use Rattle.pls_search.proofs.Turns.{uncut}
use Rattle.pls_search.proofs.TeamBounds.{tasks-few}
use Rattle.pls_search.proofs.TeamRuns.{tasks_of-ended, explored-among, evaluated-within, goes-evaluated}

module _ (i : Instance) (starts : List Point) (first : Work) (others : List Work) (h : Hands) (team : IsTeam i starts first others h) where
  abbrev all : List Work
  all = first ∷ others

  cuts-each : cuts (neighbours_of i) (runs_of all) ≡ total (λ w. one_if (w.spent || w.full)) all
  cuts-each =
      total-explorations all (λ x. one_if (is_cut (neighbours_of i) x))
      ∙ total-every (λ w. how_many (is_cut (neighbours_of i)) w.run.explorations) (λ w. one_if (w.spent || w.full)) all
      (Every-map (IsWork i) (λ w. how_many (is_cut (neighbours_of i)) w.run.explorations ≡ one_if (w.spent || w.full)) (λ w is. is.cut) all team.works)

  -- a worker for which the archive was full, or that found no move, cut an exploration; and only these did
  fulls-cut : fulls all ≤ cuts (neighbours_of i) (runs_of all)
  fulls-cut =
      let each = cuts-each in
      let less = total-le (λ w. one_if w.full) (λ w. one_if (w.spent || w.full)) (λ w. right w.spent w.full) all in
      omega arith
    where
      right : (a b : Bool) → one_if b ≤ one_if (a || b)
      right true true = omega arith
      right true false = omega arith
      right false true = omega arith
      right false false = omega arith

  spents-cut : spents all ≤ cuts (neighbours_of i) (runs_of all)
  spents-cut =
      let each = cuts-each in
      let less = total-le (λ w. one_if w.spent) (λ w. one_if (w.spent || w.full)) (λ w. left w.spent w.full) all in
      omega arith
    where
      left : (a b : Bool) → one_if a ≤ one_if (a || b)
      left true b = omega arith
      left false true = omega arith
      left false false = omega arith

  cuts-spents : cuts (neighbours_of i) (runs_of all) ≤ spents all + fulls all
  cuts-spents =
      let each = cuts-each in
      let sums = total-plus (λ w. one_if w.spent) (λ w. one_if w.full) all in
      let less = total-le (λ w. one_if (w.spent || w.full)) (λ w. one_if w.spent + one_if w.full) (λ w. either w.spent w.full) all in
      omega arith
    where
      either : (a b : Bool) → one_if (a || b) ≤ one_if a + one_if b
      either true true = omega arith
      either true false = omega arith
      either false true = omega arith
      either false false = omega arith

  draws-spents : total (λ w. w.draws) all ≡ total (λ w. w.goes) all + spents all
  draws-spents =
      let sums = total-plus (λ w. w.goes) (λ w. one_if w.spent) all in
      let each = total-every (λ w. w.draws) (λ w. w.goes + one_if w.spent) all
      (Every-map (IsWork i) (λ w. w.draws ≡ w.goes + one_if w.spent) (λ w is. is.drawn) all team.works) in
      omega arith

  -- as many tasks are done as explorations were whole
  done-whole : total (λ w. w.done) all ≡ how_many (is_whole (neighbours_of i)) (explorations_of (runs_of all))
  done-whole =
      total-every (λ w. w.done) (λ w. how_many (is_whole (neighbours_of i)) w.run.explorations) all
      (Every-map (IsWork i) (λ w. w.done ≡ how_many (is_whole (neighbours_of i)) w.run.explorations) (λ w is. is.done_are) all team.works)
      ∙ sym (total-explorations all (λ x. one_if (is_whole (neighbours_of i) x)))

  pub opened-tasks : total (λ w. w.opened) all ≡ length (tasks_of (runs_of all))
  opened-tasks =
      total-every (λ w. w.opened) (λ w. length (tasks (entries_of_run w.run))) all
      (Every-map (IsWork i) (λ w. w.opened ≡ length (tasks (entries_of_run w.run))) (λ w is. is.opened_are) all team.works)
      ∙ sym (length-all_tasks all)

  module _ (e : Entry) (asks : e.call ≡ Snapshot) where
    -- where the archive was full
    pub cut_short : (0 < length (missing starts first.run)) ⊎ (0 < fulls all) → IsCutShort (neighbours_of i) starts (ending_with e first.run) (runs_of others)
    cut_short (inl missed) = inl missed
    cut_short (inr full) = inr (let cut = fulls-cut in omega (arith, full, cut))

    module _ (moves : ℕ) (accounted : IsAccounted moves h) (started : missing starts first.run ≡ []) (unfull : fulls all ≡ 0) where
      -- where no move was left
      pub stopped : 0 < spents all → IsStopped (neighbours_of i) starts moves (ending_with e first.run) (runs_of others)
      stopped spent =
          let goes = goes-evaluated i starts first others h team in
          let draws = draws-spents in
          let cut = spents-cut in
          let within = evaluated-within i starts first others h team moves accounted in
          let all_goes = team.adds_up.goes_are in
          let all_draws = team.adds_up.draws_are in
          let went = accounted.went in
          let budget = accounted.budget in
          record { started = started; spent = omega arith; cut = omega arith }

      -- where no task is open, by the counts of the desk
      pub closed :
          spents all ≡ 0 → IsSmall starts moves → h.tally.done % 2 ^ 64 ≡ h.tally.opened % 2 ^ 64
          → IsClosed (neighbours_of i) starts (ending_with e first.run) (runs_of others)
      closed unspent small quiet =
          let cut = cuts-spents in
          let explorations = explorations_of (runs_of all) in
          let both = how_many-both (is_whole (neighbours_of i)) explorations in
          let done = done-whole in
          let opened = opened-tasks in
          let all_done = team.adds_up.done_are in
          let all_opened = team.adds_up.opened_are in
          let among = explored-among i starts first others h team moves accounted in
          let fewer = among-length (explored_tasks (runs_of all)) (tasks_of (runs_of all)) among in
          let explored = length-map explorations (λ (x : Exploration). x.task) in
          let few = tasks-few i starts first others h team in
          let within = evaluated-within i starts first others h team moves accounted in
          let few_starts = small.few_starts in
          let few_moves = small.few_moves in
          let long : length (explored_tasks (runs_of all)) ≡ length (tasks_of (runs_of all)) = omega arith in
          record {
            started = started;
            all =
                subst (AsOften (explored_tasks (runs_of all))) (sym (tasks_of-ended i starts first others h team e asks))
                (as_often (explored_tasks (runs_of all)) (tasks_of (runs_of all)) among long);
            whole = uncut (neighbours_of i) explorations (omega arith);
          }

-- where no seat keeps a cause, the run was not halted: no task is open
pub no_task_open : (t : Tally) → HasLeft t → HoldsAll t → t.halts ≡ [] → t.done % 2 ^ 64 ≡ t.opened % 2 ^ 64
no_task_open t (inl halted) holds none =
    let some = (halted holds).0 in
    let long = ap length none in absurd (omega arith)
no_task_open t (inr quiet) holds none = (quiet holds).0

pub all_went : (t : Tally) → HasLeft t → HoldsAll t → AllWent t
all_went t (inl halted) holds = (halted holds).1
all_went t (inr quiet) holds = (quiet holds).1
