-- The counts of a team's search, and that each task that was taken is one of the instance.
use Rattle.std.proofs.Common.{◌≡◌, ◌⊎◌, ℕ, ◌+◌, ◌^◌, ◌<◌, ◌≤◌, ◌==◌, Bool, false, not, List, [], ◌∷◌, length, map, refl, ap, sym, ◌∙◌, arith, inl, inr}
use Rattle.std.proofs.lemmas.Bool.{and_from, eq-eqb}
use Rattle.std.proofs.lemmas.List.{length-map, length-drop}
use Rattle.pls_archive.specs.declared.point.Point.{Point}
use Rattle.pls_archive.specs.declared.call.Call.{Call}
use Rattle.pls_archive.specs.declared.call.Call.TheVariants.{Update, Covered, Member, Snapshot}
use Rattle.pls_archive.specs.declared.call.Reply.{Reply}
use Rattle.pls_archive.specs.declared.call.Reply.TheVariants.{Added, Refused, Yes, No, Points}
use Rattle.pls_archive.specs.declared.call.Entry.{Entry}
use Rattle.pls_archive.specs.Lists.{Every, IsAmong, total, how_many, one_if}
use Rattle.pls_archive.specs.Rule.{submitted_by, accepted_by, is_accepting}
use Rattle.pls_archive.specs.History.{submissions, accepts, accepting}
use Rattle.pls_archive.specs.Serialization.{AreSequentiallyConsistent}
use Rattle.pls_archive.specs.Explorations.{Task, CallerRun, tasks_by, tasks, entries_of_run, tasks_of, explorations_of, explored_tasks, explored, accepted_count}
use Rattle.pls_archive.specs.SearchRun.{missing}
use Rattle.pls_archive.proofs.Counted.{counts_accepting}
use Rattle.pls_archive.proofs.Every.{Every-append, Every-left, Every-right, Every-map, total-same, total-map, total-every, length-filter, length-flat_map}
use Rattle.pls_problem.specs.Instance.{feasible, objectives}
use Rattle.pls_problem.specs.declared.instance.Instance.{Instance}
use Rattle.pls_search.specs.Neighbours.{neighbours_of, is_of, IsPointOf}
use Rattle.pls_search.specs.Workers.{Hands, Work, IsWork, is_explored, taken_by}
use Rattle.pls_search.specs.Teams.{runs_of, fulls, ending_with, IsTeam, IsAccounted, IsSmall}
use Rattle.pls_search.specs.Outcomes.{HasCounts}
use Rattle.pls_search.proofs.Counting.{HasCounted-exact}
use Rattle.pls_search.proofs.Totals.{how_many-both, among-length}
use Rattle.pls_search.proofs.TeamRuns.{tasks_of-ended, evaluated-full, evaluated-within}
use Rattle.pls_search.proofs.TeamBounds.{tasks-begun, tasks-few}

-- ---- what holds of all submissions holds of the tasks

-- the tasks of a call with this reply and stamp
abbrev made_by : ℕ → Call → Reply → List Task
made_by n call answer = map (λ p. record { point = p; stamp = n }) (accepted_by call answer)

module _ (P : Point → Type 0) where
  accepted-Every :
      (n : ℕ) (call : Call) (answer : Reply) → Every P (submitted_by call)
      → Every (λ (t : Task). P t.point) (made_by n call answer)
  accepted-Every n (Update p) (Added removed) each = each
  accepted-Every n (Update p) Refused each = tt
  accepted-Every n (Update p) Yes each = tt
  accepted-Every n (Update p) No each = tt
  accepted-Every n (Update p) (Points points) each = tt
  accepted-Every n (Covered v) answer each = tt
  accepted-Every n (Member v) answer each = tt
  accepted-Every n Snapshot answer each = tt

  pub tasks-Every : (es : List Entry) → Every P (submissions es) → Every (λ (t : Task). P t.point) (tasks es)
  tasks-Every [] each = tt
  tasks-Every (e ∷ es) each =
      Every-append (λ (t : Task). P t.point) (tasks_by e) (tasks es)
      (accepted-Every e.stamp e.call e.reply (Every-left P (submitted_by e.call) (submissions es) each))
      (tasks-Every es (Every-right P (submitted_by e.call) (submissions es) each))

how_many-none : {A : Type 0} (test : A → Bool) (xs : List A) → Every (λ x. test x ≡ false) xs → how_many test xs ≡ 0
how_many-none test [] none = refl
how_many-none test (x ∷ xs) none =
    let first = ap one_if none.0 in
    let rest = how_many-none test xs none.1 in omega arith

passes : (i : Instance) (p : Point) → IsPointOf i p → not (is_of i p) ≡ false
passes i p is = ap not (and_from (feasible i p.sol) (length p.value == objectives i) is.feasible (eq-eqb (length p.value) (objectives i) is.parts))

-- ---- as many entries are accepting as tasks are made

accepting-one : (n : ℕ) (call : Call) (answer : Reply) → one_if (is_accepting call answer) ≡ length (made_by n call answer)
accepting-one n (Update p) (Added removed) = refl
accepting-one n (Update p) Refused = refl
accepting-one n (Update p) Yes = refl
accepting-one n (Update p) No = refl
accepting-one n (Update p) (Points points) = refl
accepting-one n (Covered v) answer = refl
accepting-one n (Member v) answer = refl
accepting-one n Snapshot answer = refl

accepting-tasks : (es : List Entry) → length (accepting es) ≡ length (tasks es)
accepting-tasks es =
    length-filter accepts es
    ∙ (total-same (λ e. one_if (accepts e)) (λ e. length (tasks_by e)) (λ e. accepting-one e.stamp e.call e.reply) es
    ∙ sym (length-flat_map tasks_by es))

-- so there are as many accepted points as accepting entries
pub accepted-observed :
    (reply : List Point → Call → Reply) (n : ℕ) (runs : List CallerRun) → AreSequentiallyConsistent reply n (map entries_of_run runs) → accepted_count runs ≡ n
accepted-observed reply n runs consistent =
    length-flat_map (λ r. tasks (entries_of_run r)) runs
    ∙ (sym (total-same (λ r. length (accepting (entries_of_run r))) (λ r. length (tasks (entries_of_run r))) (λ r. accepting-tasks (entries_of_run r)) runs)
    ∙ (sym (total-map (λ es. length (accepting es)) entries_of_run runs)
    ∙ (sym (length-flat_map accepting (map entries_of_run runs)) ∙ counts_accepting reply n (map entries_of_run runs) consistent)))

module _ (i : Instance) (starts : List Point) (first : Work) (others : List Work) (h : Hands) (team : IsTeam i starts first others h) where
  abbrev all : List Work
  all = first ∷ others

  -- no task that was taken fails the test of a worker
  put-ours : total (λ w. w.put (λ t. not (is_of i t.point))) all ≡ 0
  put-ours =
      total-every (λ w. w.put (λ t. not (is_of i t.point))) (λ _. 0) all
      (Every-map (IsWork i) (λ w. w.put (λ t. not (is_of i t.point)) ≡ 0) each all team.works)
      ∙ total-nothing all
    where
      each : (w : Work) → IsWork i w → w.put (λ t. not (is_of i t.point)) ≡ 0
      each w is =
          let made = tasks (entries_of_run w.run) in
          is.put_are (λ t. not (is_of i t.point))
          ∙ how_many-none (λ t. not (is_of i t.point)) made
          (Every-map (λ (t : Task). IsPointOf i t.point) (λ (t : Task). not (is_of i t.point) ≡ false) (λ t. passes i t.point) made
          (tasks-Every (IsPointOf i) (entries_of_run w.run) is.points))

      total-nothing : (works : List Work) → total (λ _. 0) works ≡ 0
      total-nothing [] = refl
      total-nothing (w ∷ works) = let rest = total-nothing works in omega arith

  module _ (moves : ℕ) (accounted : IsAccounted moves h) where
    pub taken-ours : taken_by h (λ t. not (is_of i t.point)) ≡ 0
    taken-ours =
        let among = accounted.among (λ t. not (is_of i t.point)) in
        let put = team.adds_up.put_are (λ t. not (is_of i t.point)) in
        let none = put-ours in omega arith

    -- there are few accepted points
    pub few_accepted : (e : Entry) → e.call ≡ Snapshot → IsSmall starts moves → accepted_count (ending_with e first.run ∷ runs_of others) ≤ 10 ^ 9 + 64
    few_accepted e asks small =
        let made = ap length (tasks_of-ended i starts first others h team e asks) in
        let few = tasks-few i starts first others h team in
        let within = evaluated-within i starts first others h team moves accounted in
        let few_starts = small.few_starts in
        let few_moves = small.few_moves in omega arith

    -- and fewer than starts and moves, where there was no room for one more
    pub fewer_accepted :
        (e : Entry) → e.call ≡ Snapshot → (0 < length (missing starts first.run)) ⊎ (0 < fulls all)
        → accepted_count (ending_with e first.run ∷ runs_of others) < length starts + moves
    fewer_accepted e asks (inl missed) =
        let made = ap length (tasks_of-ended i starts first others h team e asks) in
        let begun = tasks-begun i starts first others h team in
        let within = evaluated-within i starts first others h team moves accounted in
        let left = length-drop (length first.run.starts) starts in omega (arith, missed, left)
    fewer_accepted e asks (inr full) =
        let made = ap length (tasks_of-ended i starts first others h team e asks) in
        let few = tasks-few i starts first others h team in
        let within = evaluated-full i starts first others h team moves accounted in omega (arith, full)

    -- so the counts in the hands are exact
    pub HasCounts-team :
        (e : Entry) → e.call ≡ Snapshot → IsSmall starts moves → h.explored < 2 ^ 64 → h.evaluated < 2 ^ 64
        → IsAmong (explored_tasks (ending_with e first.run ∷ runs_of others)) (tasks_of (ending_with e first.run ∷ runs_of others))
        → (n : ℕ) → n ≡ accepted_count (ending_with e first.run ∷ runs_of others)
        → HasCounts i (ending_with e first.run ∷ runs_of others) h.explored h.evaluated n
    HasCounts-team e asks small few_explored few_evaluated among n accepted =
        let runs = runs_of all in
        let ended = ending_with e first.run ∷ runs_of others in
        let few = few_accepted e asks small in
        let tasks_few = among-length (explored_tasks ended) (tasks_of ended) among in
        let tasks_are : length (explored_tasks ended) ≡ length (explorations_of runs) = length-map (explorations_of runs) (λ x. x.task) in
        let wholes : explored (neighbours_of i) runs + how_many (λ x. not (is_explored i x)) (explorations_of runs) ≡ length (explorations_of runs) =
        how_many-both (is_explored i) (explorations_of runs) in
        let within = evaluated-within i starts first others h team moves accounted in
        let few_moves = small.few_moves in
        let exact =
        HasCounted-exact i runs h team.counts few_explored few_evaluated (omega (arith, few, tasks_few, tasks_are, wholes)) (omega (arith, within, few_moves)) in
        record { explored_are = exact.0; evaluated_are = exact.1; accepted_are = accepted }
