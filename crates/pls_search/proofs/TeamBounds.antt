-- How many tasks there are: no more than starts and evaluated neighbours.
use Rattle.std.proofs.Common.{◌≡◌, ◌+◌, ◌≤◌, min, List, [], ◌∷◌, ◌++◌, length, take, refl, ap, sym, ◌∙◌, arith}
use Rattle.std.specs.List.{flat_map}
use Rattle.std.proofs.lemmas.List.{append-nil, length-map, length-append, length-take}
use Rattle.pls_archive.specs.declared.point.Point.{Point}
use Rattle.pls_archive.specs.declared.call.Call.{Call}
use Rattle.pls_archive.specs.declared.call.Call.TheVariants.{Update, Covered, Member, Snapshot}
use Rattle.pls_archive.specs.declared.call.Entry.{Entry}
use Rattle.pls_archive.specs.Lists.{Every, total}
use Rattle.pls_archive.specs.Rule.{submitted_by}
use Rattle.pls_archive.specs.History.{submissions}
use Rattle.pls_archive.specs.Explorations.{Exploration, CallerRun, IsExploration, entries_of, entries_of_run, evaluated, evaluated_in, tasks, tasks_of}
use Rattle.pls_archive.specs.SearchRun.{SubmitsFirst, OnlyExplores}
use Rattle.pls_archive.proofs.Every.{Every-map, total-every_le}
use Rattle.pls_archive.proofs.Histories.{submissions-append}
use Rattle.pls_archive.proofs.SequentialCalls.{length-tasks}
use Rattle.pls_archive.proofs.ViewsFilters.{Every-paired}
use Rattle.pls_problem.specs.declared.instance.Instance.{Instance}
use Rattle.pls_search.specs.Neighbours.{neighbours_of}
use Rattle.pls_search.specs.Workers.{Hands, Work, IsWork}
use Rattle.pls_search.specs.Teams.{runs_of, IsTeam}
use Rattle.pls_search.proofs.Totals.{length-all_tasks}
use Rattle.pls_search.proofs.TeamRuns.{evaluated-each}

-- a call submits at most one point
submits-one : (call : Call) → length (submitted_by call) ≤ 1
submits-one (Update p) = omega arith
submits-one (Covered v) = omega arith
submits-one (Member v) = omega arith
submits-one Snapshot = omega arith

submits-few : (es : List Entry) → length (submissions es) ≤ length es
submits-few [] = omega arith
submits-few (e ∷ es) =
    let parts = length-append (submitted_by e.call) (submissions es) in
    let one = submits-one e.call in
    let rest = submits-few es in omega arith

-- no more starts were submitted than there are
starts-few : (starts : List Point) (es : List Entry) → SubmitsFirst starts es → length es ≤ length starts
starts-few starts es begins =
    let long : length es ≡ min (length es) (length starts) =
    sym (length-map es (λ (e : Entry). e.call))
    ∙ (ap length begins ∙ (length-map (take (length es) starts) Update ∙ length-take (length es) starts)) in omega arith

-- explorations submit what they evaluated
explored-submits :
    (neighbours : Point → List Point) (xs : List Exploration) → Every (IsExploration neighbours) xs
    → length (submissions (flat_map entries_of xs)) ≡ total evaluated_in xs
explored-submits neighbours [] each = refl
explored-submits neighbours (x ∷ xs) each =
    let parts = ap length (submissions-append (entries_of x) (flat_map entries_of xs))
    ∙ length-append (submissions (entries_of x)) (submissions (flat_map entries_of xs)) in
    let one : length (submissions (entries_of x)) ≡ evaluated_in x =
    ap (λ (call : Call). length (submitted_by call ++ submissions x.updates)) each.0.asks in
    let rest = explored-submits neighbours xs each.1 in omega arith

tasks-run :
    (neighbours : Point → List Point) (r : CallerRun) → Every (IsExploration neighbours) r.explorations → r.last ≡ []
    → length (tasks (entries_of_run r)) ≤ length (submissions r.starts) + evaluated (r ∷ [])
tasks-run neighbours r each none =
    let explorations = flat_map entries_of r.explorations in
    let few = length-tasks (entries_of_run r) in
    let parts = ap length (submissions-append r.starts (explorations ++ r.last))
    ∙ length-append (submissions r.starts) (submissions (explorations ++ r.last)) in
    let more = ap length (submissions-append explorations r.last) ∙ length-append (submissions explorations) (submissions r.last) in
    let last = ap (λ (es : List Entry). length (submissions es)) none in
    let explored = explored-submits neighbours r.explorations each in
    let one = ap (total evaluated_in) (append-nil r.explorations) in omega arith

module _ (i : Instance) (starts : List Point) (first : Work) (others : List Work) (h : Hands) (team : IsTeam i starts first others h) where
  tasks-others : total (λ w. length (tasks (entries_of_run w.run))) others ≤ total (λ w. evaluated (w.run ∷ [])) others
  tasks-others =
      total-every_le (λ w. length (tasks (entries_of_run w.run))) (λ w. evaluated (w.run ∷ [])) others
      (Every-map Both (λ w. length (tasks (entries_of_run w.run)) ≤ evaluated (w.run ∷ [])) each others
      (Every-paired (IsWork i) (λ w. OnlyExplores w.run) others team.works.1 team.explore))
    where
      Both : Work → Type 0
      Both w = IsWork i w × OnlyExplores w.run

      each : (w : Work) → Both w → length (tasks (entries_of_run w.run)) ≤ evaluated (w.run ∷ [])
      each w both =
          let few = tasks-run (neighbours_of i) w.run both.0.explores.each both.1.last in
          let none = ap (λ (es : List Entry). length (submissions es)) both.1.starts in omega arith

  -- of the starts those alone that were submitted
  pub tasks-begun : length (tasks_of (runs_of (first ∷ others))) ≤ length first.run.starts + evaluated (runs_of (first ∷ others))
  tasks-begun =
      let all = length-all_tasks (first ∷ others) in
      let one = tasks-run (neighbours_of i) first.run team.works.0.explores.each team.goes_on in
      let begun = submits-few first.run.starts in
      let rest = tasks-others in
      let each = evaluated-each (first ∷ others) in omega arith

  pub tasks-few : length (tasks_of (runs_of (first ∷ others))) ≤ length starts + evaluated (runs_of (first ∷ others))
  tasks-few =
      let begun = tasks-begun in
      let few = starts-few starts first.run.starts team.begins in omega arith
