-- The callers' lists of a team, with the last question for the members, are a search run.
use Rattle.std.proofs.Common.{◌≡◌, ℕ, ◌+◌, ◌≤◌, Bool, List, [], ◌∷◌, ◌++◌, length, map, refl, ap, ap₂, sym, subst, ◌∙◌, arith, append_assoc}
use Rattle.std.specs.List.{flat_map, range_with_len}
use Rattle.std.proofs.lemmas.List.{append-nil}
use Rattle.pls_archive.specs.declared.point.Point.{Point}
use Rattle.pls_archive.specs.declared.call.Call.{Call}
use Rattle.pls_archive.specs.declared.call.Call.TheVariants.{Snapshot}
use Rattle.pls_archive.specs.declared.call.Reply.{Reply}
use Rattle.pls_archive.specs.declared.call.Entry.{Entry}
use Rattle.pls_archive.specs.Lists.{Every, total, how_many, one_if, IsAmong}
use Rattle.pls_archive.specs.Rule.{IsRule, accepted_by}
use Rattle.pls_archive.specs.Serialization.{AreSequentiallyConsistent}
use Rattle.pls_archive.specs.View.{View, IsConsistent, Extends, lists_of}
use Rattle.pls_archive.specs.Explorations.{Task, Exploration, CallerRun, tasks, entries_of, entries_of_run, explorations_of, explored_tasks, tasks_of, evaluated, evaluated_in}
use Rattle.pls_archive.specs.SearchRun.{IsSearchRun, Explores, OnlyExplores}
use Rattle.pls_archive.proofs.Every.{Every-map, total-same, total-every, total-every_le, total-plus}
use Rattle.pls_archive.proofs.SequentialCalls.{tasks-append}
use Rattle.pls_archive.proofs.ViewsInOrder.{holds_in_order}
use Rattle.pls_archive.proofs.ViewsLawful.{views_are_lawful}
use Rattle.pls_problem.specs.declared.instance.Instance.{Instance}
use Rattle.pls_search.specs.Neighbours.{neighbours_of}
use Rattle.pls_search.specs.Workers.{Hands, Work, IsWork}
use Rattle.pls_search.specs.Teams.{runs_of, fulls, ending_with, IsTeam, IsAccounted}
use Rattle.pls_search.proofs.Totals.{Every-mapped, total-explorations, how_many-explored, how_many-tasks}

-- ---- the last question makes no task

pub entries-ending : (e : Entry) (r : CallerRun) → r.last ≡ [] → entries_of_run (ending_with e r) ≡ entries_of_run r ++ e ∷ []
entries-ending e r none =
    let all = flat_map entries_of r.explorations in
    ap (λ (es : List Entry). r.starts ++ (es ++ e ∷ [])) (sym (append-nil all) ∙ ap (λ (es : List Entry). all ++ es) (sym none))
    ∙ sym (append_assoc r.starts (all ++ r.last) (e ∷ []))

tasks-ending : (e : Entry) (r : CallerRun) → e.call ≡ Snapshot → r.last ≡ [] → tasks (entries_of_run (ending_with e r)) ≡ tasks (entries_of_run r)
tasks-ending e r asks none =
    let nothing : tasks (e ∷ []) ≡ [] =
    ap (λ (call : Call). map (λ p. record { point = p; stamp = e.stamp }) (accepted_by call e.reply) ++ []) asks in
    ap tasks (entries-ending e r none)
    ∙ (tasks-append (entries_of_run r) (e ∷ [])
    ∙ (ap (λ (ts : List Task). tasks (entries_of_run r) ++ ts) nothing ∙ append-nil (tasks (entries_of_run r))))

pub evaluated-each : (works : List Work) → evaluated (runs_of works) ≡ total (λ w. evaluated (w.run ∷ [])) works
evaluated-each works =
    total-explorations works evaluated_in
    ∙ total-same (λ w. total evaluated_in w.run.explorations) (λ w. evaluated (w.run ∷ []))
    (λ w. ap (total evaluated_in) (sym (append-nil w.run.explorations))) works

explorations-none : (works : List Work) → Every (λ w. w.run.explorations ≡ []) works → explorations_of (runs_of works) ≡ []
explorations-none [] none = refl
explorations-none (w ∷ works) none = ap₂ (λ (xs ys : List Exploration). xs ++ ys) none.0 (explorations-none works none.1)

module _ (i : Instance) (starts : List Point) (first : Work) (others : List Work) (h : Hands) (team : IsTeam i starts first others h) where
  -- the callers' runs, the first of which ends with this call
  abbrev pub ended : Entry → List CallerRun
  ended e = ending_with e first.run ∷ runs_of others

  pub tasks_of-ended : (e : Entry) → e.call ≡ Snapshot → tasks_of (ended e) ≡ tasks_of (runs_of (first ∷ others))
  tasks_of-ended e asks = ap (λ (ts : List Task). ts ++ tasks_of (runs_of others)) (tasks-ending e first.run asks team.goes_on)

  -- ---- what each worker says, of all of them

  pub put-tasks : (test : Task → Bool) → how_many test (tasks_of (runs_of (first ∷ others))) ≡ total (λ w. w.put test) (first ∷ others)
  put-tasks test =
      how_many-tasks (first ∷ others) test
      ∙ sym (total-every (λ w. w.put test) (λ w. how_many test (tasks (entries_of_run w.run))) (first ∷ others)
      (Every-map (IsWork i) (λ w. w.put test ≡ how_many test (tasks (entries_of_run w.run))) (λ w is. is.put_are test) (first ∷ others) team.works))

  pub explored-taken : (test : Task → Bool) → how_many test (explored_tasks (runs_of (first ∷ others))) ≤ total (λ w. w.taken test) (first ∷ others)
  explored-taken test =
      let explored = how_many-explored (first ∷ others) test in
      let each =
      total-every_le (λ w. how_many test (map (λ x. x.task) w.run.explorations)) (λ w. w.taken test) (first ∷ others)
      (Every-map (IsWork i) (λ w. how_many test (map (λ x. x.task) w.run.explorations) ≤ w.taken test) (λ w is. is.taken_are test) (first ∷ others) team.works)
      in omega arith

  -- as many draws gave a move as neighbours were evaluated, and one more for each worker for which the archive was full
  pub goes-evaluated : total (λ w. w.goes) (first ∷ others) ≡ evaluated (runs_of (first ∷ others)) + fulls (first ∷ others)
  goes-evaluated =
      let all = evaluated-each (first ∷ others) in
      let sums = total-plus (λ w. evaluated (w.run ∷ [])) (λ w. one_if w.full) (first ∷ others) in
      let each =
      total-every (λ w. w.goes) (λ w. evaluated (w.run ∷ []) + one_if w.full) (first ∷ others)
      (Every-map (IsWork i) (λ w. w.goes ≡ evaluated (w.run ∷ []) + one_if w.full) (λ w is. is.went) (first ∷ others) team.works)
      in omega arith

  module _ (moves : ℕ) (accounted : IsAccounted moves h) where
    -- what was explored is among the tasks
    pub explored-among : IsAmong (explored_tasks (runs_of (first ∷ others))) (tasks_of (runs_of (first ∷ others)))
    explored-among test =
        let explored = explored-taken test in
        let taken = team.adds_up.taken_are test in
        let among = accounted.among test in
        let put = team.adds_up.put_are test in
        let made = put-tasks test in omega arith

    pub evaluated-full : evaluated (runs_of (first ∷ others)) + fulls (first ∷ others) ≤ moves
    evaluated-full =
        let all = goes-evaluated in
        let goes = team.adds_up.goes_are in
        let went = accounted.went in
        let budget = accounted.budget in omega arith

    pub evaluated-within : evaluated (runs_of (first ∷ others)) ≤ moves
    evaluated-within = let full = evaluated-full in omega arith

    -- ---- so the lists are a search run

    module _ (front : List Point → List Point) (reply : List Point → Call → Reply) (rule : IsRule front reply) (after : View) (e : Entry)
        (asks : e.call ≡ Snapshot) (extends : Extends reply h.view e after) (consistent : IsConsistent reply (length (first ∷ others)) after) where
      pub lists-ended : map (λ (list : ℕ × List Entry). list.1) (lists_of after) ≡ map entries_of_run (ended e)
      lists-ended =
          ap₂ (λ (es : List Entry) (lists : List (List Entry)). es ∷ lists)
          (extends.own ∙ (ap (λ (es : List Entry). es ++ e ∷ []) team.own ∙ sym (entries-ending e first.run team.goes_on)))
          (ap (map (λ (list : ℕ × List Entry). list.1)) extends.others ∙ team.lists)

      pub callers-ended : map (λ (list : ℕ × List Entry). list.0) (lists_of after) ≡ range_with_len 0 (length (first ∷ others))
      callers-ended =
          ap₂ (λ (c : ℕ) (cs : List ℕ). c ∷ cs) (extends.number ∙ team.number)
          (ap (map (λ (list : ℕ × List Entry). list.0)) extends.others ∙ team.callers)

      pub is_search_run :
          (run : IsSearchRun reply (neighbours_of i) starts moves (length after.observed) (ending_with e first.run) (runs_of others))
          × (run.asks_last.entry.reply ≡ e.reply)
      is_search_run =
          let holds = holds_in_order (length (first ∷ others)) after callers-ended in
          let lawful = views_are_lawful front reply rule (length (first ∷ others)) after consistent holds.0 in (
            record {
              consistent = subst (AreSequentiallyConsistent reply (length after.observed)) (holds.1 ∙ lists-ended) lawful;
              begins = team.begins;
              asks_last = record { entry = e; only = refl; asks = asks; stamped = extends.stamped };
              others_explore = Every-mapped OnlyExplores (λ w. w.run) others team.explore;
              explores = (
                record { each = team.works.0.explores.each; cut = team.works.0.explores.cut },
                Every-mapped (Explores (neighbours_of i)) (λ w. w.run) others
                    (Every-map (IsWork i) (λ w. Explores (neighbours_of i) w.run) (λ w is. is.explores) others team.works.1),
              );
              waits = λ missed. explorations-none (first ∷ others) (team.waits missed);
              of_accepted =
                  subst (IsAmong (explored_tasks (runs_of (first ∷ others)))) (sym (tasks_of-ended e asks)) explored-among;
              within = evaluated-within;
            },
            refl,
          )
