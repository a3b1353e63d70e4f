-- What the last look at the members concludes: the run that the joined pass holds, and how it ends.
use Rattle.std.proofs.Common.{◌≡◌, ◌⊎◌, ℕ, ◌^◌, ◌<◌, min, Option, None, Some, MatchOption, List, [], ◌∷◌, ◌++◌, length, refl, ap, ap₂, sym, subst, ◌∙◌, arith, inl, inr, Result, Ok, Err}
use Rattle.std.specs.List.{flat_map}
use Rattle.std.proofs.lemmas.List.{append-nil}
use Rattle.pls_archive.specs.declared.point.Point.{Point}
use Rattle.pls_archive.specs.declared.call.Call.{Call}
use Rattle.pls_archive.specs.declared.call.Call.TheVariants.{Snapshot}
use Rattle.pls_archive.specs.declared.call.Reply.{Reply}
use Rattle.pls_archive.specs.declared.call.Reply.TheVariants.{Points}
use Rattle.pls_archive.specs.declared.call.Entry.{Entry}
use Rattle.pls_archive.specs.Lists.{Every}
use Rattle.pls_archive.specs.Rule.{IsRule, submitted_by}
use Rattle.pls_archive.specs.History.{submissions}
use Rattle.pls_archive.specs.SharedCalls.{Answers}
use Rattle.pls_archive.specs.View.{View}
use Rattle.pls_archive.specs.Explorations.{CallerRun, entries_of_run}
use Rattle.pls_archive.specs.SearchRun.{missing}
use Rattle.pls_archive.proofs.Every.{Every-append, Every-map}
use Rattle.pls_archive.proofs.Histories.{submissions-append}
use Rattle.pls_archive.proofs.ViewsFilters.{Every-flat_map}
use Rattle.pls_pool.specs.Accounts.{Account, Takes, FindsNone, IsAmong, HoldsAll as HoldsAllSeats}
use Rattle.pls_pool.specs.DeskRule.{HoldsAll, LearnsCauses}
use Rattle.pls_pool.specs.Tallies.{finding}
use Rattle.pls_pool.specs.declared.tally.Tally.{Tally}
use Rattle.pls_pool.specs.declared.cause.Cause.{Cause}
use Rattle.pls_pool.specs.declared.cause.Cause.TheVariants as causes
use Rattle.pls_problem.specs.declared.instance.Instance.{Instance}
use Rattle.pls_search.specs.declared.task.Task.{Task as Waiting}
use Rattle.pls_search.specs.declared.end.End.{End}
use Rattle.pls_search.specs.declared.end.End.TheVariants.{Closed, Stopped, Full}
use Rattle.pls_search.specs.Neighbours.{neighbours_of, IsPointOf}
use Rattle.pls_search.specs.Workers.{task_of, Hands, hands, Work, IsWork}
use Rattle.pls_search.specs.Teams.{runs_of, fulls, spents, ending_with, IsTeam, IsAccounted, IsSmall}
use Rattle.pls_search.specs.Outcomes.{EndsAs, Finds, Tells}
use Rattle.pls_search.specs.Leaving.{OfTeam, IsIdle, Ended}
use Rattle.pls_search.proofs.Totals.{Every-mapped}
use Rattle.pls_search.proofs.TeamRuns.{entries-ending, lists-ended, callers-ended, is_search_run}
use Rattle.pls_search.proofs.TeamEnds.{cut_short, stopped, closed}
use Rattle.pls_search.proofs.TeamCounts.{accepted-observed, few_accepted, fewer_accepted, HasCounts-team}

-- why a team's search ends so
abbrev Decides : List Point → Hands → Work → List Work → End → Type 0
Decides starts h first others Closed =
    (missing starts first.run ≡ []) × (fulls (first ∷ others) ≡ 0) × (spents (first ∷ others) ≡ 0) × IsIdle h
Decides starts h first others Stopped = (missing starts first.run ≡ []) × (fulls (first ∷ others) ≡ 0) × (0 < spents (first ∷ others))
Decides starts h first others Full = (0 < length (missing starts first.run)) ⊎ (0 < fulls (first ∷ others))

-- a worker that is the only one
only : (first : Work) (others : List Work) → length (first ∷ others) ≡ 1 → others ≡ []
only first [] one = refl
only first (w ∷ ws) one = absurd (omega (arith, one))

module _ (i : Instance) (starts : List Point) (first : Work) (others : List Work) (h : Hands) (team : IsTeam i starts first others h) where
  -- the last question submits nothing
  points-ended : (e : Entry) → e.call ≡ Snapshot → Every (IsPointOf i) (flat_map (λ r. submissions (entries_of_run r)) (ending_with e first.run ∷ runs_of others))
  points-ended e asks =
      let none : submissions (e ∷ []) ≡ [] = ap (λ (call : Call). submitted_by call ++ []) asks in
      let same : submissions (entries_of_run (ending_with e first.run)) ≡ submissions (entries_of_run first.run) =
      ap submissions (entries-ending e first.run team.goes_on)
      ∙ (submissions-append (entries_of_run first.run) (e ∷ [])
      ∙ (ap (λ (ps : List Point). submissions (entries_of_run first.run) ++ ps) none ∙ append-nil (submissions (entries_of_run first.run)))) in
      Every-append (IsPointOf i) (submissions (entries_of_run (ending_with e first.run))) (flat_map (λ r. submissions (entries_of_run r)) (runs_of others))
      (subst (Every (IsPointOf i)) (sym same) team.works.0.points)
      (Every-flat_map (IsPointOf i) (λ (r : CallerRun). submissions (entries_of_run r)) (runs_of others)
      (Every-mapped (λ (r : CallerRun). Every (IsPointOf i) (submissions (entries_of_run r))) (λ w. w.run) others
      (Every-map (IsWork i) (λ w. Every (IsPointOf i) (submissions (entries_of_run w.run))) (λ w is. is.points) others team.works.1)))

  module _ (moves : ℕ) (accounted : IsAccounted moves h) (small : IsSmall starts moves) (few_explored : h.explored < 2 ^ 64) (few_evaluated : h.evaluated < 2 ^ 64) where
    ends : (e : Entry) → e.call ≡ Snapshot → (end : End) → Decides starts h first others end
        → EndsAs (neighbours_of i) starts moves end (ending_with e first.run) (runs_of others)
    ends e asks Closed (started, unfull, unspent, idle) = closed i starts first others h team e asks moves accounted started unfull unspent small idle
    ends e asks Stopped (started, unfull, spent) = stopped i starts first others h team e asks moves accounted started unfull spent
    ends e asks Full full = cut_short i starts first others h team e asks full

    concludes :
        (front : List Point → List Point) (reply : List Point → Call → Reply) → IsRule front reply
        → (started : ℕ) → started ≡ length (first ∷ others) → h.tally.seats ≡ started → (members : List Point) (stamp : ℕ) (after : View)
        → Answers reply started h.view Snapshot (Points members) stamp after → (end : End) → Decides starts h first others end
        → Finds reply i starts moves started after end members h.explored h.evaluated stamp
    concludes front reply rule started enough even members stamp after answers end decides =
        subst (λ n. Finds reply i starts moves n after end members h.explored h.evaluated stamp) (sym enough)
        (concluded (subst (λ n. Answers reply n h.view Snapshot (Points members) stamp after) enough answers))
      where
        concluded : Answers reply (length (first ∷ others)) h.view Snapshot (Points members) stamp after
            → Finds reply i starts moves (length (first ∷ others)) after end members h.explored h.evaluated stamp
        concluded answers =
            let e : Entry = record { caller = h.view.number; stamp = stamp; call = Snapshot; reply = Points members } in
            let run = is_search_run i starts first others h team moves accounted front reply rule after e refl answers.extends answers.consistent in
            let count = accepted-observed reply (length after.observed) (ending_with e first.run ∷ runs_of others) run.0.consistent in (
              record {
                first = ending_with e first.run;
                others = runs_of others;
                consistent = answers.consistent;
                callers = callers-ended i starts first others h team moves accounted front reply rule after e refl answers.extends answers.consistent;
                lists = lists-ended i starts first others h team moves accounted front reply rule after e refl answers.extends answers.consistent;
                run = run.0;
                ends = ends e refl end decides;
                points = points-ended e refl;
                told = run.1;
                few = let few = few_accepted i starts first others h team moves accounted e refl small in omega arith;
                room = λ full.
                    let fewer = fewer_accepted i starts first others h team moves accounted e refl (subst (Decides starts h first others) full decides) in
                    omega (arith, fewer, count);
                in_order = λ one. (team.in_turn (even ∙ (enough ∙ one)) (only first others one)).0;
              },
              HasCounts-team i starts first others h team moves accounted e refl small few_explored few_evaluated run.0.of_accepted stamp (answers.extends.stamped ∙ sym count),
            )

-- ---- so it is however the workers left, unless memory ran out

-- what the last task that is taken, and the last look at the desk, tell of the joined seats
module _ (seats : ℕ) (before after : Account Waiting) where
  among-before :
      (taken : Option Waiting) → MatchOption taken (FindsNone seats before after) (λ x. Takes seats x before after)
      → (HoldsAllSeats seats after → IsAmong after) → HoldsAllSeats seats before → IsAmong before
  among-before None none among holds = subst IsAmong none.same (among (ap (λ (a : Account Waiting). length a.numbers) none.same ∙ holds))
  among-before (Some x) takes among holds = λ p.
      omega (arith, takes.put p, takes.taken p, among (ap length takes.same_numbers ∙ holds) p)

  pub accounted :
      (moves : ℕ) (view : View) (t u : Tally) (explored evaluated : ℕ) (taken : Option Waiting) → MatchOption taken (FindsNone seats before after) (λ x. Takes seats x before after)
      → (HoldsAllSeats seats after → IsAmong after) → HoldsAllSeats seats before → u ≡ finding u.found t → LearnsCauses u.found u → HoldsAll t
      → t.moves ≡ moves → IsAccounted moves (hands view before t explored evaluated)
  accounted moves view t u explored evaluated taken takes among holds looked learns all budget =
      let share = ap (λ (v : Tally). v.share) looked in
      let seats = ap (λ (v : Tally). v.seats) looked in
      let went = (learns (share ∙ (all ∙ sym seats))).2 in
      let goes = ap (λ (v : Tally). v.goes) looked in
      let draws = ap (λ (v : Tally). v.draws) looked in
      let moves_are = ap (λ (v : Tally). v.moves) looked in
      record {
        among = λ test. among-before taken takes among holds (λ t. test (task_of t));
        went = sym goes ∙ (went ∙ ap₂ (λ (d m : ℕ). min d m) draws moves_are);
        budget = budget;
      }

module _ (i : Instance) (starts : List Point) (moves workers : ℕ) (h : Hands) (accounted : IsAccounted moves h) (small : IsSmall starts moves)
    (few_explored : h.explored < 2 ^ 64) (few_evaluated : h.evaluated < 2 ^ 64)
    (front : List Point → List Point) (reply : List Point → Call → Reply) (rule : IsRule front reply) (members : List Point) (stamp : ℕ) (after : View)
    (answers : Answers reply workers h.view Snapshot (Points members) stamp after) (even : h.tally.seats ≡ workers) where
  concludes_so :
      {P : Work → List Work → Type 0} (end : End) → OfTeam i starts workers P h → ((first : Work) (others : List Work) → P first others → Decides starts h first others end)
      → Finds reply i starts moves workers after end members h.explored h.evaluated stamp
  concludes_so end of decides =
      concludes i starts of.first of.others h of.team moves accounted small few_explored few_evaluated front reply rule workers of.all even members stamp after answers end
      (decides of.first of.others of.why)

  pub ended : (left : Result (Unit {0}) Cause) (end : End) → Tells left end → Ended i starts workers left h → Finds reply i starts moves workers after end members h.explored h.evaluated stamp
  ended (Ok u) end is of = subst (λ e. Finds reply i starts moves workers after e members h.explored h.evaluated stamp) (sym is) (concludes_so Closed of (λ first others why. why))
  ended (Err causes.Spent) end is of = subst (λ e. Finds reply i starts moves workers after e members h.explored h.evaluated stamp) (sym is) (concludes_so Stopped of (λ first others why. why))
  ended (Err causes.Full) end is (inl of) = subst (λ e. Finds reply i starts moves workers after e members h.explored h.evaluated stamp) (sym is) (concludes_so Full of (λ first others why. inr why.1))
  ended (Err causes.Full) end is (inr of) = subst (λ e. Finds reply i starts moves workers after e members h.explored h.evaluated stamp) (sym is) (concludes_so Full of (λ first others lacks. inl lacks))
  ended (Err causes.Memory) end is of = absurd is
