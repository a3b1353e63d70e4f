-- What the printed front is worth.
use Rattle.std.proofs.Common.{◌≡◌, ◌≢◌, ℕ, zero, suc, Bool, not, ◌&&◌, ◌==◌, List, [], ◌∷◌, filter, length, map, take, refl, ap, sym, ◌∙◌, subst, arith}
use Rattle.std.specs.Prelude.{All}
use Rattle.std.specs.List.{flat_map}
use Rattle.std.proofs.lemmas.List.{length-map, length-take, length-drop}
use Rattle.std.proofs.lemmas.List.Sorted.{All-permutation}
use Rattle.pls_archive.specs.declared.point.Point.{Point}
use Rattle.pls_archive.specs.declared.call.Call.TheVariants.{Update}
use Rattle.pls_archive.specs.declared.call.Entry.{Entry}
use Rattle.pls_archive.specs.Lists.{Every, total, one_if}
use Rattle.pls_archive.specs.Rule.{submitted_by}
use Rattle.pls_archive.specs.History.{submissions, accepts, accepting}
use Rattle.pls_archive.specs.NondominatedRule.{nondominated-IsRule}
use Rattle.pls_archive.specs.Reply.{members, in_order, nondominated}
use Rattle.pls_archive.specs.Serialization.{accepting_at, others_at, at_stamp, serialization, AreSequentiallyConsistent}
use Rattle.pls_archive.specs.Explorations.{CallerRun, entries_of_run}
use Rattle.pls_archive.specs.SearchRun.{SubmitsFirst, missing, IsClosed, IsStopped}
use Rattle.pls_archive.proofs.Counted.{same_totals, counts_accepting}
use Rattle.pls_archive.proofs.Every.{Every-append, Every-left, Every-right, Every-filter, Every-at, total-same, length-filter, length-flat_map}
use Rattle.pls_archive.proofs.InOrder.{in_order-IsPermutation, in_order-IsSorted}
use Rattle.pls_archive.proofs.LocalOptima.{ends_in_local_optima}
use Rattle.pls_archive.proofs.Membership.{All-In}
use Rattle.pls_archive.proofs.OwnOrder.{own_order}
use Rattle.pls_archive.proofs.Printed.{in_order-incomparable, in_order-submitted, in_order-covers, in_order-IsParetoLocalOptimumSet}
use Rattle.pls_archive.proofs.Stopped.{stops_with_more}
use Rattle.pls_problem.specs.declared.instance.Instance.{Instance}
use Rattle.pls_problem.specs.Starts.{starts}
use Rattle.pls_problem.proofs.Starting.{length-starts}
use Rattle.pls_search.specs.declared.end.End.{End}
use Rattle.pls_search.specs.declared.end.End.TheVariants.{Closed, Stopped, Full}
use Rattle.pls_search.specs.Neighbours.{point_of, neighbours_of, IsPointOf}
use Rattle.pls_search.specs.Outcomes.{EndsAs}
use Rattle.pls_settings.specs.declared.choices.Settings.{Settings}
use Rattle.pls_top.specs.Front.{IsSoundRun, callers_lists}
use Rattle.pls_top.specs.Runs.{SearchRun, runs_of, submissions_of, starts_of, IsRunOf}

-- ---- what holds of each caller's submissions holds of the members

module _ (C : Point → Type 0) where
  abbrev Submits : Entry → Type 0
  Submits e = Every C (submitted_by e.call)

  -- a list's submissions entry by entry
  Submits-from : (es : List Entry) → Every C (submissions es) → Every Submits es
  Submits-from [] each = tt
  Submits-from (e ∷ es) each =
      (Every-left C (submitted_by e.call) (submissions es) each, Submits-from es (Every-right C (submitted_by e.call) (submissions es) each))

  Submits-to : (es : List Entry) → Every Submits es → Every C (submissions es)
  Submits-to [] each = tt
  Submits-to (e ∷ es) each = Every-append C (submitted_by e.call) (submissions es) each.0 (Submits-to es each.1)

  -- the serialization has entries of the callers alone
  Submits-some : (test : Entry → Bool) (lists : List (List Entry)) → Every (Every Submits) lists → Every Submits (flat_map (filter test) lists)
  Submits-some test [] each = tt
  Submits-some test (es ∷ lists) each =
      Every-append Submits (filter test es) (flat_map (filter test) lists) (Every-filter Submits test es each.0) (Submits-some test lists each.1)

  Submits-serialization : (n : ℕ) (lists : List (List Entry)) → Every (Every Submits) lists → Every Submits (serialization n lists)
  Submits-serialization n lists each = up_to n
    where
      here : (k : ℕ) → Every Submits (at_stamp k lists)
      here k =
          Every-append Submits (flat_map (accepting_at k) lists) (flat_map (others_at k) lists)
          (Submits-some (λ e. accepts e && (e.stamp == k)) lists each) (Submits-some (λ e. not (accepts e) && (e.stamp == k)) lists each)

      up_to : (k : ℕ) → Every Submits (serialization k lists)
      up_to zero = here zero
      up_to (suc k) = Every-append Submits (serialization k lists) (at_stamp (suc k) lists) (up_to k) (here (suc k))

  Submits-runs : (runs : List CallerRun) → Every C (flat_map (λ c. submissions (entries_of_run c)) runs) → Every (Every Submits) (map entries_of_run runs)
  Submits-runs [] each = tt
  Submits-runs (c ∷ runs) each =
      let rest = flat_map (λ c. submissions (entries_of_run c)) runs in (
        Submits-from (entries_of_run c) (Every-left C (submissions (entries_of_run c)) rest each),
        Submits-runs runs (Every-right C (submissions (entries_of_run c)) rest each),
      )

  front-All : (r : SearchRun) → Every C (flat_map (λ c. submissions (entries_of_run c)) (runs_of r)) → All C (in_order (members (submissions_of r)))
  front-All r each =
      let all = submissions_of r in
      let of_all : Every C all = Submits-to _ (Submits-serialization r.accepting (map entries_of_run (runs_of r)) (Submits-runs (runs_of r) each)) in
      All-permutation C (members all) (in_order (members all)) (in_order-IsPermutation (members all))
      (All-In C (members all) (λ p here. Every-at C all p (nondominated-IsRule.members_submitted all p here) of_all))

-- ---- where no start is missing, as many were submitted as there are

all_submitted : (starts : List Point) (first : CallerRun) → SubmitsFirst starts first.starts → missing starts first ≡ [] → length first.starts ≡ length starts
all_submitted starts first begins none =
    let made = sym (length-map first.starts (λ e. e.call)) ∙ (ap length begins ∙ length-map (take (length first.starts) starts) Update) in
    let few = length-take (length first.starts) starts in
    let left = sym (length-drop (length first.starts) starts) ∙ ap length none in omega arith

-- the history has as many accepting entries as the lists
accepted-history : (n : ℕ) (lists : List (List Entry)) → AreSequentiallyConsistent nondominated n lists → length (accepting (serialization n lists)) ≡ n
accepted-history n lists consistent =
    length-filter accepts (serialization n lists)
    ∙ (same_totals nondominated n lists consistent (λ e. one_if (accepts e))
    ∙ (sym (total-same (λ es. length (accepting es)) (λ es. total (λ e. one_if (accepts e)) es) (λ es. length-filter accepts es) lists)
    ∙ (sym (length-flat_map accepting lists) ∙ counts_accepting nondominated n lists consistent)))

module _ (s : Settings) (i : Instance) (r : SearchRun) (is : IsRunOf s i r) where
  none_missing : (e : End) → r.end ≡ e → e ≢ Full → missing (starts_of s i) r.first ≡ []
  none_missing Closed ends other = (subst (λ e. EndsAs (neighbours_of i) (starts_of s i) s.moves e r.first r.others) ends is.ends).started
  none_missing Stopped ends other = (subst (λ e. EndsAs (neighbours_of i) (starts_of s i) s.moves e r.first r.others) ends is.ends).started
  none_missing Full ends other = absurd (other refl)

  closed : r.end ≡ Closed → IsClosed (neighbours_of i) (starts_of s i) r.first r.others
  closed ends = subst (λ e. EndsAs (neighbours_of i) (starts_of s i) s.moves e r.first r.others) ends is.ends

  stopped : r.end ≡ Stopped → IsStopped (neighbours_of i) (starts_of s i) s.moves r.first r.others
  stopped ends = subst (λ e. EndsAs (neighbours_of i) (starts_of s i) s.moves e r.first r.others) ends is.ends

  pub IsRunOf-IsSoundRun : IsSoundRun i s.starts s.moves r
  IsRunOf-IsSoundRun =
      let near = neighbours_of i in
      let begin = starts_of s i in
      let all = submissions_of r in
      record {
        consistent = is.run.consistent;
        own_order = own_order nondominated r.accepting (callers_lists r) is.run.consistent;
        each_once = λ test. same_totals nondominated r.accepting (callers_lists r) is.run.consistent (λ e. one_if (test e));
        accepted = accepted-history r.accepting (callers_lists r) is.run.consistent;
        told = is.run.consistent.legal;
        started = λ other.
            all_submitted begin r.first is.run.begins (none_missing r.end refl other)
            ∙ (length-map (starts i s.seed s.starts) (point_of i) ∙ length-starts i s.seed s.starts);
        feasible = front-All (IsPointOf i) r is.points;
        ascending = in_order-IsSorted (members all);
        submitted = in_order-submitted all;
        apart = in_order-incomparable all;
        dominated = in_order-covers all;
        closed = λ ends.
            in_order-IsParetoLocalOptimumSet near (members all)
            (ends_in_local_optima near begin s.moves r.accepting r.first r.others is.run (closed ends));
        spent = λ ends. (stopped ends).spent;
        stopped = λ ends. stops_with_more nondominated near begin s.moves r.accepting r.first r.others is.run (stopped ends);
      }
