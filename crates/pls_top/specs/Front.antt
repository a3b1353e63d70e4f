-- What a run is worth whose front is printed.
use Rattle.std.specs.Prelude.{◌≡◌, ◌≢◌, ℕ, ◌<◌, Bool, Some, List, slice_get, IsTrue, length, map, All, AllPairs, Contains}
use Rattle.std.specs.Cmp.Lexicographic.{slice_cmp}
use Rattle.std.specs.List.Sorted.{IsSortedByKey}
use Rattle.std.specs.Ordering.{int_cmp}
use Rattle.pls_vectors.specs.Archive.{AreIncomparable}
use Rattle.pls_archive.specs.declared.call.Entry.{Entry}
use Rattle.pls_archive.specs.History.{accepting, IsLegal}
use Rattle.pls_archive.specs.View.{of_caller}
use Rattle.pls_archive.specs.Lists.{total, how_many}
use Rattle.pls_archive.specs.Explorations.{entries_of_run, tasks_of}
use Rattle.pls_archive.specs.Reply.{point_weakly_dominates, some_weakly_dominates, nondominated}
use Rattle.pls_archive.specs.RunLaws.{IsParetoLocalOptimumSet}
use Rattle.pls_archive.specs.Serialization.{AreSequentiallyConsistent, serialization}
use Rattle.pls_problem.specs.declared.instance.Instance.{Instance}
use Rattle.pls_search.specs.declared.end.End.TheVariants.{Closed, Stopped, Full}
use Rattle.pls_search.specs.Neighbours.{neighbours_of, IsPointOf}
use Rattle.pls_top.specs.Runs.{SearchRun, runs_of, submissions_of, front_of, counts_of}

-- the callers' lists, and the one history in which all their entries stand
abbrev pub callers_lists : SearchRun → List (List Entry)
callers_lists r = map entries_of_run (runs_of r)

abbrev pub history_of : SearchRun → List Entry
history_of r = serialization r.accepting (callers_lists r)

-- The callers' lists stand in one legal history: each in its own order, each entry as often as in the lists, with so many accepting
-- entries, and each reply and stamp those of the nondominated archive of the submissions before. Unless the archive was full, as
-- many starts were submitted as were wanted; the printed points are feasible solutions with their values, in ascending
-- lexicographic order; each was submitted, none weakly dominates another, and each submission is weakly dominated by one of them.
-- Where it is closed they are a Pareto local optimum set; where it is stopped, it evaluated as many neighbours as it had moves,
-- and the points that it accepted have more.
pub record IsSoundRun (i : Instance) (starts moves : ℕ) (r : SearchRun) : Type 0 where
  pub consistent : AreSequentiallyConsistent nondominated r.accepting (callers_lists r)
  pub own_order : (c : ℕ) (es : List Entry) → slice_get (callers_lists r) c ≡ Some es → of_caller c (history_of r) ≡ es
  pub each_once : (test : Entry → Bool) → how_many test (history_of r) ≡ total (how_many test) (callers_lists r)
  pub accepted : length (accepting (history_of r)) ≡ r.accepting
  pub told : IsLegal nondominated (history_of r)
  pub started : r.end ≢ Full → length r.first.starts ≡ starts
  pub feasible : All (IsPointOf i) (front_of r)
  pub ascending : IsSortedByKey (λ p. p.value) (slice_cmp int_cmp) (front_of r)
  pub submitted : All (Contains (submissions_of r)) (front_of r)
  pub apart : AllPairs (AreIncomparable point_weakly_dominates) (front_of r)
  pub dominated : All (λ p. IsTrue (some_weakly_dominates (front_of r) p.value)) (submissions_of r)
  pub closed : r.end ≡ Closed → IsParetoLocalOptimumSet (neighbours_of i) (front_of r)
  pub spent : r.end ≡ Stopped → (counts_of i r).evaluated ≡ moves
  pub stopped : r.end ≡ Stopped → moves < total (λ t. length (neighbours_of i t.point)) (tasks_of (runs_of r))
