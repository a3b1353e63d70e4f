-- What holds of histories and of search runs, over every rule of an archive and every neighbourhood.
use Rattle.std.specs.Prelude.{◌≡◌, ℕ, ◌<◌, false, IsTrue, List, ◌∷◌, length, map, All, Some, slice_get}
use Rattle.std.specs.List.{flat_map, list_any, range_with_len}
use Rattle.pls_vectors.specs.Archive.{dominates}
use Rattle.pls_archive.specs.declared.point.Point.{Point}
use Rattle.pls_archive.specs.declared.call.Call.{Call}
use Rattle.pls_archive.specs.declared.call.Call.TheVariants.{Update}
use Rattle.pls_archive.specs.declared.call.Reply.{Reply}
use Rattle.pls_archive.specs.declared.call.Reply.TheVariants.{Refused, Points}
use Rattle.pls_archive.specs.declared.call.Entry.{Entry}
use Rattle.pls_archive.specs.Lists.{In, total}
use Rattle.pls_archive.specs.Rule.{IsRule}
use Rattle.pls_archive.specs.Reply.{point_weakly_dominates, members, some_weakly_dominates, in_order, nondominated}
use Rattle.pls_archive.specs.History.{submissions, accepting, IsLegal}
use Rattle.pls_archive.specs.Serialization.{serialization, AreSequentiallyConsistent}
use Rattle.pls_archive.specs.View.{View, IsConsistent, HoldsAll, lists_of, held, of_caller}
use Rattle.pls_archive.specs.Explorations.{Task, CallerRun, tasks, tasks_of, entries_of_run}
use Rattle.pls_archive.specs.SearchRun.{IsSearchRun, IsClosed, IsStopped}
use Rattle.pls_archive.specs.Sequential.{sequential_run, IsSequentialRun}

-- none of the point's neighbours dominates it (Paquete, Chiarandini and Stützle 2004)
abbrev pub IsParetoLocalOptimum : (Point → List Point) → Point → Type 0
IsParetoLocalOptimum neighbours p = list_any (λ q. dominates point_weakly_dominates q p) (neighbours p) ≡ false

-- Pareto local optima, whose neighbours are all weakly dominated by one of them
pub record IsParetoLocalOptimumSet (neighbours : Point → List Point) (points : List Point) : Type 0 where
  pub optima : All (IsParetoLocalOptimum neighbours) points
  pub closed : All (λ p. All (λ q. IsTrue (some_weakly_dominates points q.value)) (neighbours p)) points

-- the submissions of all callers, in the order of their serialization
abbrev pub all_submissions : ℕ → List (List Entry) → List Point
all_submissions n lists = submissions (serialization n lists)

-- where a view's lists are those of the callers 0, 1 and so on, in order, they are all that it holds
abbrev pub HoldsInOrder : Type 0
HoldsInOrder =
    (started : ℕ) (v : View) → map (λ (list : ℕ × List Entry). list.0) (lists_of v) ≡ range_with_len 0 started
    → HoldsAll started v × (held started v ≡ map (λ (list : ℕ × List Entry). list.1) (lists_of v))

-- what holds over any replies
module _ (reply : List Point → Call → Reply) where
  -- each caller's list stands in the serialization in its own order
  abbrev pub KeepsOwnOrder : Type 0
  KeepsOwnOrder =
      (n : ℕ) (lists : List (List Entry)) → AreSequentiallyConsistent reply n lists
      → (c : ℕ) (es : List Entry) → slice_get lists c ≡ Some es → of_caller c (serialization n lists) ≡ es

  -- whatever is summed over the entries is the same over the serialization: so the callers' submissions and tasks are its own
  abbrev pub KeepsTotals : Type 0
  KeepsTotals =
      (n : ℕ) (lists : List (List Entry)) → AreSequentiallyConsistent reply n lists
      → (f : Entry → ℕ) → total f (serialization n lists) ≡ total (λ es. total f es) lists

  -- such lists have as many accepting entries as was said
  abbrev pub CountsAccepting : Type 0
  CountsAccepting =
      (n : ℕ) (lists : List (List Entry)) → AreSequentiallyConsistent reply n lists → length (flat_map accepting lists) ≡ n

  module _ (neighbours : Point → List Point) where
    -- where a run ends stopped, its accepted points have more neighbours than there were moves
    abbrev pub StopsWithMore : Type 0
    StopsWithMore =
        (starts : List Point) (moves n : ℕ) (first : CallerRun) (others : List CallerRun)
        → IsSearchRun reply neighbours starts moves n first others → IsStopped neighbours starts moves first others
        → moves < total (λ t. length (neighbours t.point)) (tasks_of (first ∷ others))

    -- the sequential run is one
    abbrev pub RunsSequentially : Type 0
    RunsSequentially =
        (starts : List Point) (moves : ℕ)
        → IsSequentialRun reply neighbours starts moves (sequential_run reply neighbours starts moves)

    -- and there is no other
    abbrev pub IsOnlySequentialRun : Type 0
    IsOnlySequentialRun =
        (starts : List Point) (moves : ℕ) (r : CallerRun) → IsSequentialRun reply neighbours starts moves r
        → r ≡ sequential_run reply neighbours starts moves

-- what holds over the replies of a rule
module _ (front : List Point → List Point) (reply : List Point → Call → Reply) where
  -- where a consistent view holds the lists of all callers that were started, these lists are sequentially consistent
  abbrev pub ViewsAreSequentiallyConsistent : Type 0
  ViewsAreSequentiallyConsistent =
      IsRule front reply → (started : ℕ) (v : View) → IsConsistent reply started v → HoldsAll started v
      → AreSequentiallyConsistent reply (length v.observed) (held started v)

  -- a value is accepted at most once, so that a question of membership names its task
  abbrev pub AcceptsValuesOnce : Type 0
  AcceptsValuesOnce =
      IsRule front reply → (history : List Entry) → IsLegal reply history
      → (s t : Task) → In s (tasks history) → In t (tasks history) → s.point.value ≡ t.point.value → s ≡ t

  -- and so is it over the lists of several callers
  abbrev pub CallersAcceptValuesOnce : Type 0
  CallersAcceptValuesOnce =
      IsRule front reply → (n : ℕ) (lists : List (List Entry)) → AreSequentiallyConsistent reply n lists
      → (s t : Task) → In s (flat_map tasks lists) → In t (flat_map tasks lists) → s.point.value ≡ t.point.value → s ≡ t

  -- the last reply of a run is the members after all submissions, in order
  abbrev pub TellsFront : (Point → List Point) → Type 0
  TellsFront neighbours =
      IsRule front reply → (starts : List Point) (moves n : ℕ) (first : CallerRun) (others : List CallerRun)
      → (run : IsSearchRun reply neighbours starts moves n first others)
      → run.asks_last.entry.reply ≡ Points (in_order (front (all_submissions n (map entries_of_run (first ∷ others)))))

  -- where a run ends closed, every neighbour of a member would be refused after all submissions
  abbrev pub ClosesFront : (Point → List Point) → Type 0
  ClosesFront neighbours =
      IsRule front reply → (starts : List Point) (moves n : ℕ) (first : CallerRun) (others : List CallerRun)
      → IsSearchRun reply neighbours starts moves n first others → IsClosed neighbours starts first others
      → (p q : Point) → In p (front (all_submissions n (map entries_of_run (first ∷ others)))) → In q (neighbours p)
      → reply (all_submissions n (map entries_of_run (first ∷ others))) (Update q) ≡ Refused

-- where a run over a nondominated archive ends closed, its members are a Pareto local optimum set
abbrev pub EndsInLocalOptima : (Point → List Point) → Type 0
EndsInLocalOptima neighbours =
    (starts : List Point) (moves n : ℕ) (first : CallerRun) (others : List CallerRun)
    → IsSearchRun nondominated neighbours starts moves n first others → IsClosed neighbours starts first others
    → IsParetoLocalOptimumSet neighbours (members (all_submissions n (map entries_of_run (first ∷ others))))
