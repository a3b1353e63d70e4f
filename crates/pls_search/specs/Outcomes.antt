-- What a search tells when it ends.
use Rattle.std.specs.Prelude.{◌≡◌, ℕ, ◌+◌, ◌^◌, ◌<◌, ◌≤◌, List, ◌∷◌, length, map, Result, Ok, Err}
use Rattle.std.specs.List.{flat_map, range_with_len}
use Rattle.pls_archive.specs.declared.point.Point.{Point}
use Rattle.pls_archive.specs.declared.call.Call.{Call}
use Rattle.pls_archive.specs.declared.call.Reply.{Reply}
use Rattle.pls_archive.specs.declared.call.Reply.TheVariants.{Points}
use Rattle.pls_archive.specs.declared.call.Entry.{Entry}
use Rattle.pls_archive.specs.Lists.{Every}
use Rattle.pls_archive.specs.History.{submissions}
use Rattle.pls_archive.specs.View.{View, IsConsistent, lists_of}
use Rattle.pls_archive.specs.Explorations.{CallerRun, entries_of_run, explored, evaluated, accepted_count}
use Rattle.pls_archive.specs.SearchRun.{IsSearchRun, IsClosed, IsStopped, IsCutShort}
use Rattle.pls_archive.specs.Sequential.{InOrder}
use Rattle.pls_pool.specs.declared.cause.Cause.{Cause}
use Rattle.pls_pool.specs.declared.cause.Cause.TheVariants as causes
use Rattle.pls_problem.specs.declared.instance.Instance.{Instance}
use Rattle.pls_search.specs.declared.end.End.{End}
use Rattle.pls_search.specs.declared.end.End.TheVariants.{Closed, Stopped, Full}
use Rattle.pls_search.specs.Neighbours.{neighbours_of, IsPointOf}

-- the callers' lists show this end
abbrev pub EndsAs : (Point → List Point) → List Point → ℕ → End → CallerRun → List CallerRun → Type 0
EndsAs neighbours starts moves Closed first others = IsClosed neighbours starts first others
EndsAs neighbours starts moves Stopped first others = IsStopped neighbours starts moves first others
EndsAs neighbours starts moves Full first others = IsCutShort neighbours starts first others

-- The lists that a view holds are those of a search run, in order of caller. It ends so, and these are its members.
pub record HoldsRun (reply : List Point → Call → Reply) (i : Instance) (starts : List Point) (moves started : ℕ) (v : View) (end : End)
    (members : List Point) : Type 0 where
  pub first : CallerRun
  pub others : List CallerRun
  pub consistent : IsConsistent reply started v
  pub callers : map (λ (list : ℕ × List Entry). list.0) (lists_of v) ≡ range_with_len 0 started
  pub lists : map (λ (list : ℕ × List Entry). list.1) (lists_of v) ≡ map entries_of_run (first ∷ others)
  pub run : IsSearchRun reply (neighbours_of i) starts moves (length v.observed) first others
  pub ends : EndsAs (neighbours_of i) starts moves end first others
  -- each submission is a feasible solution with its value
  pub points : Every (IsPointOf i) (flat_map (λ r. submissions (entries_of_run r)) (first ∷ others))
  pub told : run.asks_last.entry.reply ≡ Points members
  -- so few points were accepted that no update was refused for their number
  pub few : length v.observed ≤ 10 ^ 9 + 64
  -- where there was no room for one more, fewer were accepted than there are starts and moves
  pub room : end ≡ Full → length v.observed < length starts + moves
  -- one worker alone explores the accepted points in order of acceptance
  pub in_order : started ≡ 1 → InOrder first.starts 0 first.explorations

-- so many explorations were whole and not skipped, so many neighbours evaluated, and so many points accepted
pub record HasCounts (i : Instance) (runs : List CallerRun) (whole neighbours accepted : ℕ) : Type 0 where
  pub explored_are : whole ≡ explored (neighbours_of i) runs
  pub evaluated_are : neighbours ≡ evaluated runs
  pub accepted_are : accepted ≡ accepted_count runs

-- a run that a view holds, and its counts
abbrev pub Finds : (List Point → Call → Reply) → Instance → List Point → ℕ → ℕ → View → End → List Point → ℕ → ℕ → ℕ → Type 0
Finds reply i starts moves started v end members whole neighbours accepted =
    (run : HoldsRun reply i starts moves started v end members) × HasCounts i (run.first ∷ run.others) whole neighbours accepted

-- the end of a search whose workers left for this cause
abbrev pub Tells : {A : Type 0} → Result A Cause → End → Type 0
Tells (Ok a) end = end ≡ Closed
Tells (Err causes.Spent) end = end ≡ Stopped
Tells (Err causes.Full) end = end ≡ Full
Tells (Err causes.Memory) end = ⊥
