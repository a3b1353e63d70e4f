-- The run of a search by all its callers, and what it found.
use Rattle.std.specs.Prelude.{◌≡◌, ◌≢◌, ◌↔◌, ◌⊎◌, ℕ, ◌+◌, ◌*◌, ◌<◌, Option, Some, List, ◌∷◌, length, map}
use Rattle.std.specs.List.{flat_map, range_with_len}
use Rattle.pls_archive.specs.declared.call.Entry.{Entry}
use Rattle.pls_archive.specs.declared.point.Point.{Point}
use Rattle.pls_archive.specs.Lists.{Every}
use Rattle.pls_archive.specs.Reply.{members, in_order, nondominated}
use Rattle.pls_archive.specs.History.{submissions}
use Rattle.pls_archive.specs.View.{lists_of, IsConsistent}
use Rattle.pls_archive.specs.Explorations.{CallerRun, entries_of_run, explored, evaluated, accepted_count}
use Rattle.pls_archive.specs.SearchRun.{IsSearchRun}
use Rattle.pls_archive.specs.Sequential.{sequential_run}
use Rattle.pls_archive.specs.RunLaws.{all_submissions}
use Rattle.pls_problem.specs.declared.instance.Instance.{Instance}
use Rattle.nd_update.specs.Counted.{KeepsShortage}
use Rattle.pls_problem.specs.Instance.{objectives}
use Rattle.pls_problem.specs.Starts.{starts}
use Rattle.pls_settings.specs.declared.choices.Mode.{Mode}
use Rattle.pls_settings.specs.declared.choices.Mode.TheVariants.{Search, Make, Demo}
use Rattle.pls_settings.specs.declared.choices.Settings.{Settings}
use Rattle.pls_search.specs.declared.end.End.{End}
use Rattle.pls_search.specs.declared.end.End.TheVariants.{Full}
use Rattle.pls_search.specs.Neighbours.{point_of, neighbours_of, IsPointOf}
use Rattle.pls_search.specs.Outcomes.{EndsAs}
use Rattle.pls_top.specs.Kept.{Kept}
use Rattle.pls_top.specs.declared.report.Counts.{Counts}
use Rattle.pls_top.specs.declared.search.Outcome.{Outcome}

-- what all callers of a search did, after so many accepting entries, and how it ended
pub record SearchRun : Type 0 where
  pub accepting : ℕ
  pub first : CallerRun
  pub others : List CallerRun
  pub end : End

abbrev pub runs_of : SearchRun → List CallerRun
runs_of r = r.first ∷ r.others

-- the submissions of all callers, in the order of their serialization
abbrev pub submissions_of : SearchRun → List Point
submissions_of r = all_submissions r.accepting (map entries_of_run (runs_of r))

-- the members of the archive at the end of a run, in ascending lexicographic order of values
abbrev pub front_of : SearchRun → List Point
front_of r = in_order (members (submissions_of r))

-- the counts of a run
abbrev pub counts_of : Instance → SearchRun → Counts
counts_of i r =
    record {
      explored = explored (neighbours_of i) (runs_of r);
      evaluated = evaluated (runs_of r);
      accepted = accepted_count (runs_of r);
    }

-- the starts of the seed, each with its value
abbrev pub starts_of : Settings → Instance → List Point
starts_of s i = map (point_of i) (starts i s.seed s.starts)

-- how many workers search: in a demonstration one
abbrev pub workers_in : Mode → Settings → ℕ
workers_in Search s = s.workers
workers_in Make s = 1
workers_in Demo s = 1

abbrev pub workers_of : Settings → ℕ
workers_of s = workers_in s.mode s

-- The callers are as many as workers are wanted. Their lists stand in one legal history of a nondominated archive, and are a
-- search run on this instance, from the starts of the seed and with the given moves, which ended so. Each submission is a
-- feasible solution with its value. The run of a single worker is the sequential run.
pub record IsRunOf (s : Settings) (i : Instance) (r : SearchRun) : Type 0 where
  pub workers : length (runs_of r) ≡ workers_of s
  pub run : IsSearchRun nondominated (neighbours_of i) (starts_of s i) s.moves r.accepting r.first r.others
  pub ends : EndsAs (neighbours_of i) (starts_of s i) s.moves r.end r.first r.others
  pub points : Every (IsPointOf i) (flat_map (λ c. submissions (entries_of_run c)) (runs_of r))
  pub sequential : workers_of s ≡ 1 → r.end ≢ Full → r.first ≡ sequential_run nondominated (neighbours_of i) (starts_of s i) s.moves

-- The pass that was left holds the lists of the run, in order of caller, and is consistent. Its tree has the rows of the settings,
-- and it shows that none of them was free exactly where the run ended so. One worker alone ends so only where there are less than 64
-- rows and eight for each start and move
pub record IsLeft (s : Settings) (i : Instance) (kept : Kept) (r : SearchRun) : Type 0 where
  pub consistent : IsConsistent nondominated (workers_of s) kept.view
  pub callers : map (λ (list : ℕ × List Entry). list.0) (lists_of kept.view) ≡ range_with_len 0 (workers_of s)
  pub lists : map (λ (list : ℕ × List Entry). list.1) (lists_of kept.view) ≡ map entries_of_run (runs_of r)
  pub accepting : r.accepting ≡ length kept.view.observed
  pub shape : kept.known.shape ≡ objectives i
  pub rows : kept.known.rows ≡ s.rows
  pub passes : kept.known.passes ≡ workers_of s
  pub full : KeepsShortage kept.known ↔ (r.end ≡ Full)
  pub room : workers_of s ≡ 1 → r.end ≡ Full → s.rows < 8 * (s.starts + s.moves) + 64

-- where an instance is searched, this run was made, and the journal keeps the pass that was left
abbrev pub HasRun : Settings → Option Instance → Option Kept → SearchRun → Type 0
HasRun s searched journal r =
    (i : Instance) → searched ≡ Some i → IsRunOf s i r × (kept : Kept) × (journal ≡ Some kept) × IsLeft s i kept r

-- the outcome tells what a run found
pub record Shows (i : Instance) (r : SearchRun) (outcome : Outcome) : Type 0 where
  pub front : outcome.front ≡ front_of r
  pub counts : outcome.counts ≡ counts_of i r
  pub end : outcome.end ≡ r.end

-- the journal keeps what it had, or a pass whose view is consistent
abbrev pub KeepsConsistent : ℕ → Option Kept → Option Kept → Type 0
KeepsConsistent workers before after =
    (after ≡ before) ⊎ ((kept : Kept) × (after ≡ Some kept) × IsConsistent nondominated workers kept.view)
