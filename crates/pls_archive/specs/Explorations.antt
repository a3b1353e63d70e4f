-- Explorations of neighbourhoods, after Paquete, Chiarandini and Stützle (2004), as lists of calls with their replies.
use Rattle.std.specs.Prelude.{◌≡◌, ℕ, ◌<◌, ◌==◌, nat_le, Bool, true, false, ◌&&◌, not, List, [], ◌∷◌, ◌++◌, length, map, if◌then◌else◌}
use Rattle.std.specs.List.{flat_map}
use Rattle.pls_archive.specs.declared.point.Point.{Point}
use Rattle.pls_archive.specs.declared.call.Call.{Call}
use Rattle.pls_archive.specs.declared.call.Call.TheVariants.{Update, Member}
use Rattle.pls_archive.specs.declared.call.Reply.{Reply}
use Rattle.pls_archive.specs.declared.call.Reply.TheVariants.{Added, Refused, Yes, No, Points}
use Rattle.pls_archive.specs.declared.call.Entry.{Entry}
use Rattle.pls_archive.specs.Lists.{total, how_many, IsPrefix}
use Rattle.pls_archive.specs.Rule.{accepted_by}
use Rattle.pls_archive.specs.History.{submissions}

-- a point that was accepted, with the stamp of the entry that brought it in: it waits to be explored
pub record Task : Type 0 where
  pub point : Point
  pub stamp : ℕ

-- the tasks that an entry makes, and those of a list of entries, in order
abbrev pub tasks_by : Entry → List Task
tasks_by e = map (λ p. record { point = p; stamp = e.stamp }) (accepted_by e.call e.reply)

abbrev pub tasks : List Entry → List Task
tasks es = flat_map tasks_by es

abbrev pub is_no : Reply → Bool
is_no (Added removed) = false
is_no Refused = false
is_no Yes = false
is_no No = true
is_no (Points points) = false

-- an exploration of a task: the question whether its point is a member still, and the updates by its neighbours
pub record Exploration : Type 0 where
  pub task : Task
  pub asked : Entry
  pub updates : List Entry

abbrev pub entries_of : Exploration → List Entry
entries_of x = x.asked ∷ x.updates

-- how many neighbours were evaluated
abbrev pub evaluated_in : Exploration → ℕ
evaluated_in x = length (submissions x.updates)

-- the archive tells that the point, once accepted, is no longer a member: nothing is due then
abbrev pub skips : Task → Entry → Bool
skips t asked = is_no asked.reply && nat_le t.stamp asked.stamp

abbrev pub is_skipped : Exploration → Bool
is_skipped x = skips x.task x.asked

-- the calls that submit neighbours
abbrev pub calls_for : List Point → List Call
calls_for points = map Update points

module _ (neighbours : Point → List Point) where
  -- the points that are due once the question was asked: all neighbours, in order
  abbrev pub due : Task → Entry → List Point
  due t asked = if skips t asked then [] else neighbours t.point

  -- all that is due was submitted
  abbrev pub is_whole : Exploration → Bool
  is_whole x = evaluated_in x == length (due x.task x.asked)

  -- a proper part of it was
  abbrev pub is_cut : Exploration → Bool
  is_cut x = not (is_whole x)

  -- the question is asked, and then what is due is submitted, in order, or the first part of it
  pub record IsExploration (x : Exploration) : Type 0 where
    pub asks : x.asked.call ≡ Member x.task.point.value
    pub updates : map (λ e. e.call) x.updates ≡ calls_for (submissions x.updates)
    pub submits : IsPrefix (submissions x.updates) (due x.task x.asked)

  -- only the last of the explorations may be cut
  abbrev pub OnlyLastIsCut : List Exploration → Type 0
  OnlyLastIsCut [] = Unit {0}
  OnlyLastIsCut (x ∷ xs) = (0 < length xs → is_whole x ≡ true) × OnlyLastIsCut xs

-- what a caller does in a search: it submits starts, explores, and makes its last calls
pub record CallerRun : Type 0 where
  pub starts : List Entry
  pub explorations : List Exploration
  pub last : List Entry

abbrev pub entries_of_run : CallerRun → List Entry
entries_of_run r = r.starts ++ (flat_map entries_of r.explorations ++ r.last)

-- the explorations of all callers, the tasks that they explored, and the tasks that all their entries make
abbrev pub explorations_of : List CallerRun → List Exploration
explorations_of runs = flat_map (λ r. r.explorations) runs

abbrev pub explored_tasks : List CallerRun → List Task
explored_tasks runs = map (λ x. x.task) (explorations_of runs)

abbrev pub tasks_of : List CallerRun → List Task
tasks_of runs = flat_map (λ r. tasks (entries_of_run r)) runs

-- ---- the counts of a run

-- the explorations that were whole and not skipped
abbrev pub explored : (Point → List Point) → List CallerRun → ℕ
explored neighbours runs = how_many (λ x. is_whole neighbours x && not (is_skipped x)) (explorations_of runs)

-- the explorations that were cut
abbrev pub cuts : (Point → List Point) → List CallerRun → ℕ
cuts neighbours runs = how_many (is_cut neighbours) (explorations_of runs)

-- the neighbours that were submitted
abbrev pub evaluated : List CallerRun → ℕ
evaluated runs = total evaluated_in (explorations_of runs)

-- the accepted points, starts included
abbrev pub accepted_count : List CallerRun → ℕ
accepted_count runs = length (tasks_of runs)
