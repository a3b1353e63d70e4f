-- A search run of several callers, and its ends.
use Rattle.std.specs.Prelude.{◌≡◌, ◌⊎◌, ℕ, ◌<◌, ◌≤◌, true, List, [], ◌∷◌, length, map, take, drop}
use Rattle.pls_archive.specs.declared.point.Point.{Point}
use Rattle.pls_archive.specs.declared.call.Call.{Call}
use Rattle.pls_archive.specs.declared.call.Call.TheVariants.{Update, Snapshot}
use Rattle.pls_archive.specs.declared.call.Reply.{Reply}
use Rattle.pls_archive.specs.declared.call.Entry.{Entry}
use Rattle.pls_archive.specs.Lists.{Every, AsOften, IsAmong}
use Rattle.pls_archive.specs.Explorations.{CallerRun, IsExploration, OnlyLastIsCut, is_whole, cuts, entries_of_run, explorations_of, explored_tasks, tasks_of, evaluated}
use Rattle.pls_archive.specs.Serialization.{AreSequentiallyConsistent}

-- the entries are updates by these points, or by the first of them, in order
abbrev pub SubmitsFirst : List Point → List Entry → Type 0
SubmitsFirst points es = map (λ e. e.call) es ≡ map Update (take (length es) points)

-- the starts that were not submitted
abbrev pub missing : List Point → CallerRun → List Point
missing starts first = drop (length first.starts) starts

-- the explorations of a caller: each is one, and only the last may be cut
pub record Explores (neighbours : Point → List Point) (r : CallerRun) : Type 0 where
  pub each : Every (IsExploration neighbours) r.explorations
  pub cut : OnlyLastIsCut neighbours r.explorations

-- all that a caller other than the first does is to explore
pub record OnlyExplores (r : CallerRun) : Type 0 where
  pub starts : r.starts ≡ []
  pub last : r.last ≡ []

-- the caller's last call asks for the members, after n accepting entries
pub record EndsWithSnapshot (n : ℕ) (r : CallerRun) : Type 0 where
  pub entry : Entry
  pub only : r.last ≡ entry ∷ []
  pub asks : entry.call ≡ Snapshot
  pub stamped : entry.stamp ≡ n

module _ (reply : List Point → Call → Reply) (neighbours : Point → List Point) (starts : List Point) (moves : ℕ) where
  -- the callers' lists are a search run from these starts with this budget of moves, with n accepting entries in all
  pub record IsSearchRun (n : ℕ) (first : CallerRun) (others : List CallerRun) : Type 0 where
    pub consistent : AreSequentiallyConsistent reply n (map entries_of_run (first ∷ others))
    -- the first caller submits the starts, and asks for the members at the end
    pub begins : SubmitsFirst starts first.starts
    pub asks_last : EndsWithSnapshot n first
    pub others_explore : Every OnlyExplores others
    pub explores : Every (Explores neighbours) (first ∷ others)
    -- nothing is explored where a start is missing
    pub waits : 0 < length (missing starts first) → explorations_of (first ∷ others) ≡ []
    -- what is explored was accepted, and nothing is explored twice
    pub of_accepted : IsAmong (explored_tasks (first ∷ others)) (tasks_of (first ∷ others))
    pub within : evaluated (first ∷ others) ≤ moves

-- every start was submitted
abbrev pub IsStarted : List Point → CallerRun → Type 0
IsStarted starts first = missing starts first ≡ []

module _ (neighbours : Point → List Point) (starts : List Point) where
  -- a run ends closed where every accepted point was explored, and every exploration was whole
  pub record IsClosed (first : CallerRun) (others : List CallerRun) : Type 0 where
    pub started : IsStarted starts first
    pub all : AsOften (explored_tasks (first ∷ others)) (tasks_of (first ∷ others))
    pub whole : Every (λ x. is_whole neighbours x ≡ true) (explorations_of (first ∷ others))

  -- it ends stopped where all moves were spent, and an exploration was cut
  pub record IsStopped (moves : ℕ) (first : CallerRun) (others : List CallerRun) : Type 0 where
    pub started : IsStarted starts first
    pub spent : evaluated (first ∷ others) ≡ moves
    pub cut : 0 < cuts neighbours (first ∷ others)

  -- A start is missing, or an exploration was cut: what an archive without room shows of the lists, where a stopped run has it too.
  abbrev pub IsCutShort : CallerRun → List CallerRun → Type 0
  IsCutShort first others = (0 < length (missing starts first)) ⊎ (0 < cuts neighbours (first ∷ others))
