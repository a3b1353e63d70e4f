-- What is due for the words and the bytes: a status, and a text.
use Rattle.std.specs.Prelude.{if◌then◌else◌, nat_le, [], ℕ, Bool, true, false, List, ◌++◌, length, Option, None, Some, Result, Ok, Err, codes}
use Rattle.std.specs.Fmt.{decimal}
use Rattle.pls_io.specs.Lines.{line}
use Rattle.pls_problem.specs.Made.{made}
use Rattle.pls_problem.specs.Reading.{instance}
use Rattle.pls_problem.specs.Text.{instance_text}
use Rattle.pls_problem.specs.declared.instance.Instance.{Instance}
use Rattle.pls_problem.specs.declared.reader.BadInstance.{BadInstance as Fault}
use Rattle.pls_problem.specs.declared.reader.BadInstance.TheVariants as fault
use Rattle.pls_settings.specs.declared.choices.Mode.{Mode}
use Rattle.pls_settings.specs.declared.choices.Mode.TheVariants.{Search, Make, Demo}
use Rattle.pls_settings.specs.declared.choices.Settings.{Settings}
use Rattle.pls_top.specs.Report.{report, demo_report}
use Rattle.pls_search.specs.declared.end.End.{End}
use Rattle.pls_search.specs.declared.end.End.TheVariants as end
use Rattle.pls_top.specs.Runs.{SearchRun, front_of, counts_of}
use Rattle.pls_top.specs.declared.status.Status.{Status}
use Rattle.pls_top.specs.declared.status.Status.TheVariants.{Closed, Stopped, Full, Usage, BadInstance, TooLong}

-- the most bytes that are read
abbrev pub most_bytes : ℕ
most_bytes = 16777216

-- ---- the lines of faults

abbrev pub usage_line : List ℕ
usage_line = line (codes "error usage")

abbrev pub read_line : List ℕ
read_line = line (codes "error read")

abbrev pub too_long_line : List ℕ
too_long_line = line (codes "error too long")

-- what a fault of an instance is called; want of memory is none
abbrev pub fault_name : Fault → List ℕ
fault_name (fault.Head place) = codes "head"
fault_name (fault.Short place) = codes "short"
fault_name (fault.Word place) = codes "word"
fault_name (fault.Range place) = codes "range"
fault_name (fault.Extra place) = codes "extra"
fault_name (fault.Shape place) = codes "shape"
fault_name fault.Memory = []

-- where in the text it is
abbrev pub fault_place : Fault → ℕ
fault_place (fault.Head place) = place
fault_place (fault.Short place) = place
fault_place (fault.Word place) = place
fault_place (fault.Range place) = place
fault_place (fault.Extra place) = place
fault_place (fault.Shape place) = place
fault_place fault.Memory = 0

abbrev pub instance_line : Fault → List ℕ
instance_line f = line (codes "error instance " ++ fault_name f ++ codes " " ++ decimal (fault_place f))

-- ---- what is due

-- an answer: its status, and the text that is written for it
pub record Due : Type 0 where
  pub status : Status
  pub text : List ℕ

-- the status that tells how a search ended
abbrev pub status_at : End → Status
status_at end.Closed = Closed
status_at end.Stopped = Stopped
status_at end.Full = Full

-- a search on an instance that made this run: its front
unfoldable pub searched : Instance → SearchRun → Due
searched i r = record { status = status_at r.end; text = report i (front_of r) (counts_of i r) r.end }

-- the same in three lines, on the instance that the settings make
unfoldable pub demonstrated : Settings → SearchRun → Due
demonstrated s r =
    let i = made s.make in
    record { status = status_at r.end; text = demo_report i s.seed (front_of r) (counts_of i r) r.end }

-- the text of the instance that the settings make
unfoldable pub written_out : Settings → Due
written_out s = record { status = Closed; text = instance_text (made s.make) }

-- a search on the instance that was read, or its fault
abbrev pub due_for : SearchRun → Result Instance Fault → Due
due_for r (Ok i) = searched i r
due_for r (Err f) = record { status = BadInstance; text = instance_line f }

-- by the mode, and the bytes that the source had left, which only a search asks for
abbrev pub due_in : Mode → Settings → SearchRun → List ℕ → Due
due_in Search s r bytes =
    if nat_le (length bytes) most_bytes
    then due_for r (instance bytes)
    else record { status = TooLong; text = too_long_line }
due_in Make s r bytes = written_out s
due_in Demo s r bytes = demonstrated s r

-- for the settings of the words, if they have any, the run that was made, if one was, and the bytes that the source had left
abbrev pub due : Option Settings → SearchRun → List ℕ → Due
due None r bytes = record { status = Usage; text = usage_line }
due (Some s) r bytes = due_in s.mode s r bytes

-- the instance that was read, if it is one
abbrev pub instance_read : Result Instance Fault → Option Instance
instance_read (Ok i) = Some i
instance_read (Err f) = None

-- the instance that is searched, if one is
abbrev pub searched_in : Mode → Settings → List ℕ → Option Instance
searched_in Search s bytes = if nat_le (length bytes) most_bytes then instance_read (instance bytes) else None
searched_in Make s bytes = None
searched_in Demo s bytes = Some (made s.make)

-- so it is for the settings of the words, if they have any
abbrev pub searched_for : Option Settings → List ℕ → Option Instance
searched_for None bytes = None
searched_for (Some s) bytes = searched_in s.mode s bytes

-- only a search reads the source
abbrev pub is_search : Mode → Bool
is_search Search = true
is_search Make = false
is_search Demo = false

abbrev pub reads : Option Settings → Bool
reads None = false
reads (Some s) = is_search s.mode
