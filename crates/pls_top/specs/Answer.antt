-- When each status may be answered, what was read then, and what was written.
use Rattle.std.specs.Prelude.{[], ◌≡◌, ◌⊎◌, ℕ, ◌+◌, ◌*◌, ◌<◌, ◌≤◌, true, false, List, ◌++◌, length, take, Option, None, Some, IsSome, Err, IsOk, IsErr, ⊤}
use Rattle.pls_problem.specs.Reading.{instance}
use Rattle.pls_problem.specs.declared.reader.BadInstance.{BadInstance as Fault}
use Rattle.pls_settings.specs.declared.choices.Mode.{Mode}
use Rattle.pls_settings.specs.declared.choices.Mode.TheVariants.{Make}
use Rattle.pls_settings.specs.declared.choices.Settings.{Settings}
use Rattle.pls_top.specs.declared.status.Status.{Status}
use Rattle.pls_top.specs.declared.status.Status.TheVariants.{Closed, Stopped, Usage, BadInstance, ReadFault, WriteFault, Full, Memory, TooLong}
use Rattle.nd_update.specs.Counted.{KeepsShortage}
use Rattle.pls_top.specs.Due.{most_bytes, usage_line, read_line, too_long_line, instance_line, due, searched_in, reads}
use Rattle.pls_top.specs.Kept.{Kept}
use Rattle.pls_top.specs.Runs.{SearchRun, HasRun, workers_of}

-- the exit status of each answer
abbrev pub code_of : Status → ℕ
code_of Closed = 0
code_of Stopped = 1
code_of Usage = 2
code_of BadInstance = 3
code_of ReadFault = 4
code_of WriteFault = 5
code_of Full = 6
code_of Memory = 7
code_of TooLong = 8

-- ---- the causes of answers

-- Usage is answered exactly where the words are no command line, unless memory ran out or the sink failed
abbrev pub UsageExactly : Option Settings → Status → Type 0
UsageExactly s Usage = s ≡ None
UsageExactly s WriteFault = ⊤
UsageExactly s Memory = ⊤
UsageExactly s status = IsSome s

-- only where the words ask for the source are there faults of it and of its bytes
abbrev pub AsksSource : Option Settings → Status → Type 0
AsksSource s BadInstance = reads s ≡ true
AsksSource s ReadFault = reads s ≡ true
AsksSource s TooLong = reads s ≡ true
AsksSource s status = ⊤

-- TooLong is answered exactly where a source that tells had more than 16,777,216 bytes left
abbrev pub TooLongExactly : Option Settings → List ℕ → Status → Type 0
TooLongExactly s bytes Closed = reads s ≡ true → length bytes ≤ most_bytes
TooLongExactly s bytes Stopped = reads s ≡ true → length bytes ≤ most_bytes
TooLongExactly s bytes Full = reads s ≡ true → length bytes ≤ most_bytes
TooLongExactly s bytes BadInstance = length bytes ≤ most_bytes
TooLongExactly s bytes TooLong = most_bytes < length bytes
TooLongExactly s bytes status = ⊤

-- BadInstance is answered exactly where the bytes, read to their end, are no instance
abbrev pub BadInstanceExactly : Option Settings → List ℕ → Status → Type 0
BadInstanceExactly s bytes Closed = reads s ≡ true → IsOk (instance bytes)
BadInstanceExactly s bytes Stopped = reads s ≡ true → IsOk (instance bytes)
BadInstanceExactly s bytes Full = reads s ≡ true → IsOk (instance bytes)
BadInstanceExactly s bytes BadInstance = IsErr (instance bytes)
BadInstanceExactly s bytes status = ⊤

-- Full is answered only where the journal keeps a pass of a tree in as many rows as were wanted, which shows that none was free; and
-- by one worker only where these are less than 64 and eight for each start and move
pub record ShowsNoFreeRow (given : Option Settings) (journal : Option Kept) : Type 0 where
  pub settings : Settings
  pub given_is : given ≡ Some settings
  pub kept : Kept
  pub keeps : journal ≡ Some kept
  pub rows : kept.known.rows ≡ settings.rows
  pub passes : kept.known.passes ≡ workers_of settings
  pub shortage : KeepsShortage kept.known
  pub room : workers_of settings ≡ 1 → settings.rows < 8 * (settings.starts + settings.moves) + 64

-- the status that is due is the answer, unless a stream failed or memory ran out
abbrev pub AnswersDueStatus : Status → Status → Type 0
AnswersDueStatus due ReadFault = ⊤
AnswersDueStatus due WriteFault = ⊤
AnswersDueStatus due Memory = ⊤
AnswersDueStatus due status = status ≡ due

-- where the words ask for the source, these are the bytes that it tells to have left
abbrev pub Tells : Option Settings → Option (List ℕ) → List ℕ → Type 0
Tells s left bytes = reads s ≡ true → left ≡ Some bytes

-- the text that is due was written, unless memory ran out; what is made is always whole
abbrev pub IsAnsweredIn : Mode → Status → Type 0
IsAnsweredIn mode Closed = ⊤
IsAnsweredIn Make Stopped = ⊥
IsAnsweredIn mode Stopped = ⊤
IsAnsweredIn Make Full = ⊥
IsAnsweredIn mode Full = ⊤
IsAnsweredIn mode Memory = ⊤
IsAnsweredIn mode status = ⊥

abbrev pub IsAnswered : Option Settings → Status → Type 0
IsAnswered None status = ⊥
IsAnswered (Some s) status = IsAnsweredIn s.mode status

-- A command line; where it asks for the source, that has an instance of at most 16,777,216 bytes left;
-- and no fault: `faulty` is that a count of faults rose.
pub record IsUndisturbed (s : Option Settings) (left : Option (List ℕ)) (faulty : Type 0) : Type 0 where
  pub is_line : IsSome s
  pub source : reads s ≡ true → (bytes : List ℕ) × (left ≡ Some bytes) × (length bytes ≤ most_bytes) × IsOk (instance bytes)
  pub no_fault : faulty → ⊥

-- ---- what was read and written

-- a source that the words do not ask for stands as it did
abbrev pub LeavesUnasked : Option Settings → ℕ → ℕ → Option (List ℕ) → Option (List ℕ) → Type 0
LeavesUnasked s faults faults' left left' = reads s ≡ false → (faults' ≡ faults) × (left' ≡ left)

-- nothing is left of a source that tells
abbrev pub IsReadWhole : Option (List ℕ) → Option (List ℕ) → Type 0
IsReadWhole left left' = (bytes : List ℕ) → left ≡ Some bytes → left' ≡ Some []

-- nothing is left of a source that tells at most 16,777,216 bytes
abbrev pub IsShortReadWhole : Option (List ℕ) → Option (List ℕ) → Type 0
IsShortReadWhole left left' = (bytes : List ℕ) → left ≡ Some bytes → length bytes ≤ most_bytes → left' ≡ Some []

-- Nothing is left after an answer that the bytes of the source decide; nor where the sink failed and no read
-- did (`calm`): all is read before anything is written.
abbrev pub ReadsAll : Option Settings → Type 0 → Option (List ℕ) → Option (List ℕ) → Status → Type 0
ReadsAll s calm left left' Closed = reads s ≡ true → IsReadWhole left left'
ReadsAll s calm left left' Stopped = reads s ≡ true → IsReadWhole left left'
ReadsAll s calm left left' Full = reads s ≡ true → IsReadWhole left left'
ReadsAll s calm left left' BadInstance = IsReadWhole left left'
ReadsAll s calm left left' WriteFault = reads s ≡ true → calm → IsShortReadWhole left left'
ReadsAll s calm left left' status = ⊤

-- a count that rose in the call tells which stream failed
abbrev pub ReadFailed : Status → Type 0
ReadFailed ReadFault = ⊤
ReadFailed WriteFault = ⊤
ReadFailed status = ⊥

-- just this text was written after what stood there
abbrev pub Written : List ℕ → List ℕ → Option (List ℕ) → Type 0
Written text before after = after ≡ Some (before ++ text)

-- a proper prefix of the text was written
abbrev pub WrittenInPart : List ℕ → List ℕ → Option (List ℕ) → Type 0
WrittenInPart text before after = (n : ℕ) × (n < length text) × (after ≡ Some (before ++ take n text))

-- a fault's line is what was written for it, and nothing is written where memory ran out
abbrev pub WritesFaultLine : Status → List ℕ → Option (List ℕ) → Type 0
WritesFaultLine Usage = Written usage_line
WritesFaultLine BadInstance = λ before after. (bytes : List ℕ) × (f : Fault) × (instance bytes ≡ Err f) × Written (instance_line f) before after
WritesFaultLine ReadFault = Written read_line
WritesFaultLine Memory = Written []
WritesFaultLine TooLong = Written too_long_line
WritesFaultLine status = λ before after. ⊤

-- where a read failed and then the sink, that took a proper prefix of the line of a failed read
abbrev pub ReadLineInPart : Status → List ℕ → Option (List ℕ) → Type 0
ReadLineInPart WriteFault = WrittenInPart read_line
ReadLineInPart status = λ before after. ⊤

-- What stands in the sink afterwards: the text that is due or the line of a failed read, whole, or a
-- proper prefix of it where the sink failed; nothing where memory ran out. `read_failed`: the words
-- ask for the source, and it failed.
abbrev pub WritesDueText : Type 0 → List ℕ → Status → List ℕ → Option (List ℕ) → Type 0
WritesDueText read_failed due ReadFault = Written read_line
WritesDueText read_failed due WriteFault =
    λ before after. WrittenInPart due before after ⊎ (read_failed × WrittenInPart read_line before after)
WritesDueText read_failed due Memory = Written []
WritesDueText read_failed due status = Written due

-- ---- the run that was made

-- where the words and the bytes ask for a search, it made this run
abbrev pub Searches : Option Settings → List ℕ → Option Kept → SearchRun → Type 0
Searches None bytes journal r = ⊤
Searches (Some s) bytes journal r = HasRun s (searched_in s.mode s bytes) journal r

-- the same of an answer: a search was made, unless memory ran out, or a read failed
abbrev pub MadeRun : Option Settings → List ℕ → Type 0 → Option Kept → SearchRun → Status → Type 0
MadeRun s bytes read_failed journal r ReadFault = ⊤
MadeRun s bytes read_failed journal r Memory = ⊤
MadeRun s bytes read_failed journal r WriteFault = (read_failed → ⊥) → Searches s bytes journal r
MadeRun s bytes read_failed journal r status = Searches s bytes journal r

-- The answer for these bytes: a run was made, where a search is asked for; what is due with it is the status, and was written.
pub record AnswersWith (s : Option Settings) (bytes : List ℕ) (read_failed : Type 0) (journal : Option Kept) (result : Status)
    (written written' : Option (List ℕ)) (r : SearchRun) : Type 0 where
  pub made : MadeRun s bytes read_failed journal r result
  pub status : AnswersDueStatus (due s r bytes).status result
  pub text : (before : List ℕ) → written ≡ Some before → WritesDueText read_failed (due s r bytes).text result before written'
