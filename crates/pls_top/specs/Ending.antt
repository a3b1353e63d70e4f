-- How a part of the program ends.
use Rattle.std.specs.Prelude.{◌≡◌, ◌⊎◌, ℕ, ◌<◌, ◌≤◌, true, List, length, Option, Some}
use Rattle.pls_io.specs.Streams.{Rose}
use Rattle.pls_settings.specs.declared.choices.Settings.{Settings}
use Rattle.pls_top.specs.declared.status.Status.{Status}
use Rattle.pls_top.specs.declared.status.Status.TheVariants.{ReadFault, WriteFault, Memory, TooLong}
use Rattle.pls_top.specs.Answer.{IsReadWhole, Written, WrittenInPart, Searches}
use Rattle.pls_top.specs.Due.{most_bytes, read_line, too_long_line, Due, due, reads}
use Rattle.pls_problem.specs.declared.instance.Instance.{Instance}
use Rattle.pls_top.specs.Kept.{Kept}
use Rattle.pls_top.specs.Runs.{SearchRun, HasRun}

-- all of a text was written, no write failed, and the answer is this status
abbrev pub WroteAll : Due → ℕ → ℕ → Option (List ℕ) → Option (List ℕ) → Status → Type 0
WroteAll d faults faults' written written' result =
    (result ≡ d.status) × (faults' ≡ faults) × ((before : List ℕ) → written ≡ Some before → Written d.text before written')

-- the sink failed, after a proper prefix of the text
abbrev pub WrotePart : Due → ℕ → ℕ → Option (List ℕ) → Option (List ℕ) → Status → Type 0
WrotePart d faults faults' written written' result =
    (result ≡ WriteFault) × Rose faults faults'
    × ((before : List ℕ) → written ≡ Some before → WrittenInPart d.text before written')

-- a text was written, with this status, as far as the sink went
abbrev pub Finishes : Due → ℕ → ℕ → Option (List ℕ) → Option (List ℕ) → Status → Type 0
Finishes d faults faults' written written' result =
    WroteAll d faults faults' written written' result ⊎ WrotePart d faults faults' written written' result

-- nothing was written for want of memory
abbrev pub LacksMemory : ℕ → ℕ → Option (List ℕ) → Option (List ℕ) → Status → Type 0
LacksMemory faults faults' written written' result = (result ≡ Memory) × (faults' ≡ faults) × (written' ≡ written)

-- the same, unless memory ran out before
abbrev pub FinishesIfMemory : Due → ℕ → ℕ → Option (List ℕ) → Option (List ℕ) → Status → Type 0
FinishesIfMemory d faults faults' written written' result =
    LacksMemory faults faults' written written' result ⊎ Finishes d faults faults' written written' result

-- the same, with what is due for a run, which was made where an instance is searched
abbrev pub FinishesSearch : Settings → Option Instance → Option Kept → (SearchRun → Due) → ℕ → ℕ → Option (List ℕ) → Option (List ℕ) → Status → Type 0
FinishesSearch s searched journal d faults faults' written written' result =
    LacksMemory faults faults' written written' result
    ⊎ ((r : SearchRun) × HasRun s searched journal r × Finishes (d r) faults faults' written written' result)

-- the state of the two streams
pub record Streams : Type 0 where
  pub read_faults : ℕ
  pub left : Option (List ℕ)
  pub write_faults : ℕ
  pub written : Option (List ℕ)

-- these bytes were read, where the words ask for the source: all that it had left
pub record WasRead (s : Option Settings) (bytes : List ℕ) (before after : Streams) : Type 0 where
  pub steady : after.read_faults ≡ before.read_faults
  pub short : reads s ≡ true → length bytes ≤ most_bytes
  pub told : reads s ≡ true → (left : List ℕ) → before.left ≡ Some left → bytes ≡ left
  pub none_left : reads s ≡ true → IsReadWhole before.left after.left

-- a text was written, as far as the sink went
abbrev pub Ends : Due → Streams → Streams → Status → Type 0
Ends d before after result = Finishes d before.write_faults after.write_faults before.written after.written result

-- a call ended for want of memory
pub record EndsWithoutMemory (before after : Streams) (result : Status) : Type 0 where
  pub steady : after.read_faults ≡ before.read_faults
  pub lacks : LacksMemory before.write_faults after.write_faults before.written after.written result

-- with what is due for the bytes that were read, and for the run that was made where a search is asked for
pub record EndsAsDue (s : Option Settings) (journal : Option Kept) (before after : Streams) (result : Status) : Type 0 where
  pub bytes : List ℕ
  pub run : SearchRun
  pub read : WasRead s bytes before after
  pub searches : Searches s bytes journal run
  pub ends : Ends (due s run bytes) before after result

-- with the line of a text that is too long
pub record EndsTooLong (s : Option Settings) (before after : Streams) (result : Status) : Type 0 where
  pub asked : reads s ≡ true
  pub steady : after.read_faults ≡ before.read_faults
  pub long : (left : List ℕ) → before.left ≡ Some left → most_bytes < length left
  pub ends : Ends (record { status = TooLong; text = too_long_line }) before after result

-- with the line of a read that failed
pub record EndsUnread (s : Option Settings) (before after : Streams) (result : Status) : Type 0 where
  pub asked : reads s ≡ true
  pub rose : Rose before.read_faults after.read_faults
  pub ends : Ends (record { status = ReadFault; text = read_line }) before after result

-- how a call of the program ends
abbrev pub IsEnding : Option Settings → Option Kept → Streams → Streams → Status → Type 0
IsEnding s journal before after result =
    EndsWithoutMemory before after result
    ⊎ (EndsAsDue s journal before after result ⊎ (EndsTooLong s before after result ⊎ EndsUnread s before after result))
