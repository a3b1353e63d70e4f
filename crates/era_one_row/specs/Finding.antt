-- How a replacement finds a row, and what it frees and takes on the way.
use Rattle.std.specs.Prelude.{ℕ, ◌⊎◌, Option, Some, None, []}
use Rattle.era_rows.specs.Known.{Known}
use Rattle.era_rows.specs.FreshRows.{TakesWithin}
use Rattle.era_rows.specs.Passes.{FindsTaken, Takes, SearchesOrFull, Tidies}
use Rattle.era_one_row.specs.Ready.{GoesOn, new_looks}

-- The pass took a row, or found none free, tidied, and then took one; or it found none free again, and recorded this
abbrev pub FindsRow : ℕ → Known → Known → Option ℕ → Type 0
FindsRow rows before after (Some r) = Takes 0 rows r before after ⊎ ((k l : Known) × FindsTaken 0 rows before k × Tidies k l × Takes 0 rows r l after)
FindsRow rows before after None = (k l : Known) × FindsTaken 0 rows before k × Tidies k l × SearchesOrFull rows l after None

-- a call that goes on, and may have tidied once on its way
abbrev pub MayTidy : Known → Known → Type 0
MayTidy before after = GoesOn before after ⊎ ((k l : Known) × GoesOn before k × Tidies k l × GoesOn l after)

-- the last that the call did was to tidy
abbrev pub TidiesLast : Known → Known → Type 0
TidiesLast before after = (k : Known) × MayTidy before k × Tidies k after

-- at each moment of the call it had taken so many rows at most, those included that it gave back
abbrev pub TakesAtMost : ℕ → ℕ → ℕ → Known → Known → Type 0
TakesAtMost passes rows most before after = TakesWithin passes rows [] most (new_looks before after)
