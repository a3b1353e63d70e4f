-- What a pass remembers for the layer above.
use Rattle.std.specs.Prelude.{◌≡◌, ℕ, Bool, true, Option, Some, List, length}
use Rattle.era_rows.specs.declared.memory.TheConstants.{MEMORY_PLACES}
use mathlib.Core.Option.{some}
use lib.ListN.{get_elem?}

-- the words at each place, where there are any
abbrev pub Memory : Type 0
Memory = List (Option (List ℕ))

-- what the remembered words say holds at these entries
pub record Recalls {E : Type 0} (says : ℕ → List ℕ → List E → Bool) (shape : ℕ) (entries : List E) (memory : Memory) : Type 0 where
  pub places : length memory ≡ MEMORY_PLACES
  pub holds : (place : ℕ) (words : List ℕ) → get_elem? memory place ≡ some (Some words) → says shape words entries ≡ true
