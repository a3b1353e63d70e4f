-- What the running rule says of every moment between two steps, whatever the passes do.
use Rattle.std.specs.Prelude.{◌≡◌, ◌≢◌, ℕ, ◌<◌, Bool, Some, List}
use Rattle.era_core.specs.Lists.{In}
use Rattle.era_core.specs.Words.{owner}
use Rattle.era_core.specs.Versions.{Copy, Stands}
use Rattle.era_rows.specs.Known.{pinned_copy}
use Rattle.era_rows.specs.Rule.{Kept}
use Rattle.era_rows.specs.Plays.{IsUnused}
use Rattle.era_rows.specs.declared.views.Knows.{Knows}
use Rattle.era_rows.specs.declared.sizes.Sizes.{Sizes}
use mathlib.Core.Option.{some}
use lib.ListN.{get_elem?}

module _ {E : Type 0} (caller stamp : E → ℕ) (accepted : ℕ → E → Bool) (lawful : ℕ → Copy → Type 0) (stands : ℕ → Copy → List E → Type 0) (right : ℕ → E → List E → Type 0) where
  -- a row without an owner is held by no pass, and is in no tree that a pass has pinned
  abbrev pub FreeRowsAreUnused : Type 0
  FreeRowsAreUnused = (key : Sizes) (ws : List ℕ) (vs : List (Knows E)) → Kept caller stamp accepted lawful stands right key ws vs
      → (i j : ℕ) (k : Knows E) → get_elem? vs i ≡ some k → k.view.core.number ≡ Some j → (r : ℕ) → r < key.rows → owner key.passes key.rows ws r ≡ 0 → IsUnused r k.view

  -- the words of the version that a pass has pinned stand as they were published, and each of its rows has an owner
  abbrev pub PinnedVersionsStand : Type 0
  PinnedVersionsStand = (key : Sizes) (ws : List ℕ) (vs : List (Knows E)) → Kept caller stamp accepted lawful stands right key ws vs
      → (i j : ℕ) (k : Knows E) → get_elem? vs i ≡ some k → k.view.core.number ≡ Some j
      → Stands key.passes key.rows ws (pinned_copy k.view).cells × ((r : ℕ) → In r (pinned_copy k.view).rows → owner key.passes key.rows ws r ≢ 0)
