-- A pass holds different rows, each of them a row.
use Rattle.std.proofs.Common.{◌≡◌, ℕ, ◌<◌, ◌≤◌, Some, List, arith}
use Rattle.era_core.specs.Lists.{times, In}
use Rattle.era_core.specs.Views.{View, rows_in, held}
use Rattle.era_core.specs.Versions.{Copy}
use Rattle.era_core.specs.Sound.{Sound}
use Rattle.era_core.proofs.ListFacts.{in-append_left}
use Rattle.era_core.proofs.Frees.{held_once, held_within}
use Rattle.era_rows.specs.Known.{Known}
use Rattle.era_rows.specs.Held.{HoldsRows}
use mathlib.Core.Option.{some}
use lib.ListN.{get_elem?}

-- where the machine is sound, a view with a number holds no row twice, and each that it holds is a row
pub holds_rows : (passes rows : ℕ) (ws : List ℕ) (vs : List View) (cs : List Copy) → Sound passes rows ws vs cs → (i j : ℕ) (v : View) → get_elem? vs i ≡ some v → v.number ≡ Some j
    → ((r : ℕ) → times r (held v) ≤ 1) × ((r : ℕ) → In r (held v) → r < rows)
holds_rows passes rows ws vs cs sound i j v at mine =
    (λ r. (let once = held_once passes rows ws vs cs sound i j v at mine r in omega arith), held_within passes rows ws vs cs sound i j v at mine)

-- fresh rows are rows
pub fresh_inside : (k : Known) → HoldsRows k → (x : ℕ) → In x k.core.fresh → x < k.rows
fresh_inside k holds x here = holds.inside x (in-append_left x k.core.fresh (rows_in k.core.retired) here)
