use Rattle.std.proofs.Common.{◌≡◌, ◌+◌, ℕ, [], ◌∷◌}
use Rattle.std.specs.Prelude.{vec_len}
use Rattle.era_rows.specs.Rule.{knowing}
use Rattle.era_rows.specs.Passes.{started_known, IsStarted}
use Rattle.era_rows.proofs.rows.Rows.split_others.Given as goal
use mathlib.Core.Option.{some}
use lib.ListN.{get_elem?}

-- the passes below this number have begun
abbrev pub invariant-loop-number : goal.invariant-loop-number
invariant-loop-number g l =
    (l.seat.table_id ≡ l.self.table.shared.table_id)
    × (l.seat.me ≡ (knowing [] ((0, []) ∷ []) (started_known l.self.shape l.self.rows l.self.passes l.number 0), []))
    × (vec_len l.others + 1 ≡ l.number)
    × ((i : ℕ) (p : _) → get_elem? l.others.items i ≡ some p → IsStarted l.self (i + 1) p)
