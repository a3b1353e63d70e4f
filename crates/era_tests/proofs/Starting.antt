-- Passes as the start leaves them are at rest.
use Rattle.std.proofs.Common.{◌≡◌, ℕ, List, [], ◌∷◌, length, refl, sym, ap, subst, arith}
use Rattle.std.specs.Prelude.{slice_index_or}
use Rattle.std.specs.List.{remove}
use Rattle.era_rows.specs.Known.{Known}
use Rattle.era_rows.specs.Passes.{IsStarted}
use Rattle.era_rows.specs.declared.pass.Pass.{Pass}
use Rattle.era_rows.specs.declared.rows.Rows.{Rows}
use Rattle.era_rows.specs.declared.law.Law.{Ghosts}
use Rattle.era_one_row.specs.Ready.{IsIdle}
use mathlib.Core.Option.{some}
use lib.ListN.{get_elem?}

module _ {L E : Type 0} {G : Ghosts L E} (r : Rows L E) where
  idle : (n : ℕ) (p : Pass L E G) → IsStarted r n p → IsIdle r p
  idle n p started = record {
    at_rest = record { is_pass = started.is_pass; unpinned = ap (λ (k : Known). k.core.pinned) started.knows; no_marks = started.no_marks };
    no_work = started.no_work;
  }

  -- the only one
  pub one_idle : (ps : List (Pass L E G)) (a : Pass L E G) → length ps ≡ 1 → ((i : ℕ) (p : Pass L E G) → get_elem? ps i ≡ some p → IsStarted r i p)
      → a ≡ slice_index_or ps 0 a → IsIdle r a
  one_idle [] a one started first = absurd (omega arith)
  one_idle (x ∷ ps) a one started first = subst (IsIdle r) (sym first) (idle 0 x (started 0 x refl))

  -- the second one of two, and then the first one
  pub two_idle : (ps : List (Pass L E G)) (a b : Pass L E G) → length ps ≡ 2 → ((i : ℕ) (p : Pass L E G) → get_elem? ps i ≡ some p → IsStarted r i p)
      → b ≡ slice_index_or ps 1 b → a ≡ slice_index_or (remove ps 1) 0 a → IsIdle r a × IsIdle r b
  two_idle [] a b two started second first = absurd (omega arith)
  two_idle (x ∷ []) a b two started second first = absurd (omega arith)
  two_idle (x ∷ y ∷ ps) a b two started second first = (
    subst (IsIdle r) (sym first) (idle 0 x (started 0 x refl)),
    subst (IsIdle r) (sym second) (idle 1 y (started 1 y refl)),
  )
