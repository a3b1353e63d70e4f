-- The passes, as the start leaves them, are ready.
use Rattle.std.proofs.Common.{◌≡◌, ℕ, zero, suc, List, [], ◌∷◌, length, refl, sym, subst, arith}
use Rattle.std.specs.Prelude.{All, slice_index_or}
use Rattle.era_rows.specs.declared.pass.Pass.{Pass}
use Rattle.era_rows.specs.declared.rows.Rows.{Rows}
use Rattle.era_rows.specs.declared.law.Law.{Ghosts}
use Rattle.pls_archive.specs.declared.call.Entry.{Entry}
use Rattle.nd_shared.specs.Views.{IsReady}
use mathlib.Core.Option.{some}
use lib.ListN.{get_elem?}

pub each_all : {A : Type 0} (P : A → Type 0) (xs : List A) → ((k : ℕ) (a : A) → get_elem? xs k ≡ some a → P a) → All P xs
each_all P [] each k d below = absurd (omega arith)
each_all P (x ∷ xs) each zero d below = each 0 x refl
each_all P (x ∷ xs) each (suc k) d below = each_all P xs (λ i a at. each (suc i) a at) k d (omega arith)

module _ {L : Type 0} {G : Ghosts L Entry} (r : Rows L Entry) where
  pub one_ready : (ps : List (Pass L Entry G)) (a : Pass L Entry G) → length ps ≡ 1 → ((k : ℕ) (p : Pass L Entry G) → get_elem? ps k ≡ some p → IsReady r p) → a ≡ slice_index_or ps 0 a → IsReady r a
  one_ready [] a one each first = absurd (omega arith)
  one_ready (x ∷ ps) a one each first = subst (IsReady r) (sym first) (each 0 x refl)
