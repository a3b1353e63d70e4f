use Rattle.std.proofs.Common.{◌≡◌, ◌∙◌, ℕ, List, [], ◌∷◌, length, refl, sym, subst, arith}
use Rattle.std.specs.Prelude.{slice_index_or}
use Rattle.pls_turn.specs.Passes.{IsPassOf}
use Rattle.nd_shared_tests.proofs.nine_calls.by_turns.Goals as goal
use mathlib.Core.Option.{some}
use lib.ListN.{get_elem?}

-- the only one of a list
only : {A : Type 0} (P : A → Type 0) (xs : List A) (a : A) → length xs ≡ 1 → ((k : ℕ) (x : A) → get_elem? xs k ≡ some x → P x) → a ≡ slice_index_or xs 0 a → P a
only P [] a one each first = absurd (omega arith)
only P (x ∷ xs) a one each first = subst P (sym first) (each 0 x refl)

pub returns-clause-pass : goal.returns-clause-pass
returns-clause-pass g c =
    only (IsPassOf c.in_ok-archive.archive) c.in_ok-archive.passes.items c.remove-pass.result (sym c.in_ok-archive.passes.ok.0 ∙ c.in_ok-archive.ensures.count) (λ k p at. (c.in_ok-archive.ensures.passes k p at).pass) c.remove-pass.ensures.value
