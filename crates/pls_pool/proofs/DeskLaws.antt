-- Where the third word is not 0, some seat keeps a cause.
use Rattle.std.proofs.Common.{◌≡◌, ℕ, zero, suc, ◌<◌, ◌⊎◌, inl, inr, ⊎_elim, ltb, List, [], ◌∷◌, length, slice_index, sum_by, count_by, refl, ap, ◌∙◌, arith}
use Rattle.std.proofs.lemmas.List.Sums.{sum_by-cons}
use Rattle.pls_pool.specs.declared.cause.Cause.{Cause}
use Rattle.pls_pool.specs.declared.cause.Cause.TheVariants.{Spent, Full, Memory}
use Rattle.pls_pool.specs.declared.tally.Tally.{Tally}
use Rattle.pls_pool.specs.DeskRule.{is_cause, times_halted, HaltedKeepsCause}
use Rattle.pls_pool.proofs.DeskMoves.{word_as}
use mathlib.Core.Option.{some}
use lib.ListN.{get_elem?}

abbrev Keeper : List Tally → Type 0
Keeper vs = (i : ℕ) × (v : Tally) × (get_elem? vs i ≡ some v) × (0 < length v.halts)

later : (u : Tally) (vs : List Tally) → Keeper vs → Keeper (u ∷ vs)
later u vs k = (suc k.0, k.1, k.2, k.3)

-- some seat keeps a cause, or none does
found : (vs : List Tally) → Keeper vs ⊎ ((c : Cause) → sum_by (times_halted c) vs ≡ 0)
found [] = inr (λ c. refl)
found (v ∷ vs) = first v.halts refl (found vs)
  where
    first : (halts : List Cause) → v.halts ≡ halts → Keeper vs ⊎ ((c : Cause) → sum_by (times_halted c) vs ≡ 0) → Keeper (v ∷ vs) ⊎ ((c : Cause) → sum_by (times_halted c) (v ∷ vs) ≡ 0)
    first (d ∷ ds) is rest = inl (zero, v, refl, let n = ap length is in omega arith)
    first [] is rest =
        ⊎_elim (λ keeper. inl (later v vs keeper))
        (λ none. inr (λ c. let here : times_halted c v ≡ 0 = ap (count_by (is_cause c)) is in let more = none c in omega (arith, sum_by-cons (times_halted c) v vs))) rest

pub halted_keeps : HaltedKeepsCause
halted_keeps key ws vs kept some_word =
    ⊎_elim (λ keeper. keeper)
    (λ none. absurd (let is : slice_index ws 16 ≡ 0 = kept.causes_are ∙ word_as _ _ _ _ _ _ (ap (ltb 0) (none Spent)) (ap (ltb 0) (none Full)) (ap (ltb 0) (none Memory)) in omega arith))
    (found vs)
