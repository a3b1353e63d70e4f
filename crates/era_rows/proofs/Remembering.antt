-- What a pass remembers it still remembers, and it holds still, where the pass has seen more.
use Rattle.std.proofs.Common.{◌≡◌, ℕ, zero, suc, ◌<◌, ⊎_elim, Bool, true, Option, Some, None, List, [], ◌∷◌, ◌++◌, length, get_or, set, replicate, refl, sym, ap, ◌∙◌, length-set, arith}
use Rattle.std.specs.Prelude.{IfSome}
use Rattle.std.proofs.lemmas.Option.{none-some}
use Rattle.era_core.proofs.ListFacts.{at_set}
use Rattle.era_rows.specs.declared.memory.TheConstants.{MEMORY_PLACES}
use Rattle.era_rows.specs.Memory.{Memory, Recalls}
use Rattle.era_rows.specs.Lists.{IsPrefix}
use mathlib.Core.Option.{some, some-injective, some-ne-none}
use lib.ListN.{get_elem?}

-- where no words are remembered
none_there : (n place : ℕ) (now : Option (List ℕ)) → get_elem? (replicate n None) place ≡ some now → now ≡ None
none_there zero place now there = absurd (some-ne-none now (sym there))
none_there (suc n) zero now there = sym (some-injective None now there)
none_there (suc n) (suc place) now there = none_there n place now there

module _ {E : Type 0} {says : ℕ → List ℕ → List E → Bool} where
  -- at the same entries
  pub recalls_as : {shape shape' : ℕ} {entries entries' : List E} {memory : Memory} → shape' ≡ shape → entries' ≡ entries → Recalls says shape entries memory → Recalls says shape' entries' memory
  recalls_as {shape} {shape'} {entries} {entries'} {memory} same all recalls = record {
    places = recalls.places;
    holds = λ place words there. ap (λ n. says n words entries') same ∙ ap (says shape words) all ∙ recalls.holds place words there;
  }

  -- and where there are more
  pub recalls_more : {shape shape' : ℕ} {entries entries' : List E} {memory : Memory} → ((n : ℕ) (words : List ℕ) (es more : List E) → says n words es ≡ true → says n words (es ++ more) ≡ true)
      → shape' ≡ shape → IsPrefix entries entries' → Recalls says shape entries memory → Recalls says shape' entries' memory
  recalls_more {shape} {shape'} {entries} {entries'} {memory} lasts same begins recalls =
      recalls_as same (sym begins.1) (record { places = recalls.places; holds = λ place words there. lasts shape words entries begins.0 (recalls.holds place words there) })

  -- where other words, or none, are put in the place of some
  pub recalls_set : (shape : ℕ) (entries : List E) (memory : Memory) (place : ℕ) (now : Option (List ℕ)) → ((words : List ℕ) → now ≡ Some words → says shape words entries ≡ true)
      → Recalls says shape entries memory → Recalls says shape entries (set memory place now)
  recalls_set shape entries memory place now true_now recalls = record {
    places = length-set memory place now ∙ recalls.places;
    holds = λ other words there. ⊎_elim (λ here. true_now words here.1) (λ else. recalls.holds other words else.1) (at_set memory place other now (Some words) there);
  }

  pub recalls_none : {shape : ℕ} {entries : List E} → Recalls says shape entries (replicate MEMORY_PLACES None)
  recalls_none = record { places = refl; holds = λ place words there. absurd (none-some words (sym (none_there MEMORY_PLACES place (Some words) there))) }

  -- what is remembered at a place
  pub recalled : (shape : ℕ) (entries : List E) (memory : Memory) (place : ℕ) (now : Option (List ℕ)) → Recalls says shape entries memory → get_elem? memory place ≡ some now → IfSome now (λ words. says shape words entries ≡ true)
  recalled shape entries memory place None recalls there = tt
  recalled shape entries memory place (Some words) recalls there = recalls.holds place words there

pub at_or : {A : Type 0} (xs : List A) (i : ℕ) (d : A) → i < length xs → get_elem? xs i ≡ some (get_or xs i d)
at_or [] i d low = absurd (omega arith)
at_or (x ∷ xs) zero d low = refl
at_or (x ∷ xs) (suc i) d low = at_or xs i d (omega arith)
