-- The words of a text are its longest runs.
use Rattle.std.proofs.Common.{◌≡◌, ℕ, ◌+◌, ◌<◌, true, false, not, List, [], ◌∷◌, ◌++◌, length, sym, ap, subst, ◌∙◌, refl, arith}
use Rattle.std.specs.Prelude.{if◌then◌else◌, ◌==◌}
use Rattle.std.specs.List.{list_all}
use Rattle.std.proofs.lemmas.Bool.{and_parts, and_from, not_from_false, eqb-true, eqb-false}
use Rattle.std.proofs.lemmas.List.{nil_from_length}
use Rattle.pls_io.specs.Words.{PlacedWord, is_space, uncommented, joined, words_from, words}
use Rattle.pls_io.specs.WordRuns.{BeginsBlank, IsFirstRun, AreRuns}

blank_begins : (bs : List ℕ) → list_all is_space bs ≡ true → BeginsBlank bs
blank_begins [] h = tt
blank_begins (b ∷ bs) h = (and_parts (is_space b) (list_all is_space bs) h).0

gap_begins : (gap bs : List ℕ) → 0 < length gap → list_all is_space gap ≡ true → BeginsBlank (gap ++ bs)
gap_begins [] bs some h = absurd (omega arith)
gap_begins (b ∷ gap) bs some h = (and_parts (is_space b) (list_all is_space gap) h).0

-- a space prolongs the gap behind it
AreRuns-space : (place b : ℕ) (bs : List ℕ) (ws : List PlacedWord) → is_space b ≡ true → AreRuns (place + 1) bs ws → AreRuns place (b ∷ bs) ws
AreRuns-space place b bs [] space runs = and_from (is_space b) (list_all is_space bs) space runs
AreRuns-space place b bs (w ∷ ws) space runs =
    let first = runs.2 in (
      b ∷ runs.0,
      runs.1,
      record {
        parts = ap (λ ys. b ∷ ys) first.parts;
        blank = and_from (is_space b) (list_all is_space runs.0) space first.blank;
        here = omega (arith, first.here);
        some = first.some;
        solid = first.solid;
        longest = first.longest;
      },
      runs.3,
    )

-- a byte that is alone before what is blank first
run_alone : (place b : ℕ) (bs : List ℕ) → is_space b ≡ false → BeginsBlank bs → IsFirstRun place (b ∷ bs) [] bs (record { place = place; text = b ∷ [] })
run_alone place b bs solid longest =
    record {
      parts = refl;
      blank = refl;
      here = omega arith;
      some = omega arith;
      solid = and_from (not (is_space b)) true (not_from_false (is_space b) solid) refl;
      longest = longest;
    }

-- any other byte begins a word
AreRuns-joined : (place b : ℕ) (bs : List ℕ) (ws : List PlacedWord) → is_space b ≡ false → AreRuns (place + 1) bs ws → AreRuns place (b ∷ bs) (joined place b ws)
AreRuns-joined place b bs [] solid runs =
    ([], bs, run_alone place b bs solid (blank_begins bs runs), runs)
AreRuns-joined place b bs (w ∷ ws) solid runs =
    let first = runs.2 in
    elim (w.place == place + 1) as (λ v. (w.place == place + 1) ≡ v → AreRuns place (b ∷ bs) (if v then record { place = place; text = b ∷ w.text } ∷ ws else record { place = place; text = b ∷ [] } ∷ w ∷ ws)) [
      | true ↦ λ e.
          let near : w.place ≡ place + 1 = eqb-true w.place (place + 1) e in
          let none : runs.0 ≡ [] = nil_from_length runs.0 (omega (arith, first.here, near)) in (
            [],
            runs.1,
            record {
              parts = ap (λ ys. b ∷ ys) (first.parts ∙ ap (λ ys. ys ++ (w.text ++ runs.1)) none);
              blank = refl;
              here = omega arith;
              some = omega arith;
              solid = and_from (not (is_space b)) (list_all (λ c. not (is_space c)) w.text) (not_from_false (is_space b) solid) first.solid;
              longest = first.longest;
            },
            let e : w.place + length w.text ≡ place + length (b ∷ w.text) = omega (arith, near) in
                subst (λ (n : ℕ). AreRuns n runs.1 ws) e runs.3,
          )
      | false ↦ λ e.
          let apart : 0 < length runs.0 = omega (arith, first.here, eqb-false w.place (place + 1) e) in
          ([], bs, run_alone place b bs solid (subst BeginsBlank (sym first.parts) (gap_begins runs.0 (w.text ++ runs.1) apart first.blank)), runs)
    ] refl

words_from-are_runs : (place : ℕ) (bs : List ℕ) → AreRuns place bs (words_from place bs)
words_from-are_runs place [] = refl
words_from-are_runs place (b ∷ bs) =
    let ws = words_from (place + 1) bs in
    let runs = words_from-are_runs (place + 1) bs in
    elim (is_space b) as (λ v. is_space b ≡ v → AreRuns place (b ∷ bs) (if v then ws else joined place b ws)) [
      | true ↦ λ e. AreRuns-space place b bs ws e runs
      | false ↦ λ e. AreRuns-joined place b bs ws e runs
    ] refl

pub words-are_runs : (text : List ℕ) → AreRuns 0 (uncommented false text) (words text)
words-are_runs text = words_from-are_runs 0 (uncommented false text)
