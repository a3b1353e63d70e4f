-- The steps on the table: each keeps the rule, and tells what it must.
use Rattle.std.proofs.Common.{◌≡◌, ℕ, ◌+◌, ◌<◌, Bool, cond, eqb, Option, List, Some, set, slice_index, refl, sym, ap, subst, ◌∙◌, arith}
use Rattle.std.proofs.lemmas.List.{set-get_or}
use Rattle.atomic_table.specs.Table.{State, Me, Act, keeps, Valid, carried_after, stepped, step, Allows}
use Rattle.atomic_table.proofs.Lists.{exchanged}
use Rattle.era_core.specs.declared.sizes.TheConstants.{WIDTH}
use Rattle.era_core.specs.Lists.{In}
use Rattle.era_core.specs.Words.{owner_at, cell_at}
use Rattle.era_core.specs.Versions.{Copy}
use Rattle.era_rows.specs.Known.{Shortage, Known, recording, finding, taking_row, writing, freeing_row}
use Rattle.era_rows.specs.Rule.{knowing}
use Rattle.era_rows.specs.Held.{IsAlone, IsOwn}
use Rattle.era_rows.specs.Plays.{IsUnused, IsNow, took, wrote, freed}
use Rattle.era_rows.specs.declared.views.Knows.{Knows}
use Rattle.era_rows.specs.declared.sizes.Sizes.{Sizes}
use Rattle.era_rows.proofs.Moves.{Keeps, agrees, found, took_row, unread, wrote_row, freed_row}
use Rattle.era_rows.proofs.Alone.{owned_own}
use mathlib.Core.Option.{none}

module _ {E : Type 0} (caller stamp : E → ℕ) (accepted : ℕ → E → Bool) (lawful : ℕ → Copy → Type 0) (stands : ℕ → Copy → List E → Type 0)
    (right : ℕ → E → List E → Type 0) (key : Sizes) {S : Type 0} where
  abbrev pub Held : State S (Knows E) → Type 0
  Held s = Keeps caller stamp accepted lawful stands right key s.words s.views

  module _ (slots id j : ℕ) (me : Me S (Knows E)) (mine : me.0.view.core.number ≡ Some j) where
    abbrev known : Known
    known = me.0.view

    abbrev after : Known → Knows E
    after k = knowing me.0.seen me.0.lists k

    pub takes_row : (full : Known → Option Shortage) (r : ℕ) → r < key.rows
        → Allows Held slots id me (owner_at key.passes key.rows r) (λ n. cond (eqb n 0) (j + 1) n) (took full (step slots (owner_at key.passes key.rows r) 0 (j + 1) none) me)
    takes_row full r row s kept homes at bound =
        exchanged n 0 (j + 1) Goes
        (λ free. (
          after (taking_row r known),
          keeps,
          tt,
          took_row caller stamp accepted lawful stands right key s.words s.views kept id j me.0 at mine r row free,
          λ q e. (
            (λ zero. subst (λ x. IsNow me (after (taking_row r known), me.1) (taking_row x known) × IsUnused x known) (same_row q e)
                ((refl, refl), unread caller stamp accepted lawful stands right key s.words s.views kept id j me.0 at mine r row free)),
            (λ owned. absurd (owned free)),
          ),
        ))
        (λ owned. (
          after (recording full (finding i n known)),
          keeps,
          tt,
          subst (λ ws. Keeps caller stamp accepted lawful stands right key ws (set s.views id (after (recording full (finding i n known))))) (sym (set-get_or s.words i 0))
              (found caller stamp accepted lawful stands right key s.words s.views kept id j me.0 at mine i n full),
          λ q e. (
            (λ zero. absurd (owned zero)),
            (λ again. (
              (refl, refl),
              subst (λ x. IsAlone known → IsOwn x known) (same_row q e)
                  (owned_own caller stamp accepted lawful stands right key s.words s.views kept id j me.0 at mine r row (omega (arith, owned))),
            )),
          ),
        ))
      where
        i : ℕ
        i = owner_at key.passes key.rows r

        n : ℕ
        n = slice_index s.words i

        Goes : ℕ → Type 0
        Goes x = (w : Knows E) × (a : Act S) × Valid s.homes me.1 a × Held (stepped s i x id me.1 w a) × took full (step slots i 0 (j + 1) none) me n (w, carried_after me.1 a)

        same_row : (q : ℕ) → i ≡ owner_at known.passes known.rows q → r ≡ q
        same_row q e =
            let sizes = (agrees caller stamp accepted lawful stands right key s.words s.views kept id j me.0 at mine).sizes in
            omega (arith, sizes.passes_are)

    -- the same, where the place and the word are given by equal numbers
    pub takes_at : (full : Known → Option Shortage) (r place word : ℕ) → place ≡ owner_at key.passes key.rows r → word ≡ j + 1 → r < key.rows
        → Allows Held slots id me place (λ n. cond (eqb n 0) word n) (took full (step slots place 0 word none) me)
    takes_at full r place word place_is word_is row =
        subst (λ x. Allows Held slots id me x (λ n. cond (eqb n 0) word n) (took full (step slots x 0 word none) me)) (sym place_is)
        (subst (λ x. Allows Held slots id me (owner_at key.passes key.rows r) (λ n. cond (eqb n 0) x n) (took full (step slots (owner_at key.passes key.rows r) 0 x none) me)) (sym word_is)
        (takes_row full r row))

    pub writes_row : (r p word : ℕ) → In r known.core.fresh → p < WIDTH
        → Allows Held slots id me (cell_at key.passes key.rows r p) (λ _. word) (λ _. wrote (step slots (cell_at key.passes key.rows r p) word 0 none) me word)
    writes_row r p word fresh place s kept homes at bound = (
      after (writing r p word known),
      keeps,
      tt,
      wrote_row caller stamp accepted lawful stands right key s.words s.views kept id j me.0 at mine r fresh p word place,
      λ q o near e.
          let sizes = (agrees caller stamp accepted lawful stands right key s.words s.views kept id j me.0 at mine).sizes in
          let row : r ≡ q = omega (arith, sizes.passes_are, sizes.rows_are) in
          let same_place : p ≡ o = omega (arith, sizes.passes_are, sizes.rows_are) in
          (ap (λ x. after (writing x p word known)) row ∙ ap (λ x. after (writing q x word known)) same_place, refl),
    )

    pub frees_row : (r : ℕ) → In r known.core.fresh
        → Allows Held slots id me (owner_at key.passes key.rows r) (λ _. 0) (λ _. freed (step slots (owner_at key.passes key.rows r) 0 0 none) me 0)
    frees_row r fresh s kept homes at bound = (
      after (freeing_row r known),
      keeps,
      tt,
      freed_row caller stamp accepted lawful stands right key s.words s.views kept id j me.0 at mine r fresh,
      λ q e.
          let sizes = (agrees caller stamp accepted lawful stands right key s.words s.views kept id j me.0 at mine).sizes in
          let row : r ≡ q = omega (arith, sizes.passes_are) in
          (ap (λ x. after (freeing_row x known)) row, refl),
    )

    pub writes_at : (r p place word : ℕ) → place ≡ cell_at key.passes key.rows r p → In r known.core.fresh → p < WIDTH
        → Allows Held slots id me place (λ _. word) (λ _. wrote (step slots place word 0 none) me word)
    writes_at r p place word place_is fresh near =
        subst (λ x. Allows Held slots id me x (λ _. word) (λ _. wrote (step slots x word 0 none) me word)) (sym place_is) (writes_row r p word fresh near)

    pub frees_at : (r place : ℕ) → place ≡ owner_at key.passes key.rows r → In r known.core.fresh
        → Allows Held slots id me place (λ _. 0) (λ _. freed (step slots place 0 0 none) me 0)
    frees_at r place place_is fresh = subst (λ x. Allows Held slots id me x (λ _. 0) (λ _. freed (step slots x 0 0 none) me 0)) (sym place_is) (frees_row r fresh)
