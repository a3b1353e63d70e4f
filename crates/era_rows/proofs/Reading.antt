-- The steps of reading, pinning and leaving, on the table: each keeps the rule, and tells what it must.
use Rattle.std.proofs.Common.{◌≡◌, ℕ, ◌+◌, ◌<◌, ⊎_elim, Bool, Some, None, List, set, slice_index, refl, sym, ap, subst, ◌∙◌, arith}
use Rattle.std.proofs.lemmas.List.{set-get_or}
use Rattle.atomic_table.specs.Table.{State, Me, keeps, step, Allows}
use Rattle.era_core.specs.declared.sizes.TheConstants.{WIDTH}
use Rattle.era_core.specs.Words.{reservation_at, cell_at}
use Rattle.era_core.specs.Versions.{Copy, Stands, look_up}
use Rattle.era_core.proofs.CopyFacts.{at_append}
use Rattle.era_core.proofs.Readers.{look_up_stands}
use Rattle.era_rows.specs.Trees.{IsTree}
use Rattle.era_rows.specs.Known.{Known, pinned_copy, known_words, noting_root, reserving, reading_word}
use Rattle.era_rows.specs.Rule.{knowing}
use Rattle.era_rows.specs.Plays.{noted, announced, has_read, pinned}
use Rattle.era_rows.specs.declared.views.Knows.{Knows}
use Rattle.era_rows.specs.declared.sizes.Sizes.{Sizes}
use Rattle.era_rows.proofs.Seats.{prefix_at}
use Rattle.era_rows.proofs.Copies.{pinned_cell}
use Rattle.era_rows.proofs.Moves as moved
use Rattle.era_rows.proofs.Moves.{Keeps, here, agrees}
use Rattle.era_rows.proofs.Learning.{having_pinned, pinned_kept, pinned_told}
use Rattle.era_rows.proofs.Allowing.{Held}
use mathlib.Core.Option.{some, none}
use lib.ListN.{get_elem?}

module _ {E : Type 0} (caller stamp : E → ℕ) (accepted : ℕ → E → Bool) (lawful : ℕ → Copy → Type 0) (stands : ℕ → Copy → List E → Type 0)
    (right : ℕ → E → List E → Type 0) (key : Sizes) where
  -- the words of the pinned version stand
  pub pinned_words_stand : (ws : List ℕ) (vs : List (Knows E)) (kept : Keeps caller stamp accepted lawful stands right key ws vs) (i j : ℕ) (k : Knows E) → get_elem? vs i ≡ some k → k.view.core.number ≡ Some j
      → Stands key.passes key.rows ws (pinned_copy k.view).cells
  pinned_words_stand ws vs kept i j k at mine n c there =
      let old = agrees caller stamp accepted lawful stands right key ws vs kept i j k at mine in
      let seat = here caller stamp accepted lawful stands right key ws vs kept i j k at mine in
      let version = pinned_cell k.view n c there in
      let copy = prefix_at k.view.copies kept.copies version.0 (pinned_copy k.view) old.hears.known_first version.3 in
      let pin = (kept.sound.each i k.view.core seat).pin j version.0 version.1 mine version.2 in
      pin.stands (pinned_copy k.view) copy n c there

  -- all words that a pass knows stand
  pub words_stand : (ws : List ℕ) (vs : List (Knows E)) (kept : Keeps caller stamp accepted lawful stands right key ws vs) (i j : ℕ) (k : Knows E) → get_elem? vs i ≡ some k → k.view.core.number ≡ Some j
      → Stands key.passes key.rows ws (known_words k.view)
  words_stand ws vs kept i j k at mine n c there =
      let old = agrees caller stamp accepted lawful stands right key ws vs kept i j k at mine in
      ⊎_elim
      (λ own. old.written.stand own.0 c own.1)
      (λ shared. pinned_words_stand ws vs kept i j k at mine shared.0 c shared.1)
      (at_append k.view.written (pinned_copy k.view).cells n c there)

  module _ {S : Type 0} (slots id j : ℕ) (me : Me S (Knows E)) (mine : me.0.view.core.number ≡ Some j) where
    abbrev known : Known
    known = me.0.view

    abbrev after : Known → Knows E
    after k = knowing me.0.seen me.0.lists k

    -- a load leaves the words
    loaded : (s : State S (Knows E)) (i : ℕ) (w : Knows E) → Keeps caller stamp accepted lawful stands right key s.words (set s.views id w)
        → Keeps caller stamp accepted lawful stands right key (set s.words i (slice_index s.words i)) (set s.views id w)
    loaded s i w kept = subst (λ ws. Keeps caller stamp accepted lawful stands right key ws (set s.views id w)) (sym (set-get_or s.words i 0)) kept

    reads_word : (r p : ℕ) → p < WIDTH
        → Allows (Held caller stamp accepted lawful stands right key) slots id me (cell_at key.passes key.rows r p) (λ n. n) (has_read (step slots (cell_at key.passes key.rows r p) 0 0 none) me)
    reads_word r p near s kept homes at bound = (
      after (reading_word i n known),
      keeps,
      tt,
      loaded s i (after (reading_word i n known)) (moved.has_read caller stamp accepted lawful stands right key s.words s.views kept id j me.0 at mine i n),
      ((refl, refl), found, found_pinned),
    )
      where
        i : ℕ
        i = cell_at key.passes key.rows r p

        n : ℕ
        n = slice_index s.words i

        found : (q o w : ℕ) → o < WIDTH → i ≡ cell_at known.passes known.rows q o → look_up (known_words known) q o ≡ Some w → n ≡ w
        found q o w close e is =
            let sizes = (agrees caller stamp accepted lawful stands right key s.words s.views kept id j me.0 at mine).sizes in
            let place : i ≡ cell_at key.passes key.rows q o = omega (arith, sizes.passes_are, sizes.rows_are) in
            ap (slice_index s.words) place ∙ look_up_stands key.passes key.rows s.words (known_words known) (words_stand s.words s.views kept id j me.0 at mine) q o w is

        found_pinned : (q o w : ℕ) → o < WIDTH → i ≡ cell_at known.passes known.rows q o → look_up (pinned_copy known).cells q o ≡ Some w → n ≡ w
        found_pinned q o w close e is =
            let sizes = (agrees caller stamp accepted lawful stands right key s.words s.views kept id j me.0 at mine).sizes in
            let place : i ≡ cell_at key.passes key.rows q o = omega (arith, sizes.passes_are, sizes.rows_are) in
            ap (slice_index s.words) place ∙ look_up_stands key.passes key.rows s.words (pinned_copy known).cells (pinned_words_stand s.words s.views kept id j me.0 at mine) q o w is

    pub reads_at : (r p place : ℕ) → place ≡ cell_at key.passes key.rows r p → p < WIDTH
        → Allows (Held caller stamp accepted lawful stands right key) slots id me place (λ n. n) (has_read (step slots place 0 0 none) me)
    reads_at r p place place_is near =
        subst (λ x. Allows (Held caller stamp accepted lawful stands right key) slots id me x (λ n. n) (has_read (step slots x 0 0 none) me)) (sym place_is) (reads_word r p near)

    pub notes_root : known.core.pinned ≡ None → known.reserves ≡ 0
        → Allows (Held caller stamp accepted lawful stands right key) slots id me 0 (λ n. n) (noted (step slots 0 0 0 none) me)
    notes_root loose silent s kept homes at bound = (
      after (noting_root (slice_index s.words 0) known),
      keeps,
      tt,
      loaded s 0 (after (noting_root (slice_index s.words 0) known)) (moved.noted caller stamp accepted lawful stands right key s.words s.views kept id j me.0 at mine loose silent),
      (refl, refl),
    )

    pub announces_at : (n place word : ℕ) → place ≡ reservation_at key.passes key.rows j → word ≡ n + 1 → known.core.noted ≡ Some n → known.reserves ≡ 0
        → Allows (Held caller stamp accepted lawful stands right key) slots id me place (λ _. word) (λ _. announced (step slots place word 0 none) me word)
    announces_at n place word place_is word_is is_noted silent s kept homes at bound = (
      after (reserving n known),
      keeps,
      tt,
      subst (λ x. Keeps caller stamp accepted lawful stands right key (set s.words x word) (set s.views id (after (reserving n known)))) (sym place_is)
          (subst (λ x. Keeps caller stamp accepted lawful stands right key (set s.words (reservation_at key.passes key.rows j) x) (set s.views id (after (reserving n known)))) (sym word_is)
          (moved.announced caller stamp accepted lawful stands right key s.words s.views kept id j me.0 at mine n is_noted silent)),
      λ m e. let same : n ≡ m = omega arith in (ap (λ x. after (reserving x known)) same, refl),
    )

    pub pins_root : ((shape : ℕ) (c : Copy) → lawful shape c → IsTree c) → known.core.pinned ≡ None → 0 < known.reserves
        → Allows (Held caller stamp accepted lawful stands right key) slots id me 0 (λ n. n) (pinned caller stamp accepted lawful stands right (step slots 0 0 0 none) me)
    pins_root fits loose reserves s kept homes at bound =
        let now = having_pinned caller stamp accepted lawful stands right key s.words s.views kept id j me.0 at mine fits loose reserves in (
          now,
          keeps,
          tt,
          loaded s 0 now (pinned_kept caller stamp accepted lawful stands right key s.words s.views kept id j me.0 at mine fits loose reserves),
          (pinned_told caller stamp accepted lawful stands right key s.words s.views kept id j me.0 at mine fits loose reserves, refl),
        )
