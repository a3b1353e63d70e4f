-- The steps of a scan: a look at a reservation, and Free of a retired row that the scan has cleared.
use Rattle.std.proofs.Common.{◌≡◌, ℕ, ◌+◌, ◌/◌, ◌<◌, ◌⊎◌, Bool, true, not, cond, eqb, le-ltb, Some, None, List, [], ◌∷◌, ◌++◌, set, refl, sym, ap, subst, ◌∙◌, arith}
use Rattle.std.specs.Prelude.{◌&&◌}
use Rattle.std.specs.List.{list_any}
use Rattle.std.proofs.lemmas.List.{set-get_or}
use Rattle.std.proofs.lemmas.Option.{same_Some}
use Rattle.atomic_table.specs.Table.{State, Me, keeps, step, Allows}
use Rattle.era_core.specs.declared.sizes.TheConstants.{ROOT_ROWS}
use Rattle.era_core.specs.Lists.{times, In, is_in, without}
use Rattle.era_core.specs.Words.{reservation_at, owner_at, reservation}
use Rattle.era_core.specs.Views.{View, rows_in, reserved, lesser, clears, freeing, without_row}
use Rattle.era_core.specs.Versions.{Cell, Copy, Stands}
use Rattle.era_core.specs.Sound.{Sound}
use Rattle.era_core.proofs.ListFacts.{times-append, set_here}
use Rattle.era_core.proofs.BatchFacts.{cleared_there}
use Rattle.era_core.proofs.WordFacts.{owner_keeps_root, owner_keeps_reservation, owner_keeps_cell}
use Rattle.era_core.proofs.Keeps.{looks}
use Rattle.era_core.proofs.Frees.{held_once, held_within, frees_retired}
use Rattle.era_rows.specs.Known.{Known, looking_at, freeing_row, of_others}
use Rattle.era_rows.specs.Rule.{knowing, Agrees, Kept}
use Rattle.era_rows.specs.Held.{HoldsRows}
use Rattle.era_rows.specs.Plays.{looked, freed}
use Rattle.era_rows.specs.declared.views.Knows.{Knows}
use Rattle.era_rows.specs.declared.sizes.Sizes.{Sizes}
use Rattle.era_rows.proofs.Seats.{at_filter}
use Rattle.era_rows.proofs.Moves.{cores, here, agrees, pass_within, moves, quiet}
use Rattle.era_rows.proofs.Consistent.{consistent}
use Rattle.era_rows.proofs.Holding.{holds_rows}
use mathlib.Core.Option.{some, none}
use lib.ListN.{get_elem?}

-- Free of a row that is not fresh takes it out of the batches
pub freeing_retired : (r : ℕ) (v : View) → times r v.fresh ≡ 0 → freeing r v ≡ record v { retired = without_row r v.retired }
freeing_retired r v absent = ap (λ b. cond b (record v { fresh = without (r ∷ []) v.fresh }) (record v { retired = without_row r v.retired })) (le-ltb 0 (times r v.fresh) (omega arith))

module _ {E : Type 0} (caller stamp : E → ℕ) (accepted : ℕ → E → Bool) (lawful : ℕ → Copy → Type 0) (stands : ℕ → Copy → List E → Type 0)
    (right : ℕ → E → List E → Type 0) (key : Sizes) where
  module _ (ws : List ℕ) (vs : List (Knows E)) (kept : Kept caller stamp accepted lawful stands right key ws vs) (i j : ℕ) (k : Knows E) (at : get_elem? vs i ≡ some k) (mine : k.view.core.number ≡ Some j) where
    abbrev all : List View
    all = cores caller stamp accepted lawful stands right key ws vs kept i j k at mine

    abbrev there : get_elem? all i ≡ some k.view.core
    there = here caller stamp accepted lawful stands right key ws vs kept i j k at mine

    abbrev own : Agrees caller stamp accepted lawful stands right key ws kept.log kept.copies kept.made j k
    own = agrees caller stamp accepted lawful stands right key ws vs kept i j k at mine

    -- the pass holds no row twice, and each that it holds is a row
    pub holds_here : HoldsRows k.view
    holds_here =
        let both = holds_rows key.passes key.rows ws all kept.copies kept.sound i j k.view.core there mine in
        record { different = both.0; inside = λ r in_it. (let low = both.1 r in_it in let sizes = own.sizes in omega (arith, sizes.rows_are)) }

    -- Look at the reservation of pass m
    pub looked_at : (m : ℕ) → m < key.passes → (m ≡ 0) ⊎ (m ≡ k.view.core.scanned)
        → Kept caller stamp accepted lawful stands right key ws (set vs i (knowing k.seen k.lists (looking_at m (reservation key.passes key.rows ws m) k.view)))
    looked_at m pass turn =
        let core = k.view.core in
        let word = reservation key.passes key.rows ws m in
        quiet caller stamp accepted lawful stands right key ws vs kept i j k at mine
        core.noted (m + 1) (lesser (cond (eqb m 0) None core.least) (reserved word)) core.last (k.view.looks ++ (reservation_at k.view.passes k.view.rows m, word) ∷ []) k.view.full
        (looks key.passes key.rows ws all kept.copies kept.sound i j core there mine m pass turn)

    module _ (r : ℕ) (whole : k.view.core.scanned ≡ key.passes) (cleared : list_any (λ b. is_in r b.1 && clears k.view.core.least b.0) k.view.core.retired ≡ true) where
      retired_here : In r (rows_in k.view.core.retired)
      retired_here = cleared_there r k.view.core.least k.view.core.retired cleared

      row : r < key.rows
      row = held_within key.passes key.rows ws all kept.copies kept.sound i j k.view.core there mine r
          (let both = times-append r k.view.core.fresh (rows_in k.view.core.retired) in let some_times = retired_here in omega arith)

      not_fresh : times r k.view.core.fresh ≡ 0
      not_fresh =
          let once = held_once key.passes key.rows ws all kept.copies kept.sound i j k.view.core there mine r in
          let both = times-append r k.view.core.fresh (rows_in k.view.core.retired) in let some_times = retired_here in omega arith

      -- Free of a retired row
      pub freed_retired : Kept caller stamp accepted lawful stands right key (set ws (owner_at key.passes key.rows r) 0) (set vs i (knowing k.seen k.lists (freeing_row r k.view)))
      freed_retired =
          subst P (sym is_retired) (moves caller stamp accepted lawful stands right key ws vs kept i j k at mine us
          (knowing k.seen k.lists (with (record core { retired = without_row r core.retired }))) refl
          (ap (λ x. x / ROOT_ROWS) (owner_keeps_root key.passes key.rows ws r 0))
          (λ m pass other. owner_keeps_reservation key.passes key.rows ws r 0 m pass)
          (λ a u apart at_a theirs. still u.view.written theirs.stand)
          (subst (λ z. Sound key.passes key.rows us (set all i z) kept.copies) is_retired (frees_retired key.passes key.rows ws all kept.copies kept.sound i j core there mine r whole cleared))
          (record {
            begun = own.begun;
            sizes = own.sizes;
            makes = own.makes;
            reserves = owner_keeps_reservation key.passes key.rows ws r 0 j (pass_within caller stamp accepted lawful stands right key ws vs kept i j k at mine) ∙ own.reserves;
            hears = own.hears;
            written = record {
              stand = λ n c at_n. let was = old_cell n c at_n in still k.view.written own.written.stand was.0 c was.1;
              in_fresh = λ n c at_n. let was = old_cell n c at_n in own.written.in_fresh was.0 c was.1;
              placed = λ n c at_n. let was = old_cell n c at_n in own.written.placed was.0 c was.1;
            };
          })
          mine)
        where
          us : List ℕ
          us = set ws (owner_at key.passes key.rows r) 0

          core : View
          core = k.view.core

          with : View → Known
          with z = record k.view { core = z; written = of_others (r ∷ []) k.view.written }

          P : View → Type 0
          P z = Kept caller stamp accepted lawful stands right key us (set vs i (knowing k.seen k.lists (with z)))

          is_retired : freeing r core ≡ record core { retired = without_row r core.retired }
          is_retired = freeing_retired r core not_fresh

          still : (cells : List Cell) → Stands key.passes key.rows ws cells → Stands key.passes key.rows us cells
          still cells stand n c at_n = owner_keeps_cell key.passes key.rows ws r 0 c.row c.place row ∙ stand n c at_n

          old_cell : (n : ℕ) (c : Cell) → get_elem? (of_others (r ∷ []) k.view.written) n ≡ some c → (m : ℕ) × (get_elem? k.view.written m ≡ some c) × (not (is_in c.row (r ∷ [])) ≡ true)
          old_cell n c at_n = at_filter (λ (x : Cell). not (is_in x.row (r ∷ []))) k.view.written n c at_n

  module _ {S : Type 0} (slots id j : ℕ) (me : Me S (Knows E)) (mine : me.0.view.core.number ≡ Some j) where
    abbrev view : Known
    view = me.0.view

    abbrev then_knows : Known → Knows E
    then_knows k = knowing me.0.seen me.0.lists k

    abbrev Keeping : State S (Knows E) → Type 0
    Keeping s = Kept caller stamp accepted lawful stands right key s.words s.views

    pub looks_row : (m : ℕ) → m < key.passes → (m ≡ 0) ⊎ (m ≡ view.core.scanned)
        → Allows Keeping slots id me (reservation_at key.passes key.rows m) (λ n. n) (looked caller stamp accepted lawful stands right (step slots (reservation_at key.passes key.rows m) 0 0 none) me)
    looks_row m pass turn s kept homes at bound =
        let word = reservation key.passes key.rows s.words m in
        let now = then_knows (looking_at m word view) in
        let held = holds_here s.words s.views kept id j me.0 at mine in
        let kept_now = looked_at s.words s.views kept id j me.0 at mine m pass turn in (
          now,
          keeps,
          tt,
          subst (λ ws. Kept caller stamp accepted lawful stands right key ws (set s.views id now)) (sym (set-get_or s.words (reservation_at key.passes key.rows m) 0)) kept_now,
          λ q e.
              let same : m ≡ q = omega arith in (
                (ap (λ x. then_knows (looking_at x word view)) same, refl),
                record { different = held.different; inside = held.inside },
                consistent caller stamp accepted lawful stands right key s.words (set s.views id now) kept_now id j now (set_here s.views id me.0 now at) mine,
                λ is. ap (reservation key.passes key.rows s.words) (same ∙ sym (same_Some j q (sym mine ∙ is))) ∙ (own s.words s.views kept id j me.0 at mine).reserves,
              ),
        )

    -- the same, where the place is given by an equal number
    pub looks_at : (m place : ℕ) → place ≡ reservation_at key.passes key.rows m → m < key.passes → (m ≡ 0) ⊎ (m ≡ view.core.scanned)
        → Allows Keeping slots id me place (λ n. n) (looked caller stamp accepted lawful stands right (step slots place 0 0 none) me)
    looks_at m place place_is pass turn = subst (λ x. Allows Keeping slots id me x (λ n. n) (looked caller stamp accepted lawful stands right (step slots x 0 0 none) me)) (sym place_is) (looks_row m pass turn)

    frees_cleared : (r : ℕ) → view.core.scanned ≡ key.passes → list_any (λ b. is_in r b.1 && clears view.core.least b.0) view.core.retired ≡ true
        → Allows Keeping slots id me (owner_at key.passes key.rows r) (λ _. 0) (λ _. freed (step slots (owner_at key.passes key.rows r) 0 0 none) me 0)
    frees_cleared r whole cleared s kept homes at bound = (
      then_knows (freeing_row r view),
      keeps,
      tt,
      freed_retired s.words s.views kept id j me.0 at mine r whole cleared,
      λ q e.
          let sizes = own s.words s.views kept id j me.0 at mine in
          let row : r ≡ q = omega (arith, sizes.sizes.passes_are) in
          (ap (λ x. then_knows (freeing_row x view)) row, refl),
    )

    pub frees_cleared_at : (r place : ℕ) → place ≡ owner_at key.passes key.rows r → view.core.scanned ≡ key.passes
        → list_any (λ b. is_in r b.1 && clears view.core.least b.0) view.core.retired ≡ true
        → Allows Keeping slots id me place (λ _. 0) (λ _. freed (step slots place 0 0 none) me 0)
    frees_cleared_at r place place_is whole cleared =
        subst (λ x. Allows Keeping slots id me x (λ _. 0) (λ _. freed (step slots x 0 0 none) me 0)) (sym place_is) (frees_cleared r whole cleared)
