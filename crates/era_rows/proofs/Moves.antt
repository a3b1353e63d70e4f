-- Steps of one pass that leave the root, what the other passes reserved, and what they wrote.
use Rattle.std.proofs.Common.{slice_index, Option, None, zero, suc, true, cond, eqb, not, ◌&&◌, lt-ltb, eq-eqb, get_or-set_same, get_or-set_other, ◌≡◌, ◌≢◌, ℕ, ◌+◌, ◌-◌, ◌<◌, ⊎_elim, Bool, Some, List, [], ◌∷◌, ◌++◌, ◌/◌, map, set, refl, sym, ap, subst, ◌∙◌, arith}
use Rattle.std.proofs.lemmas.Bool.{cases_eq, cases_lt, true≢false}
use Rattle.std.proofs.lemmas.Option.{same_Some, none-some}
use Rattle.era_core.specs.declared.sizes.TheConstants.{WIDTH, ROOT_ROWS}
use Rattle.era_core.specs.Lists.{times, In, is_in, without}
use Rattle.era_core.specs.Words.{reservation_at, version, owner_at, cell_at, reservation, owner, cell}
use Rattle.era_core.specs.Views.{View, rows_in, held, without_row, freeing}
use Rattle.era_core.specs.Versions.{Cell, Copy, Stands}
use Rattle.era_core.specs.Sound.{Sound}
use Rattle.era_core.specs.Machine.{start_views}
use Rattle.era_core.proofs.ListFacts.{times-append, in-append_left, total-set, total-le, total-two, at_set}
use Rattle.era_core.proofs.BatchFacts.{times-without_kept}
use Rattle.era_core.proofs.Frees.{frees_fresh}
use Rattle.era_core.proofs.WordFacts.{reservation_keeps_root, reservation_keeps_other, reservation_stored, reservation_keeps_cell, owner_keeps_root, owner_keeps_reservation, owner_keeps_cell, cell_keeps_root, cell_keeps_reservation, cell_keeps_other}
use Rattle.era_core.proofs.Stays.{kept_shared}
use Rattle.era_core.proofs.Keeps.{reads, notes, announces, unpins, owned_free, owned_past, owned_most, takes, writes}
use Rattle.era_core.proofs.Readers.{shared_owned}
use Rattle.era_rows.specs.Known.{Look, Shortage, pinned_copy, noting_root, recording, reading_word, reserving, leaving, Known, finding, taking_row, forget, writing, of_others, freeing_row}
use Rattle.era_rows.specs.Rule.{knowing, core_of, callers_of, AreWritten, Hears, Agrees, Kept}
use Rattle.era_rows.specs.Plays.{IsUnused}
use Rattle.era_rows.specs.declared.views.Knows.{Knows}
use Rattle.era_rows.specs.declared.sizes.Sizes.{Sizes}
use Rattle.atomic_table.proofs.Lists.{set_again}
use Rattle.era_rows.proofs.Copies.{pinned_here}
use Rattle.era_rows.proofs.Seats.{core_at, core_set, prefix_at, at_filter}
use mathlib.Core.Option.{some, some-injective}
use lib.ListN.{get_elem?}

-- what the test of membership refuses stands nowhere in the list
pub not_in : (x : ℕ) (xs : List ℕ) → not (is_in x xs) ≡ true → times x xs ≡ 0
not_in x xs out = ⊎_elim (λ here. absurd (true≢false (sym out ∙ ap not (lt-ltb 0 (times x xs) here)))) (λ none. omega arith) (cases_lt 0 (times x xs))

pub freeing_fresh : (r : ℕ) (v : View) → In r v.fresh → freeing r v ≡ record v { fresh = without (r ∷ []) v.fresh }
freeing_fresh r v fresh = ap (λ b. cond b (record v { fresh = without (r ∷ []) v.fresh }) (record v { retired = without_row r v.retired })) (lt-ltb 0 (times r v.fresh) fresh)

module _ {E : Type 0} (caller stamp : E → ℕ) (accepted : ℕ → E → Bool) (lawful : ℕ → Copy → Type 0) (stands : ℕ → Copy → List E → Type 0)
    (right : ℕ → E → List E → Type 0) (key : Sizes) where
  abbrev pub Keeps : List ℕ → List (Knows E) → Type 0
  Keeps ws vs = Kept caller stamp accepted lawful stands right key ws vs

  module _ (ws : List ℕ) (vs : List (Knows E)) (kept : Keeps ws vs) (i j : ℕ) (k : Knows E) (at : get_elem? vs i ≡ some k) (mine : k.view.core.number ≡ Some j) where
    abbrev idle : List View
    idle = start_views kept.made (key.passes - kept.made)

    abbrev pub cores : List View
    cores = map core_of vs ++ idle

    abbrev pub here : get_elem? cores i ≡ some k.view.core
    here = core_at vs idle i k at

    abbrev pub knows : Known → Knows E
    knows w = knowing k.seen k.lists w

    pub agrees : Agrees caller stamp accepted lawful stands right key ws kept.log kept.copies kept.made j k
    agrees = kept.each i j k at mine

    pub pass_within : j < key.passes
    pass_within = (kept.sound.each i k.view.core here).numbered j mine

    -- another seat is of another pass
    other_pass : (a m : ℕ) (u : Knows E) → a ≢ i → get_elem? vs a ≡ some u → u.view.core.number ≡ Some m → m ≢ j
    other_pass a m u apart there is same = apart (kept.sound.apart a i u.view.core k.view.core m (core_at vs idle a u there) here is (mine ∙ ap Some (sym same)))

    -- The pass goes on with what w says, and holds the lists of the callers that it held
    pub moves : (us : List ℕ) (w : Knows E) → callers_of w ≡ callers_of k → version us ≡ version ws
        → ((m : ℕ) → m < key.passes → m ≢ j → reservation key.passes key.rows us m ≡ reservation key.passes key.rows ws m)
        → ((a : ℕ) (u : Knows E) → a ≢ i → get_elem? vs a ≡ some u → AreWritten key ws u.view.core.fresh u.view.written → Stands key.passes key.rows us u.view.written)
        → Sound key.passes key.rows us (set cores i w.view.core) kept.copies
        → Agrees caller stamp accepted lawful stands right key us kept.log kept.copies kept.made j w
        → w.view.core.number ≡ Some j
        → Keeps us (set vs i w)
    moves us w callers same_version others stand sound new number = record {
      made = kept.made;
      log = kept.log;
      copies = kept.copies;
      enough = kept.enough;
      sound = subst (λ xs. Sound key.passes key.rows us xs kept.copies) (core_set vs idle i k w at) sound;
      counted = kept.counted ∙ sym same_version;
      logged = kept.logged;
      means = kept.means;
      once = λ c. (let both = total-set (λ (u : Knows E). times c (callers_of u)) vs i k w at in let same = ap (times c) callers in omega arith) ∙ kept.once c;
      each = λ a m u there is.
          ⊎_elim
          (λ t.
          let e : m ≡ j = same_Some m j (sym is ∙ ap (λ (x : Knows E). x.view.core.number) (sym t.1) ∙ number) in
          subst (λ n. Agrees caller stamp accepted lawful stands right key us kept.log kept.copies kept.made n u) (sym e)
          (subst (λ (x : Knows E). Agrees caller stamp accepted lawful stands right key us kept.log kept.copies kept.made j x) t.1 new))
          (λ t.
          let old = kept.each a m u t.1 is in
          let pass = (kept.sound.each a u.view.core (core_at vs idle a u t.1)).numbered m is in
          record {
            begun = old.begun;
            sizes = old.sizes;
            makes = old.makes;
            reserves = others m pass (other_pass a m u t.0 t.1 is) ∙ old.reserves;
            hears = old.hears;
            written = record { stand = stand a u t.0 t.1 old.written; in_fresh = old.written.in_fresh; placed = old.written.placed };
          })
          (at_set vs i a w u there);
      spent = λ a u there none.
          ⊎_elim
          (λ t. absurd (none-some j (sym none ∙ ap (λ (x : Knows E). x.view.core.number) (sym t.1) ∙ number)))
          (λ t. kept.spent a u t.1 none)
          (at_set vs i a w u there);
    }

    -- a step that changed no word, nor any of what the rule speaks of
    pub quiet : (noted : Option ℕ) (scanned : ℕ) (least last : Option ℕ) (looks : List Look) (full : Option Shortage)
        → Sound key.passes key.rows ws (set cores i (record k.view.core { noted = noted; scanned = scanned; least = least; last = last })) kept.copies
        → Keeps ws (set vs i (knows (record k.view { core = record k.view.core { noted = noted; scanned = scanned; least = least; last = last }; looks = looks; full = full })))
    quiet noted scanned least last looks full sound =
        let old = agrees in
        moves ws (knows (record k.view { core = record k.view.core { noted = noted; scanned = scanned; least = least; last = last }; looks = looks; full = full })) refl refl
        (λ m pass other. refl) (λ a u apart there written. written.stand) sound
        (record { begun = old.begun; sizes = old.sizes; makes = old.makes; reserves = old.reserves; hears = old.hears; written = old.written })
        mine

    -- a step that found a word and changed none
    pub found : (place word : ℕ) (full : Known → Option Shortage) → Keeps ws (set vs i (knows (recording full (finding place word k.view))))
    found place word full =
        let core = k.view.core in
        quiet core.noted core.scanned core.least core.last (k.view.looks ++ (place, word) ∷ []) (full (finding place word k.view))
        (subst (λ xs. Sound key.passes key.rows ws xs kept.copies) (sym (set_again cores i core here)) kept.sound)

    -- Read
    pub has_read : (place word : ℕ) → Keeps ws (set vs i (knows (reading_word place word k.view)))
    has_read place word =
        let core = k.view.core in
        quiet core.noted core.scanned core.least (Some word) (k.view.looks ++ (place, word) ∷ []) k.view.full
        (reads key.passes key.rows ws cores kept.copies kept.sound i j core here mine word)

    -- each row of the tree that it has pinned has an owner
    pub pinned_owned : (r : ℕ) → In r (pinned_copy k.view).rows → owner key.passes key.rows ws r ≢ 0
    pinned_owned r there =
        let version = pinned_here k.view r there in
        let copy = prefix_at k.view.copies kept.copies version.0 (pinned_copy k.view) agrees.hears.known_first version.3 in
        let pin = (kept.sound.each i k.view.core here).pin j version.0 version.1 mine version.2 in
        shared_owned key.passes key.rows ws cores kept.copies kept.sound r (kept_shared key.passes key.rows ws cores version.0 r (pin.kept (pinned_copy k.view) copy r there))

    module _ (r : ℕ) (row : r < key.rows) where
      abbrev us : ℕ → List ℕ
      us word = set ws (owner_at key.passes key.rows r) word

      owner_version : (word : ℕ) → version (us word) ≡ version ws
      owner_version word = ap (λ x. x / ROOT_ROWS) (owner_keeps_root key.passes key.rows ws r word)

      owner_stands : (word : ℕ) (cells : List Cell) → Stands key.passes key.rows ws cells → Stands key.passes key.rows (us word) cells
      owner_stands word cells stand n c there = owner_keeps_cell key.passes key.rows ws r word c.row c.place row ∙ stand n c there

      -- Take found no owner
      pub took_row : owner key.passes key.rows ws r ≡ 0 → Keeps (us (j + 1)) (set vs i (knows (taking_row r k.view)))
      took_row free =
          let old = agrees in
          let written = old.written in
          moves (us (j + 1)) (knows (taking_row r k.view)) refl (owner_version (j + 1))
          (λ m pass other. owner_keeps_reservation key.passes key.rows ws r (j + 1) m pass)
          (λ a u apart there theirs. owner_stands (j + 1) u.view.written theirs.stand)
          (takes key.passes key.rows ws cores kept.copies kept.sound i j k.view.core here mine r (j + 1) row (omega arith) free)
          (record {
            begun = old.begun;
            sizes = old.sizes;
            makes = old.makes;
            reserves = owner_keeps_reservation key.passes key.rows ws r (j + 1) j pass_within ∙ old.reserves;
            hears = old.hears;
            written = record {
              stand = owner_stands (j + 1) k.view.written written.stand;
              in_fresh = λ n c there. in-append_left c.row k.view.core.fresh (r ∷ []) (written.in_fresh n c there);
              placed = written.placed;
            };
          })
          mine

      -- a row without an owner is in no list of this pass, nor in the tree that it has pinned
      pub unread : owner key.passes key.rows ws r ≡ 0 → IsUnused r k.view
      unread free = record {
        not_held =
            let all = kept.sound.places r in
            let none = owned_free key.passes key.rows ws r free in
            let mine_le = total-le (λ (v : View). times r (held v)) cores i k.view.core here in omega arith;
        not_pinned =
            ⊎_elim
            (λ e. e)
            (λ some_times. absurd (pinned_owned r (omega (arith, some_times)) free))
            (cases_eq (times r (pinned_copy k.view).rows) 0);
      }

    -- a fresh row of this pass is a row, and no other pass has it among its own
    pub fresh_row : (r : ℕ) → In r k.view.core.fresh → r < key.rows
    fresh_row r fresh =
        ⊎_elim
        (λ row. row)
        (λ past. absurd (
        let all = kept.sound.places r in
        let none = owned_past key.passes key.rows ws r past in
        let mine_le = total-le (λ (v : View). times r (held v)) cores i k.view.core here in
        let parts = times-append r k.view.core.fresh (rows_in k.view.core.retired) in omega arith))
        (cases_lt r key.rows)

    fresh_once : (r a : ℕ) (u : Knows E) → a ≢ i → get_elem? vs a ≡ some u → In r k.view.core.fresh → times r u.view.core.fresh ≡ 0
    fresh_once r a u apart there fresh =
        let all = kept.sound.places r in
        let most = owned_most key.passes key.rows ws r in
        let both = total-two (λ (v : View). times r (held v)) cores i a k.view.core u.view.core here (core_at vs idle a u there) (λ e. apart (sym e)) in
        let mine_parts = times-append r k.view.core.fresh (rows_in k.view.core.retired) in
        let parts = times-append r u.view.core.fresh (rows_in u.view.core.retired) in omega arith

    module _ (r : ℕ) (fresh : In r k.view.core.fresh) where
      abbrev row : r < key.rows
      row = fresh_row r fresh

      -- Write
      pub wrote_row : (p word : ℕ) → p < WIDTH → Keeps (set ws (cell_at key.passes key.rows r p) word) (set vs i (knows (writing r p word k.view)))
      wrote_row p word place =
          let old = agrees in
          let written = old.written in
          let us = set ws (cell_at key.passes key.rows r p) word in
          let long = kept.sound.long in
          moves us (knows (writing r p word k.view)) refl (ap (λ x. x / ROOT_ROWS) (cell_keeps_root key.passes key.rows ws r p word))
          (λ m pass other. cell_keeps_reservation key.passes key.rows ws r p word m pass)
          (λ a u apart there theirs n c at_n.
          let other = theirs.in_fresh n c at_n in
          let none = fresh_once r a u apart there fresh in
          cell_keeps_other key.passes key.rows ws r p word c.row c.place place (theirs.placed n c at_n)
          (λ e. absurd (let P : ℕ → Type 0 = λ x. In x u.view.core.fresh in let again : In r u.view.core.fresh = subst P e other in omega arith))
          ∙ theirs.stand n c at_n)
          (writes key.passes key.rows ws cores kept.copies kept.sound i j k.view.core here mine r p word place fresh)
          (record {
            begun = old.begun;
            sizes = old.sizes;
            makes = old.makes;
            reserves = cell_keeps_reservation key.passes key.rows ws r p word j pass_within ∙ old.reserves;
            hears = old.hears;
            written = record {
              stand = stand_now us refl;
              in_fresh = in_fresh_now;
              placed = placed_now;
            };
          })
          mine
        where
          cells : List Cell
          cells = k.view.written

          new : Cell
          new = record { row = r; place = p; word = word }

          old_cell : (n : ℕ) (c : Cell) → get_elem? (forget r p cells) n ≡ some c → (m : ℕ) × (get_elem? cells m ≡ some c) × (not (eqb c.row r && eqb c.place p) ≡ true)
          old_cell n c there = at_filter (λ (c : Cell). not (eqb c.row r && eqb c.place p)) cells n c there

          elsewhere : (c : Cell) → not (eqb c.row r && eqb c.place p) ≡ true → c.row ≡ r → c.place ≢ p
          elsewhere c test same_row same_place =
              true≢false (sym test ∙ ap (λ b. not (b && eqb c.place p)) (eq-eqb c.row r same_row) ∙ ap (λ b. not (true && b)) (eq-eqb c.place p same_place))

          stand_now : (us : List ℕ) → us ≡ set ws (cell_at key.passes key.rows r p) word → Stands key.passes key.rows us (new ∷ forget r p cells)
          stand_now us e zero c there =
              let long = kept.sound.long in
              subst (λ (x : Cell). cell key.passes key.rows us x.row x.place ≡ x.word) (some-injective new c there)
              (ap (λ xs. cell key.passes key.rows xs r p) e ∙ get_or-set_same ws (cell_at key.passes key.rows r p) word 0 (let inside = row in omega arith))
          stand_now us e (suc n) c there =
              let was = old_cell n c there in
              let near = agrees.written.placed was.0 c was.1 in
              ap (λ xs. cell key.passes key.rows xs c.row c.place) e
              ∙ get_or-set_other ws (cell_at key.passes key.rows r p) (cell_at key.passes key.rows c.row c.place) word 0
              (λ same. elsewhere c was.2 (omega arith) (omega arith))
              ∙ agrees.written.stand was.0 c was.1

          in_fresh_now : (n : ℕ) (c : Cell) → get_elem? (new ∷ forget r p cells) n ≡ some c → In c.row k.view.core.fresh
          in_fresh_now zero c there = subst (λ (x : Cell). In x.row k.view.core.fresh) (some-injective new c there) fresh
          in_fresh_now (suc n) c there = let was = old_cell n c there in agrees.written.in_fresh was.0 c was.1

          placed_now : (n : ℕ) (c : Cell) → get_elem? (new ∷ forget r p cells) n ≡ some c → c.place < WIDTH
          placed_now zero c there = subst (λ (x : Cell). x.place < WIDTH) (some-injective new c there) place
          placed_now (suc n) c there = let was = old_cell n c there in agrees.written.placed was.0 c was.1

      -- Free of a fresh row
      pub freed_row : Keeps (set ws (owner_at key.passes key.rows r) 0) (set vs i (knows (freeing_row r k.view)))
      freed_row = subst P (sym is_fresh) (moves us (knows (with (record core { fresh = left }))) refl (owner_version r row 0)
          (λ m pass other. owner_keeps_reservation key.passes key.rows ws r 0 m pass)
          (λ a u apart there theirs. owner_stands r row 0 u.view.written theirs.stand)
          (subst (λ z. Sound key.passes key.rows us (set cores i z) kept.copies) is_fresh (frees_fresh key.passes key.rows ws cores kept.copies kept.sound i j core here mine r fresh))
          (record {
            begun = agrees.begun;
            sizes = agrees.sizes;
            makes = agrees.makes;
            reserves = owner_keeps_reservation key.passes key.rows ws r 0 j pass_within ∙ agrees.reserves;
            hears = agrees.hears;
            written = record {
              stand = λ n c there. let was = old_cell n c there in owner_stands r row 0 k.view.written agrees.written.stand was.0 c was.1;
              in_fresh = λ n c there.
                  let was = old_cell n c there in
                  let before = agrees.written.in_fresh was.0 c was.1 in
                  omega (arith, times-without_kept c.row (r ∷ []) core.fresh was.2);
              placed = λ n c there. let was = old_cell n c there in agrees.written.placed was.0 c was.1;
            };
          })
          mine)
        where
          us : List ℕ
          us = set ws (owner_at key.passes key.rows r) 0

          core : View
          core = k.view.core

          left : List ℕ
          left = without (r ∷ []) core.fresh

          with : View → Known
          with z = record k.view { core = z; written = of_others (r ∷ []) k.view.written }

          P : View → Type 0
          P z = Keeps us (set vs i (knows (with z)))

          is_fresh : freeing r core ≡ record core { fresh = left }
          is_fresh = freeing_fresh r core fresh

          old_cell : (n : ℕ) (c : Cell) → get_elem? (of_others (r ∷ []) k.view.written) n ≡ some c → (m : ℕ) × (get_elem? k.view.written m ≡ some c) × (times c.row (r ∷ []) ≡ 0)
          old_cell n c there = let was = at_filter (λ (c : Cell). not (is_in c.row (r ∷ []))) k.view.written n c there in (was.0, was.1, not_in c.row (r ∷ []) was.2)

    -- Note
    pub noted : k.view.core.pinned ≡ None → k.view.reserves ≡ 0 → Keeps ws (set vs i (knows (noting_root (slice_index ws 0) k.view)))
    noted loose silent =
        let core = k.view.core in
        quiet (Some (version ws)) core.scanned core.least core.last (k.view.looks ++ (0, slice_index ws 0) ∷ []) k.view.full
        (notes key.passes key.rows ws cores kept.copies kept.sound i j core here mine loose (agrees.reserves ∙ silent))

    module _ (word : ℕ) where
      abbrev reserved_words : List ℕ
      reserved_words = set ws (reservation_at key.passes key.rows j) word

      reservation_version : version reserved_words ≡ version ws
      reservation_version = ap (λ x. x / ROOT_ROWS) (reservation_keeps_root key.passes key.rows ws j word)

      reservation_stands : (cells : List Cell) → Stands key.passes key.rows ws cells → Stands key.passes key.rows reserved_words cells
      reservation_stands cells stand n c there = reservation_keeps_cell key.passes key.rows ws j word c.row c.place pass_within ∙ stand n c there

    -- Announce
    pub announced : (n : ℕ) → k.view.core.noted ≡ Some n → k.view.reserves ≡ 0 → Keeps (reserved_words (n + 1)) (set vs i (knows (reserving n k.view)))
    announced n is_noted silent =
        let old = agrees in
        moves (reserved_words (n + 1)) (knows (reserving n k.view)) refl (reservation_version (n + 1)) (λ m pass other. reservation_keeps_other key.passes key.rows ws j (n + 1) m other)
        (λ a u apart there theirs. reservation_stands (n + 1) u.view.written theirs.stand)
        (announces key.passes key.rows ws cores kept.copies kept.sound i j k.view.core here mine n is_noted (old.reserves ∙ silent))
        (record {
          begun = old.begun;
          sizes = old.sizes;
          makes = old.makes;
          reserves = reservation_stored key.passes key.rows ws j (n + 1) kept.sound.long pass_within;
          hears = old.hears;
          written = record { stand = reservation_stands (n + 1) k.view.written old.written.stand; in_fresh = old.written.in_fresh; placed = old.written.placed };
        })
        mine

    -- Unpin, where the lists that the pass then holds agree with the longest list
    pub unpinned : (n r : ℕ) → k.view.core.pinned ≡ Some (n, r) → (lists : List (ℕ × List E)) → map (λ list. list.0) lists ≡ callers_of k
        → Hears caller stamp accepted lawful stands right key kept.log kept.copies j k.seen lists k.view.copies None
        → Keeps (reserved_words 0) (set vs i (knowing k.seen lists (leaving k.view)))
    unpinned n r pinned lists callers hears =
        let old = agrees in
        moves (reserved_words 0) (knowing k.seen lists (leaving k.view)) callers (reservation_version 0) (λ m pass other. reservation_keeps_other key.passes key.rows ws j 0 m other)
        (λ a u apart there theirs. reservation_stands 0 u.view.written theirs.stand)
        (unpins key.passes key.rows ws cores kept.copies kept.sound i j k.view.core here mine n r pinned)
        (record {
          begun = old.begun;
          sizes = record { shape_is = old.sizes.shape_is; rows_are = old.sizes.rows_are; passes_are = old.sizes.passes_are };
          makes = old.makes;
          reserves = reservation_stored key.passes key.rows ws j 0 kept.sound.long pass_within;
          hears = hears;
          written = record { stand = reservation_stands 0 k.view.written old.written.stand; in_fresh = old.written.in_fresh; placed = old.written.placed };
        })
        mine
