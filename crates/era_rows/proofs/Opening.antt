-- The rule holds at the start.
use Rattle.std.proofs.Common.{take, Bool, ◌≡◌, ℕ, zero, suc, ◌+◌, ◌-◌, ◌<◌, ⊎_elim, ltb, le-ltb, Some, None, List, [], ◌∷◌, flat_map, refl, sym, ap, subst, ◌∙◌, arith}
use Rattle.std.proofs.lemmas.Bool.{cases_eq}
use Rattle.std.proofs.lemmas.List.{append-nil}
use Rattle.std.proofs.lemmas.Option.{same_Some, none-some}
use Rattle.era_core.specs.declared.sizes.TheConstants.{WIDTH}
use Rattle.era_core.specs.Lists.{times}
use Rattle.era_core.specs.Words.{start_words, tree_at}
use Rattle.era_core.specs.Views.{start_view, held}
use Rattle.era_core.specs.Versions.{Cell, Copy, cells_from, copy_at}
use Rattle.era_core.specs.Sound.{Sound}
use Rattle.era_core.specs.Machine.{start_views, start_copies}
use Rattle.era_core.proofs.ListFacts.{times-head, times-tail}
use Rattle.era_core.proofs.Starts.{start_sound, start_reservation, start_cell, start_version, start_row, start_live}
use Rattle.era_rows.specs.Trees.{first_copy, blank_cells}
use Rattle.era_rows.specs.Lists.{of_caller, IsListOf}
use Rattle.era_rows.specs.Rule.{knowing, first_knows, Agrees, Kept}
use Rattle.era_rows.specs.Plays.{IsConsistent}
use Rattle.era_rows.specs.Passes.{started_known}
use Rattle.era_rows.specs.declared.views.Knows.{Knows}
use Rattle.era_rows.specs.declared.sizes.Sizes.{Sizes}
use Rattle.era_rows.proofs.Seats.{bit}
use mathlib.Core.Option.{some, some-injective, some-ne-none}
use lib.ListN.{get_elem?}

module _ (passes rows : ℕ) (some_row : 0 < rows) where
  abbrev ws : List ℕ
  ws = start_words passes rows

  blank_from : (place n : ℕ) → cells_from passes rows ws 0 place n ≡ blank_cells place n
  blank_from place zero = refl
  blank_from place (suc n) =
      ap (λ w. record { row = 0; place = place; word = w } ∷ cells_from passes rows ws 0 (place + 1) n) (start_cell passes rows some_row 0 place)
      ∙ ap (λ cells. record { row = 0; place = place; word = 0 } ∷ cells) (blank_from (place + 1) n)

  abbrev all_words : List ℕ → List Cell
  all_words xs = flat_map (λ x. cells_from passes rows ws x 0 WIDTH) xs

  -- the copy of the start is row 0 alone
  first_is : copy_at passes rows ws 0 ≡ first_copy
  first_is =
      ap (λ xs. record { root = 0; rows = xs; cells = all_words xs }) (ap (tree_at passes rows ws) (sym (start_row passes rows)) ∙ start_live passes rows some_row)
      ∙ ap (λ cells. record { root = 0; rows = 0 ∷ []; cells = cells }) (append-nil (cells_from passes rows ws 0 0 WIDTH) ∙ blank_from 0 WIDTH)

  pub first_copies : start_copies rows passes ≡ first_copy ∷ []
  first_copies = ap (λ c. c ∷ []) first_is

-- all views of the start are that of pass 0 and those of the passes that have not begun
others_idle : (passes : ℕ) → 0 < passes → start_views 0 passes ≡ start_view 0 ∷ start_views 1 (passes - 1)
others_idle zero none = absurd (omega arith)
others_idle (suc n) there = let e : n ≡ suc n - 1 = omega arith in ap (λ m. start_view 0 ∷ start_views 1 m) e

module _ {E : Type 0} (caller stamp : E → ℕ) (accepted : ℕ → E → Bool) (lawful : ℕ → Copy → Type 0) (stands : ℕ → Copy → List E → Type 0)
    (right : ℕ → E → List E → Type 0) (key : Sizes) where
  -- the list of a caller that has made no entry
  pub no_entries : (log : List E) (seen c : ℕ) → of_caller caller c log ≡ []
      → IsListOf caller stamp accepted right key.shape log seen c []
  no_entries log seen c none = record {
    named = λ n e there. absurd (some-ne-none e (sym there));
    told = sym none;
    known = λ n e there. absurd (some-ne-none e (sym there));
    judged = λ n e there. absurd (some-ne-none e (sym there));
    ordered = λ m n d e low there. absurd (some-ne-none d (sym there));
    rising = λ m n d e low there. absurd (some-ne-none d (sym there));
  }

  pub opens : ((shape : ℕ) → lawful shape first_copy × stands shape first_copy []) → 0 < key.rows → 0 < key.passes
      → (us : List ℕ) → us ≡ start_words key.passes key.rows
      → Kept caller stamp accepted lawful stands right key us (first_knows key ∷ [])
  opens begins some_row some_pass us same = subst (λ xs. Kept caller stamp accepted lawful stands right key xs (first_knows key ∷ [])) (sym same) opened
    where
      words : List ℕ
      words = start_words key.passes key.rows

      sound : Sound key.passes key.rows words (start_view 0 ∷ start_views 1 (key.passes - 1)) (first_copy ∷ [])
      sound =
          subst (λ cs. Sound key.passes key.rows words (start_view 0 ∷ start_views 1 (key.passes - 1)) cs) (first_copies key.passes key.rows some_row)
          (subst (λ vs. Sound key.passes key.rows words vs (start_copies key.rows key.passes)) (others_idle key.passes some_pass) (start_sound key.passes key.rows some_row))

      first : Agrees caller stamp accepted lawful stands right key words [] (first_copy ∷ []) 1 0 (first_knows key)
      first = record {
        begun = omega arith;
        sizes = record { shape_is = refl; rows_are = refl; passes_are = refl };
        makes = refl;
        reserves = start_reservation key.passes key.rows 0 some_pass;
        hears = record {
          seen_first = ([], refl);
          known_first = ([], refl);
          paired = refl;
          pinned_seen = λ n r e. absurd (none-some (n, r) e);
          own = (0, [], refl);
          held = held_first;
        };
        written = record {
          stand = λ n c there. absurd (some-ne-none c (sym there));
          in_fresh = λ n c there. absurd (some-ne-none c (sym there));
          placed = λ n c there. absurd (some-ne-none c (sym there));
        };
      }
        where
          held_first : (i c : ℕ) (es : List E) → get_elem? (first_knows {E = E} key).lists i ≡ some (c, es) → IsListOf caller stamp accepted right key.shape [] 0 c es
          held_first zero c es there =
              subst (λ (t : ℕ × List E). IsListOf caller stamp accepted right key.shape [] 0 t.0 t.1) (some-injective (0, []) (c, es) there) (no_entries [] 0 0 refl)
          held_first (suc i) c es there = absurd (some-ne-none (c, es) (sym there))

      one_list : (c : ℕ) → times c (0 ∷ []) + 0 ≡ bit (ltb c 1)
      one_list zero = refl
      one_list (suc n) =
          let a : bit (ltb (suc n) 1) ≡ 0 = ap bit (le-ltb (suc n) 1 (omega arith)) in
          let b = times-tail (suc n) 0 [] (λ e. absurd (omega arith)) in omega arith

      opened : Kept caller stamp accepted lawful stands right key words (first_knows key ∷ [])
      opened = record {
        made = 1;
        log = [];
        copies = first_copy ∷ [];
        enough = omega arith;
        sound = sound;
        counted = sym (start_version key.passes key.rows);
        logged = record {
          accepts = λ n e there. absurd (some-ne-none e (sym there));
          judged = λ n e there. absurd (some-ne-none e (sym there));
          stamped = λ n e there. absurd (some-ne-none e (sym there));
          begun = λ n e there. absurd (some-ne-none e (sym there));
        };
        means = means_first;
        once = one_list;
        each = each_first;
        spent = none_spent;
      }
        where
          means_first : (n : ℕ) (c : Copy) → get_elem? (first_copy ∷ []) n ≡ some c → lawful key.shape c × stands key.shape c (take n [])
          means_first zero c there = subst (λ (x : Copy). lawful key.shape x × stands key.shape x []) (some-injective first_copy c there) (begins key.shape)
          means_first (suc n) c there = absurd (some-ne-none c (sym there))

          each_first : (i j : ℕ) (k : Knows E) → get_elem? (first_knows key ∷ []) i ≡ some k → k.view.core.number ≡ Some j
              → Agrees caller stamp accepted lawful stands right key words [] (first_copy ∷ []) 1 j k
          each_first zero j k there is =
              let same = some-injective (first_knows key) k there in
              let number : 0 ≡ j = same_Some 0 j (ap (λ (x : Knows E). x.view.core.number) same ∙ is) in
              subst (λ n. Agrees caller stamp accepted lawful stands right key words [] (first_copy ∷ []) 1 n k) number
              (subst (λ (x : Knows E). Agrees caller stamp accepted lawful stands right key words [] (first_copy ∷ []) 1 0 x) same first)
          each_first (suc i) j k there is = absurd (some-ne-none k (sym there))

          none_spent : (i : ℕ) (k : Knows E) → get_elem? (first_knows key ∷ []) i ≡ some k → k.view.core.number ≡ None → held k.view.core ≡ []
          none_spent zero k there none = ap (λ (x : Knows E). held x.view.core) (sym (some-injective (first_knows key) k there))
          none_spent (suc i) k there none = absurd (some-ne-none k (sym there))

  -- a pass that begins is consistent
  pub begins_consistent : ((shape : ℕ) → lawful shape first_copy × stands shape first_copy []) → (number : ℕ) (k : Knows E)
      → k.seen ≡ [] → k.lists ≡ (number, []) ∷ [] → k.view ≡ started_known key.shape key.rows key.passes key.passes number
      → IsConsistent caller stamp accepted lawful stands right k
  begins_consistent begins number k no_entry own knows =
      subst (λ es. IsConsistent caller stamp accepted lawful stands right (knowing es k.lists k.view)) (sym no_entry)
      (subst (λ lists. IsConsistent caller stamp accepted lawful stands right (knowing [] lists k.view)) (sym own)
      (subst (λ view. IsConsistent caller stamp accepted lawful stands right (knowing [] ((number, []) ∷ []) view)) (sym knows) begun))
    where
      begun : IsConsistent caller stamp accepted lawful stands right (knowing [] ((number, []) ∷ []) (started_known key.shape key.rows key.passes key.passes number))
      begun = record {
        logged = record {
          accepts = λ n e there. absurd (some-ne-none e (sym there));
          judged = λ n e there. absurd (some-ne-none e (sym there));
          stamped = λ n e there. absurd (some-ne-none e (sym there));
          begun = λ n e there. absurd (some-ne-none e (sym there));
        };
        held = held_begun;
        once = λ c.
            ⊎_elim
            (λ e. (let head = times-head number [] in let same : times c (number ∷ []) ≡ times number (number ∷ []) = ap (λ y. times y (number ∷ [])) e in omega arith))
            (λ apart. let tail = times-tail c number [] apart in omega arith)
            (cases_eq c number);
        paired = refl;
        means = means_begun;
      }
        where
          held_begun : (i c : ℕ) (es : List E) → get_elem? {A = ℕ × List E} ((number, []) ∷ []) i ≡ some (c, es) → IsListOf caller stamp accepted right key.shape [] 0 c es
          held_begun zero c es there =
              subst (λ (t : ℕ × List E). IsListOf caller stamp accepted right key.shape [] 0 t.0 t.1) (some-injective (number, []) (c, es) there) (no_entries [] 0 number refl)
          held_begun (suc i) c es there = absurd (some-ne-none (c, es) (sym there))

          means_begun : (n : ℕ) (c : Copy) → get_elem? (first_copy ∷ []) n ≡ some c → lawful key.shape c × stands key.shape c (take n [])
          means_begun zero c there = subst (λ (x : Copy). lawful key.shape x × stands key.shape x []) (some-injective first_copy c there) (begins key.shape)
          means_begun (suc n) c there = absurd (some-ne-none c (sym there))
