-- Publish: what it keeps and tells, where it finds the pinned root word and where it finds another one.
use Rattle.std.proofs.Common.{◌≡◌, ◌≢◌, ℕ, ◌+◌, ◌-◌, ◌/◌, ◌%◌, ◌<◌, ◌≤◌, ⊎_elim, inl, inr, Bool, true, cond, not, Some, List, [], ◌∷◌, ◌++◌, map, take, length, set, slice_index, refl, sym, ap, subst, ◌∙◌, arith, lt-ltb, eqb, Option, get_or-set_same, length-append}
use Rattle.std.proofs.Math.Seq.{take-length}
use Rattle.std.proofs.lemmas.Bool.{cases_lt}
use Rattle.std.proofs.lemmas.List.{append-nil, take-append-le, set-get_or}
use Rattle.std.proofs.lemmas.Option.{same_Some, none-some}
use Rattle.atomic_table.specs.Table.{Me, Act, keeps, Valid, carried_after, stepped, step, Allows}
use Rattle.atomic_table.proofs.Lists.{exchanged, set_again}
use Rattle.era_core.specs.declared.sizes.TheConstants.{WIDTH, ROOT_ROWS, MOST_ROWS}
use Rattle.era_core.specs.Lists.{times, In, is_in}
use Rattle.era_core.specs.Words.{root_word, version, tree_at}
use Rattle.era_core.specs.Views.{View, publishing}
use Rattle.era_core.specs.Versions.{Cell, Copy, IsClosed, Stands}
use Rattle.era_core.specs.Sound.{IsPinned, Sound}
use Rattle.era_core.specs.Machine.{start_views}
use Rattle.era_core.proofs.ListFacts.{total-set, total-two, at_set, set_here, at_within, at_push, at_below}
use Rattle.era_core.proofs.BatchFacts.{times-without_kept}
use Rattle.era_core.proofs.WordFacts.{root_keeps_reservation, root_keeps_cell}
use Rattle.era_core.proofs.CopyFacts.{at_append}
use Rattle.era_core.proofs.Frees.{held_within, held_once}
use Rattle.era_core.proofs.Publishes.{root_word-version, pin_within, publishes}
use Rattle.era_core.proofs.Readers.{pinned_tree}
use Rattle.era_rows.specs.Trees.{IsTree}
use Rattle.era_rows.specs.Known.{of_others, pinned_copy, known_words, copy_by, copy_known, losing}
use Rattle.era_rows.specs.Lists.{IsLog, IsListOf, add_entry}
use Rattle.era_rows.specs.Rule.{knowing, core_of, callers_of, Agrees, Kept}
use Rattle.era_rows.specs.Plays.{having_published, published, Loses, Publishes}
use Rattle.era_rows.specs.May.{MayPublish}
use Rattle.era_rows.specs.declared.views.Knows.{Knows}
use Rattle.era_rows.specs.declared.sizes.Sizes.{Sizes}
use Rattle.era_rows.proofs.Seats.{core_at, core_set, at_filter}
use Rattle.era_rows.proofs.Copies.{copy_is}
use Rattle.era_rows.proofs.Moves.{not_in, moves}
use Rattle.era_rows.proofs.Logs.{prefix_whole, prefix_more, listed, added_at, added_own, added_callers, log_longer, list_other, list_own}
use Rattle.era_rows.proofs.Trees.{copy_closed, copy_stands, copy_tree}
use Rattle.era_rows.proofs.Consistent.{consistent}
use Rattle.era_rows.proofs.Learning.{prefix_short, more_seen, learns, hears}
use Rattle.era_rows.proofs.Allowing.{Held}
use mathlib.Core.Option.{none, some}
use lib.ListN.{get_elem?}

module _ {E : Type 0} (caller stamp : E → ℕ) (accepted : ℕ → E → Bool) (lawful : ℕ → Copy → Type 0) (stands : ℕ → Copy → List E → Type 0)
    (right : ℕ → E → List E → Type 0) (key : Sizes) (fits : (shape : ℕ) (c : Copy) → lawful shape c → IsTree c) where
  module _ (ws : List ℕ) (vs : List (Knows E)) (kept : Kept caller stamp accepted lawful stands right key ws vs) (i j : ℕ) (k : Knows E)
      (at : get_elem? vs i ≡ some k) (mine : k.view.core.number ≡ Some j) (n p q : ℕ) (e : E) (may : MayPublish caller stamp accepted lawful stands right n p q e k)
      (row : q < key.rows) (few : key.rows ≤ MOST_ROWS) (found : slice_index ws 0 ≡ root_word n p) where
    abbrev idle : List View
    idle = start_views kept.made (key.passes - kept.made)

    abbrev cores : List View
    cores = map core_of vs ++ idle

    abbrev core : View
    core = k.view.core

    here : get_elem? cores i ≡ some core
    here = core_at vs idle i k at

    old : Agrees caller stamp accepted lawful stands right key ws kept.log kept.copies kept.made j k
    old = kept.each i j k at mine

    pin : IsPinned key.passes key.rows ws cores kept.copies j core.retired n p
    pin = (kept.sound.each i core here).pin j n p mine may.pinned

    version_was : version ws ≡ n
    version_was = ap (λ x. x / ROOT_ROWS) found ∙ root_word-version n p (omega (arith, pin_within key.passes key.rows ws cores kept.copies kept.sound j n p core.retired pin))

    -- what the pass has seen is the longest list, and it knows all versions
    log_long : length kept.log ≡ n
    log_long = kept.counted ∙ version_was

    seen_whole : k.seen ≡ kept.log
    seen_whole = prefix_whole k.seen kept.log old.hears.seen_first (let low = old.hears.pinned_seen n p may.pinned in omega (arith, log_long))

    seen_all : length k.seen ≡ n
    seen_all = ap (λ (es : List E). length es) seen_whole ∙ log_long

    copies_long : length kept.copies ≡ n + 1
    copies_long = omega (arith, kept.sound.counted, version_was)

    known_whole : k.view.copies ≡ kept.copies
    known_whole = prefix_whole k.view.copies kept.copies old.hears.known_first (omega (arith, copies_long, old.hears.paired, seen_all))

    -- the pinned version
    pinned_there : (c : Copy) × (get_elem? kept.copies n ≡ some c)
    pinned_there = at_below kept.copies n (omega (arith, copies_long))

    pinned_is : pinned_copy k.view ≡ pinned_there.0
    pinned_is = copy_is core.pinned k.view.copies n p pinned_there.0 may.pinned (subst (λ cs. get_elem? cs n ≡ some pinned_there.0) (sym known_whole) pinned_there.1)

    old_tree : tree_at key.passes key.rows ws p ≡ (pinned_copy k.view).rows
    old_tree =
        pinned_tree key.passes key.rows ws cores kept.copies kept.sound j n p core.retired pin pinned_there.0 pinned_there.1
        ∙ ap (λ (x : Copy). x.rows) (sym pinned_is)

    -- the new tree
    abbrev cells : List Cell
    cells = known_words k.view

    abbrev new : Copy
    new = copy_known k.view q

    rows_are : k.view.rows ≡ key.rows
    rows_are = old.sizes.rows_are

    pinned_stands : Stands key.passes key.rows ws (pinned_copy k.view).cells
    pinned_stands = subst (λ (x : Copy). Stands key.passes key.rows ws x.cells) (sym pinned_is) (pin.stands pinned_there.0 pinned_there.1)

    pinned_closed : IsClosed key.rows (pinned_copy k.view)
    pinned_closed = subst (IsClosed key.rows) (sym pinned_is) (kept.sound.closed n pinned_there.0 pinned_there.1)

    known_stands : Stands key.passes key.rows ws cells
    known_stands m x there =
        ⊎_elim (λ t. old.written.stand t.0 x t.1) (λ t. pinned_stands t.0 x t.1) (at_append k.view.written (pinned_copy k.view).cells m x there)

    known_placed : (m : ℕ) (x : Cell) → get_elem? cells m ≡ some x → x.place < WIDTH
    known_placed m x there =
        ⊎_elim (λ t. old.written.placed t.0 x t.1) (λ t. pinned_closed.placed t.0 x t.1) (at_append k.view.written (pinned_copy k.view).cells m x there)

    new_is_tree : IsTree new
    new_is_tree = fits k.view.shape new may.is_lawful

    new_closed : IsClosed key.rows new
    new_closed = subst (λ r. IsClosed r new) rows_are (copy_closed k.view.rows cells q new_is_tree known_placed)

    new_stands : Stands key.passes key.rows ws new.cells
    new_stands =
        let P : ℕ → Type 0 = λ r. Stands key.passes key.rows ws (copy_by r cells q).cells in
        subst P (sym rows_are) (copy_stands key.rows cells q key.passes ws known_stands)

    new_tree : tree_at key.passes key.rows ws q ≡ new.rows
    new_tree =
        let P : ℕ → Type 0 = λ r. IsTree (copy_by r cells q) → tree_at key.passes key.rows ws q ≡ (copy_by r cells q).rows in
        subst P (sym rows_are) (copy_tree key.rows cells q key.passes ws known_stands) new_is_tree

    -- what holds afterwards
    abbrev us : List ℕ
    us = set ws 0 (root_word (n + 1) q)

    abbrev after : Knows E
    after = having_published caller n p q e k

    abbrev log : List E
    log = kept.log ++ e ∷ []

    abbrev copies : List Copy
    copies = kept.copies ++ new ∷ []

    sound_machine : Sound key.passes key.rows us (set cores i after.view.core) copies
    sound_machine =
        let P : List ℕ → List ℕ → Type 0 = λ a b. Sound key.passes key.rows us (set cores i (publishing n a b core)) copies in
        subst (λ a. P a new.rows) old_tree
        (subst (λ b. P (tree_at key.passes key.rows ws p) b) new_tree
        (publishes key.passes key.rows ws cores kept.copies kept.sound i j core here mine n p q may.pinned found (omega (arith, few)) may.fresh_root
        (λ x there. ⊎_elim inl (λ pinned. inr (subst (In x) (sym old_tree) pinned)) (may.parts x (subst (In x) new_tree there)))
        new refl (sym new_tree) new_stands new_closed))

    sound_now : Sound key.passes key.rows us (map core_of (set vs i after) ++ idle) copies
    sound_now = subst (λ xs. Sound key.passes key.rows us xs copies) (core_set vs idle i k after at) sound_machine

    version_is : version us ≡ n + 1
    version_is =
        ap (λ x. x / ROOT_ROWS) (get_or-set_same ws 0 (root_word (n + 1) q) 0 (omega (arith, kept.sound.long)))
        ∙ root_word-version (n + 1) q (omega (arith, few, row))

    is_mine : caller e ≡ j
    is_mine = same_Some (caller e) j (sym may.named ∙ mine)

    seen_is : take n k.seen ≡ kept.log
    seen_is = ap (λ m. take m k.seen) (sym seen_all) ∙ take-length k.seen ∙ seen_whole

    is_accepted : accepted key.shape e ≡ true
    is_accepted = ap (λ shape. accepted shape e) (sym old.sizes.shape_is) ∙ may.is_accepted

    is_right : right key.shape e kept.log
    is_right = subst (λ shape. right shape e kept.log) old.sizes.shape_is (subst (right k.view.shape e) seen_is may.is_right)

    is_lawful : lawful key.shape new
    is_lawful = subst (λ shape. lawful shape new) old.sizes.shape_is may.is_lawful

    stands_for : stands key.shape new log
    stands_for = subst (λ shape. stands shape new log) old.sizes.shape_is (subst (λ es. stands k.view.shape new (es ++ e ∷ [])) seen_is may.stands_for)

    logged_now : IsLog caller stamp accepted right key.shape kept.made log
    logged_now = log_longer caller stamp accepted right key.shape kept.log e kept.made kept.logged is_accepted is_right (omega (arith, may.stamped, log_long)) (omega (arith, is_mine, old.begun))

    means_now : (m : ℕ) (c : Copy) → get_elem? copies m ≡ some c → lawful key.shape c × stands key.shape c (take m log)
    means_now m c there =
        ⊎_elim
        (λ was.
        let before = kept.means m c was in
        (before.0, subst (stands key.shape c) (sym (take-append-le m kept.log (e ∷ []) (let within = at_within kept.copies m c was in omega (arith, copies_long, log_long)))) before.1))
        (λ last.
        let whole : m ≡ length log = (let place = last.0 in omega (arith, copies_long, log_long, length-append kept.log (e ∷ []))) in
        (subst (lawful key.shape) last.1 is_lawful, subst (λ x. stands key.shape x (take m log)) last.1 (subst (stands key.shape new) (sym (ap (λ a. take a log) whole ∙ take-length log)) stands_for)))
        (at_push kept.copies new c m there)

    -- no other pass holds the list of this one
    not_mine : (a m c : ℕ) (u : Knows E) (es : List E) → a ≢ i → get_elem? vs a ≡ some u → get_elem? u.lists m ≡ some (c, es) → caller e ≢ c
    not_mine a m c u es apart there list same =
        let f : Knows E → ℕ = λ x. times j (callers_of x) in
        let one = kept.once j ∙ ap (λ b. cond b 1 0) (lt-ltb j kept.made old.begun) in
        let both = total-two f vs i a k u at there (λ is. apart (sym is)) in
        let own = old.hears.own in
        let own_there = listed k.lists own.0 j own.1 own.2 in
        let other : In j (callers_of u) = subst (λ d. In d (callers_of u)) (sym same ∙ is_mine) (listed u.lists m c es list) in
        omega arith

    same_stands : (xs : List Cell) → Stands key.passes key.rows ws xs → Stands key.passes key.rows us xs
    same_stands xs was m x there = root_keeps_cell key.passes key.rows ws (root_word (n + 1) q) x.row x.place ∙ was m x there

    others_agree : (a m : ℕ) (u : Knows E) → a ≢ i → get_elem? vs a ≡ some u → u.view.core.number ≡ Some m
        → Agrees caller stamp accepted lawful stands right key us log copies kept.made m u
    others_agree a m u apart there is =
        let was = kept.each a m u there is in
        record {
          begun = was.begun;
          sizes = was.sizes;
          makes = was.makes;
          reserves = root_keeps_reservation key.passes key.rows ws (root_word (n + 1) q) m ∙ was.reserves;
          hears = record {
            seen_first = prefix_more u.seen kept.log (e ∷ []) was.hears.seen_first;
            known_first = prefix_more u.view.copies kept.copies (new ∷ []) was.hears.known_first;
            paired = was.hears.paired;
            pinned_seen = was.hears.pinned_seen;
            own = was.hears.own;
            held = λ b c es list.
                list_other caller stamp accepted right key.shape kept.log e (length u.seen) c es (was.hears.held b c es list) (not_mine a b c u es apart there list)
                (prefix_short u.seen kept.log was.hears.seen_first);
          };
          written = record { stand = same_stands u.view.written was.written.stand; in_fresh = was.written.in_fresh; placed = was.written.placed };
        }

    -- the lists that the pass holds now
    held_now : (b c : ℕ) (es : List E) → get_elem? after.lists b ≡ some (c, es) → IsListOf caller stamp accepted right key.shape log (length k.seen + 1) c es
    held_now b c es there =
        let was = added_at (caller e) e k.lists b c es there in
        let list = old.hears.held b c was.0 was.1 in
        let low : length k.seen ≤ length kept.log = prefix_short k.seen kept.log old.hears.seen_first in
        ⊎_elim
        (λ t. subst (IsListOf caller stamp accepted right key.shape log (length k.seen + 1) c) (sym t.1)
        (list_own caller stamp accepted right key.shape kept.log e (length k.seen) c was.0 list (sym t.0) is_accepted (omega (arith, may.stamped, seen_all)) low))
        (λ t. subst (IsListOf caller stamp accepted right key.shape log (length k.seen + 1) c) (sym t.1)
        (more_seen caller stamp accepted right key.shape log (length k.seen) (length k.seen + 1) c was.0 (omega arith)
        (list_other caller stamp accepted right key.shape kept.log e (length k.seen) c was.0 list (λ same. t.0 (sym same)) low)))
        was.2

    old_cell : (m : ℕ) (c : Cell) → get_elem? (of_others new.rows k.view.written) m ≡ some c → (a : ℕ) × (get_elem? k.view.written a ≡ some c) × (not (is_in c.row new.rows) ≡ true)
    old_cell m c there = at_filter (λ (x : Cell). not (is_in x.row new.rows)) k.view.written m c there

    own_agrees : Agrees caller stamp accepted lawful stands right key us log copies kept.made j after
    own_agrees =
        let own = old.hears.own in
        let one_more = length-append k.seen (e ∷ []) in
        record {
          begun = old.begun;
          sizes = old.sizes;
          makes = old.makes;
          reserves = root_keeps_reservation key.passes key.rows ws (root_word (n + 1) q) j ∙ old.reserves;
          hears = record {
            seen_first = ([], append-nil (k.seen ++ e ∷ []) ∙ ap (λ es. es ++ e ∷ []) seen_whole);
            known_first = ([], append-nil (k.view.copies ++ new ∷ []) ∙ ap (λ cs. cs ++ new ∷ []) known_whole);
            paired = (let more = length-append k.view.copies (new ∷ []) in omega (arith, one_more, old.hears.paired));
            pinned_seen = λ m r is. (let low = old.hears.pinned_seen m r is in omega (arith, one_more));
            own = (
              own.0,
              own.1 ++ e ∷ [],
              subst (λ c. get_elem? (add_entry (caller e) e k.lists) own.0 ≡ some (c, own.1 ++ e ∷ [])) is_mine
                  (added_own (caller e) e k.lists own.0 own.1 (subst (λ c. get_elem? k.lists own.0 ≡ some (c, own.1)) (sym is_mine) own.2)),
            );
            held = λ b c es there. subst (λ m. IsListOf caller stamp accepted right key.shape log m c es) (sym one_more) (held_now b c es there);
          };
          written = record {
            stand = λ m c there. let was = old_cell m c there in same_stands k.view.written old.written.stand was.0 c was.1;
            in_fresh = λ m c there.
                let was = old_cell m c there in
                let before = old.written.in_fresh was.0 c was.1 in
                omega (arith, times-without_kept c.row new.rows core.fresh (not_in c.row new.rows was.2));
            placed = λ m c there. let was = old_cell m c there in old.written.placed was.0 c was.1;
          };
        }

    -- the rule holds again
    pub publish_keeps : Kept caller stamp accepted lawful stands right key (set ws 0 (root_word (n + 1) q)) (set vs i (having_published caller n p q e k))
    publish_keeps = record {
      made = kept.made;
      log = log;
      copies = copies;
      enough = kept.enough;
      sound = sound_now;
      counted = omega (arith, length-append kept.log (e ∷ []), log_long, version_is);
      logged = logged_now;
      means = means_now;
      once = λ c.
          (let both = total-set (λ (u : Knows E). times c (callers_of u)) vs i k after at in
          let same = ap (times c) (added_callers (caller e) e k.lists) in omega arith) ∙ kept.once c;
      each = λ a m u there is.
          ⊎_elim
          (λ t.
          let same : m ≡ j = same_Some m j (sym is ∙ ap (λ (x : Knows E). x.view.core.number) (sym t.1) ∙ mine) in
          subst (λ b. Agrees caller stamp accepted lawful stands right key us log copies kept.made b u) (sym same)
          (subst (λ (x : Knows E). Agrees caller stamp accepted lawful stands right key us log copies kept.made j x) t.1 own_agrees))
          (λ t. others_agree a m u t.0 t.1 is)
          (at_set vs i a after u there);
      spent = λ a u there none.
          ⊎_elim
          (λ t. absurd (none-some j (sym none ∙ ap (λ (x : Knows E). x.view.core.number) (sym t.1) ∙ mine)))
          (λ t. kept.spent a u t.1 none)
          (at_set vs i a after u there);
    }

    -- and the pass knows what it did
    pub publish_tells : Publishes caller stamp accepted lawful stands right n p q e k (having_published caller n p q e k)
    publish_tells =
        let cores_now = map core_of (set vs i after) ++ idle in
        let at_now = core_at (set vs i after) idle i after (set_here vs i k after at) in
        record {
          now = refl;
          seen_all = seen_all;
          older = λ b waits. omega (arith, version_was, (kept.sound.each i core here).older b waits);
          holds = record {
            different = λ r. (let one = held_once key.passes key.rows us cores_now copies sound_now i j after.view.core at_now mine r in omega arith);
            inside = λ r there. (let low = held_within key.passes key.rows us cores_now copies sound_now i j after.view.core at_now mine r there in omega (arith, rows_are));
          };
          consistent = consistent caller stamp accepted lawful stands right key us (set vs i after) publish_keeps i j after (set_here vs i k after at) mine;
        }

module _ {E : Type 0} (caller stamp : E → ℕ) (accepted : ℕ → E → Bool) (lawful : ℕ → Copy → Type 0) (stands : ℕ → Copy → List E → Type 0)
    (right : ℕ → E → List E → Type 0) (key : Sizes) where
  module _ (ws : List ℕ) (vs : List (Knows E)) (kept : Kept caller stamp accepted lawful stands right key ws vs) (i j : ℕ) (k : Knows E)
      (at : get_elem? vs i ≡ some k) (mine : k.view.core.number ≡ Some j) where
    abbrev seats : List View
    seats = map core_of vs ++ start_views kept.made (key.passes - kept.made)

    seat_here : get_elem? seats i ≡ some k.view.core
    seat_here = core_at vs (start_views kept.made (key.passes - kept.made)) i k at

    was : Agrees caller stamp accepted lawful stands right key ws kept.log kept.copies kept.made j k
    was = kept.each i j k at mine

    module _ (n p : ℕ) (pinned : k.view.core.pinned ≡ Some (n, p)) where
      seat_pin : IsPinned key.passes key.rows ws seats kept.copies j k.view.core.retired n p
      seat_pin = (kept.sound.each i k.view.core seat_here).pin j n p mine pinned

      -- the pinned root row is a row

      abbrev lost : Knows E
      lost = knowing kept.log k.lists (losing (slice_index ws 0) kept.copies k.view)

      -- the rule holds where Publish found another root word
      pub lose_keeps : Kept caller stamp accepted lawful stands right key ws (set vs i (knowing kept.log k.lists (losing (slice_index ws 0) kept.copies k.view)))
      lose_keeps =
          moves caller stamp accepted lawful stands right key ws vs kept i j k at mine ws lost refl refl (λ m pass other. refl) (λ a u apart there theirs. theirs.stand)
          (subst (λ xs. Sound key.passes key.rows ws xs kept.copies) (sym (set_again seats i k.view.core seat_here)) kept.sound)
          (record {
            begun = was.begun;
            sizes = was.sizes;
            makes = was.makes;
            reserves = was.reserves;
            hears = hears caller stamp accepted lawful stands right key ws vs kept i j k at mine k.view.core.pinned
                (λ m r is. (let low = was.hears.pinned_seen m r is in let more = prefix_short k.seen kept.log was.hears.seen_first in omega arith));
            written = was.written;
          })
          mine

      -- and the pass knows that a later version is there
      pub lose_tells : slice_index ws 0 ≢ root_word n p → Loses caller stamp accepted lawful stands right (slice_index ws 0) k (knowing kept.log k.lists (losing (slice_index ws 0) kept.copies k.view))
      lose_tells other = record {
        view_is = refl;
        learns = learns caller stamp accepted lawful stands right key ws vs kept i j k at mine (losing (slice_index ws 0) kept.copies k.view) refl
            (consistent caller stamp accepted lawful stands right key ws (set vs i lost) lose_keeps i j lost (set_here vs i k lost at) mine);
        later = λ m r is.
            let same = same_Some (n, p) (m, r) (sym pinned ∙ is) in
            let same_version : n ≡ m = ap (λ t. t.0) same in
            ⊎_elim
            (λ below. below)
            (λ past.
            let last : n ≡ version ws = omega (arith, seat_pin.published, same_version, past) in
            let there = at_below kept.copies (version ws) (omega (arith, kept.sound.counted)) in
            let root : p ≡ slice_index ws 0 % ROOT_ROWS = sym (seat_pin.rooted there.0 (subst (λ a. get_elem? kept.copies a ≡ some there.0) (sym last) there.1)) ∙ kept.sound.rooted there.0 there.1 in
            absurd (other (omega (arith, last, root))))
            (cases_lt m (version ws));
      }

  module _ {S : Type 0} (fits : (shape : ℕ) (c : Copy) → lawful shape c → IsTree c) (slots id : ℕ) (me : Me S (Knows E)) (entry : Option E) (n p q : ℕ) (e : E) (says : entry ≡ Some e)
      (may : MayPublish caller stamp accepted lawful stands right n p q e me.0) (row : q < key.rows) (few : key.rows ≤ MOST_ROWS) where
    abbrev won : Knows E
    won = having_published caller n p q e me.0

    abbrev tells : ℕ → Knows E → Type 0
    tells x w = published caller stamp accepted lawful stands right entry (step slots 0 (root_word n p) (root_word (n + 1) q) none) me x (w, me.1)

    won_tells : (x : ℕ) → x ≡ root_word n p → Publishes caller stamp accepted lawful stands right n p q e me.0 won → tells x won
    won_tells x hit told a b c d is pinned second small =
        let same = same_Some (n, p) (a, b) (sym may.pinned ∙ pinned) in
        let first_is : n ≡ a = ap (λ t. t.0) same in
        let second_is : p ≡ b = ap (λ t. t.1) same in
        let root_is : q ≡ c = omega (arith, first_is, second, small, row, few) in
        let entry_is : e ≡ d = same_Some e d (sym says ∙ is) in (
          (λ again.
              subst (λ y. Publishes caller stamp accepted lawful stands right y b c d me.0 won) first_is
              (subst (λ y. Publishes caller stamp accepted lawful stands right n y c d me.0 won) second_is
              (subst (λ y. Publishes caller stamp accepted lawful stands right n p y d me.0 won) root_is
              (subst (λ y. Publishes caller stamp accepted lawful stands right n p q y me.0 won) entry_is told)))),
          (λ other. absurd (other (hit ∙ ap (λ t. root_word t.0 t.1) same))),
          refl,
        )

    lost_tells : (x : ℕ) (w : Knows E) → x ≢ root_word n p → Loses caller stamp accepted lawful stands right x me.0 w → tells x w
    lost_tells x w miss told a b c d is pinned second small =
        let same = same_Some (n, p) (a, b) (sym may.pinned ∙ pinned) in
        ((λ again. absurd (miss (again ∙ sym (ap (λ t. root_word t.0 t.1) same)))), (λ other. told), refl)

    -- the step is allowed
    pub exchanges_root : Allows (Held caller stamp accepted lawful stands right key) slots id me 0 (λ x. cond (eqb x (root_word n p)) (root_word (n + 1) q) x)
        (published caller stamp accepted lawful stands right entry (step slots 0 (root_word n p) (root_word (n + 1) q) none) me)
    exchanges_root s kept homes at bound =
        exchanged found (root_word n p) (root_word (n + 1) q) Goes
        (λ hit. (
          won,
          keeps,
          tt,
          publish_keeps caller stamp accepted lawful stands right key fits s.words s.views kept id (caller e) me.0 at may.named n p q e may row few hit,
          won_tells found hit (publish_tells caller stamp accepted lawful stands right key fits s.words s.views kept id (caller e) me.0 at may.named n p q e may row few hit),
        ))
        (λ miss. (
          lost_now,
          keeps,
          tt,
          subst (λ ws. Kept caller stamp accepted lawful stands right key ws (set s.views id lost_now)) (sym (set-get_or s.words 0 0))
              (lose_keeps s.words s.views kept id (caller e) me.0 at may.named n p may.pinned),
          lost_tells found lost_now miss (lose_tells s.words s.views kept id (caller e) me.0 at may.named n p may.pinned miss),
        ))
      where
        found : ℕ
        found = slice_index s.words 0

        lost_now : Knows E
        lost_now = knowing kept.log me.0.lists (losing found kept.copies me.0.view)

        Goes : ℕ → Type 0
        Goes x = (w : Knows E) × (a : Act S) × Valid s.homes me.1 a × Held caller stamp accepted lawful stands right key (stepped s 0 x id me.1 w a) × published caller stamp accepted lawful stands right entry (step slots 0 (root_word n p) (root_word (n + 1) q) none) me found (w, carried_after me.1 a)

    -- the same, where the words are given by equal numbers
    pub exchanges_at : (from to : ℕ) → from ≡ root_word n p → to ≡ root_word (n + 1) q
        → Allows (Held caller stamp accepted lawful stands right key) slots id me 0 (λ x. cond (eqb x from) to x) (published caller stamp accepted lawful stands right entry (step slots 0 from to none) me)
    exchanges_at from to from_is to_is =
        let P : ℕ → ℕ → Type 0 = λ a b. Allows (Held caller stamp accepted lawful stands right key) slots id me 0 (λ x. cond (eqb x a) b x) (published caller stamp accepted lawful stands right entry (step slots 0 a b none) me) in
        subst (λ a. P a to) (sym from_is) (subst (λ b. P (root_word n p) b) (sym to_is) exchanges_root)
