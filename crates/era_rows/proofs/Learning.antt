-- A pass that finds the root comes to know all accepted entries and all versions.
use Rattle.std.proofs.Common.{◌≡◌, ℕ, ◌+◌, ◌-◌, ◌<◌, ◌≤◌, ⊎_elim, Bool, Option, Some, None, List, [], set, length, slice_index, refl, sym, ap, subst, ◌∙◌, arith}
use Rattle.std.proofs.lemmas.List.{append-nil, length-append}
use Rattle.std.proofs.lemmas.Option.{same_Some}
use Rattle.era_core.specs.Lists.{times, In}
use Rattle.era_core.specs.Words.{version, root_row, links, live}
use Rattle.era_core.specs.Views.{View, rows_in}
use Rattle.era_core.specs.Versions.{Copy, IsClosed}
use Rattle.era_core.specs.Machine.{start_views}
use Rattle.era_core.proofs.ListFacts.{at_below, set_here, in-append_left}
use Rattle.era_core.proofs.TreeFacts.{tree_root}
use Rattle.era_core.proofs.Keeps.{pins}
use Rattle.era_core.proofs.Frees.{owned_within, held_once}
use Rattle.era_rows.specs.Trees.{IsTree}
use Rattle.era_rows.specs.Known.{Known, pinned_copy, pinning_root}
use Rattle.era_rows.specs.Lists.{IsPrefix, IsListOf}
use Rattle.era_rows.specs.Held.{HoldsTree}
use Rattle.era_rows.specs.Rule.{knowing, Hears, Agrees}
use Rattle.era_rows.specs.Plays.{IsConsistent, Learns, Pins}
use Rattle.era_rows.specs.declared.views.Knows.{Knows}
use Rattle.era_rows.specs.declared.sizes.Sizes.{Sizes}
use Rattle.era_rows.proofs.Seats.{core_at}
use Rattle.era_rows.proofs.Consistent.{consistent}
use Rattle.era_rows.proofs.Copies.{copy_is}
use Rattle.era_rows.proofs.Moves.{Keeps, cores, here, agrees, moves}
use mathlib.Core.Option.{some}
use lib.ListN.{get_elem?}

-- a beginning of a list is no longer than the list
pub prefix_short : {A : Type 0} (xs ys : List A) → IsPrefix xs ys → length xs ≤ length ys
prefix_short xs ys begins = let both = length-append xs begins.0 in let whole = ap length begins.1 in omega arith

module _ {E : Type 0} (caller stamp : E → ℕ) (accepted : ℕ → E → Bool) (right : ℕ → E → List E → Type 0) where
  -- a pass that has seen more knows of the same list
  pub more_seen : (shape : ℕ) (log : List E) (seen more c : ℕ) (es : List E) → seen ≤ more → IsListOf caller stamp accepted right shape log seen c es → IsListOf caller stamp accepted right shape log more c es
  more_seen shape log seen more c es low list = record {
    named = list.named;
    told = list.told;
    known = λ n e there. (let known = list.known n e there in omega arith);
    judged = list.judged;
    ordered = list.ordered;
    rising = list.rising;
  }

module _ {E : Type 0} (caller stamp : E → ℕ) (accepted : ℕ → E → Bool) (lawful : ℕ → Copy → Type 0) (stands : ℕ → Copy → List E → Type 0)
    (right : ℕ → E → List E → Type 0) (key : Sizes) where
  module _ (ws : List ℕ) (vs : List (Knows E)) (kept : Keeps caller stamp accepted lawful stands right key ws vs) (i j : ℕ) (k : Knows E) (at : get_elem? vs i ≡ some k)
      (mine : k.view.core.number ≡ Some j) where
    abbrev views : List View
    views = cores caller stamp accepted lawful stands right key ws vs kept i j k at mine

    abbrev seat : get_elem? views i ≡ some k.view.core
    seat = here caller stamp accepted lawful stands right key ws vs kept i j k at mine

    old : Agrees caller stamp accepted lawful stands right key ws kept.log kept.copies kept.made j k
    old = agrees caller stamp accepted lawful stands right key ws vs kept i j k at mine

    seen_low : length k.seen ≤ length kept.log
    seen_low = prefix_short k.seen kept.log old.hears.seen_first

    pub learns : (v : Known) → v.copies ≡ kept.copies → IsConsistent caller stamp accepted lawful stands right (knowing kept.log k.lists v)
        → Learns caller stamp accepted lawful stands right (version ws) k (knowing kept.log k.lists v)
    learns v same_copies consistent_now = record {
      seen_more = old.hears.seen_first;
      seen_all = kept.counted;
      copies_more = subst (λ cs. IsPrefix k.view.copies cs) (sym same_copies) old.hears.known_first;
      same_lists = refl;
      consistent = consistent_now;
    }

    -- what it knows then agrees with the longest list and the versions
    pub hears : (pinned : Option (ℕ × ℕ)) → ((n r : ℕ) → pinned ≡ Some (n, r) → n ≤ length kept.log)
        → Hears caller stamp accepted lawful stands right key kept.log kept.copies j kept.log k.lists kept.copies pinned
    hears pinned low = record {
      seen_first = ([], append-nil kept.log);
      known_first = ([], append-nil kept.copies);
      paired = kept.sound.counted ∙ ap (λ n. n + 1) (sym kept.counted);
      pinned_seen = low;
      own = old.hears.own;
      held = λ n c es there. more_seen caller stamp accepted right key.shape kept.log (length k.seen) (length kept.log) c es seen_low (old.hears.held n c es there);
    }

    -- Pin
    module _ (fits : (shape : ℕ) (c : Copy) → lawful shape c → IsTree c) (loose : k.view.core.pinned ≡ None) (reserves : 0 < k.view.reserves) where
      abbrev word : ℕ
      word = slice_index ws 0

      abbrev pub having_pinned : Knows E
      having_pinned = knowing kept.log k.lists (pinning_root word kept.copies k.view)

      pub pinned_kept : Keeps caller stamp accepted lawful stands right key ws (set vs i having_pinned)
      pinned_kept =
          moves caller stamp accepted lawful stands right key ws vs kept i j k at mine ws having_pinned refl refl (λ m pass other. refl) (λ a u apart there theirs. theirs.stand)
          (pins key.passes key.rows ws views kept.copies kept.sound i j k.view.core seat mine loose (let is = old.reserves in omega arith))
          (record {
            begun = old.begun;
            sizes = record { shape_is = old.sizes.shape_is; rows_are = old.sizes.rows_are; passes_are = old.sizes.passes_are };
            makes = old.makes;
            reserves = old.reserves;
            hears = hears (Some (version ws, root_row ws)) (λ n r e. (let same = ap (λ (pin : ℕ × ℕ). pin.0) (same_Some (version ws, root_row ws) (n, r) e) in let all = kept.counted in omega arith));
            written = record { stand = old.written.stand; in_fresh = old.written.in_fresh; placed = old.written.placed };
          })
          mine

      current : (c : Copy) × (get_elem? kept.copies (version ws) ≡ some c)
      current = at_below kept.copies (version ws) (let all = kept.sound.counted in omega arith)

      copy_now : pinned_copy having_pinned.view ≡ current.0
      copy_now = copy_is (Some (version ws, root_row ws)) kept.copies (version ws) (root_row ws) current.0 refl current.1

      there_now : get_elem? kept.copies (version ws) ≡ some (pinned_copy having_pinned.view)
      there_now = current.1 ∙ sym (ap some copy_now)

      rows_now : (pinned_copy having_pinned.view).rows ≡ live key.passes key.rows ws
      rows_now = kept.sound.current (pinned_copy having_pinned.view) there_now

      tree_now : HoldsTree having_pinned.view
      tree_now = record {
        is_tree = fits key.shape (pinned_copy having_pinned.view) (kept.means (version ws) (pinned_copy having_pinned.view) there_now).0;
        within = (kept.sound.closed (version ws) (pinned_copy having_pinned.view) there_now).within;
        inside = λ r live_row.
            let owned = owned_within key.passes key.rows ws r (let all = kept.sound.places r in let same = ap (times r) rows_now in omega arith) in
            omega (arith, old.sizes.rows_are);
        unread = λ r fresh.
            let once = held_once key.passes key.rows ws views kept.copies kept.sound i j k.view.core seat mine r in
            let held_row = in-append_left r k.view.core.fresh (rows_in k.view.core.retired) fresh in
            let same = ap (times r) rows_now in omega arith;
      }

      pub pinned_told : Pins caller stamp accepted lawful stands right word k having_pinned
      pinned_told = record {
        view_is = refl;
        learns = learns (pinning_root word kept.copies k.view) refl
            (consistent caller stamp accepted lawful stands right key ws (set vs i having_pinned) pinned_kept i j having_pinned (set_here vs i k having_pinned at) mine);
        there = there_now;
        rooted = kept.sound.rooted (pinned_copy having_pinned.view) there_now;
        root_here =
            subst (In (root_row ws)) (sym rows_now) (tree_root (links key.passes key.rows ws) key.rows (root_row ws));
        closed = subst (λ n. IsClosed n (pinned_copy having_pinned.view)) (sym old.sizes.rows_are) (kept.sound.closed (version ws) (pinned_copy having_pinned.view) there_now);
        tree = tree_now;
        older = λ b here.
            let now = pinned_kept.sound.each i having_pinned.view.core (core_at (set vs i having_pinned) (start_views pinned_kept.made (key.passes - pinned_kept.made)) i having_pinned (set_here vs i k having_pinned at)) in
            let is = old.reserves in
            ⊎_elim
            (λ low. omega arith)
            (λ same. absurd (let low = now.older b here in omega arith))
            ((now.pin j (version ws) (root_row ws) mine refl).own b here);
      }
