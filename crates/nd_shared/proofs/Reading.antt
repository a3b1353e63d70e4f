-- Of which rows of the pinned tree a call finds words: of none before it asks or builds, and of none afterwards.
use Rattle.std.proofs.Common.{◌≡◌, ◌≢◌, ℕ, zero, suc, ◌+◌, ◌/◌, ◌<◌, ◌≤◌, ⊎_elim, Bool, true, false, ltb, List, [], ◌∷◌, ◌++◌, drop, length, refl, sym, ap, subst, ◌∙◌, arith, append-nil}
use Rattle.std.specs.Prelude.{Result, Ok, Err}
use Rattle.std.specs.List.{list_any}
use Rattle.std.proofs.lemmas.Bool.{and_left, and_parts, false_from_ne_true, leb-true, lt-leb, ltb-true, or_cases, or_from, or_parts, true≢false}
use Rattle.std.proofs.lemmas.List.{drop_all}
use Rattle.std.proofs.lemmas.List.Folds.{list_any-append}
use Rattle.era_core.specs.declared.sizes.TheConstants.{ROOT_ROWS, WIDTH}
use Rattle.era_core.specs.Lists.{times, In}
use Rattle.era_core.specs.Versions.{Copy}
use Rattle.era_core.specs.Words.{cell_at, reservation_at, root_word}
use Rattle.era_core.proofs.Publishes.{root_word-version}
use Rattle.era_rows.specs.Known.{Known, Look, copy_known, leaving, noting_root, pinned_copy, pinning_root, reserving}
use Rattle.era_rows.specs.Lists.{IsPrefix}
use Rattle.era_rows.specs.Passes.{HasRead, Tidies, looks_of}
use Rattle.era_rows.specs.FreshRows.{is_read}
use Rattle.era_rows.specs.declared.views.Knows.{Knows}
use Rattle.era_rows.specs.declared.refusal.PublishRefusal.{PublishRefusal}
use Rattle.era_rows.specs.declared.refusal.PublishRefusal.TheVariants.{Beaten, Spent}
use Rattle.era_rows.proofs.Seats.{prefix_at}
use Rattle.era_one_row.specs.Ready.{HasPinned}
use Rattle.era_one_row.proofs.GoingOn.{begins_twice, pin_stays}
use Rattle.pls_archive.specs.declared.call.Entry.{Entry}
use Rattle.nd_rows.specs.Layout.{IsTreeOf}
use Rattle.nd_rows.specs.Nodes.{Nodes}
use Rattle.nd_rows.specs.Reads.{ReadsIn}
use Rattle.nd_update.specs.Building.{Builds}
use Rattle.nd_update.specs.Counted.{WasRead}
use Rattle.nd_update.specs.Needed.{ReadsOnly}
use Rattle.nd_update.proofs.Building.{same_copy}
use Rattle.nd_update.proofs.Reading.{only_reads}
use Rattle.nd_shared.specs.Reading.{IsUnread, ReadsNone, ReadsOf}
use Rattle.nd_shared.specs.Views.{Pins}
use Rattle.nd_shared.proofs.Publications.{Closes}
use mathlib.Core.Option.{some}
use lib.ListN.{get_elem?}

-- ---- looks that a test does not meet

any_none : (f : Look → Bool) (looks : List Look) → ((i : ℕ) (l : Look) → get_elem? looks i ≡ some l → f l ≡ false) → list_any f looks ≡ false
any_none f [] none = refl
any_none f (l ∷ looks) none = or_from (f l) (list_any f looks) (none 0 l refl) (any_none f looks (λ i m there. none (suc i) m there))

any_drop : (f : Look → Bool) (n : ℕ) (looks : List Look) → list_any f looks ≡ false → list_any f (drop n looks) ≡ false
any_drop f zero looks none = none
any_drop f (suc n) [] none = refl
any_drop f (suc n) (l ∷ looks) none = any_drop f n looks (or_parts (f l) (list_any f looks) none).1

-- what met it, met it before these came
any_still : (f : Look → Bool) (n : ℕ) (looks more : List Look) → list_any f more ≡ false → list_any f (drop n (looks ++ more)) ≡ true → list_any f (drop n looks) ≡ true
any_still f zero looks more none found =
    ⊎_elim (λ was. was) (λ now. absurd (true≢false (sym now ∙ none))) (or_cases (list_any f looks) (list_any f more) (sym (list_any-append f looks more) ∙ found))
any_still f (suc n) [] more none found = absurd (true≢false (sym found ∙ any_drop f (suc n) more none))
any_still f (suc n) (l ∷ looks) more none found = any_still f n looks more none found

-- ---- looks that find no word of row x

module _ (passes rows x : ℕ) where
  -- of the root, of a reservation or of an owner
  low_place : (i w : ℕ) → i < 1 + passes + rows → is_read passes rows x (i, w) ≡ false
  low_place i w low = and_left _ (ltb i (cell_at passes rows (x + 1) 0)) (lt-leb (cell_at passes rows x 0) i (omega (arith, low)))

  -- of another row
  else_place : (r p i w : ℕ) → p < WIDTH → i ≡ cell_at passes rows r p → x ≢ r → is_read passes rows x (i, w) ≡ false
  else_place r p i w near at apart =
      false_from_ne_true _
      (λ read.
      let both = and_parts _ _ read in
      let low = leb-true (cell_at passes rows x 0) i both.0 in
      let high = ltb-true i (cell_at passes rows (x + 1) 0) both.1 in apart (omega (arith, near, at, low, high)))

  -- of a scan
  low_scan : (j : ℕ) (words : List ℕ) → j + length words ≤ passes → list_any (is_read passes rows x) (looks_of passes rows j words) ≡ false
  low_scan j [] inside = refl
  low_scan j (w ∷ words) inside = or_from _ _ (low_place (reservation_at passes rows j) w (omega (arith, inside))) (low_scan (j + 1) words (omega arith))

-- a pin finds the root alone
unread_now : (w : ℕ) (copies : List Copy) (k : Known) (x : ℕ) → ¬ (WasRead x (pinning_root w copies k))
unread_now w copies k x read =
    let before = any_still (is_read k.passes k.rows x) (length k.looks) k.looks ((0, w) ∷ []) (or_from _ _ (low_place k.passes k.rows x 0 w (omega arith)) refl) read in
    true≢false (sym before ∙ ap (list_any (is_read k.passes k.rows x)) (drop_all (length k.looks) k.looks (omega arith)))

pub unread_pinned : (n root : ℕ) (before after : Knows Entry) → root < ROOT_ROWS → Pins n root before after → IsUnread n after.view
unread_pinned n root before after small pins = record {
  known = subst (λ m. get_elem? after.view.copies m ≡ some (pinned_copy after.view)) (root_word-version n root small) pins.1.there;
  none = λ x. subst (λ (k : Known). ¬ (WasRead x k)) (sym pins.1.view_is) (unread_now (root_word n root) after.view.copies (reserving (pins.0 / ROOT_ROWS) (noting_root pins.0 before.view)) x);
}

-- ---- steps that find no word of these rows

module _ (rows : List ℕ) where
  none_both : (k l m : Known) → ReadsNone rows k l → ReadsNone rows l m → ReadsNone rows k m
  none_both k l m one two = record {
    looked = begins_twice k.looks l.looks m.looks one.looked two.looked;
    same_pin = two.same_pin ∙ one.same_pin;
    copies = begins_twice k.copies l.copies m.copies one.copies two.copies;
    none = λ x here read. one.none x here (two.none x here read);
  }

  -- these words were found
  none_more : (k l : Known) (more : List Look) → l.looks ≡ k.looks ++ more → l.since ≡ k.since → l.passes ≡ k.passes → l.rows ≡ k.rows → IsPrefix k.copies l.copies
      → ((x : ℕ) → In x rows → list_any (is_read k.passes k.rows x) more ≡ false) → ReadsNone rows k l
  none_more k l more looks since passes as_many copies none = record {
    looked = (more, sym looks);
    same_pin = since;
    copies = copies;
    none = λ x here read.
        any_still (is_read k.passes k.rows x) k.since k.looks more (none x here)
        (ap (λ n. list_any (is_read n k.rows x) (drop k.since (k.looks ++ more))) (sym passes)
        ∙ ap (λ n. list_any (is_read l.passes n x) (drop k.since (k.looks ++ more))) (sym as_many)
        ∙ ap (λ n. list_any (is_read l.passes l.rows x) (drop n (k.looks ++ more))) (sym since)
        ∙ ap (λ looks. list_any (is_read l.passes l.rows x) (drop l.since looks)) (sym looks)
        ∙ read);
  }

  -- none were, and all else that counts is the same
  none_same : (k l : Known) → Builds k l → l.looks ≡ k.looks → ReadsNone rows k l
  none_same k l builds looks =
      none_more k l [] (looks ∙ sym (append-nil k.looks)) builds.since builds.passes builds.rows (subst (IsPrefix k.copies) (sym builds.copies) ([], append-nil k.copies)) (λ x here. refl)

  pub none_here : (k : Known) → ReadsNone rows k k
  none_here k = none_more k k [] (sym (append-nil k.looks)) refl refl refl ([], append-nil k.copies) (λ x here. refl)

  -- the version was left
  pub none_left : (k l : Known) → l ≡ leaving k → ReadsNone rows k l
  none_left k l left = subst (ReadsNone rows k) (sym left) (none_more k (leaving k) [] (sym (append-nil k.looks)) refl refl refl ([], append-nil k.copies) (λ x here. refl))

  -- the reservations were looked at
  pub none_tidied : (k l : Known) → Tidies k l → ReadsNone rows k l
  none_tidied k l tidied =
      subst (ReadsNone rows k) (sym tidied.now)
      (none_more k _ (looks_of k.passes k.rows 0 tidied.words) refl refl refl refl ([], append-nil k.copies)
      (λ x here. low_scan k.passes k.rows x 0 tidied.words (let all = tidied.all in omega (arith, all))))

  -- words of fresh rows were read, of which these are none
  none_fresh : (k l : Known) → ((x : ℕ) → In x k.core.fresh → times x rows ≡ 0) → HasRead k l → ReadsNone rows k l
  none_fresh k l apart read =
      subst (ReadsNone rows k) (sym read.now)
      (none_more k _ read.more refl refl refl refl ([], append-nil k.copies)
      (λ x here.
      any_none (is_read k.passes k.rows x) read.more
      (λ i look there.
      let is = read.only i look there in
      else_place k.passes k.rows x is.0 is.1 look.0 look.1 is.3 is.4
      (λ e. let out = apart is.0 is.2 in let same : times x rows ≡ times is.0 rows = ap (λ y. times y rows) e in omega (arith, out, same, here)))))

  -- the root was found
  none_root : (k l : Known) (w : ℕ) → l.looks ≡ k.looks ++ (0, w) ∷ [] → l.since ≡ k.since → l.passes ≡ k.passes → l.rows ≡ k.rows → IsPrefix k.copies l.copies → ReadsNone rows k l
  none_root k l w looks since passes as_many copies =
      none_more k l ((0, w) ∷ []) looks since passes as_many copies (λ x here. or_from _ _ (low_place k.passes k.rows x 0 w (omega arith)) refl)

  pub none_published : (n root q : ℕ) (e : Entry) (before after : Knows Entry) (answer : Result ℕ PublishRefusal) → ((x : ℕ) → In x before.view.core.fresh → times x rows ≡ 0)
      → Closes n root q e before after answer → ReadsNone rows before.view after.view
  none_published n root q e before after (Ok v) apart done =
      let mid = done.2.0 in
      none_both before.view mid after.view (none_fresh before.view mid apart done.2.1)
      (subst (λ (k : Knows Entry). ReadsNone rows mid k.view) (sym done.2.2.now) (none_root mid _ (root_word n root) refl refl refl refl (copy_known mid q ∷ [], refl)))
  none_published n root q e before after (Err (Beaten v)) apart done =
      let mid = done.1.2.0 in
      none_both before.view mid after.view (none_fresh before.view mid apart done.1.2.1)
      (subst (ReadsNone rows mid) (sym done.1.2.2.view_is) (none_root mid _ done.1.0 refl refl refl refl done.1.2.2.learns.copies_more))
  none_published n root q e before after (Err Spent) apart done = subst (λ (k : Knows Entry). ReadsNone rows before.view k.view) (sym done.1) (none_here before.view)

  -- after that the version was left, and rows were given back before, or freed later
  pub none_refused : (k l m o : Known) → ReadsNone rows k l → Builds l m → m.looks ≡ l.looks → o ≡ leaving m → ReadsNone rows k o
  none_refused k l m o done builds looks left = none_both k m o (none_both k l m done (none_same l m builds looks)) (none_left m o left)

  pub none_ended : (k l m o : Known) → ReadsNone rows k l → m ≡ leaving l → ReadsNone rows m o → ReadsNone rows k o
  none_ended k l m o done left freed = none_both k m o (none_both k l m done (none_left l m left)) freed

-- ---- a call from its pin on

-- The pass has pinned a version, then found words of these rows of it, and then of none
module _ (objectives n : ℕ) (rows : Nodes → List ℕ) (p k l m : Known) (t : Nodes) (pinned : HasPinned n p k) (unread : IsUnread n k) (is_tree : IsTreeOf objectives (pinned_copy k) t) where
  pub reads_built : Builds k l → ReadsOnly (rows t) k l → ReadsNone (pinned_copy l).rows l m → ReadsOf objectives rows p m
  reads_built builds only rest = record {
    version = n;
    pinned = pin_stays n p k m pinned (begins_twice k.looks l.looks m.looks builds.looked rest.looked) (rest.same_pin ∙ builds.since);
    copy = pinned_copy k;
    known = prefix_at l.copies m.copies n (pinned_copy k) rest.copies (ap (λ copies. get_elem? copies n) builds.copies ∙ unread.known);
    tree = t;
    is_tree = is_tree;
    only = λ x here read. ⊎_elim (λ was. absurd (unread.none x was)) (λ mine. mine) (only x here (rest.none x (subst (λ (c : Copy). In x c.rows) (sym (same_copy k l builds)) here) read));
  }

  pub reads_asked : k.since ≤ length k.looks → ReadsIn (rows t) k l → m ≡ leaving l → ReadsOf objectives rows p m
  reads_asked begun reads left =
      reads_built
      (subst (Builds k) (sym reads.now) (record { number = refl; pinned = refl; copies = refl; shape = refl; rows = refl; passes = refl; since = refl; looked = (reads.more, refl) }))
      (only_reads (rows t) k l begun reads) (none_left (pinned_copy l).rows l m left)
