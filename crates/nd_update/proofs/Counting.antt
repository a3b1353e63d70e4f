-- What a pass has found from its pin on, step by step: few rows are taken, and none of the pinned tree.
use Rattle.std.proofs.Common.{◌≡◌, ◌≢◌, ℕ, zero, suc, ◌+◌, ◌<◌, ◌≤◌, ⊎_elim, Bool, true, false, cond, eqb, ne_eqb, Option, Some, None, List, [], ◌∷◌, ◌++◌, drop, length, refl, sym, ap, subst, ◌∙◌, arith, append-nil, append_assoc, length-append}
use Rattle.std.specs.Prelude.{◌||◌, count_by, unwrap_or}
use Rattle.std.specs.List.{list_any}
use Rattle.std.proofs.Math.Seq.{drop-append_seam}
use Rattle.std.proofs.lemmas.Bool.{and_left, and_right, cases_eq, cases_lt, true≢false}
use Rattle.std.proofs.lemmas.List.{take_all, drop-append-le, length_push}
use Rattle.std.proofs.lemmas.List.Sums.{sum_by-cons, count_by-le-length}
use Rattle.std.proofs.lemmas.List.Folds.{list_any-append}
use Rattle.std.proofs.lemmas.Option.{same_Some}
use Rattle.era_core.specs.Lists.{times, In, without}
use Rattle.era_core.specs.Views.{Batch, versions_of}
use Rattle.era_core.specs.Versions.{Cell, Copy}
use Rattle.era_core.specs.Words.{root_word, reservation_at, owner_at, cell_at}
use Rattle.era_core.proofs.ListFacts.{times-append, times-head, times-tail, in_cases, in_head}
use Rattle.era_core.proofs.BatchFacts.{times-without_gone}
use Rattle.era_core.proofs.Room.{length_without, times-without_le}
use Rattle.era_rows.specs.Known.{Known, Look, Shortage, pinned_copy, first_known, writing}
use Rattle.era_rows.specs.Passes.{OnlyTaken, FindsTaken, Takes, Tidies, looks_of, least_of, having_looked, PinsVersion}
use Rattle.era_rows.specs.FreshRows.{is_read, takes_in, rows_read, TakesWithin}
use Rattle.era_rows.specs.Evidence.{IsEvidence}
use Rattle.era_rows.specs.declared.views.Knows.{Knows}
use Rattle.era_rows.proofs.CountingLooks.{counts_looks, within_all, takes_all, takes-append, takes-read, takes-root, read_more}
use Rattle.era_rows.proofs.Evidence.{InCall, blocked-some, shows_full}
use Rattle.era_one_row.specs.Finding.{FindsRow}
use Rattle.era_one_row.proofs.FindingRows.{took_row, found_none, found_alone, finds_goes, finds_takes, may_looked}
use Rattle.pls_archive.specs.declared.call.Entry.{Entry}
use Rattle.nd_rows.specs.Reads.{ReadsIn}
use Rattle.nd_update.specs.Counted.{looks_since, takes_row, IsWithin, IsCrowded, IsCounted, IsPaid, IsShortage, IsShort}
use Rattle.nd_update.proofs.Paying.{since_more}
use mathlib.Core.Option.{some}
use lib.ListN.{get_elem?}

-- ---- looks that a test does not meet

any_none : (f : Look → Bool) (looks : List Look) → ((i : ℕ) (l : Look) → get_elem? looks i ≡ some l → f l ≡ false) → list_any f looks ≡ false
any_none f [] none = refl
any_none f (l ∷ looks) none = ap (λ b. b || list_any f looks) (none 0 l refl) ∙ any_none f looks (λ i m there. none (suc i) m there)

module _ (passes rows : ℕ) (f : Look → Bool) where
  -- none of the looks after these meets the test
  abbrev pub Avoids : List Look → List Look → Type 0
  Avoids before after = (more : List Look) × (before ++ more ≡ after) × (list_any f more ≡ false)

  avoids_both : (a b c : List Look) → Avoids a b → Avoids b c → Avoids a c
  avoids_both a b c one two = (
    one.0 ++ two.0,
    sym (append_assoc a one.0 two.0) ∙ ap (λ looks. looks ++ two.0) one.1 ∙ two.1,
    list_any-append f one.0 two.0 ∙ ap (λ t. t || list_any f two.0) one.2 ∙ two.2,
  )

  -- a scan and a search, where neither a reservation nor an owner that was found meets it
  module _ (no_reservation : (i w j : ℕ) → j < passes → i ≡ reservation_at passes rows j → f (i, w) ≡ false) (no_owned : (i w r : ℕ) → r < rows → i ≡ owner_at passes rows r → 0 < w → f (i, w) ≡ false) where
    avoids_scan : (p n j : ℕ) (words : List ℕ) → j + length words ≤ passes → list_any f (looks_of p n j words) ≡ false
    avoids_scan p n j [] inside = refl
    avoids_scan p n j (w ∷ words) inside =
        ap (λ t. t || list_any f (looks_of p n (j + 1) words)) (no_reservation (reservation_at p n j) w j (omega (arith, inside)) refl) ∙ avoids_scan p n (j + 1) words (omega arith)

    avoids_owned : (p to : ℕ) (looks : List Look) → p ≡ passes → to ≤ rows → (n : ℕ) → OnlyTaken p n 0 to looks → list_any f looks ≡ false
    avoids_owned p to looks passes_are inside n only =
        any_none f looks (λ i l there. let was = only i l there in no_owned l.0 l.1 was.0 (let low = was.2 in omega (arith, low, inside)) (let at = was.4 in omega (arith, at, passes_are)) was.3)

    avoids_looked : (to : ℕ) (k l : Known) → k.passes ≡ passes → to ≤ rows → FindsTaken 0 to k l → Avoids k.looks l.looks
    avoids_looked to k l passes_are inside found = (found.0, sym (ap (λ (z : Known). z.looks) found.1), avoids_owned k.passes to found.0 passes_are inside k.rows found.3)

    avoids_tidied : (k l : Known) → k.passes ≡ passes → Tidies k l → Avoids k.looks l.looks
    avoids_tidied k l passes_are tidied = (
      looks_of k.passes k.rows 0 tidied.words,
      sym (ap (λ (z : Known). z.looks) tidied.now),
      avoids_scan k.passes k.rows 0 tidied.words (let all = tidied.all in omega (arith, all, passes_are)),
    )

    -- a search and a tidy, and then what follows
    avoids_later : (k l m after : Known) (to : ℕ) → k.passes ≡ passes → to ≤ rows → FindsTaken 0 to k l → Tidies l m → Avoids m.looks after.looks → Avoids k.looks after.looks
    avoids_later k l m after to passes_are inside found tidied then_on =
        avoids_both k.looks m.looks after.looks
        (avoids_both k.looks l.looks m.looks (avoids_looked to k l passes_are inside found) (avoids_tidied l m (ap (λ (z : Known). z.passes) found.1 ∙ passes_are) tidied))
        then_on

    pub avoids_none : (to : ℕ) (k l : Known) → k.passes ≡ passes → to ≤ rows → FindsRow to k l None → Avoids k.looks l.looks
    avoids_none to k l passes_are inside found =
        avoids_later k found.0 found.1 l to passes_are inside found.2 found.3
        (subst (Avoids found.1.looks) (sym (ap (λ (z : Known). z.looks) found.4.2))
        (avoids_looked to found.1 found.4.0 (ap (λ (z : Known). z.passes) found.3.now ∙ ap (λ (z : Known). z.passes) found.2.1 ∙ passes_are) inside found.4.1))

    -- nor does the owner of the row that was taken
    module _ (r : ℕ) (not_taken : (i : ℕ) → i ≡ owner_at passes rows r → f (i, 0) ≡ false) where
      avoids_took : (to : ℕ) (k l : Known) → k.passes ≡ passes → to ≤ rows → Takes 0 to r k l → Avoids k.looks l.looks
      avoids_took to k l passes_are inside takes =
          avoids_both k.looks (k.looks ++ takes.3.0) l.looks
          (takes.3.0, refl, avoids_owned k.passes to takes.3.0 passes_are inside k.rows takes.3.2) (
            (owner_at k.passes k.rows r, 0) ∷ [],
            sym (ap (λ (z : Known). z.looks) takes.3.1),
            ap (λ t. t || false) (not_taken (owner_at k.passes k.rows r) (omega (arith, passes_are))),
          )

      pub avoids_found : (to : ℕ) (k l : Known) → k.passes ≡ passes → to ≤ rows → FindsRow to k l (Some r) → Avoids k.looks l.looks
      avoids_found to k l passes_are inside found =
          ⊎_elim
          (λ at_first. avoids_took to k l passes_are inside at_first)
          (λ later.
          avoids_later k later.0 later.1 l to passes_are inside later.2 later.3
          (avoids_took to later.1 l (ap (λ (z : Known). z.passes) later.3.now ∙ ap (λ (z : Known). z.passes) later.2.1 ∙ passes_are) inside later.4))
          found

-- a row that was found is one of so many
pub found_low : (rows r : ℕ) (k l : Known) → FindsRow rows k l (Some r) → r < rows
found_low rows r k l found = ⊎_elim (λ at_first. at_first.1) (λ later. later.4.1) found

-- ---- looks that take no row x

module _ (passes rows x : ℕ) where
  else_taken : (i w : ℕ) → i ≢ owner_at passes rows x → takes_row passes rows x (i, w) ≡ false
  else_taken i w apart = and_left _ (eqb w 0) (ne_eqb i (owner_at passes rows x) apart)

  scan_takes : (i w j : ℕ) → j < passes → i ≡ reservation_at passes rows j → takes_row passes rows x (i, w) ≡ false
  scan_takes i w j low at = else_taken i w (λ e. omega (arith, e, low, at))

  owned_takes : (i w r : ℕ) → r < rows → i ≡ owner_at passes rows r → 0 < w → takes_row passes rows x (i, w) ≡ false
  owned_takes i w r low at some_owner = and_right (eqb i (owner_at passes rows x)) _ (ne_eqb w 0 (λ e. omega arith))

  avoids_cells : x < rows → (looks : List Look) → ((i : ℕ) (l : Look) → get_elem? looks i ≡ some l → (r p : ℕ) × (l.0 ≡ cell_at passes rows r p)) → list_any (takes_row passes rows x) looks ≡ false
  avoids_cells inside looks cells = any_none (takes_row passes rows x) looks (λ i l there. let cell = cells i l there in else_taken l.0 l.1 (λ e. let place = cell.2 in omega (arith, e, place, inside)))

-- the batches after a search are some of those before
found_retired : (rows r : ℕ) (k l : Known) → FindsRow rows k l (Some r) → (b : ℕ) → In b (versions_of l.core.retired) → In b (versions_of k.core.retired)
found_retired rows r k l found b here =
    ⊎_elim
    (λ at_first. subst (λ (z : Known). In b (versions_of z.core.retired)) at_first.3.1 here)
    (λ later.
    let before : In b (versions_of later.1.core.retired) = subst (λ (z : Known). In b (versions_of z.core.retired)) later.4.3.1 here in
    subst (λ (z : Known). In b (versions_of z.core.retired)) later.2.1
    (blocked-some (least_of later.3.words) later.0.core.retired b (subst (λ (z : Known). In b (versions_of z.core.retired)) later.3.now before)))
    found

-- ---- different rows of a tree that were read are no more than those of it

few_by : (b : Bool) (n : ℕ) → (0 < n → b ≡ true) → n ≤ 1 → n ≤ cond b 1 0
few_by true n is one = one
few_by false zero is one = omega arith
few_by false (suc n) is one = absurd (true≢false (sym (is (omega arith))))

count_among : (f : ℕ → Bool) (tree xs : List ℕ) → ((x : ℕ) → times x xs ≤ 1) → ((x : ℕ) → In x xs → In x tree) → ((x : ℕ) → In x xs → f x ≡ true) → length xs ≤ count_by f tree
count_among f [] [] once inside each = omega arith
count_among f [] (x ∷ xs) once inside each = absurd (let none = inside x (in_head x xs) in omega (arith, none))
count_among f (t ∷ tree) xs once inside each =
    let left = without (t ∷ []) xs in
    let rest = count_among f tree left
    (λ x. (let some_times = times-without_le x t xs in let one = once x in omega (arith, some_times, one)))
    (λ x here.
    ⊎_elim
    (λ e. absurd (let gone = times-without_gone t (t ∷ []) xs (in_head t []) in let same : times x left ≡ times t left = ap (λ y. times y left) e in omega (arith, gone, same, here)))
    (λ there. there)
    (in_cases x t tree (inside x (let some_times = times-without_le x t xs in omega (arith, some_times, here)))))
    (λ x here. each x (let some_times = times-without_le x t xs in omega (arith, some_times, here))) in
    let parts = length_without t xs in
    let first = few_by (f t) (times t xs) (each t) (once t) in
    let sum = sum_by-cons (λ y. cond (f y) 1 0) t tree in
    omega (arith, rest, parts, first, sum)

-- ---- steps of a pass

-- a pass that has other rows, batches and words than before, and has found these looks in all
abbrev moved : List ℕ → List Batch → ℕ → Option ℕ → Option ℕ → List Cell → List Look → Option Shortage → Known → Known
moved fresh retired scanned least last written looks full k =
    record k { core = record k.core { fresh = fresh; retired = retired; scanned = scanned; least = least; last = last }; written = written; looks = looks; full = full }

module _ (k : Known) (marked : List ℕ) (counted : IsCounted k marked) where
  whole : takes_in k.passes k.rows (looks_since k) ≤ rows_read k.passes k.rows (pinned_copy k).rows (looks_since k) + (k.shape + 3)
  whole =
      subst (λ looks. takes_in k.passes k.rows looks ≤ rows_read k.passes k.rows (pinned_copy k).rows looks + (k.shape + 3)) (take_all (length (looks_since k)) (looks_since k) (omega arith))
      (counted.within (length (looks_since k)))

  -- marked rows that were read are rows of the tree that were read
  rows_paid : (more : ℕ) (paid : IsPaid more k marked) (tree : List ℕ) → ((x : ℕ) → In x paid.rows → In x tree) → length paid.rows ≤ rows_read k.passes k.rows tree (looks_since k)
  rows_paid more paid tree among =
      count_among (λ x. list_any (is_read k.passes k.rows x) (looks_since k)) tree paid.rows (λ x. (let few = paid.among x in let one = counted.once x in omega (arith, few, one))) among paid.read

  paid_inside : (more : ℕ) (paid : IsPaid more k marked) (x : ℕ) → In x paid.rows → In x (pinned_copy k).rows
  paid_inside more paid x here = counted.inside x (let few = paid.among x in omega (arith, few, here))

  module _ (looks more : List Look) (looked : k.looks ++ more ≡ looks) where
    since_are : drop k.since looks ≡ looks_since k ++ more
    since_are = ap (drop k.since) (sym looked) ∙ drop-append-le k.since k.looks more counted.begun

    within_more : takes_in k.passes k.rows (looks_since k) + takes_in k.passes k.rows more ≤ rows_read k.passes k.rows (pinned_copy k).rows (looks_since k) + (k.shape + 3)
        → TakesWithin k.passes k.rows (pinned_copy k).rows (k.shape + 3) (drop k.since looks)
    within_more few =
        subst (TakesWithin k.passes k.rows (pinned_copy k).rows (k.shape + 3)) (sym since_are)
        ((counts_looks k.passes k.rows).goes_on (pinned_copy k).rows (k.shape + 3) (looks_since k) more counted.within (let both = takes-append k.passes k.rows (looks_since k) more in omega (arith, both, few)))

  untaken_more : (looks : List Look) (x : ℕ) → In x (pinned_copy k).rows → Avoids k.passes k.rows (takes_row k.passes k.rows x) k.looks looks → list_any (takes_row k.passes k.rows x) (drop k.since looks) ≡ false
  untaken_more looks x here avoids =
      ap (list_any (takes_row k.passes k.rows x)) (since_are looks avoids.0 avoids.1)
      ∙ list_any-append (takes_row k.passes k.rows x) (looks_since k) avoids.0
      ∙ ap (λ t. t || list_any (takes_row k.passes k.rows x) avoids.0) (counted.untaken x here)
      ∙ avoids.2

  counted_moved : (fresh : List ℕ) (retired : List Batch) (scanned : ℕ) (least last : Option ℕ) (written : List Cell) (looks : List Look) (full : Option Shortage) (more : List Look) → k.looks ++ more ≡ looks
      → takes_in k.passes k.rows (looks_since k) + takes_in k.passes k.rows more ≤ rows_read k.passes k.rows (pinned_copy k).rows (looks_since k) + (k.shape + 3)
      → takes_in k.passes k.rows (looks_since k) + takes_in k.passes k.rows more ≤ length fresh
      → ((x : ℕ) → In x (pinned_copy k).rows → Avoids k.passes k.rows (takes_row k.passes k.rows x) k.looks looks)
      → ((b : ℕ) → In b (versions_of retired) → b + 1 < k.reserves)
      → IsCounted (moved fresh retired scanned least last written looks full k) marked
  counted_moved fresh retired scanned least last written looks full more looked within few avoids older = record {
    begun = (let long = length-append k.looks more in let same = ap length looked in let begun = counted.begun in omega (arith, long, same, begun));
    within = within_more looks more looked within;
    taken = (let both = takes-append k.passes k.rows (looks_since k) more in let same = ap (takes_in k.passes k.rows) (since_are looks more looked) in omega (arith, both, same, few));
    untaken = λ x here. untaken_more looks x here (avoids x here);
    older = older;
    once = counted.once;
    inside = counted.inside;
  }

  -- words were read
  pub counted_reads : (rows : List ℕ) (l : Known) → ((x : ℕ) → In x (pinned_copy k).rows → x < k.rows) → ReadsIn rows k l → IsCounted l marked
  counted_reads rows l inside reads =
      let cells : (i : ℕ) (look : Look) → get_elem? reads.more i ≡ some look → (r p : ℕ) × (look.0 ≡ cell_at k.passes k.rows r p) = λ i look there. (let is = reads.only i look there in (is.0, is.1, is.4)) in
      let none = takes-read k.passes k.rows reads.more cells in
      let within = whole in
      let taken = counted.taken in
      subst (λ z. IsCounted z marked) (sym reads.now)
      (counted_moved k.core.fresh k.core.retired k.core.scanned k.core.least reads.last k.written (k.looks ++ reads.more) k.full reads.more refl (omega (arith, none, within)) (omega (arith, none, taken))
      (λ x here. (reads.more, refl, avoids_cells k.passes k.rows x (inside x here) reads.more cells))
      counted.older)

  -- a word was written
  pub counted_write : (l : Known) (row place w : ℕ) → l ≡ writing row place w k → IsCounted l marked
  counted_write l row place w now =
      subst (λ z. IsCounted z marked) (sym now)
      (record { begun = counted.begun; within = counted.within; taken = counted.taken; untaken = counted.untaken; older = counted.older; once = counted.once; inside = counted.inside })

  -- a row of the pinned tree was marked
  pub counted_marked : (x : ℕ) → In x (pinned_copy k).rows → times x marked ≡ 0 → IsCounted k (marked ++ x ∷ [])
  counted_marked x here none = record {
    begun = counted.begun;
    within = counted.within;
    taken = counted.taken;
    untaken = counted.untaken;
    older = counted.older;
    once = λ y.
        let both = times-append y marked (x ∷ []) in
        let one = counted.once y in
        ⊎_elim
        (λ e. (let unmarked : times y marked ≡ 0 = ap (λ z. times z marked) e ∙ none in let head : times y (x ∷ []) ≡ 1 = ap (λ z. times z (x ∷ [])) e ∙ times-head x [] in omega (arith, both, unmarked, head)))
        (λ apart. (let stays = times-tail y x [] apart in omega (arith, both, one, stays)))
        (cases_eq y x);
    inside = λ y there.
        let both = times-append y marked (x ∷ []) in
        ⊎_elim
        (λ e. subst (λ z. In z (pinned_copy k).rows) (sym e) here)
        (λ apart. counted.inside y (let stays = times-tail y x [] apart in omega (arith, both, stays, there)))
        (cases_eq y x);
  }

  -- a search for a row, where few are taken
  module _ (paid : IsPaid (k.shape + 2) k marked) (l : Known) where
    few_taken : (answer : Option ℕ) → FindsRow k.rows k l answer → (more : List Look) × (k.looks ++ more ≡ l.looks) × (takes_in k.passes k.rows more ≤ 1)
    few_taken answer found =
        let looked = may_looked k l (finds_goes k.rows k l answer found) in
        let are : drop (length k.looks) l.looks ≡ looked.0 = ap (drop (length k.looks)) (sym looked.1) ∙ drop-append_seam k.looks looked.0 in (
          looked.0,
          looked.1,
          subst (λ looks. takes_in k.passes k.rows looks ≤ 1) are (takes_all k.passes k.rows 1 (drop (length k.looks) l.looks) (finds_takes k.passes k.rows k l refl refl answer found)),
        )

    room_left : (n : ℕ) → n ≤ 1 → takes_in k.passes k.rows (looks_since k) + n ≤ rows_read k.passes k.rows (pinned_copy k).rows (looks_since k) + (k.shape + 3)
    room_left n one =
        let taken = counted.taken in
        let few = paid.few in
        let read = rows_paid (k.shape + 2) paid (pinned_copy k).rows (paid_inside (k.shape + 2) paid) in
        omega (arith, taken, few, read, one)

    pub counted_took : (r : ℕ) → FindsRow k.rows k l (Some r) → IsCounted l marked
    counted_took r found =
        let took = took_row k.rows r k l found in
        let step = few_taken (Some r) found in
        let looks : l.looks ≡ took.looks ++ (owner_at k.passes k.rows r, 0) ∷ [] = ap (λ (z : Known). z.looks) took.now in
        let taken = counted.taken in
        let one = step.2 in
        subst (λ z. IsCounted z marked) (sym took.now)
        (counted_moved (k.core.fresh ++ r ∷ []) took.retired took.scanned took.least k.core.last k.written (took.looks ++ (owner_at k.passes k.rows r, 0) ∷ []) k.full step.0 (step.1 ∙ looks)
        (room_left (takes_in k.passes k.rows step.0) one)
        (let long = length_push k.core.fresh r in omega (arith, long, taken, one))
        (λ x here.
        subst (Avoids k.passes k.rows (takes_row k.passes k.rows x) k.looks) looks
        (avoids_found k.passes k.rows (takes_row k.passes k.rows x) (scan_takes k.passes k.rows x) (owned_takes k.passes k.rows x) r
        (λ i at.
        else_taken k.passes k.rows x i 0 (λ e.
        let x_is : x ≡ r = omega (arith, e, at) in
        let none = took.unread in
        let same : times x (pinned_copy k).rows ≡ times r (pinned_copy k).rows = ap (λ y. times y (pinned_copy k).rows) x_is in omega (arith, none, same, here)))
        k.rows k l refl (omega arith) found))
        (λ b here. counted.older b (found_retired k.rows r k l found b (subst (λ (z : Known). In b (versions_of z.core.retired)) (sym took.now) here))))

    module _ (number : ℕ) (mine : k.core.number ≡ Some number) (found : FindsRow k.rows k l None) where
      -- few rows were taken also where none was found
      pub none_within : IsWithin l
      none_within =
          let full = found_none k.rows k l found in
          let step = few_taken None found in
          subst IsWithin (sym full.now)
          (within_more full.looks step.0 (step.1 ∙ ap (λ (z : Known). z.looks) full.now) (room_left (takes_in k.passes k.rows step.0) step.2))

      pub none_crowded : IsCrowded l
      none_crowded =
          subst IsCrowded (sym (found_none k.rows k l found).now)
          (λ alone.
          ⊎_elim
          (λ less. absurd (found_alone k.rows number k l refl mine counted.older alone less found))
          (λ more.
          let few = paid.few in
          let read = rows_paid (k.shape + 2) paid (pinned_copy k).rows (paid_inside (k.shape + 2) paid) in
          let all = count_by-le-length (λ r. list_any (is_read k.passes k.rows r) (looks_since k)) (pinned_copy k).rows in
          omega (arith, more, few, read, all))
          (cases_lt (length k.core.fresh + length (pinned_copy k).rows) k.rows))

      abbrev kept : Known → Shortage
      kept z = record { looks = looks_since z; versions = versions_of z.core.retired; fresh = length z.core.fresh; number = unwrap_or z.core.number 0 }

      none_kept : l.full ≡ Some (kept l)
      none_kept = subst (λ (z : Known). z.full ≡ Some (kept z)) (sym (found_none k.rows k l found).now) refl

      none_since : (more : List Look) × (looks_since l ≡ looks_since k ++ more)
      none_since =
          let step = few_taken None found in
          (step.0, since_more k l step.0 counted.begun (ap (λ (z : Known). z.since) (found_none k.rows k l found).now) (sym step.1))

      abbrev most : ℕ
      most = rows_read k.passes k.rows paid.rows (looks_since l) + (k.shape + 3)

      none_few : length k.core.fresh ≤ most
      none_few =
          let few = paid.few in
          let read = rows_paid (k.shape + 2) paid paid.rows (λ x here. here) in
          let later = read_more k.passes k.rows paid.rows (looks_since k) none_since.0 in
          let same = ap (rows_read k.passes k.rows paid.rows) none_since.1 in
          omega (arith, few, read, later, same)

      none_evidence : IsEvidence k.passes k.rows most (kept l)
      none_evidence =
          let mid = having_looked found.2.0 k in
          let tidied : Tidies mid found.1 = subst (λ z. Tidies z found.1) found.2.1 found.3 in
          let call : InCall (first_known 0 0 0) mid = record { looked = (mid.looks, refl); in_call = omega arith; found = (let long = length-append k.looks found.2.0 in let begun = counted.begun in omega (arith, long, begun)) } in
          let shows = shows_full most number (first_known 0 0 0) mid found.1 l call mine counted.older tidied found.4 none_few in
          subst (IsEvidence k.passes k.rows most) (same_Some shows.shortage (kept l) (sym shows.recorded ∙ none_kept)) shows.evidence

      none_shortage : IsShortage k.shape k.passes k.rows (kept l)
      none_shortage = record {
        tree = paid.rows;
        once = λ x. (let few = paid.among x in let one = counted.once x in omega (arith, few, one));
        untaken = λ x here.
            let avoids = avoids_none k.passes k.rows (takes_row k.passes k.rows x) (scan_takes k.passes k.rows x) (owned_takes k.passes k.rows x) k.rows k l refl (omega arith) found in
            ap (λ n. list_any (takes_row k.passes k.rows x) (drop n l.looks)) (ap (λ (z : Known). z.since) (found_none k.rows k l found).now)
            ∙ untaken_more l.looks x (paid_inside (k.shape + 2) paid x here) avoids;
        evidence = none_evidence;
      }

      pub none_short : IsShort l
      none_short =
          let step = (found_none k.rows k l found).now in
          let number_is : l.core.number ≡ Some number = ap (λ (z : Known). z.core.number) step ∙ mine in record {
            shortage = kept l;
            recorded = none_kept;
            shows = subst (λ (z : Known). IsShortage z.shape z.passes z.rows (kept l)) (sym step) none_shortage;
            by_pass = number_is ∙ ap Some (sym (ap (λ o. unwrap_or o 0) number_is));
            last = [];
            in_call = sym (append-nil (looks_since l));
            batches = λ b here. here;
          }

-- ---- a pin

module _ (caller stamp : Entry → ℕ) (accepted : ℕ → Entry → Bool) (lawful : ℕ → Copy → Type 0) (stands : ℕ → Copy → List Entry → Type 0) (right : ℕ → Entry → List Entry → Type 0) where
  pub counted_pinned : (n root : ℕ) (before after : Knows Entry) → PinsVersion caller stamp accepted lawful stands right n root before after → before.view.core.fresh ≡ [] → IsCounted after.view []
  counted_pinned n root before after pinned no_fresh =
      let k = before.view in
      let v = after.view in
      let is = pinned.1.view_is in
      let since : looks_since v ≡ (0, root_word n root) ∷ [] = ap looks_since is ∙ drop-append_seam (k.looks ++ (0, pinned.0) ∷ []) ((0, root_word n root) ∷ []) in
      let none : takes_in v.passes v.rows (looks_since v) ≡ 0 = ap (takes_in v.passes v.rows) since ∙ takes-root v.passes v.rows [] (root_word n root) refl in record {
        begun = subst (λ (z : Known). z.since ≤ length z.looks) (sym is) (let long = length-append (k.looks ++ (0, pinned.0) ∷ []) ((0, root_word n root) ∷ []) in omega (arith, long));
        within = within_all v.passes v.rows (pinned_copy v).rows (v.shape + 3) (looks_since v) (omega (arith, none));
        taken = omega (arith, none);
        untaken = λ x here. ap (list_any (takes_row v.passes v.rows x)) since ∙ ap (λ t. t || false) (else_taken v.passes v.rows x 0 (root_word n root) (λ e. omega (arith, e)));
        older = pinned.1.older;
        once = λ x. omega arith;
        inside = λ x here. absurd (let none_of : In x [] = here in omega (arith, none_of));
      }

-- ---- what the evidence of a shortage speaks of

-- it holds still where this is the same, as in a pass that gave its rows back
pub short_same : (k l : Known) → l.full ≡ k.full → l.shape ≡ k.shape → l.passes ≡ k.passes → l.rows ≡ k.rows → l.core.number ≡ k.core.number → l.looks ≡ k.looks → l.since ≡ k.since → l.core.retired ≡ k.core.retired → IsShort k → IsShort l
short_same k l full shape passes rows number looks since retired short = record {
  shortage = short.shortage;
  recorded = full ∙ short.recorded;
  shows =
      subst (λ n. IsShortage n l.passes l.rows short.shortage) (sym shape)
      (subst (λ n. IsShortage k.shape n l.rows short.shortage) (sym passes) (subst (λ n. IsShortage k.shape k.passes n short.shortage) (sym rows) short.shows));
  by_pass = number ∙ short.by_pass;
  last = short.last;
  in_call = ap (λ n. drop n l.looks) since ∙ ap (drop k.since) looks ∙ short.in_call;
  batches = λ b here. short.batches b (subst (λ batches. In b (versions_of batches)) retired here);
}
