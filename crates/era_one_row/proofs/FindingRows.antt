-- What a search for a row leaves, by its answer.
use Rattle.std.proofs.Common.{◌≡◌, ℕ, ◌+◌, ◌<◌, ◌≤◌, ⊎_elim, inl, inr, Option, Some, None, List, [], ◌∷◌, ◌++◌, length, sym, ap, subst, ◌∙◌, arith, append-nil, append_assoc, length-append}
use Rattle.era_core.specs.Lists.{times, In}
use Rattle.era_core.specs.Words.{owner_at}
use Rattle.era_core.specs.Views.{Batch, versions_of}
use Rattle.era_core.proofs.ListFacts.{at_within}
use Rattle.era_rows.specs.Known.{Known, Look, pinned_copy, taking_row, recording, shortage, leaving}
use Rattle.era_rows.specs.Held.{IsAlone}
use Rattle.era_rows.specs.Lists.{IsPrefix}
use Rattle.era_rows.specs.Passes.{having_looked, looks_of, least_of, blocked, Takes, FindsTaken, Searches, SearchesOrFull, Tidies}
use Rattle.era_rows.specs.Plays.{IsUnused}
use Rattle.era_rows.specs.Evidence.{ShowsFull}
use Rattle.era_rows.proofs.Evidence.{AreOlder, InCall, blocked-some, shows_full, shows_still, finds_alone}
use Rattle.era_rows.proofs.Logs.{prefix_more}
use Rattle.era_one_row.specs.Ready.{GoesOn, HasPinned}
use Rattle.era_one_row.specs.Finding.{FindsRow, MayTidy, TidiesLast, TakesAtMost}
use Rattle.era_one_row.proofs.GoingOn.{begins_twice, goes_twice, goes_as}
use Rattle.era_one_row.proofs.Counting.{takes_of, takes_twice, takes_as, takes-tidied, takes-looked, takes-took}

-- a pass that looked for a row and may have tidied: its batches, its scan and its looks are these now
abbrev pub searched : List Batch → ℕ → Option ℕ → List Look → Known → Known
searched retired scanned least looks k = record k { core = record k.core { retired = retired; scanned = scanned; least = least }; looks = looks }

-- the pass has taken row r, which it did not have
pub record TookRow (r : ℕ) (before after : Known) : Type 0 where
  pub retired : List Batch
  pub scanned : ℕ
  pub least : Option ℕ
  pub looks : List Look
  pub now : after ≡ taking_row r (searched retired scanned least looks before)
  pub unread : times r (pinned_copy before).rows ≡ 0

-- the pass has found no row, and has fewer batches at most
pub record FoundNone (before after : Known) : Type 0 where
  pub retired : List Batch
  pub scanned : ℕ
  pub least : Option ℕ
  pub looks : List Look
  pub now : after ≡ recording shortage (searched retired scanned least looks before)
  pub some_of : (b : ℕ) → In b (versions_of retired) → In b (versions_of before.core.retired)

-- after looks and a tidy
tidied_is : (before k l : Known) (more : List Look) → k ≡ having_looked more before → (tidied : Tidies k l)
    → l ≡ searched (blocked (least_of tidied.words) before.core.retired) before.passes (least_of tidied.words) ((before.looks ++ more) ++ looks_of before.passes before.rows 0 tidied.words) before
tidied_is before k l more first tidied =
    tidied.now
    ∙ ap (λ (x : Known). searched (blocked (least_of tidied.words) x.core.retired) x.passes (least_of tidied.words) (x.looks ++ looks_of x.passes x.rows 0 tidied.words) x) first

pub took_row : (rows r : ℕ) (before after : Known) → FindsRow rows before after (Some r) → TookRow r before after
took_row rows r before after found =
    ⊎_elim
    (λ at_first. record {
      retired = before.core.retired;
      scanned = before.core.scanned;
      least = before.core.least;
      looks = before.looks ++ at_first.3.0;
      now = at_first.3.1;
      unread = at_first.2.not_pinned;
    })
    (λ later.
    let l_is = tidied_is before later.0 later.1 later.2.0 later.2.1 later.3 in
    let takes = later.4 in
    let l = later.1 in record {
      retired = blocked (least_of later.3.words) before.core.retired;
      scanned = before.passes;
      least = least_of later.3.words;
      looks = ((before.looks ++ later.2.0) ++ looks_of before.passes before.rows 0 later.3.words) ++ takes.3.0;
      now = takes.3.1 ∙ ap (λ x. taking_row r (having_looked takes.3.0 x)) l_is;
      unread = (subst (IsUnused r) l_is takes.2).not_pinned;
    })
    found

pub found_none : (rows : ℕ) (before after : Known) → FindsRow rows before after None → FoundNone before after
found_none rows before after found =
    let l_is = tidied_is before found.0 found.1 found.2.0 found.2.1 found.3 in
    let full = found.4 in record {
      retired = blocked (least_of found.3.words) before.core.retired;
      scanned = before.passes;
      least = least_of found.3.words;
      looks = ((before.looks ++ found.2.0) ++ looks_of before.passes before.rows 0 found.3.words) ++ full.1.0;
      now = full.2 ∙ ap (recording shortage) (full.1.1 ∙ ap (having_looked full.1.0) l_is);
      some_of = λ b here. blocked-some (least_of found.3.words) before.core.retired b here;
    }

-- a search after a tidy, where none was found before it
pub finds_again : (rows : ℕ) (before k l after : Known) (first answer : Option ℕ) → first ≡ None → Searches 0 rows before k first → Tidies k l → SearchesOrFull rows l after answer → FindsRow rows before after answer
finds_again rows before k l after first (Some r) none searched tidied takes = inr (k, l, subst (Searches 0 rows before k) none searched, tidied, takes)
finds_again rows before k l after first None none searched tidied full = (k, l, subst (Searches 0 rows before k) none searched, tidied, full)

-- looks go on, and so does a take
looked_goes : (more : List Look) (k l : Known) → l ≡ having_looked more k → GoesOn k l
looked_goes more k l now = record {
  looked = (more, sym (ap (λ (x : Known). x.looks) now));
  kept = ([], append-nil k.core.retired ∙ sym (ap (λ (x : Known). x.core.retired) now));
}

take_goes : (from to r : ℕ) (k l : Known) → Takes from to r k l → GoesOn k l
take_goes from to r k l takes = record {
  looked = (takes.3.0 ++ (owner_at k.passes k.rows r, 0) ∷ [], sym (ap (λ (x : Known). x.looks) takes.3.1 ∙ append_assoc k.looks takes.3.0 ((owner_at k.passes k.rows r, 0) ∷ [])));
  kept = ([], append-nil k.core.retired ∙ sym (ap (λ (x : Known). x.core.retired) takes.3.1));
}

pub finds_goes : (rows : ℕ) (before after : Known) (answer : Option ℕ) → FindsRow rows before after answer → MayTidy before after
finds_goes rows before after (Some r) found =
    ⊎_elim
    (λ at_first. inl (take_goes 0 rows r before after at_first))
    (λ later. inr (later.0, later.1, looked_goes later.2.0 before later.0 later.2.1, later.3, take_goes 0 rows r later.1 after later.4))
    found
finds_goes rows before after None found =
    inr (found.0, found.1, looked_goes found.2.0 before found.0 found.2.1, found.3, goes_as found.1 found.4.0 after (looked_goes found.4.1.0 found.1 found.4.0 found.4.1.1) (ap (λ (x : Known). x.looks) found.4.2) (ap (λ (x : Known). x.core.retired) found.4.2))

-- calls in turn of which one may tidy
pub may_then : (k l m : Known) → MayTidy k l → GoesOn l m → MayTidy k m
may_then k l m may on = ⊎_elim (λ goes. inl (goes_twice k l m goes on)) (λ tidied. inr (tidied.0, tidied.1, tidied.2, tidied.3, goes_twice tidied.1 l m tidied.4 on)) may

pub may_as : (k l m : Known) → MayTidy k l → m.looks ≡ l.looks → m.core.retired ≡ l.core.retired → MayTidy k m
may_as k l m may looks retired = may_then k l m may (goes_as l l m (looked_goes [] l l (ap (λ xs. record l { looks = xs }) (sym (append-nil l.looks)))) looks retired)

pub then_may : (k l m : Known) → GoesOn k l → MayTidy l m → MayTidy k m
then_may k l m on may = ⊎_elim (λ goes. inl (goes_twice k l m on goes)) (λ tidied. inr (tidied.0, tidied.1, goes_twice k l tidied.0 on tidied.2, tidied.3, tidied.4)) may

pub may_looked : (k l : Known) → MayTidy k l → IsPrefix k.looks l.looks
may_looked k l may =
    ⊎_elim
    (λ goes. goes.looked)
    (λ tidied.
    let m = tidied.0 in
    let n = tidied.1 in
    begins_twice k.looks n.looks l.looks (begins_twice k.looks m.looks n.looks tidied.2.looked (looks_of m.passes m.rows 0 tidied.3.words, sym (ap (λ (x : Known). x.looks) tidied.3.now))) tidied.4.looked)
    may

-- a search takes one row at most
module _ (passes rows : ℕ) (before after : Known) (passes_are : before.passes ≡ passes) (rows_are : before.rows ≡ rows) where
  -- where it tidied first
  takes-later : (most : ℕ) (k l : Known) → FindsTaken 0 rows before k → Tidies k l → IsPrefix l.looks after.looks → TakesAtMost passes rows most l after → TakesAtMost passes rows (0 + 0 + most) before after
  takes-later most k l found tidied on takes =
      let same : k.passes ≡ passes = ap (λ (x : Known). x.passes) found.1 ∙ passes_are in
      let as_many : k.rows ≡ rows = ap (λ (x : Known). x.rows) found.1 ∙ rows_are in
      let first = (looked_goes found.0 before k found.1).looked in
      let scan : IsPrefix k.looks l.looks = (looks_of k.passes k.rows 0 tidied.words, sym (ap (λ (x : Known). x.looks) tidied.now)) in
      takes_twice passes rows (0 + 0) most before l after (begins_twice before.looks k.looks l.looks first scan) on
      (takes_twice passes rows 0 0 before k l first scan (takes-looked passes rows 0 rows before k passes_are rows_are (omega arith) found) (takes-tidied passes rows k l same as_many tidied))
      takes

  passes_later : (k l : Known) → FindsTaken 0 rows before k → Tidies k l → (l.passes ≡ passes) × (l.rows ≡ rows)
  passes_later k l found tidied =
      (ap (λ (x : Known). x.passes) tidied.now ∙ ap (λ (x : Known). x.passes) found.1 ∙ passes_are, ap (λ (x : Known). x.rows) tidied.now ∙ ap (λ (x : Known). x.rows) found.1 ∙ rows_are)

  pub finds_takes : (answer : Option ℕ) → FindsRow rows before after answer → TakesAtMost passes rows 1 before after
  finds_takes (Some r) found =
      ⊎_elim
      (λ at_first. takes-took passes rows 0 rows r before after passes_are rows_are (omega arith) at_first)
      (λ later.
      let same = passes_later later.0 later.1 later.2 later.3 in
      takes-later 1 later.0 later.1 later.2 later.3 (take_goes 0 rows r later.1 after later.4).looked (takes-took passes rows 0 rows r later.1 after same.0 same.1 (omega arith) later.4))
      found
  finds_takes None found =
      let same = passes_later found.0 found.1 found.2 found.3 in
      let full = found.4 in
      let last = takes-looked passes rows 0 rows found.1 full.0 same.0 same.1 (omega arith) full.1 in
      let looks : after.looks ≡ full.0.looks = ap (λ (x : Known). x.looks) full.2 in
      let on = looked_goes full.1.0 found.1 full.0 full.1.1 in
      let none = takes-later 0 found.0 found.1 found.2 found.3 (subst (IsPrefix found.1.looks) (sym looks) on.looked) (takes_as passes rows 0 found.1 full.0 after last looks) in
      at_most_one none
    where
      at_most_one : TakesAtMost passes rows 0 before after → TakesAtMost passes rows 1 before after
      at_most_one none n = let few = none n in omega arith

-- the place of the last pin is one of this call also after looks at owners
still_in_call : (n : ℕ) (more : List Look) (begun opened : Known) → HasPinned n begun opened → GoesOn begun opened → InCall begun (having_looked more opened)
still_in_call n more begun opened pinned on = record {
  looked = prefix_more begun.looks opened.looks more on.looked;
  in_call = (let first = pinned.first in omega arith);
  found = (let inside = at_within opened.looks opened.since (0, pinned.word) pinned.found in let longer = length-append opened.looks more in omega arith);
}

-- a search that found none shows that no row is free, and a pass that is alone finds one
pub shown_full : (n rows most number : ℕ) (begun opened after : Known) → opened.rows ≡ rows → HasPinned n begun opened → GoesOn begun opened → opened.core.number ≡ Some number → AreOlder opened
    → FindsRow rows opened after None → length opened.core.fresh ≤ most → ShowsFull opened.passes opened.rows most begun after
shown_full n rows most number begun opened after rows_are pinned on mine older found few =
    let k = having_looked found.2.0 opened in
    let tidied : Tidies k found.1 = subst (λ x. Tidies x found.1) found.2.1 found.3 in
    shows_full most number begun k found.1 after (still_in_call n found.2.0 begun opened pinned on) mine older tidied (subst (λ r. SearchesOrFull r found.1 after None) (sym rows_are) found.4) few

pub found_alone : (rows number : ℕ) (opened after : Known) → opened.rows ≡ rows → opened.core.number ≡ Some number → AreOlder opened → IsAlone opened
    → length opened.core.fresh + length (pinned_copy opened).rows < rows → FindsRow rows opened after None → ⊥
found_alone rows number opened after rows_are mine older alone fewer found =
    let k = having_looked found.2.0 opened in
    let tidied : Tidies k found.1 = subst (λ x. Tidies x found.1) found.2.1 found.3 in
    finds_alone number k found.1 after mine older alone tidied (subst (λ r. SearchesOrFull r found.1 after None) (sym rows_are) found.4) (omega (arith, rows_are))

-- the pass still shows it after it left its version and tidied
pub shows_left : (passes rows most : ℕ) (begun k u l : Known) → ShowsFull passes rows most begun k → u ≡ leaving k → Tidies u l → ShowsFull passes rows most begun l
shows_left passes rows most begun k u l shows left tidied =
    shows_still passes rows most begun k l (looks_of u.passes u.rows 0 tidied.words) shows
    (ap (λ (x : Known). x.full) tidied.now ∙ ap (λ (x : Known). x.full) left)
    (ap (λ (x : Known). x.core.number) tidied.now ∙ ap (λ (x : Known). x.core.number) left)
    (ap (λ (x : Known). x.looks) tidied.now ∙ ap (λ (x : Known). x.looks ++ looks_of u.passes u.rows 0 tidied.words) left)
    (λ b here. subst (λ (x : Known). In b (versions_of x.core.retired)) left (blocked-some (least_of tidied.words) u.core.retired b (subst (λ (x : Known). In b (versions_of x.core.retired)) tidied.now here)))
    (ap (λ (x : Known). x.core.fresh) tidied.now ∙ ap (λ (x : Known). x.core.fresh) left)

-- the parts of a replacement in turn
pub tidies_last : (begun opened ready ended after : Known) → GoesOn begun opened → MayTidy opened ready → GoesOn ready ended → Tidies ended after → TidiesLast begun after
tidies_last begun opened ready ended after first may last tidied = (ended, then_may begun opened ended first (may_then opened ready ended may last), tidied)

pub replacing_takes : (passes rows : ℕ) (begun opened ready ended after : Known) → GoesOn begun opened → MayTidy opened ready → GoesOn ready ended → ended.passes ≡ passes → ended.rows ≡ rows → Tidies ended after
    → TakesAtMost passes rows 0 begun opened → TakesAtMost passes rows 1 opened ready → TakesAtMost passes rows 0 ready ended → TakesAtMost passes rows 1 begun after
replacing_takes passes rows begun opened ready ended after first may last passes_are rows_are tidied none one no_more =
    let to_ready = begins_twice begun.looks opened.looks ready.looks first.looked (may_looked opened ready may) in
    let to_ended = begins_twice begun.looks ready.looks ended.looks to_ready last.looked in
    let scan : IsPrefix ended.looks after.looks = (looks_of ended.passes ended.rows 0 tidied.words, sym (ap (λ (x : Known). x.looks) tidied.now)) in
    takes_twice passes rows 1 0 begun ended after to_ended scan
    (takes_twice passes rows 1 0 begun ready ended to_ready last.looked (takes_twice passes rows 0 1 begun opened ready first.looked (may_looked opened ready may) none one) no_more)
    (takes-tidied passes rows ended after passes_are rows_are tidied)

-- a replacement that found no row left its version, and tidied
pub left_tidies_last : (begun opened ready left after : Known) → GoesOn begun opened → MayTidy opened ready → left ≡ leaving ready → Tidies left after → TidiesLast begun after
left_tidies_last begun opened ready left after first may now tidied =
    (left, then_may begun opened left first (may_as opened ready left may (ap (λ (x : Known). x.looks) now) (ap (λ (x : Known). x.core.retired) now)), tidied)

pub left_takes : (passes rows : ℕ) (begun opened ready left after : Known) → GoesOn begun opened → MayTidy opened ready → left ≡ leaving ready → left.passes ≡ passes → left.rows ≡ rows → Tidies left after
    → TakesAtMost passes rows 0 begun opened → TakesAtMost passes rows 1 opened ready → TakesAtMost passes rows 1 begun after
left_takes passes rows begun opened ready left after first may now passes_are rows_are tidied none one =
    let looks : left.looks ≡ ready.looks = ap (λ (x : Known). x.looks) now in
    let on = looked_goes [] left left (ap (λ xs. record left { looks = xs }) (sym (append-nil left.looks))) in
    replacing_takes passes rows begun opened left left after first (may_as opened ready left may looks (ap (λ (x : Known). x.core.retired) now)) on passes_are rows_are tidied none
    (takes_as passes rows 1 opened ready left one looks)
    (takes_of passes rows 0 left left [] (sym (append-nil left.looks)) (omega arith))
