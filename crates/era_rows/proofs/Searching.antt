-- A search for a row without an owner, look by look.
use Rattle.std.proofs.Common.{◌≡◌, ℕ, ◌+◌, ◌<◌, ◌≤◌, ⊎_elim, Option, Some, None, List, [], ◌∷◌, ◌++◌, length, refl, sym, ap, subst, ◌∙◌, arith}
use Rattle.std.proofs.lemmas.Bool.{cases_lt}
use Rattle.std.proofs.lemmas.List.{append_assoc}
use Rattle.atomic_table.proofs.Lists.{at_longer, at_last, at_snoc}
use Rattle.era_core.specs.Words.{owner_at}
use Rattle.era_core.proofs.CopyFacts.{at_append}
use Rattle.era_rows.specs.Known.{Known, Look, finding, taking_row}
use Rattle.era_rows.specs.Held.{IsAlone, IsOwn}
use Rattle.era_rows.specs.Plays.{IsUnused}
use Rattle.era_rows.specs.Passes.{having_looked, AreTaken, OnlyTaken, LooksTaken, Takes, FindsTaken, Searches, SearchesSome, SearchesOrFull}
use Rattle.era_rows.proofs.Seats.{at_behind}
use mathlib.Core.Option.{some}

-- looks at owners of these rows are looks at owners of more rows
only_wider : (passes rows from to low high : ℕ) (more : List Look) → low ≤ from → to ≤ high → OnlyTaken passes rows from to more → OnlyTaken passes rows low high more
only_wider passes rows from to low high more less most only i l there =
    let was = only i l there in (was.0, (let a = was.1 in omega arith), (let b = was.2 in omega arith), was.3, was.4)

-- and so are those that follow others
only_joined : (passes rows from to : ℕ) (first second : List Look) → OnlyTaken passes rows from to first → OnlyTaken passes rows from to second
    → OnlyTaken passes rows from to (first ++ second)
only_joined passes rows from to first second one other i l there =
    ⊎_elim (λ early. one early.0 l early.1) (λ late. other late.0 l late.1) (at_append first second i l there)

looked_twice : (first second : List Look) (k : Known) → having_looked second (having_looked first k) ≡ having_looked (first ++ second) k
looked_twice first second k = ap (λ looks. record k { looks = looks }) (append_assoc k.looks first second)

looks_wider : (from to low high : ℕ) (before after : Known) → low ≤ from → to ≤ high → LooksTaken from to before after → LooksTaken low high before after
looks_wider from to low high before after less more looked = (looked.0, looked.1, only_wider before.passes before.rows from to low high looked.0 less more looked.2)

-- the looks of a search that found no row
looks_in : (from to : ℕ) (before after : Known) → FindsTaken from to before after → LooksTaken from to before after
looks_in from to before after found = (found.0, found.1, found.3)

-- looks, and then others
look_then : (from to : ℕ) (before mid after : Known) → LooksTaken from to before mid → LooksTaken from to mid after → LooksTaken from to before after
look_then from to before mid after one other = (
  one.0 ++ other.0,
  other.1 ∙ ap (having_looked other.0) one.1 ∙ looked_twice one.0 other.0 before,
  only_joined before.passes before.rows from to one.0 other.0 one.2 (subst (λ (k : Known). OnlyTaken k.passes k.rows from to other.0) one.1 other.2),
)

-- looks, and then one at the owner of this row
pub look_more : (from to row : ℕ) (before mid after : Known) (w place : ℕ) → LooksTaken from to before mid → from ≤ row → row < to → 0 < w → place ≡ owner_at before.passes before.rows row
    → after ≡ finding place w mid → LooksTaken from to before after
look_more from to row before mid after w place looked low high taken place_is now =
    let more = looked.0 in
    let look : Look = (place, w) in (
      more ++ look ∷ [],
      now ∙ ap (finding place w) looked.1 ∙ looked_twice more (look ∷ []) before,
      λ i l there. ⊎_elim
          (looked.2 i l)
          (λ same. (
            row,
            low,
            high,
            subst (λ (x : Look). 0 < x.1) same taken,
            subst (λ (x : Look). x.0 ≡ owner_at before.passes before.rows row) same place_is,
          ))
          (at_snoc more look l i there),
    )

-- a row that is the pass's own after looks is its own before them
own_before : (more : List Look) (k mid : Known) (r : ℕ) → mid ≡ having_looked more k → (IsAlone mid → IsOwn r mid) → IsAlone k → IsOwn r k
own_before more k mid r same own alone = subst (IsOwn r) same (own (subst IsAlone (sym same) alone))

pub search_more : (from row : ℕ) (before mid after : Known) (w place : ℕ) → FindsTaken from row before mid → from ≤ row → 0 < w → place ≡ owner_at before.passes before.rows row
    → (IsAlone mid → IsOwn row mid) → after ≡ finding place w mid → FindsTaken from (row + 1) before after
unfolding look_more looks_wider looks_in
search_more from row before mid after w place found begun taken place_is own now =
    let more = found.0 in
    let look : Look = (place, w) in
    let looked = look_more from (row + 1) row before mid after w place (looks_wider from row from (row + 1) before mid (omega arith) (omega arith) (looks_in from row before mid found)) begun (omega arith)
    taken place_is now in (
      looked.0,
      looked.1,
      λ r low high. ⊎_elim
          (λ earlier. let was = found.2 r low earlier in (was.0, was.1, was.2, at_longer more (look ∷ []) was.0 _ was.3))
          (λ last.
          let same : r ≡ row = omega arith in
          (length more, w, taken, at_last more look (length more) refl ∙ ap (λ x. some (x, w)) (place_is ∙ ap (owner_at before.passes before.rows) (sym same))))
          (cases_lt r row),
      looked.2,
      λ alone r low high. ⊎_elim
          (λ earlier. found.4 alone r low earlier)
          (λ last. (let same : row ≡ r = omega arith in subst (λ x. IsOwn x before) same (own_before more before mid row found.1 own alone)))
          (cases_lt r row),
    )

-- a row that is unread before looks is unread after them, and the other way
unread_before : (more : List Look) (k mid : Known) (r : ℕ) → mid ≡ having_looked more k → IsUnused r mid → IsUnused r k
unread_before more k mid r same unread = let u = subst (IsUnused r) same unread in record { not_held = u.not_held; not_pinned = u.not_pinned }

pub search_taken : (from to row : ℕ) (before mid after : Known) → FindsTaken from row before mid → from ≤ row → row < to → IsUnused row mid
    → after ≡ taking_row row mid → Takes from to row before after
search_taken from to row before mid after found low high unread now = (
  low,
  high,
  unread_before found.0 before mid row found.1 unread,
  (found.0, now ∙ ap (taking_row row) found.1, only_wider before.passes before.rows from row from to found.0 (omega arith) (omega arith) found.3),
)

-- row r was taken after looks, and other looks before them
taken_then : (rows r : ℕ) (before mid after : Known) → LooksTaken 0 rows before mid → Takes 0 rows r mid after → Takes 0 rows r before after
taken_then rows r before mid after looked takes =
    let both = look_then 0 rows before mid (having_looked takes.3.0 mid) looked (takes.3.0, refl, takes.3.2) in
    (takes.0, takes.1, unread_before looked.0 before mid r looked.1 takes.2, (both.0, takes.3.1 ∙ ap (taking_row r) both.1, both.2))

-- what was found taken after looks was found so by all the looks
found_then : (from to : ℕ) (first second : List Look) (before mid : Known) → mid ≡ having_looked first before → AreTaken mid.passes mid.rows from to second → AreTaken before.passes before.rows from to (first ++ second)
found_then from to first second before mid same found r least most =
    let was = found r least most in
    let place : owner_at mid.passes mid.rows r ≡ owner_at before.passes before.rows r = ap (λ k. owner_at k.passes k.rows r) same in
    (length first + was.0, was.1, was.2, at_behind first second was.0 ∙ was.3 ∙ ap (λ x. some (x, was.1)) place)

-- a search after looks
search_then : (rows : ℕ) (before mid after : Known) (answer : Option ℕ) → LooksTaken 0 rows before mid → Searches 0 rows mid after answer → Searches 0 rows before after answer
unfolding look_then looks_in
search_then rows before mid after (Some r) looked takes = taken_then rows r before mid after looked takes
search_then rows before mid after None looked finds =
    let both = look_then 0 rows before mid after looked (looks_in 0 rows mid after finds) in
    (both.0, both.1, found_then 0 rows looked.0 finds.0 before mid looked.1 finds.2, both.2, λ alone r least most. own_before looked.0 before mid r looked.1 (λ still. finds.4 still r least most) alone)

-- a search among all rows, after one among some that took no row
pub search_after : (rows : ℕ) (before mid after : Known) (first answer : Option ℕ) → first ≡ None → SearchesSome rows before mid first → Searches 0 rows mid after answer → Searches 0 rows before after answer
search_after rows before mid after first answer none looked = search_then rows before mid after answer (subst (SearchesSome rows before mid) none looked)

-- a row that was found among these was found among more
pub takes_wider : (from to low high r : ℕ) (before after : Known) → low ≤ from → to ≤ high → Takes from to r before after → Takes low high r before after
takes_wider from to low high r before after less more takes = (
  (let a = takes.0 in omega arith),
  (let b = takes.1 in omega arith),
  takes.2,
  (takes.3.0, takes.3.1, only_wider before.passes before.rows from to low high takes.3.0 less more takes.3.2),
)

-- the search goes on from the first row, where it found none from `next` on
pub search_again : (next rows : ℕ) (before mid after : Known) (answer : Option ℕ) → next ≤ rows → FindsTaken next rows before mid → Searches 0 next mid after answer
    → Searches 0 rows before after answer
unfolding look_then looks_wider looks_in
search_again next rows before mid after (Some r) low found takes =
    taken_then rows r before mid after (looks_wider next rows 0 rows before mid (omega arith) (omega arith) (looks_in next rows before mid found)) (takes_wider 0 next 0 rows r mid after (omega arith) low takes)
search_again next rows before mid after None low found finds =
    let first = looks_wider next rows 0 rows before mid (omega arith) (omega arith) (looks_in next rows before mid found) in
    let second = looks_wider 0 next 0 rows mid after (omega arith) low (looks_in 0 next mid after finds) in
    let both = look_then 0 rows before mid after first second in (
      both.0,
      both.1,
      λ r least most. ⊎_elim
          (λ early. found_then 0 next found.0 finds.0 before mid found.1 finds.2 r least early)
          (λ late. let was = found.2 r late most in (was.0, was.1, was.2, at_longer found.0 finds.0 was.0 _ was.3))
          (cases_lt r next),
      both.2,
      λ alone r least most. ⊎_elim
          (λ early. own_before found.0 before mid r found.1 (λ still. finds.4 still r least early) alone)
          (λ late. found.4 alone r late most)
          (cases_lt r next),
    )

-- the search that may record that no row is free goes on before the row at which it began, where it found none from there on
pub search_on : (next rows : ℕ) (before mid after : Known) (answer : Option ℕ) → next ≤ rows → FindsTaken next rows before mid → SearchesOrFull next mid after answer → SearchesOrFull rows before after answer
search_on next rows before mid after (Some r) low found takes = search_again next rows before mid after (Some r) low found takes
search_on next rows before mid after None low found finds = (finds.0, search_again next rows before mid finds.0 None low found finds.1, finds.2)
