-- Of which rows of the pinned tree a pass finds words, step by step.
use Rattle.std.proofs.Common.{◌≡◌, ℕ, ◌+◌, ◌<◌, ◌≤◌, ◌⊎◌, inl, inr, ⊎_elim, suc, Bool, true, false, ltb, Option, Some, None, List, [], ◌∷◌, ◌++◌, drop, length, refl, sym, ap, subst, ◌∙◌, arith}
use Rattle.std.specs.Prelude.{◌||◌}
use Rattle.std.specs.List.{list_any}
use Rattle.std.proofs.lemmas.Bool.{and_parts, and_left, leb-true, ltb-true, lt-leb, true≢false}
use Rattle.std.proofs.lemmas.List.Folds.{list_any-append}
use Rattle.era_core.specs.declared.sizes.TheConstants.{WIDTH}
use Rattle.era_core.specs.Lists.{In}
use Rattle.era_core.specs.Versions.{Copy}
use Rattle.era_core.specs.Words.{cell_at}
use Rattle.era_core.proofs.ListFacts.{in_cases, in-append_left, in-append_right}
use Rattle.era_rows.specs.Known.{Known, Look, pinned_copy, reading_word, writing}
use Rattle.era_rows.specs.Passes.{knows_of, known_of, IsPassOf, HasSame}
use Rattle.era_rows.specs.FreshRows.{is_read}
use Rattle.era_rows.specs.declared.pass.Pass.{Pass}
use Rattle.era_rows.specs.declared.views.Knows.{Knows}
use Rattle.era_rows.specs.declared.rows.Rows.{Rows}
use Rattle.era_rows.specs.declared.law.Law.{Ghosts}
use Rattle.era_one_row.specs.Finding.{FindsRow}
use Rattle.era_one_row.proofs.FindingRows.{took_row, found_none}
use Rattle.pls_archive.specs.declared.call.Entry.{Entry}
use Rattle.nd_rows.specs.Reads.{ReadsIn}
use Rattle.nd_rows.proofs.Looks.{looks_word}
use Rattle.nd_update.specs.Building.{Builds, IsBuilding, Does}
use Rattle.nd_update.specs.Counted.{looks_since, WasRead}
use Rattle.nd_update.specs.Needed.{ReadsOnly}
use Rattle.nd_update.proofs.Building.{same_copy}
use Rattle.nd_update.proofs.Counting.{Avoids, avoids_found, avoids_none, found_low}
use Rattle.nd_update.proofs.Paying.{since_more}
use mathlib.Core.Option.{some}
use lib.ListN.{get_elem?}

-- ---- one thing after another

-- nothing was done
pub only_none : (rows : List ℕ) (k : Known) → ReadsOnly rows k k
only_none rows k x here read = inl read

-- words of more rows may be found, and rows that are not in the pinned tree left out
pub only_within : (few all : List ℕ) (k l : Known) → ((x : ℕ) → In x (pinned_copy k).rows → In x few → In x all) → ReadsOnly few k l → ReadsOnly all k l
only_within few all k l among only x here read = ⊎_elim (λ was. inl was) (λ mine. inr (among x here mine)) (only x here read)

pub only_more : (few all : List ℕ) (k l : Known) → ((x : ℕ) → In x few → In x all) → ReadsOnly few k l → ReadsOnly all k l
only_more few all k l among only = only_within few all k l (λ x here mine. among x mine) only

-- words of one row were found, which is one of them
pub only_row : (row : ℕ) (all : List ℕ) (k l : Known) → In row all → ReadsOnly (row ∷ []) k l → ReadsOnly all k l
only_row row all k l in_all one =
    only_more (row ∷ []) all k l (λ x here. ⊎_elim (λ e. subst (λ y. In y all) (sym e) in_all) (λ none. absurd (let nothing : In x [] = none in omega arith)) (in_cases x row [] here)) one

-- none were found
pub only_any : (rows : List ℕ) (k l : Known) → ReadsOnly [] k l → ReadsOnly rows k l
only_any rows k l only = only_more [] rows k l (λ x here. absurd (let none : In x [] = here in omega arith)) only

-- one thing was done, and then another
pub only_both : (rows : List ℕ) (k l m : Known) → Builds k l → ReadsOnly rows k l → ReadsOnly rows l m → ReadsOnly rows k m
only_both rows k l m builds one two x here read =
    ⊎_elim (λ was. one x here was) (λ mine. inr mine) (two x (subst (λ (c : Copy). In x c.rows) (sym (same_copy k l builds)) here) read)

pub only_append : (first second : List ℕ) (k l m : Known) → Builds k l → ReadsOnly first k l → ReadsOnly second l m → ReadsOnly (first ++ second) k m
only_append first second k l m builds one two =
    only_both (first ++ second) k l m builds
    (only_more first (first ++ second) k l (λ x here. in-append_left x first second here) one)
    (only_more second (first ++ second) l m (λ x here. in-append_right x first second here) two)

-- ---- steps

-- the pass has found what it had
pub only_same : (k l : Known) → l.looks ≡ k.looks → l.since ≡ k.since → l.rows ≡ k.rows → l.passes ≡ k.passes → ReadsOnly [] k l
only_same k l looks since rows passes x here read =
    inl
    (ap (λ n. list_any (is_read n k.rows x) (looks_since k)) (sym passes)
    ∙ ap (λ n. list_any (is_read l.passes n x) (looks_since k)) (sym rows)
    ∙ ap (λ n. list_any (is_read l.passes l.rows x) (drop n k.looks)) (sym since)
    ∙ ap (λ looks. list_any (is_read l.passes l.rows x) (drop l.since looks)) (sym looks)
    ∙ read)

-- the pass knows what it knew
pub only_list : {L : Type 0} {G : Ghosts L Entry} (rows : List ℕ) (p q : Pass L Entry G) → knows_of q ≡ knows_of p → ReadsOnly rows (known_of p) (known_of q)
only_list rows p q knows = subst (ReadsOnly rows (known_of p)) (ap (λ (k : Knows Entry). k.view) (sym knows)) (only_none rows (known_of p))

-- a word was written
pub only_written : (k l : Known) (row place w : ℕ) → l ≡ writing row place w k → ReadsOnly [] k l
only_written k l row place w now =
    only_same k l (ap (λ (z : Known). z.looks) now) (ap (λ (z : Known). z.since) now) (ap (λ (z : Known). z.rows) now) (ap (λ (z : Known). z.passes) now)

-- what was found from the pin on is what was found before, and more
either_found : (a b : Bool) → (a || b) ≡ true → (a ≡ true) ⊎ (b ≡ true)
either_found true b found = inl refl
either_found false b found = inr found

any_gives : (f : Look → Bool) (P : Type 0) (looks : List Look) → ((i : ℕ) (l : Look) → get_elem? looks i ≡ some l → f l ≡ true → P) → list_any f looks ≡ true → P
any_gives f P [] each found = absurd (true≢false (sym found))
any_gives f P (l ∷ looks) each found =
    ⊎_elim (λ first. each 0 l refl first) (λ later. any_gives f P looks (λ i m there. each (suc i) m there) later) (either_found (f l) (list_any f looks) found)

-- of which row a cell is
own_cell : (passes rows x r p w i : ℕ) → p < WIDTH → i ≡ cell_at passes rows r p → is_read passes rows x (i, w) ≡ true → x ≡ r
own_cell passes rows x r p w i near at read =
    let both = and_parts _ _ read in
    let low = leb-true (cell_at passes rows x 0) i both.0 in
    let high = ltb-true i (cell_at passes rows (x + 1) 0) both.1 in omega (arith, near, at, low, high)

-- a row that was read, was read before or by what was found since
read_since : (k l : Known) (more : List Look) → k.since ≤ length k.looks → l.since ≡ k.since → l.passes ≡ k.passes → l.rows ≡ k.rows → l.looks ≡ k.looks ++ more
    → (x : ℕ) → WasRead x l → WasRead x k ⊎ (list_any (is_read k.passes k.rows x) more ≡ true)
read_since k l more begun since passes as_many looks x read =
    either_found (list_any (is_read k.passes k.rows x) (looks_since k)) (list_any (is_read k.passes k.rows x) more)
    (sym (list_any-append (is_read k.passes k.rows x) (looks_since k) more)
    ∙ ap (list_any (is_read k.passes k.rows x)) (sym (since_more k l more begun since looks))
    ∙ ap (λ n. list_any (is_read k.passes n x) (looks_since l)) (sym as_many)
    ∙ ap (λ n. list_any (is_read n l.rows x) (looks_since l)) (sym passes)
    ∙ read)

-- words of these rows were read
pub only_reads : (rows : List ℕ) (k l : Known) → k.since ≤ length k.looks → ReadsIn rows k l → ReadsOnly rows k l
only_reads rows k l begun reads x here read =
    ⊎_elim
    (λ was. inl was)
    (λ now.
    inr
    (any_gives (is_read k.passes k.rows x) (In x rows) reads.more
    (λ i look there found. let is = reads.only i look there in subst (λ y. In y rows) (sym (own_cell k.passes k.rows x is.0 is.1 look.1 look.0 is.3 is.4 found)) is.2) now))
    (read_since k l reads.more begun (ap (λ (z : Known). z.since) reads.now) (ap (λ (z : Known). z.passes) reads.now) (ap (λ (z : Known). z.rows) reads.now) (ap (λ (z : Known). z.looks) reads.now) x read)

-- a row was looked for
module _ (k l : Known) (begun : k.since ≤ length k.looks) where
  before_cells : (x i w : ℕ) → i < 1 + k.passes + k.rows → is_read k.passes k.rows x (i, w) ≡ false
  before_cells x i w low = and_left _ (ltb i (cell_at k.passes k.rows (x + 1) 0)) (lt-leb (cell_at k.passes k.rows x 0) i (omega (arith, low)))

  only_avoids : l.since ≡ k.since → l.passes ≡ k.passes → l.rows ≡ k.rows → ((x : ℕ) → Avoids k.passes k.rows (is_read k.passes k.rows x) k.looks l.looks) → ReadsOnly [] k l
  only_avoids since passes as_many avoids x here read =
      let none = avoids x in
      ⊎_elim (λ was. inl was) (λ now. absurd (true≢false (sym now ∙ none.2))) (read_since k l none.0 begun since passes as_many (sym none.1) x read)

  pub only_found : (answer : Option ℕ) → FindsRow k.rows k l answer → ReadsOnly [] k l
  only_found (Some row) found =
      let now = (took_row k.rows row k l found).now in
      only_avoids (ap (λ (z : Known). z.since) now) (ap (λ (z : Known). z.passes) now) (ap (λ (z : Known). z.rows) now)
      (λ x.
      avoids_found k.passes k.rows (is_read k.passes k.rows x) (λ i w j low at. before_cells x i w (omega (arith, low, at))) (λ i w owned low at some. before_cells x i w (omega (arith, low, at))) row
      (λ i at. before_cells x i 0 (let low = found_low k.rows row k l found in omega (arith, low, at))) k.rows k l refl (omega arith) found)
  only_found None found =
      let now = (found_none k.rows k l found).now in
      only_avoids (ap (λ (z : Known). z.since) now) (ap (λ (z : Known). z.passes) now) (ap (λ (z : Known). z.rows) now)
      (λ x.
      avoids_none k.passes k.rows (is_read k.passes k.rows x) (λ i w j low at. before_cells x i w (omega (arith, low, at))) (λ i w owned low at some. before_cells x i w (omega (arith, low, at))) k.rows k l refl (omega arith) found)

module _ {L : Type 0} {G : Ghosts L Entry} (r : Rows L Entry) where
  -- one thing after another, by what was done first
  pub only_then : (t m c rows : List ℕ) (p q s : Pass L Entry G) → Does r t m c p q → ReadsOnly rows (known_of p) (known_of q) → ReadsOnly rows (known_of q) (known_of s) → ReadsOnly rows (known_of p) (known_of s)
  only_then t m c rows p q s does one two = only_both rows (known_of p) (known_of q) (known_of s) does.builds one two

  -- where nothing was found at first, or afterwards
  pub then_only : (t m c rows : List ℕ) (p q s : Pass L Entry G) → Does r t m c p q → ReadsOnly [] (known_of p) (known_of q) → ReadsOnly rows (known_of q) (known_of s) → ReadsOnly rows (known_of p) (known_of s)
  then_only t m c rows p q s does one two = only_then t m c rows p q s does (only_any rows (known_of p) (known_of q) one) two

  pub only_still : (t m c rows : List ℕ) (p q s : Pass L Entry G) → Does r t m c p q → ReadsOnly rows (known_of p) (known_of q) → ReadsOnly [] (known_of q) (known_of s) → ReadsOnly rows (known_of p) (known_of s)
  only_still t m c rows p q s does one two = only_then t m c rows p q s does one (only_any rows (known_of q) (known_of s) two)

  -- a word was read
  pub only_word : (p q : Pass L Entry G) (row place w : ℕ) → IsBuilding r p → place < WIDTH → IsPassOf r q → HasSame p q → known_of q ≡ reading_word (cell_at r.passes r.rows row place) w (known_of p)
      → ReadsOnly (row ∷ []) (known_of p) (known_of q)
  only_word p q row place w building near is_pass same now =
      only_reads (row ∷ []) (known_of p) (known_of q) building.counted.begun (looks_word r p q row place w near building.is_pass is_pass same now).reads

  -- a fresh row is none of the pinned tree
  pub only_fresh : (p q : Pass L Entry G) (row : ℕ) → IsBuilding r p → In row (known_of p).core.fresh → ReadsOnly (row ∷ []) (known_of p) (known_of q) → ReadsOnly [] (known_of p) (known_of q)
  only_fresh p q row building mine only =
      only_within (row ∷ []) [] (known_of p) (known_of q)
      (λ x here is.
      ⊎_elim
      (λ e. absurd (let unread = building.unread x (subst (λ y. In y (known_of p).core.fresh) (sym e) mine) in omega (arith, unread, here)))
      (λ none. none)
      (in_cases x row [] is))
      only
