-- How many rows a call takes, from what it found.
use Rattle.std.proofs.Common.{◌≡◌, ℕ, ◌+◌, ◌≤◌, List, [], ◌∷◌, ◌++◌, drop, length, refl, sym, ap, subst, ◌∙◌, arith, append_assoc}
use Rattle.std.proofs.Math.Seq.{drop-append_seam}
use Rattle.era_core.specs.Words.{owner_at, cell_at}
use Rattle.era_rows.specs.Known.{Known, Look}
use Rattle.era_rows.specs.Lists.{IsPrefix}
use Rattle.era_rows.specs.Passes.{OnlyTaken, Takes, FindsTaken, HasRead, looks_of, Tidies}
use Rattle.era_rows.specs.FreshRows.{takes_in, TakesWithin}
use Rattle.era_rows.proofs.CountingLooks.{within_all, takes_all, takes-append, takes-root, takes-read, takes-scan, takes-found, takes-taken}
use Rattle.era_one_row.specs.Ready.{new_looks}
use Rattle.era_one_row.specs.Finding.{TakesAtMost}

-- what a call found, where it found these words more
new_are : (before after : Known) (more : List Look) → after.looks ≡ before.looks ++ more → new_looks before after ≡ more
new_are before after more looks = ap (drop (length before.looks)) looks ∙ drop-append_seam before.looks more

module _ (passes rows : ℕ) where
  -- a call that found these words
  pub takes_of : (most : ℕ) (before after : Known) (more : List Look) → after.looks ≡ before.looks ++ more → takes_in passes rows more ≤ most → TakesAtMost passes rows most before after
  takes_of most before after more looks few = within_all passes rows [] most (new_looks before after) (subst (λ xs. takes_in passes rows xs ≤ most) (sym (new_are before after more looks)) few)

  -- two calls in turn
  pub takes_twice : (m n : ℕ) (k l after : Known) → IsPrefix k.looks l.looks → IsPrefix l.looks after.looks → TakesAtMost passes rows m k l → TakesAtMost passes rows n l after → TakesAtMost passes rows (m + n) k after
  takes_twice m n k l after first second a b =
      let xs = first.0 in
      let ys = second.0 in
      let few_first = takes_all passes rows m xs (subst (TakesWithin passes rows [] m) (new_are k l xs (sym first.1)) a) in
      let few_then = takes_all passes rows n ys (subst (TakesWithin passes rows [] n) (new_are l after ys (sym second.1)) b) in
      takes_of (m + n) k after (xs ++ ys) (sym second.1 ∙ ap (λ zs. zs ++ ys) (sym first.1) ∙ append_assoc k.looks xs ys) (let both = takes-append passes rows xs ys in omega arith)

  -- a call that changes no look more
  pub takes_as : (most : ℕ) (k l after : Known) → TakesAtMost passes rows most k l → after.looks ≡ l.looks → TakesAtMost passes rows most k after
  takes_as most k l after takes looks = subst (λ xs. TakesWithin passes rows [] most (drop (length k.looks) xs)) (sym looks) takes

  -- a pin
  pub takes-pinned : (w root : ℕ) (before after : Known) → after.looks ≡ (before.looks ++ (0, w) ∷ []) ++ (0, root) ∷ [] → TakesAtMost passes rows 0 before after
  takes-pinned w root before after looks =
      takes_of 0 before after ((0, w) ∷ (0, root) ∷ []) (looks ∙ append_assoc before.looks ((0, w) ∷ []) ((0, root) ∷ []))
      (let first = takes-root passes rows [] w refl in let both = takes-root passes rows ((0, w) ∷ []) root first in omega arith)

  -- reads, and then a look at the root
  pub takes-exchanged : (w : ℕ) (before mid after : Known) → before.passes ≡ passes → before.rows ≡ rows → HasRead before mid → after.looks ≡ mid.looks ++ (0, w) ∷ [] → TakesAtMost passes rows 0 before after
  takes-exchanged w before mid after passes_are rows_are read looks =
      takes_of 0 before after (read.more ++ (0, w) ∷ [])
      (looks ∙ ap (λ (x : Known). x.looks ++ (0, w) ∷ []) read.now ∙ append_assoc before.looks read.more ((0, w) ∷ []))
      (let none = takes-read passes rows read.more (λ i l there. let cell = read.only i l there in (cell.0, cell.1, cell.4 ∙ ap (λ p. cell_at p before.rows cell.0 cell.1) passes_are ∙ ap (λ r. cell_at passes r cell.0 cell.1) rows_are)) in
      let last = takes-root passes rows read.more w none in omega arith)

  -- a tidy
  pub takes-tidied : (before after : Known) → before.passes ≡ passes → before.rows ≡ rows → Tidies before after → TakesAtMost passes rows 0 before after
  takes-tidied before after passes_are rows_are tidied =
      takes_of 0 before after (looks_of before.passes before.rows 0 tidied.words) (ap (λ (x : Known). x.looks) tidied.now)
      (subst (λ p. takes_in p rows (looks_of before.passes before.rows 0 tidied.words) ≤ 0) passes_are
      (subst (λ r. takes_in before.passes r (looks_of before.passes before.rows 0 tidied.words) ≤ 0) rows_are
      (let none = takes-scan before.passes before.rows 0 tidied.words (let all = tidied.all in omega arith) in omega arith)))

  -- looks at owners of rows that are taken, and a take after them
  taken_here : (from to : ℕ) (before : Known) (more : List Look) → before.passes ≡ passes → before.rows ≡ rows → OnlyTaken before.passes before.rows from to more → OnlyTaken passes rows from to more
  taken_here from to before more passes_are rows_are only = subst (λ p. OnlyTaken p rows from to more) passes_are (subst (λ r. OnlyTaken before.passes r from to more) rows_are only)

  pub takes-looked : (from to : ℕ) (before after : Known) → before.passes ≡ passes → before.rows ≡ rows → to ≤ rows → FindsTaken from to before after → TakesAtMost passes rows 0 before after
  takes-looked from to before after passes_are rows_are inside found =
      takes_of 0 before after found.0 (ap (λ (x : Known). x.looks) found.1)
      (let none = takes-found passes rows from to found.0 inside (taken_here from to before found.0 passes_are rows_are found.3) in omega arith)

  pub takes-took : (from to r : ℕ) (before after : Known) → before.passes ≡ passes → before.rows ≡ rows → to ≤ rows → Takes from to r before after → TakesAtMost passes rows 1 before after
  takes-took from to r before after passes_are rows_are inside takes =
      let more = takes.3.0 in
      takes_of 1 before after (more ++ (owner_at passes rows r, 0) ∷ [])
      (ap (λ (x : Known). x.looks) takes.3.1 ∙ ap (λ p. (before.looks ++ more) ++ (owner_at p rows r, 0) ∷ []) passes_are ∙ append_assoc before.looks more ((owner_at passes rows r, 0) ∷ []))
      (let one = takes-taken passes rows from to r more inside (let low = takes.1 in omega arith) (taken_here from to before more passes_are rows_are takes.3.2) in omega arith)
