-- The start is sound.
use Rattle.std.proofs.Common.{◌≡◌, ◌≢◌, ℕ, zero, suc, ◌+◌, ◌/◌, ◌%◌, ◌<◌, ◌≤◌, ⊎_elim, min, true, List, [], ◌∷◌, flat_map, length, set, slice_index, replicate, refl, sym, ap, subst, ◌∙◌, arith, length-set}
use Rattle.std.specs.Prelude.{is_some}
use Rattle.std.proofs.lemmas.List.{length-replicate}
use Rattle.std.proofs.lemmas.Bool.{cases_eq}
use Rattle.std.proofs.lemmas.Option.{same_Some, none-some}
use Rattle.era_core.specs.declared.sizes.TheConstants.{MOST_LINKS, KINDS, ROOT_ROWS, MOST_ROWS, MOST_PASSES}
use Rattle.era_core.specs.Lists.{times, In, total, tree}
use Rattle.era_core.specs.Words.{version, root_row, words_len, owner_at, reservation_at, cell_at, reservation, owner, cell, links, run_of, tree_at, live, start_words}
use Rattle.era_core.specs.Views.{View, start_view, held}
use Rattle.era_core.specs.Versions.{Copy, copy_at, look_up, IsClosed, Stands}
use Rattle.era_core.specs.Sound.{Scans, owned, Fits, Sound}
use Rattle.era_core.specs.Machine.{start, start_views, start_copies, owner_of, IsSound, IsRunning}
use Rattle.era_core.proofs.ListFacts.{times-head, times-tail, at_push}
use Rattle.era_core.proofs.WordFacts.{owner_keeps_root, owner_keeps_reservation, owner_keeps_owner, owner_stored, owner_keeps_cell}
use Rattle.era_core.proofs.Keeps.{owned_free, owned_taken}
use Rattle.era_core.proofs.CopyFacts.{copy_whole, copy_stands, copy_closed}
use mathlib.Core.Option.{some, some-injective, some-ne-none}
use lib.ListN.{get_elem?}

blank : (n i : ℕ) → slice_index (replicate n 0) i ≡ 0
blank zero i = refl
blank (suc n) zero = refl
blank (suc n) (suc i) = blank n i

-- a store of 1 where 0 stood leaves no more than 1
small : (xs : List ℕ) (i : ℕ) → slice_index xs i ≡ 0 → slice_index (set xs i 1) i ≤ 1
small [] i e = omega arith
small (x ∷ xs) zero e = omega arith
small (x ∷ xs) (suc i) e = small xs i e

-- the view at each place
pub at_start : (k n i : ℕ) (v : View) → get_elem? (start_views k n) i ≡ some v → (start_view (k + i) ≡ v) × (i < n)
at_start k zero i v there = absurd (some-ne-none v (sym there))
at_start k (suc n) zero v there = (ap start_view (let e : k + 0 ≡ k = omega arith in e) ∙ some-injective (start_view k) v there, omega arith)
at_start k (suc n) (suc i) v there = let rest = at_start (k + 1) n i v there in (ap start_view (let e : k + suc i ≡ k + 1 + i = omega arith in e) ∙ rest.0, (let below = rest.1 in omega arith))

pub length-start_views : (k n : ℕ) → length (start_views k n) ≡ n
length-start_views k zero = refl
length-start_views k (suc n) = ap suc (length-start_views (k + 1) n)

nothing_held : (k n r : ℕ) → total (λ (v : View). times r (held v)) (start_views k n) ≡ 0
nothing_held k zero r = refl
nothing_held k (suc n) r = let rest = nothing_held (k + 1) n r in omega arith

module _ (passes rows : ℕ) where
  abbrev ws : List ℕ
  ws = start_words passes rows

  abbrev zeros : List ℕ
  zeros = replicate (words_len passes rows) 0

  pub start_long : length ws ≡ words_len passes rows
  start_long = length-set zeros (owner_at passes rows 0) 1 ∙ length-replicate (words_len passes rows) 0

  start_root : slice_index ws 0 ≡ 0
  start_root = owner_keeps_root passes rows zeros 0 1 ∙ blank (words_len passes rows) 0

  pub start_reservation : (k : ℕ) → k < passes → reservation passes rows ws k ≡ 0
  start_reservation k pass = owner_keeps_reservation passes rows zeros 0 1 k pass ∙ blank (words_len passes rows) (reservation_at passes rows k)

  start_owner : (x : ℕ) → x ≢ 0 → owner passes rows ws x ≡ 0
  start_owner x other = owner_keeps_owner passes rows zeros 0 1 x other ∙ blank (words_len passes rows) (owner_at passes rows x)

  pub start_cell : 0 < rows → (x p : ℕ) → cell passes rows ws x p ≡ 0
  start_cell some_row x p = owner_keeps_cell passes rows zeros 0 1 x p some_row ∙ blank (words_len passes rows) (cell_at passes rows x p)

  pub start_version : version ws ≡ 0
  start_version = ap (λ w. w / ROOT_ROWS) start_root

  pub start_row : root_row ws ≡ 0
  start_row = ap (λ w. w % ROOT_ROWS) start_root

  lone : (f : ℕ → List ℕ) (depth : ℕ) → f 0 ≡ [] → tree f depth 0 ≡ 0 ∷ []
  lone f zero none = refl
  lone f (suc depth) none = ap (λ xs. 0 ∷ flat_map (tree f depth) xs) none

  pub start_live : 0 < rows → live passes rows ws ≡ 0 ∷ []
  start_live some_row =
      ap (tree_at passes rows ws) start_row
      ∙ lone (links passes rows ws) rows (ap (λ w. links_by_count w) (start_cell some_row 0 0))
    where
      links_by_count : ℕ → List ℕ
      links_by_count w = run_of (cell passes rows ws 0) 1 (min MOST_LINKS (w / KINDS))

  fits_start : (i : ℕ) → i < passes → Fits passes rows ws (start_views 0 passes) (start_copies rows passes) (start_view i)
  fits_start i pass = record {
    numbered = λ k is. let e = same_Some i k is in omega arith;
    older = λ b here. absurd (omega arith);
    named = λ n r e. absurd (none-some (n, r) e);
    pin = λ k n r is e. absurd (none-some (n, r) e);
    noted = λ n e. absurd (none-some n e);
    newer = λ n b e here. absurd (none-some n e);
    announced = λ k n is loose reserves. let e = same_Some i k is in let none = start_reservation k (omega arith) in absurd (omega arith);
    settled = λ n r e. absurd (none-some (n, r) e);
    scan = omega arith;
  }

  one_copy : (n : ℕ) (c : Copy) → get_elem? (start_copies rows passes) n ≡ some c → copy_at passes rows ws 0 ≡ c
  one_copy n c there = ⊎_elim (λ none. absurd (some-ne-none c (sym none))) (λ last. last.1) (at_push [] (copy_at passes rows ws 0) c n there)

  view_at : (i : ℕ) (v : View) → get_elem? (start_views 0 passes) i ≡ some v → (start_view i ≡ v) × (i < passes)
  view_at i v there = let one = at_start 0 passes i v there in (ap start_view (let e : i ≡ 0 + i = omega arith in e) ∙ one.0, one.1)

  start_once : 0 < rows → (r : ℕ) → times r (tree_at passes rows ws 0) ≤ 1
  start_once some_row r =
      let e : tree_at passes rows ws 0 ≡ 0 ∷ [] = ap (tree_at passes rows ws) (sym start_row) ∙ start_live some_row in
      let P : List ℕ → Type 0 = λ xs. times r xs ≤ 1 in
      subst P (sym e) (⊎_elim (λ same. omega (arith, (let Q : ℕ → Type 0 = λ y. times y (0 ∷ []) ≡ 1 in let Z : times 0 (0 ∷ []) ≡ 1 = times-head 0 [] in subst Q (sym same) Z))) (λ apart. omega (arith, times-tail r 0 [] apart)) (cases_eq r 0))

  pub start_sound : 0 < rows → Sound passes rows ws (start_views 0 passes) (start_copies rows passes)
  start_sound some_row = record {
    long = start_long;
    counted = omega (arith, start_version);
    rooted = λ c there. sym (ap (λ (x : Copy). x.root) (one_copy (version ws) c there)) ∙ sym start_row;
    stands = λ c there. let P : Copy → Type 0 = λ x. Stands passes rows ws x.cells in subst P (one_copy (version ws) c there) (copy_stands passes rows ws 0);
    current = λ c there. sym (ap (λ (x : Copy). x.rows) (one_copy (version ws) c there)) ∙ ap (tree_at passes rows ws) (sym start_row);
    places = λ r.
        let l : times r (live passes rows ws) ≡ times r (0 ∷ []) = ap (times r) (start_live some_row) in
        let none = nothing_held 0 passes r in
        ⊎_elim
        (λ e.
        let P : ℕ → Type 0 = λ x. times x (0 ∷ []) ≡ owned passes rows ws x in
        let here : times r (0 ∷ []) ≡ owned passes rows ws r = subst P (sym e) (sym (owned_taken passes rows ws 0 some_row (omega (arith, owner_stored passes rows zeros 0 1 (length-replicate (words_len passes rows) 0) some_row)))) in
        omega arith)
        (λ apart. let a = times-tail r 0 [] apart in let b = owned_free passes rows ws r (start_owner r apart) in omega arith)
        (cases_eq r 0);
    each = λ i v there. let one = view_at i v there in subst (λ (x : View). Fits passes rows ws (start_views 0 passes) (start_copies rows passes) x) one.0 (fits_start i one.1);
    apart = λ i j u v k ui vj uk vk.
        let a = same_Some i k (ap (λ (x : View). x.number) (view_at i u ui).0 ∙ uk) in
        let b = same_Some j k (ap (λ (x : View). x.number) (view_at j v vj).0 ∙ vk) in
        a ∙ sym b;
    silent = λ k pass none. start_reservation k pass;
    scans = λ i j u v ui vj. subst (λ (x : View). Scans u x) (view_at j v vj).0 (λ m n r b is pinned seen here low. absurd (omega arith));
    closed = λ n c there. subst (IsClosed rows) (one_copy n c there) (copy_closed passes rows ws 0 (start_once some_row));
  }

  pub starts : 0 < rows → rows ≤ MOST_ROWS → IsSound (start rows passes) (start_copies rows passes)
  starts some_row few = record {
    few = few;
    counted = length-start_views 0 passes;
    ordered = λ k v there. sym (ap (λ (x : View). x.number) (view_at k v there).0);
    sound = start_sound some_row;
    whole = λ n c there r p here place.
        let P : Copy → Type 0 = λ x. In r x.rows → is_some (look_up x.cells r p) ≡ true in
        subst P (one_copy n c there) (λ inside. copy_whole passes rows ws 0 r p inside place) here;
  }

  start_owners : (r : ℕ) → owner_of (start rows passes) r ≤ 1
  start_owners r =
      ⊎_elim
      (λ e. let P : ℕ → Type 0 = λ x. owner passes rows ws x ≤ 1 in subst P (sym e) (first_owner))
      (λ apart. omega (arith, start_owner r apart))
      (cases_eq r 0)
    where
      first_owner : owner passes rows ws 0 ≤ 1
      first_owner = small zeros (owner_at passes rows 0) (blank (words_len passes rows) (owner_at passes rows 0))

  pub start_running : 0 < rows → rows ≤ MOST_ROWS → 0 < passes → passes ≤ MOST_PASSES → IsRunning (start rows passes)
  start_running some_row few some_pass few_passes = record {
    some_row = some_row;
    few_rows = few;
    some_pass = some_pass;
    few_passes = few_passes;
    long = start_long;
    counted = length-start_views 0 passes;
    owners = λ r row. omega (arith, start_owners r);
    sound = ∣ (start_copies rows passes, starts some_row few) ∣₁;
  }

  -- the same of a machine with these words and views
  pub running_as : (words : List ℕ) (views : List View) → words ≡ start_words passes rows → views ≡ start_views 0 passes → 0 < rows → rows ≤ MOST_ROWS → 0 < passes → passes ≤ MOST_PASSES
      → IsRunning (record { rows = rows; passes = passes; words = words; views = views })
  running_as words views same_words same_views some_row few some_pass few_passes =
      let P : List ℕ → Type 0 = λ x. IsRunning (record { rows = rows; passes = passes; words = x; views = views }) in
      let Q : List View → Type 0 = λ x. IsRunning (record { rows = rows; passes = passes; words = start_words passes rows; views = x }) in
      subst P (sym same_words) (subst Q (sym same_views) (start_running some_row few some_pass few_passes))
