-- A step that leaves all that other passes can read: the root, their reservations, and the words of live and retired rows.
use Rattle.std.proofs.Common.{◌≡◌, ◌≢◌, ℕ, ◌+◌, ◌/◌, ◌%◌, ◌<◌, ◌⊎◌, ⊎_elim, inl, inr, Some, List, length, set, slice_index, sym, ap, subst, ◌∙◌, arith}
use Rattle.era_core.specs.declared.sizes.TheConstants.{WIDTH, ROOT_ROWS}
use Rattle.era_core.specs.Lists.{times, In, total}
use Rattle.era_core.specs.Words.{version, root_row, reservation, cell, tree_at, live}
use Rattle.era_core.specs.Views.{Batch, View, rows_in, late, held}
use Rattle.era_core.specs.Versions.{Copy, Stands}
use Rattle.era_core.specs.Sound.{Scans, owned, IsKept, IsPinned, Fits, Sound}
use Rattle.era_core.proofs.ListFacts.{times-append, total-set, total-le_total, at_set, set_here}
use Rattle.era_core.proofs.BatchFacts.{times-late-le}
use Rattle.era_core.proofs.TreeFacts.{tree_stays}
use Rattle.era_core.proofs.NumberFacts.{apart_still, none_before}
use mathlib.Core.Option.{some}
use lib.ListN.{get_elem?}

module _ (passes rows : ℕ) where
  -- the row is live or retired
  abbrev pub IsShared : List ℕ → List View → ℕ → Type 0
  IsShared ws vs x = 0 < times x (live passes rows ws) + total (λ (v : View). times x (rows_in v.retired)) vs

  -- pass k goes from view v to view w, and the words from ws to us
  pub record LeavesShared (ws us : List ℕ) (vs : List View) (k : ℕ) (v w : View) : Type 0 where
    pub long : length us ≡ length ws
    pub root : slice_index us 0 ≡ slice_index ws 0
    pub others : (j : ℕ) → j < passes → j ≢ k → reservation passes rows us j ≡ reservation passes rows ws j
    pub cells : (x p : ℕ) → IsShared ws vs x → p < WIDTH → cell passes rows us x p ≡ cell passes rows ws x p
    pub before : v.number ≡ Some k
    pub number : w.number ≡ Some k
    pub retired : w.retired ≡ v.retired

  -- a row that is kept for some version is shared
  pub kept_shared : (ws : List ℕ) (vs : List View) (n x : ℕ) → IsKept passes rows ws vs n x → IsShared ws vs x
  kept_shared ws vs n x kept = omega (arith, total-le_total (λ (v : View). times x (late n v.retired)) (λ (v : View). times x (rows_in v.retired)) vs (λ v. times-late-le x n v.retired))

  module _ (ws us : List ℕ) (vs : List View) (cs : List Copy) (sound : Sound passes rows ws vs cs) (i k : ℕ) (v w : View)
      (at : get_elem? vs i ≡ some v) (leaves : LeavesShared ws us vs k v w) where
    pub version_same : version us ≡ version ws
    version_same = ap (λ x. x / ROOT_ROWS) leaves.root

    pub live_same : live passes rows us ≡ live passes rows ws
    live_same =
        ap (λ x. tree_at passes rows us (x % ROOT_ROWS)) leaves.root
        ∙ tree_stays passes rows ws us (root_row ws) (λ x p here place. leaves.cells x p (omega arith) place)

    -- what is summed of retired rows over all views
    pub retired_same : (f : List Batch → ℕ) → total (λ (u : View). f u.retired) (set vs i w) ≡ total (λ (u : View). f u.retired) vs
    retired_same f =
        let same : f w.retired ≡ f v.retired = ap f leaves.retired in
        let both = total-set (λ (u : View). f u.retired) vs i v w at in omega arith

    pub kept_same : (n x : ℕ) → IsKept passes rows ws vs n x → IsKept passes rows us (set vs i w) n x
    kept_same n x kept =
        let one : times x (live passes rows us) ≡ times x (live passes rows ws) = ap (times x) live_same in
        omega (arith, retired_same (λ batches. times x (late n batches)))

    -- a copy whose rows are shared stands as before
    pub stands_same : (n : ℕ) (c : Copy) → get_elem? cs n ≡ some c → ((x : ℕ) → In x c.rows → IsShared ws vs x) → Stands passes rows ws c.cells → Stands passes rows us c.cells
    stands_same n c there shared stands j x here =
        let closed = sound.closed n c there in
        leaves.cells x.row x.place (shared x.row (closed.within j x here)) (closed.placed j x here) ∙ stands j x here

    -- a pass whose reservation stays may read its version as before
    pub pin_same : (j n r : ℕ) (retired : List Batch) → reservation passes rows us j ≡ reservation passes rows ws j
        → IsPinned passes rows ws vs cs j retired n r → IsPinned passes rows us (set vs i w) cs j retired n r
    pin_same j n r retired same pin = record {
      has_reserved = omega (arith, same, pin.has_reserved);
      early = omega (arith, same, pin.early);
      published = omega (arith, version_same, pin.published);
      rooted = pin.rooted;
      stands = λ c there. stands_same n c there (λ x here. kept_shared ws vs n x (pin.kept c there x here)) (pin.stands c there);
      kept = λ c there x here. kept_same n x (pin.kept c there x here);
      own = λ b here. ⊎_elim (λ low. inl (omega (arith, same))) (λ e. inr e) (pin.own b here);
    }

    -- the view of another pass fits as before
    pub fits_same : (j : ℕ) (u : View) → j ≢ i → get_elem? vs j ≡ some u → Fits passes rows us (set vs i w) cs u
    fits_same j u apart there =
        let fits = sound.each j u there in
        let other : (m : ℕ) → u.number ≡ Some m → m ≢ k = λ m is e. apart (sound.apart j i u v k there at (is ∙ ap Some e) leaves.before) in
        let same : (m : ℕ) → u.number ≡ Some m → reservation passes rows us m ≡ reservation passes rows ws m = λ m is. leaves.others m (fits.numbered m is) (other m is) in
        record {
          numbered = fits.numbered;
          older = λ b here. omega (arith, version_same, fits.older b here);
          named = fits.named;
          pin = λ m n r is pinned. pin_same m n r u.retired (same m is) (fits.pin m n r is pinned);
          noted = λ n is. omega (arith, version_same, fits.noted n is);
          newer = fits.newer;
          announced = λ m n is loose reserved. fits.announced m n is loose (sym (same m is) ∙ reserved);
          settled = fits.settled;
          scan = fits.scan;
        }

    -- the pin of the new view is the old one, or of the current version
    abbrev pub IsOldPin : Type 0
    IsOldPin = (n r : ℕ) → w.pinned ≡ Some (n, r) → (v.pinned ≡ Some (n, r)) ⊎ (n ≡ version ws)

    -- another's scan has seen what it must of the new view too
    scans_back : (j : ℕ) (u : View) → get_elem? vs j ≡ some u → IsOldPin → Scans w u
    scans_back j u there old m n r b is pinned seen here low =
        ⊎_elim
        (λ was. sound.scans i j v u at there m n r b (leaves.before ∙ sym leaves.number ∙ is) was seen here low)
        (λ e. absurd (let early = (sound.each j u there).older b here in omega (arith, e, early)))
        (old n r pinned)

    at_new : (j : ℕ) (u : View) → get_elem? (set vs i w) j ≡ some u → ((j ≡ i) × (w ≡ u)) ⊎ ((j ≢ i) × (get_elem? vs j ≡ some u))
    at_new j u there = at_set vs i j w u there

    -- the step keeps what is sound, where the new view fits, and fresh rows come and go with their owners
    pub stays : IsOldPin
        → Fits passes rows us (set vs i w) cs w
        → ((j : ℕ) (u : View) → get_elem? (set vs i w) j ≡ some u → Scans u w)
        → ((x : ℕ) → times x w.fresh + owned passes rows ws x ≡ times x v.fresh + owned passes rows us x)
        → Sound passes rows us (set vs i w) cs
    stays old fits scans owners =
        let here = set_here vs i v w at in
        record {
          long = leaves.long ∙ sound.long;
          counted = sound.counted ∙ ap (λ x. x + 1) (sym version_same);
          rooted = λ c there. sound.rooted c (ap (λ n. get_elem? cs n) (sym version_same) ∙ there) ∙ ap (λ x. x % ROOT_ROWS) (sym leaves.root);
          stands = λ c there.
              let was = ap (λ n. get_elem? cs n) (sym version_same) ∙ there in
              stands_same (version ws) c was (λ x in_it. let e = sound.current c was in let l : In x (live passes rows ws) = subst (In x) e in_it in omega arith) (sound.stands c was);
          current = λ c there. sound.current c (ap (λ n. get_elem? cs n) (sym version_same) ∙ there) ∙ sym live_same;
          places = λ x.
              let one : times x (live passes rows us) ≡ times x (live passes rows ws) = ap (times x) live_same in
              let both = total-set (λ (u : View). times x (held u)) vs i v w at in
              let a = times-append x v.fresh (rows_in v.retired) in
              let b = times-append x w.fresh (rows_in w.retired) in
              let c : times x (rows_in w.retired) ≡ times x (rows_in v.retired) = ap (λ batches. times x (rows_in batches)) leaves.retired in
              omega (arith, sound.places x, owners x);
          each = λ j u there. ⊎_elim (λ new. subst (λ (x : View). Fits passes rows us (set vs i w) cs x) new.1 fits) (λ was. fits_same j u was.0 was.1) (at_new j u there);
          apart = apart_still vs i k v w at leaves.before leaves.number sound.apart;
          silent = λ m pass none.
              leaves.others m pass (λ e. none i w here (leaves.number ∙ ap Some (sym e)))
              ∙ sound.silent m pass (none_before vs i k v w at leaves.before leaves.number m none);
          scans = λ a b x y xa yb.
              ⊎_elim
              (λ y_new. subst (λ (z : View). Scans x z) y_new.1 (scans a x xa))
              (λ y_old. ⊎_elim
              (λ x_new. subst (λ (z : View). Scans z y) x_new.1 (scans_back b y y_old.1 old))
              (λ x_old. sound.scans a b x y x_old.1 y_old.1)
              (at_new a x xa))
              (at_new b y yb);
          closed = sound.closed;
        }
