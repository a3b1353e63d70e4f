-- Free keeps what is sound: of a fresh row, and of a retired one that a whole scan has cleared.
use Rattle.std.proofs.Common.{◌≡◌, ◌≢◌, ℕ, ◌+◌, ◌/◌, ◌%◌, ◌<◌, ◌≤◌, ⊎_elim, inl, inr, true, cond, Some, List, [], ◌∷◌, set, slice_index, refl, sym, ap, subst, ◌∙◌, arith, length-set, lt-ltb, le-ltb}
use Rattle.std.specs.Prelude.{◌&&◌}
use Rattle.std.specs.List.{list_any}
use Rattle.std.proofs.lemmas.Bool.{cases_eq, cases_lt, false≢true}
use Rattle.era_core.specs.declared.sizes.TheConstants.{ROOT_ROWS}
use Rattle.era_core.specs.Lists.{times, In, is_in, total, without}
use Rattle.era_core.specs.Words.{version, root_row, owner_at, reservation, cell, tree_at, live}
use Rattle.era_core.specs.Views.{Batch, View, start_view, rows_in, versions_of, late, held, clears, freeing, without_row}
use Rattle.era_core.specs.Versions.{Cell, Copy, Stands}
use Rattle.era_core.specs.Sound.{Scans, owned, IsKept, IsPinned, Fits, Sound}
use Rattle.era_core.proofs.ListFacts.{times-append, times-tail, in_head, total-le, total-set, total-le_total, at_set}
use Rattle.era_core.proofs.WordFacts.{owner_keeps_root, owner_keeps_reservation, owner_keeps_owner, owner_stored, owner_keeps_cell}
use Rattle.era_core.proofs.TreeFacts.{tree_stays}
use Rattle.era_core.proofs.BatchFacts.{times-without_gone, times-without_kept, times-late-le, times-rows_in-without_row, times-late-without_row, times-rows_in-row_gone, versions_of-without_row, cleared_there, late_cleared}
use Rattle.era_core.proofs.NumberFacts.{apart_still, none_before}
use Rattle.era_core.proofs.Stays.{LeavesShared, stays, pin_same, version_same}
use Rattle.era_core.proofs.Keeps.{owned_free, owned_past, owned_most, owned_same}
use mathlib.Core.Option.{some}
use lib.ListN.{get_elem?}

module _ (passes rows : ℕ) where
  pub owned_within : (ws : List ℕ) (r : ℕ) → 0 < owned passes rows ws r → r < rows
  owned_within ws r is_owned = ⊎_elim (λ row. row) (λ past. absurd (let none = owned_past passes rows ws r past in omega arith)) (cases_lt r rows)

  module _ (ws : List ℕ) (vs : List View) (cs : List Copy) (sound : Sound passes rows ws vs cs) (i k : ℕ) (v : View) (at : get_elem? vs i ≡ some v) (mine : v.number ≡ Some k) where
    own : Fits passes rows ws vs cs v
    own = sound.each i v at

    -- a row that a view holds is in range, and stands nowhere else
    pub held_within : (r : ℕ) → In r (held v) → r < rows
    held_within r here = owned_within ws r (omega (arith, sound.places r, total-le (λ (u : View). times r (held u)) vs i v at))

    pub held_once : (r : ℕ) → times r (live passes rows ws) + times r (held v) ≤ 1
    held_once r = omega (arith, sound.places r, total-le (λ (u : View). times r (held u)) vs i v at, owned_most passes rows ws r)

    other_row : (r x : ℕ) → x ≢ r → times x (r ∷ []) ≡ 0
    other_row r x apart = times-tail x r [] apart

    frees_fresh_as : (r : ℕ) → In r v.fresh → Sound passes rows (set ws (owner_at passes rows r) 0) (set vs i (record v { fresh = without (r ∷ []) v.fresh })) cs
    frees_fresh_as r here =
        let us = set ws (owner_at passes rows r) 0 in
        let w = record v { fresh = without (r ∷ []) v.fresh } in
        let parts = times-append r v.fresh (rows_in v.retired) in
        let row : r < rows = held_within r (omega arith) in
        let leaves : LeavesShared passes rows ws us vs k v w = record {
          long = length-set ws (owner_at passes rows r) 0;
          root = owner_keeps_root passes rows ws r 0;
          others = λ j pass apart. owner_keeps_reservation passes rows ws r 0 j pass;
          cells = λ x p shared place. owner_keeps_cell passes rows ws r 0 x p row;
          before = mine;
          number = mine;
          retired = refl;
        } in
        let same = version_same passes rows ws us vs cs sound i k v w at leaves in
        let kept : (j : ℕ) → v.number ≡ Some j → reservation passes rows us j ≡ reservation passes rows ws j = λ j is. owner_keeps_reservation passes rows ws r 0 j (own.numbered j is) in
        let freed : owned passes rows us r ≡ 0 = owned_free passes rows us r (owner_stored passes rows ws r 0 sound.long row) in
        let gone = times-without_gone r (r ∷ []) v.fresh (in_head r []) in
        let once = held_once r in
        let most = owned_most passes rows ws r in
        let was_owned : owned passes rows ws r ≡ times r v.fresh = omega (arith, sound.places r, total-le (λ (u : View). times r (held u)) vs i v at) in
        stays passes rows ws us vs cs sound i k v w at leaves
        (λ m q pinned. inl pinned)
        (record {
          numbered = own.numbered;
          older = λ b old. omega (arith, own.older b old);
          named = own.named;
          pin = λ j m q is pinned. pin_same passes rows ws us vs cs sound i k v w at leaves j m q v.retired (kept j is) (own.pin j m q is pinned);
          noted = λ m is. omega (arith, own.noted m is);
          newer = own.newer;
          announced = λ j m is loose reserves. own.announced j m is loose (sym (kept j is) ∙ reserves);
          settled = own.settled;
          scan = own.scan;
        })
        (λ j u there. ⊎_elim (λ new. subst (λ (z : View). Scans z w) new.1 (sound.scans i i v v at at)) (λ was. sound.scans j i u v was.1 at) (at_set vs i j w u there))
        (λ x. ⊎_elim
        (λ e. subst (λ (y : ℕ). times y w.fresh + owned passes rows ws y ≡ times y v.fresh + owned passes rows us y) (sym e) (omega arith))
        (λ apart.
        let one = times-without_kept x (r ∷ []) v.fresh (other_row r x apart) in
        let e = owned_same passes rows ws us x (λ inside. owner_keeps_owner passes rows ws r 0 x apart) in
        omega arith)
        (cases_eq x r))

    pub frees_fresh : (r : ℕ) → In r v.fresh → Sound passes rows (set ws (owner_at passes rows r) 0) (set vs i (freeing r v)) cs
    frees_fresh r here =
        let w = record v { fresh = without (r ∷ []) v.fresh } in
        let u = record v { retired = without_row r v.retired } in
        let e : freeing r v ≡ w = ap (λ b. cond b w u) (lt-ltb 0 (times r v.fresh) here) in
        let P : View → Type 0 = λ z. Sound passes rows (set ws (owner_at passes rows r) 0) (set vs i z) cs in
        subst P (sym e) (frees_fresh_as r here)

    module _ (r : ℕ) (whole : v.scanned ≡ passes) (cleared : list_any (λ b. is_in r b.1 && clears v.least b.0) v.retired ≡ true) where
      abbrev us : List ℕ
      us = set ws (owner_at passes rows r) 0

      abbrev w : View
      w = record v { retired = without_row r v.retired }

      retired_here : In r (rows_in v.retired)
      retired_here = cleared_there r v.least v.retired cleared

      held_here : In r (held v)
      held_here = omega (arith, times-append r v.fresh (rows_in v.retired), retired_here)

      row : r < rows
      row = held_within r held_here

      not_fresh : times r v.fresh ≡ 0
      not_fresh = omega (arith, held_once r, times-append r v.fresh (rows_in v.retired), retired_here)

      not_live : times r (live passes rows ws) ≡ 0
      not_live = omega (arith, held_once r, held_here)

      same_root : slice_index us 0 ≡ slice_index ws 0
      same_root = owner_keeps_root passes rows ws r 0

      same_version : version us ≡ version ws
      same_version = ap (λ x. x / ROOT_ROWS) same_root

      same_cell : (x p : ℕ) → cell passes rows us x p ≡ cell passes rows ws x p
      same_cell x p = owner_keeps_cell passes rows ws r 0 x p row

      same_live : live passes rows us ≡ live passes rows ws
      same_live = ap (λ x. tree_at passes rows us (x % ROOT_ROWS)) same_root ∙ tree_stays passes rows ws us (root_row ws) (λ x p here place. same_cell x p)

      same_reservation : (j : ℕ) → j < passes → reservation passes rows us j ≡ reservation passes rows ws j
      same_reservation j pass = owner_keeps_reservation passes rows ws r 0 j pass

      same_stands : (cells : List Cell) → Stands passes rows ws cells → Stands passes rows us cells
      same_stands cells stands j c here = same_cell c.row c.place ∙ stands j c here

      -- what the other views hold of a row
      others : (View → ℕ) → ℕ
      others f = total f (set vs i (start_view 0))

      -- where the row is kept for a version, the freed batch is the one that has it
      late_here : (n : ℕ) → IsKept passes rows ws vs n r → In r (late n v.retired)
      late_here n kept =
          let f : View → ℕ = λ u. times r (late n u.retired) in
          let h : View → ℕ = λ u. times r (held u) in
          let le = total-le_total f h (set vs i (start_view 0)) (λ u. omega (arith, times-late-le r n u.retired, times-append r u.fresh (rows_in u.retired))) in
          let fs = total-set f vs i v (start_view 0) at in
          let hs = total-set h vs i v (start_view 0) at in
          let zero_f : f (start_view 0) ≡ 0 = refl in
          let zero_h : h (start_view 0) ≡ 0 = refl in
          omega (arith, sound.places r, owned_most passes rows ws r, held_here, not_live)

      -- no pinned view can read the row
      unread : (j : ℕ) (u : View) → get_elem? vs j ≡ some u → (m n q : ℕ) → u.number ≡ Some m → u.pinned ≡ Some (n, q) → IsKept passes rows ws vs n r → ⊥
      unread j u there m n q is pinned kept =
          let batch = late_cleared r n v.least v.retired (omega (arith, held_once r, times-append r v.fresh (rows_in v.retired))) cleared (late_here n kept) in
          let seen : m < v.scanned = omega (arith, whole, (sound.each j u there).numbered m is) in
          false≢true (sym (sound.scans j i u v there at m n q batch.0 is pinned seen batch.1 batch.2) ∙ batch.3)

      kept_still : (n x : ℕ) → x ≢ r → IsKept passes rows ws vs n x → IsKept passes rows us (set vs i w) n x
      kept_still n x apart kept =
          let one : times x (live passes rows us) ≡ times x (live passes rows ws) = ap (times x) same_live in
          let f : View → ℕ = λ u. times x (late n u.retired) in
          let fs = total-set f vs i v w at in
          let e = times-late-without_row x r n v.retired apart in
          omega arith

      pin_still : (j : ℕ) (u : View) → get_elem? vs j ≡ some u → (m n q : ℕ) → u.number ≡ Some m → u.pinned ≡ Some (n, q) → (retired : List Batch)
          → ((b : ℕ) → In b (versions_of retired) → In b (versions_of u.retired)) → IsPinned passes rows us (set vs i w) cs m retired n q
      pin_still j u there m n q is pinned retired fewer =
          let fits = sound.each j u there in
          let pin = fits.pin m n q is pinned in
          let same = same_reservation m (fits.numbered m is) in
          record {
            has_reserved = omega (arith, same, pin.has_reserved);
            early = omega (arith, same, pin.early);
            published = omega (arith, same_version, pin.published);
            rooted = pin.rooted;
            stands = λ c at_n. same_stands c.cells (pin.stands c at_n);
            kept = λ c at_n x here.
                let was = pin.kept c at_n x here in
                ⊎_elim
                (λ e. absurd (unread j u there m n q is pinned (subst (IsKept passes rows ws vs n) e was)))
                (λ apart. kept_still n x apart was)
                (cases_eq x r);
            own = λ b here. ⊎_elim (λ low. inl (omega (arith, same))) (λ e. inr e) (pin.own b (fewer b here));
          }

      fits_still : (j : ℕ) (u x : View) → get_elem? vs j ≡ some u → x.number ≡ u.number → x.noted ≡ u.noted → x.pinned ≡ u.pinned → x.scanned ≡ u.scanned
          → ((b : ℕ) → In b (versions_of x.retired) → In b (versions_of u.retired)) → Fits passes rows us (set vs i w) cs x
      fits_still j u x there number noted pinned scanned fewer =
          let fits = sound.each j u there in
          record {
            numbered = λ m is. fits.numbered m (sym number ∙ is);
            older = λ b here. omega (arith, same_version, fits.older b (fewer b here));
            named = λ n q is e. fits.named n q (sym pinned ∙ is) (sym number ∙ e);
            pin = λ m n q is is_pinned. pin_still j u there m n q (sym number ∙ is) (sym pinned ∙ is_pinned) x.retired fewer;
            noted = λ n is. omega (arith, same_version, fits.noted n (sym noted ∙ is));
            newer = λ n b is here. fits.newer n b (sym noted ∙ is) (fewer b here);
            announced = λ m n is loose reserves.
                noted ∙ fits.announced m n (sym number ∙ is) (sym pinned ∙ loose) (sym (same_reservation m (fits.numbered m (sym number ∙ is))) ∙ reserves);
            settled = λ n q is. noted ∙ fits.settled n q (sym pinned ∙ is);
            scan = omega (arith, scanned, fits.scan);
          }

      -- where a view stands after the step, and which view stood there before
      pair : (a b : ℕ) (x y : View) → get_elem? (set vs i w) a ≡ some x → get_elem? (set vs i w) b ≡ some y → Scans x y
      pair a b x y xa yb =
          let fewer = λ (c : ℕ) (here : In c (versions_of (without_row r v.retired))). versions_of-without_row c r v.retired here in
          ⊎_elim
          (λ y_new. ⊎_elim
          (λ x_new. subst (λ (z : View). Scans x z) y_new.1 (subst (λ (z : View). Scans z w) x_new.1 (λ m n q c is pinned seen here low. sound.scans i i v v at at m n q c is pinned seen (fewer c here) low)))
          (λ x_old. subst (λ (z : View). Scans x z) y_new.1 (λ m n q c is pinned seen here low. sound.scans a i x v x_old.1 at m n q c is pinned seen (fewer c here) low))
          (at_set vs i a w x xa))
          (λ y_old. ⊎_elim
          (λ x_new. subst (λ (z : View). Scans z y) x_new.1 (sound.scans i b v y at y_old.1))
          (λ x_old. sound.scans a b x y x_old.1 y_old.1)
          (at_set vs i a w x xa))
          (at_set vs i b w y yb)

      frees_retired_as : Sound passes rows us (set vs i w) cs
      frees_retired_as = record {
        long = length-set ws (owner_at passes rows r) 0 ∙ sound.long;
        counted = sound.counted ∙ ap (λ x. x + 1) (sym same_version);
        rooted = λ c there. sound.rooted c (ap (λ n. get_elem? cs n) (sym same_version) ∙ there) ∙ ap (λ x. x % ROOT_ROWS) (sym same_root);
        stands = λ c there. same_stands c.cells (sound.stands c (ap (λ n. get_elem? cs n) (sym same_version) ∙ there));
        current = λ c there. sound.current c (ap (λ n. get_elem? cs n) (sym same_version) ∙ there) ∙ sym same_live;
        places = λ x.
            let one : times x (live passes rows us) ≡ times x (live passes rows ws) = ap (times x) same_live in
            let both = total-set (λ (u : View). times x (held u)) vs i v w at in
            let before = times-append x v.fresh (rows_in v.retired) in
            let after = times-append x v.fresh (rows_in (without_row r v.retired)) in
            ⊎_elim
            (λ e.
            let F : ℕ → Type 0 = λ y. times y v.fresh ≡ 0 in
            let fresh = subst F (sym e) not_fresh in
            let G : ℕ → Type 0 = λ y. times y (rows_in (without_row r v.retired)) ≡ 0 in
            let left = subst G (sym e) (times-rows_in-row_gone r v.retired) in
            let H : ℕ → Type 0 = λ y. owned passes rows us y ≡ 0 in
            let now = subst H (sym e) (owned_free passes rows us r (owner_stored passes rows ws r 0 sound.long row)) in
            let I : ℕ → Type 0 = λ y. In y (rows_in v.retired) in
            let here = subst I (sym e) retired_here in
            omega (arith, sound.places x, owned_most passes rows ws x))
            (λ apart.
            let left = times-rows_in-without_row x r v.retired apart in
            let e = owned_same passes rows ws us x (λ inside. owner_keeps_owner passes rows ws r 0 x apart) in
            omega (arith, sound.places x))
            (cases_eq x r);
        each = λ j u there.
            ⊎_elim
            (λ new. subst (λ (x : View). Fits passes rows us (set vs i w) cs x) new.1 (fits_still i v w at refl refl refl refl (λ b here. versions_of-without_row b r v.retired here)))
            (λ was. fits_still j u u was.1 refl refl refl refl (λ b here. here))
            (at_set vs i j w u there);
        apart = apart_still vs i k v w at mine mine sound.apart;
        silent = λ m pass none. same_reservation m pass ∙ sound.silent m pass (none_before vs i k v w at mine mine m none);
        scans = pair;
        closed = sound.closed;
      }

      pub frees_retired : Sound passes rows (set ws (owner_at passes rows r) 0) (set vs i (freeing r v)) cs
      frees_retired =
          let u = record v { fresh = without (r ∷ []) v.fresh } in
          let e : freeing r v ≡ w = ap (λ b. cond b u w) (le-ltb 0 (times r v.fresh) (omega (arith, not_fresh))) in
          let P : View → Type 0 = λ z. Sound passes rows us (set vs i z) cs in
          subst P (sym e) frees_retired_as
