-- Publish keeps what is sound, with the new tree's copy at the end of the versions.
use Rattle.std.proofs.Common.{◌≡◌, ℕ, zero, suc, ◌+◌, ◌/◌, ◌%◌, ◌<◌, ◌≤◌, ◌⊎◌, ⊎_elim, inl, inr, cond, leb, Some, List, [], ◌∷◌, ◌++◌, length, set, slice_index, refl, sym, ap, subst, ◌∙◌, arith, length-set, length-append, get_or-set_same, le-leb}
use Rattle.std.proofs.lemmas.Bool.{cases_eq}
use Rattle.std.proofs.lemmas.Option.{same_Some, none-some}
use Rattle.era_core.specs.declared.sizes.TheConstants.{ROOT_ROWS}
use Rattle.era_core.specs.Lists.{times, In, without}
use Rattle.era_core.specs.Words.{root_word, version, root_row, reservation, tree_at, live}
use Rattle.era_core.specs.Views.{Batch, View, rows_in, versions_of, late, held, batch_of, publishing}
use Rattle.era_core.specs.Versions.{Cell, Copy, IsClosed, Stands, known_links}
use Rattle.era_core.specs.Sound.{Scans, IsKept, IsPinned, Fits, Sound}
use Rattle.era_core.proofs.ListFacts.{times-append, total-le, total-set, total-le_total, at_set, at_push, at_below, at_within}
use Rattle.era_core.proofs.WordFacts.{root_keeps_reservation, root_keeps_owner, root_keeps_cell}
use Rattle.era_core.proofs.TreeFacts.{tree_stays, tree_root}
use Rattle.era_core.proofs.BatchFacts.{one_of_two, times-without_gone, times-without_kept, times-late-append, times-rows_in-append, times-rows_in-batch_of, times-late-batch_of, times-versions_of-append, versions_of-batch_of}
use Rattle.era_core.proofs.NumberFacts.{apart_still, none_before}
use Rattle.era_core.proofs.Stays.{IsShared, kept_shared}
use Rattle.era_core.proofs.Keeps.{owned_most, owned_same}
use Rattle.era_core.proofs.Frees.{owned_within, held_within}
use mathlib.Core.Option.{some}
use lib.ListN.{get_elem?}

-- the parts of a root word
pub root_word-version : (n r : ℕ) → r < ROOT_ROWS → root_word n r / ROOT_ROWS ≡ n
root_word-version n r small = omega arith

pub root_word-row : (n r : ℕ) → r < ROOT_ROWS → root_word n r % ROOT_ROWS ≡ r
root_word-row n r small = omega arith

module _ (passes rows : ℕ) where
  -- a live or retired row is in range
  pub shared_within : (ws : List ℕ) (vs : List View) (cs : List Copy) → Sound passes rows ws vs cs → (x : ℕ) → IsShared passes rows ws vs x → x < rows
  shared_within ws vs cs sound x shared =
      let le = total-le_total (λ (u : View). times x (rows_in u.retired)) (λ (u : View). times x (held u)) vs (λ u. omega (arith, times-append x u.fresh (rows_in u.retired))) in
      owned_within passes rows ws x (omega (arith, sound.places x))

  -- the root row of a pinned version is in range
  pub pin_within : (ws : List ℕ) (vs : List View) (cs : List Copy) → Sound passes rows ws vs cs → (k n p : ℕ) (retired : List Batch) → IsPinned passes rows ws vs cs k retired n p → p < rows
  pin_within ws vs cs sound k n p retired pin =
      let found = at_below cs n (omega (arith, sound.counted, pin.published)) in
      let c = found.0 in
      let here : In c.root c.rows = subst (In c.root) (sym (sound.closed n c found.1).is_tree) (tree_root (known_links c.cells) rows c.root) in
      let inside = shared_within ws vs cs sound c.root (kept_shared passes rows ws vs n c.root (pin.kept c found.1 c.root here)) in
      let e = pin.rooted c found.1 in omega arith

  module _ (ws : List ℕ) (vs : List View) (cs : List Copy) (sound : Sound passes rows ws vs cs) (i k : ℕ) (v : View) (at : get_elem? vs i ≡ some v) (mine : v.number ≡ Some k)
      (n p q : ℕ) (pinned : v.pinned ≡ Some (n, p)) (found : slice_index ws 0 ≡ root_word n p) (few : rows ≤ ROOT_ROWS) (fresh_root : In q v.fresh)
      (parts : (x : ℕ) → In x (tree_at passes rows ws q) → In x v.fresh ⊎ In x (tree_at passes rows ws p))
      (c : Copy) (root_is : c.root ≡ q) (rows_are : c.rows ≡ tree_at passes rows ws q) (stands : Stands passes rows ws c.cells) (closed : IsClosed rows c) where
    abbrev us : List ℕ
    us = set ws 0 (root_word (n + 1) q)

    abbrev old : List ℕ
    old = tree_at passes rows ws p

    abbrev new : List ℕ
    new = tree_at passes rows ws q

    abbrev w : View
    w = publishing n old new v

    abbrev ds : List Copy
    ds = cs ++ c ∷ []

    own : Fits passes rows ws vs cs v
    own = sound.each i v at

    pin : IsPinned passes rows ws vs cs k v.retired n p
    pin = own.pin k n p mine pinned

    once : (x : ℕ) → times x new ≤ 1
    once x = let P : List ℕ → Type 0 = λ xs. times x xs ≤ 1 in subst P rows_are (closed.once x)

    p_small : p < ROOT_ROWS
    p_small = omega (arith, pin_within ws vs cs sound k n p v.retired pin)

    q_small : q < ROOT_ROWS
    q_small = omega (arith, held_within passes rows ws vs cs sound i k v at mine q (omega (arith, times-append q v.fresh (rows_in v.retired))))

    version_was : version ws ≡ n
    version_was = ap (λ x. x / ROOT_ROWS) found ∙ root_word-version n p p_small

    root_was : root_row ws ≡ p
    root_was = ap (λ x. x % ROOT_ROWS) found ∙ root_word-row n p p_small

    stored : slice_index us 0 ≡ root_word (n + 1) q
    stored = get_or-set_same ws 0 (root_word (n + 1) q) 0 (omega (arith, sound.long))

    version_is : version us ≡ n + 1
    version_is = ap (λ x. x / ROOT_ROWS) stored ∙ root_word-version (n + 1) q q_small

    root_row_is : root_row us ≡ q
    root_row_is = ap (λ x. x % ROOT_ROWS) stored ∙ root_word-row (n + 1) q q_small

    old_is : live passes rows ws ≡ old
    old_is = ap (tree_at passes rows ws) root_was

    new_is : live passes rows us ≡ new
    new_is = ap (tree_at passes rows us) root_row_is ∙ tree_stays passes rows ws us q (λ x a here place. root_keeps_cell passes rows ws (root_word (n + 1) q) x a)

    same_stands : (cells : List Cell) → Stands passes rows ws cells → Stands passes rows us cells
    same_stands cells was j x here = root_keeps_cell passes rows ws (root_word (n + 1) q) x.row x.place ∙ was j x here

    same_reservation : (j : ℕ) → reservation passes rows us j ≡ reservation passes rows ws j
    same_reservation j = root_keeps_reservation passes rows ws (root_word (n + 1) q) j

    long_before : length cs ≡ n + 1
    long_before = omega (arith, sound.counted, version_was)

    -- a version of before is a version still, and no other has its number
    old_copy : (m : ℕ) (x : Copy) → m ≤ n → get_elem? ds m ≡ some x → get_elem? cs m ≡ some x
    old_copy m x low there = ⊎_elim (λ was. was) (λ last. absurd (let e = last.0 in omega (arith, long_before))) (at_push cs c x m there)

    last_copy : (x : Copy) → get_elem? ds (version us) ≡ some x → c ≡ x
    last_copy x there = ⊎_elim (λ was. absurd (omega (arith, at_within cs (version us) x was, long_before, version_is))) (λ last. last.1) (at_push cs c x (version us) there)

    -- a row that was live is live still, or retired with version n
    live_or_retired : (x m : ℕ) → m ≤ n → times x old ≤ times x new + times x (late m (batch_of n (without new old)))
    live_or_retired x m low =
        let batch = times-late-batch_of x m n (without new old) in
        let is_late : times x (cond (leb m n) (without new old) []) ≡ times x (without new old) = ap (λ b. times x (cond b (without new old) [])) (le-leb m n low) in
        let most : times x old ≤ 1 = omega (arith, sound.places x, owned_most passes rows ws x, ap (times x) old_is) in
        ⊎_elim
        (λ none. let kept = times-without_kept x new old none in omega arith)
        (λ here. omega arith)
        (cases_lt_one (times x new))
      where
        cases_lt_one : (a : ℕ) → (a ≡ 0) ⊎ (0 < a)
        cases_lt_one zero = inl refl
        cases_lt_one (suc a) = inr (omega arith)

    kept_still : (m x : ℕ) → m ≤ n → IsKept passes rows ws vs m x → IsKept passes rows us (set vs i w) m x
    kept_still m x low kept =
        let f : View → ℕ = λ u. times x (late m u.retired) in
        let fs = total-set f vs i v w at in
        omega (arith, times-late-append x m v.retired (batch_of n (without new old)), live_or_retired x m low, ap (times x) old_is, ap (times x) new_is)

    pin_still : (j m r : ℕ) (was now : List Batch) → IsPinned passes rows ws vs cs j was m r → ((b : ℕ) → In b (versions_of now) → In b (versions_of was) ⊎ ((b ≡ n) × (m ≡ n))) → IsPinned passes rows us (set vs i w) ds j now m r
    pin_still j m r was now held fewer = record {
      has_reserved = omega (arith, same_reservation j, held.has_reserved);
      early = omega (arith, same_reservation j, held.early);
      published = omega (arith, held.published, version_was, version_is);
      rooted = λ x there. held.rooted x (old_copy m x (omega (arith, held.published, version_was)) there);
      stands = λ x there. same_stands x.cells (held.stands x (old_copy m x (omega (arith, held.published, version_was)) there));
      kept = λ x there r here. kept_still m r (omega (arith, held.published, version_was)) (held.kept x (old_copy m x (omega (arith, held.published, version_was)) there) r here);
      own = λ b here.
          ⊎_elim
          (λ there. ⊎_elim (λ low. inl (omega (arith, same_reservation j))) (λ e. inr e) (held.own b there))
          (λ last. inr (last.0 ∙ sym last.1))
          (fewer b here);
    }

    fits_other : (j : ℕ) (u : View) → get_elem? vs j ≡ some u → Fits passes rows us (set vs i w) ds u
    fits_other j u there =
        let fits = sound.each j u there in
        record {
          numbered = fits.numbered;
          older = λ b here. omega (arith, version_is, version_was, fits.older b here);
          named = fits.named;
          pin = λ a m r is is_pinned. pin_still a m r u.retired u.retired (fits.pin a m r is is_pinned) (λ b here. inl here);
          noted = λ m is. omega (arith, version_is, version_was, fits.noted m is);
          newer = fits.newer;
          announced = λ a m is loose reserves. fits.announced a m is loose (sym (same_reservation a) ∙ reserves);
          settled = fits.settled;
          scan = fits.scan;
        }

    -- a batch of the new view is one of before, or the new one
    batch_cases : (b : ℕ) → In b (versions_of w.retired) → In b (versions_of v.retired) ⊎ (b ≡ n)
    batch_cases b here =
        ⊎_elim
        (λ was. inl was)
        (λ added. inr (versions_of-batch_of b n (without new old) added))
        (one_of_two (times b (versions_of v.retired)) (times b (versions_of (batch_of n (without new old)))) (omega (arith, times-versions_of-append b v.retired (batch_of n (without new old)))))

    fits_own : Fits passes rows us (set vs i w) ds w
    fits_own = record {
      numbered = own.numbered;
      older = λ b here. ⊎_elim (λ was. omega (arith, version_is, version_was, own.older b was)) (λ e. omega (arith, version_is)) (batch_cases b here);
      named = own.named;
      pin = λ a m r is is_pinned.
          let e : n ≡ m = ap (λ (t : ℕ × ℕ). t.0) (same_Some (n, p) (m, r) (sym pinned ∙ is_pinned)) in
          pin_still a m r v.retired w.retired (own.pin a m r is is_pinned) (λ b here. ⊎_elim inl (λ last. inr (last, sym e)) (batch_cases b here));
      noted = λ m is. omega (arith, version_is, version_was, own.noted m is);
      newer = λ m b is here. absurd (none-some m (sym (own.settled n p pinned) ∙ is));
      announced = λ a m is loose reserves. absurd (none-some (n, p) (sym loose ∙ pinned));
      settled = own.settled;
      scan = omega arith;
    }

    -- of each row: live, or held by the new view
    moved : (x : ℕ) → times x new + times x (held w) ≡ times x old + times x (held v)
    moved x =
        let a = times-append x (without new v.fresh) (rows_in (v.retired ++ batch_of n (without new old))) in
        let b = times-append x v.fresh (rows_in v.retired) in
        let d = times-rows_in-append x v.retired (batch_of n (without new old)) in
        let e = times-rows_in-batch_of x n (without new old) in
        let whole = total-le (λ (u : View). times x (held u)) vs i v at in
        let most = owned_most passes rows ws x in
        let was = ap (times x) old_is in
        ⊎_elim
        (λ none.
        let f = times-without_kept x new v.fresh none in
        let g = times-without_kept x new old none in omega arith)
        (λ there.
        let here : In x new = positive (times x new) there in
        let f = times-without_gone x new v.fresh here in
        let g = times-without_gone x new old here in
        let one = once x in
        ⊎_elim (λ fresh. omega (arith, sound.places x)) (λ kept. omega (arith, sound.places x)) (parts x here))
        (cases_eq (times x new) 0)
      where
        positive : (y : ℕ) → (y ≡ 0 → ⊥) → 0 < y
        positive zero no_zero = absurd (no_zero refl)
        positive (suc y) no_zero = omega arith

    pair : (a b : ℕ) (x y : View) → get_elem? (set vs i w) a ≡ some x → get_elem? (set vs i w) b ≡ some y → Scans x y
    pair a b x y xa yb =
        ⊎_elim
        (λ y_new. subst (λ (z : View). Scans x z) y_new.1 (λ j m r d is is_pinned seen here low. absurd (omega arith)))
        (λ y_old. ⊎_elim
        (λ x_new. subst (λ (z : View). Scans z y) x_new.1 (sound.scans i b v y at y_old.1))
        (λ x_old. sound.scans a b x y x_old.1 y_old.1)
        (at_set vs i a w x xa))
        (at_set vs i b w y yb)

    pub publishes : Sound passes rows (set ws 0 (root_word (n + 1) q)) (set vs i (publishing n (tree_at passes rows ws p) (tree_at passes rows ws q) v)) (cs ++ c ∷ [])
    publishes = record {
      long = length-set ws 0 (root_word (n + 1) q) ∙ sound.long;
      counted = length-append cs (c ∷ []) ∙ omega (arith, long_before, version_is);
      rooted = λ x there. sym (ap (λ (z : Copy). z.root) (last_copy x there)) ∙ root_is ∙ sym root_row_is;
      stands = λ x there. subst (λ (z : Copy). Stands passes rows us z.cells) (last_copy x there) (same_stands c.cells stands);
      current = λ x there. sym (ap (λ (z : Copy). z.rows) (last_copy x there)) ∙ rows_are ∙ sym new_is;
      places = λ x.
          let both = total-set (λ (u : View). times x (held u)) vs i v w at in
          let e = owned_same passes rows ws us x (λ inside. root_keeps_owner passes rows ws (root_word (n + 1) q) x) in
          omega (arith, sound.places x, moved x, ap (times x) old_is, ap (times x) new_is);
      each = λ j u there.
          ⊎_elim
          (λ is_new. subst (λ (z : View). Fits passes rows us (set vs i w) ds z) is_new.1 fits_own)
          (λ was. fits_other j u was.1)
          (at_set vs i j w u there);
      apart = apart_still vs i k v w at mine mine sound.apart;
      silent = λ m pass none. same_reservation m ∙ sound.silent m pass (none_before vs i k v w at mine mine m none);
      scans = pair;
      closed = λ m x there. ⊎_elim (λ was. sound.closed m x was) (λ last. subst (IsClosed rows) last.1 closed) (at_push cs c x m there);
    }
