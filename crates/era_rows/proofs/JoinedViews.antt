-- A pass that is joined into another leaves the machine sound.
use Rattle.std.proofs.Common.{◌≡◌, ◌≢◌, ℕ, zero, suc, ◌+◌, ◌<◌, ◌⊎◌, ⊎_elim, inl, inr, Some, None, List, set, refl, sym, ap, subst, ◌∙◌, arith}
use Rattle.std.proofs.lemmas.Bool.{cases_eq}
use Rattle.std.proofs.lemmas.Option.{same_Some, none-some}
use Rattle.era_core.specs.Lists.{times, total}
use Rattle.era_core.specs.Words.{reservation}
use Rattle.era_core.specs.Views.{View, rows_in, versions_of, late, held}
use Rattle.era_core.specs.Versions.{Copy}
use Rattle.era_core.specs.Sound.{Scans, IsKept, Fits, Sound}
use Rattle.era_core.proofs.ListFacts.{times-append, total-set, at_set, set_here, set_else}
use Rattle.era_core.proofs.BatchFacts.{one_of_two, times-rows_in-append, times-late-append, times-versions_of-append}
use Rattle.era_rows.specs.Known.{joining, spent_view}
use mathlib.Core.Option.{some, some-injective}
use lib.ListN.{get_elem?}

module _ (passes rows : ℕ) (ws : List ℕ) (vs : List View) (cs : List Copy) (sound : Sound passes rows ws vs cs) (i k : ℕ) (u : View) (at : get_elem? vs i ≡ some u) (mine : u.number ≡ Some k)
    (j m : ℕ) (v : View) (there : get_elem? vs j ≡ some v) (theirs : v.number ≡ Some m) (other : j ≢ i)
    (u_loose : u.pinned ≡ None) (v_loose : v.pinned ≡ None) (u_calm : u.noted ≡ None) (v_calm : v.noted ≡ None) where
  abbrev both : View
  both = joining u v

  abbrev half : List View
  half = set vs i both

  abbrev joined : List View
  joined = set half j spent_view

  still_there : get_elem? half j ≡ some v
  still_there = set_else vs i j both other ∙ there

  -- what is summed over all views stays, where the joined view has what both had and a spent one has nothing
  same_total : (f : View → ℕ) → f both ≡ f u + f v → f spent_view ≡ 0 → total f joined ≡ total f vs
  same_total f sum none = let first = total-set f vs i u both at in let second = total-set f half j v spent_view still_there in omega arith

  -- where a view stands afterwards, and which stood there before
  at_joined : (a : ℕ) (x : View) → get_elem? joined a ≡ some x → ((a ≡ j) × (spent_view ≡ x)) ⊎ (((a ≡ i) × (both ≡ x)) ⊎ ((a ≢ j) × (a ≢ i) × (get_elem? vs a ≡ some x)))
  at_joined a x here =
      ⊎_elim
      (λ spent. inl spent)
      (λ rest. inr (⊎_elim (λ new. inl new) (λ old. inr (rest.0, old.0, old.1)) (at_set vs i a both x rest.1)))
      (at_set half j a spent_view x here)

  kept_still : (n r : ℕ) → IsKept passes rows ws vs n r → IsKept passes rows ws joined n r
  kept_still n r kept =
      let same = same_total (λ (x : View). times r (late n x.retired)) (times-late-append r n u.retired v.retired) refl in omega arith

  fits_old : (a : ℕ) (x : View) → get_elem? vs a ≡ some x → Fits passes rows ws joined cs x
  fits_old a x here =
      let fits = sound.each a x here in
      record {
        numbered = fits.numbered;
        older = fits.older;
        named = fits.named;
        pin = λ q n r is pinned.
            let pin = fits.pin q n r is pinned in
            record {
              has_reserved = pin.has_reserved;
              early = pin.early;
              published = pin.published;
              rooted = pin.rooted;
              stands = pin.stands;
              kept = λ c at_n y in_it. kept_still n y (pin.kept c at_n y in_it);
              own = pin.own;
            };
        noted = fits.noted;
        newer = fits.newer;
        announced = fits.announced;
        settled = fits.settled;
        scan = fits.scan;
      }

  fits_both : Fits passes rows ws joined cs both
  fits_both = record {
    numbered = (sound.each i u at).numbered;
    older = λ b here.
        ⊎_elim
        (λ first. (sound.each i u at).older b first)
        (λ second. (sound.each j v there).older b second)
        (one_of_two (times b (versions_of u.retired)) (times b (versions_of v.retired)) (omega (arith, times-versions_of-append b u.retired v.retired)));
    named = λ n r pinned. absurd (none-some (n, r) (sym u_loose ∙ pinned));
    pin = λ q n r is pinned. absurd (none-some (n, r) (sym u_loose ∙ pinned));
    noted = λ n is. absurd (none-some n (sym u_calm ∙ is));
    newer = λ n b is here. absurd (none-some n (sym u_calm ∙ is));
    announced = (sound.each i u at).announced;
    settled = λ n r pinned. absurd (none-some (n, r) (sym u_loose ∙ pinned));
    scan = omega arith;
  }

  fits_spent : Fits passes rows ws joined cs spent_view
  fits_spent = record {
    numbered = λ q is. absurd (none-some q is);
    older = λ b here. absurd (omega arith);
    named = λ n r pinned. absurd (none-some (n, r) pinned);
    pin = λ q n r is pinned. absurd (none-some q is);
    noted = λ n is. absurd (none-some n is);
    newer = λ n b is here. absurd (none-some n is);
    announced = λ q n is loose reserves. absurd (none-some q is);
    settled = λ n r pinned. absurd (none-some (n, r) pinned);
    scan = omega arith;
  }

  -- a view with a number stood before at the same place, with the same number
  numbered_before : (a q : ℕ) (x : View) → get_elem? joined a ≡ some x → x.number ≡ Some q → (y : View) × (get_elem? vs a ≡ some y) × (y.number ≡ Some q)
  numbered_before a q x here is =
      ⊎_elim
      (λ spent. absurd (none-some q (ap (λ (y : View). y.number) spent.1 ∙ is)))
      (λ rest. ⊎_elim
      (λ new. (u, ap (get_elem? vs) new.0 ∙ at, ap (λ (y : View). y.number) new.1 ∙ is))
      (λ old. (x, old.2, is))
      rest)
      (at_joined a x here)

  -- a pass that is not pinned and has noted nothing has reserved nothing
  nothing_reserved : reservation passes rows ws m ≡ 0
  nothing_reserved = by_word (reservation passes rows ws m) refl
    where
      by_word : (n : ℕ) → reservation passes rows ws m ≡ n → n ≡ 0
      by_word zero e = refl
      by_word (suc n) e = absurd (none-some n (sym v_calm ∙ (sound.each j v there).announced m n theirs v_loose (let f : suc n ≡ n + 1 = omega arith in e ∙ f)))

  -- a pass without a view has had none before, or is the one that was joined
  silent_still : (q : ℕ) → q < passes → ((a : ℕ) (x : View) → get_elem? joined a ≡ some x → x.number ≢ Some q) → reservation passes rows ws q ≡ 0
  silent_still q pass none =
      ⊎_elim
      (λ e. ap (reservation passes rows ws) e ∙ nothing_reserved)
      (λ apart. sound.silent q pass (λ a x here is.
      ⊎_elim
      (λ e. apart (same_Some q m (sym is ∙ ap (λ (y : View). y.number) (some-injective x v (sym here ∙ ap (get_elem? vs) e ∙ there)) ∙ theirs)))
      (λ not_j. ⊎_elim
      (λ e. none i both (set_else half j i spent_view (λ same. other (sym same)) ∙ set_here vs i u both at)
      (ap (λ (y : View). y.number) (some-injective u x (sym at ∙ ap (get_elem? vs) (sym e) ∙ here)) ∙ is))
      (λ not_i. none a x (set_else half j a spent_view not_j ∙ set_else vs i a both not_i ∙ here) is)
      (cases_eq a i))
      (cases_eq a j)))
      (cases_eq q m)

  scans_still : (a b : ℕ) (x y : View) → get_elem? joined a ≡ some x → get_elem? joined b ≡ some y → Scans x y
  scans_still a b x y xa yb =
      ⊎_elim
      (λ spent. subst (λ (z : View). Scans x z) spent.1 (λ q n r c is pinned seen here low. absurd (omega arith)))
      (λ y_rest. ⊎_elim
      (λ new. subst (λ (z : View). Scans x z) new.1 (λ q n r c is pinned seen here low. absurd (omega arith)))
      (λ y_old. ⊎_elim
      (λ spent. subst (λ (z : View). Scans z y) spent.1 (λ q n r c is pinned seen here low. absurd (none-some q is)))
      (λ x_rest. ⊎_elim
      (λ new. subst (λ (z : View). Scans z y) new.1 (λ q n r c is pinned seen here low. absurd (none-some (n, r) (sym u_loose ∙ pinned))))
      (λ x_old. sound.scans a b x y x_old.2 y_old.2)
      x_rest)
      (at_joined a x xa))
      y_rest)
      (at_joined b y yb)

  -- the first view takes over what the second one holds, and the second is spent
  pub joins : Sound passes rows ws (set (set vs i (joining u v)) j spent_view) cs
  joins = record {
    long = sound.long;
    counted = sound.counted;
    rooted = sound.rooted;
    stands = sound.stands;
    current = sound.current;
    places = λ r.
        let a = times-append r u.fresh (rows_in u.retired) in
        let b = times-append r v.fresh (rows_in v.retired) in
        let c = times-append r both.fresh (rows_in both.retired) in
        let d = times-append r u.fresh v.fresh in
        let e = times-rows_in-append r u.retired v.retired in
        let same = same_total (λ (x : View). times r (held x)) (omega arith) refl in omega (arith, sound.places r);
    each = λ a x here.
        ⊎_elim
        (λ spent. subst (λ (z : View). Fits passes rows ws joined cs z) spent.1 fits_spent)
        (λ rest. ⊎_elim
        (λ new. subst (λ (z : View). Fits passes rows ws joined cs z) new.1 fits_both)
        (λ old. fits_old a x old.2)
        rest)
        (at_joined a x here);
    apart = λ a b x y q xa yb xq yq.
        let first = numbered_before a q x xa xq in
        let second = numbered_before b q y yb yq in
        sound.apart a b first.0 second.0 q first.1 second.1 first.2 second.2;
    silent = silent_still;
    scans = scans_still;
    closed = sound.closed;
  }
