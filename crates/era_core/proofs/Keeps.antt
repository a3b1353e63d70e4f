-- Eight of the ten events keep what is sound: all but Free and Publish. Each is a step that leaves all shared words.
use Rattle.std.proofs.Common.{◌≡◌, ◌≢◌, ℕ, zero, suc, ◌+◌, ◌-◌, ◌<◌, ◌≤◌, min, ◌⊎◌, ⊎_elim, inl, inr, Bool, true, false, cond, ltb, eqb, ◌&&◌, Option, Some, None, List, [], ◌∷◌, set, refl, sym, ap, subst, ◌∙◌, arith, length-set, lt-ltb, le-ltb, ne_eqb}
use Rattle.std.proofs.lemmas.Bool.{cases_eq, cases_lt, ltb-false, true≢false}
use Rattle.std.proofs.lemmas.Option.{same_Some, none-some}
use Rattle.era_core.specs.declared.sizes.TheConstants.{WIDTH}
use Rattle.era_core.specs.Lists.{times, In}
use Rattle.era_core.specs.Words.{version, root_row, reservation_at, owner_at, cell_at, reservation, owner, live}
use Rattle.era_core.specs.Views.{View, rows_in, held, reserved, lesser, clears, noting, pinning, reading, taking, unpinning, looking}
use Rattle.era_core.specs.Versions.{Copy}
use Rattle.era_core.specs.Sound.{Scans, owned, IsPinned, Fits, Sound}
use Rattle.era_core.proofs.ListFacts.{times-append, times-head, times-tail, total-le, total-add, at_set}
use Rattle.era_core.proofs.WordFacts.{owner_keeps_root, owner_keeps_reservation, owner_keeps_owner, owner_stored, owner_keeps_cell, reservation_keeps_root, reservation_keeps_other, reservation_stored, reservation_keeps_owner, reservation_keeps_cell, cell_keeps_root, cell_keeps_reservation, cell_keeps_owner, cell_keeps_other}
use Rattle.era_core.proofs.Stays.{IsShared, LeavesShared, stays, pin_same, kept_same, version_same}
use mathlib.Core.Option.{some}
use lib.ListN.{get_elem?}

-- a least version is no greater than each that it is made of
clears_left : (a b : Option ℕ) (n : ℕ) → clears a n ≡ false → clears (lesser a b) n ≡ false
clears_left None b n e = absurd (true≢false e)
clears_left (Some x) None n e = e
clears_left (Some x) (Some y) n e = let low = ltb-false n x e in le-ltb n (min x y) (omega arith)

clears_right : (a b : Option ℕ) (n : ℕ) → clears b n ≡ false → clears (lesser a b) n ≡ false
clears_right None b n e = e
clears_right (Some x) None n e = absurd (true≢false e)
clears_right (Some x) (Some y) n e = let low = ltb-false n y e in le-ltb n (min x y) (omega arith)

reserved_low : (w n : ℕ) → 0 < w → w ≤ n + 1 → clears (reserved w) n ≡ false
reserved_low zero n there low = absurd (omega arith)
reserved_low (suc w) n there low = le-ltb n w (omega arith)

module _ (passes rows : ℕ) where
  pub owned_free : (ws : List ℕ) (r : ℕ) → owner passes rows ws r ≡ 0 → owned passes rows ws r ≡ 0
  owned_free ws r free = ap (λ w. cond (ltb r rows && ltb 0 w) 1 0) free ∙ none (ltb r rows)
    where
      none : (b : Bool) → let n : ℕ = cond (b && ltb 0 0) 1 0 in n ≡ 0
      none true = refl
      none false = refl

  pub owned_taken : (ws : List ℕ) (r : ℕ) → r < rows → 0 < owner passes rows ws r → owned passes rows ws r ≡ 1
  owned_taken ws r row taken = ap (λ b. cond (b && ltb 0 (owner passes rows ws r)) 1 0) (lt-ltb r rows row) ∙ ap (λ b. cond b 1 0) (lt-ltb 0 (owner passes rows ws r) taken)

  pub owned_past : (ws : List ℕ) (r : ℕ) → rows ≤ r → owned passes rows ws r ≡ 0
  owned_past ws r past = ap (λ b. cond (b && ltb 0 (owner passes rows ws r)) 1 0) (le-ltb r rows past)

  pub owned_most : (ws : List ℕ) (r : ℕ) → owned passes rows ws r ≤ 1
  owned_most ws r = small (ltb r rows && ltb 0 (owner passes rows ws r))
    where
      small : (b : Bool) → cond b 1 0 ≤ 1
      small true = omega arith
      small false = omega arith

  pub owned_same : (ws us : List ℕ) (r : ℕ) → (r < rows → owner passes rows us r ≡ owner passes rows ws r) → owned passes rows us r ≡ owned passes rows ws r
  owned_same ws us r same =
      ⊎_elim
      (λ row. ap (λ w. cond (ltb r rows && ltb 0 w) 1 0) (same row))
      (λ past. owned_past us r past ∙ sym (owned_past ws r past))
      (cases_lt r rows)

  module _ (ws : List ℕ) (vs : List View) (cs : List Copy) (sound : Sound passes rows ws vs cs) (i k : ℕ) (v : View) (at : get_elem? vs i ≡ some v) (mine : v.number ≡ Some k) where
    own : Fits passes rows ws vs cs v
    own = sound.each i v at

    pub pass_within : k < passes
    pass_within = own.numbered k mine

    -- the stepping view's number is its own
    same_pass : (m : ℕ) → v.number ≡ Some m → m ≡ k
    same_pass m is = same_Some m k (sym is ∙ mine)

    -- a step that stores no word
    quiet : (w : View) → w.number ≡ Some k → w.retired ≡ v.retired → LeavesShared passes rows ws ws vs k v w
    quiet w number retired = record {
      long = refl;
      root = refl;
      others = λ j pass apart. refl;
      cells = λ x p shared place. refl;
      before = mine;
      number = number;
      retired = retired;
    }

    -- what the new view's scan must have seen, of itself and of each other view
    scans_new : (w : View) → ((j : ℕ) (u : View) → get_elem? vs j ≡ some u → Scans u w) → Scans w w → (j : ℕ) (u : View) → get_elem? (set vs i w) j ≡ some u → Scans u w
    scans_new w others self j u there =
        ⊎_elim (λ new. subst (λ (z : View). Scans z w) new.1 self) (λ was. others j u was.1) (at_set vs i j w u there)

    pub reads : (word : ℕ) → Sound passes rows ws (set vs i (reading word v)) cs
    reads word =
        let w = reading word v in
        let leaves = quiet w mine refl in
        stays passes rows ws ws vs cs sound i k v w at leaves
        (λ n r pinned. inl pinned)
        (record {
          numbered = own.numbered;
          older = own.older;
          named = own.named;
          pin = λ m n r is pinned. pin_same passes rows ws ws vs cs sound i k v w at leaves m n r v.retired refl (own.pin m n r is pinned);
          noted = own.noted;
          newer = own.newer;
          announced = own.announced;
          settled = own.settled;
          scan = own.scan;
        })
        (scans_new w (λ j u there. sound.scans j i u v there at) (sound.scans i i v v at at))
        (λ x. refl)

    pub notes : v.pinned ≡ None → reservation passes rows ws k ≡ 0 → Sound passes rows ws (set vs i (noting (version ws) v)) cs
    notes loose quiet_yet =
        let w = noting (version ws) v in
        let leaves = quiet w mine refl in
        stays passes rows ws ws vs cs sound i k v w at leaves
        (λ n r pinned. inl pinned)
        (record {
          numbered = own.numbered;
          older = own.older;
          named = own.named;
          pin = λ m n r is pinned. absurd (none-some (n, r) (sym loose ∙ pinned));
          noted = λ n is. let e = same_Some (version ws) n is in omega arith;
          newer = λ n b is here. let e = same_Some (version ws) n is in let low = own.older b here in omega arith;
          announced = λ m n is unpinned reserves. let same = ap (λ (j : ℕ). reservation passes rows ws j) (same_pass m is) in absurd (omega arith);
          settled = λ n r pinned. absurd (none-some (n, r) (sym loose ∙ pinned));
          scan = own.scan;
        })
        (scans_new w (λ j u there. sound.scans j i u v there at) (sound.scans i i v v at at))
        (λ x. refl)

    pub announces : (n : ℕ) → v.noted ≡ Some n → reservation passes rows ws k ≡ 0 → Sound passes rows (set ws (reservation_at passes rows k) (n + 1)) (set vs i v) cs
    announces n noted quiet_yet =
        let us = set ws (reservation_at passes rows k) (n + 1) in
        let leaves : LeavesShared passes rows ws us vs k v v = record {
          long = length-set ws (reservation_at passes rows k) (n + 1);
          root = reservation_keeps_root passes rows ws k (n + 1);
          others = λ j pass apart. reservation_keeps_other passes rows ws k (n + 1) j apart;
          cells = λ x p shared place. reservation_keeps_cell passes rows ws k (n + 1) x p pass_within;
          before = mine;
          number = mine;
          retired = refl;
        } in
        let same = version_same passes rows ws us vs cs sound i k v v at leaves in
        let stored = reservation_stored passes rows ws k (n + 1) sound.long pass_within in
        stays passes rows ws us vs cs sound i k v v at leaves
        (λ m r pinned. inl pinned)
        (record {
          numbered = own.numbered;
          older = λ b here. omega (arith, own.older b here);
          named = own.named;
          pin = λ j m r is pinned. absurd (none-some n (sym (own.settled m r pinned) ∙ noted));
          noted = λ m is. omega (arith, own.noted m is);
          newer = own.newer;
          announced = λ j m is loose reserves.
              let e = ap (λ (a : ℕ). reservation passes rows us a) (same_pass j is) in
              let both : n ≡ m = omega arith in noted ∙ ap Some both;
          settled = own.settled;
          scan = own.scan;
        })
        (scans_new v (λ j u there. sound.scans j i u v there at) (sound.scans i i v v at at))
        (λ x. ap (λ a. times x v.fresh + a) (sym (owned_same ws us x (λ row. reservation_keeps_owner passes rows ws k (n + 1) x pass_within))))

    pub pins : v.pinned ≡ None → 0 < reservation passes rows ws k → Sound passes rows ws (set vs i (pinning (version ws) (root_row ws) v)) cs
    pins loose reserves =
        let n = version ws in
        let r = root_row ws in
        let w = pinning n r v in
        let leaves = quiet w mine refl in
        let m : ℕ = reservation passes rows ws k - 1 in
        let whole : reservation passes rows ws k ≡ m + 1 = omega arith in
        let was : v.noted ≡ Some m = own.announced k m mine loose whole in
        let early = own.noted m was in
        let current : IsPinned passes rows ws (set vs i w) cs k v.retired n r = record {
          has_reserved = reserves;
          early = omega arith;
          published = omega arith;
          rooted = sound.rooted;
          stands = sound.stands;
          kept = λ c there x here.
              let l : In x (live passes rows ws) = subst (In x) (sound.current c there) here in
              kept_same passes rows ws ws vs cs sound i k v w at leaves n x (omega arith);
          own = λ b here. let low = own.newer m b was here in inl (omega arith);
        } in
        stays passes rows ws ws vs cs sound i k v w at leaves
        (λ a b pinned. inr (sym (ap (λ (p : ℕ × ℕ). p.0) (same_Some (n, r) (a, b) pinned))))
        (record {
          numbered = own.numbered;
          older = own.older;
          named = λ a b pinned e. none-some k (sym e ∙ mine);
          pin = λ j a b is pinned.
              let P : ℕ × ℕ → Type 0 = λ p. IsPinned passes rows ws (set vs i w) cs j v.retired p.0 p.1 in
              subst P (same_Some (n, r) (a, b) pinned) (subst (λ (q : ℕ). IsPinned passes rows ws (set vs i w) cs q v.retired n r) (sym (same_pass j is)) current);
          noted = λ a e. absurd (none-some a e);
          newer = λ a b e here. absurd (none-some a e);
          announced = λ j a is e reserved. absurd (none-some (n, r) (sym e));
          settled = λ a b pinned. refl;
          scan = own.scan;
        })
        (scans_new w (λ j u there. sound.scans j i u v there at)
        (λ j a q b is pinned seen here low.
        let e = ap (λ (p : ℕ × ℕ). p.0) (same_Some (n, r) (a, q) pinned) in
        let before = own.older b here in absurd (omega arith)))
        (λ x. refl)

    pub takes : (r word : ℕ) → r < rows → 0 < word → owner passes rows ws r ≡ 0 → Sound passes rows (set ws (owner_at passes rows r) word) (set vs i (taking r v)) cs
    takes r word row some_owner free =
        let us = set ws (owner_at passes rows r) word in
        let w = taking r v in
        let leaves : LeavesShared passes rows ws us vs k v w = record {
          long = length-set ws (owner_at passes rows r) word;
          root = owner_keeps_root passes rows ws r word;
          others = λ j pass apart. owner_keeps_reservation passes rows ws r word j pass;
          cells = λ x p shared place. owner_keeps_cell passes rows ws r word x p row;
          before = mine;
          number = mine;
          retired = refl;
        } in
        let same = version_same passes rows ws us vs cs sound i k v w at leaves in
        let kept : (j : ℕ) → v.number ≡ Some j → reservation passes rows us j ≡ reservation passes rows ws j = λ j is. owner_keeps_reservation passes rows ws r word j (own.numbered j is) in
        let stored = owner_stored passes rows ws r word sound.long row in
        stays passes rows ws us vs cs sound i k v w at leaves
        (λ m q pinned. inl pinned)
        (record {
          numbered = own.numbered;
          older = λ b here. omega (arith, own.older b here);
          named = own.named;
          pin = λ j m q is pinned. pin_same passes rows ws us vs cs sound i k v w at leaves j m q v.retired (kept j is) (own.pin j m q is pinned);
          noted = λ m is. omega (arith, own.noted m is);
          newer = own.newer;
          announced = λ j m is loose reserves. own.announced j m is loose (sym (kept j is) ∙ reserves);
          settled = own.settled;
          scan = own.scan;
        })
        (scans_new w (λ j u there. sound.scans j i u v there at) (sound.scans i i v v at at))
        (λ x. ⊎_elim
        (λ e.
        let one = times-head r [] in
        let here : times x (r ∷ []) ≡ 1 = subst (λ (y : ℕ). times y (r ∷ []) ≡ 1) (sym e) one in
        let was : owned passes rows ws x ≡ 0 = subst (λ (y : ℕ). owned passes rows ws y ≡ 0) (sym e) (owned_free ws r free) in
        let now : owned passes rows us x ≡ 1 = subst (λ (y : ℕ). owned passes rows us y ≡ 1) (sym e) (owned_taken us r row (omega arith)) in
        omega (arith, times-append x v.fresh (r ∷ [])))
        (λ apart.
        let none = times-tail x r [] apart in
        let e = owned_same ws us x (λ inside. owner_keeps_owner passes rows ws r word x apart) in
        omega (arith, times-append x v.fresh (r ∷ [])))
        (cases_eq x r))

    -- a fresh row is neither live nor retired
    pub fresh_unshared : (r x : ℕ) → In r v.fresh → IsShared passes rows ws vs x → x ≢ r
    fresh_unshared r x fresh shared e =
        let f : View → ℕ = λ u. times r u.fresh in
        let g : View → ℕ = λ u. times r (rows_in u.retired) in
        let both = total-add f g (λ (u : View). times r (held u)) vs (λ u. times-append r u.fresh (rows_in u.retired)) in
        let here = total-le f vs i v at in
        let most = owned_most ws r in
        let shared_r : IsShared passes rows ws vs r = subst (IsShared passes rows ws vs) e shared in
        omega (arith, sound.places r)

    pub writes : (r p word : ℕ) → p < WIDTH → In r v.fresh → Sound passes rows (set ws (cell_at passes rows r p) word) (set vs i v) cs
    writes r p word place fresh =
        let us = set ws (cell_at passes rows r p) word in
        let leaves : LeavesShared passes rows ws us vs k v v = record {
          long = length-set ws (cell_at passes rows r p) word;
          root = cell_keeps_root passes rows ws r p word;
          others = λ j pass apart. cell_keeps_reservation passes rows ws r p word j pass;
          cells = λ x q shared other. cell_keeps_other passes rows ws r p word x q place other (fresh_unshared r x fresh shared);
          before = mine;
          number = mine;
          retired = refl;
        } in
        let same = version_same passes rows ws us vs cs sound i k v v at leaves in
        let kept : (j : ℕ) → v.number ≡ Some j → reservation passes rows us j ≡ reservation passes rows ws j = λ j is. cell_keeps_reservation passes rows ws r p word j (own.numbered j is) in
        stays passes rows ws us vs cs sound i k v v at leaves
        (λ m q pinned. inl pinned)
        (record {
          numbered = own.numbered;
          older = λ b here. omega (arith, own.older b here);
          named = own.named;
          pin = λ j m q is pinned. pin_same passes rows ws us vs cs sound i k v v at leaves j m q v.retired (kept j is) (own.pin j m q is pinned);
          noted = λ m is. omega (arith, own.noted m is);
          newer = own.newer;
          announced = λ j m is loose reserves. own.announced j m is loose (sym (kept j is) ∙ reserves);
          settled = own.settled;
          scan = own.scan;
        })
        (scans_new v (λ j u there. sound.scans j i u v there at) (sound.scans i i v v at at))
        (λ x. ap (λ a. times x v.fresh + a) (sym (owned_same ws us x (λ row. cell_keeps_owner passes rows ws r p word x row))))

    pub unpins : (n r : ℕ) → v.pinned ≡ Some (n, r) → Sound passes rows (set ws (reservation_at passes rows k) 0) (set vs i (unpinning v)) cs
    unpins n r pinned =
        let us = set ws (reservation_at passes rows k) 0 in
        let w = unpinning v in
        let leaves : LeavesShared passes rows ws us vs k v w = record {
          long = length-set ws (reservation_at passes rows k) 0;
          root = reservation_keeps_root passes rows ws k 0;
          others = λ j pass apart. reservation_keeps_other passes rows ws k 0 j apart;
          cells = λ x p shared place. reservation_keeps_cell passes rows ws k 0 x p pass_within;
          before = mine;
          number = mine;
          retired = refl;
        } in
        let same = version_same passes rows ws us vs cs sound i k v w at leaves in
        let stored = reservation_stored passes rows ws k 0 sound.long pass_within in
        stays passes rows ws us vs cs sound i k v w at leaves
        (λ a b e. absurd (none-some (a, b) e))
        (record {
          numbered = own.numbered;
          older = λ b here. omega (arith, own.older b here);
          named = λ a b e. absurd (none-some (a, b) e);
          pin = λ j a b is e. absurd (none-some (a, b) e);
          noted = λ m is. omega (arith, own.noted m is);
          newer = own.newer;
          announced = λ j m is loose reserves. let e = ap (λ (a : ℕ). reservation passes rows us a) (same_pass j is) in absurd (omega arith);
          settled = λ a b e. absurd (none-some (a, b) e);
          scan = own.scan;
        })
        (scans_new w (λ j u there. sound.scans j i u v there at) (λ j a q b is e. absurd (none-some (a, q) e)))
        (λ x. ap (λ a. times x v.fresh + a) (sym (owned_same ws us x (λ row. reservation_keeps_owner passes rows ws k 0 x pass_within))))

    pub looks : (j : ℕ) → j < passes → (j ≡ 0) ⊎ (j ≡ v.scanned) → Sound passes rows ws (set vs i (looking j (reservation passes rows ws j) v)) cs
    looks j pass turn =
        let w = looking j (reservation passes rows ws j) v in
        let leaves = quiet w mine refl in
        let seen : (a : ℕ) (u : View) → get_elem? vs a ≡ some u → Scans u w = λ a u there m n r b is pinned before here low.
        ⊎_elim
        (λ e.
        let pin = (sound.each a u there).pin m n r is pinned in
        let at_j = ap (λ (x : ℕ). reservation passes rows ws x) e in
        clears_right (cond (eqb j 0) None v.least) (reserved (reservation passes rows ws j)) b (reserved_low (reservation passes rows ws j) b (omega (arith, pin.has_reserved)) (omega (arith, pin.early))))
        (λ apart.
        let later : j ≢ 0 = λ e. absurd (omega arith) in
        let next : j ≡ v.scanned = ⊎_elim (λ e. absurd (later e)) (λ e. e) turn in
        let known = sound.scans a i u v there at m n r b is pinned (omega arith) here low in
        clears_left (cond (eqb j 0) None v.least) (reserved (reservation passes rows ws j)) b (ap (λ t. clears (cond t None v.least) b) (ne_eqb j 0 later) ∙ known))
        (cases_eq m j) in
        stays passes rows ws ws vs cs sound i k v w at leaves
        (λ n r pinned. inl pinned)
        (record {
          numbered = own.numbered;
          older = own.older;
          named = own.named;
          pin = λ m n r is pinned. pin_same passes rows ws ws vs cs sound i k v w at leaves m n r v.retired refl (own.pin m n r is pinned);
          noted = own.noted;
          newer = own.newer;
          announced = own.announced;
          settled = own.settled;
          scan = omega arith;
        })
        (scans_new w seen (seen i v at))
        (λ x. refl)
