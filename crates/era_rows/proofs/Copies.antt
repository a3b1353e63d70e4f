-- The copy of the version that a pass has pinned.
use Rattle.std.proofs.Common.{◌≡◌, ℕ, zero, suc, ◌<◌, Option, Some, None, List, [], ◌∷◌, ◌++◌, length, refl, sym, ap, ◌∙◌, arith}
use Rattle.std.specs.Prelude.{slice_get, unwrap_or}
use Rattle.era_core.specs.Lists.{times, In}
use Rattle.era_core.specs.Versions.{Cell, Copy}
use Rattle.era_core.proofs.Readers.{slice_get_at}
use Rattle.era_core.proofs.ListFacts.{at_below, at_longer}
use Rattle.era_rows.specs.Trees.{no_copy}
use Rattle.era_rows.specs.Known.{Known, copy_of, pinned_copy}
use Rattle.era_rows.specs.Held.{HoldsTree}
use mathlib.Core.Option.{some, some-ne-none}
use lib.ListN.{get_elem?}

-- it is the copy of that version, where the pass knows it
pub copy_is : (pinned : Option (ℕ × ℕ)) (copies : List Copy) (n p : ℕ) (c : Copy) → pinned ≡ Some (n, p) → get_elem? copies n ≡ some c → copy_of pinned copies ≡ c
copy_is pinned copies n p c is_pinned there =
    ap (λ pin. copy_of pin copies) is_pinned ∙ ap (λ o. unwrap_or o no_copy) (slice_get_at copies n c there)

pub copy_none : (pinned : Option (ℕ × ℕ)) (copies : List Copy) → pinned ≡ None → copy_of pinned copies ≡ no_copy
copy_none pinned copies none = ap (λ pin. copy_of pin copies) none

-- a pass that has pinned nothing holds no tree
pub no_tree : (k : Known) → k.core.pinned ≡ None → HoldsTree k
no_tree k loose =
    let none = copy_none k.core.pinned k.copies loose in
    record {
      is_tree = record {
        once = λ r. (let e = ap (λ c. times r c.rows) none in omega arith);
        few = λ r here. absurd (let e = ap (λ c. times r c.rows) none in omega arith);
        covered = λ r here. absurd (let e = ap (λ c. times r c.rows) none in omega arith);
        linked = λ r x here. absurd (let e = ap (λ c. times r c.rows) none in omega arith);
      };
      within = λ i c there. absurd (some-ne-none c (sym (ap (λ d. get_elem? d.cells i) (sym none) ∙ there)));
      inside = λ r here. absurd (let e = ap (λ c. times r c.rows) none in omega arith);
      unread = λ r here. ap (λ c. times r c.rows) none;
    }

-- it stays the same where the pass comes to know more versions
pub copy_longer : (pinned : Option (ℕ × ℕ)) (copies more : List Copy) → ((n p : ℕ) → pinned ≡ Some (n, p) → n < length copies) → copy_of pinned (copies ++ more) ≡ copy_of pinned copies
copy_longer None copies more known = refl
copy_longer (Some pin) copies more known =
    let c = at_below copies pin.0 (known pin.0 pin.1 refl) in
    copy_is (Some pin) (copies ++ more) pin.0 pin.1 c.0 refl (at_longer copies more pin.0 c.0 c.1)
    ∙ sym (copy_is (Some pin) copies pin.0 pin.1 c.0 refl c.1)

-- what the copy of a list of copies at a place is
got : (copies : List Copy) (n r : ℕ) → In r (unwrap_or (slice_get copies n) no_copy).rows → get_elem? copies n ≡ some (unwrap_or (slice_get copies n) no_copy)
got [] n r here = absurd (omega arith)
got (c ∷ cs) zero r here = refl
got (c ∷ cs) (suc n) r here = got cs n r here

-- a row of the pinned tree is a row of the copy of a pinned version that the pass knows
pub pinned_here : (k : Known) (r : ℕ) → In r (pinned_copy k).rows → (n p : ℕ) × (k.core.pinned ≡ Some (n, p)) × (get_elem? k.copies n ≡ some (pinned_copy k))
pinned_here k r here = by_pin k.core.pinned here
  where
    by_pin : (pin : Option (ℕ × ℕ)) → In r (copy_of pin k.copies).rows → (n p : ℕ) × (pin ≡ Some (n, p)) × (get_elem? k.copies n ≡ some (copy_of pin k.copies))
    by_pin None there = absurd (omega arith)
    by_pin (Some pin) there = (pin.0, pin.1, refl, got k.copies pin.0 r there)

got_cell : (copies : List Copy) (n i : ℕ) (c : Cell) → get_elem? (unwrap_or (slice_get copies n) no_copy).cells i ≡ some c → get_elem? copies n ≡ some (unwrap_or (slice_get copies n) no_copy)
got_cell [] n i c there = absurd (some-ne-none c (sym there))
got_cell (x ∷ xs) zero i c there = refl
got_cell (x ∷ xs) (suc n) i c there = got_cell xs n i c there

-- a cell of the pinned tree is one of the copy of a pinned version that the pass knows
pub pinned_cell : (k : Known) (i : ℕ) (c : Cell) → get_elem? (pinned_copy k).cells i ≡ some c → (n p : ℕ) × (k.core.pinned ≡ Some (n, p)) × (get_elem? k.copies n ≡ some (pinned_copy k))
pinned_cell k i c there = by_pin k.core.pinned there
  where
    by_pin : (pin : Option (ℕ × ℕ)) → get_elem? (copy_of pin k.copies).cells i ≡ some c → (n p : ℕ) × (pin ≡ Some (n, p)) × (get_elem? k.copies n ≡ some (copy_of pin k.copies))
    by_pin None here = absurd (some-ne-none c (sym here))
    by_pin (Some pin) here = (pin.0, pin.1, refl, got_cell k.copies pin.0 i c here)
