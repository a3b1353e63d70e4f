-- What a pass keeps at run time agrees with what it knows, after each of its steps.
use Rattle.std.proofs.Common.{◌≡◌, ◌≢◌, ℕ, zero, suc, ◌+◌, ◌*◌, ◌/◌, ◌%◌, ◌^◌, ◌<◌, ◌≤◌, ⊎_elim, Bool, true, false, Option, Some, None, List, [], ◌∷◌, ◌++◌, length, replicate, set, refl, sym, ap, subst, ◌∙◌, arith, lt-ltb, le-ltb, length-set, get_or-set_same, get_or-set_other}
use Rattle.std.specs.Prelude.{nat_lt, slice_index_or}
use Rattle.std.proofs.Math.Nat.{div-le_of_le-mul, mul-le-mul_right}
use Rattle.std.proofs.lemmas.Bool.{cases_eq}
use Rattle.std.proofs.lemmas.List.{get_or-replicate}
use Rattle.std.proofs.lemmas.Option.{none-some, same_Some}
use Rattle.era_core.specs.declared.sizes.TheConstants.{ROOT_ROWS, MOST_ROWS}
use Rattle.era_core.specs.Lists.{times, In, is_in, without}
use Rattle.era_core.specs.Views.{rows_in, held}
use Rattle.era_core.specs.Versions.{Cell, Copy}
use Rattle.era_core.proofs.ListFacts.{times-head, times-tail, times-append, in-append_left}
use Rattle.era_core.proofs.BatchFacts.{times-without_gone, times-without_kept}
use Rattle.era_rows.specs.Known.{Known, Look, Shortage, pinned_copy, noting_root, reserving, pinning_root, taking_row, writing, leaving}
use Rattle.era_rows.specs.Plays.{IsUnused}
use Rattle.era_rows.specs.Held.{HoldsTree, HasRoom, IsTied}
use Rattle.era_rows.specs.Passes.{giving_back, started_known}
use Rattle.era_rows.proofs.Seats.{at_filter}
use Rattle.era_rows.proofs.Copies.{no_tree}
use Rattle.era_rows.proofs.Holding.{fresh_inside}
use Rattle.era_rows.proofs.Moves.{not_in}
use Rattle.era_rows.proofs.Orders.{none_in_order}
use Rattle.era_core.proofs.Room.{times-without_le, room}
use mathlib.Core.Option.{some, some-injective, some-ne-none}
use lib.ListN.{get_elem?, length-replicate}

-- a list with one more row has that row and those that it had
in_push : (x r : ℕ) (xs : List ℕ) → In x (xs ++ r ∷ []) → x ≢ r → In x xs
in_push x r xs here apart = let parts = times-append x xs (r ∷ []) in let none = times-tail x r [] apart in omega arith

is_in_same : (x : ℕ) (xs ys : List ℕ) → times x xs ≡ times x ys → is_in x xs ≡ is_in x ys
is_in_same x xs ys same = ap (nat_lt 0) same

-- what holds of equal lists
pub tied_as : {k l : Known} {number next : ℕ} {pinned pin : Option (ℕ × ℕ)} {fresh taken : List ℕ} {loose flags : List Bool} {marked marks : List ℕ} {retired gone : List (ℕ × ℕ)}
    → l ≡ k → pin ≡ pinned → taken ≡ fresh → flags ≡ loose → marks ≡ marked → gone ≡ retired
    → IsTied k number next pinned fresh loose marked retired → IsTied l number next pin taken flags marks gone
tied_as {k} {l} {number} {next} {pinned} {pin} {fresh} {taken} {loose} {flags} {marked} {marks} {retired} {gone} same_k same_pin same_fresh same_loose same_marked same_retired t =
    subst (λ x. IsTied x number next pin taken flags marks gone) (sym same_k)
    (subst (λ x. IsTied k number next x taken flags marks gone) (sym same_pin)
    (subst (λ x. IsTied k number next pinned x flags marks gone) (sym same_fresh)
    (subst (λ x. IsTied k number next pinned fresh x marks gone) (sym same_loose)
    (subst (λ x. IsTied k number next pinned fresh loose x gone) (sym same_marked)
    (subst (λ x. IsTied k number next pinned fresh loose marked x) (sym same_retired) t)))))

pub room_as : {rows rows' fresh fresh' reached reached' marked marked' retired retired' work work' : ℕ} → rows' ≡ rows → fresh' ≡ fresh → reached' ≡ reached → marked' ≡ marked → retired' ≡ retired → work' ≡ work
    → HasRoom rows fresh reached marked retired work → HasRoom rows' fresh' reached' marked' retired' work'
room_as a b c d e f room = (let r0 = room.0 in omega arith, let r1 = room.1 in omega arith, let r2 = room.2 in omega arith, let r3 = room.3 in omega arith, let r4 = room.4 in omega arith)

module _ {k : Known} {number next : ℕ} {pinned : Option (ℕ × ℕ)} {fresh : List ℕ} {loose : List Bool} {marked : List ℕ} {retired : List (ℕ × ℕ)}
    (t : IsTied k number next pinned fresh loose marked retired) where
  -- a step that changed none of it
  pub tied_same : (scanned : ℕ) (least last : Option ℕ) (looks : List Look) (full : Option Shortage)
      → IsTied (record k { core = record k.core { scanned = scanned; least = least; last = last }; looks = looks; full = full }) number next pinned fresh loose marked retired
  tied_same scanned least last looks full = record {
    numbered = t.numbered;
    turn = t.turn;
    pinned_is = t.pinned_is;
    settled = t.settled;
    silent = t.silent;
    fresh_are = t.fresh_are;
    counted = t.counted;
    flagged = t.flagged;
    batched = t.batched;
    holds = record { different = t.holds.different; inside = t.holds.inside };
    tree = record { is_tree = t.tree.is_tree; within = t.tree.within; inside = t.tree.inside; unread = t.tree.unread };
    marks_different = t.marks_different;
    marks_inside = t.marks_inside;
    knows_pinned = t.knows_pinned;
    some_pass = t.some_pass;
    filled = t.filled;
    few = t.few;
    in_order = t.in_order;
    pinned_low = t.pinned_low;
    written_fresh = t.written_fresh;
  }

  -- a fresh row is a row
  pub tied_row : (r : ℕ) → In r k.core.fresh → r < k.rows
  tied_row = fresh_inside k t.holds

  -- a row that the pass does not hold has room among its fresh rows
  pub tied_room : (r : ℕ) → r < k.rows → IsUnused r k → length fresh < k.rows
  tied_room r row unread =
      let parts : (x : ℕ) → times x k.core.fresh ≤ times x (held k.core) = λ x. let both = times-append x k.core.fresh (rows_in k.core.retired) in omega arith in
      let few = room k.rows r k.core.fresh (λ x. (let fewer = parts x in let one = t.holds.different x in omega arith)) tied_row
      (let fewer = parts r in let none = unread.not_held in omega arith) row in
      omega (arith, ap length t.fresh_are)

  -- Take found no owner
  pub tied_taken : (r : ℕ) → r < k.rows → IsUnused r k → IsTied (taking_row r k) number next pinned (fresh ++ r ∷ []) (set loose r true) marked retired
  tied_taken r row unread = record {
    numbered = t.numbered;
    turn = t.turn;
    pinned_is = t.pinned_is;
    settled = t.settled;
    silent = t.silent;
    fresh_are = ap (λ xs. xs ++ r ∷ []) t.fresh_are;
    counted = length-set loose r true ∙ t.counted;
    flagged = λ x inside. ⊎_elim (λ e. flagged_new x e) (λ apart. flagged_old x inside apart) (cases_eq x r);
    batched = t.batched;
    holds = record {
      different = λ x.
          let parts = held_more x in
          let one = t.holds.different x in
          ⊎_elim
          (λ e.
          let none : times x (held k.core) ≡ 0 = ap (λ y. times y (held k.core)) e ∙ unread.not_held in
          let new : times x (r ∷ []) ≡ times x (x ∷ []) = ap (λ y. times x (y ∷ [])) (sym e) in
          let head = times-head x [] in omega arith)
          (λ apart. let none = times-tail x r [] apart in omega arith)
          (cases_eq x r);
      inside = λ x here.
          ⊎_elim
          (λ e. (omega (arith, e)))
          (λ apart. t.holds.inside x (let parts = held_more x in let none = times-tail x r [] apart in omega arith))
          (cases_eq x r);
    };
    tree = record {
      is_tree = t.tree.is_tree;
      within = t.tree.within;
      inside = t.tree.inside;
      unread = λ x here. ⊎_elim (λ e. ap (λ y. times y (pinned_copy k).rows) e ∙ unread.not_pinned) (λ apart. t.tree.unread x (in_push x r k.core.fresh here apart)) (cases_eq x r);
    };
    marks_different = t.marks_different;
    marks_inside = t.marks_inside;
    knows_pinned = t.knows_pinned;
    some_pass = t.some_pass;
    filled = t.filled;
    few = t.few;
    in_order = t.in_order;
    pinned_low = t.pinned_low;
    written_fresh = λ i c there. in-append_left c.row k.core.fresh (r ∷ []) (t.written_fresh i c there);
  }
    where
      held_more : (x : ℕ) → times x (held (taking_row r k).core) ≡ times x (held k.core) + times x (r ∷ [])
      held_more x =
          let a = times-append x (k.core.fresh ++ r ∷ []) (rows_in k.core.retired) in
          let b = times-append x k.core.fresh (r ∷ []) in
          let c = times-append x k.core.fresh (rows_in k.core.retired) in omega arith

      flagged_new : (x : ℕ) → x ≡ r → slice_index_or (set loose r true) x false ≡ is_in x (k.core.fresh ++ r ∷ [])
      flagged_new x e =
          ap (λ y. slice_index_or (set loose r true) y false) e ∙ get_or-set_same loose r true false (let all = t.counted in omega arith)
          ∙ sym (lt-ltb 0 (times x (k.core.fresh ++ r ∷ []))
          (let parts = times-append x k.core.fresh (r ∷ []) in
          let new : times x (r ∷ []) ≡ times x (x ∷ []) = ap (λ y. times x (y ∷ [])) (sym e) in
          let head = times-head x [] in omega arith))

      flagged_old : (x : ℕ) → x < k.rows → x ≢ r → slice_index_or (set loose r true) x false ≡ is_in x (k.core.fresh ++ r ∷ [])
      flagged_old x inside apart =
          get_or-set_other loose r x true false apart ∙ t.flagged x inside
          ∙ is_in_same x k.core.fresh (k.core.fresh ++ r ∷ []) (let parts = times-append x k.core.fresh (r ∷ []) in let none = times-tail x r [] apart in omega arith)

  -- Write into a fresh row
  pub tied_written : (r p w : ℕ) → In r k.core.fresh → IsTied (writing r p w k) number next pinned fresh loose marked retired
  tied_written r p w here = record {
    numbered = t.numbered;
    turn = t.turn;
    pinned_is = t.pinned_is;
    settled = t.settled;
    silent = t.silent;
    fresh_are = t.fresh_are;
    counted = t.counted;
    flagged = t.flagged;
    batched = t.batched;
    holds = record { different = t.holds.different; inside = t.holds.inside };
    tree = record { is_tree = t.tree.is_tree; within = t.tree.within; inside = t.tree.inside; unread = t.tree.unread };
    marks_different = t.marks_different;
    marks_inside = t.marks_inside;
    knows_pinned = t.knows_pinned;
    some_pass = t.some_pass;
    filled = t.filled;
    few = t.few;
    in_order = t.in_order;
    pinned_low = t.pinned_low;
    written_fresh = all_fresh;
  }
    where
      all_fresh : (i : ℕ) (c : Cell) → get_elem? (writing r p w k).written i ≡ some c → In c.row k.core.fresh
      all_fresh zero c there = subst (λ (x : Cell). In x.row k.core.fresh) (some-injective (record { row = r; place = p; word = w }) c there) here
      all_fresh (suc i) c there = let old = at_filter _ k.written i c there in t.written_fresh old.0 c old.1

  -- Free of a fresh row
  pub tied_given_back : (r : ℕ) → In r k.core.fresh → IsTied (giving_back r k) number next pinned (without (r ∷ []) fresh) (set loose r false) marked retired
  tied_given_back r here = record {
    numbered = t.numbered;
    turn = t.turn;
    pinned_is = t.pinned_is;
    settled = t.settled;
    silent = t.silent;
    fresh_are = ap (without (r ∷ [])) t.fresh_are;
    counted = length-set loose r false ∙ t.counted;
    flagged = λ x inside. ⊎_elim (λ e. flagged_gone x e) (λ apart. flagged_left x inside apart) (cases_eq x r);
    batched = t.batched;
    holds = record {
      different = λ x. (let fewer = held_fewer x in let one = t.holds.different x in omega arith);
      inside = λ x there. t.holds.inside x (let fewer = held_fewer x in omega arith);
    };
    tree = record {
      is_tree = t.tree.is_tree;
      within = t.tree.within;
      inside = t.tree.inside;
      unread = λ x there. t.tree.unread x (let fewer = times-without_le x r k.core.fresh in omega arith);
    };
    marks_different = t.marks_different;
    marks_inside = t.marks_inside;
    knows_pinned = t.knows_pinned;
    some_pass = t.some_pass;
    filled = t.filled;
    few = t.few;
    in_order = t.in_order;
    pinned_low = t.pinned_low;
    written_fresh = λ i c there.
        let old = at_filter _ k.written i c there in
        let before = t.written_fresh old.0 c old.1 in
        omega (arith, times-without_kept c.row (r ∷ []) k.core.fresh (not_in c.row (r ∷ []) old.2));
  }
    where
      held_fewer : (x : ℕ) → times x (held (giving_back r k).core) ≤ times x (held k.core)
      held_fewer x =
          let a = times-append x (without (r ∷ []) k.core.fresh) (rows_in k.core.retired) in
          let b = times-append x k.core.fresh (rows_in k.core.retired) in
          let fewer = times-without_le x r k.core.fresh in omega arith

      flagged_gone : (x : ℕ) → x ≡ r → slice_index_or (set loose r false) x false ≡ is_in x (without (r ∷ []) k.core.fresh)
      flagged_gone x e =
          ap (λ y. slice_index_or (set loose r false) y false) e ∙ get_or-set_same loose r false false (let all = t.counted in let inside = tied_row r here in omega arith)
          ∙ sym (le-ltb 0 (times x (without (r ∷ []) k.core.fresh))
          (let gone = times-without_gone r (r ∷ []) k.core.fresh (let head = times-head r [] in omega arith) in
          let same : times x (without (r ∷ []) k.core.fresh) ≡ times r (without (r ∷ []) k.core.fresh) = ap (λ y. times y (without (r ∷ []) k.core.fresh)) e in omega arith))

      flagged_left : (x : ℕ) → x < k.rows → x ≢ r → slice_index_or (set loose r false) x false ≡ is_in x (without (r ∷ []) k.core.fresh)
      flagged_left x inside apart =
          get_or-set_other loose r x false false apart ∙ t.flagged x inside
          ∙ is_in_same x k.core.fresh (without (r ∷ []) k.core.fresh) (sym (times-without_kept x (r ∷ []) k.core.fresh (times-tail x r [] apart)))

  -- Unpin: the marks are gone
  pub tied_left : IsTied (leaving k) number next None fresh loose [] retired
  tied_left = record {
    numbered = t.numbered;
    turn = t.turn;
    pinned_is = refl;
    settled = t.settled;
    silent = λ loose. refl;
    fresh_are = t.fresh_are;
    counted = t.counted;
    flagged = t.flagged;
    batched = t.batched;
    holds = record { different = t.holds.different; inside = t.holds.inside };
    tree = no_tree (leaving k) refl;
    marks_different = λ r. omega arith;
    marks_inside = λ r here. absurd (omega arith);
    knows_pinned = λ n p e. absurd (none-some (n, p) e);
    some_pass = t.some_pass;
    filled = t.filled;
    few = t.few;
    in_order = t.in_order;
    pinned_low = λ n p e. absurd (none-some (n, p) e);
    written_fresh = t.written_fresh;
  }

  -- Pin: the reserved version was noted and is so no more
  pub tied_pinned : (n w v : ℕ) (copies : List Copy) → HoldsTree (pinning_root w copies (reserving n (noting_root v k))) → w / ROOT_ROWS < length copies → w < 2 ^ 64
      → IsTied (pinning_root w copies (reserving n (noting_root v k))) number next (Some (w / ROOT_ROWS, w % ROOT_ROWS)) fresh loose marked retired
  tied_pinned n w v copies tree low word = record {
    numbered = t.numbered;
    turn = t.turn;
    pinned_is = refl;
    settled = refl;
    silent = λ e. absurd (none-some (w / ROOT_ROWS, w % ROOT_ROWS) (sym e));
    fresh_are = t.fresh_are;
    counted = t.counted;
    flagged = t.flagged;
    batched = t.batched;
    holds = record { different = t.holds.different; inside = t.holds.inside };
    tree = tree;
    marks_different = t.marks_different;
    marks_inside = t.marks_inside;
    knows_pinned = λ m p e. (let same = ap (λ (pin : ℕ × ℕ). pin.0) (same_Some (w / ROOT_ROWS, w % ROOT_ROWS) (m, p) e) in omega arith);
    some_pass = t.some_pass;
    filled = t.filled;
    few = t.few;
    in_order = t.in_order;
    pinned_low = λ m p e.
        let same = same_Some (w / ROOT_ROWS, w % ROOT_ROWS) (m, p) e in (
          (let version = ap (λ (pin : ℕ × ℕ). pin.0) same in omega arith),
          (let row = ap (λ (pin : ℕ × ℕ). pin.1) same in omega arith),
        );
    written_fresh = t.written_fresh;
  }

-- a pass that begins has pinned nothing and holds no row
pub tied_started : (shape rows passes made number : ℕ) (loose : List Bool) → number < passes → rows ≤ MOST_ROWS → loose ≡ replicate rows false
    → IsTied (started_known shape rows passes made number) number (number * rows / passes) None [] loose [] []
tied_started shape rows passes made number loose some_pass few all = record {
  numbered = refl;
  turn = div-le_of_le-mul passes (mul-le-mul_right rows (omega arith));
  pinned_is = refl;
  settled = refl;
  silent = λ none. refl;
  fresh_are = refl;
  counted = ap length all ∙ length-replicate rows false;
  flagged = λ r inside. ap (λ xs. slice_index_or xs r false) all ∙ get_or-replicate rows r false false inside;
  batched = λ n x. refl;
  holds = record { different = λ r. omega arith; inside = λ r here. absurd (omega arith) };
  tree = no_tree (started_known shape rows passes made number) refl;
  marks_different = λ r. omega arith;
  marks_inside = λ r here. absurd (omega arith);
  knows_pinned = λ n p e. absurd (none-some (n, p) e);
  some_pass = some_pass;
  filled = λ i b there. absurd (some-ne-none b (sym there));
  few = few;
  in_order = none_in_order;
  pinned_low = λ n p e. absurd (none-some (n, p) e);
  written_fresh = λ i c there. absurd (some-ne-none c (sym there));
}
