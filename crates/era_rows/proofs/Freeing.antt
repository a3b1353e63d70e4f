-- What a pass keeps at run time agrees with what it knows along the frees of retired rows.
use Rattle.std.proofs.Common.{◌≡◌, ℕ, zero, suc, ◌+◌, ◌<◌, ◌≤◌, ⊎_elim, Bool, true, false, not, cond, Option, Some, None, List, [], ◌∷◌, ◌++◌, length, refl, sym, ap, subst, ◌∙◌, arith, le-ltb}
use Rattle.std.specs.Prelude.{◌&&◌}
use Rattle.std.proofs.lemmas.Bool.{cases_eq, ltb-false, true≢false}
use Rattle.std.specs.List.{list_any}
use Rattle.era_core.specs.Lists.{times, In, is_in}
use Rattle.era_core.specs.Views.{Batch, rows_in, held, clears, without_row}
use Rattle.era_core.specs.Versions.{Cell}
use Rattle.era_core.proofs.ListFacts.{times-tail, times-append, in-append_right}
use Rattle.era_core.proofs.BatchFacts.{times-rows_in-without_row, times-rows_in-row_gone}
use Rattle.era_rows.specs.Passes.{looks_of, least_of, blocked, Scans, Tidies}
use Rattle.era_rows.specs.Known.{Known, of_others, freeing_row}
use Rattle.era_rows.specs.Held.{rows_of, IsTied}
use Rattle.era_rows.specs.Ring.{AreInOrder, is_first_clear}
use Rattle.era_rows.proofs.Looking.{freeing_retired}
use Rattle.era_rows.proofs.Retired.{rows_of-le, batched_length, batched_in, batched_less, cleared_any, blocked-freed, AreFilled, filled_still, blocked-pairs}
use Rattle.era_rows.proofs.Orders.{first_least, rest_in_order}
use Rattle.era_rows.proofs.Tidying.{retired_few}
use mathlib.Core.Option.{some, some-injective, some-ne-none}
use lib.ListN.{get_elem?}

-- cells of other rows stay
of_others_all : (r : ℕ) (cells : List Cell) → ((i : ℕ) (c : Cell) → get_elem? cells i ≡ some c → times c.row (r ∷ []) ≡ 0) → of_others (r ∷ []) cells ≡ cells
of_others_all r [] apart = refl
of_others_all r (c ∷ cells) apart =
    ap (λ b. cond (not b) (c ∷ of_others (r ∷ []) cells) (of_others (r ∷ []) cells)) (le-ltb 0 (times c.row (r ∷ [])) (let e = apart zero c refl in omega arith))
    ∙ ap (λ rest. c ∷ rest) (of_others_all r cells (λ i d there. apart (suc i) d there))

-- Free of a retired row takes it out of the batches, and changes nothing else
abbrev pub less_row : ℕ → Known → Known
less_row r k = record k { core = record k.core { retired = without_row r k.core.retired } }

module _ {k : Known} {number next : ℕ} {pinned : Option (ℕ × ℕ)} {fresh : List ℕ} {loose : List Bool} {marked : List ℕ} {p : ℕ × ℕ} {rest : List (ℕ × ℕ)}
    (t : IsTied k number next pinned fresh loose marked (p ∷ rest)) where
  -- the retired row that waits longest stands in a batch of its version
  pub retired_at : In p.1 (rows_of p.0 k.core.retired)
  retired_at = batched_in (p ∷ rest) k.core.retired 0 p.0 p.1 t.batched refl

  retired_row : In p.1 (rows_in k.core.retired)
  retired_row = (let some_times = retired_at in let le = rows_of-le p.1 p.0 k.core.retired in omega arith)

  pub retired_inside : p.1 < k.rows
  retired_inside = t.holds.inside p.1 (in-append_right p.1 k.core.fresh (rows_in k.core.retired) retired_row)

  pub retired_once : times p.1 (rows_in k.core.retired) ≤ 1
  retired_once = (let one = t.holds.different p.1 in let parts = times-append p.1 k.core.fresh (rows_in k.core.retired) in omega arith)

  pub retired_cleared : (least : Option ℕ) → clears least p.0 ≡ true → list_any (λ b. is_in p.1 b.1 && clears least b.0) k.core.retired ≡ true
  retired_cleared least cleared = cleared_any p.1 p.0 least k.core.retired retired_at cleared

  not_fresh : times p.1 k.core.fresh ≡ 0
  not_fresh = (let one = t.holds.different p.1 in let parts = times-append p.1 k.core.fresh (rows_in k.core.retired) in let some_times = retired_row in omega arith)

  -- a retired row is no fresh one, so that no word was written into it
  pub freed_known : freeing_row p.1 k ≡ less_row p.1 k
  freed_known =
      ap (λ v. record k { core = v; written = of_others (p.1 ∷ []) k.written }) (freeing_retired p.1 k.core not_fresh)
      ∙ ap (λ cells. record k { core = record k.core { retired = without_row p.1 k.core.retired }; written = cells })
      (of_others_all p.1 k.written (λ n c at. times-tail c.row p.1 [] (λ e. absurd (let here = t.written_fresh n c at in let none = not_fresh in let same : times c.row k.core.fresh ≡ times p.1 k.core.fresh = ap (λ y. times y k.core.fresh) e in omega arith))))

  held_fewer : (x : ℕ) → times x (held (less_row p.1 k).core) ≤ times x (held k.core)
  held_fewer x =
      let a = times-append x k.core.fresh (rows_in (without_row p.1 k.core.retired)) in
      let b = times-append x k.core.fresh (rows_in k.core.retired) in
      ⊎_elim
      (λ e.
      let F : ℕ → Type 0 = λ y. times y (rows_in (without_row p.1 k.core.retired)) ≡ 0 in
      let gone = subst F (sym e) (times-rows_in-row_gone p.1 k.core.retired) in omega arith)
      (λ apart. (let same = times-rows_in-without_row x p.1 k.core.retired apart in omega arith))
      (cases_eq x p.1)

  -- it is freed
  pub tied_freed : IsTied (less_row p.1 k) number next pinned fresh loose marked rest
  tied_freed = record {
    numbered = t.numbered;
    turn = t.turn;
    pinned_is = t.pinned_is;
    settled = t.settled;
    silent = t.silent;
    fresh_are = t.fresh_are;
    counted = t.counted;
    flagged = t.flagged;
    batched = batched_less p rest k.core.retired retired_once t.batched;
    holds = record {
      different = λ x. (let one = t.holds.different x in let fewer = held_fewer x in omega arith);
      inside = λ x here. t.holds.inside x (let fewer = held_fewer x in omega arith);
    };
    tree = record { is_tree = t.tree.is_tree; within = t.tree.within; inside = t.tree.inside; unread = t.tree.unread };
    marks_different = t.marks_different;
    marks_inside = t.marks_inside;
    knows_pinned = t.knows_pinned;
    written_fresh = t.written_fresh;
    some_pass = t.some_pass;
    filled = filled_still p.1 k.core.retired;
    few = t.few;
    in_order = rest_in_order p rest t.in_order;
    pinned_low = t.pinned_low;
  }

-- the same, with these batches
abbrev pub with_retired : List Batch → Known → Known
with_retired batches k = record k { core = record k.core { retired = batches } }

-- Of the retired rows of a pass so many were freed, each of a version that this one clears
pub record HasFreed (least : Option ℕ) (freed : ℕ) (before after : Known) (old new : List (ℕ × ℕ)) : Type 0 where
  pub counted : freed + length new ≡ length old
  -- nothing but the batches has changed, each has a row if each had one, and those that are blocked are the same
  pub rest : after ≡ with_retired after.core.retired before
  pub filled : AreFilled before.core.retired → AreFilled after.core.retired
  pub same : blocked least after.core.retired ≡ blocked least before.core.retired

pub freed_none : (least : Option ℕ) (k : Known) (pairs : List (ℕ × ℕ)) → HasFreed least 0 k k pairs pairs
freed_none least k pairs = record { counted = omega arith; rest = refl; filled = λ filled. filled; same = refl }

-- one more, the one that waits longest
pub freed_more : (least : Option ℕ) (freed : ℕ) (before mid after : Known) (old left : List (ℕ × ℕ)) (p : ℕ × ℕ) {number next : ℕ} {pinned : Option (ℕ × ℕ)} {fresh : List ℕ} {loose : List Bool} {marked : List ℕ}
    → IsTied mid number next pinned fresh loose marked (p ∷ left) → HasFreed least freed before mid old (p ∷ left) → clears least p.0 ≡ true → after ≡ less_row p.1 mid
    → HasFreed least (freed + 1) before after old left
freed_more least freed before mid after old left p t so_far cleared now =
    let batches = ap (λ k. k.core.retired) now in
    record {
      counted = (let counted = so_far.counted in omega arith);
      rest = now ∙ ap (less_row p.1) so_far.rest ∙ ap (λ bs. with_retired bs before) (sym batches);
      filled = λ filled. subst AreFilled (sym batches) (filled_still p.1 mid.core.retired);
      same = ap (blocked least) batches ∙ blocked-freed least p.1 p.0 mid.core.retired (retired_at t) cleared (retired_once t) ∙ so_far.same;
    }

-- what blocks a version blocks each later one
blocked_later : (least : Option ℕ) (m n : ℕ) → m ≤ n → clears least m ≡ false → clears least n ≡ false
blocked_later None m n later is = absurd (true≢false is)
blocked_later (Some l) m n later is = le-ltb n l (let low = ltb-false m l is in omega arith)

-- where the first of pairs in order is blocked, all of them are
pub first_blocks : (least : Option ℕ) (ps : List (ℕ × ℕ)) → AreInOrder ps → is_first_clear least ps ≡ false → (i : ℕ) (p : ℕ × ℕ) → get_elem? ps i ≡ some p → clears least p.0 ≡ false
first_blocks least [] order is i p there = absurd (some-ne-none p (sym there))
first_blocks least (q ∷ qs) order is zero p there = ap (λ (x : ℕ × ℕ). clears least x.0) (sym (some-injective q p there)) ∙ is
first_blocks least (q ∷ qs) order is (suc i) p there = blocked_later least q.0 p.0 (first_least q qs order i p there) is

-- what is left in the end: as many rows were freed as batches have fewer, and all cleared batches are gone
module _ {number next number' next' : ℕ} {pinned pinned' : Option (ℕ × ℕ)} {fresh fresh' : List ℕ} {loose loose' : List Bool} {marked marked' : List ℕ} {old new : List (ℕ × ℕ)} {before after : Known}
    (t : IsTied before number next pinned fresh loose marked old) (u : IsTied after number' next' pinned' fresh' loose' marked' new)
    (least : Option ℕ) (freed : ℕ) (done : HasFreed least freed before after old new) where
  pub freed_count : freed + length (rows_in after.core.retired) ≡ length (rows_in before.core.retired)
  freed_count =
      (let counted = done.counted in
      omega (arith, batched_length old before.core.retired t.batched, batched_length new after.core.retired u.batched))

  pub freed_few : freed ≤ before.rows
  freed_few = (let count = freed_count in let few = retired_few before t.holds in omega arith)

  pub freed_all : is_first_clear least new ≡ false → after.core.retired ≡ blocked least before.core.retired
  freed_all stops = sym (blocked-pairs least new after.core.retired u.batched (done.filled t.filled) (first_blocks least new u.in_order stops)) ∙ done.same

-- a whole scan and its frees
pub tidied : (before mid after : Known) (least : Option ℕ) → Scans least before mid → after ≡ with_retired after.core.retired mid → after.core.retired ≡ blocked least mid.core.retired
    → Tidies before after
tidied before mid after least scan left freed =
    let words = scan.words in
    record {
      words = words;
      all = scan.all;
      own = scan.own;
      now = left ∙ ap (λ bs. with_retired bs mid) freed
          ∙ ap (λ k. with_retired (blocked least k.core.retired) k) scan.now
          ∙ ap (λ o. with_retired (blocked o before.core.retired) (record before { core = record before.core { scanned = before.passes; least = least_of words }; looks = before.looks ++ looks_of before.passes before.rows 0 words })) scan.least_is;
    }
