-- What a pass keeps agrees with what it knows, where it marks a row, and after a publication was made or lost.
use Rattle.std.proofs.Common.{◌≡◌, ℕ, ◌+◌, ◌<◌, ◌≤◌, Bool, true, false, not, cond, Option, List, [], ◌∷◌, ◌++◌, length, get_or, map, filter, refl, sym, ap, subst, ◌∙◌, arith}
use Rattle.std.proofs.lemmas.Bool.{and_parts}
use Rattle.std.proofs.lemmas.List.{length-append, length-map, length_push}
use Rattle.era_core.specs.Lists.{times, In, is_in, without}
use Rattle.era_core.specs.Views.{rows_in, versions_of, batch_of}
use Rattle.era_core.specs.Versions.{Cell, Copy}
use Rattle.era_core.proofs.BatchFacts.{times-without_kept}
use Rattle.era_rows.specs.Trees.{IsTree}
use Rattle.era_rows.specs.Known.{Known, copy_of, pinned_copy, copy_known, losing, publishing_tree}
use Rattle.era_rows.specs.Lists.{IsPrefix}
use Rattle.era_rows.specs.May.{AreReplaced}
use Rattle.era_rows.specs.Held.{HoldsRows, HoldsTree, rows_at, rows_of, IsTied}
use Rattle.era_rows.specs.Ring.{AreInOrder}
use Rattle.era_rows.specs.Passes.{HasRead}
use Rattle.era_rows.specs.Reach.{ReachesTree}
use Rattle.era_core.proofs.Room.{AreDifferent, AreBelow, different-push, below-push}
use Rattle.era_rows.proofs.Seats.{at_filter}
use Rattle.era_rows.proofs.Moves.{not_in}
use Rattle.era_rows.proofs.Copies.{copy_longer}
use Rattle.era_rows.proofs.Orders.{marked_in_order}
use Rattle.era_rows.proofs.Retired.{version_there, filled_append, filled_batch, batched_in, batched_more, batched_length}
use Rattle.era_rows.proofs.Tidying.{retired_few}
use Rattle.era_rows.proofs.Flags.{in_list, from_in, is_in-without, loose_now, fresh_left, loose_again}
use mathlib.Core.Option.{some}
use lib.ListN.{get_elem?}

module _ {k : Known} {number next : ℕ} {pinned : Option (ℕ × ℕ)} {fresh : List ℕ} {loose : List Bool} {marked : List ℕ} {retired : List (ℕ × ℕ)}
    (t : IsTied k number next pinned fresh loose marked retired) where
  -- other marks, each of a row and none twice
  pub tied_marks : (marks : List ℕ) → AreDifferent marks → AreBelow k.rows marks → IsTied k number next pinned fresh loose marks retired
  tied_marks marks different below = record {
    numbered = t.numbered;
    turn = t.turn;
    pinned_is = t.pinned_is;
    settled = t.settled;
    silent = t.silent;
    fresh_are = t.fresh_are;
    counted = t.counted;
    flagged = t.flagged;
    batched = t.batched;
    holds = t.holds;
    tree = t.tree;
    marks_different = different;
    marks_inside = below;
    knows_pinned = t.knows_pinned;
    some_pass = t.some_pass;
    filled = t.filled;
    few = t.few;
    in_order = t.in_order;
    pinned_low = t.pinned_low;
    written_fresh = t.written_fresh;
  }

  -- the pairs of a version behind those that are retired, whose versions are earlier ones
  pub retired_in_order : (n : ℕ) (marks : List ℕ) → ((b : ℕ) → In b (versions_of k.core.retired) → b < n) → AreInOrder (retired ++ map (λ (r : ℕ). (n, r)) marks)
  retired_in_order n marks older =
      marked_in_order n retired marks t.in_order
      (λ i p there. (let early = older p.0 (version_there p.1 p.0 k.core.retired (batched_in retired k.core.retired i p.0 p.1 t.batched there)) in omega arith))

  -- one more mark
  pub tied_mark : (row : ℕ) → times row marked ≡ 0 → row < k.rows → IsTied k number next pinned fresh loose (marked ++ row ∷ []) retired
  tied_mark row none low = tied_marks (marked ++ row ∷ []) (different-push row marked t.marks_different none) (below-push k.rows row marked t.marks_inside low)

-- a tree stays where the pinned copy does and no row becomes fresh
tree_stays : (k w : Known) → pinned_copy w ≡ pinned_copy k → w.rows ≡ k.rows → ((r : ℕ) → In r w.core.fresh → In r k.core.fresh) → HoldsTree k → HoldsTree w
tree_stays k w same rows fewer old = record {
  is_tree = subst IsTree (sym same) old.is_tree;
  within = subst (λ (c : Copy). (i : ℕ) (x : Cell) → get_elem? c.cells i ≡ some x → In x.row c.rows) (sym same) old.within;
  inside = λ r here. (let low = old.inside r (subst (λ (c : Copy). In r c.rows) same here) in omega arith);
  unread = λ r here. ap (λ (c : Copy). times r c.rows) same ∙ old.unread r (fewer r here);
}

module _ {k : Known} {number next : ℕ} {pinned : Option (ℕ × ℕ)} {fresh : List ℕ} {loose : List Bool} {marked : List ℕ} {retired : List (ℕ × ℕ)}
    (t : IsTied k number next pinned fresh loose marked retired) (q : ℕ) (mid : Known) (read : HasRead k mid) (flags : List Bool) (reached : List ℕ)
    (reaches : ReachesTree q k flags reached) where
  -- a publication was made: the rows of the new tree are no more fresh, and those that it replaced are retired
  pub tied_published : (n p : ℕ) (gone : List (ℕ × ℕ)) (after : Known) → after ≡ publishing_tree n p q mid → HoldsRows after → AreInOrder gone
      → ((m x : ℕ) → times x (rows_at m gone) ≡ times x (rows_of m (k.core.retired ++ batch_of n (without (copy_known k q).rows (pinned_copy k).rows))))
      → IsTied after number next pinned (filter (λ x. get_or flags x false) fresh) flags [] gone
  tied_published n p gone after now holds in_order batched =
      subst (λ (z : Known). IsTied z number next pinned (filter (λ x. get_or flags x false) fresh) flags [] gone) (sym is_now)
      (record {
        numbered = t.numbered;
        turn = t.turn;
        pinned_is = t.pinned_is;
        settled = t.settled;
        silent = t.silent;
        fresh_are = ap (filter (λ x. get_or flags x false)) t.fresh_are ∙ fresh_left k.rows k.core.fresh flags reached reaches.is_reached new reaches.all;
        counted = reaches.is_reached.counted;
        flagged = λ r low. loose_now k.rows k.core.fresh flags reached reaches.is_reached new reaches.all r;
        batched = batched;
        holds = subst HoldsRows is_now holds;
        tree = tree_stays k w (copy_longer k.core.pinned k.copies (copy_known k q ∷ []) t.knows_pinned) refl fewer t.tree;
        marks_different = λ r. omega arith;
        marks_inside = λ r here. absurd (omega arith);
        knows_pinned = λ m o e. (let low = t.knows_pinned m o e in let more = length_push k.copies (copy_known k q) in omega arith);
        some_pass = t.some_pass;
        filled = filled_append k.core.retired (batch_of n (without new (pinned_copy k).rows)) t.filled (filled_batch n (without new (pinned_copy k).rows));
        few = t.few;
        in_order = in_order;
        pinned_low = t.pinned_low;
        written_fresh = λ i c there.
            let was = at_filter (λ (x : Cell). not (is_in x.row new)) k.written i c there in
            let here = t.written_fresh was.0 c was.1 in
            let kept = times-without_kept c.row new k.core.fresh (not_in c.row new was.2) in omega arith;
      })
    where
      new : List ℕ
      new = (copy_known k q).rows

      w : Known
      w = publishing_tree n p q (record k { core = record k.core { last = read.last }; looks = k.looks ++ read.more })

      is_now : after ≡ w
      is_now = now ∙ ap (publishing_tree n p q) read.now

      fewer : (r : ℕ) → In r (without new k.core.fresh) → In r k.core.fresh
      fewer r here = from_in r k.core.fresh (and_parts (is_in r k.core.fresh) (not (is_in r new)) (sym (is_in-without r new k.core.fresh) ∙ in_list r (without new k.core.fresh) here)).0

  -- another pass was first: the flags are those of all fresh rows again
  pub tied_lost : (word : ℕ) (copies : List Copy) (again : List Bool) (after : Known) → after ≡ losing word copies mid → IsPrefix mid.copies copies
      → length again ≡ length flags → ((x : ℕ) → get_or again x false ≡ cond (is_in x reached) true (get_or flags x false))
      → IsTied after number next pinned fresh again [] retired
  tied_lost word copies again after now more counted flagged =
      subst (λ (z : Known). IsTied z number next pinned fresh again [] retired) (sym is_now)
      (record {
        numbered = t.numbered;
        turn = t.turn;
        pinned_is = t.pinned_is;
        settled = t.settled;
        silent = t.silent;
        fresh_are = t.fresh_are;
        counted = counted ∙ reaches.is_reached.counted;
        flagged = λ r low. flagged r ∙ loose_again k.rows k.core.fresh flags reached reaches.is_reached r;
        batched = t.batched;
        holds = record { different = t.holds.different; inside = t.holds.inside };
        tree = tree_stays k w same refl (λ r here. here) t.tree;
        marks_different = λ r. omega arith;
        marks_inside = λ r here. absurd (omega arith);
        knows_pinned = λ m o e. (let low = t.knows_pinned m o e in let longer = ap length begins in let parts = length-append k.copies more.0 in omega arith);
        some_pass = t.some_pass;
        filled = t.filled;
        few = t.few;
        in_order = t.in_order;
        pinned_low = t.pinned_low;
        written_fresh = t.written_fresh;
      })
    where
      w : Known
      w = losing word copies (record k { core = record k.core { last = read.last }; looks = k.looks ++ read.more })

      is_now : after ≡ w
      is_now = now ∙ ap (losing word copies) read.now

      begins : k.copies ++ more.0 ≡ copies
      begins = ap (λ xs. xs ++ more.0) (ap (λ (z : Known). z.copies) (sym read.now)) ∙ more.1

      same : copy_of k.core.pinned copies ≡ pinned_copy k
      same = ap (copy_of k.core.pinned) (sym begins) ∙ copy_longer k.core.pinned k.copies more.0 t.knows_pinned

-- there is room for the rows that a publication retires
pub retired_room : (k : Known) (pairs : List (ℕ × ℕ)) (n q : ℕ) (marked : List ℕ) (after : Known)
    → ((m x : ℕ) → times x (rows_at m pairs) ≡ times x (rows_of m k.core.retired)) → AreReplaced q k marked
    → HoldsRows after → after.core.retired ≡ k.core.retired ++ batch_of n (without (copy_known k q).rows (pinned_copy k).rows)
    → length pairs + length marked ≤ after.rows
retired_room k pairs n q marked after batched replaced holds retired_are =
    let gone : List ℕ = without (copy_known k q).rows (pinned_copy k).rows in
    let more : List (ℕ × ℕ) = map (λ (r : ℕ). (n, r)) marked in
    let all = batched_length (pairs ++ more) (k.core.retired ++ batch_of n gone) (batched_more n marked gone pairs k.core.retired replaced batched) in
    let few = retired_few after holds in
    let same = ap (λ bs. length (rows_in bs)) retired_are in
    let parts = length-append pairs more in
    let len : length more ≡ length marked = length-map marked (λ (r : ℕ). (n, r)) in omega arith
