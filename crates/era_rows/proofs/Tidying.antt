-- What a pass keeps at run time agrees with what it knows where it is joined with another, and along a scan.
use Rattle.std.proofs.Common.{◌≡◌, ℕ, suc, ◌+◌, ◌<◌, ◌≤◌, ◌⊎◌, ⊎_elim, inl, inr, min, Bool, true, false, cond, ne_eqb, Option, Some, None, List, [], ◌∷◌, ◌++◌, length, refl, sym, ap, subst, ◌∙◌, arith, lt-ltb, le-ltb, length-append}
use Rattle.std.specs.Prelude.{◌||◌, nat_lt, slice_index_or}
use Rattle.std.proofs.lemmas.Bool.{cases_lt, or_left}
use Rattle.std.proofs.lemmas.List.{append_assoc, length_push}
use Rattle.std.proofs.lemmas.Option.{none-some, same_Some}
use Rattle.atomic_table.specs.Table.{Me}
use Rattle.era_core.specs.Lists.{times, In, is_in}
use Rattle.era_core.specs.Words.{reservation_at}
use Rattle.era_core.specs.Views.{rows_in, held, reserved, lesser}
use Rattle.era_core.proofs.ListFacts.{times-append, in-append_left, in-append_right, at_longer, at_end}
use Rattle.era_rows.specs.Passes.{looks_of, least_of, Scans}
use Rattle.era_rows.specs.Known.{Known, Look, joining_known, looking_at}
use Rattle.era_rows.specs.Held.{HoldsRows, rows_at, IsTied}
use Rattle.era_rows.specs.Ring.{AreInOrder}
use Rattle.era_rows.specs.Plays.{IsNow}
use Rattle.era_rows.specs.Rule.{knowing, both_knows}
use Rattle.era_rows.specs.declared.views.Knows.{Knows}
use Rattle.era_core.proofs.Room.{length-below}
use Rattle.era_rows.proofs.Copies.{no_tree}
use Rattle.era_rows.proofs.Holding.{fresh_inside}
use Rattle.era_rows.proofs.Joining.{at_either}
use Rattle.era_rows.proofs.Retired.{rows_of-append, batched_append, batched_length, filled_append}
use mathlib.Core.Option.{some}
use lib.ListN.{get_elem?}

-- a row is in two lists where it is in one of them
is_in_either : (r : ℕ) (xs ys : List ℕ) → is_in r (xs ++ ys) ≡ (is_in r xs || is_in r ys)
is_in_either r xs ys =
    let parts = times-append r xs ys in
    ⊎_elim
    (λ first. lt-ltb 0 (times r (xs ++ ys)) (omega arith) ∙ sym (or_left (is_in r xs) (is_in r ys) (lt-ltb 0 (times r xs) first)))
    (λ neither.
    ap (λ n. nat_lt 0 n) (let e : times r (xs ++ ys) ≡ times r ys = omega arith in e)
    ∙ sym (ap (λ b. b || is_in r ys) (le-ltb 0 (times r xs) neither)))
    (cases_lt 0 (times r xs))

-- fresh rows that are different rows are no more than there are rows, and so are retired ones
pub fresh_few : (k : Known) → HoldsRows k → length k.core.fresh ≤ k.rows
fresh_few k holds =
    length-below k.rows k.core.fresh
    (λ r. (let one = holds.different r in let parts = times-append r k.core.fresh (rows_in k.core.retired) in omega arith))
    (fresh_inside k holds)

pub retired_few : (k : Known) → HoldsRows k → length (rows_in k.core.retired) ≤ k.rows
retired_few k holds =
    length-below k.rows (rows_in k.core.retired)
    (λ r. (let one = holds.different r in let parts = times-append r k.core.fresh (rows_in k.core.retired) in omega arith))
    (λ r here. holds.inside r (let parts = times-append r k.core.fresh (rows_in k.core.retired) in omega arith))

module _ {k l : Known} {number next number' next' : ℕ} {pinned pinned' : Option (ℕ × ℕ)} {fresh fresh' : List ℕ} {loose loose' : List Bool} {marked marked' : List ℕ} {retired retired' : List (ℕ × ℕ)}
    (t : IsTied k number next pinned fresh loose marked retired) (u : IsTied l number' next' pinned' fresh' loose' marked' retired') (holds : HoldsRows (joining_known k l)) where
  -- the rows of both passes have room in the lists of one
  pub joined_room : (length fresh + length fresh' ≤ k.rows) × (length retired + length retired' ≤ k.rows)
  joined_room =
      let few = fresh_few (joining_known k l) holds in
      let gone = retired_few (joining_known k l) holds in
      let both = joining_known k l in (
        omega (arith, ap length t.fresh_are, ap length u.fresh_are, length-append k.core.fresh l.core.fresh),
        (let all = batched_length (retired ++ retired') both.core.retired (batched_append retired retired' k.core.retired l.core.retired t.batched u.batched) in
            omega (arith, length-append retired retired')),
      )

  -- each fresh row of the other pass is a row
  pub joined_inside : (r : ℕ) → In r fresh' → r < k.rows
  joined_inside r there =
      holds.inside r
      (let e = ap (times r) u.fresh_are in
      let a = times-append r (k.core.fresh ++ l.core.fresh) (rows_in (joining_known k l).core.retired) in
      let b = times-append r k.core.fresh l.core.fresh in omega arith)

  -- one test or the other, in either order
  either_order : (a b : Bool) → cond a true b ≡ (b || a)
  either_order true true = refl
  either_order true false = refl
  either_order false true = refl
  either_order false false = refl

  -- a pass that takes over what another has, whose retired rows are merged with its own
  pub tied_joined : (flags : List Bool) (gone : List (ℕ × ℕ)) → k.core.pinned ≡ None → length flags ≡ k.rows → ((r : ℕ) → slice_index_or flags r false ≡ cond (is_in r fresh') true (slice_index_or loose r false))
      → AreInOrder gone → ((n x : ℕ) → times x (rows_at n gone) ≡ times x (rows_at n retired) + times x (rows_at n retired'))
      → IsTied (joining_known k l) number next pinned (fresh ++ fresh') flags marked gone
  tied_joined flags gone unpinned counted flagged in_order all = record {
    numbered = t.numbered;
    turn = t.turn;
    pinned_is = t.pinned_is;
    settled = t.settled;
    silent = t.silent;
    fresh_are = ap (λ xs. xs ++ fresh') t.fresh_are ∙ ap (λ xs. k.core.fresh ++ xs) u.fresh_are;
    counted = counted;
    flagged = λ r row.
        flagged r ∙ either_order (is_in r fresh') (slice_index_or loose r false) ∙ ap (λ b. b || is_in r fresh') (t.flagged r row) ∙ ap (λ xs. is_in r k.core.fresh || is_in r xs) u.fresh_are ∙ sym (is_in_either r k.core.fresh l.core.fresh);
    batched = λ n x. omega (arith, all n x, rows_of-append x n k.core.retired l.core.retired, t.batched n x, u.batched n x);
    holds = holds;
    tree = no_tree (joining_known k l) unpinned;
    marks_different = t.marks_different;
    marks_inside = t.marks_inside;
    knows_pinned = λ n p e. absurd (none-some (n, p) (sym unpinned ∙ e));
    written_fresh = λ i c there.
        ⊎_elim
        (λ mine. in-append_left c.row k.core.fresh l.core.fresh (t.written_fresh i c mine))
        (λ theirs. in-append_right c.row k.core.fresh l.core.fresh (u.written_fresh theirs.0 c theirs.1))
        (at_either k.written l.written i c there);
    some_pass = t.some_pass;
    filled = filled_append k.core.retired l.core.retired t.filled u.filled;
    few = t.few;
    in_order = in_order;
    pinned_low = λ n p e. absurd (none-some (n, p) (sym unpinned ∙ e));
  }

-- the look after a join tells what the pass then knows, and that it holds different rows
pub looked_joined : {S E : Type 0} (u v : Knows E) (me after : Me S (Knows E)) (carried : List (ℕ × S)) (word : ℕ) → me ≡ (both_knows u v, carried)
    → IsNow me after (looking_at 0 word me.0.view) → HoldsRows after.0.view
    → (after.0 ≡ (let k = both_knows u v in knowing k.seen k.lists (looking_at 0 word k.view))) × HoldsRows (joining_known u.view v.view) × (after.1 ≡ carried)
looked_joined {S} {E} u v me after carried word joined told held =
    let now = told.0 ∙ ap (λ (m : Me S (Knows E)). knowing m.0.seen m.0.lists (looking_at 0 word m.0.view)) joined in
    let holds = subst HoldsRows (ap (λ (k : Knows E). k.view) now) held in (
      now,
      record { different = holds.different; inside = holds.inside },
      told.1 ∙ ap (λ (m : Me S (Knows E)). m.1) joined,
    )

-- the lesser of versions, in any order of taking them
lesser_none : (a : Option ℕ) → lesser a None ≡ a
lesser_none None = refl
lesser_none (Some m) = refl

lesser_thrice : (a b c : Option ℕ) → lesser (lesser a b) c ≡ lesser a (lesser b c)
lesser_thrice None b c = refl
lesser_thrice (Some m) None c = refl
lesser_thrice (Some m) (Some n) None = refl
lesser_thrice (Some m) (Some n) (Some o) = ap Some (let e : min (min m n) o ≡ min m (min n o) = omega arith in e)

least_push : (ws : List ℕ) (w : ℕ) → least_of (ws ++ w ∷ []) ≡ lesser (least_of ws) (reserved w)
least_push [] w = lesser_none (reserved w)
least_push (v ∷ ws) w = ap (lesser (reserved v)) (least_push ws w) ∙ sym (lesser_thrice (reserved v) (least_of ws) (reserved w))

looks_push : (passes rows j : ℕ) (ws : List ℕ) (w : ℕ) → looks_of passes rows j (ws ++ w ∷ []) ≡ looks_of passes rows j ws ++ (reservation_at passes rows (j + length ws), w) ∷ []
looks_push passes rows j [] w = ap (λ n. (reservation_at passes rows n, w) ∷ []) (let e : j ≡ j + 0 = omega arith in e)
looks_push passes rows j (v ∷ ws) w =
    ap (λ looks. (reservation_at passes rows j, v) ∷ looks) (looks_push passes rows (j + 1) ws w)
    ∙ ap (λ n. (reservation_at passes rows j, v) ∷ looks_of passes rows (j + 1) ws ++ (reservation_at passes rows n, w) ∷ []) (let e : j + 1 + length ws ≡ j + suc (length ws) = omega arith in e)

-- what a pass knows after looks at as many reservations, from that of pass 0 on, as there are words
abbrev pub scan_known : List ℕ → Known → Known
scan_known [] k = k
scan_known (w ∷ ws) k =
    record k { core = record k.core { scanned = length (w ∷ ws); least = least_of (w ∷ ws) }; looks = k.looks ++ looks_of k.passes k.rows 0 (w ∷ ws) }

-- the next look of a scan is at the reservation of the next pass
pub scan_turn : (ws : List ℕ) (k : Known) (j : ℕ) → length ws ≡ j → (j ≡ 0) ⊎ (j ≡ (scan_known ws k).core.scanned)
scan_turn [] k j e = inl (sym e)
scan_turn (w ∷ ws) k j e = inr (sym e)

scan_push : (ws : List ℕ) (w : ℕ) (k : Known) → looking_at (length ws) w (scan_known ws k) ≡ scan_known (ws ++ w ∷ []) k
scan_push [] w k = ap (λ least. record k { core = record k.core { scanned = 1; least = least }; looks = k.looks ++ looks_of k.passes k.rows 0 (w ∷ []) }) (sym (lesser_none (reserved w)))
scan_push (v ∷ vs) w k =
    ap (λ b. with (length (v ∷ vs) + 1) (lesser (cond b None (least_of (v ∷ vs))) (reserved w)) ((k.looks ++ looks_of k.passes k.rows 0 (v ∷ vs)) ++ (reservation_at k.passes k.rows (length (v ∷ vs)), w) ∷ []))
    (ne_eqb (length (v ∷ vs)) 0 (λ e. absurd (omega arith)))
    ∙ ap (λ looks. with (length (v ∷ vs) + 1) (lesser (least_of (v ∷ vs)) (reserved w)) looks)
    (append_assoc k.looks (looks_of k.passes k.rows 0 (v ∷ vs)) ((reservation_at k.passes k.rows (length (v ∷ vs)), w) ∷ [])
    ∙ ap (λ n. k.looks ++ (looks_of k.passes k.rows 0 (v ∷ vs) ++ (reservation_at k.passes k.rows n, w) ∷ [])) (let e : length (v ∷ vs) ≡ 0 + length (v ∷ vs) = omega arith in e)
    ∙ ap (λ looks. k.looks ++ looks) (sym (looks_push k.passes k.rows 0 (v ∷ vs) w)))
    ∙ ap (λ least. with (length (v ∷ vs) + 1) least (k.looks ++ looks_of k.passes k.rows 0 (v ∷ vs ++ w ∷ []))) (sym (least_push (v ∷ vs) w))
    ∙ ap (λ n. with n (least_of (v ∷ vs ++ w ∷ [])) (k.looks ++ looks_of k.passes k.rows 0 (v ∷ vs ++ w ∷ []))) (sym (length_push (v ∷ vs) w))
  where
    with : ℕ → Option ℕ → List Look → Known
    with scanned least looks = record k { core = record k.core { scanned = scanned; least = least }; looks = looks }

-- these words, found from the first reservation on, have that of the pass where it is among them
abbrev pub HasOwn : Known → List ℕ → Type 0
HasOwn k words = (j : ℕ) → j < length words → k.core.number ≡ Some j → get_elem? words j ≡ some k.reserves

own_more : (k : Known) (words : List ℕ) (w : ℕ) → HasOwn k words → (k.core.number ≡ Some (length words) → w ≡ k.reserves) → HasOwn k (words ++ w ∷ [])
own_more k words w own last j low is =
    ⊎_elim
    (λ before. at_longer words (w ∷ []) j k.reserves (own j before is))
    (λ past.
    let here : j ≡ length words = (let more = length_push words w in omega arith) in
    ap (get_elem? (words ++ w ∷ [])) here ∙ at_end words w ∙ ap some (last (is ∙ ap Some here)))
    (cases_lt j (length words))

-- a pass has scanned so many reservations: the words that it found, and the least version that they name
abbrev pub HasScanned : ℕ → Option ℕ → Known → Known → Type 0
HasScanned j least before after = (words : List ℕ) × (length words ≡ j) × (least ≡ least_of words) × (after ≡ scan_known words before) × HasOwn before words

scan_number : (words : List ℕ) (k : Known) → (scan_known words k).core.number ≡ k.core.number
scan_number [] k = refl
scan_number (w ∷ ws) k = refl

scan_reserves : (words : List ℕ) (k : Known) → (scan_known words k).reserves ≡ k.reserves
scan_reserves [] k = refl
scan_reserves (w ∷ ws) k = refl

pub scanned_more : (j w : ℕ) (least : Option ℕ) (before mid after : Known) → HasScanned j least before mid → after ≡ looking_at j w mid → (mid.core.number ≡ Some j → w ≡ mid.reserves)
    → HasScanned (j + 1) (lesser least (reserved w)) before after
scanned_more j w least before mid after so_far now own =
    let words = so_far.0 in (
      words ++ w ∷ [],
      (let e = so_far.1 in let f = length_push words w in omega arith),
      ap (λ x. lesser x (reserved w)) so_far.2 ∙ sym (least_push words w),
      now ∙ ap (looking_at j w) so_far.3 ∙ ap (λ n. looking_at n w (scan_known words before)) (sym so_far.1) ∙ scan_push words w before,
      own_more before words w so_far.4
          (λ is. own (ap (λ (k : Known). k.core.number) so_far.3 ∙ scan_number words before ∙ is ∙ ap Some so_far.1) ∙ ap (λ (k : Known). k.reserves) so_far.3 ∙ scan_reserves words before),
    )

-- a scan of all passes
pub scanned_all : (j number : ℕ) (least : Option ℕ) (before after : Known) → HasScanned j least before after → 0 < j → j ≡ before.passes → before.core.number ≡ Some number → number < before.passes
    → Scans least before after
scanned_all j number least before after ([], long, least_is, now, own) some_pass all mine low = absurd (omega arith)
scanned_all j number least before after (w ∷ ws, long, least_is, now, own) some_pass all mine low = record {
  words = w ∷ ws;
  all = long ∙ all;
  own = λ m is. own m (let same = same_Some number m (sym mine ∙ is) in omega arith) is;
  least_is = least_is;
  now = now ∙ ap (λ n. record before { core = record before.core { scanned = n; least = least_of (w ∷ ws) }; looks = before.looks ++ looks_of before.passes before.rows 0 (w ∷ ws) }) (long ∙ all);
}
