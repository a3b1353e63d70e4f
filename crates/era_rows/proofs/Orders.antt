-- Retired rows in the order of their versions: where rows of one version come behind, and where two lists are merged.
use Rattle.std.proofs.Common.{◌≡◌, ℕ, zero, suc, ◌+◌, ◌-◌, ◌/◌, ◌%◌, ◌<◌, ◌≤◌, ⊎_elim, true, false, List, [], ◌∷◌, ◌++◌, length, get_or, map, drop, refl, sym, ap, subst, ◌∙◌, arith, lt-ltb}
use Rattle.std.specs.Prelude.{slice_index, ◌&&◌, nat_lt, nat_le}
use Rattle.std.proofs.lemmas.Bool.{and_parts, leb-true, leb-false, false≢true, true≢false}
use Rattle.std.proofs.lemmas.List.{append_assoc, append-nil, length-append, length-map, map-append}
use Rattle.era_core.specs.declared.sizes.TheConstants.{ROOT_ROWS}
use Rattle.era_core.specs.Lists.{times, In}
use Rattle.era_core.specs.Words.{root_word}
use Rattle.era_core.proofs.ListFacts.{in_head, in_tail, total-append}
use Rattle.era_rows.specs.Held.{rows_at}
use Rattle.era_rows.specs.Ring.{pairs_in, AreFrom, AreInOrder, is_own_next}
use Rattle.era_rows.proofs.Joining.{at_either}
use Rattle.era_rows.proofs.Retired.{is_pair, counted_by}
use mathlib.Core.Option.{some, some-injective, some-ne-none}
use lib.ListN.{get_elem?}

-- there is a pair for each word
pub pairs_long : (words : List ℕ) → length {A = ℕ × ℕ} (pairs_in words) ≡ length words
pairs_long words = length-map words (λ (word : ℕ). (word / ROOT_ROWS, word % ROOT_ROWS))

-- one more word with a version and a row
pub pairs_push : (words : List ℕ) (n r : ℕ) → r < ROOT_ROWS → pairs_in (words ++ root_word n r ∷ []) ≡ pairs_in words ++ (n, r) ∷ []
pairs_push words n r row = map-append (λ word. (word / ROOT_ROWS, word % ROOT_ROWS)) words (root_word n r ∷ []) ∙ ap (λ pair. pairs_in words ++ pair ∷ []) parts
  where
    parts : ◌≡◌ {A = ℕ × ℕ} (root_word n r / ROOT_ROWS, root_word n r % ROOT_ROWS) (n, r)
    parts =
        let version : root_word n r / ROOT_ROWS ≡ n = omega arith in
        let rest : root_word n r % ROOT_ROWS ≡ r = omega arith in
        ap (λ m. (m, root_word n r % ROOT_ROWS)) version ∙ ap (λ m. (n, m)) rest

-- what stands at a place of a list stands in it
pub in_at : (xs : List ℕ) (i r : ℕ) → i < length xs → r ≡ get_or xs i r → In r xs
in_at [] i r low at = absurd (omega arith)
in_at (x ∷ xs) zero r low at = subst (λ y. In r (y ∷ xs)) at (in_head r xs)
in_at (x ∷ xs) (suc i) r low at = in_tail r x xs (in_at xs i r (omega arith) at)

pub none_in_order : AreInOrder []
none_in_order i j p q before there then' = absurd (some-ne-none p (sym there))

-- of pairs in order the first is of the least version, and the others are in order
pub first_least : (p : ℕ × ℕ) (ps : List (ℕ × ℕ)) → AreInOrder (p ∷ ps) → AreFrom p.0 ps
first_least p ps order j q there = order 0 (suc j) p q (omega arith) refl there

pub rest_in_order : (p : ℕ × ℕ) (ps : List (ℕ × ℕ)) → AreInOrder (p ∷ ps) → AreInOrder ps
rest_in_order p ps order i j a b before first second = order (suc i) (suc j) a b (omega arith) first second

more_in_order : (p : ℕ × ℕ) (ps : List (ℕ × ℕ)) → AreFrom p.0 ps → AreInOrder ps → AreInOrder (p ∷ ps)
more_in_order p ps least order i zero a b before first second = absurd (omega arith)
more_in_order p ps least order zero (suc j) a b before first second = subst (λ (x : ℕ × ℕ). x.0 ≤ b.0) (some-injective p a first) (least j b second)
more_in_order p ps least order (suc i) (suc j) a b before first second = order i j a b (omega arith) first second

-- pairs of one version
marked_at : (n : ℕ) (marks : List ℕ) → AreFrom n (map (λ (r : ℕ). (n, r)) marks)
marked_at n [] i q there = absurd (some-ne-none q (sym there))
marked_at n (r ∷ rs) zero q there = (let e = ap (λ (x : ℕ × ℕ). x.0) (some-injective (n, r) q there) in omega arith)
marked_at n (r ∷ rs) (suc i) q there = marked_at n rs i q there

marked_below : (n m : ℕ) (marks : List ℕ) → m ≤ n → AreFrom m (map (λ (r : ℕ). (n, r)) marks)
marked_below n m marks low i q there = (let here = marked_at n marks i q there in omega arith)

-- they come behind pairs of no later version
pub marked_in_order : (n : ℕ) (ps : List (ℕ × ℕ)) (marks : List ℕ) → AreInOrder ps → ((i : ℕ) (p : ℕ × ℕ) → get_elem? ps i ≡ some p → p.0 ≤ n)
    → AreInOrder (ps ++ map (λ (r : ℕ). (n, r)) marks)
marked_in_order n [] [] order most = none_in_order
marked_in_order n [] (r ∷ rs) order most = more_in_order (n, r) (map (λ (x : ℕ). (n, x)) rs) (marked_at n rs) (marked_in_order n [] rs order most)
marked_in_order n (p ∷ ps) marks order most =
    more_in_order p (ps ++ map (λ (r : ℕ). (n, r)) marks)
    (λ i q there. ⊎_elim (λ mine. first_least p ps order i q mine) (λ behind. marked_below n p.0 marks (most 0 p refl) behind.0 q behind.1) (at_either ps (map (λ (r : ℕ). (n, r)) marks) i q there))
    (marked_in_order n ps marks (rest_in_order p ps order) (λ i q there. most (suc i) q there))

-- what is done and comes before one list in order, and before another, comes before the first pair of the one and then the other
-- list, where that pair is of no later version than it
from_either : (n : ℕ) (done : List (ℕ × ℕ)) (p : ℕ × ℕ) (xs ys : List (ℕ × ℕ)) → AreFrom n (done ++ p ∷ xs) → AreFrom n (done ++ ys) → AreFrom n (done ++ p ∷ ys)
from_either n [] p xs ys first second zero q there = first zero q there
from_either n [] p xs ys first second (suc i) q there = second i q there
from_either n (d ∷ done) p xs ys first second zero q there = first zero q there
from_either n (d ∷ done) p xs ys first second (suc i) q there = from_either n done p xs ys (λ j. first (suc j)) (λ j. second (suc j)) i q there

next_in_order : (done : List (ℕ × ℕ)) (p : ℕ × ℕ) (xs ys : List (ℕ × ℕ)) → AreInOrder (done ++ p ∷ xs) → AreInOrder (done ++ ys) → AreFrom p.0 ys → AreInOrder (done ++ p ∷ ys)
next_in_order [] p xs ys first second least = more_in_order p ys least second
next_in_order (d ∷ done) p xs ys first second least =
    more_in_order d (done ++ p ∷ ys) (from_either d.0 done p xs ys (first_least d (done ++ p ∷ xs) first) (first_least d (done ++ ys) second))
    (next_in_order done p xs ys (rest_in_order d (done ++ p ∷ xs) first) (rest_in_order d (done ++ ys) second) least)

behind_in_order : (done ys : List (ℕ × ℕ)) → AreInOrder (done ++ ys) → AreInOrder ys
behind_in_order [] ys order = order
behind_in_order (d ∷ done) ys order = behind_in_order done ys (rest_in_order d (done ++ ys) order)

-- how often a row stands in the pairs of a version
pub rows_at-append : (n x : ℕ) (ps qs : List (ℕ × ℕ)) → times x (rows_at n (ps ++ qs)) ≡ times x (rows_at n ps) + times x (rows_at n qs)
rows_at-append n x ps qs = omega (arith, counted_by n x (ps ++ qs), total-append (is_pair n x) ps qs, counted_by n x ps, counted_by n x qs)

-- Two rings are being merged: what is done stands in order before what is left of each, and no row was lost
pub record Merges (own more done old other : List ℕ) : Type 0 where
  pub own_order : AreInOrder (pairs_in done ++ pairs_in own)
  pub more_order : AreInOrder (pairs_in done ++ pairs_in more)
  pub all : (n x : ℕ) → times x (rows_at n (pairs_in done)) + times x (rows_at n (pairs_in own)) + times x (rows_at n (pairs_in more))
      ≡ times x (rows_at n (pairs_in old)) + times x (rows_at n (pairs_in other))
  pub long : length done + length own + length more ≡ length old + length other

pub merges_none : (old other : List ℕ) → AreInOrder (pairs_in old) → AreInOrder (pairs_in other) → Merges old other [] old other
merges_none old other first second = record { own_order = first; more_order = second; all = λ n x. omega arith; long = omega arith }

-- either of them may be called the first
turned : {own more done old other : List ℕ} → Merges own more done old other → Merges more own done other old
turned m = record { own_order = m.more_order; more_order = m.own_order; all = λ n x. (let same = m.all n x in omega arith); long = (let same = m.long in omega arith) }

-- the next one is that with the first word of one ring, if none of the other is of an earlier version
merges_own : (w : ℕ) (own more done old other : List ℕ) → Merges (w ∷ own) more done old other → AreFrom (w / ROOT_ROWS) (pairs_in more) → Merges own more (done ++ w ∷ []) old other
merges_own w own more done old other m least = record {
  own_order = subst AreInOrder (moved (pairs_in own)) m.own_order;
  more_order = subst AreInOrder (moved (pairs_in more)) (next_in_order (pairs_in done) pair (pairs_in own) (pairs_in more) m.own_order m.more_order least);
  all = λ n x. (let same = m.all n x in
      omega (arith, ap (λ ps. times x (rows_at n ps)) split, rows_at-append n x (pairs_in done) (pair ∷ []), rows_at-append n x (pair ∷ []) (pairs_in own)));
  long = (let same = m.long in omega (arith, length-append done (w ∷ [])));
}
  where
    pair : ℕ × ℕ
    pair = (w / ROOT_ROWS, w % ROOT_ROWS)

    split : pairs_in (done ++ w ∷ []) ≡ pairs_in done ++ pair ∷ []
    split = map-append (λ word. (word / ROOT_ROWS, word % ROOT_ROWS)) done (w ∷ [])

    moved : (ps : List (ℕ × ℕ)) → pairs_in done ++ pair ∷ ps ≡ pairs_in (done ++ w ∷ []) ++ ps
    moved ps = sym (ap (λ qs. qs ++ ps) split ∙ append_assoc (pairs_in done) (pair ∷ []) ps)

-- no pair is of an earlier version than the first one
from_first : (p : ℕ × ℕ) (ps : List (ℕ × ℕ)) (n : ℕ) → AreInOrder (p ∷ ps) → n ≤ p.0 → AreFrom n (p ∷ ps)
from_first p ps n order low zero q there = (let e = ap (λ (x : ℕ × ℕ). x.0) (some-injective p q there) in omega arith)
from_first p ps n order low (suc i) q there = (let later = first_least p ps order i q there in omega arith)

from_none : (n : ℕ) → AreFrom n []
from_none n i q there = absurd (some-ne-none q (sym there))

-- what the test for the next word says, of a ring of which so many words are left before those that are done
own_first : (own done more : List ℕ) → is_own_next (length own) (own ++ done) more ≡ true → 0 < length own + length more → AreInOrder (pairs_in more)
    → (w : ℕ) × (rest : List ℕ) × (own ≡ w ∷ rest) × AreFrom (w / ROOT_ROWS) (pairs_in more)
own_first [] done [] is some_left order = absurd (omega arith)
own_first [] done (o ∷ os) is some_left order = absurd (false≢true is)
own_first (w ∷ own) done [] is some_left order = (w, own, refl, from_none (w / ROOT_ROWS))
own_first (w ∷ own) done (o ∷ os) is some_left order =
    (w, own, refl, from_first (o / ROOT_ROWS, o % ROOT_ROWS) (pairs_in os) (w / ROOT_ROWS) order (leb-true (w / ROOT_ROWS) (o / ROOT_ROWS) (and_parts (nat_lt 0 (length (w ∷ own))) (nat_le (w / ROOT_ROWS) (o / ROOT_ROWS)) is).1))

more_first : (own done more : List ℕ) → is_own_next (length own) (own ++ done) more ≡ false → AreInOrder (pairs_in own)
    → (o : ℕ) × (rest : List ℕ) × (more ≡ o ∷ rest) × AreFrom (o / ROOT_ROWS) (pairs_in own)
more_first own done [] is order = absurd (true≢false is)
more_first [] done (o ∷ os) is order = (o, os, refl, from_none (o / ROOT_ROWS))
more_first (w ∷ own) done (o ∷ os) is order =
    let fails : nat_le (w / ROOT_ROWS) (o / ROOT_ROWS) ≡ false = ap (λ b. b && nat_le (w / ROOT_ROWS) (o / ROOT_ROWS)) (sym (lt-ltb 0 (length (w ∷ own)) (omega arith))) ∙ is in
    let later = leb-false (w / ROOT_ROWS) (o / ROOT_ROWS) fails in
    (o, os, refl, from_first (w / ROOT_ROWS, w % ROOT_ROWS) (pairs_in own) (o / ROOT_ROWS) order (omega arith))

-- A ring in which so many words are left, before those that are done
pub record IsMerging (left : ℕ) (ring more old other : List ℕ) : Type 0 where
  pub own : List ℕ
  pub done : List ℕ
  pub is : ring ≡ own ++ done
  pub rest : length own ≡ left
  pub merges : Merges own more done old other

pub merging_none : (old other : List ℕ) → AreInOrder (pairs_in old) → AreInOrder (pairs_in other) → IsMerging (length old) old other old other
merging_none old other first second = record { own = old; done = []; is = sym (append-nil old); rest = refl; merges = merges_none old other first second }

module _ {left : ℕ} {ring more old other : List ℕ} (m : IsMerging left ring more old other) where
  own_words : length m.own + length m.done ≡ length ring
  own_words = sym (ap length m.is ∙ length-append m.own m.done)

  pub merging_left : left ≤ length ring
  merging_left = (let all = own_words in let rest = m.rest in omega arith)

  pub merging_long : length ring + length more ≡ length old + length other
  merging_long = (let all = own_words in let long = m.merges.long in omega arith)

  at_own : is_own_next left ring more ≡ true → 0 < left + length more → (w : ℕ) × (rest : List ℕ) × (m.own ≡ w ∷ rest) × AreFrom (w / ROOT_ROWS) (pairs_in more)
  at_own test some_left =
      own_first m.own m.done more (ap (λ n. is_own_next n (m.own ++ m.done) more) m.rest ∙ ap (λ ws. is_own_next left ws more) (sym m.is) ∙ test)
      (let rest = m.rest in omega arith) (behind_in_order (pairs_in m.done) (pairs_in more) m.merges.more_order)

  at_more : is_own_next left ring more ≡ false → (o : ℕ) × (rest : List ℕ) × (more ≡ o ∷ rest) × AreFrom (o / ROOT_ROWS) (pairs_in m.own)
  at_more test =
      more_first m.own m.done more (ap (λ n. is_own_next n (m.own ++ m.done) more) m.rest ∙ ap (λ ws. is_own_next left ws more) (sym m.is) ∙ test)
      (behind_in_order (pairs_in m.done) (pairs_in m.own) m.merges.own_order)

  pub own_left : is_own_next left ring more ≡ true → 0 < left + length more → 0 < left
  own_left test some_left = (let at = at_own test some_left in let rest = m.rest in omega (arith, ap length at.2))

  pub more_left : is_own_next left ring more ≡ false → 0 < length more
  more_left test = (let at = at_more test in omega (arith, ap length at.2))

  -- the first word of the ring is the next one
  pub merging_own : (w : ℕ) (ws : List ℕ) → is_own_next left ring more ≡ true → 0 < left + length more → ring ≡ w ∷ ws → IsMerging (left - 1) (ws ++ w ∷ []) more old other
  merging_own w ws test some_left ring_is =
      let at = at_own test some_left in
      let whole : w ∷ ws ≡ at.0 ∷ (at.1 ++ m.done) = sym ring_is ∙ m.is ∙ ap (λ xs. xs ++ m.done) at.2 in
      let first : w ≡ at.0 = ap (λ xs. slice_index xs 0) whole in
      let others : ws ≡ at.1 ++ m.done = ap (λ xs. drop 1 xs) whole in
      record {
        own = at.1;
        done = m.done ++ w ∷ [];
        is = ap (λ xs. xs ++ w ∷ []) others ∙ append_assoc at.1 m.done (w ∷ []);
        rest = (let rest = m.rest in omega (arith, ap length at.2));
        merges = merges_own w at.1 more m.done old other
            (subst (λ xs. Merges xs more m.done old other) (at.2 ∙ ap (λ x. x ∷ at.1) (sym first)) m.merges)
            (subst (λ x. AreFrom (x / ROOT_ROWS) (pairs_in more)) (sym first) at.3);
      }

  -- the first word of the others is
  pub merging_more : (o : ℕ) (os : List ℕ) → is_own_next left ring more ≡ false → more ≡ o ∷ os → IsMerging left (ring ++ o ∷ []) os old other
  merging_more o os test more_is =
      let at = at_more test in
      let first : o ≡ at.0 = ap (λ xs. slice_index xs 0) (sym more_is ∙ at.2) in
      record {
        own = m.own;
        done = m.done ++ o ∷ [];
        is = ap (λ xs. xs ++ o ∷ []) m.is ∙ append_assoc m.own m.done (o ∷ []);
        rest = m.rest;
        merges = turned (merges_own o os m.own m.done other old
            (turned (subst (λ xs. Merges m.own xs m.done old other) more_is m.merges))
            (subst (λ x. AreFrom (x / ROOT_ROWS) (pairs_in m.own)) (sym first) at.3));
      }

-- the same of equal rings
pub merging_as : {left left' : ℕ} {ring ring' more more' old other : List ℕ} → left' ≡ left → ring' ≡ ring → more' ≡ more → IsMerging left ring more old other → IsMerging left' ring' more' old other
merging_as {left} {left'} {ring} {ring'} {more} {more'} {old} {other} same_left same_ring same_more m =
    subst (λ n. IsMerging n ring' more' old other) (sym same_left)
    (subst (λ ws. IsMerging left ws more' old other) (sym same_ring) (subst (λ ws. IsMerging left ring ws old other) (sym same_more) m))

none_there : (xs : List ℕ) → length xs ≡ 0 → xs ≡ []
none_there [] e = refl
none_there (x ∷ xs) e = absurd (omega arith)

-- where nothing is left, all of it is done
module _ {left : ℕ} {ring more old other : List ℕ} (m : IsMerging left ring more old other) (none_left : left ≡ 0) (none_more : length more ≡ 0) where
  all_done : m.own ≡ []
  all_done = none_there m.own (m.rest ∙ none_left)

  ring_done : ring ≡ m.done
  ring_done = m.is ∙ ap (λ xs. xs ++ m.done) all_done

  pub merged_order : AreInOrder (pairs_in ring)
  merged_order = subst AreInOrder (ap (λ ws. pairs_in m.done ++ pairs_in ws) (none_there more none_more) ∙ append-nil (pairs_in m.done) ∙ ap pairs_in (sym ring_done)) m.merges.more_order

  pub merged_all : (n x : ℕ) → times x (rows_at n (pairs_in ring)) ≡ times x (rows_at n (pairs_in old)) + times x (rows_at n (pairs_in other))
  merged_all n x =
      let f : List ℕ → ℕ = λ ws. times x (rows_at n (pairs_in ws)) in
      (let same = m.merges.all n x in
      let done = ap f ring_done in
      let own : f m.own ≡ 0 = ap f all_done in
      let rest : f more ≡ 0 = ap f (none_there more none_more) in omega arith)
