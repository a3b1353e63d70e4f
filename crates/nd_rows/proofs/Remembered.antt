-- Values of which a pass remembers the words.
use Rattle.std.proofs.Common.{◌≡◌, ℕ, zero, suc, ◌+◌, ◌-◌, ◌/◌, ◌<◌, ◌≤◌, ◌^◌, Bool, true, false, Option, Some, None, List, [], ◌∷◌, ◌++◌, length, map, take, drop, get_or, set, ℤ, pos, int_le, nat_le, nat_lt, bit_or, bit_xor, not, All, IsTrue, refl, sym, ap, ap₂, subst, ◌∙◌, arith, drop-cons, take_all}
use Rattle.std.specs.Prelude.{◌&&◌, ◌||◌, ◌==◌, replicate}
use Rattle.std.specs.List.{list_all, list_any}
use Rattle.std.proofs.lemmas.Bool.{and_from, and_parts, both_ways, false_from_ne_true, not-true, not_from_false, or_from, or_left, or_right, true≢false}
use Rattle.std.proofs.lemmas.Bool.Decides.{nat_tests}
use Rattle.std.proofs.lemmas.Int.{ints}
use Rattle.std.proofs.lemmas.List.{drop_all}
use Rattle.std.proofs.lemmas.List.Elements.{All-head, All-tail}
use Rattle.era_rows.specs.Memory.{Memory}
use Rattle.pls_archive.specs.declared.call.Call.TheVariants.{Member}
use Rattle.pls_archive.specs.declared.call.Entry.{Entry}
use Rattle.pls_archive.specs.declared.call.Reply.TheVariants.{No}
use Rattle.pls_archive.specs.declared.point.Point.{Point}
use Rattle.pls_archive.specs.History.{submissions}
use Rattle.pls_archive.specs.NondominatedRule.{member-no}
use Rattle.pls_archive.specs.Reply.{has_value, members, nondominated, point_weakly_dominates, some_weakly_dominates}
use Rattle.pls_vectors.specs.Archive.{dominates}
use Rattle.pls_vectors.specs.Dominance.{weakly_dominates, is_part, IsValue}
use Rattle.pls_vectors.specs.Word.{to_word, from_word}
use Rattle.pls_vectors.proofs.Archive.{archive-undominated, dominates-covered}
use Rattle.pls_vectors.proofs.Dominance.{weakly_dominates-IsPreorder}
use Rattle.pls_vectors.proofs.Lists.{list_any-weaker}
use Rattle.pls_vectors.proofs.Signs.{below-or}
use Rattle.nd_rows.specs.Entries.{is_submitted, memory_words, held_covers, held_dominates, recalls_value, recalls_dominating}
use Rattle.nd_rows.proofs.PointWords.{word_back}
use Rattle.nd_rows.proofs.Sides.{none-or, same-xor, word_fits}
use mathlib.Core.Option.{some, some-injective}
use lib.ListN.{get_elem?}

-- the words of the first parts, and 0 at each place past them
put_word : (v : List ℤ) (k m : ℕ) → k < length v → set (map to_word (take k v) ++ replicate (suc m) 0) k (to_word (get_or v k (pos 0))) ≡ map to_word (take (suc k) v) ++ replicate m 0
put_word [] k m low = absurd (omega arith)
put_word (x ∷ v) zero m low = refl
put_word (x ∷ v) (suc k) m low = ap (λ xs. to_word x ∷ xs) (put_word v k m (omega arith))

part_more : (v : List ℤ) (k : ℕ) → k < length v → IsTrue (is_part (get_or v k (pos 0))) → list_all is_part (take k v) ≡ true → list_all is_part (take (suc k) v) ≡ true
part_more [] k low inside so_far = absurd (omega arith)
part_more (x ∷ v) zero low inside so_far = ap (λ b. b && true) inside
part_more (x ∷ v) (suc k) low inside so_far =
    let parts = and_parts (is_part x) (list_all is_part (take k v)) so_far in
    ap₂ (λ a b. a && b) parts.0 (part_more v k (omega arith) inside parts.1)

-- so many parts were written, each in range
pub record AreWordsTo (v : List ℤ) (k : ℕ) (words : List ℕ) : Type 0 where
  pub words_are : words ≡ map to_word (take k v) ++ replicate (6 - k) 0
  pub in_range : list_all is_part (take k v) ≡ true

pub words_more : (v : List ℤ) (k w : ℕ) (words : List ℕ) → k < length v → length v ≤ 4 → w ≡ to_word (get_or v k (pos 0)) → IsTrue (is_part (get_or v k (pos 0))) → AreWordsTo v k words → AreWordsTo v (k + 1) (set words k w)
words_more v k w words low few is inside so_far = record {
  words_are =
      ap (λ y. set words k y) is
      ∙ ap (λ ws. set ws k (to_word (get_or v k (pos 0))))
      (so_far.words_are ∙ ap (λ n. map to_word (take k v) ++ replicate n 0) (let e : 6 - k ≡ suc (6 - (k + 1)) = omega arith in e))
      ∙ put_word v k (6 - (k + 1)) low
      ∙ ap (λ n. map to_word (take n v) ++ replicate (6 - (k + 1)) 0) (let e : suc k ≡ k + 1 = omega arith in e);
  in_range = ap (λ n. list_all is_part (take n v)) (let e : k + 1 ≡ suc k = omega arith in e) ∙ part_more v k low inside so_far.in_range;
}

pub words_all : (v : List ℤ) (k : ℕ) (words : List ℕ) → k ≡ length v → AreWordsTo v k words → words ≡ memory_words v
words_all v k words all so_far =
    so_far.words_are ∙ ap₂ (λ xs n. map to_word xs ++ replicate (6 - n) 0) (take_all k v (omega arith)) all

pub value_all : (v : List ℤ) (k : ℕ) (words : List ℕ) → 2 ≤ length v → length v ≤ 4 → k ≡ length v → AreWordsTo v k words → IsValue v
value_all v k words many few all so_far = record {
  at_least_two = many;
  at_most_four = few;
  in_range = ap (list_all is_part) (sym (take_all k v (omega arith))) ∙ so_far.in_range;
}

-- a word is at least that of a part where its part is
same_order : (w : ℕ) (y : ℤ) → is_part y ≡ true → nat_le (to_word y) w ≡ int_le y (from_word w)
same_order w y inside = grind (arith, ints)

-- the words of a value are its words
pub words_back : (v : List ℤ) → list_all is_part v ≡ true → map from_word (take (length v) (memory_words v)) ≡ v
words_back v inside = ap (map from_word) (first v (replicate (6 - length v) 0)) ∙ all_back v inside
  where
    first : (v : List ℤ) (rest : List ℕ) → take (length v) (map to_word v ++ rest) ≡ map to_word v
    first [] rest = refl
    first (x ∷ v) rest = ap (λ xs. to_word x ∷ xs) (first v rest)

    all_back : (v : List ℤ) → list_all is_part v ≡ true → map from_word (map to_word v) ≡ v
    all_back [] inside = refl
    all_back (x ∷ v) inside =
        let parts = and_parts (is_part x) (list_all is_part v) inside in
        ap₂ (λ y ys. y ∷ ys) (word_back x parts.0) (all_back v parts.1)

-- the places of a memory from one on
pub held_at : (memory : Memory) (k : ℕ) (held : Option (List ℕ)) → get_elem? memory k ≡ some held → drop k memory ≡ held ∷ drop (k + 1) memory
held_at [] k held there = absurd (nothing k there)
  where
    nothing : (k : ℕ) → get_elem? [] k ≡ some held → ⊥
    nothing k e = cc
held_at (m ∷ memory) zero held there = ap (λ x. x ∷ memory) (some-injective m held there)
held_at (m ∷ memory) (suc k) held there = held_at memory k held there ∙ ap (λ n. held ∷ drop n (m ∷ memory)) (let e : suc (k + 1) ≡ suc k + 1 = omega arith in e)

module _ (test : Option (List ℕ) → Bool) (memory : Memory) (k : ℕ) where
  module _ (held : Option (List ℕ)) (there : get_elem? memory k ≡ some held) (so_far : list_any test memory ≡ list_any test (drop k memory)) where
    -- a place that answers the question answers it for all
    pub recalls_found : test held ≡ true → true ≡ list_any test memory
    recalls_found found = sym (so_far ∙ ap (list_any test) (held_at memory k held there) ∙ or_left _ _ found)

    pub recalls_passed : test held ≡ false → list_any test memory ≡ list_any test (drop (k + 1) memory)
    recalls_passed found = so_far ∙ ap (list_any test) (held_at memory k held there) ∙ ap (λ b. b || list_any test (drop (k + 1) memory)) found

  -- no place is left
  pub recalls_none : length memory ≡ 16 → 16 ≤ k → list_any test memory ≡ list_any test (drop k memory) → false ≡ list_any test memory
  recalls_none places all so_far = sym (so_far ∙ ap (list_any test) (drop_all k memory (omega arith)))

-- where a value that was submitted weakly dominates another, some submission does
value_covers : (points : List Point) (x v : List ℤ) → has_value points x ≡ true → weakly_dominates x v ≡ true → some_weakly_dominates points v ≡ true
value_covers [] x v has covers = absurd (true≢false (sym has))
value_covers (p ∷ points) x v has covers = by_first (weakly_dominates p.value x && weakly_dominates x p.value) refl (λ later. value_covers points x v later covers)
  where
    by_first : (b : Bool) → (weakly_dominates p.value x && weakly_dominates x p.value) ≡ b → (has_value points x ≡ true → some_weakly_dominates points v ≡ true) → some_weakly_dominates (p ∷ points) v ≡ true
    by_first true is rest = or_left _ _ (weakly_dominates-IsPreorder.transitive p.value x v (and_parts _ _ is).0 covers)
    by_first false is rest = or_right _ _ (rest (sym (ap (λ b. b || has_value points x) is) ∙ has))

-- what some place answers, words at a place answer
held_words : (test : Option (List ℕ) → Bool) → test None ≡ false → (memory : Memory) → list_any test memory ≡ true
    → (place : ℕ) × (words : List ℕ) × (get_elem? memory place ≡ some (Some words)) × (test (Some words) ≡ true)
held_words test none [] meets = absurd (true≢false (sym meets))
held_words test none (None ∷ memory) meets =
    let later = held_words test none memory (sym (ap (λ b. b || list_any test memory) none) ∙ meets) in (suc later.0, later.1, later.2, later.3)
held_words test none (Some words ∷ memory) meets = by_first (test (Some words)) refl (held_words test none memory)
  where
    by_first : (b : Bool) → test (Some words) ≡ b → (list_any test memory ≡ true → (place : ℕ) × (ws : List ℕ) × (get_elem? memory place ≡ some (Some ws)) × (test (Some ws) ≡ true))
        → (place : ℕ) × (ws : List ℕ) × (get_elem? (Some words ∷ memory) place ≡ some (Some ws)) × (test (Some ws) ≡ true)
    by_first true is rest = (0, words, refl, is)
    by_first false is rest = let later = rest (sym (ap (λ b. b || list_any test memory) is) ∙ meets) in (suc later.0, later.1, later.2, later.3)

-- no member has a value that one which was submitted dominates
module _ (points : List Point) (x v : List ℤ) (has : has_value points x ≡ true) (better : dominates weakly_dominates x v ≡ true) where
  beaten : (m : Point) → (weakly_dominates m.value v && weakly_dominates v m.value) ≡ true → list_any (λ r. dominates point_weakly_dominates r m) points ≡ true
  beaten m same =
      let order = weakly_dominates-IsPreorder in
      let at = and_parts _ _ same in
      list_any-weaker _ _
      (λ r is.
      let over = dominates-covered order r.value x v (and_parts _ _ is).0 better in
      let parts = and_parts _ _ over in
      and_from _ _ (order.transitive r.value v m.value parts.0 at.1)
      (not_from_false _ (false_from_ne_true _ (λ back. both_ways _ (not-true _ parts.1) (order.transitive v m.value r.value at.1 back)))))
      points has

  none_has : (ms : List Point) → All (λ m. list_any (λ r. dominates point_weakly_dominates r m) points ≡ false) ms → has_value ms v ≡ false
  none_has [] unbeaten = refl
  none_has (m ∷ ms) unbeaten =
      let Unbeaten : Point → Type 0 = λ m. list_any (λ r. dominates point_weakly_dominates r m) points ≡ false in
      or_from _ _ (false_from_ne_true _ (λ same. both_ways _ (All-head Unbeaten m ms unbeaten) (beaten m same))) (none_has ms (All-tail Unbeaten m ms unbeaten))

  no_member : nondominated points (Member v) ≡ No
  no_member = member-no points v (none_has (members points) (archive-undominated point_weakly_dominates points))

-- What a value that the pass remembers tells of the submissions
module _ (entries : List Entry) (v : List ℤ) (memory : Memory) (holds : (place : ℕ) (words : List ℕ) → get_elem? memory place ≡ some (Some words) → is_submitted (length v) words entries ≡ true) where
  -- some submission weakly dominates what it weakly dominates
  pub recalled_submitted : recalls_value memory v ≡ true → some_weakly_dominates (submissions entries) v ≡ true
  recalled_submitted recalls =
      let is = held_words (held_covers v) refl memory recalls in
      value_covers (submissions entries) (map from_word (take (length v) is.1)) v (holds is.0 is.1 is.2) is.3

  -- and no member has a value that it dominates
  pub recalled_not_member : recalls_dominating memory v ≡ true → nondominated (submissions entries) (Member v) ≡ No
  recalled_not_member recalls =
      let is = held_words (held_dominates v) refl memory recalls in
      no_member (submissions entries) (map from_word (take (length v) is.1)) v (holds is.0 is.1 is.2) is.3

zero_low : (n : ℕ) → nat_le 0 n ≡ true
zero_low n = grind arith

and_true : (b : Bool) → b ≡ (b && true)
and_true true = refl
and_true false = refl

-- four tests one after another, and nested
nested : (p q r s : Bool) → (((p && q) && r) && s) ≡ (p && (q && (r && s)))
nested true true true s = refl
nested true true false s = refl
nested true false r s = refl
nested false q r s = refl

-- each of four words is at least the wanted one, where the first are those of the value, and the others 0
four_at_least : (v : List ℤ) (a b c d : ℕ) (more : List ℕ) → IsValue v
    → (((nat_le (get_or (memory_words v) 0 0) a && nat_le (get_or (memory_words v) 1 0) b) && nat_le (get_or (memory_words v) 2 0) c) && nat_le (get_or (memory_words v) 3 0) d) ≡ held_covers v (Some (a ∷ b ∷ c ∷ d ∷ more))
four_at_least [] a b c d more is = absurd (let many = is.at_least_two in omega arith)
four_at_least (x ∷ []) a b c d more is = absurd (let many = is.at_least_two in omega arith)
four_at_least (x ∷ y ∷ []) a b c d more is =
    let one = and_parts (is_part x) (is_part y && true) is.in_range in
    let two = and_parts (is_part y) true one.1 in
    nested (nat_le (to_word x) a) (nat_le (to_word y) b) (nat_le 0 c) (nat_le 0 d)
    ∙ ap₂ (λ s t. s && t) (same_order a x one.0) (ap₂ (λ s t. s && t) (same_order b y two.0) (ap₂ (λ s t. s && t) (zero_low c) (zero_low d)))
four_at_least (x ∷ y ∷ z ∷ []) a b c d more is =
    let one = and_parts (is_part x) (is_part y && (is_part z && true)) is.in_range in
    let two = and_parts (is_part y) (is_part z && true) one.1 in
    let three = and_parts (is_part z) true two.1 in
    nested (nat_le (to_word x) a) (nat_le (to_word y) b) (nat_le (to_word z) c) (nat_le 0 d)
    ∙ ap₂ (λ s t. s && t) (same_order a x one.0) (ap₂ (λ s t. s && t) (same_order b y two.0) (ap₂ (λ s t. s && t) (same_order c z three.0) (zero_low d)))
four_at_least (x ∷ y ∷ z ∷ w ∷ []) a b c d more is =
    let one = and_parts (is_part x) (is_part y && (is_part z && (is_part w && true))) is.in_range in
    let two = and_parts (is_part y) (is_part z && (is_part w && true)) one.1 in
    let three = and_parts (is_part z) (is_part w && true) two.1 in
    let four = and_parts (is_part w) true three.1 in
    nested (nat_le (to_word x) a) (nat_le (to_word y) b) (nat_le (to_word z) c) (nat_le (to_word w) d)
    ∙ ap₂ (λ s t. s && t) (same_order a x one.0)
    (ap₂ (λ s t. s && t) (same_order b y two.0) (ap₂ (λ s t. s && t) (same_order c z three.0) (same_order d w four.0 ∙ and_true (int_le w (from_word d)))))
four_at_least (x ∷ y ∷ z ∷ w ∷ u ∷ v) a b c d more is = absurd (let few = is.at_most_four in omega arith)

words_at_least : (v : List ℤ) (words wanted : List ℕ) → 4 ≤ length words → IsValue v → wanted ≡ memory_words v
    → (((nat_le (get_or wanted 0 0) (get_or words 0 0) && nat_le (get_or wanted 1 0) (get_or words 1 0)) && nat_le (get_or wanted 2 0) (get_or words 2 0)) && nat_le (get_or wanted 3 0) (get_or words 3 0)) ≡ held_covers v (Some words)
words_at_least v [] wanted room is wanted_is = absurd (omega arith)
words_at_least v (a ∷ []) wanted room is wanted_is = absurd (omega arith)
words_at_least v (a ∷ b ∷ []) wanted room is wanted_is = absurd (omega arith)
words_at_least v (a ∷ b ∷ c ∷ []) wanted room is wanted_is = absurd (omega arith)
words_at_least v (a ∷ b ∷ c ∷ d ∷ more) wanted room is wanted_is =
    ap (λ w. ((nat_le (get_or w 0 0) a && nat_le (get_or w 1 0) b) && nat_le (get_or w 2 0) c) && nat_le (get_or w 3 0) d) wanted_is ∙ four_at_least v a b c d more is

-- a word of a value, and one past them, leaves the highest bit clear
memory_fits : (v : List ℤ) → list_all is_part v ≡ true → (k : ℕ) → get_or (memory_words v) k 0 < 2 ^ 63
memory_fits v inside = among v (6 - length v) inside
  where
    among : (v : List ℤ) (n : ℕ) → list_all is_part v ≡ true → (k : ℕ) → get_or (map to_word v ++ replicate n 0) k 0 < 2 ^ 63
    among [] zero inside k = omega arith
    among [] (suc n) inside zero = omega arith
    among [] (suc n) inside (suc k) = among [] n inside k
    among (x ∷ v) n inside zero = word_fits x (to_word x) (and_parts (is_part x) (list_all is_part v) inside).0 refl
    among (x ∷ v) n inside (suc k) = among v n (and_parts (is_part x) (list_all is_part v) inside).1 k

highest-clear : (n : ℕ) → (n / 2 ^ 63 == 0) ≡ nat_lt n (2 ^ 63)
highest-clear n = grind (arith, nat_tests)

-- the highest bit of a number tells that the k-th word is less than the wanted one, which leaves that bit clear
abbrev pub IsShortfall : List ℕ → List ℕ → ℕ → ℕ → Type 0
IsShortfall words wanted k n = get_or wanted k 0 < 2 ^ 63 → nat_lt n (2 ^ 63) ≡ nat_le (get_or wanted k 0) (get_or words k 0)

-- none of four words falls short where the or of the four leaves the highest bit clear
pub none_falls_short : (v : List ℤ) (words wanted : List ℕ) → 4 ≤ length words → IsValue v → wanted ≡ memory_words v
    → (a b c d : ℕ) → IsShortfall words wanted 0 a → IsShortfall words wanted 1 b → IsShortfall words wanted 2 c → IsShortfall words wanted 3 d
    → (bit_or (bit_or (bit_or a b) c) d / 2 ^ 63 == 0) ≡ held_covers v (Some words)
none_falls_short v words wanted room is wanted_is a b c d first second third fourth =
    highest-clear _ ∙ (rw (below-or 63, below-or 63, below-or 63, first (low 0), second (low 1), third (low 2), fourth (low 3)) (words_at_least v words wanted room is wanted_is))
  where
    low : (k : ℕ) → get_or wanted k 0 < 2 ^ 63
    low k = subst (λ ws. get_or ws k 0 < 2 ^ 63) (sym wanted_is) (memory_fits v is.in_range k)

-- the parts of the value are at least those of which these are the first words
abbrev held_below : List ℤ → List ℕ → Bool
held_below v words = weakly_dominates v (map from_word (take (length v) words))

-- The or of the differences of the first k words is 0 where these are equal: the words that are left then tell whether all are.
pub record AreCompared (v : List ℤ) (words : List ℕ) (k other : ℕ) : Type 0 where
  pub rest_covers : held_covers (drop k v) (Some (drop k words)) ≡ true
  pub so_far : held_below v words ≡ ((other == 0) && held_below (drop k v) (drop k words))

-- a word is that of a part that its part is not below
same_word : (w : ℕ) (y : ℤ) → is_part y ≡ true → int_le y (from_word w) ≡ true → int_le (from_word w) y ≡ (w == to_word y)
same_word w y inside le = grind (arith, ints)

-- one more word
pub compared_more : (v : List ℤ) (words : List ℕ) (k other : ℕ) → k < length v → k < length words → IsTrue (is_part (get_or v k (pos 0))) → AreCompared v words k other
    → (y : ℕ) → y ≡ to_word (get_or v k (pos 0)) → AreCompared v words (k + 1) (bit_or other (bit_xor (get_or words k 0) y))
compared_more v words k other low room inside so_far y y_is =
    let part = get_or v k (pos 0) in
    let w = get_or words k 0 in
    let v_is : drop k v ≡ part ∷ drop (k + 1) v = drop-cons v k (pos 0) low ∙ ap (λ n. part ∷ drop n v) (let e : suc k ≡ k + 1 = omega arith in e) in
    let ws_is : drop k words ≡ w ∷ drop (k + 1) words = drop-cons words k 0 room ∙ ap (λ n. w ∷ drop n words) (let e : suc k ≡ k + 1 = omega arith in e) in
    let covers = and_parts (int_le part (from_word w)) (held_covers (drop (k + 1) v) (Some (drop (k + 1) words)))
    (sym (ap₂ (λ a b. held_covers a (Some b)) v_is ws_is) ∙ so_far.rest_covers) in
    record {
      rest_covers = covers.1;
      so_far =
          so_far.so_far
          ∙ ap (λ b. (other == 0) && b) (ap₂ held_below v_is ws_is ∙ ap (λ b. b && held_below (drop (k + 1) v) (drop (k + 1) words)) (same_word w part inside covers.0 ∙ ap (λ n. w == n) (sym y_is)))
          ∙ by_both (other == 0) (w == y) (held_below (drop (k + 1) v) (drop (k + 1) words))
          ∙ ap (λ b. b && held_below (drop (k + 1) v) (drop (k + 1) words)) (sym (none-or other (bit_xor w y) ∙ ap (λ b. (other == 0) && b) (same-xor w y)));
    }
  where
    by_both : (a b c : Bool) → (a && (b && c)) ≡ ((a && b) && c)
    by_both true b c = refl
    by_both false b c = refl

-- all were compared
pub compared_all : (v : List ℤ) (words : List ℕ) (k other : ℕ) → k ≡ length v → AreCompared v words k other → held_covers v (Some words) ≡ true → not (other == 0) ≡ held_dominates v (Some words)
compared_all v words k other all so_far covers =
    ap not (and_true (other == 0) ∙ ap (λ b. (other == 0) && b) (sym (none_left (drop k v) (drop k words) (drop_all k v (omega arith)))) ∙ sym so_far.so_far)
    ∙ sym (ap (λ b. b && not (held_below v words)) covers)
  where
    none_left : (u : List ℤ) (ws : List ℕ) → u ≡ [] → held_below u ws ≡ true
    none_left u ws empty = ap (λ u. held_below u ws) empty
