-- Words of a fresh row, written one after another, and words that stand still.
use Rattle.std.proofs.Common.{◌≡◌, ℕ, zero, suc, ◌+◌, ◌-◌, ◌<◌, ◌≤◌, inl, inr, ⊎_elim, true, IsTrue, int_le, ℤ, pos, Some, List, [], ◌∷◌, ◌++◌, length, map, take, get_or, refl, sym, ap, ap₂, subst, ◌∙◌, arith}
use Rattle.std.specs.Prelude.{replicate}
use Rattle.std.specs.List.{list_all}
use Rattle.std.proofs.lemmas.List.{length-map, length-take-le, take_all}
use Rattle.std.proofs.lemmas.Bool.{and_parts, and_from, cases_eq, true≢false}
use Rattle.std.proofs.lemmas.Int.{ints}
use Rattle.era_core.specs.Lists.{times, In}
use Rattle.era_core.specs.Versions.{Cell, look_up}
use Rattle.era_rows.specs.Known.{known_words}
use Rattle.era_rows.specs.Passes.{known_of, work_of}
use Rattle.era_rows.specs.declared.pass.Pass.{Pass}
use Rattle.era_rows.specs.declared.rows.Rows.{Rows}
use Rattle.era_rows.specs.declared.law.Law.{Ghosts}
use Rattle.pls_archive.specs.declared.call.Entry.{Entry}
use Rattle.pls_vectors.specs.Box.{Box, grown, box_of, greater, smaller, at_each}
use Rattle.pls_vectors.specs.Dominance.{weakly_dominates, is_part}
use Rattle.pls_vectors.specs.Word.{to_word}
use Rattle.pls_vectors.specs.Vector.{places_of}
use Rattle.pls_archive.specs.declared.point.Point.{Point}
use Rattle.nd_rows.specs.Layout.{HasWords, HasValue, IsPointRow}
use Rattle.nd_rows.proofs.Sides.{word_at, part_at}
use Rattle.nd_update.specs.Building.{Outside, IsBuilding, Does}
use Rattle.nd_update.proofs.Building.{does_none, does_wider, does_read, writes_both, outside_both, outside_wider, words_outside, value_outside, words_snoc, words_same}

-- one more of a list
take_next : (xs : List ℕ) (k : ℕ) → k < length xs → take (k + 1) xs ≡ take k xs ++ get_or xs k 0 ∷ []
take_next xs k low = ap (λ n. take n xs) (let e : k + 1 ≡ suc k = omega arith in e) ∙ next xs k low
  where
    next : (ys : List ℕ) (n : ℕ) → n < length ys → take (suc n) ys ≡ take n ys ++ get_or ys n 0 ∷ []
    next [] n under = absurd (omega arith)
    next (y ∷ ys) zero under = refl
    next (y ∷ ys) (suc n) under = ap (λ zs. y ∷ zs) (next ys n (omega arith))

pub word_of_part : (xs : List ℤ) (k : ℕ) → k < length xs → get_or (map to_word xs) k 0 ≡ to_word (get_or xs k (pos 0))
word_of_part [] k low = absurd (omega arith)
word_of_part (x ∷ xs) zero low = refl
word_of_part (x ∷ xs) (suc k) low = word_of_part xs k (omega arith)

module _ {L : Type 0} {G : Ghosts L Entry} where
  -- the pass wrote these words into the row from one place on, and no word but up to another place
  pub record Writes (r : Rows L Entry) (row from to : ℕ) (ws : List ℕ) (p q : Pass L Entry G) : Type 0 where
    pub does : Does r [] [] (row ∷ []) p q
    pub work : work_of q ≡ work_of p
    pub outside : Outside row from to (known_words (known_of p)) (known_words (known_of q))
    pub words : HasWords (known_words (known_of q)) row from ws

module _ {L : Type 0} {G : Ghosts L Entry} (r : Rows L Entry) (row from to : ℕ) where
  pub writes_none : (p : Pass L Entry G) → IsBuilding r p → Writes r row from to [] p p
  writes_none p building = record {
    does = does_wider r [] [] [] (row ∷ []) p p (λ x here. absurd (let none : In x [] = here in omega arith)) (does_none r p building);
    work = refl;
    outside = λ x k out. refl;
    words = tt;
  }

  -- words were read between
  pub writes_read : (ws : List ℕ) (p q s : Pass L Entry G) → Writes r row from to ws p q → Does r [] [] [] q s → work_of s ≡ work_of q → Writes r row from to ws p s
  writes_read ws p q s so_far read work = record {
    does = does_read r [] [] (row ∷ []) p q s so_far.does read;
    work = work ∙ so_far.work;
    outside = λ x k out. read.elsewhere x k refl ∙ so_far.outside x k out;
    words = words_same (known_words (known_of q)) (known_words (known_of s)) row (λ k. read.elsewhere row k refl) from ws so_far.words;
  }

  module _ (p q s : Pass L Entry G) (step : Does r [] [] (row ∷ []) q s) (work : work_of s ≡ work_of q) (place : ℕ) (outside : Outside row place (place + 1) (known_words (known_of q)) (known_words (known_of s)))
      (w : ℕ) (there : look_up (known_words (known_of s)) row place ≡ Some w) where
    writes_next : (ws : List ℕ) → Writes r row from to ws p q → place ≡ from + length ws → place < to → Writes r row from to (ws ++ w ∷ []) p s
    writes_next ws so_far at low = record {
      does = writes_both r row p q s so_far.does step;
      work = work ∙ so_far.work;
      outside =
          outside_both row from to (known_words (known_of p)) (known_words (known_of q)) (known_words (known_of s)) so_far.outside
          (outside_wider row place (place + 1) from to (known_words (known_of q)) (known_words (known_of s)) (omega (arith, at)) (omega (arith, low)) outside);
      words =
          words_snoc (known_words (known_of s)) row from ws w
          (words_outside row place (place + 1) (known_words (known_of q)) (known_words (known_of s)) outside row from ws (inr (inl (omega (arith, at)))) so_far.words)
          (subst (λ n. look_up (known_words (known_of s)) row n ≡ Some w) at there);
    }

    -- the next of some words
    pub writes_take : (ws : List ℕ) (k : ℕ) → k < length ws → w ≡ get_or ws k 0 → place ≡ from + k → place < to → Writes r row from to (take k ws) p q → Writes r row from to (take (k + 1) ws) p s
    writes_take ws k under is at low so_far =
        let long : length (take k ws) ≡ k = length-take-le k ws (omega (arith, under)) in
        subst (λ xs. Writes r row from to xs p s) (ap (λ x. take k ws ++ x ∷ []) is ∙ sym (take_next ws k under)) (writes_next (take k ws) so_far (omega (arith, at, long)) low)

module _ {L : Type 0} {G : Ghosts L Entry} (r : Rows L Entry) (p q : Pass L Entry G) (c : List ℕ) (one : Does r [] [] c p q) where
  -- words and values of rows that were not changed
  pub word_still : (row place : ℕ) (ws : List ℕ) → times row c ≡ 0 → HasWords (known_words (known_of p)) row place ws → (k : ℕ) → k < length ws → look_up (known_words (known_of q)) row (place + k) ≡ Some (get_or ws k 0)
  word_still row place ws none has k low = one.elsewhere row (place + k) none ∙ word_at (known_words (known_of p)) row place ws has k low

  pub part_still : (objectives row place : ℕ) (v : List ℤ) → times row c ≡ 0 → HasValue objectives (known_words (known_of p)) row place v → (k : ℕ) → k < length v
      → look_up (known_words (known_of q)) row (place + k) ≡ Some (to_word (get_or v k (pos 0)))
  part_still objectives row place v none has k low = one.elsewhere row (place + k) none ∙ part_at objectives (known_words (known_of p)) row place v has k low

  pub value_still : (objectives row place : ℕ) (v : List ℤ) → times row c ≡ 0 → HasValue objectives (known_words (known_of p)) row place v → HasValue objectives (known_words (known_of q)) row place v
  value_still objectives row place v none has = record {
    words = words_same (known_words (known_of p)) (known_words (known_of q)) row (λ k. one.elsewhere row k none) place (map to_word v) has.words;
    is_value = has.is_value;
    parts = has.parts;
  }

-- all words were written
pub written_all : (cells : List Cell) (row place : ℕ) (ws : List ℕ) (k : ℕ) → length ws ≤ k → HasWords cells row place (take k ws) → HasWords cells row place ws
written_all cells row place ws k done has = subst (HasWords cells row place) (take_all k ws done) has

-- and so was a value, each part of which was one
each_part : (v : List ℤ) → ((i : ℕ) → i < length v → IsTrue (is_part (get_or v i (pos 0)))) → list_all is_part v ≡ true
each_part [] each = refl
each_part (x ∷ v) each = and_from _ _ (each 0 (omega arith)) (each_part v (λ i low. each (suc i) (omega (arith, low))))

pub value_all : (cells : List Cell) (row place : ℕ) (v : List ℤ) (k : ℕ) → 2 ≤ length v → length v ≤ 4 → length v ≤ k → ((i : ℕ) → i < k → IsTrue (is_part (get_or v i (pos 0)))) → HasWords cells row place (take k (map to_word v))
    → HasValue (length v) cells row place v
value_all cells row place v k two four done each has = record {
  words = written_all cells row place (map to_word v) k (let long = length-map v to_word in omega (arith, long, done)) has;
  is_value = record { at_least_two = two; at_most_four = four; in_range = each_part v (λ i low. each i (omega (arith, low, done))) };
  parts = refl;
}

pub part_more : (v : List ℤ) (k : ℕ) → IsTrue (is_part (get_or v k (pos 0))) → ((i : ℕ) → i < k → IsTrue (is_part (get_or v i (pos 0)))) → (i : ℕ) → i < k + 1 → IsTrue (is_part (get_or v i (pos 0)))
part_more v k here before i low =
    ⊎_elim (λ e. subst (λ j. IsTrue (is_part (get_or v j (pos 0)))) (sym e) here) (λ apart. before i (omega (arith, apart, low))) (cases_eq i k)

-- all parts were read
pub read_all : (v parts : List ℤ) (k : ℕ) → k ≡ length v → parts ≡ take k v ++ replicate (4 - k) (pos 0) → parts ≡ places_of v
read_all v parts k done is =
    is ∙ ap (λ n. take n v ++ replicate (4 - n) (pos 0)) done ∙ ap (λ xs. xs ++ replicate (4 - length v) (pos 0)) (take_all (length v) v (omega arith))

-- a value that stands in the row, by equal values
pub value_as : (n m : ℕ) (cells : List Cell) (row place : ℕ) (v w : List ℤ) → v ≡ w → n ≡ m → HasValue n cells row place v → HasValue m cells row place w
value_as n m cells row place v w same as_many has = subst (λ x. HasValue x cells row place w) as_many (subst (HasValue n cells row place) same has)

-- what was written of a point, one after another
module _ (shape row : ℕ) (point : Point) (b c d e f : List Cell) (parts_are : length point.value ≡ shape) (first : look_up b row 0 ≡ Some 2) (after_first : Outside row 1 5 b c)
    (value : HasValue (length point.value) c row 1 point.value) (after_value : Outside row 5 6 c d) (len : look_up d row 5 ≡ Some point.sol.len) (after_len : Outside row 6 38 d e)
    (words : HasWords e row 6 point.sol.words) (after_words : Outside row 38 39 e f) (parts : look_up f row 38 ≡ Some (length point.value)) where
  pub point_written : 1 ≤ point.sol.len → point.sol.len ≤ 256 → length point.sol.words ≡ 32 → IsPointRow shape f (record { row = row; point = point })
  point_written some few all = record {
    first = record {
      first = after_words row 0 (inr (inl (omega arith))) ∙ after_len row 0 (inr (inl (omega arith))) ∙ after_value row 0 (inr (inl (omega arith))) ∙ after_first row 0 (inr (inl (omega arith))) ∙ first;
      linked = tt;
    };
    value =
        let four = value.is_value.at_most_four in
        value_outside shape row 38 39 e f after_words row 1 point.value (inr (inl (omega (arith, four))))
        (value_outside shape row 6 38 d e after_len row 1 point.value (inr (inl (omega (arith, four))))
        (value_outside shape row 5 6 c d after_value row 1 point.value (inr (inl (omega (arith, four)))) (value_as (length point.value) shape c row 1 point.value point.value refl parts_are value)));
    sol_len = after_words row 5 (inr (inl (omega arith))) ∙ after_len row 5 (inr (inl (omega arith))) ∙ len;
    sol_words = words_outside row 38 39 e f after_words row 6 point.sol.words (inr (inl (omega (arith, all)))) words;
    parts = parts;
    some_items = some;
    few_items = few;
    all_words = all;
  }

-- a box is made of its corners
module _ (x y : ℤ) (le : IsTrue (int_le y x)) where
  greater-first : greater x y ≡ x
  greater-first = grind (arith, ints)

  smaller-second : smaller x y ≡ y
  smaller-second = grind (arith, ints)

corners : (xs ys : List ℤ) → IsTrue (weakly_dominates xs ys) → (at_each greater xs ys ≡ xs) × (at_each smaller xs ys ≡ ys)
corners [] [] le = (refl, refl)
corners [] (y ∷ ys) le = absurd (true≢false (sym le))
corners (x ∷ xs) [] le = absurd (true≢false (sym le))
corners (x ∷ xs) (y ∷ ys) le =
    let both = and_parts (int_le y x) (weakly_dominates xs ys) le in
    let rest = corners xs ys both.1 in
    (ap₂ (λ z zs. z ∷ zs) (greater-first x y both.0) rest.0, ap₂ (λ z zs. z ∷ zs) (smaller-second x y both.0) rest.1)

pub box_of_corners : (b : Box) → IsTrue (weakly_dominates b.ideal b.nadir) → grown (box_of b.ideal) b.nadir ≡ b
box_of_corners b le = let both = corners b.ideal b.nadir le in ap₂ (λ x y. record { ideal = x; nadir = y }) both.0 both.1
