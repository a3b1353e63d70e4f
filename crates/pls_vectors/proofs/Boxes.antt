-- Bounding boxes: how they grow, what they tell of what they enclose, and gaps over stored places.
use Rattle.std.proofs.Common.{◌≡◌, ℕ, ◌+◌, ◌-◌, ◌<◌, ◌≤◌, ◌^◌, zero, suc, ℤ, pos, ◌-ℤ◌, ◌*ℤ◌, unsigned_abs, int_le, Bool, true, false, if◌then◌else◌, IsTrue, IsFalse, List, [], ◌∷◌, ◌++◌, length, take, drop, replicate, refl, ap, sym, ◌∙◌, subst, arith, to_z, of_z, w64, FitsSigned}
use Rattle.std.specs.List.{list_all}
use Rattle.std.proofs.lemmas.Bool.{and_parts, and_from, both_ways, false_from_ne_true}
use Rattle.std.proofs.lemmas.Int.{ints, to_z-of_z}
use Rattle.std.proofs.Math.Seq.{drop-cons}
use Rattle.pls_vectors.specs.Box.{Box, encloses, grown, greater, smaller, at_each, part_gap, gap_between}
use Rattle.pls_vectors.specs.Dominance.{weakly_dominates, is_part, IsValue}
use Rattle.pls_vectors.specs.Vector.{IsStored, places_of, length-stored, places_of-stored}
use Rattle.pls_vectors.proofs.Dominance.{weakly_dominates-trans}
use Rattle.std.proofs.lemmas.List.Elements.{All-get_or}
use Rattle.std.proofs.lemmas.List.Sums.{AllPass-from_list_all}
use Rattle.std.proofs.lemmas.Nat.{mul-le}
use Rattle.std.proofs.Math.Seq.{take-append_seam}
use Rattle.pls_vectors.proofs.Signs.{place, four_places}
use Rattle.pls_vectors.proofs.Stored.{IsStored-places_of}

-- the parts at each place, of vectors as they are stored
at_each-append :
    (f : ℤ → ℤ → ℤ) (xs ys zs ws : List ℤ) → length xs ≡ length ys → at_each f (xs ++ zs) (ys ++ ws) ≡ at_each f xs ys ++ at_each f zs ws
at_each-append f [] [] zs ws e = refl
at_each-append f [] (y ∷ ys) zs ws e = absurd (omega arith)
at_each-append f (x ∷ xs) [] zs ws e = absurd (omega arith)
at_each-append f (x ∷ xs) (y ∷ ys) zs ws e = ap (λ rest. f x y ∷ rest) (at_each-append f xs ys zs ws (omega arith))

at_each-replicate : (f : ℤ → ℤ → ℤ) (z : ℤ) → f z z ≡ z → (n : ℕ) → at_each f (replicate n z) (replicate n z) ≡ replicate n z
at_each-replicate f z e zero = refl
at_each-replicate f z e (suc n) = rw e (ap (λ rest. z ∷ rest) (at_each-replicate f z e n))

pub length-at_each : (f : ℤ → ℤ → ℤ) (xs ys : List ℤ) → length xs ≡ length ys → length (at_each f xs ys) ≡ length xs
length-at_each f [] ys e = refl
length-at_each f (x ∷ xs) [] e = absurd (omega arith)
length-at_each f (x ∷ xs) (y ∷ ys) e = let rest = length-at_each f xs ys (omega arith) in omega arith

at_each-in_range :
    (f : ℤ → ℤ → ℤ) → ((x y : ℤ) → IsTrue (is_part x) → IsTrue (is_part y) → IsTrue (is_part (f x y)))
    → (xs ys : List ℤ) → IsTrue (list_all is_part xs) → IsTrue (list_all is_part ys) → IsTrue (list_all is_part (at_each f xs ys))
at_each-in_range f keeps [] ys p q = refl
at_each-in_range f keeps (x ∷ xs) [] p q = refl
at_each-in_range f keeps (x ∷ xs) (y ∷ ys) p q =
    let here = and_parts (is_part x) _ p in
    let there = and_parts (is_part y) _ q in
    and_from _ _ (keeps x y here.0 there.0) (at_each-in_range f keeps xs ys here.1 there.1)

-- a part is what is stored of it
abbrev kept : ℤ → ℤ
kept z = to_z w64 (of_z w64 z)

part-fits : (x : ℤ) → IsTrue (is_part x) → FitsSigned w64 x
part-fits x p = grind (arith, ints)

pub place-part : (xs : List ℤ) (k : ℕ) → IsTrue (list_all is_part xs) → k < length xs → IsTrue (is_part (place xs k))
place-part xs k all below = All-get_or (λ (x : ℤ). is_part x ≡ true) xs k (pos 0) below (AllPass-from_list_all is_part xs all)

pub kept-place : (xs : List ℤ) (k : ℕ) → IsTrue (list_all is_part xs) → k < length xs → kept (place xs k) ≡ place xs k
kept-place xs k all below = to_z-of_z w64 (place xs k) (part-fits (place xs k) (place-part xs k all below))

-- four places, written out
written :
    (f : ℤ → ℤ → ℤ) (a b : List ℤ) → length a ≡ 4 → length b ≡ 4
    → f (place a 0) (place b 0) ∷ f (place a 1) (place b 1) ∷ f (place a 2) (place b 2) ∷ f (place a 3) (place b 3) ∷ [] ≡ at_each f a b
written f a b four four' =
    sym (ap (λ xs. at_each f xs b) (four_places a four)
    ∙ ap (λ ys. at_each f (place a 0 ∷ place a 1 ∷ place a 2 ∷ place a 3 ∷ []) ys) (four_places b four'))

pub at_each-four :
    (f : ℤ → ℤ → ℤ) (a b : List ℤ) {p q r s : ℤ} → length a ≡ 4 → length b ≡ 4
    → IsTrue (list_all is_part a) → IsTrue (list_all is_part b)
    → p ≡ f (kept (place a 0)) (kept (place b 0)) → q ≡ f (kept (place a 1)) (kept (place b 1))
    → r ≡ f (kept (place a 2)) (kept (place b 2)) → s ≡ f (kept (place a 3)) (kept (place b 3))
    → p ∷ q ∷ r ∷ s ∷ [] ≡ at_each f a b
at_each-four f a b {p} {q} {r} {s} four four' inside inside' first second third fourth =
    let each : (k : ℕ) → k < 4 → f (kept (place a k)) (kept (place b k)) ≡ f (place a k) (place b k) = λ k below.
    ap (λ x. f x (kept (place b k))) (kept-place a k inside (omega arith)) ∙ ap (f (place a k)) (kept-place b k inside' (omega arith)) in
    ap (λ x. x ∷ q ∷ r ∷ s ∷ []) (first ∙ each 0 (omega arith))
    ∙ (ap (λ x. f (place a 0) (place b 0) ∷ x ∷ r ∷ s ∷ []) (second ∙ each 1 (omega arith))
    ∙ (ap (λ x. f (place a 0) (place b 0) ∷ f (place a 1) (place b 1) ∷ x ∷ s ∷ []) (third ∙ each 2 (omega arith))
    ∙ (ap (λ x. f (place a 0) (place b 0) ∷ f (place a 1) (place b 1) ∷ f (place a 2) (place b 2) ∷ x ∷ []) (fourth ∙ each 3 (omega arith))
    ∙ written f a b four four')))

-- of two stored vectors of one length
module _ (f : ℤ → ℤ → ℤ) (keeps : (x y : ℤ) → IsTrue (is_part x) → IsTrue (is_part y) → IsTrue (is_part (f x y))) (zeros : f (pos 0) (pos 0) ≡ pos 0) where
  at_each-places : (a b : List ℤ) → length a ≡ length b → at_each f (places_of a) (places_of b) ≡ places_of (at_each f a b)
  at_each-places a b e =
      ap (λ (n : ℕ). at_each f (places_of a) (b ++ replicate (4 - n) (pos 0))) (sym e)
      ∙ (at_each-append f a b _ _ e
      ∙ (ap (λ rest. at_each f a b ++ rest) (at_each-replicate f (pos 0) zeros (4 - length a))
      ∙ ap (λ (n : ℕ). at_each f a b ++ replicate (4 - n) (pos 0)) (sym (length-at_each f a b e))))

  IsValue-at_each : (a b : List ℤ) → length a ≡ length b → IsValue a → IsValue b → IsValue (at_each f a b)
  IsValue-at_each a b e v w = record {
    at_least_two = let n = length-at_each f a b e in let m = v.at_least_two in omega arith;
    at_most_four = let n = length-at_each f a b e in let m = v.at_most_four in omega arith;
    in_range = at_each-in_range f keeps a b v.in_range w.in_range;
  }

  pub at_each-stored :
      {m n : ℕ} {xs ys a b : List ℤ} → IsStored m xs → IsStored n ys → take m xs ≡ a → take n ys ≡ b → length a ≡ length b
      → IsStored m (at_each f xs ys) × (take m (at_each f xs ys) ≡ at_each f a b)
  at_each-stored {m} {n} {xs} {ys} {a} {b} s t p q e =
      let is : at_each f xs ys ≡ places_of (at_each f a b) =
      ap (λ zs. at_each f zs ys) (sym (places_of-stored m xs s) ∙ ap places_of p)
      ∙ (ap (λ zs. at_each f (places_of a) zs) (sym (places_of-stored n ys t) ∙ ap places_of q) ∙ at_each-places a b e) in
      let long : m ≡ length (at_each f a b) = sym (length-stored m xs s) ∙ (ap length p ∙ sym (length-at_each f a b e)) in
      let value = IsValue-at_each a b e (subst (λ (zs : List ℤ). IsValue zs) p s.value) (subst (λ (zs : List ℤ). IsValue zs) q t.value) in
      let stored : IsStored m (at_each f xs ys) =
      subst (λ (k : ℕ). IsStored k (at_each f xs ys)) (sym long)
      (subst (λ (zs : List ℤ). IsStored (length (at_each f a b)) zs) (sym is) (IsStored-places_of (at_each f a b) value)) in (
        stored,
        ap (λ (k : ℕ). take k (at_each f xs ys)) long
            ∙ (ap (λ (zs : List ℤ). take (length (at_each f a b)) zs) is ∙ take-append_seam (at_each f a b) _),
      )

-- the greater and the smaller of two parts
by_order : (Q : Bool → Type 0) (x y : ℤ) → (int_le x y ≡ true → Q true) → (int_le x y ≡ false → Q false) → Q (int_le x y)
by_order Q x y above below = split (int_le x y) above below
  where
    split : (b : Bool) → (b ≡ true → Q true) → (b ≡ false → Q false) → Q b
    split true h k = h refl
    split false h k = k refl

pub greater-keeps : (x y : ℤ) → IsTrue (is_part x) → IsTrue (is_part y) → IsTrue (is_part (greater x y))
greater-keeps x y p q = by_order (λ b. IsTrue (is_part (if b then y else x))) x y (λ h. q) (λ h. p)

pub smaller-keeps : (x y : ℤ) → IsTrue (is_part x) → IsTrue (is_part y) → IsTrue (is_part (smaller x y))
smaller-keeps x y p q = by_order (λ b. IsTrue (is_part (if b then x else y))) x y (λ h. p) (λ h. q)

int_le-refl : (x : ℤ) → int_le x x ≡ true
int_le-refl x = grind (arith, ints)

int_le-other : (x y : ℤ) → int_le x y ≡ false → int_le y x ≡ true
int_le-other x y p = grind (arith, ints)

greater-first : (x y : ℤ) → int_le x (greater x y) ≡ true
greater-first x y = by_order (λ b. int_le x (if b then y else x) ≡ true) x y (λ h. h) (λ h. int_le-refl x)

greater-second : (x y : ℤ) → int_le y (greater x y) ≡ true
greater-second x y = by_order (λ b. int_le y (if b then y else x) ≡ true) x y (λ h. int_le-refl y) (λ h. int_le-other x y h)

smaller-first : (x y : ℤ) → int_le (smaller x y) x ≡ true
smaller-first x y = by_order (λ b. int_le (if b then x else y) x ≡ true) x y (λ h. int_le-refl x) (λ h. int_le-other x y h)

smaller-second : (x y : ℤ) → int_le (smaller x y) y ≡ true
smaller-second x y = by_order (λ b. int_le (if b then x else y) y ≡ true) x y (λ h. h) (λ h. int_le-refl y)

upper-first : (xs ys : List ℤ) → length xs ≡ length ys → weakly_dominates (at_each greater xs ys) xs ≡ true
upper-first [] ys e = refl
upper-first (x ∷ xs) [] e = absurd (omega arith)
upper-first (x ∷ xs) (y ∷ ys) e = and_from _ _ (greater-first x y) (upper-first xs ys (omega arith))

upper-second : (xs ys : List ℤ) → length xs ≡ length ys → weakly_dominates (at_each greater xs ys) ys ≡ true
upper-second [] [] e = refl
upper-second [] (y ∷ ys) e = absurd (omega arith)
upper-second (x ∷ xs) [] e = absurd (omega arith)
upper-second (x ∷ xs) (y ∷ ys) e = and_from _ _ (greater-second x y) (upper-second xs ys (omega arith))

lower-first : (xs ys : List ℤ) → length xs ≡ length ys → weakly_dominates xs (at_each smaller xs ys) ≡ true
lower-first [] ys e = refl
lower-first (x ∷ xs) [] e = absurd (omega arith)
lower-first (x ∷ xs) (y ∷ ys) e = and_from _ _ (smaller-first x y) (lower-first xs ys (omega arith))

lower-second : (xs ys : List ℤ) → length xs ≡ length ys → weakly_dominates ys (at_each smaller xs ys) ≡ true
lower-second [] [] e = refl
lower-second [] (y ∷ ys) e = absurd (omega arith)
lower-second (x ∷ xs) [] e = absurd (omega arith)
lower-second (x ∷ xs) (y ∷ ys) e = and_from _ _ (smaller-second x y) (lower-second xs ys (omega arith))

pub weakly_dominates-length : (a b : List ℤ) → weakly_dominates a b ≡ true → length a ≡ length b
weakly_dominates-length [] [] h = refl
weakly_dominates-length [] (y ∷ ys) h = cc
weakly_dominates-length (x ∷ xs) [] h = cc
weakly_dominates-length (x ∷ xs) (y ∷ ys) h =
    let rest = weakly_dominates-length xs ys (and_parts (int_le y x) _ h).1 in omega arith

-- A box whose ideal weakly dominates its nadir.
module _ (box : Box) (is : IsTrue (weakly_dominates box.ideal box.nadir)) where
  pub nadir-length : length box.nadir ≡ length box.ideal
  nadir-length = sym (weakly_dominates-length box.ideal box.nadir is)

  module _ (v : List ℤ) (e : length v ≡ length box.ideal) where
    abbrev up : List ℤ
    up = at_each greater box.ideal v

    abbrev down : List ℤ
    down = at_each smaller box.nadir v

    long : length box.nadir ≡ length v
    long = nadir-length ∙ sym e

    -- grown, it is one again, and encloses the new value and all that it enclosed
    pub grown-is : IsTrue (weakly_dominates (grown box v).ideal (grown box v).nadir)
    grown-is =
        weakly_dominates-trans up box.ideal down (upper-first box.ideal v (sym e))
        (weakly_dominates-trans box.ideal box.nadir down is (lower-first box.nadir v long))

    pub grown-new : IsTrue (encloses (grown box v) v)
    grown-new = and_from _ _ (upper-second box.ideal v (sym e)) (lower-second box.nadir v long)

    pub grown-others : (w : List ℤ) → IsTrue (encloses box w) → IsTrue (encloses (grown box v) w)
    grown-others w h =
        let parts = and_parts (weakly_dominates box.ideal w) _ h in
        and_from _ _ (weakly_dominates-trans up box.ideal w (upper-first box.ideal v (sym e)) parts.0)
        (weakly_dominates-trans w box.nadir down parts.1 (lower-first box.nadir v long))

-- What the corners tell of an enclosed value.
module _ (box : Box) (v w : List ℤ) (enclosed : IsTrue (encloses box w)) where
  pub told-all_cover : weakly_dominates box.nadir v ≡ true → IsTrue (weakly_dominates w v)
  told-all_cover h = weakly_dominates-trans w box.nadir v (and_parts (weakly_dominates box.ideal w) _ enclosed).1 h

  pub told-covers_all : weakly_dominates v box.ideal ≡ true → IsTrue (weakly_dominates v w)
  told-covers_all h = weakly_dominates-trans v box.ideal w h (and_parts (weakly_dominates box.ideal w) _ enclosed).0

  pub told-apart :
      weakly_dominates box.ideal v ≡ false → weakly_dominates v box.nadir ≡ false
      → IsFalse (weakly_dominates w v) × IsFalse (weakly_dominates v w)
  told-apart above below =
      let parts = and_parts (weakly_dominates box.ideal w) _ enclosed in (
        false_from_ne_true _ (λ h. both_ways _ above (weakly_dominates-trans box.ideal w v parts.0 h)),
        false_from_ne_true _ (λ h. both_ways _ below (weakly_dominates-trans v w box.nadir h parts.1)),
      )

-- the gap of stored vectors: the places past the parts add nothing
gap_between-append :
    (is ns xs is' ns' xs' : List ℤ) → length ns ≡ length is → length xs ≡ length is
    → gap_between (is ++ is') (ns ++ ns') (xs ++ xs') ≡ gap_between is ns xs + gap_between is' ns' xs'
gap_between-append [] [] [] is' ns' xs' p q = omega arith
gap_between-append [] [] (x ∷ xs) is' ns' xs' p q = absurd (omega arith)
gap_between-append [] (n ∷ ns) xs is' ns' xs' p q = absurd (omega arith)
gap_between-append (i ∷ is) [] xs is' ns' xs' p q = absurd (omega arith)
gap_between-append (i ∷ is) (n ∷ ns) [] is' ns' xs' p q = absurd (omega arith)
gap_between-append (i ∷ is) (n ∷ ns) (x ∷ xs) is' ns' xs' p q =
    let rest = gap_between-append is ns xs is' ns' xs' (omega arith) (omega arith) in
    add-assoc (part_gap i n x) (gap_between is ns xs) (gap_between is' ns' xs') rest
  where
    add-assoc : (a b c : ℕ) {d : ℕ} → d ≡ b + c → a + d ≡ (a + b) + c
    add-assoc a b c e = omega arith

gap_between-zeros : (n : ℕ) → gap_between (replicate n (pos 0)) (replicate n (pos 0)) (replicate n (pos 0)) ≡ 0
gap_between-zeros zero = refl
gap_between-zeros (suc n) = let rest = gap_between-zeros n in omega arith

pub gap_between-places :
    (is ns xs : List ℤ) → length ns ≡ length is → length xs ≡ length is
    → gap_between (places_of is) (places_of ns) (places_of xs) ≡ gap_between is ns xs
gap_between-places is ns xs p q =
    ap (λ (n : ℕ). gap_between (places_of is) (ns ++ replicate (4 - n) (pos 0)) (places_of xs)) p
    ∙ (ap (λ (n : ℕ). gap_between (places_of is) (ns ++ replicate (4 - length is) (pos 0)) (xs ++ replicate (4 - n) (pos 0))) q
    ∙ (gap_between-append is ns xs _ _ _ p q
    ∙ (ap (λ (n : ℕ). gap_between is ns xs + n) (gap_between-zeros (4 - length is)) ∙ plus_zero (gap_between is ns xs))))
  where
    plus_zero : (n : ℕ) → n + 0 ≡ n
    plus_zero n = omega arith

-- the difference as it is computed
stored : (z : ℤ) → FitsSigned w64 z → to_z w64 (of_z w64 z) ≡ z
stored z fits = to_z-of_z w64 z fits

twice-fits : (x : ℤ) → IsTrue (is_part x) → FitsSigned w64 (pos 2 *ℤ x)
twice-fits x p = grind (arith, ints)

less_one-fits : (i x : ℤ) → IsTrue (is_part i) → IsTrue (is_part x) → FitsSigned w64 ((pos 2 *ℤ x) -ℤ i)
less_one-fits i x p q = grind (arith, ints)

less_two-fits : (i n x : ℤ) → IsTrue (is_part i) → IsTrue (is_part n) → IsTrue (is_part x) → FitsSigned w64 (((pos 2 *ℤ x) -ℤ i) -ℤ n)
less_two-fits i n x p q r = grind (arith, ints)

less_two-is :
    (i n x : ℤ) → IsTrue (is_part i) → IsTrue (is_part n) → IsTrue (is_part x)
    → kept (kept (pos 2 *ℤ kept x) -ℤ kept i) -ℤ kept n ≡ ((pos 2 *ℤ x) -ℤ i) -ℤ n
less_two-is i n x p q r =
    ap (λ z. kept (kept (pos 2 *ℤ z) -ℤ kept i) -ℤ kept n) (stored x (part-fits x r))
    ∙ (ap (λ z. kept (z -ℤ kept i) -ℤ kept n) (stored _ (twice-fits x r))
    ∙ (ap (λ z. kept ((pos 2 *ℤ x) -ℤ z) -ℤ kept n) (stored i (part-fits i p))
    ∙ (ap (λ z. z -ℤ kept n) (stored _ (less_one-fits i x p r))
    ∙ ap (λ z. ((pos 2 *ℤ x) -ℤ i) -ℤ z) (stored n (part-fits n q)))))

pub off_middle :
    (i n x : ℤ) → IsTrue (is_part i) → IsTrue (is_part n) → IsTrue (is_part x)
    → FitsSigned w64 (kept (kept (pos 2 *ℤ kept x) -ℤ kept i) -ℤ kept n)
off_middle i n x p q r = subst (λ (z : ℤ). FitsSigned w64 z) (sym (less_two-is i n x p q r)) (less_two-fits i n x p q r)

pub off_middle-is :
    (i n x : ℤ) → IsTrue (is_part i) → IsTrue (is_part n) → IsTrue (is_part x)
    → kept (kept (kept (pos 2 *ℤ kept x) -ℤ kept i) -ℤ kept n) ≡ ((pos 2 *ℤ x) -ℤ i) -ℤ n
off_middle-is i n x p q r = ap kept (less_two-is i n x p q r) ∙ stored _ (less_two-fits i n x p q r)

off_middle-bound :
    (i n x : ℤ) → IsTrue (is_part i) → IsTrue (is_part n) → IsTrue (is_part x) → unsigned_abs (((pos 2 *ℤ x) -ℤ i) -ℤ n) ≤ 2 ^ 42
off_middle-bound i n x p q r = grind (arith, ints)

pub part_gap-bound :
    (i n x : ℤ) → IsTrue (is_part i) → IsTrue (is_part n) → IsTrue (is_part x) → part_gap i n x ≤ 2 ^ 84
part_gap-bound i n x p q r = let few = off_middle-bound i n x p q r in mul-le _ _ (2 ^ 42) (2 ^ 42) few few

drop-next : (xs : List ℤ) (k : ℕ) → k < length xs → drop k xs ≡ place xs k ∷ drop (k + 1) xs
drop-next xs k below =
    let next : suc k ≡ k + 1 = omega arith in
    drop-cons xs k (pos 0) below ∙ ap (λ (j : ℕ). place xs k ∷ drop j xs) next

-- one more place of the sum
pub gap_between-next :
    (is ns xs : List ℤ) (k : ℕ) → k < length is → k < length ns → k < length xs
    → gap_between (drop k is) (drop k ns) (drop k xs)
    ≡ part_gap (place is k) (place ns k) (place xs k) + gap_between (drop (k + 1) is) (drop (k + 1) ns) (drop (k + 1) xs)
gap_between-next is ns xs k p q r =
    ap (λ zs. gap_between zs (drop k ns) (drop k xs)) (drop-next is k p)
    ∙ (ap (λ zs. gap_between (place is k ∷ drop (k + 1) is) zs (drop k xs)) (drop-next ns k q)
    ∙ ap (λ zs. gap_between (place is k ∷ drop (k + 1) is) (place ns k ∷ drop (k + 1) ns) zs) (drop-next xs k r))

pub part_gap-places :
    (is ns xs : List ℤ) (k : ℕ) → IsTrue (list_all is_part is) → IsTrue (list_all is_part ns) → IsTrue (list_all is_part xs)
    → k < length is → k < length ns → k < length xs
    → part_gap (kept (place is k)) (kept (place ns k)) (kept (place xs k)) ≡ part_gap (place is k) (place ns k) (place xs k)
part_gap-places is ns xs k a b c p q r =
    ap (λ z. part_gap z (kept (place ns k)) (kept (place xs k))) (kept-place is k a p)
    ∙ (ap (λ z. part_gap (place is k) z (kept (place xs k))) (kept-place ns k b q) ∙ ap (part_gap (place is k) (place ns k)) (kept-place xs k c r))
