-- Weak dominance is a partial order.
use Rattle.std.proofs.Common.{◌≡◌, ◌≢◌, ◌↔◌, ℤ, Bool, true, false, ◌&&◌, IsTrue, int_le, List, [], ◌∷◌, ◌++◌, length, refl, ap, arith, ◌∙◌, sym, subst}
use Rattle.std.proofs.lemmas.Int.{ints}
use Rattle.std.proofs.lemmas.Bool.{and_parts, and_from, both_ways, not-true, not_from_false, false_from_ne_true}
use Rattle.pls_vectors.specs.Archive.{IsPreorder, dominates}
use Rattle.pls_vectors.specs.Dominance.{weakly_dominates}

int_le-refl : (x : ℤ) → int_le x x ≡ true
int_le-refl x = grind (arith, ints)

int_le-trans : (x y z : ℤ) → int_le x y ≡ true → int_le y z ≡ true → int_le x z ≡ true
int_le-trans x y z p q = grind (arith, ints)

int_le-antisym : (x y : ℤ) → int_le x y ≡ true → int_le y x ≡ true → x ≡ y
int_le-antisym x y p q = grind (arith, ints)

-- weak dominance is a partial order
pub weakly_dominates-refl : (xs : List ℤ) → weakly_dominates xs xs ≡ true
weakly_dominates-refl [] = refl
weakly_dominates-refl (x ∷ xs) = and_from _ _ (int_le-refl x) (weakly_dominates-refl xs)

pub weakly_dominates-trans :
    (xs ys zs : List ℤ) → weakly_dominates xs ys ≡ true → weakly_dominates ys zs ≡ true → weakly_dominates xs zs ≡ true
weakly_dominates-trans [] [] zs p q = q
weakly_dominates-trans [] (y ∷ ys) zs p q = cc
weakly_dominates-trans (x ∷ xs) [] zs p q = cc
weakly_dominates-trans (x ∷ xs) (y ∷ ys) [] p q = q
weakly_dominates-trans (x ∷ xs) (y ∷ ys) (z ∷ zs) p q =
    let first = and_parts _ _ p in
    let second = and_parts _ _ q in
    and_from _ _ (int_le-trans z y x second.0 first.0) (weakly_dominates-trans xs ys zs first.1 second.1)

pub weakly_dominates-antisym :
    (xs ys : List ℤ) → weakly_dominates xs ys ≡ true → weakly_dominates ys xs ≡ true → xs ≡ ys
weakly_dominates-antisym [] [] p q = refl
weakly_dominates-antisym [] (y ∷ ys) p q = cc
weakly_dominates-antisym (x ∷ xs) [] p q = cc
weakly_dominates-antisym (x ∷ xs) (y ∷ ys) p q =
    let there = and_parts _ _ p in
    let back = and_parts _ _ q in
    let first = int_le-antisym x y back.0 there.0 in
    let rest = weakly_dominates-antisym xs ys there.1 back.1 in
    cc

pub weakly_dominates-IsPreorder : IsPreorder weakly_dominates
weakly_dominates-IsPreorder = record { reflexive = weakly_dominates-refl; transitive = weakly_dominates-trans }

-- points that are compared by their values
pub IsPreorder-by :
    {P V : Type 0} {covers : V → V → Bool} (value : P → V) → IsPreorder covers → IsPreorder (λ p q. covers (value p) (value q))
IsPreorder-by value order = record {
  reflexive = λ p. order.reflexive (value p);
  transitive = λ p q r. order.transitive (value p) (value q) (value r);
}

-- an equal end decides nothing
pub weakly_dominates-append :
    (xs ys end : List ℤ) → length xs ≡ length ys → weakly_dominates (xs ++ end) (ys ++ end) ≡ weakly_dominates xs ys
weakly_dominates-append [] [] end e = weakly_dominates-refl end
weakly_dominates-append [] (y ∷ ys) end e = absurd (omega arith)
weakly_dominates-append (x ∷ xs) [] end e = absurd (omega arith)
weakly_dominates-append (x ∷ xs) (y ∷ ys) end e =
    ap (λ rest. int_le y x && rest) (weakly_dominates-append xs ys end (omega arith))

strict_parts :
    (xs ys : List ℤ) → IsTrue (dominates weakly_dominates xs ys) → IsTrue (weakly_dominates xs ys) × (xs ≢ ys)
strict_parts xs ys h =
    let both = and_parts (weakly_dominates xs ys) _ h in
    let not_back = not-true (weakly_dominates ys xs) both.1 in
    (both.0, λ same. both_ways _ not_back (subst (λ (zs : List ℤ). IsTrue (weakly_dominates zs xs)) same (weakly_dominates-refl xs)))

-- to dominate is to cover and not to be equal
pub dominates_is_strict :
    (xs ys : List ℤ) (r : Bool) → r ≡ dominates weakly_dominates xs ys
    → IsTrue r ↔ (IsTrue (weakly_dominates xs ys) × (xs ≢ ys))
dominates_is_strict xs ys r e =
    let there = weakly_dominates xs ys in
    let back = weakly_dominates ys xs in
    let forth : IsTrue r → IsTrue there × (xs ≢ ys) = λ h. strict_parts xs ys (sym e ∙ h) in
    let apart : xs ≢ ys → IsTrue there → back ≡ false = λ other h. false_from_ne_true back (λ k. other (weakly_dominates-antisym xs ys h k)) in
    (forth, λ h. e ∙ and_from _ _ h.0 (not_from_false _ (apart h.1 h.0)))
