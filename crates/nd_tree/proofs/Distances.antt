-- Distances: the same both ways, and a quarter of the gap to the box of one vector.
use Rattle.std.proofs.Common.{◌≡◌, ℕ, ◌+◌, ◌*◌, ℤ, pos, ◌-ℤ◌, ◌*ℤ◌, unsigned_abs, List, [], ◌∷◌, refl, ap, arith}
use Rattle.std.proofs.lemmas.Int.{ints}
use Rattle.pls_vectors.specs.Box.{box_of, gap}
use Rattle.nd_tree.specs.Split.{distance}

abs-turned : (x y : ℤ) → unsigned_abs (x -ℤ y) ≡ unsigned_abs (y -ℤ x)
abs-turned x y = grind (arith, ints)

abs-self : (x : ℤ) → unsigned_abs (x -ℤ x) ≡ 0
abs-self x = grind (arith, ints)

abs-twice : (x y : ℤ) → unsigned_abs (((pos 2 *ℤ y) -ℤ x) -ℤ x) ≡ 2 * unsigned_abs (x -ℤ y)
abs-twice x y = grind (arith, ints)

square-twice : (a b : ℕ) → a ≡ 2 * b → a * a ≡ 4 * (b * b)
square-twice a b e = rw e (omega arith)

both : (a b c d : ℕ) → a ≡ c → b ≡ d → a + b ≡ c + d
both a b c d p q = omega arith

fourfold : (a b c d : ℕ) → a ≡ 4 * c → b ≡ 4 * d → a + b ≡ 4 * (c + d)
fourfold a b c d p q = omega arith

pub distance-turned : (v w : List ℤ) → distance v w ≡ distance w v
distance-turned [] [] = refl
distance-turned [] (y ∷ w) = refl
distance-turned (x ∷ v) [] = refl
distance-turned (x ∷ v) (y ∷ w) = both _ _ _ _ (ap (λ n. n * n) (abs-turned x y)) (distance-turned v w)

pub distance-self : (v : List ℤ) → distance v v ≡ 0
distance-self [] = refl
distance-self (x ∷ v) = both _ _ 0 0 (ap (λ n. n * n) (abs-self x)) (distance-self v)

pub gap-distance : (v w : List ℤ) → gap (box_of v) w ≡ 4 * distance v w
gap-distance [] w = refl
gap-distance (x ∷ v) [] = refl
gap-distance (x ∷ v) (y ∷ w) = fourfold _ _ _ _ (square-twice _ _ (abs-twice x y)) (gap-distance v w)
