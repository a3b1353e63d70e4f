-- Bounding boxes of values: what a box encloses, what it tells about a value, and how far a value is from its middle.
use Rattle.std.specs.Prelude.{ℕ, ◌+◌, ◌*◌, ℤ, pos, ◌-ℤ◌, ◌*ℤ◌, unsigned_abs, int_le, Bool, not, ◌&&◌, if◌then◌else◌, List, [], ◌∷◌, All, IsTrue, IsFalse}
use Rattle.pls_vectors.specs.Dominance.{weakly_dominates}
use Rattle.pls_vectors.specs.declared.range.Decision.{Decision}
use Rattle.pls_vectors.specs.declared.range.Decision.TheVariants.{AllCover, CoversAll, Apart, Mixed}

-- the ideal point and the nadir point
pub record Box : Type 0 where
  pub ideal : List ℤ
  pub nadir : List ℤ

-- the value lies between the nadir and the ideal
abbrev pub encloses : Box → List ℤ → Bool
encloses box v = weakly_dominates box.ideal v && weakly_dominates v box.nadir

-- the box of one value
abbrev pub box_of : List ℤ → Box
box_of v = record { ideal = v; nadir = v }

abbrev pub greater : ℤ → ℤ → ℤ
greater x y = if int_le x y then y else x

abbrev pub smaller : ℤ → ℤ → ℤ
smaller x y = if int_le x y then x else y

-- f of the two parts at each place
abbrev pub at_each : (ℤ → ℤ → ℤ) → List ℤ → List ℤ → List ℤ
at_each f [] ys = []
at_each f (x ∷ xs) [] = []
at_each f (x ∷ xs) (y ∷ ys) = f x y ∷ at_each f xs ys

-- the least box that encloses what the box encloses, and the value
abbrev pub grown : Box → List ℤ → Box
grown box v = record { ideal = at_each greater box.ideal v; nadir = at_each smaller box.nadir v }

-- the answer of a box about a value
abbrev pub decision : Box → List ℤ → Decision
decision box v =
    if weakly_dominates box.nadir v then AllCover else
    if weakly_dominates v box.ideal then CoversAll else
    if not (weakly_dominates box.ideal v) && not (weakly_dominates v box.nadir) then Apart else Mixed

-- what the answer says of each of the enclosed values
abbrev pub Tells : Decision → List (List ℤ) → List ℤ → Type 0
Tells AllCover values v = All (λ w. IsTrue (weakly_dominates w v)) values
Tells CoversAll values v = All (λ w. IsTrue (weakly_dominates v w)) values
Tells Apart values v = All (λ w. IsFalse (weakly_dominates w v) × IsFalse (weakly_dominates v w)) values
Tells Mixed values v = Unit {0}

abbrev pub square : ℤ → ℕ
square z = unsigned_abs z * unsigned_abs z

-- the square of twice the distance of a part from the middle between two others
abbrev pub part_gap : ℤ → ℤ → ℤ → ℕ
part_gap ideal nadir x = square (((pos 2 *ℤ x) -ℤ ideal) -ℤ nadir)

abbrev pub gap_between : List ℤ → List ℤ → List ℤ → ℕ
gap_between [] nadir xs = 0
gap_between (i ∷ ideal) [] xs = 0
gap_between (i ∷ ideal) (n ∷ nadir) [] = 0
gap_between (i ∷ ideal) (n ∷ nadir) (x ∷ xs) = part_gap i n x + gap_between ideal nadir xs

-- the gap of a value to a box: the sum of these over its parts
abbrev pub gap : Box → List ℤ → ℕ
gap box v = gap_between box.ideal box.nadir v
