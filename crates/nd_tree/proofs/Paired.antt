-- Values with their solutions, as points.
use Rattle.std.proofs.Common.{◌≡◌, ℕ, zero, suc, ◌+◌, ◌<◌, ℤ, Bool, ◌||◌, Option, Some, None, List, [], ◌∷◌, ◌++◌, length, map, take, drop, get_or, refl, sym, subst, ap, ◌∙◌, arith}
use Rattle.std.specs.List.{list_any}
use Rattle.std.proofs.Math.Seq.{take-suc}
use Rattle.pls_vectors.specs.Dominance.{weakly_dominates}
use Rattle.pls_vectors.specs.Solution.{Solution}
use Rattle.pls_archive.specs.declared.point.Point.{Point}
use Rattle.pls_archive.specs.Reply.{some_weakly_dominates}
use Rattle.pls_archive.specs.Lists.{Every}
use Rattle.nd_tree.specs.Split.{value_at, AreUniform}
use Rattle.nd_tree.specs.Insertion.{point_at, HaveEqualParts}
use Rattle.std.specs.Prelude.{All}
use Rattle.std.proofs.lemmas.List.Elements.{All-nil, All-cons}
use Rattle.nd_tree.specs.Seen.{paired}
use Rattle.nd_tree.specs.Questions.{IsCover}

abbrev point : List ℤ → Solution → Point
point v s = record { value = v; sol = s }

pub length-paired : (vs : List (List ℤ)) (ss : List Solution) → length vs ≡ length ss → length (paired vs ss) ≡ length vs
length-paired [] ss e = refl
length-paired (v ∷ vs) [] e = absurd (omega arith)
length-paired (v ∷ vs) (s ∷ ss) e = ap suc (length-paired vs ss (omega arith))

pub list_any-paired :
    (test : List ℤ → Bool) (vs : List (List ℤ)) (ss : List Solution) → length vs ≡ length ss
    → list_any (λ (p : Point). test p.value) (paired vs ss) ≡ list_any test vs
list_any-paired test [] ss e = refl
list_any-paired test (v ∷ vs) [] e = absurd (omega arith)
list_any-paired test (v ∷ vs) (s ∷ ss) e = ap (λ b. test v || b) (list_any-paired test vs ss (omega arith))

pub get_or-paired :
    (vs : List (List ℤ)) (ss : List Solution) (k : ℕ) (d : Point) (v : List ℤ) (s : Solution) → length vs ≡ length ss → k < length vs
    → get_or (paired vs ss) k d ≡ point (get_or vs k v) (get_or ss k s)
get_or-paired [] ss k d v s e below = absurd (omega arith)
get_or-paired (x ∷ vs) [] k d v s e below = absurd (omega arith)
get_or-paired (x ∷ vs) (y ∷ ss) zero d v s e below = refl
get_or-paired (x ∷ vs) (y ∷ ss) (suc k) d v s e below = get_or-paired vs ss k d v s (omega arith) (omega arith)

-- without the values and the solutions at one place
pub paired-cut :
    (vs : List (List ℤ)) (ss : List Solution) (k : ℕ) → length vs ≡ length ss → k < length vs
    → paired (take k vs ++ drop (suc k) vs) (take k ss ++ drop (suc k) ss) ≡ take k (paired vs ss) ++ drop (suc k) (paired vs ss)
paired-cut [] ss k e below = absurd (omega arith)
paired-cut (v ∷ vs) [] k e below = absurd (omega arith)
paired-cut (v ∷ vs) (s ∷ ss) zero e below = refl
paired-cut (v ∷ vs) (s ∷ ss) (suc k) e below = ap (λ points. point v s ∷ points) (paired-cut vs ss k (omega arith) (omega arith))

-- what is found among the values is found among the points
pub IsCover-paired :
    (vs : List (List ℤ)) (ss : List Solution) → length vs ≡ length ss → (v : List ℤ) (found : Option (List ℤ))
    → IsCover (λ u. list_any (λ w. weakly_dominates w u) vs) v found → IsCover (some_weakly_dominates (paired vs ss)) v found
IsCover-paired vs ss e v None h = list_any-paired (λ w. weakly_dominates w v) vs ss e ∙ h
IsCover-paired vs ss e v (Some u) h = (h.0, list_any-paired (λ w. weakly_dominates w u) vs ss e ∙ h.1)

-- one point more
pub take-paired :
    (vs : List (List ℤ)) (ss : List Solution) (k : ℕ) (v : List ℤ) (s : Solution) → length vs ≡ length ss → k < length vs
    → get_or vs k v ≡ v → get_or ss k s ≡ s → take (k + 1) (paired vs ss) ≡ take k (paired vs ss) ++ point v s ∷ []
take-paired vs ss k v s e below value sol =
    let next : k + 1 ≡ suc k = omega arith in
    let long = length-paired vs ss e in
    let at : get_or (paired vs ss) k (point v s) ≡ point v s =
    get_or-paired vs ss k (point v s) v s e below ∙ (ap (λ (w : List ℤ). point w (get_or ss k s)) value ∙ ap (λ (t : Solution). point v t) sol) in
    ap (λ (n : ℕ). take n (paired vs ss)) next
    ∙ (take-suc (paired vs ss) k (point v s) (omega arith) ∙ ap (λ (p : Point). take k (paired vs ss) ++ p ∷ []) at)

-- a test of the value at a place
pub test-paired :
    (test : List ℤ → Bool) (vs : List (List ℤ)) (ss : List Solution) (k : ℕ) (v : List ℤ) (d : Point) → length vs ≡ length ss → k < length vs
    → get_or vs k v ≡ v → test (get_or (paired vs ss) k d).value ≡ test v
test-paired test vs ss k v d e below at =
    ap (λ (p : Point). test p.value) (get_or-paired vs ss k d v d.sol e below) ∙ ap test at

pub length-cut : {A : Type 0} (xs : List A) (k : ℕ) → k < length xs → length (take k xs ++ drop (suc k) xs) + 1 ≡ length xs
length-cut [] k below = absurd (omega arith)
length-cut (x ∷ xs) zero below = omega arith
length-cut (x ∷ xs) (suc k) below = let rest = length-cut xs k (omega arith) in omega arith

pub paired-append :
    (vs ws : List (List ℤ)) (ss ts : List Solution) → length vs ≡ length ss
    → paired (vs ++ ws) (ss ++ ts) ≡ paired vs ss ++ paired ws ts
paired-append [] ws [] ts e = refl
paired-append [] ws (s ∷ ss) ts e = absurd (omega arith)
paired-append (v ∷ vs) ws [] ts e = absurd (omega arith)
paired-append (v ∷ vs) ws (s ∷ ss) ts e = ap (λ points. point v s ∷ points) (paired-append vs ws ss ts (omega arith))

-- what holds of all values
pub every-paired :
    (P : List ℤ → Type 0) (vs : List (List ℤ)) (ss : List Solution) → length vs ≡ length ss → Every P vs → Every (λ (p : Point). P p.value) (paired vs ss)
every-paired P [] ss e all = tt
every-paired P (v ∷ vs) [] e all = absurd (omega arith)
every-paired P (v ∷ vs) (s ∷ ss) e all = (all.0, every-paired P vs ss (omega arith) all.1)

pub every-values :
    (P : List ℤ → Type 0) (vs : List (List ℤ)) (ss : List Solution) → length vs ≡ length ss → Every (λ (p : Point). P p.value) (paired vs ss) → All P vs
every-values P [] ss e all = All-nil P
every-values P (v ∷ vs) [] e all = absurd (omega arith)
every-values P (v ∷ vs) (s ∷ ss) e all = All-cons P v vs all.0 (every-values P vs ss (omega arith) all.1)

pub first-paired :
    (vs : List (List ℤ)) (ss : List Solution) → length vs ≡ length ss → value_at vs 0 ≡ (point_at (paired vs ss) 0).value
first-paired [] ss e = refl
first-paired (v ∷ vs) [] e = absurd (omega arith)
first-paired (v ∷ vs) (s ∷ ss) e = refl

pub uniform-paired :
    (vs : List (List ℤ)) (ss : List Solution) → length vs ≡ length ss → HaveEqualParts (paired vs ss) → AreUniform vs
uniform-paired vs ss e all =
    subst (λ (first : List ℤ). All (λ v. length v ≡ length first) vs) (sym (first-paired vs ss e))
    (every-values (λ v. length v ≡ length (point_at (paired vs ss) 0).value) vs ss e all)

-- f of one element more
pub map-take : {A B : Type 0} (f : A → B) (xs : List A) (k : ℕ) (d : A) → k < length xs → map f (take (k + 1) xs) ≡ map f (take k xs) ++ f (get_or xs k d) ∷ []
map-take {A} {B} f xs k d below = let next : suc k ≡ k + 1 = omega arith in subst (λ (n : ℕ). map f (take n xs) ≡ map f (take k xs) ++ f (get_or xs k d) ∷ []) next (more xs k below)
  where
    more : (ys : List A) (j : ℕ) → j < length ys → map f (take (suc j) ys) ≡ map f (take j ys) ++ f (get_or ys j d) ∷ []
    more [] j less = absurd (omega arith)
    more (y ∷ ys) zero less = refl
    more (y ∷ ys) (suc j) less = ap (λ zs. f y ∷ zs) (more ys j (omega arith))
