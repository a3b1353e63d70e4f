-- Lists of children, with their boxes.
use Rattle.std.proofs.Common.{◌≡◌, ◌⊎◌, inl, inr, ℕ, zero, suc, ◌+◌, ◌<◌, ◌≤◌, Bool, List, [], ◌∷◌, ◌++◌, length, take, get_or, refl, ap, sym, subst, ◌∙◌, arith}
use Rattle.std.specs.Prelude.{IsTrue, IsFalse}
use Rattle.std.specs.List.{list_any}
use Rattle.std.proofs.lemmas.Bool.{or_left, or_right, or_from, or_parts, cases_lt}
use Rattle.std.proofs.lemmas.Bool.Decides.{nat_tests}
use Rattle.std.proofs.lemmas.List.{append_assoc, append-nil, get_or_default, length-append}
use Rattle.std.proofs.lemmas.List.Folds.{list_any-append}
use Rattle.pls_vectors.specs.Box.{Box}
use Rattle.pls_archive.specs.declared.point.Point.{Point}
use Rattle.pls_archive.specs.Lists.{Every}
use Rattle.nd_tree.specs.Seen.{Seen, all_points, Encloses, AreEnclosed, AreChildren}
use Rattle.nd_tree.specs.Questions.{in_turn}

-- each place has its turn
module _ (Q : ℕ → Type 0) (first n : ℕ) (within : first < n) (each : (j : ℕ) → j < n → Q (in_turn first j)) where
  before : (k : ℕ) → k < first → in_turn first (k + 1) ≡ k
  before k less = grind (arith, nat_tests)

  after : (k : ℕ) → first < k → in_turn first k ≡ k
  after k more = grind (arith, nat_tests)

  pub each_in_turn : (k : ℕ) → k < n → Q k
  each_in_turn k below = split (cases_lt k first) (cases_lt first k)
    where
      split : (k < first) ⊎ (first ≤ k) → (first < k) ⊎ (k ≤ first) → Q k
      split (inl less) other = subst Q (before k less) (each (k + 1) (omega arith))
      split (inr least) (inl more) = subst Q (after k more) (each k below)
      split (inr least) (inr most) = let same : first ≡ k = omega arith in subst Q same (each 0 (omega arith))

pub up_to : (n : ℕ) (Q : ℕ → Type 0) → ((j : ℕ) → j < n → Q j) → Q n → (j : ℕ) → j < n + 1 → Q j
up_to n Q before here j below = split (cases_lt j n)
  where
    split : (j < n) ⊎ (n ≤ j) → Q j
    split (inl less) = before j less
    split (inr more) = let e : n ≡ j = omega arith in subst Q e here

-- a test of the points below the children
module _ (test : Point → Bool) where
  pub none_below :
      (nodes : List Seen) → ((k : ℕ) → k < length nodes → (d : Seen) → IsFalse (list_any test (get_or nodes k d).points))
      → IsFalse (list_any test (all_points nodes))
  none_below [] each = refl
  none_below (s ∷ nodes) each =
      list_any-append test s.points (all_points nodes)
      ∙ or_from _ _ (each 0 (omega arith) s) (none_below nodes (λ k below d. each (suc k) (omega arith) d))

  pub some_below :
      (nodes : List Seen) (k : ℕ) (d : Seen) → k < length nodes → IsTrue (list_any test (get_or nodes k d).points)
      → IsTrue (list_any test (all_points nodes))
  some_below [] k d below h = absurd (omega arith)
  some_below (s ∷ nodes) zero d below h = list_any-append test s.points (all_points nodes) ∙ or_left _ _ h
  some_below (s ∷ nodes) (suc k) d below h =
      list_any-append test s.points (all_points nodes) ∙ or_right _ _ (some_below nodes k d (omega arith) h)

-- the points below one child more
all_points-suc :
    (nodes : List Seen) (k : ℕ) (d : Seen) → k < length nodes
    → all_points (take (suc k) nodes) ≡ all_points (take k nodes) ++ (get_or nodes k d).points
all_points-suc [] k d below = absurd (omega arith)
all_points-suc (s ∷ nodes) zero d below = append-nil s.points
all_points-suc (s ∷ nodes) (suc k) d below =
    ap (λ points. s.points ++ points) (all_points-suc nodes k d (omega arith))
    ∙ sym (append_assoc s.points (all_points (take k nodes)) (get_or nodes k d).points)

pub all_points-more :
    (nodes : List Seen) (k : ℕ) (s : Seen) → k < length nodes → get_or nodes k s ≡ s
    → all_points (take (k + 1) nodes) ≡ all_points (take k nodes) ++ s.points
all_points-more nodes k s below at =
    let next : k + 1 ≡ suc k = omega arith in
    ap (λ (n : ℕ). all_points (take n nodes)) next
    ∙ (all_points-suc nodes k s below ∙ ap (λ (x : Seen). all_points (take k nodes) ++ x.points) at)

-- what holds of the boxes and of the children at one place
pub enclosed-at :
    (boxes : List Box) (nodes : List Seen) → AreEnclosed boxes nodes → (k : ℕ) → k < length nodes → (b : Box) (d : Seen)
    → Encloses (get_or boxes k b) (get_or nodes k d).points
enclosed-at [] [] h k below b d = absurd (omega arith)
enclosed-at [] (s ∷ nodes) h k below b d = absurd h
enclosed-at (x ∷ boxes) [] h k below b d = absurd h
enclosed-at (x ∷ boxes) (s ∷ nodes) h zero below b d = h.0
enclosed-at (x ∷ boxes) (s ∷ nodes) h (suc k) below b d = enclosed-at boxes nodes h.1 k (omega arith) b d

pub enclosed-length : (boxes : List Box) (nodes : List Seen) → AreEnclosed boxes nodes → length boxes ≡ length nodes
enclosed-length [] [] h = refl
enclosed-length [] (s ∷ nodes) h = absurd h
enclosed-length (x ∷ boxes) [] h = absurd h
enclosed-length (x ∷ boxes) (s ∷ nodes) h = ap suc (enclosed-length boxes nodes h.1)

pub enclosed-both :
    (boxes : List Box) (nodes : List Seen) → AreEnclosed boxes nodes → (k : ℕ) → k < length nodes
    → (b : Box) → b ≡ get_or boxes k b → (s : Seen) → s ≡ get_or nodes k s → Encloses b s.points
enclosed-both boxes nodes h k below b e s f =
    subst (λ (x : Box). Encloses x s.points) (sym e)
    (subst (λ (x : Seen). Encloses (get_or boxes k b) x.points) (sym f) (enclosed-at boxes nodes h k below b s))

pub every-at : (P : Seen → Type 0) (nodes : List Seen) → Every P nodes → (k : ℕ) → k < length nodes → (d : Seen) → P (get_or nodes k d)
every-at P [] h k below d = absurd (omega arith)
every-at P (s ∷ nodes) h zero below d = h.0
every-at P (s ∷ nodes) h (suc k) below d = every-at P nodes h.1 k (omega arith) d

-- one child of a node, with its box
module _ (boxes : List Box) (nodes : List Seen) (formed : AreChildren boxes nodes) (k : ℕ) (below : k < length nodes) (d : Seen) where
  pub enclosed-here : (b : Box) → b ≡ get_or boxes k b → Encloses b (get_or nodes k d).points
  enclosed-here b at = subst (λ (x : Box). Encloses x (get_or nodes k d).points) (sym at) (enclosed-at boxes nodes formed.enclosed k below b d)

  pub occupied-here : 0 < length (get_or nodes k d).points
  occupied-here = every-at (λ s. 0 < length s.points) nodes formed.occupied k below d

-- whether a point below one child passes, whatever is read past the end
pub same_below :
    (test : Point → Bool) (nodes : List Seen) (k : ℕ) (s d : Seen) (b : Bool) → k < length nodes → s ≡ get_or nodes k s
    → list_any test s.points ≡ b → list_any test (get_or nodes k d).points ≡ b
same_below test nodes k s d b below at h =
    subst (λ (x : Seen). list_any test x.points ≡ b) (at ∙ get_or_default nodes k s d below) h

pub none_at :
    (test : Point → Bool) (nodes : List Seen) (k : ℕ) (d : Seen) → k < length nodes → IsFalse (list_any test (all_points nodes))
    → IsFalse (list_any test (get_or nodes k d).points)
none_at test [] k d below h = absurd (omega arith)
none_at test (s ∷ nodes) zero d below h = (or_parts _ _ (sym (list_any-append test s.points (all_points nodes)) ∙ h)).0
none_at test (s ∷ nodes) (suc k) d below h =
    none_at test nodes k d (omega arith) (or_parts _ _ (sym (list_any-append test s.points (all_points nodes)) ∙ h)).1

-- a formed node has points
pub occupied-all : (boxes : List Box) (nodes : List Seen) → AreChildren boxes nodes → 0 < length (all_points nodes)
occupied-all boxes [] formed = absurd (let some = formed.some in omega arith)
occupied-all boxes (s ∷ nodes) formed =
    let here = formed.occupied.0 in
    let all = length-append s.points (all_points nodes) in omega arith

pub no_length : {A : Type 0} (xs : List A) → length xs ≡ 0 → xs ≡ []
no_length [] e = refl
no_length (x ∷ xs) e = absurd (omega arith)
