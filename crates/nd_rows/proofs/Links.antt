-- Links that are put on the work list, and points that are asked one by one.
use Rattle.std.proofs.Common.{◌≡◌, ℕ, zero, suc, ◌+◌, ◌-◌, ◌<◌, inl, inr, Bool, true, false, Option, Some, None, List, [], ◌∷◌, ◌++◌, length, drop, get_or, reverse, refl, sym, ap, ap₂, ◌∙◌, arith, append_assoc, drop-cons, ℤ}
use Rattle.std.specs.Prelude.{◌&&◌, if◌then◌else◌, if◌then◌else◌, ◌||◌}
use Rattle.std.proofs.lemmas.Bool.{or_left}
use Rattle.std.proofs.lemmas.List.{reverse-append, drop_all}
use Rattle.era_core.specs.Versions.{Cell}
use Rattle.pls_vectors.specs.Dominance.{weakly_dominates}
use Rattle.pls_archive.specs.declared.point.Point.{Point}
use Rattle.pls_archive.specs.Lists.{Every, In}
use Rattle.nd_rows.specs.declared.question.Question.{Question}
use Rattle.nd_rows.specs.declared.question.Question.TheVariants.{Covers, Equals}
use Rattle.nd_rows.specs.Nodes.{Placed, rows_with, points_with}
use Rattle.nd_rows.specs.Layout.{IsPointRow}
use Rattle.nd_rows.specs.Walk.{sided, meets, some_meets, point_answer}

-- at first none of the links stands there
pub push_none : (links rest : List ℕ) (count : ℕ) → length links ≡ count → rest ≡ drop (count - 0) links ++ rest
push_none links rest count all = ap (λ xs. xs ++ rest) (sym (drop_all (count - 0) links (omega arith)))

-- and then one more, from the last to the first
pub push_more : (links rest work after : List ℕ) (count k x : ℕ) → length links ≡ count → k < count → after ≡ work ++ x ∷ [] → reverse work ≡ drop (count - k) links ++ rest → x ≡ get_or links (count - (k + 1)) 0
    → reverse after ≡ drop (count - (k + 1)) links ++ rest
push_more links rest work after count k x all low now before is =
    ap reverse now ∙ reverse-append work (x ∷ []) ∙ ap (λ xs. x ∷ xs) before
    ∙ ap (λ xs. xs ++ rest)
    (sym (drop-cons links (count - (k + 1)) 0 (omega arith) ∙ ap₂ (λ y n. y ∷ drop n links) (sym is) (let e : suc (count - (k + 1)) ≡ count - k = omega arith in e)))

-- the point at a place of those that a leaf links
pub placed_at : (objectives : ℕ) (cells : List Cell) (placed : List Placed) → Every (IsPointRow objectives cells) placed → (k : ℕ) → k < length placed
    → (p : Placed) × (drop k placed ≡ p ∷ drop (k + 1) placed) × IsPointRow objectives cells p × (get_or (rows_with placed) k 0 ≡ p.row) × In p.point (points_with placed)
placed_at objectives cells [] each k low = absurd (omega arith)
placed_at objectives cells (p ∷ placed) each zero low = (p, refl, each.0, refl, inl refl)
placed_at objectives cells (p ∷ placed) each (suc k) low =
    let rest = placed_at objectives cells placed each.1 k (omega arith) in
    (rest.0, rest.1 ∙ ap (λ n. rest.0 ∷ drop n (p ∷ placed)) (let e : suc (k + 1) ≡ suc k + 1 = omega arith in e), rest.2, rest.3, inr rest.4)

-- what the side of a point's value tells
abbrev both : Question → Bool → Bool → Bool
both Covers above below = above
both Equals above below = above && below

both-meets : (ask : Question) (x v : List ℤ) → both ask (weakly_dominates x v) (weakly_dominates v x) ≡ meets ask x v
both-meets Covers x v = refl
both-meets Equals x v = refl

pub point_answer-sided : (ask : Question) (x v : List ℤ) → point_answer ask (sided x v) ≡ meets ask x v
point_answer-sided ask x v = by_test ask (weakly_dominates x v) ∙ both-meets ask x v
  where
    by_test : (ask : Question) (b : Bool) → point_answer ask (if b then Some (weakly_dominates v x) else None) ≡ both ask b (weakly_dominates v x)
    by_test Covers true = refl
    by_test Covers false = refl
    by_test Equals true = refl
    by_test Equals false = refl

module _ (ask : Question) (placed : List Placed) (k : ℕ) (p : Placed) (at : drop k placed ≡ p ∷ drop (k + 1) placed) (v : List ℤ) (answer : Bool) (side : Option Bool) (answer_is : answer ≡ point_answer ask side) (is : side ≡ sided p.point.value v) where
  answers : (b : Bool) → answer ≡ b → meets ask p.point.value v ≡ b
  answers b found = sym (point_answer-sided ask p.point.value v) ∙ ap (point_answer ask) (sym is) ∙ sym answer_is ∙ found

  -- a point that answers the question answers it for all
  pub point_found : answer ≡ true → some_meets ask (points_with placed) v ≡ some_meets ask (points_with (drop k placed)) v → true ≡ some_meets ask (points_with placed) v
  point_found found so_far = sym (so_far ∙ ap (λ ps. some_meets ask (points_with ps) v) at ∙ or_left _ _ (answers true found))

  pub point_passed : answer ≡ false → some_meets ask (points_with placed) v ≡ some_meets ask (points_with (drop k placed)) v
      → some_meets ask (points_with placed) v ≡ some_meets ask (points_with (drop (k + 1) placed)) v
  point_passed found so_far =
      so_far ∙ ap (λ ps. some_meets ask (points_with ps) v) at ∙ ap (λ b. b || some_meets ask (points_with (drop (k + 1) placed)) v) (answers false found)

-- one more point was gathered
pub gathered_more : (placed : List Placed) (k : ℕ) (p : Placed) → drop k placed ≡ p ∷ drop (k + 1) placed → (whole before after : List Point) (point : Point) → point ≡ p.point → after ≡ before ++ point ∷ []
    → before ++ points_with (drop k placed) ≡ whole → after ++ points_with (drop (k + 1) placed) ≡ whole
gathered_more placed k p at whole before after point is now so_far =
    ap (λ ps. ps ++ points_with (drop (k + 1) placed)) (now ∙ ap (λ x. before ++ x ∷ []) is)
    ∙ append_assoc before (p.point ∷ []) (points_with (drop (k + 1) placed))
    ∙ (ap (λ ps. before ++ points_with ps) (sym at) ∙ so_far)
