-- What the corners of a box tell of the points below its node.
use Rattle.std.proofs.Common.{◌≡◌, ◌<◌, ◌⊎◌, inl, inr, Bool, true, false, not, Some, None, List, [], ◌∷◌, length, refl, sym, subst, ◌∙◌, arith, true≢false, IsTrue, ℤ}
use Rattle.std.specs.Prelude.{◌&&◌, if◌then◌else◌}
use Rattle.std.proofs.lemmas.Bool.{and_parts, and_from, or_left, or_from, false_from_ne_true}
use Rattle.std.proofs.lemmas.Option.{same_Some, none-some}
use Rattle.pls_vectors.specs.Box.{Box, encloses}
use Rattle.pls_vectors.specs.Dominance.{weakly_dominates}
use Rattle.pls_vectors.specs.declared.range.Decision.TheVariants.{AllCover, CoversAll, Apart, Mixed}
use Rattle.pls_vectors.proofs.Dominance.{weakly_dominates-trans, weakly_dominates-antisym}
use Rattle.pls_archive.specs.declared.point.Point.{Point}
use Rattle.pls_archive.specs.Lists.{Every}
use Rattle.nd_rows.specs.declared.question.Question.{Question}
use Rattle.nd_rows.specs.declared.question.Question.TheVariants.{Covers, Equals}
use Rattle.nd_rows.specs.Nodes.{Encloses, undecided, is_mixed}
use Rattle.nd_rows.specs.Walk.{sided, meets, some_meets, box_answer, equal_answer, box_told}

module _ (b : Box) (v : List ℤ) where
  abbrev IsIn : Point → Type 0
  IsIn p = IsTrue (encloses b p.value)

  abbrev IsAtCorner : Point → Type 0
  IsAtCorner p = (p.value ≡ b.ideal) ⊎ (p.value ≡ b.nadir) → b.ideal ≡ b.nadir

  -- under a nadir that weakly dominates the value each point does
  all_cover : (points : List Point) → 0 < length points → Every IsIn points → weakly_dominates b.nadir v ≡ true → some_meets Covers points v ≡ true
  all_cover [] some all nadir = absurd (omega arith)
  all_cover (p ∷ points) some all nadir =
      or_left _ _ (weakly_dominates-trans p.value b.nadir v (and_parts (weakly_dominates b.ideal p.value) _ all.0).1 nadir)

  -- and where both corners have the value each point has it
  all_equal : (points : List Point) → 0 < length points → Every IsIn points → weakly_dominates b.nadir v ≡ true → weakly_dominates v b.ideal ≡ true → some_meets Equals points v ≡ true
  all_equal [] some all nadir ideal = absurd (omega arith)
  all_equal (p ∷ points) some all nadir ideal =
      let inside = and_parts (weakly_dominates b.ideal p.value) _ all.0 in
      or_left _ _ (and_from _ _ (weakly_dominates-trans p.value b.nadir v inside.1 nadir) (weakly_dominates-trans v b.ideal p.value ideal inside.0))

  -- where no point in the box can answer the question, none does
  none_meets : (ask : Question) (points : List Point) → Encloses b points → ((p : Point) → IsIn p → IsAtCorner p → meets ask p.value v ≡ true → ⊥) → some_meets ask points v ≡ false
  none_meets ask points box never = from points box.all box.corners
    where
      from : (points : List Point) → Every IsIn points → Every IsAtCorner points → some_meets ask points v ≡ false
      from [] all corners = refl
      from (p ∷ points) all corners = or_from _ _ (false_from_ne_true _ (never p all.0 corners.0)) (from points all.1 corners.1)

  -- below an ideal that does not weakly dominate the value
  below_ideal : weakly_dominates b.ideal v ≡ false → (p : Point) → IsIn p → weakly_dominates p.value v ≡ true → ⊥
  below_ideal ideal p inside covers =
      true≢false (sym (weakly_dominates-trans b.ideal p.value v (and_parts (weakly_dominates b.ideal p.value) _ inside).0 covers) ∙ ideal)

  -- above a nadir that the value does not weakly dominate
  above_nadir : weakly_dominates v b.nadir ≡ false → (p : Point) → IsIn p → weakly_dominates v p.value ≡ true → ⊥
  above_nadir nadir p inside covered =
      true≢false (sym (weakly_dominates-trans v p.value b.nadir covered (and_parts (weakly_dominates b.ideal p.value) _ inside).1) ∙ nadir)

  -- at the ideal, which is not the nadir
  at_ideal : weakly_dominates b.nadir v ≡ false → weakly_dominates b.ideal v ≡ true → weakly_dominates v b.ideal ≡ true → (p : Point) → IsIn p → IsAtCorner p → weakly_dominates p.value v ≡ true → ⊥
  at_ideal nadir ideal back p inside corner covers =
      let up = (and_parts (weakly_dominates b.ideal p.value) _ inside).0 in
      let is = weakly_dominates-antisym p.value b.ideal (weakly_dominates-trans p.value v b.ideal covers back) up in
      true≢false (sym (subst (λ x. weakly_dominates x v ≡ true) (corner (inl is)) ideal) ∙ nadir)

  -- at the nadir, which is not the ideal
  at_nadir : weakly_dominates v b.nadir ≡ true → weakly_dominates v b.ideal ≡ false → (p : Point) → IsIn p → IsAtCorner p → weakly_dominates p.value v ≡ true → weakly_dominates v p.value ≡ true → weakly_dominates b.nadir v ≡ true → ⊥
  at_nadir over back p inside corner covers covered nadir =
      let down = (and_parts (weakly_dominates b.ideal p.value) _ inside).1 in
      let is = weakly_dominates-antisym p.value b.nadir down (weakly_dominates-trans b.nadir v p.value nadir covered) in
      true≢false (sym (subst (λ x. weakly_dominates v x ≡ true) (sym (corner (inr is))) over) ∙ back)

  covers_by : (points : List Point) → 0 < length points → Encloses b points → (n n' i i' : Bool)
      → weakly_dominates b.nadir v ≡ n → weakly_dominates b.ideal v ≡ i → weakly_dominates v b.ideal ≡ i'
      → (answer : Bool) → box_answer (if n then Some n' else None) (if i then Some i' else None) ≡ Some answer → some_meets Covers points v ≡ answer
  covers_by points some box true n' i i' nadir ideal back answer is = all_cover points some box.all nadir ∙ same_Some _ _ is
  covers_by points some box false n' false i' nadir ideal back answer is = none_meets Covers points box (λ p inside corner covers. below_ideal ideal p inside covers) ∙ same_Some _ _ is
  covers_by points some box false n' true true nadir ideal back answer is = none_meets Covers points box (at_ideal nadir ideal back) ∙ same_Some _ _ is
  covers_by points some box false n' true false nadir ideal back answer is = absurd (none-some answer is)

  equals_by : (points : List Point) → 0 < length points → Encloses b points → (o n i i' : Bool)
      → weakly_dominates v b.nadir ≡ o → weakly_dominates b.nadir v ≡ n → weakly_dominates b.ideal v ≡ i → weakly_dominates v b.ideal ≡ i'
      → (answer : Bool) → equal_answer (if o then Some n else None) (if i then Some i' else None) ≡ Some answer → some_meets Equals points v ≡ answer
  equals_by points some box false n i i' over nadir ideal back answer is =
      none_meets Equals points box (λ p inside corner same. above_nadir over p inside (and_parts (weakly_dominates p.value v) _ same).1) ∙ same_Some _ _ is
  equals_by points some box true n false i' over nadir ideal back answer is =
      none_meets Equals points box (λ p inside corner same. below_ideal ideal p inside (and_parts (weakly_dominates p.value v) _ same).0) ∙ same_Some _ _ is
  equals_by points some box true true true true over nadir ideal back answer is = all_equal points some box.all nadir back ∙ same_Some _ _ is
  equals_by points some box true true true false over nadir ideal back answer is =
      none_meets Equals points box (λ p inside corner same. let both = and_parts (weakly_dominates p.value v) _ same in at_nadir over back p inside corner both.0 both.1 nadir) ∙ same_Some _ _ is
  equals_by points some box true false true true over nadir ideal back answer is =
      none_meets Equals points box (λ p inside corner same. at_ideal nadir ideal back p inside corner (and_parts (weakly_dominates p.value v) _ same).0) ∙ same_Some _ _ is
  equals_by points some box true false true false over nadir ideal back answer is = absurd (none-some answer is)

-- what the box tells holds of the points in it
pub box_tells : (ask : Question) (b : Box) (v : List ℤ) (points : List Point) → 0 < length points → Encloses b points → (answer : Bool) → box_told ask b v ≡ Some answer → some_meets ask points v ≡ answer
box_tells Covers b v points some box answer is =
    covers_by b v points some box (weakly_dominates b.nadir v) (weakly_dominates v b.nadir) (weakly_dominates b.ideal v) (weakly_dominates v b.ideal) refl refl refl answer is
box_tells Equals b v points some box answer is =
    equals_by b v points some box (weakly_dominates v b.nadir) (weakly_dominates b.nadir v) (weakly_dominates b.ideal v) (weakly_dominates v b.ideal) refl refl refl refl answer is

-- the corners of a box that encloses a point
pub corners_of : (b : Box) (points : List Point) → 0 < length points → Encloses b points → IsTrue (weakly_dominates b.ideal b.nadir)
corners_of b [] some box = absurd (omega (arith, some))
corners_of b (p ∷ points) some box =
    let inside = and_parts (weakly_dominates b.ideal p.value) _ box.all.0 in weakly_dominates-trans b.ideal p.value b.nadir inside.0 inside.1

-- where its ideal does not weakly dominate the value, its nadir does not either
pub under_ideal : (b : Box) (v : List ℤ) → IsTrue (weakly_dominates b.ideal b.nadir) → None ≡ sided b.ideal v → Some false ≡ box_told Covers b v
under_ideal b v corners = by_tests (weakly_dominates b.ideal v) (weakly_dominates b.nadir v) (weakly_dominates-trans b.ideal b.nadir v corners)
  where
    by_tests : (i n : Bool) → (n ≡ true → i ≡ true) → None ≡ (if i then Some (weakly_dominates v b.ideal) else None)
        → Some false ≡ box_answer (if n then Some (weakly_dominates v b.nadir) else None) (if i then Some (weakly_dominates v b.ideal) else None)
    by_tests true n up none = absurd (none-some (weakly_dominates v b.ideal) none)
    by_tests false true up none = absurd (true≢false (sym (up refl)))
    by_tests false false up none = refl

abbrev mixed_by : Bool → Bool → Bool → Bool → Bool
mixed_by n o i i' = undecided (if n then AllCover else if i' then CoversAll else if not i && not o then Apart else Mixed)

covers_open : (n o i i' : Bool) → box_answer (if n then Some o else None) (if i then Some i' else None) ≡ None → mixed_by n o i i' ≡ true
covers_open true o i i' is = absurd (none-some true (sym is))
covers_open false o false i' is = absurd (none-some false (sym is))
covers_open false o true true is = absurd (none-some false (sym is))
covers_open false o true false is = refl

equals_open : (n o i i' : Bool) → equal_answer (if o then Some n else None) (if i then Some i' else None) ≡ None → mixed_by n o i i' ≡ true
equals_open n false i i' is = absurd (none-some false (sym is))
equals_open n true false i' is = absurd (none-some false (sym is))
equals_open true true true i' is = absurd (none-some i' (sym is))
equals_open false true true true is = absurd (none-some false (sym is))
equals_open false true true false is = refl

-- where it tells nothing, it leaves the question open
pub box_open : (ask : Question) (b : Box) (v : List ℤ) → box_told ask b v ≡ None → is_mixed b v ≡ true
box_open Covers b v is = covers_open (weakly_dominates b.nadir v) (weakly_dominates v b.nadir) (weakly_dominates b.ideal v) (weakly_dominates v b.ideal) is
box_open Equals b v is = equals_open (weakly_dominates b.nadir v) (weakly_dominates v b.nadir) (weakly_dominates b.ideal v) (weakly_dominates v b.ideal) is
