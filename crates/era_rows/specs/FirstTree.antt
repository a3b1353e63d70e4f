-- Row 0 alone is a tree of rows.
use Rattle.std.proofs.Common.{◌≡◌, ℕ, ⊎_elim, [], ◌∷◌, ap, subst, ◌∙◌, arith}
use Rattle.std.specs.Prelude.{is_some}
use Rattle.std.proofs.lemmas.Bool.{cases_eq}
use Rattle.era_core.specs.Lists.{times, In}
use Rattle.era_core.specs.Versions.{known, known_links, look_up}
use Rattle.era_core.proofs.ListFacts.{times-head, times-tail}
use Rattle.era_rows.specs.Trees.{first_copy, IsTree}

pub first_is_tree : IsTree first_copy
first_is_tree = record {
  once = λ r. ⊎_elim (λ e. (let h = times-head 0 [] in let g : times r (0 ∷ []) ≡ times 0 (0 ∷ []) = ap (λ x. times x (0 ∷ [])) e in omega arith)) (λ apart. (let t = times-tail r 0 [] apart in omega arith)) (cases_eq r 0);
  few = λ r here. (let e = ap (λ x. known first_copy.cells x 0) (is_root r here) in omega arith);
  covered = λ r here p low.
      let e = ap (λ x. known first_copy.cells x 0) (is_root r here) in
      let first : p ≡ 0 = omega arith in
      ap (λ x. is_some (look_up first_copy.cells r x)) first ∙ ap (λ x. is_some (look_up first_copy.cells x 0)) (is_root r here);
  linked = λ r x here link.
      let no_link : known_links first_copy.cells r ≡ [] = ap (known_links first_copy.cells) (is_root r here) in
      absurd (let none : In x [] = subst (In x) no_link link in omega arith);
}
  where
    is_root : (r : ℕ) → In r (0 ∷ []) → r ≡ 0
    is_root r here = ⊎_elim (λ e. e) (λ apart. absurd (let t = times-tail r 0 [] apart in omega arith)) (cases_eq r 0)
