-- One row without links meets what the rows ask of a law.
use Rattle.std.proofs.Common.{◌≡◌, ℕ, ◌/◌, ◌≤◌, ⊎_elim, min, [], ◌∷◌, refl, sym, ap, subst, ◌∙◌, arith, true, List, ◌++◌, length, length-append, le-leb}
use Rattle.std.specs.Prelude.{is_some, slice_index}
use Rattle.std.proofs.lemmas.Bool.{cases_eq, leb-true}
use Rattle.era_core.specs.declared.sizes.TheConstants.{MOST_LINKS, KINDS}
use Rattle.era_core.specs.Lists.{times, In}
use Rattle.era_core.specs.Words.{run_of}
use Rattle.era_core.specs.Versions.{Copy, look_up, known, known_links}
use Rattle.era_core.proofs.ListFacts.{times-head, times-tail}
use Rattle.era_rows.specs.Trees.{first_copy, IsTree}
use Rattle.era_one_row.specs.OneRow.{IsOneRow, is_seen}

pub is_tree : (c : Copy) → IsOneRow c → IsTree c
is_tree c one = record {
  once = λ r. subst (λ xs. times r xs ≤ 1) (sym one.alone) (at_most r);
  few = λ r here. let none = links_none r here in omega arith;
  covered = λ r here p low.
      let none = links_none r here in
      let first : p ≡ 0 = omega arith in
      ap (λ x. is_some (look_up c.cells r x)) first ∙ ap (λ x. is_some (look_up c.cells x 0)) (root_alone r here) ∙ one.written;
  linked = λ r x here link.
      let no_link : known_links c.cells r ≡ [] = ap (λ n. run_of (known c.cells r) 1 (min MOST_LINKS n)) (links_none r here) in
      absurd (let none : In x [] = subst (In x) no_link link in omega arith);
}
  where
    at_most : (r : ℕ) → times r (c.root ∷ []) ≤ 1
    at_most r = ⊎_elim (λ e. (let h = times-head c.root [] in let g : times r (c.root ∷ []) ≡ times c.root (c.root ∷ []) = ap (λ x. times x (c.root ∷ [])) e in omega arith)) (λ apart. (let t = times-tail r c.root [] apart in omega arith)) (cases_eq r c.root)

    root_alone : (r : ℕ) → In r c.rows → r ≡ c.root
    root_alone r here =
        let there : In r (c.root ∷ []) = subst (In r) one.alone here in
        ⊎_elim (λ e. e) (λ apart. absurd (let t = times-tail r c.root [] apart in omega arith)) (cases_eq r c.root)

    links_none : (r : ℕ) → In r c.rows → known c.cells r 0 / KINDS ≡ 0
    links_none r here = ap (λ x. known c.cells x 0 / KINDS) (root_alone r here) ∙ one.no_links

pub begins : IsOneRow first_copy
begins = record { alone = refl; written = refl; no_links = refl }

pub seen_lasts : {E : Type 0} (words : List ℕ) (entries more : List E) → is_seen words entries ≡ true → is_seen words (entries ++ more) ≡ true
seen_lasts words entries more said =
    let few = leb-true (slice_index words 0) (length entries) said in
    let longer = length-append entries more in
    le-leb (slice_index words 0) (length (entries ++ more)) (omega arith)
