-- A leaf some of whose points go: the marks that it takes, and what is left of it.
use Rattle.std.proofs.Common.{◌≡◌, ℕ, zero, suc, ◌+◌, ◌-◌, ◌<◌, ◌≤◌, Bool, false, if◌then◌else◌, List, [], ◌∷◌, ◌++◌, length, take, drop, get_or, refl, sym, ap, subst, ◌∙◌, arith, ℤ}
use Rattle.std.specs.Prelude.{replicate}
use Rattle.era_core.specs.declared.sizes.TheConstants.{ROOT_ROWS}
use Rattle.era_core.specs.Lists.{times}
use Rattle.era_core.specs.Versions.{Cell, Copy}
use Rattle.era_core.proofs.ListFacts.{times-append, times-head}
use Rattle.era_rows.specs.declared.pass.Pass.{Pass}
use Rattle.era_rows.specs.declared.rows.Rows.{Rows}
use Rattle.era_rows.specs.declared.law.Law.{Ghosts}
use Rattle.pls_archive.specs.declared.call.Entry.{Entry}
use Rattle.pls_vectors.specs.Box.{Box}
use Rattle.nd_rows.specs.Nodes.{Placed, no_nodes, leaf, rows_with, points_with}
use Rattle.nd_update.specs.Removal.{staying, going}
use Rattle.nd_update.specs.Naming.{IsLeafRow}
use Rattle.nd_update.specs.Building.{Does}
use Rattle.nd_update.specs.Left.{hits, gone_word, hits_of, hits_in, IsHitLeaf, IsNodeLeft}
use Rattle.nd_update.proofs.Removal.{staying_going}
use Rattle.nd_update.proofs.Building.{does_as, does_both}
use Rattle.nd_update.proofs.Removing.{take_more}
use Rattle.nd_update.proofs.LeafSteps.{hit_at, going_more}
use Rattle.nd_update.proofs.Settled.{leaf_gone, leaf_left}
use Rattle.nd_update.proofs.Sweeping.{hits_are, stay_or_go, hit_some, nothing_stays}
use Rattle.std.proofs.lemmas.List.{take-append-drop}

rows_both : (xs ys : List Placed) → rows_with (xs ++ ys) ≡ rows_with xs ++ rows_with ys
rows_both [] ys = refl
rows_both (x ∷ xs) ys = ap (λ zs. x.row ∷ zs) (rows_both xs ys)

-- the row of a point that was not yet reached is not marked
pub unmarked_at : (v : List ℤ) (placed : List Placed) (k : ℕ) (p : Placed) (rest : List Placed) (row : ℕ) (before now : List ℕ) → drop k placed ≡ p ∷ rest
    → ((x : ℕ) → times x before + times x (row ∷ rows_with placed) ≤ 1) → now ≡ before ++ row ∷ rows_with (going v (take k placed)) → times p.row now ≡ 0
unmarked_at v placed k p rest row before now at once is =
    let x = p.row in
    let all = ap (λ ps. times x (rows_with ps)) (sym (take-append-drop k placed) ∙ ap (λ ps. take k placed ++ ps) at) ∙ ap (times x) (rows_both (take k placed) (p ∷ rest)) in
    let parts = times-append x (rows_with (take k placed)) (x ∷ rows_with rest) in
    let head = times-head x (rows_with rest) in
    let few = staying_going v x (take k placed) in
    let marks = ap (times x) is ∙ times-append x before (row ∷ rows_with (going v (take k placed))) in
    let one = once x in omega (arith, all, parts, head, few, marks, one)

-- one more point was looked at, and marked if it goes
pub marks_more : {L : Type 0} {G : Ghosts L Entry} (r : Rows L Entry) (v : List ℤ) (row : ℕ) (placed : List Placed) (k : ℕ) (p : Placed) → drop k placed ≡ p ∷ drop (k + 1) placed → (hit : List Bool) → hit ≡ hits_of v placed
    → (q s t : Pass L Entry G) → Does r [] (row ∷ rows_with (going v (take k placed))) [] q s → Does r [] (if get_or hit k false then p.row ∷ [] else []) [] s t → Does r [] (row ∷ rows_with (going v (take (k + 1) placed))) [] q t
marks_more r v row placed k p at hit is q s t one two =
    let test = ap (λ xs. get_or xs k false) is ∙ hit_at v placed k p (drop (k + 1) placed) (replicate (20 - length placed) false) false at in
    does_as r [] ((row ∷ rows_with (going v (take k placed))) ++ (if get_or hit k false then p.row ∷ [] else [])) [] [] (row ∷ rows_with (going v (take (k + 1) placed))) [] q t refl
    (ap (λ b. row ∷ (rows_with (going v (take k placed)) ++ (if b then p.row ∷ [] else []))) test
    ∙ ap (λ xs. row ∷ xs) (sym (ap (λ ps. rows_with (going v ps)) (take_more placed k p (drop (k + 1) placed) at) ∙ going_more v (take k placed) p)))
    (λ x here. here) (does_both r [] (row ∷ rows_with (going v (take k placed))) [] [] (if get_or hit k false then p.row ∷ [] else []) [] q s t one two)

module _ (new : ℕ) (objectives : ℕ) (c : Copy) (row count : ℕ) (hit : List Bool) (v : List ℤ) (b : Box) (placed : List Placed) (is : IsHitLeaf objectives c row count hit v b placed) (cells : List Cell) (n : ℕ) (n_is : n ≡ hits_in hit) where
  n_hits : n ≡ hits v (points_with placed)
  n_hits = n_is ∙ ap hits_in is.hit ∙ hits_are v placed

  node_as : (t m : List ℕ) (w w' : ℕ) → IsNodeLeft new v objectives (leaf row b placed no_nodes) cells t m (hits v (points_with placed)) w → w' ≡ w → IsNodeLeft new v objectives (leaf row b placed no_nodes) cells t m n w'
  node_as t m w w' left e =
      subst (λ k. IsNodeLeft new v objectives (leaf row b placed no_nodes) cells t m k w') (sym n_hits) (subst (λ u. IsNodeLeft new v objectives (leaf row b placed no_nodes) cells t m (hits v (points_with placed)) u) (sym e) left)

  -- all go
  pub leaf_all : 0 < n → n ≡ count → (w : ℕ) → w ≡ gone_word → IsNodeLeft new v objectives (leaf row b placed no_nodes) cells [] (row ∷ rows_with (going v placed)) n w
  leaf_all more all w told =
      let e = n_hits in let len = is.counted in let both = stay_or_go v placed in
      node_as [] (row ∷ rows_with (going v placed)) gone_word w
      (leaf_gone new v objectives row b placed cells (hit_some v (points_with placed) (omega (arith, e, more))) (nothing_stays (staying v placed) (omega (arith, e, len, both, all)))) told

  -- some stay
  pub leaf_some : 0 < n → (n ≡ count → ⊥) → times new (rows_with placed) ≡ 0 → (own w : ℕ) → w ≡ ROOT_ROWS + own → IsLeafRow objectives cells own b (staying v placed) → IsNodeLeft new v objectives (leaf row b placed no_nodes) cells (own ∷ []) (row ∷ rows_with (going v placed)) n w
  leaf_some more part known own w told written =
      let e = n_hits in let len = is.counted in let both = stay_or_go v placed in
      node_as (own ∷ []) (row ∷ rows_with (going v placed)) (ROOT_ROWS + own) w
      (leaf_left new v objectives row b placed cells (hit_some v (points_with placed) (omega (arith, e, more))) own (positive (length (staying v placed)) (λ none. part (omega (arith, e, len, both, none)))) known written) told
    where
      positive : (n : ℕ) → (n ≡ 0 → ⊥) → 0 < n
      positive zero h = absurd (h refl)
      positive (suc n) h = omega arith
