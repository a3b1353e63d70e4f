-- What a question about a value and a removal look at is needed by an update.
use Rattle.std.proofs.Common.{◌≡◌, ℕ, ◌<◌, ◌≤◌, ◌⊎◌, inl, inr, ⊎_elim, Bool, true, false, not, if◌then◌else◌, List, [], ◌∷◌, ◌++◌, length, refl, sym, ap, subst, ◌∙◌, arith, ℤ}
use Rattle.std.specs.Prelude.{◌||◌, ◌&&◌}
use Rattle.std.proofs.lemmas.Bool.{true≢false}
use Rattle.std.proofs.lemmas.List.{length-map}
use Rattle.era_core.specs.Lists.{In}
use Rattle.era_core.specs.Versions.{Copy}
use Rattle.era_core.proofs.ListFacts.{in_cases, in_head, in_tail, in-append_left, in-append_right}
use Rattle.era_rows.specs.Known.{Known, pinned_copy}
use Rattle.pls_vectors.specs.Box.{Box, decision}
use Rattle.pls_vectors.specs.Dominance.{weakly_dominates}
use Rattle.pls_vectors.specs.declared.range.Decision.{Decision}
use Rattle.pls_vectors.specs.declared.range.Decision.TheVariants.{AllCover, CoversAll, Apart, Mixed}
use Rattle.pls_archive.specs.declared.point.Point.{Point}
use Rattle.pls_archive.specs.Lists.{Every}
use Rattle.pls_archive.specs.Reply.{some_weakly_dominates}
use Rattle.pls_archive.proofs.Every.{Every-left, Every-right}
use Rattle.nd_rows.specs.Nodes.{Placed, Nodes, no_nodes, leaf, inner, rows_of, rows_with, points_of, points_with, Encloses, AreBoxed, AreFormed, IsEmptyLeaf, undecided, is_mixed, necessary}
use Rattle.nd_rows.specs.Layout.{IsTreeOf}
use Rattle.nd_rows.specs.Reads.{ReadsNecessary}
use Rattle.nd_update.specs.Removal.{without_dominated}
use Rattle.nd_update.specs.Needed.{ReadsOnly, all_go, needed_below, opened, on_way, needed}
use Rattle.nd_update.proofs.RemovedRows.{some_points}
use Rattle.nd_update.proofs.Updates.{uncovered-each, uncovered_nadir}
use Rattle.nd_update.proofs.Reading.{only_more, only_reads}
use Rattle.nd_update.proofs.OneTree.{of_trees}

nothing : (x : ℕ) → In x [] → ⊥
nothing x here = omega (arith, here)

in_either : (x : ℕ) (xs ys : List ℕ) → In x (xs ++ ys) → In x xs ⊎ In x ys
in_either x [] ys here = inr here
in_either x (y ∷ xs) ys here =
    either (in_cases x y (xs ++ ys) here) (in_either x xs ys)
  where
    either : (x ≡ y) ⊎ In x (xs ++ ys) → (In x (xs ++ ys) → In x xs ⊎ In x ys) → In x (y ∷ xs) ⊎ In x ys
    either (inl e) rest = inl (subst (λ z. In z (y ∷ xs)) (sym e) (in_head y xs))
    either (inr more) rest = ⊎_elim (λ first. inl (in_tail x y xs first)) (λ second. inr second) (rest more)

along : (x r : ℕ) (a b c d : List ℕ) → (In x a → In x c) → (In x b → In x d) → In x (r ∷ (a ++ b)) → In x (r ∷ (c ++ d))
along x r a b c d first second here =
    ⊎_elim
    (λ e. subst (λ y. In y (r ∷ (c ++ d))) (sym e) (in_head r (c ++ d)))
    (λ more. in_tail x r (c ++ d) (⊎_elim (λ mine. in-append_left x c d (first mine)) (λ later. in-append_right x c d (second later)) (in_either x a b more)))
    (in_cases x r (a ++ b) here)

-- what is below a node whose box leaves the question open
own_needed : (d : Decision) (xs : List ℕ) (x : ℕ) → In x (if undecided d then xs else []) → In x (if undecided d || all_go d then xs else [])
own_needed AllCover xs x here = here
own_needed CoversAll xs x here = absurd (nothing x here)
own_needed Apart xs x here = here
own_needed Mixed xs x here = here

kids_needed : (d : Decision) (xs all ys : List ℕ) (x : ℕ) → (In x xs → In x ys) → In x (if undecided d then xs else []) → In x (if all_go d then all else (if undecided d then ys else []))
kids_needed AllCover xs all ys x below here = here
kids_needed CoversAll xs all ys x below here = absurd (nothing x here)
kids_needed Apart xs all ys x below here = here
kids_needed Mixed xs all ys x below here = below here

-- and below one whose nadir the value weakly dominates
abbrev IsOpened : Bool → Decision → Type 0
IsOpened s d = s ≡ true → (undecided d ≡ true) ⊎ (all_go d ≡ true)

neither : (s : Bool) (d : Decision) → undecided d ≡ false → all_go d ≡ false → IsOpened s d → s ≡ true → ⊥
neither s d no_mix no_all opens is = ⊎_elim (λ e. true≢false (sym e ∙ no_mix)) (λ e. true≢false (sym e ∙ no_all)) (opens is)

own_opened : (s : Bool) (d : Decision) (xs : List ℕ) (x : ℕ) → IsOpened s d → In x (if s then xs else []) → In x (if undecided d || all_go d then xs else [])
own_opened false d xs x opens here = absurd (nothing x here)
own_opened true AllCover xs x opens here = absurd (neither true AllCover refl refl opens refl)
own_opened true CoversAll xs x opens here = here
own_opened true Apart xs x opens here = absurd (neither true Apart refl refl opens refl)
own_opened true Mixed xs x opens here = here

kids_opened : (s : Bool) (d : Decision) (xs all ys : List ℕ) (x : ℕ) → IsOpened s d → (In x xs → In x all) → (In x xs → In x ys) → In x (if s then xs else [])
    → In x (if all_go d then all else (if undecided d then ys else []))
kids_opened false d xs all ys x opens among below here = absurd (nothing x here)
kids_opened true AllCover xs all ys x opens among below here = absurd (neither true AllCover refl refl opens refl)
kids_opened true CoversAll xs all ys x opens among below here = among here
kids_opened true Apart xs all ys x opens among below here = absurd (neither true Apart refl refl opens refl)
kids_opened true Mixed xs all ys x opens among below here = below here

some_of : (s : Bool) (xs : List ℕ) (x : ℕ) → In x (if s then xs else []) → In x xs
some_of true xs x here = here
some_of false xs x here = absurd (nothing x here)

module _ (v : List ℤ) where
  necessary_needed : (ns : Nodes) (x : ℕ) → In x (necessary v ns) → In x (needed_below v ns)
  necessary_needed no_nodes x here = here
  necessary_needed (leaf r b placed later) x here =
      along x r (if is_mixed b v then rows_with placed else []) (necessary v later) (if is_mixed b v || all_go (decision b v) then rows_with placed else []) (needed_below v later)
      (own_needed (decision b v) (rows_with placed) x) (necessary_needed later x) here
  necessary_needed (inner r b kids later) x here =
      along x r (if is_mixed b v then necessary v kids else []) (necessary v later) (if all_go (decision b v) then rows_of kids else (if is_mixed b v then needed_below v kids else [])) (needed_below v later)
      (kids_needed (decision b v) (necessary v kids) (rows_of kids) (needed_below v kids) x (necessary_needed kids x)) (necessary_needed later x) here

  opened_rows : (ns : Nodes) (x : ℕ) → In x (opened v ns) → In x (rows_of ns)
  opened_rows no_nodes x here = here
  opened_rows (leaf r b placed later) x here =
      along x r (if weakly_dominates v b.nadir then rows_with placed else []) (opened v later) (rows_with placed) (rows_of later) (some_of (weakly_dominates v b.nadir) (rows_with placed) x) (opened_rows later x) here
  opened_rows (inner r b kids later) x here =
      along x r (if weakly_dominates v b.nadir then opened v kids else []) (opened v later) (rows_of kids) (rows_of later)
      (λ mine. opened_rows kids x (some_of (weakly_dominates v b.nadir) (opened v kids) x mine)) (opened_rows later x) here

  module _ (objectives : ℕ) where
    -- a box that the value does not leave apart
    opens : (b : Box) (points : List Point) → 0 < length points → Encloses b points → Every (λ (q : Point). weakly_dominates q.value v ≡ false) points → IsOpened (weakly_dominates v b.nadir) (decision b v)
    opens b points some box none over =
        decided (weakly_dominates b.nadir v) (weakly_dominates v b.ideal) (weakly_dominates b.ideal v) (weakly_dominates v b.nadir) (uncovered_nadir objectives v b points some box none) over
      where
        decided : (n i a o : Bool) → n ≡ false → o ≡ true
            → (undecided (if n then AllCover else if i then CoversAll else if not a && not o then Apart else Mixed) ≡ true) ⊎ (all_go (if n then AllCover else if i then CoversAll else if not a && not o then Apart else Mixed) ≡ true)
        decided true i a o p q = absurd (true≢false p)
        decided false true a o p q = inr refl
        decided false false true o p q = inl refl
        decided false false false true p q = inl refl
        decided false false false false p q = absurd (true≢false (sym q))

    opened_needed : (ns : Nodes) → AreFormed objectives ns → AreBoxed ns → Every (λ (q : Point). weakly_dominates q.value v ≡ false) (points_of ns) → (x : ℕ) → In x (opened v ns) → In x (needed_below v ns)
    opened_needed no_nodes formed boxed none x here = here
    opened_needed (leaf r b placed later) formed boxed none x here =
        along x r (if weakly_dominates v b.nadir then rows_with placed else []) (opened v later) (if is_mixed b v || all_go (decision b v) then rows_with placed else []) (needed_below v later)
        (own_opened (weakly_dominates v b.nadir) (decision b v) (rows_with placed) x
        (opens b (points_with placed) (let same : length (points_with placed) ≡ length placed = length-map placed (λ (p : Placed). p.point) in let some = formed.0 in omega (arith, same, some)) boxed.0 (Every-left _ (points_with placed) (points_of later) none)))
        (opened_needed later formed.2 boxed.1 (Every-right _ (points_with placed) (points_of later) none) x) here
    opened_needed (inner r b kids later) formed boxed none x here =
        let first = Every-left _ (points_of kids) (points_of later) none in
        along x r (if weakly_dominates v b.nadir then opened v kids else []) (opened v later) (if all_go (decision b v) then rows_of kids else (if is_mixed b v then needed_below v kids else [])) (needed_below v later)
        (kids_opened (weakly_dominates v b.nadir) (decision b v) (opened v kids) (rows_of kids) (needed_below v kids) x
        (opens b (points_of kids) (some_points objectives kids formed.3 (let two = formed.0 in omega (arith, two))) boxed.0 first) (opened_rows kids x) (opened_needed kids formed.3 boxed.1 first x))
        (opened_needed later formed.4 boxed.2 (Every-right _ (points_of kids) (points_of later) none) x) here

    empty_needed : (t : Nodes) → IsEmptyLeaf t → (x : ℕ) → In x (opened v t) → In x (needed_below v t)
    empty_needed no_nodes is x here = absurd is
    empty_needed (inner r b kids later) is x here = absurd is
    empty_needed (leaf r b placed later) is x here =
        subst (λ ps. In x (opened v (leaf r b ps later)) → In x (needed_below v (leaf r b ps later))) (sym is.0)
        (subst (λ ns. In x (opened v (leaf r b [] ns)) → In x (needed_below v (leaf r b [] ns))) (sym is.1)
        (along x r (if weakly_dominates v b.nadir then [] else []) [] (if is_mixed b v || all_go (decision b v) then [] else []) [] (λ mine. absurd (nothing x (some_of (weakly_dominates v b.nadir) [] x mine))) (λ later. later)))
        here

    -- of a tree
    pub tree_opened : (c : Copy) (t : Nodes) → IsTreeOf objectives c t → some_weakly_dominates (points_of t) v ≡ false → (x : ℕ) → In x (opened v t) → In x (needed_below v t)
    tree_opened c t is none x here = ⊎_elim (λ bare. empty_needed t bare x here) (λ formed. opened_needed t formed is.boxed (uncovered-each (points_of t) v none) x here) is.formed

    -- whichever tree the copy reads as
    bare_necessary : (r : ℕ) (b d : Box) → (x : ℕ) → In x (necessary v (leaf r b [] no_nodes)) → In x (necessary v (leaf r d [] no_nodes))
    bare_necessary r b d x here = along x r (if is_mixed b v then [] else []) [] (if is_mixed d v then [] else []) [] (λ mine. absurd (nothing x (some_of (is_mixed b v) [] x mine))) (λ later. later) here

    pub same_uncovered : (c : Copy) (t s : Nodes) → IsTreeOf objectives c t → IsTreeOf objectives c s → some_weakly_dominates (points_of s) v ≡ false → some_weakly_dominates (points_of t) v ≡ false
    same_uncovered c t s is_t is_s none = ap (λ ps. some_weakly_dominates ps v) (of_trees objectives (λ a b. points_of a ≡ points_of b) (λ a. refl) (λ r b d. refl) c t s is_t is_s) ∙ none

    module _ (new : ℕ) (t : Nodes) (k l : Known) (is : IsTreeOf objectives (pinned_copy k) t) where
      -- a question
      pub only_asked : k.since ≤ length k.looks → ReadsNecessary objectives v k l → ReadsOnly (needed v new t) k l
      only_asked begun asked =
          only_more (necessary v asked.0) (needed v new t) k l
          (λ x here.
          in-append_left x (needed_below v t) (on_way v (without_dominated new v t) 0)
          (necessary_needed t x (of_trees objectives (λ a b. In x (necessary v a) → In x (necessary v b)) (λ a mine. mine) (λ r b d. bare_necessary r b d x) (pinned_copy k) asked.0 t asked.1 is here)))
          (only_reads (necessary v asked.0) k l begun asked.2)

      -- a removal and an insertion
      pub only_built : some_weakly_dominates (points_of t) v ≡ false → ReadsOnly (opened v t ++ on_way v (without_dominated new v t) 0) k l → ReadsOnly (needed v new t) k l
      only_built none only =
          only_more (opened v t ++ on_way v (without_dominated new v t) 0) (needed v new t) k l
          (λ x here.
          ⊎_elim
          (λ mine. in-append_left x (needed_below v t) (on_way v (without_dominated new v t) 0) (tree_opened (pinned_copy k) t is none x mine))
          (λ way. in-append_right x (needed_below v t) (on_way v (without_dominated new v t) 0) way)
          (in_either x (opened v t) (on_way v (without_dominated new v t) 0) here))
          only
