-- A tree, and a copy of it, are given by the words of the tree's own rows alone.
use Rattle.std.proofs.Common.{◌≡◌, ℕ, zero, suc, ◌<◌, ◌⊎◌, ⊎_elim, inl, inr, List, [], ◌∷◌, ◌++◌, flat_map, length, refl, sym, ap, subst, ◌∙◌, arith, length-append}
use Rattle.std.proofs.lemmas.Bool.{cases_eq}
use Rattle.era_core.specs.declared.sizes.TheConstants.{WIDTH}
use Rattle.era_core.specs.Lists.{times, In, AreClosed, tree}
use Rattle.era_core.specs.Words.{cell, links, tree_at}
use Rattle.era_core.proofs.ListFacts.{times-append, in-append_left, in-append_right, in_cases, in_head, in_tail}
use Rattle.era_core.proofs.Room.{AreDifferent, AreBelow, length-below}
use Rattle.era_core.proofs.WordFacts.{links_by-same}

-- a row of one of the joined lists is a row of them all
pub in-flat_map : (f : ℕ → List ℕ) (xs : List ℕ) (x y : ℕ) → In y xs → In x (f y) → In x (flat_map f xs)
in-flat_map f [] x y there here = absurd (omega arith)
in-flat_map f (z ∷ zs) x y there here =
    ⊎_elim
    (λ e. in-append_left x (f z) (flat_map f zs) (subst (λ v. In x (f v)) e here))
    (λ later. in-append_right x (f z) (flat_map f zs) (in-flat_map f zs x y later here))
    (in_cases y z zs there)

-- and a row of them all is a row of one of them
pub from_flat_map : (f : ℕ → List ℕ) (xs : List ℕ) (x : ℕ) → In x (flat_map f xs) → (y : ℕ) × In y xs × In x (f y)
from_flat_map f [] x here = absurd (omega arith)
from_flat_map f (y ∷ ys) x here =
    ⊎_elim
    (λ none. let rest = from_flat_map f ys x (omega (arith, times-append x (f y) (flat_map f ys))) in (rest.0, in_tail rest.0 y ys rest.1, rest.2))
    (λ some_times. (y, in_head y ys, omega arith))
    (cases_eq (times x (f y)) 0)

pub flat_map-same : (f g : ℕ → List ℕ) (xs : List ℕ) → ((y : ℕ) → In y xs → g y ≡ f y) → flat_map g xs ≡ flat_map f xs
flat_map-same f g [] same = refl
flat_map-same f g (x ∷ xs) same =
    ap (λ ys. ys ++ flat_map g xs) (same x (in_head x xs)) ∙ ap (λ ys. f x ++ ys) (flat_map-same f g xs (λ y there. same y (in_tail y x xs there)))

pub tree_root : (links : ℕ → List ℕ) (depth r : ℕ) → In r (tree links depth r)
tree_root links zero r = in_head r []
tree_root links (suc depth) r = in_head r (flat_map (tree links depth) (links r))

-- other links give the same tree where they are the same at its rows
pub tree_same : (links others : ℕ → List ℕ) (depth r : ℕ) → ((x : ℕ) → In x (tree links depth r) → others x ≡ links x) → tree others depth r ≡ tree links depth r
tree_same links others zero r same = refl
tree_same links others (suc depth) r same =
    ap (λ ys. r ∷ flat_map (tree others depth) ys) (same r (in_head r (flat_map (tree links depth) (links r))))
    ∙ ap (λ ys. r ∷ ys) (flat_map-same (tree links depth) (tree others depth) (links r) (λ y there.
    tree_same links others depth y (λ x here. same x (in_tail x r (flat_map (tree links depth) (links r)) (in-flat_map (tree links depth) (links r) x y there here)))))

module _ (links : ℕ → List ℕ) where
  -- Each of these trees is closed under links, or one has more rows than it has levels. So it is for all of them together
  all_closed : (depth : ℕ) (zs : List ℕ) → ((z : ℕ) → AreClosed links (tree links depth z) ⊎ (depth < length (tree links depth z)))
      → ((z : ℕ) → In z zs → AreClosed links (tree links depth z)) ⊎ (depth < length (flat_map (tree links depth) zs))
  all_closed depth [] each = inl (λ z here. absurd (omega arith))
  all_closed depth (z ∷ zs) each =
      let parts = length-append (tree links depth z) (flat_map (tree links depth) zs) in
      ⊎_elim
      (λ closed.
      ⊎_elim
      (λ rest. inl (λ x here. ⊎_elim (λ e. subst (λ y. AreClosed links (tree links depth y)) (sym e) closed) (rest x) (in_cases x z zs here)))
      (λ long. inr (omega arith))
      (all_closed depth zs each))
      (λ long. inr (omega arith))
      (each z)

  closed_or_long : (depth r : ℕ) → AreClosed links (tree links depth r) ⊎ (depth < length (tree links depth r))
  closed_or_long zero r = inr (omega arith)
  closed_or_long (suc depth) r = ⊎_elim (λ each. inl (closed each)) (λ long. inr (omega arith)) (all_closed depth (links r) (closed_or_long depth))
    where
      below : List ℕ
      below = flat_map (tree links depth) (links r)

      closed : ((z : ℕ) → In z (links r) → AreClosed links (tree links depth z)) → AreClosed links (r ∷ below)
      closed each x y here link =
          ⊎_elim
          (λ e. in_tail y r below (in-flat_map (tree links depth) (links r) y y (subst (λ z. In y (links z)) e link) (tree_root links depth y)))
          (λ later.
          let from = from_flat_map (tree links depth) (links r) x later in
          in_tail y r below (in-flat_map (tree links depth) (links r) y from.0 from.1 (each from.0 from.1 x y from.2 link)))
          (in_cases x r below here)

  -- a tree of different rows, cut below as many levels as there are rows, is closed under links: nothing was cut
  pub tree_closed : (rows root : ℕ) → AreDifferent (tree links rows root) → AreBelow rows (tree links rows root) → AreClosed links (tree links rows root)
  tree_closed rows root different below =
      ⊎_elim (λ closed. closed) (λ long. absurd (let few = length-below rows (tree links rows root) different below in omega arith)) (closed_or_long rows root)

module _ (passes rows : ℕ) where
  -- the tree at a row stays where the words of its rows do
  pub tree_stays : (ws us : List ℕ) (r : ℕ) → ((x p : ℕ) → In x (tree_at passes rows ws r) → p < WIDTH → cell passes rows us x p ≡ cell passes rows ws x p) → tree_at passes rows us r ≡ tree_at passes rows ws r
  tree_stays ws us r same = tree_same (links passes rows ws) (links passes rows us) rows r (λ x here. links_by-same (cell passes rows us x) (cell passes rows ws x) (λ p place. same x p here place))
