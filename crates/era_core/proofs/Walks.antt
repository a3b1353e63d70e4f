-- What a walk with a stack of rows still has before it.
use Rattle.std.proofs.Common.{◌≡◌, ◌≢◌, ℕ, zero, suc, ◌+◌, ◌-◌, ◌^◌, ◌<◌, ◌≤◌, ⊎_elim, false, cond, eqb, List, [], ◌∷◌, ◌++◌, flat_map, map, reverse, length, refl, sym, ap, subst, ◌∙◌, arith, append_assoc, ne_eqb}
use Rattle.std.proofs.lemmas.Bool.{cases_eq}
use Rattle.std.proofs.lemmas.List.{append-nil, reverse-append}
use Rattle.era_core.specs.declared.sizes.TheConstants.{MOST_ROWS}
use Rattle.era_core.specs.Lists.{times, In, tree}
use Rattle.era_core.specs.Words.{run_of}
use Rattle.era_core.proofs.ListFacts.{times-tail, in_head, in_tail, in-append_left}
use Rattle.era_core.proofs.TreeFacts.{in-flat_map, tree_root}

-- row k of a run stands in it
pub in_run : (f : ℕ → ℕ) (p n k : ℕ) → p ≤ k → k < p + n → In (f k) (run_of f p n)
in_run f p zero k low high = absurd (omega arith)
in_run f p (suc n) k low high =
    ⊎_elim
    (λ e. subst (λ q. In (f k) (f q ∷ run_of f (p + 1) n)) e (in_head (f k) (run_of f (p + 1) n)))
    (λ apart. in_tail (f k) (f p) (run_of f (p + 1) n) (in_run f (p + 1) n k (omega arith) (omega arith)))
    (cases_eq k p)

-- one more link goes onto the stack, the one before those that are there
pub link_pushed : (f : ℕ → ℕ) (levels place count w : ℕ) (base old new : List (ℕ × ℕ)) → 0 < place → place ≤ count
    → old ≡ base ++ reverse (map (λ y. (y, levels)) (run_of f (place + 1) (count - place)))
    → w ≡ f place → new ≡ old ++ (w, levels) ∷ []
    → new ≡ base ++ reverse (map (λ y. (y, levels)) (run_of f (place - 1 + 1) (count - (place - 1))))
link_pushed f levels place count w base old new some_place within so_far is pushed =
    let rest : List (ℕ × ℕ) = map (λ y. (y, levels)) (run_of f (place + 1) (count - place)) in
    let first : place - 1 + 1 ≡ place = omega arith in
    let more : count - (place - 1) ≡ suc (count - place) = omega arith in
    pushed
    ∙ ap (λ x. old ++ (x, levels) ∷ []) is
    ∙ ap (λ xs. xs ++ (f place, levels) ∷ []) so_far
    ∙ append_assoc base (reverse rest) ((f place, levels) ∷ [])
    ∙ ap (λ xs. base ++ xs) (sym (reverse-append ((f place, levels) ∷ []) rest))
    ∙ ap (λ n. base ++ reverse (map (λ y. (y, levels)) (run_of f place n))) (sym more)
    ∙ ap (λ p. base ++ reverse (map (λ y. (y, levels)) (run_of f p (count - (place - 1))))) (sym first)

-- the trees at the rows of a stack, each with the levels left below it, the last row's first
abbrev pub pending : (ℕ → List ℕ) → List (ℕ × ℕ) → List ℕ
pending links [] = []
pending links (x ∷ xs) = pending links xs ++ tree links x.1 x.0

module _ (links : ℕ → List ℕ) where
  pending-append : (xs ys : List (ℕ × ℕ)) → pending links (xs ++ ys) ≡ pending links ys ++ pending links xs
  pending-append [] ys = sym (append-nil (pending links ys))
  pending-append (x ∷ xs) ys =
      ap (λ zs. zs ++ tree links x.1 x.0) (pending-append xs ys) ∙ append_assoc (pending links ys) (pending links xs) (tree links x.1 x.0)

  pending-push : (xs : List (ℕ × ℕ)) (r levels : ℕ) → pending links (xs ++ (r, levels) ∷ []) ≡ tree links levels r ++ pending links xs
  pending-push xs r levels = pending-append xs ((r, levels) ∷ [])

  -- links that were pushed, the first on top
  pending-links : (levels : ℕ) (ys : List ℕ) → pending links (reverse (map (λ y. (y, levels)) ys)) ≡ flat_map (tree links levels) ys
  pending-links levels [] = refl
  pending-links levels (y ∷ ys) =
      ap (pending links) (reverse-append ((y, levels) ∷ []) (map (λ z. (z, levels)) ys))
      ∙ pending-push (reverse (map (λ z. (z, levels)) ys)) y levels ∙ ap (λ zs. tree links levels y ++ zs) (pending-links levels ys)

  -- the row on top goes, and its links come
  pending-step : (old new : List (ℕ × ℕ)) (r levels : ℕ)
      → new ≡ old ++ cond (eqb levels 0) [] (reverse (map (λ y. (y, levels - 1)) (links r)))
      → pending links (old ++ (r, levels) ∷ []) ≡ r ∷ pending links new
  pending-step old new r zero is =
      pending-push old r 0 ∙ ap (λ zs. r ∷ pending links zs) (sym (is ∙ append-nil old))
  pending-step old new r (suc levels) is =
      let some_level : eqb (suc levels) 0 ≡ false = ne_eqb (suc levels) 0 (λ e. omega arith) in
      let below : suc levels - 1 ≡ levels = omega arith in
      let pushed : new ≡ old ++ reverse (map (λ y. (y, levels)) (links r)) =
      is ∙ ap (λ b. old ++ cond b [] (reverse (map (λ y. (y, suc levels - 1)) (links r)))) some_level ∙ ap (λ m. old ++ reverse (map (λ y. (y, m)) (links r))) below in
      pending-push old r (suc levels)
      ∙ ap (λ zs. (r ∷ zs) ++ pending links old) (sym (pending-links levels (links r)))
      ∙ ap (λ zs. r ∷ zs) (sym (pending-append old (reverse (map (λ y. (y, levels)) (links r)))))
      ∙ ap (λ zs. r ∷ pending links zs) (sym pushed)

  -- the links of the row on top stand in what is pending, where it has a level left
  pending-links_in : (old : List (ℕ × ℕ)) (r levels y : ℕ) → 0 < levels → In y (links r) → In y (pending links (old ++ (r, levels) ∷ []))
  pending-links_in old r zero y some_level link = absurd (omega arith)
  pending-links_in old r (suc levels) y some_level link =
      subst (In y) (sym (pending-push old r (suc levels)))
      (in-append_left y (tree links (suc levels) r) (pending links old)
      (in_tail y r (flat_map (tree links levels) (links r)) (in-flat_map (tree links levels) (links r) y y link (tree_root links levels y))))

  pub pending-top_in : (old : List (ℕ × ℕ)) (r levels : ℕ) → In r (pending links (old ++ (r, levels) ∷ []))
  pending-top_in old r levels =
      subst (In r) (sym (pending-push old r levels)) (in-append_left r (tree links levels r) (pending links old) (tree_root links levels r))

  -- what a turn of a walk does to its stack: a row goes from the top, and its links come
  pub record Turn (before after : List (ℕ × ℕ)) (r levels : ℕ) : Type 0 where
    pub rest : List (ℕ × ℕ)
    pub popped : before ≡ rest ++ (r, levels) ∷ []
    pub pushed : after ≡ rest ++ cond (eqb levels 0) [] (reverse (map (λ y. (y, levels - 1)) (links r)))

  pending-turn : (before after : List (ℕ × ℕ)) (r levels : ℕ) → Turn before after r levels → pending links before ≡ r ∷ pending links after
  pending-turn before after r levels turn = ap (pending links) turn.popped ∙ pending-step turn.rest after r levels turn.pushed

  pub pending-smaller : (before after : List (ℕ × ℕ)) (r levels : ℕ) → Turn before after r levels → length (pending links after) < length (pending links before)
  pending-smaller before after r levels turn = omega (arith, ap length (pending-turn before after r levels turn))

  pub found-turn : (before after : List (ℕ × ℕ)) (r levels : ℕ) (found more rows : List ℕ) → Turn before after r levels → more ≡ found ++ r ∷ []
      → found ++ pending links before ≡ rows → more ++ pending links after ≡ rows
  found-turn before after r levels found more rows turn one so_far =
      ap (λ xs. xs ++ pending links after) one
      ∙ append_assoc found (r ∷ []) (pending links after)
      ∙ ap (λ xs. found ++ xs) (sym (pending-turn before after r levels turn))
      ∙ so_far

  -- another row is pending as often after a turn as before it
  pub times-turn : (before after : List (ℕ × ℕ)) (r levels x : ℕ) → Turn before after r levels → r ≢ x → times x (pending links after) ≡ times x (pending links before)
  times-turn before after r levels x turn apart =
      sym (ap (times x) (pending-turn before after r levels turn) ∙ times-tail x r (pending links after) (λ e. apart (sym e)))

  -- the row that goes from the top, and its links, are in range where all that is pending is
  module _ (rows : ℕ) (before rest : List (ℕ × ℕ)) (r levels : ℕ) (inside : (x : ℕ) → In x (pending links before) → x < rows) (popped : before ≡ rest ++ (r, levels) ∷ []) where
    pub top_inside : r < rows
    top_inside = inside r (subst (λ xs. In r (pending links xs)) (sym popped) (pending-top_in rest r levels))

    pub links_inside : rows ≤ MOST_ROWS → 0 < levels → (y : ℕ) → In y (links r) → y < 2 ^ 32
    links_inside few some_level y link =
        let row = inside y (subst (λ xs. In y (pending links xs)) (sym popped) (pending-links_in rest r levels y some_level link)) in
        omega arith

    pub rest_inside : (after : List (ℕ × ℕ)) → Turn before after r levels → (x : ℕ) → In x (pending links after) → x < rows
    rest_inside after turn x here = inside x (subst (In x) (sym (pending-turn before after r levels turn)) (in_tail x r (pending links after) here))
