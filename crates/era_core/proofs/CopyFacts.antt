-- The copy of a tree with all words of its rows stands, and is closed.
use Rattle.std.proofs.Common.{◌≡◌, ◌≢◌, ℕ, zero, suc, ◌+◌, ◌<◌, ◌≤◌, ◌⊎◌, ⊎_elim, inl, inr, true, cond, eqb, Some, List, [], ◌∷◌, ◌++◌, flat_map, refl, sym, ap, subst, ◌∙◌, arith, eq-eqb, ne_eqb}
use Rattle.std.specs.Prelude.{◌&&◌, is_some, unwrap_or}
use Rattle.std.proofs.lemmas.Bool.{cases_eq}
use Rattle.era_core.specs.declared.sizes.TheConstants.{WIDTH}
use Rattle.era_core.specs.Lists.{times, In}
use Rattle.era_core.specs.Words.{cell, links, tree_at}
use Rattle.era_core.specs.Versions.{Cell, look_up, known, known_links, IsClosed, Stands, cells_from, copy_at}
use Rattle.era_core.proofs.ListFacts.{in_cases, in_head, in_tail}
use Rattle.era_core.proofs.WordFacts.{links_by-same}
use Rattle.era_core.proofs.TreeFacts.{tree_same}
use mathlib.Core.Option.{some, some-injective, some-ne-none}
use lib.ListN.{get_elem?}

-- an element of two joined lists is one of the first or of the second
pub at_append : {A : Type 0} (xs ys : List A) (i : ℕ) (a : A) → get_elem? (xs ++ ys) i ≡ some a → ((j : ℕ) × (get_elem? xs j ≡ some a)) ⊎ ((j : ℕ) × (get_elem? ys j ≡ some a))
at_append [] ys i a there = inr (i, there)
at_append (x ∷ xs) ys zero a there = inl (0, there)
at_append (x ∷ xs) ys (suc i) a there = ⊎_elim (λ t. inl (suc t.0, t.1)) inr (at_append xs ys i a there)

module _ (passes rows : ℕ) (ws : List ℕ) where
  -- the cells of one row
  from_row : (r p n i : ℕ) (c : Cell) → get_elem? (cells_from passes rows ws r p n) i ≡ some c → (c.row ≡ r) × (c.place < p + n) × (cell passes rows ws c.row c.place ≡ c.word)
  from_row r p zero i c there = absurd (some-ne-none c (sym there))
  from_row r p (suc n) zero c there =
      let P : Cell → Type 0 = λ x. (x.row ≡ r) × (x.place < p + suc n) × (cell passes rows ws x.row x.place ≡ x.word) in
      subst P (some-injective (record { row = r; place = p; word = cell passes rows ws r p }) c there) (refl, omega arith, refl)
  from_row r p (suc n) (suc i) c there = let rest = from_row r (p + 1) n i c there in (rest.0, (let below = rest.1 in omega arith), rest.2)

  abbrev cells_of : List ℕ → List Cell
  cells_of xs = flat_map (λ x. cells_from passes rows ws x 0 WIDTH) xs

  pub from_rows : (xs : List ℕ) (i : ℕ) (c : Cell) → get_elem? (cells_of xs) i ≡ some c → In c.row xs × (c.place < WIDTH) × (cell passes rows ws c.row c.place ≡ c.word)
  from_rows [] i c there = absurd (some-ne-none c (sym there))
  from_rows (x ∷ xs) i c there =
      ⊎_elim
      (λ t. let one = from_row x 0 WIDTH t.0 c t.1 in (subst (λ (y : ℕ). In y (x ∷ xs)) (sym one.0) (in_head x xs), one.1, one.2))
      (λ t. let rest = from_rows xs t.0 c t.1 in (in_tail c.row x xs rest.0, rest.1, rest.2))
      (at_append (cells_from passes rows ws x 0 WIDTH) (cells_of xs) i c there)

  look_up_here : (r p n q : ℕ) (more : List Cell) → p ≤ q → q < p + n → look_up (cells_from passes rows ws r p n ++ more) r q ≡ Some (cell passes rows ws r q)
  look_up_here r p zero q more low high = absurd (omega arith)
  look_up_here r p (suc n) q more low high =
      let rest = look_up (cells_from passes rows ws r (p + 1) n ++ more) r q in
      ⊎_elim
      (λ e. ap (λ t. cond (t && eqb p q) (Some (cell passes rows ws r p)) rest) (eq-eqb r r refl) ∙ ap (λ t. cond t (Some (cell passes rows ws r p)) rest) (eq-eqb p q e) ∙ ap (λ a. Some (cell passes rows ws r a)) e)
      (λ apart. ap (λ t. cond (t && eqb p q) (Some (cell passes rows ws r p)) rest) (eq-eqb r r refl) ∙ ap (λ t. cond t (Some (cell passes rows ws r p)) rest) (ne_eqb p q apart) ∙ look_up_here r (p + 1) n q more (omega arith) (omega arith))
      (cases_eq p q)

  look_up_past : (x r p n q : ℕ) (more : List Cell) → x ≢ r → look_up (cells_from passes rows ws x p n ++ more) r q ≡ look_up more r q
  look_up_past x r p zero q more apart = refl
  look_up_past x r p (suc n) q more apart =
      ap (λ t. cond (t && eqb p q) (Some (cell passes rows ws x p)) (look_up (cells_from passes rows ws x (p + 1) n ++ more) r q)) (ne_eqb x r apart) ∙ look_up_past x r (p + 1) n q more apart

  pub look_up_rows : (xs : List ℕ) (r p : ℕ) → In r xs → p < WIDTH → look_up (cells_of xs) r p ≡ Some (cell passes rows ws r p)
  look_up_rows [] r p here place = absurd (omega arith)
  look_up_rows (x ∷ xs) r p here place =
      ⊎_elim
      (λ e. subst (λ (y : ℕ). look_up (cells_from passes rows ws y 0 WIDTH ++ cells_of xs) r p ≡ Some (cell passes rows ws r p)) e (look_up_here r 0 WIDTH p (cells_of xs) (omega arith) (omega arith)))
      (λ apart. look_up_past x r 0 WIDTH p (cells_of xs) (λ e. apart (sym e)) ∙ look_up_rows xs r p (⊎_elim (λ e. absurd (apart e)) (λ later. later) (in_cases r x xs here)) place)
      (cases_eq r x)

  pub copy_whole : (q r p : ℕ) → In r (tree_at passes rows ws q) → p < WIDTH → is_some (look_up (copy_at passes rows ws q).cells r p) ≡ true
  copy_whole q r p here place = ap is_some (look_up_rows (tree_at passes rows ws q) r p here place)

  pub copy_stands : (q : ℕ) → Stands passes rows ws (copy_at passes rows ws q).cells
  copy_stands q i c there = (from_rows (tree_at passes rows ws q) i c there).2

  pub copy_closed : (q : ℕ) → ((r : ℕ) → times r (tree_at passes rows ws q) ≤ 1) → IsClosed rows (copy_at passes rows ws q)
  copy_closed q once =
      let xs = tree_at passes rows ws q in
      let cells : List Cell = cells_of xs in
      let same : (r p : ℕ) → In r xs → p < WIDTH → known cells r p ≡ cell passes rows ws r p = λ r p here place. ap (λ o. unwrap_or o 0) (look_up_rows xs r p here place) in
      record {
        once = once;
        within = λ i c there. (from_rows xs i c there).0;
        placed = λ i c there. (from_rows xs i c there).1;
        covers = λ r here p below. copy_whole q r p here (omega arith);
        is_tree = sym (tree_same (links passes rows ws) (known_links cells) rows q (λ x here. links_by-same (known cells x) (cell passes rows ws x) (λ p place. same x p here place)));
      }
