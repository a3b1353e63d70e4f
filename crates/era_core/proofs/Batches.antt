-- The running lists of rows and batches: a row among them, and a row removed from them.
use Rattle.std.proofs.Common.{◌≡◌, ℕ, zero, suc, ◌+◌, ◌<◌, ◌≤◌, ⊎_elim, Bool, true, not, cond, eqb, ltb, List, [], ◌∷◌, ◌++◌, map, filter, flat_map, get_or, length, set, refl, sym, ap, ◌∙◌, arith, lt-ltb, eq-eqb, ne_eqb}
use Rattle.std.specs.Prelude.{◌||◌}
use Rattle.std.specs.List.{list_any}
use Rattle.std.proofs.lemmas.Bool.{cases_eq}
use Rattle.era_core.specs.Lists.{times, is_in, without}
use Rattle.era_core.specs.Views.{Batch, batch_of, without_row}
use Rattle.era_core.proofs.ListFacts.{times-head, times-tail}

-- one of the rows is this one
pub among : (x : ℕ) (xs : List ℕ) → list_any (λ y. eqb y x) xs ≡ is_in x xs
among x [] = refl
among x (y ∷ ys) =
    ⊎_elim
    (λ e. ap (λ b. b || list_any (λ z. eqb z x) ys) (eq-eqb y x (sym e)) ∙ sym (lt-ltb 0 (times x (y ∷ ys)) (omega (arith, times-head y ys, ap (λ z. times z (y ∷ ys)) e))))
    (λ apart. ap (λ b. b || list_any (λ z. eqb z x) ys) (ne_eqb y x (λ e. apart (sym e))) ∙ among x ys ∙ sym (ap (λ n. ltb 0 n) (times-tail x y ys apart)))
    (cases_eq x y)

one_only : (x y : ℕ) → not (eqb y x) ≡ not (is_in y (x ∷ []))
one_only x y = ap not (⊎_elim
    (λ e. eq-eqb y x e ∙ sym (ap (λ b. ltb 0 (cond b 1 0 + 0)) (eq-eqb y x e)))
    (λ apart. ne_eqb y x apart ∙ sym (ap (λ b. ltb 0 (cond b 1 0 + 0)) (ne_eqb y x apart)))
    (cases_eq y x))

-- the rows but one
pub others : (x : ℕ) (xs : List ℕ) → filter (λ y. not (eqb y x)) xs ≡ without (x ∷ []) xs
others x [] = refl
others x (y ∷ ys) =
    ap (λ l. cond (not (eqb y x)) (y ∷ l) l) (others x ys) ∙ ap (λ b. cond b (y ∷ without (x ∷ []) ys) (without (x ∷ []) ys)) (one_only x y)

-- the first so many elements changed
abbrev pub changed : {A : Type 0} → (A → A) → ℕ → List A → List A
changed g zero xs = xs
changed g (suc n) [] = []
changed g (suc n) (x ∷ xs) = g x ∷ changed g n xs

module _ {A B : Type 0} (f : A → B) (g : B → B) where
  -- one more of them
  pub changed_more : (xs : List A) (i : ℕ) (q : A) (all : List B) → i < length xs → f q ≡ g (f (get_or xs i q)) → map f xs ≡ changed g i all
      → map f (set xs i q) ≡ changed g (suc i) all
  changed_more [] i q all inside new so_far = absurd (omega arith)
  changed_more (x ∷ xs) zero q [] inside new so_far = absurd (cc)
  changed_more (x ∷ xs) zero q (y ∷ ys) inside new so_far = cc
  changed_more (x ∷ xs) (suc i) q [] inside new so_far = absurd (cc)
  changed_more (x ∷ xs) (suc i) q (y ∷ ys) inside new so_far =
      let rest = changed_more xs i q ys (omega arith) new (cc) in cc

pub changed_all : {B : Type 0} (g : B → B) (xs : List B) (n : ℕ) → length xs ≤ n → changed g n xs ≡ map g xs
changed_all g [] zero all = refl
changed_all g [] (suc n) all = refl
changed_all g (x ∷ xs) zero all = absurd (omega arith)
changed_all g (x ∷ xs) (suc n) all = ap (λ l. g x ∷ l) (changed_all g xs n (omega arith))

-- the batches that have rows
one_batch : {A : Type 0} (f : A → Batch) (x : A) (xs : List A) (left : List Batch) (rows : List ℕ) → (f x).1 ≡ rows → map f xs ≡ left
    → map f (cond (ltb 0 (length (f x).1)) (x ∷ xs) xs) ≡ batch_of (f x).0 (f x).1 ++ left
one_batch f x xs left [] e rest =
    ap (λ (l : List ℕ). map f (cond (ltb 0 (length l)) (x ∷ xs) xs)) e ∙ rest ∙ sym (ap (λ l. batch_of (f x).0 l ++ left) e)
one_batch f x xs left (r ∷ rs) e rest =
    let some_row : ltb 0 (length (f x).1) ≡ true = lt-ltb 0 (length (f x).1) (omega (arith, ap (λ (l : List ℕ). length l) e)) in
    ap (λ b. map f (cond b (x ∷ xs) xs)) some_row
    ∙ ap (λ (l : List Batch). f x ∷ l) rest
    ∙ ap (λ (l : List ℕ). ((f x).0, l) ∷ left) e
    ∙ sym (ap (λ l. batch_of (f x).0 l ++ left) e)

pub batches_left : {A : Type 0} (f : A → Batch) (xs : List A) → map f (filter (λ x. ltb 0 (length (f x).1)) xs) ≡ flat_map (λ (b : Batch). batch_of b.0 b.1) (map f xs)
batches_left f [] = refl
batches_left f (x ∷ xs) =
    one_batch f x (filter (λ y. ltb 0 (length (f y).1)) xs) (flat_map (λ (b : Batch). batch_of b.0 b.1) (map f xs)) (f x).1 refl (batches_left f xs)

pub without_row_by : (r : ℕ) (bs : List Batch) → flat_map (λ (b : Batch). batch_of b.0 b.1) (map (λ (b : Batch). (b.0, without (r ∷ []) b.1)) bs) ≡ without_row r bs
without_row_by r [] = refl
without_row_by r (b ∷ bs) = ap (λ l. batch_of b.0 (without (r ∷ []) b.1) ++ l) (without_row_by r bs)

-- one of the elements, or of what they are
pub any-map : {A B : Type 0} (p : B → Bool) (f : A → B) (xs : List A) → list_any p (map f xs) ≡ list_any (λ x. p (f x)) xs
any-map p f [] = refl
any-map p f (x ∷ xs) = ap (λ b. p (f x) || b) (any-map p f xs)
