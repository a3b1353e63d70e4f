-- Where a view's lists are those of the callers 0, 1 and so on, in order, they are all that it holds.
use Rattle.std.proofs.Common.{◌≡◌, ℕ, ◌⊎◌, zero, suc, ◌+◌, ◌<◌, ◌≤◌, if◌then◌else◌, List, [], ◌∷◌, length, get_or, drop, map, refl, ap, ap₂, sym, subst, ◌∙◌, arith, inl, inr}
use Rattle.std.specs.List.{range_with_len}
use Rattle.std.proofs.lemmas.Bool.{eq-eqb, ne_eqb, cases_eq}
use Rattle.pls_archive.specs.declared.call.Entry.{Entry}
use Rattle.pls_archive.specs.Lists.{In}
use Rattle.pls_archive.specs.View.{lists_of, list_of}
use Rattle.pls_archive.specs.RunLaws.{HoldsInOrder}

abbrev callers : List (ℕ × List Entry) → List ℕ
callers lists = map (λ (list : ℕ × List Entry). list.0) lists

-- a number in a range stands in it
In-range : (c n k : ℕ) → c ≤ k → k < c + n → In k (range_with_len c n)
In-range c zero k from to = absurd (omega (arith, from, to))
In-range c (suc n) k from to =
    by_cases (cases_eq k c) (λ later. In-range (c + 1) n k later (omega (arith, to)))
  where
    by_cases : (k ≡ c) ⊎ (k ≡ c → ⊥) → (c + 1 ≤ k → In k (range_with_len (c + 1) n)) → (k ≡ c) ⊎ In k (range_with_len (c + 1) n)
    by_cases (inl here) rest = inl here
    by_cases (inr apart) rest = inr (rest (omega (arith, from, apart)))

map-range_agree :
    {A : Type 0} (f g : ℕ → A) (c n : ℕ) → ((k : ℕ) → c ≤ k → f k ≡ g k) → map f (range_with_len c n) ≡ map g (range_with_len c n)
map-range_agree f g c zero same = refl
map-range_agree f g c (suc n) same =
    ap₂ (λ x xs. x ∷ xs) (same c (omega arith)) (map-range_agree f g (c + 1) n (λ k from. same k (omega (arith, from))))

list_of-here : (c : ℕ) (list : ℕ × List Entry) (lists : List (ℕ × List Entry)) → list.0 ≡ c → list_of c (list ∷ lists) ≡ list.1
list_of-here c list lists here = ap (λ b. if b then list.1 else list_of c lists) (eq-eqb list.0 c here)

list_of-later : (c : ℕ) (list : ℕ × List Entry) (lists : List (ℕ × List Entry)) → (list.0 ≡ c → ⊥) → list_of c (list ∷ lists) ≡ list_of c lists
list_of-later c list lists apart = ap (λ b. if b then list.1 else list_of c lists) (ne_eqb list.0 c apart)

lists_in_order :
    (c n : ℕ) (lists : List (ℕ × List Entry)) → callers lists ≡ range_with_len c n
    → map (λ k. list_of k lists) (range_with_len c n) ≡ map (λ (list : ℕ × List Entry). list.1) lists
lists_in_order c zero [] order = refl
lists_in_order c (suc n) [] order = let long = ap (λ (ks : List ℕ). length ks) order in absurd (omega (arith, long))
lists_in_order c zero (list ∷ lists) order = let long = ap (λ (ks : List ℕ). length ks) order in absurd (omega (arith, long))
lists_in_order c (suc n) (list ∷ lists) order =
    let here : list.0 ≡ c = ap (λ ks. get_or ks 0 0) order in
    let rest : callers lists ≡ range_with_len (c + 1) n = ap (λ ks. drop 1 ks) order in
    let same = map-range_agree (λ k. list_of k (list ∷ lists)) (λ k. list_of k lists) (c + 1) n
    (λ k from. list_of-later k list lists (λ e. omega (arith, here, e, from))) in
    ap₂ (λ x xs. x ∷ xs) (list_of-here c list lists here) (same ∙ lists_in_order (c + 1) n lists rest)

pub holds_in_order : HoldsInOrder
holds_in_order started v order = (
  (λ c below. subst (λ ks. In c ks) (sym order) (In-range 0 started c (omega arith) (omega (arith, below)))),
  lists_in_order 0 started (lists_of v) order,
)
