-- The numbers of a solution and the parts of a value, written one after another.
use Rattle.std.proofs.Common.{◌≡◌, ◌<◌, ℕ, ℤ, pos, ◌+◌, Bool, List, [], ◌∷◌, ◌++◌, map, length, take, get_or, Option, Some, None, true, false, refl, sym, ap, subst, ◌∙◌, append-nil}
use Rattle.std.proofs.lemmas.Bool.{false≢true}
use Rattle.std.proofs.lemmas.List.{map-append, take_more}
use Rattle.std.proofs.lemmas.Option.{get_or_from_slice_get}
use Rattle.std.specs.Fmt.{decimal, signed_decimal}
use Rattle.std.specs.List.{flat_map, range_with_len, slice_get}
use Rattle.std.specs.Prelude.{option_to_list}
use Rattle.pls_io.proofs.Joins.{is_some_list, joined, Joins, Joins-push}
use Rattle.pls_io.specs.Lines.{gap}
use Rattle.pls_vectors.specs.Solution.{Solution}
use Rattle.pls_problem.specs.declared.instance.Instance.{Instance}
use Rattle.pls_problem.specs.Instance.{shown_at}
use Rattle.pls_problem.proofs.NumberRanges.{flat_map-range-more}
use Rattle.pls_top.specs.Report.{numbers_or_dash, solution_text}

-- one more part of a value
pub part_written :
    (f : ℤ → ℤ) (value : List ℤ) (k : ℕ) (before text text' : List ℕ) (any : Bool) (part : ℤ) → slice_get value k ≡ Some part → k < length value
    → Joins signed_decimal before (map f (take k value)) text any → text' ≡ text ++ (gap any ++ signed_decimal (f part))
    → Joins signed_decimal before (map f (take (k + 1) value)) text' true
part_written f value k before text text' any part at inside joins more =
    let is : get_or value k (pos 0) ≡ part = get_or_from_slice_get value k part (pos 0) at in
    let next : map f (take (k + 1) value) ≡ map f (take k value) ++ f part ∷ [] =
    ap (map f) (take_more value k (pos 0) inside)
    ∙ (map-append f (take k value) (get_or value k (pos 0) ∷ []) ∙ ap (λ (x : ℤ). map f (take k value) ++ f x ∷ []) is) in
    subst (λ (xs : List ℤ). Joins signed_decimal before xs text' true) (sym next)
    (Joins-push signed_decimal before (map f (take k value)) text any joins (f part) text' more)

numbers_joined : (numbers : List ℕ) → is_some_list numbers ≡ true → joined decimal numbers ≡ numbers_or_dash numbers
numbers_joined [] some = absurd (false≢true some)
numbers_joined (n ∷ numbers) some = refl

empty_list : (numbers : List ℕ) → is_some_list numbers ≡ false → numbers ≡ []
empty_list [] none = refl
empty_list (n ∷ numbers) none = absurd (false≢true (sym none))

module _ (i : Instance) (s : Solution) where
  -- the numbers that the first n places show
  abbrev pub shown_before : ℕ → List ℕ
  shown_before n = flat_map (λ place. option_to_list (shown_at i s place)) (range_with_len 0 n)

  shown_next : (n : ℕ) (x : Option ℕ) → x ≡ shown_at i s n → shown_before (n + 1) ≡ shown_before n ++ option_to_list x
  shown_next n x is =
      flat_map-range-more (λ place. option_to_list (shown_at i s place)) n
      ∙ ap (λ (y : Option ℕ). shown_before n ++ option_to_list y) (sym is)

  -- the numbers of a solution, written to the last
  pub solution_written :
      (before text : List ℕ) (any : Bool) (n : ℕ) → Joins decimal before (shown_before n) text any → n ≡ s.len → any ≡ true
      → text ≡ before ++ solution_text i s
  solution_written before text any n joins all some =
      joins.written
      ∙ ap (λ (t : List ℕ). before ++ t)
      (numbers_joined (shown_before n) (sym joins.some ∙ some) ∙ ap (λ (m : ℕ). numbers_or_dash (shown_before m)) all)

  -- no number was written, and then the dash
  pub no_solution_written :
      (before text text' : List ℕ) (any : Bool) (n : ℕ) → Joins decimal before (shown_before n) text any → n ≡ s.len → any ≡ false
      → text' ≡ text ++ 45 ∷ [] → text' ≡ before ++ solution_text i s
  no_solution_written before text text' any n joins all none dash =
      let nothing : shown_before n ≡ [] = empty_list (shown_before n) (sym joins.some ∙ none) in
      dash
      ∙ (ap (λ (t : List ℕ). t ++ 45 ∷ []) (joins.written ∙ (ap (λ (xs : List ℕ). before ++ joined decimal xs) nothing ∙ append-nil before))
      ∙ ap (λ (t : List ℕ). before ++ t) (ap numbers_or_dash (sym nothing) ∙ ap (λ (m : ℕ). numbers_or_dash (shown_before m)) all))

  -- the next place shows a number, which was written, or none
  pub number_written :
      (before text : List ℕ) (any : Bool) (n : ℕ) → Joins decimal before (shown_before n) text any → (text' : List ℕ) (any' : Bool) (number : ℕ)
      → Some number ≡ shown_at i s n → text' ≡ text ++ (gap any ++ decimal number) → any' ≡ true → Joins decimal before (shown_before (n + 1)) text' any'
  number_written before text any n joins text' any' number shows more some =
      rw (shown_next n (Some number) shows, some) (Joins-push decimal before (shown_before n) text any joins number text' more)

  pub nothing_shown :
      (before text : List ℕ) (any : Bool) (n : ℕ) → Joins decimal before (shown_before n) text any → (text' : List ℕ) (any' : Bool)
      → None ≡ shown_at i s n → text' ≡ text → any' ≡ any → Joins decimal before (shown_before (n + 1)) text' any'
  nothing_shown before text any n joins text' any' shows same same_any =
      rw (shown_next n None shows, append-nil, same, same_any) joins
