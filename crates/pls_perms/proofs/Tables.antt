-- A table of the numbers at each place: one more place, and the lists that it was made of.
use Rattle.std.proofs.Common.{◌≡◌, ℕ, ◌+◌, ◌*◌, ◌/◌, ◌%◌, ◌<◌, ◌≤◌, inl, inr, List, [], ◌∷◌, ◌++◌, length, slice_index, ap, sym, ◌∙◌, arith, length-append}
use Rattle.std.proofs.Math.Seq.{get_or-append_seam}
use Rattle.std.proofs.lemmas.Bool.{cases_eq}
use Rattle.std.proofs.lemmas.List.{ext_get_or, get_or_append_left}
use Rattle.std.proofs.lemmas.List.FromFn.{length-map-range_with_len, get_or-map-range_with_len}
use Rattle.std.proofs.lemmas.Nat.{div_below, mod_below, div-add-mod'}
use Rattle.pls_perms.specs.Table.{numbers_at, IsTableOf, by_lists}

pub IsTableOf-push :
    (long n : ℕ) (numbers : List ℕ) (table : List (List ℕ)) (a : List ℕ) → IsTableOf long n numbers table
    → ((k : ℕ) → k < 4 → slice_index a k ≡ slice_index numbers (k * long + n))
    → IsTableOf long (n + 1) numbers (table ++ a ∷ [])
IsTableOf-push long n numbers table a is here =
    let was = is.places in
    record {
      places = simp length-append (omega arith);
      has = λ k place below within.
          elim (cases_eq place n) [
            | inl same ↦
                let at : place ≡ length table = same ∙ sym was in
                let last : numbers_at (table ++ a ∷ []) place ≡ a =
                ap (λ i. numbers_at (table ++ a ∷ []) i) at ∙ get_or-append_seam table a [] _ in
                ap (λ x. slice_index x k) last ∙ (here k below ∙ ap (λ i. slice_index numbers (k * long + i)) (sym same))
            | inr other ↦
                rw (get_or_append_left table (a ∷ []) [] place (omega arith)) (is.has k place below (omega arith))
          ];
    }

-- the lists of a table are those that it was made of
pub by_lists-is :
    (lists long : ℕ) (numbers : List ℕ) (table : List (List ℕ)) → lists ≤ 4 → 0 < long → length numbers ≡ lists * long
    → IsTableOf long long numbers table → by_lists lists table ≡ numbers
unfolding by_lists
by_lists-is lists long numbers table few some all is =
    let places = is.places in
    let made : length (by_lists lists table) ≡ lists * long = length-map-range_with_len _ 0 (lists * length table) ∙ ap (λ n. lists * n) places in
    ext_get_or 0 _ numbers (omega arith)
    (λ i below.
    let within : i < lists * long = omega arith in
    let row : i / long < lists = div_below i long lists some within in
    let column : i % long < long = mod_below i long some in
    let same : i / long * long + i % long ≡ i = div-add-mod' i long in
    get_or-map-range_with_len _ 0 (lists * length table) i i 0 (rw places within) (omega arith)
    ∙ (rw places (is.has (i / long) (i % long) (omega arith) column) ∙ ap (λ p. slice_index numbers p) same))
