-- How a vector is stored: its places, and how they are compared.
use Rattle.std.proofs.Common.{◌≡◌, ℕ, ◌-◌, ◌≤◌, zero, suc, ℤ, pos, true, List, [], ◌∷◌, ◌++◌, length, take, replicate, refl, ap, sym, ◌∙◌, subst, arith}
use Rattle.std.specs.List.{list_all}
use Rattle.std.specs.Ordering.{int_cmp, ordering_then}
use Rattle.std.specs.Cmp.Lexicographic.{slice_cmp}
use Rattle.std.proofs.lemmas.Cmp.{int_cmp_total, lists_total, tied_itself}
use Rattle.std.proofs.Math.Seq.{take-append_seam, drop-append_seam}
use Rattle.std.proofs.Common.{length-append}
use Rattle.std.proofs.lemmas.Bool.{and_from}
use Rattle.std.proofs.lemmas.List.{length-replicate, take-append-drop}
use Rattle.std.proofs.lemmas.List.Folds.{list_all-append}
use Rattle.pls_vectors.specs.Dominance.{weakly_dominates, is_part, IsValue}
use Rattle.pls_vectors.specs.Vector.{IsStored, places_of, places_of-stored}
use Rattle.pls_vectors.proofs.Dominance.{weakly_dominates-append}

length-places_of : (parts : List ℤ) → length parts ≤ 4 → length (places_of parts) ≡ 4
length-places_of parts few = simp (length-append, length-replicate) (omega arith)

-- the fields that `Vector::new` stores
pub IsStored-places_of : (parts : List ℤ) → IsValue parts → IsStored (length parts) (places_of parts)
IsStored-places_of parts v = record {
  four = length-places_of parts v.at_most_four;
  within = v.at_most_four;
  value = subst (λ (xs : List ℤ). IsValue xs) (sym (take-append_seam parts _)) v;
  unused = drop-append_seam parts _;
}

zeros_in_range : (n : ℕ) → list_all is_part (replicate n (pos 0)) ≡ true
zeros_in_range zero = refl
zeros_in_range (suc n) = zeros_in_range n

-- all four places are in range
pub places_in_range : {n : ℕ} {places : List ℤ} → IsStored n places → list_all is_part places ≡ true
places_in_range {n} {places} s =
    ap (list_all is_part) (sym (take-append-drop n places) ∙ ap (λ rest. take n places ++ rest) s.unused)
    ∙ (list_all-append is_part (take n places) (replicate (4 - n) (pos 0))
    ∙ and_from _ _ s.value.in_range (zeros_in_range (4 - n)))

-- the places of two vectors of one length end alike
alike_past_parts :
    {m n : ℕ} {xs ys a b : List ℤ} → IsStored m xs → IsStored n ys → take m xs ≡ a → take n ys ≡ b → length a ≡ length b
    → (end : List ℤ) × (xs ≡ a ++ end) × (ys ≡ b ++ end)
alike_past_parts {a} {b} s t p q e =
    let zeros = λ (n : ℕ). replicate (4 - n) (pos 0) in (
      zeros (length a),
      sym (places_of-stored _ _ s) ∙ ap places_of p,
      sym (places_of-stored _ _ t) ∙ (ap places_of q ∙ ap (λ (n : ℕ). b ++ zeros n) (sym e)),
    )

-- so they are compared by all their places
pub weakly_dominates-stored :
    {m n : ℕ} {xs ys a b : List ℤ} → IsStored m xs → IsStored n ys → take m xs ≡ a → take n ys ≡ b → length a ≡ length b
    → weakly_dominates xs ys ≡ weakly_dominates a b
weakly_dominates-stored {a} {b} s t p q e =
    let (end, xs_is, ys_is) = alike_past_parts s t p q e in
    let same = weakly_dominates-append a b end e in cc

slice_cmp-append :
    (xs ys end : List ℤ) → length xs ≡ length ys → slice_cmp int_cmp (xs ++ end) (ys ++ end) ≡ slice_cmp int_cmp xs ys
slice_cmp-append [] [] end e = tied_itself (lists_total int_cmp_total) end
slice_cmp-append [] (y ∷ ys) end e = absurd (omega arith)
slice_cmp-append (x ∷ xs) [] end e = absurd (omega arith)
slice_cmp-append (x ∷ xs) (y ∷ ys) end e = ap (ordering_then (int_cmp x y)) (slice_cmp-append xs ys end (omega arith))

pub slice_cmp-stored :
    {m n : ℕ} {xs ys a b : List ℤ} → IsStored m xs → IsStored n ys → take m xs ≡ a → take n ys ≡ b → length a ≡ length b
    → slice_cmp int_cmp xs ys ≡ slice_cmp int_cmp a b
slice_cmp-stored {a} {b} s t p q e =
    let (end, xs_is, ys_is) = alike_past_parts s t p q e in
    let same = slice_cmp-append a b end e in cc
