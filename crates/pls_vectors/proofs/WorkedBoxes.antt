-- Bounding boxes, worked: the box with the ideal (4, 5) and the nadir (2, 1), and that of one value.
use Rattle.std.proofs.Common.{◌≡◌, ℤ, pos, neg_ℤ, List, [], ◌∷◌, ◌^◌, refl}
use Rattle.pls_vectors.specs.Box.{Box, box_of, grown, decision, gap}
use Rattle.pls_vectors.specs.declared.range.Decision.TheVariants.{AllCover, CoversAll, Apart, Mixed}

abbrev pair : ℤ → ℤ → List ℤ
pair x y = x ∷ y ∷ []

abbrev box : Box
box = grown (box_of (pair (pos 4) (pos 1))) (pair (pos 2) (pos 5))

corners : box ≡ record { ideal = pair (pos 4) (pos 5); nadir = pair (pos 2) (pos 1) }
corners = refl

at_nadir : decision box (pair (pos 2) (pos 1)) ≡ AllCover
at_nadir = refl

at_ideal : decision box (pair (pos 4) (pos 5)) ≡ CoversAll
at_ideal = refl

beside : decision box (pair (pos 5) (pos 0)) ≡ Apart
beside = refl

gap_beside : gap box (pair (pos 5) (pos 0)) ≡ 52
gap_beside = refl

within : decision box (pair (pos 3) (pos 3)) ≡ Mixed
within = refl

above : decision box (pair (pos 2) (pos 9)) ≡ Mixed
above = refl

of_one : decision (box_of (pair (pos 7) (neg_ℤ (pos 7)))) (pair (pos 7) (neg_ℤ (pos 7))) ≡ AllCover
of_one = refl

-- the greatest gap of vectors of four parts
greatest : gap (box_of (pos (2 ^ 40) ∷ pos (2 ^ 40) ∷ pos (2 ^ 40) ∷ pos (2 ^ 40) ∷ [])) (neg_ℤ (pos (2 ^ 40)) ∷ neg_ℤ (pos (2 ^ 40)) ∷ neg_ℤ (pos (2 ^ 40)) ∷ neg_ℤ (pos (2 ^ 40)) ∷ []) ≡ 2 ^ 86
greatest = refl
