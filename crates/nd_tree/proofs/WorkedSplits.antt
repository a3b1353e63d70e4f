-- Splits, worked: 21 vectors on a line.
use Rattle.std.proofs.Common.{◌≡◌, ◌-◌, pos, [], ◌∷◌, ◌++◌, map, replicate, refl}
use Rattle.nd_tree.specs.Split.{places, with_largest, begun, joined, split}

of_three_parts :
    split (map (λ i. pos i ∷ pos (20 - i) ∷ pos 0 ∷ []) (places 21))
    ≡ (0 ∷ []) ∷ (20 ∷ 18 ∷ []) ∷ (1 ∷ 2 ∷ 3 ∷ 4 ∷ 5 ∷ 6 ∷ 7 ∷ 8 ∷ 9 ∷ 10 ∷ 11 ∷ 12 ∷ []) ∷ (19 ∷ 13 ∷ 14 ∷ 15 ∷ 16 ∷ 17 ∷ []) ∷ []
unfolding split begun with_largest joined
of_three_parts = refl

of_two_parts :
    split (map (λ i. pos i ∷ pos (100 - i) ∷ []) (places 21))
    ≡ (0 ∷ []) ∷ (20 ∷ 14 ∷ 15 ∷ 16 ∷ 17 ∷ 18 ∷ 19 ∷ []) ∷ (1 ∷ 2 ∷ 3 ∷ 4 ∷ 5 ∷ 6 ∷ 7 ∷ 8 ∷ 9 ∷ 10 ∷ 11 ∷ 12 ∷ 13 ∷ []) ∷ []
unfolding split begun with_largest joined
of_two_parts = refl

-- seven times the same three vectors: of equally far ones the earlier begins a group, and of equally close boxes the earlier is joined
of_equals :
    split (map (λ x. pos x ∷ pos (2 - x) ∷ []) (replicate 7 0 ++ replicate 7 1 ++ replicate 7 2))
    ≡ (0 ∷ 2 ∷ 3 ∷ 4 ∷ 5 ∷ 6 ∷ 7 ∷ 8 ∷ 9 ∷ 10 ∷ 11 ∷ 12 ∷ 13 ∷ []) ∷ (14 ∷ 15 ∷ 16 ∷ 17 ∷ 18 ∷ 19 ∷ 20 ∷ []) ∷ (1 ∷ []) ∷ []
unfolding split begun with_largest joined
of_equals = refl
