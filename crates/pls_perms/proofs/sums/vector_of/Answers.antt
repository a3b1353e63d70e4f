use Rattle.std.proofs.Common.{◌≡◌, ◌<◌, ◌^◌, ℕ, ℤ, pos, neg_ℤ, slice_index, to_z, of_z, w64, ap, ◌∙◌, rules}
use Rattle.std.proofs.lemmas.Int.{to_z-of_z}
use Rattle.pls_perms.proofs.Signs.{is_part-minus, others-of, four_in_range}
use Rattle.pls_perms.proofs.sums.vector_of.Goals as goal
use Rattle.pls_perms.proofs.sums.vector_of.Goals.{After-minus-4}

abbrev part : After-minus-4 → ℕ → ℤ
part c k = neg_ℤ (pos (slice_index c.args.sums.now k))

first : (c : After-minus-4) → to_z w64 (of_z w64 c.minus.result) ≡ part c 0
first c = to_z-of_z w64 c.minus.result (search rules) ∙ c.minus.ensures

second : (c : After-minus-4) → to_z w64 (of_z w64 c.minus-2.result) ≡ part c 1
second c = to_z-of_z w64 c.minus-2.result (search rules) ∙ c.minus-2.ensures

third : (c : After-minus-4) → to_z w64 (of_z w64 c.minus-3.result) ≡ part c 2
third c = to_z-of_z w64 c.minus-3.result (search rules) ∙ c.minus-3.ensures

fourth : (c : After-minus-4) → to_z w64 (of_z w64 c.minus-4.result) ≡ part c 3
fourth c = to_z-of_z w64 c.minus-4.result (search rules) ∙ c.minus-4.ensures

pub from_places-requires-clause-in_range : goal.from_places-requires-clause-in_range
from_places-requires-clause-in_range c =
    let small : (k : ℕ) → slice_index c.args.sums.now k < 2 ^ 32 = search rules in
    rw (first c, second c, third c, fourth c)
    (four_in_range (part c) (λ k below. is_part-minus (slice_index c.args.sums.now k) (small k)))

pub from_places-requires-clause-unused : goal.from_places-requires-clause-unused
from_places-requires-clause-unused c =
    rw (first c, second c, third c, fourth c)
    (others-of (part c) c.args.objectives c.requires.some c.requires.few
    (λ k past below. ap (λ x. neg_ℤ (pos x)) (c.requires.unused k past below)))
