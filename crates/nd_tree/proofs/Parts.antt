-- How many parts the vectors have that are read, and the boxes of them.
use Rattle.std.proofs.Common.{◌≡◌, ℕ, ◌<◌, ℤ, List, [], length, map, get_or, All, ap, ◌∙◌}
use Rattle.std.proofs.lemmas.List.Elements.{All-map, All-weaker}
use Rattle.pls_vectors.specs.Box.{box_of}
use Rattle.nd_tree.specs.Split.{value_at, AreUniform}

pub uniform-at : (values : List (List ℤ)) (k : ℕ) (v : List ℤ) → AreUniform values → k < length values → v ≡ get_or values k v → length v ≡ length (value_at values 0)
uniform-at values k v uniform within is = ap length is ∙ uniform k v within

pub parts-boxes :
    (values : List (List ℤ)) (chosen : List ℕ) → AreUniform values → All (λ k. k < length values) chosen
    → All (λ box. length box.ideal ≡ length (value_at values 0)) (map (λ k. box_of (value_at values k)) chosen)
parts-boxes values chosen uniform within =
    All-map (λ box. length box.ideal ≡ length (value_at values 0)) (λ k. box_of (value_at values k)) chosen
    (All-weaker (λ k. k < length values) (λ k. length (value_at values k) ≡ length (value_at values 0))
    (λ k below. uniform k [] below) chosen within)
