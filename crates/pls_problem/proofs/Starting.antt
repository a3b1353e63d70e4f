-- One start after another.
use Rattle.std.proofs.Common.{◌≡◌, ℕ, ◌+◌, zero, suc, length, refl, List, [], ◌∷◌, ◌++◌, sym, ap, ◌∙◌, append_assoc, append-nil, add-one}
use Rattle.rand_core.specs.Stream.{Stream}
use Rattle.pls_vectors.specs.Solution.{Solution}
use Rattle.pls_problem.specs.declared.instance.Instance.{Instance}
use Rattle.pls_problem.specs.Shuffle.{seeded}
use Rattle.pls_problem.specs.Starts.{start_of, starts_from, starts, shuffled_order}

starts_from-suc :
    (i : Instance) (left : ℕ) (words words' : Stream) (s : Solution) → s ≡ start_of i (shuffled_order i words).0
    → words' ≡ (shuffled_order i words).1 → s ∷ starts_from i left words' ≡ starts_from i (suc left) words
unfolding starts_from
starts_from-suc i left words words' s start rest =
    ap (λ (q : Solution). q ∷ starts_from i left words') start
    ∙ ap (λ (more : Stream). start_of i (shuffled_order i words).0 ∷ starts_from i left more) rest

-- one more start
pub starts_from-push :
    (i : Instance) (left left' : ℕ) (words words' : Stream) (done done' all : List Solution) (s : Solution) → left ≡ left' + 1
    → s ≡ start_of i (shuffled_order i words).0 → words' ≡ (shuffled_order i words).1 → done' ≡ done ++ s ∷ []
    → done ++ starts_from i left words ≡ all → done' ++ starts_from i left' words' ≡ all
starts_from-push i left left' words words' done done' all s more start rest push so_far =
    ap (λ (xs : List Solution). xs ++ starts_from i left' words') push
    ∙ (append_assoc done (s ∷ []) (starts_from i left' words')
    ∙ (ap (λ (xs : List Solution). done ++ xs)
    (starts_from-suc i left' words words' s start rest ∙ ap (λ (n : ℕ). starts_from i n words) (sym (more ∙ add-one left')))
    ∙ so_far))

-- the last one was made
pub starts_from-done : (i : Instance) (left : ℕ) (words : Stream) (done all : List Solution) → left ≡ 0 → done ++ starts_from i left words ≡ all → done ≡ all
unfolding starts_from
starts_from-done i left words done all none so_far =
    sym (append-nil done) ∙ (ap (λ (n : ℕ). done ++ starts_from i n words) (sym none) ∙ so_far)

-- as many starts as are asked for
length-starts_from : (i : Instance) (count : ℕ) (words : Stream) → length (starts_from i count words) ≡ count
unfolding starts_from
length-starts_from i zero words = refl
length-starts_from i (suc count) words = ap suc (length-starts_from i count (shuffled_order i words).1)

pub length-starts : (i : Instance) (seed count : ℕ) → length (starts i seed count) ≡ count
length-starts i seed count = length-starts_from i count (seeded seed)
