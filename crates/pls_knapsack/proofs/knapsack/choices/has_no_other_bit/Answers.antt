use Rattle.std.proofs.Common.{◌≡◌, ◌-◌, ◌*◌, ◌^◌, ℕ, nat_lt, slice_index, ap, ◌∙◌, arith}
use Rattle.std.specs.List.{range_with_len, list_all}
use Rattle.pls_knapsack.specs.Instance.{no_other_bit}
use Rattle.pls_vectors.proofs.Ranges.{list_all-range_more}
use Rattle.pls_knapsack.proofs.Tallies.{word-full, word-part}
use Rattle.pls_knapsack.proofs.knapsack.choices.has_no_other_bit.Goals as goal
use Rattle.pls_knapsack.proofs.knapsack.choices.has_no_other_bit.Goals.{then-bits-ge64, else-bits-ge64}

pub loop-place-preserved : goal.loop-place-preserved
loop-place-preserved c =
    let words = c.args.sol.now.words in
    let same : nat_lt c.word-word.result (2 ^ c.saturating_sub-bits.result) ≡ nat_lt (slice_index words c.loop-place.place) (2 ^ (c.args.items - 64 * c.loop-place.place)) =
    rw (c.word-word.ensures, c.saturating_sub-bits.ensures) in
    list_all-range_more (λ j. nat_lt (slice_index words j) (2 ^ (c.args.items - 64 * j))) c.loop-place.place _ _ c.loop-place.invariant
    (elim c.if-bits-ge64.branch [
      | then-bits-ge64 w ↦ w.all-is ∙ (word-full _ _ c.word-word.type_inv w.if-bits-ge64.true ∙ same)
      | else-bits-ge64 w ↦ w.all-is ∙ (word-part _ _ w.if-bits-ge64.false ∙ same)
    ])

pub returns : goal.returns
unfolding no_other_bit
returns c =
    let all : c.loop-place.place ≡ 32 = omega arith in
    c.loop-place.invariant ∙ ap (λ (n : ℕ). list_all (λ j. nat_lt (slice_index c.args.sol.now.words j) (2 ^ (c.args.items - 64 * j))) (range_with_len 0 n)) all
