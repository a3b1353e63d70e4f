use Rattle.std.specs.Prelude.{ℕ, zero, suc, ◌+◌, ◌%◌, List}
use Rattle.std.specs.List.{swap}
use Rattle.rand_core.specs.Stream.{Stream, next_u64}
use Rattle.rand_core.specs.Steps.{stream_of, steps_u64_high}
use Rattle.rand_xoshiro.specs.SplitMix64.{splitmix_seed}
use Rattle.rand_xoshiro.specs.Xoshiro256.{plus_plus, of_seed}

-- what Xoshiro256++ gives after it was seeded with a number
abbrev pub seeded : ℕ → Stream
seeded seed = stream_of (steps_u64_high plus_plus) (of_seed (splitmix_seed 32 seed))

-- The shuffle of Fisher and Yates, from the last place down to the one after the least: of the n entries from the
-- least place on that are left to shuffle, the last is exchanged with number word mod n. Beside it the words that are left.
unfoldable pub shuffled : {X : Type 0} → ℕ → ℕ → Stream → List X → List X × Stream
shuffled least zero words xs = (xs, words)
shuffled least (suc zero) words xs = (xs, words)
shuffled least (suc (suc i)) words xs =
    let next = next_u64 words in
    shuffled least (suc i) next.1 (swap xs (least + suc i) (least + next.0 % suc (suc i)))
