-- The definitions on small instances and texts, computed.
use Rattle.std.specs.Prelude.{◌≡◌, ℕ, true, List, [], ◌∷◌, ◌++◌, take, length, Ok, Err, codes, replicate}
use Rattle.std.specs.Fmt.{digits}
use Rattle.std.specs.List.{range_with_len}
use Rattle.std.proofs.Common.{refl}
use Rattle.rand_core.specs.Steps.{stream_of, word_bytes, u32_at}
use Rattle.rand_core.specs.Stream.{next_u64, fill_bytes}
use Rattle.pls_vectors.specs.Solution.{no_items, with_item, byte, with_byte, with_entry, with_entries, stored}
use Rattle.pls_knapsack.specs.Instance.{feasible, fits, no_other_bit, filled, greedy}
use Rattle.pls_problem.specs.declared.instance.Instance.{Instance}
use Rattle.pls_problem.specs.declared.instance.Instance.TheVariants.{Knapsack, Assignment, Tour}
use Rattle.pls_problem.specs.declared.make_spec.MakeSpec.{MakeSpec}
use Rattle.pls_problem.specs.declared.kind.Kind.TheVariants as kind
use Rattle.pls_problem.specs.declared.reader.BadInstance.TheVariants.{Head, Short, Word, Range, Extra, Shape}
use Rattle.pls_problem.specs.Kinds.{size_limits, number_limits, instance_of}
use Rattle.pls_problem.specs.Reading.{instance}
use Rattle.pls_problem.specs.Text.{instance_text}
use Rattle.pls_problem.specs.Shuffle.{seeded, shuffled}
use Rattle.pls_problem.specs.Starts.{start_of, starts_from, starts}
use Rattle.pls_problem.specs.Made.{drawn, made}

-- two items that fit together
abbrev two_items : List ℕ
two_items = codes "pls1 knapsack 2 2 1\n10\n3 1\n1 3\n2 3\n"

abbrev two : Instance
two = Knapsack (record {
  items = 2;
  objectives = 2;
  rules = 1;
  capacities = 10 ∷ [];
  profits = 3 ∷ 1 ∷ 1 ∷ 3 ∷ [];
  weights = 2 ∷ 3 ∷ [];
})

two_length : length two_items ≡ 35
two_length = refl

two_read : instance two_items ≡ Ok two
unfolding size_limits number_limits instance_of
two_read = refl

two_written : instance_text two ≡ two_items
unfolding instance_text digits
two_written = refl

commented : instance (two_items ++ codes "\t# done\n") ≡ Ok two
unfolding size_limits number_limits instance_of
commented = refl

cut_short : instance (take 32 two_items) ≡ Err (Short 32)
unfolding size_limits number_limits instance_of
cut_short = refl

one_more : instance (two_items ++ codes "7\n") ≡ Err (Extra 35)
unfolding size_limits number_limits instance_of
one_more = refl

-- texts that are no instance, each with its first fault
no_words : instance [] ≡ Err (Short 0)
no_words = refl

head_alone : instance (codes "pls1") ≡ Err (Short 4)
head_alone = refl

all_comment : instance (codes "#pls1") ≡ Err (Short 5)
all_comment = refl

other_head : instance (codes "pls3 knapsack") ≡ Err (Head 0)
other_head = refl

zero_byte : instance (0 ∷ []) ≡ Err (Head 0)
zero_byte = refl

other_kind : instance (codes "pls1 lot") ≡ Err (Shape 5)
other_kind = refl

comment_behind_head : instance (codes "pls1#c\nlot") ≡ Err (Shape 7)
comment_behind_head = refl

no_number : instance (codes "pls1 knapsack two") ≡ Err (Word 14)
unfolding size_limits number_limits instance_of
no_number = refl

five_objectives : instance (codes "pls1 knapsack 5 1 1 and any rest") ≡ Err (Range 14)
unfolding size_limits number_limits instance_of
five_objectives = refl

many_items : instance (codes "pls1 knapsack 2 257 1") ≡ Err (Range 16)
unfolding size_limits number_limits instance_of
many_items = refl

nine_rules : instance (codes "pls1 knapsack 2 1 9") ≡ Err (Range 18)
unfolding size_limits number_limits instance_of
nine_rules = refl

-- a number just beyond its limits, a long one, and one with leading zeros
too_great : instance (codes "pls1 knapsack 2 1 1\n5\n1000001\n1\n1\n") ≡ Err (Range 22)
unfolding size_limits number_limits instance_of
too_great = refl

forty_digits : instance (codes "pls1 knapsack 2 1 1\n" ++ replicate 40 57) ≡ Err (Range 20)
unfolding size_limits number_limits instance_of
forty_digits = refl

leading_zeros :
    instance (codes "pls1 knapsack 2 1 1\n5 00000000000000001 1 1")
    ≡ Ok (Knapsack (record { items = 1; objectives = 2; rules = 1; capacities = 5 ∷ []; profits = 1 ∷ 1 ∷ []; weights = 1 ∷ [] }))
unfolding size_limits number_limits instance_of
leading_zeros = refl

-- two agents, by two matrices
abbrev two_agents : List ℕ
two_agents = codes "pls1 assignment 2 2\n1 5\n5 1\n5 1\n1 5\n"

abbrev agents : Instance
agents = Assignment (record { objectives = 2; agents = 2; costs = 1 ∷ 5 ∷ 5 ∷ 1 ∷ 5 ∷ 1 ∷ 1 ∷ 5 ∷ [] })

agents_read : instance two_agents ≡ Ok agents
unfolding size_limits number_limits instance_of
agents_read = refl

agents_written : instance_text agents ≡ two_agents
unfolding instance_text digits
agents_written = refl

one_row_too_few : instance (codes "pls1 assignment 2 2\n1 5\n5 1\n5 1\n") ≡ Err (Short 32)
unfolding size_limits number_limits instance_of
one_row_too_few = refl

no_agents : instance (codes "pls1 assignment 2 0") ≡ Err (Range 18)
unfolding size_limits number_limits instance_of
no_agents = refl

-- three cities, by two lists of edges
abbrev three_cities : List ℕ
three_cities = codes "pls1 tour 2 3\n1 2 3\n4 5 6\n"

abbrev cities : Instance
cities = Tour (record { objectives = 2; cities = 3; edges = 1 ∷ 2 ∷ 3 ∷ 4 ∷ 5 ∷ 6 ∷ [] })

cities_read : instance three_cities ≡ Ok cities
unfolding size_limits number_limits instance_of
cities_read = refl

cities_written : instance_text cities ≡ three_cities
unfolding instance_text digits
cities_written = refl

two_cities : instance (codes "pls1 tour 2 2\n1\n1\n") ≡ Err (Range 12)
unfolding size_limits number_limits instance_of
two_cities = refl

one_edge_more : instance (three_cities ++ codes "7") ≡ Err (Extra 26)
unfolding size_limits number_limits instance_of
one_edge_more = refl

-- The words of Xoshiro256++, computed by another program: two shuffles of four from one stream, each of
-- which begins again with 0, 1, 2, 3.
abbrev four_then : ℕ → List ℕ × List ℕ
four_then seed =
    let first = shuffled 0 4 (seeded seed) (range_with_len 0 4) in
    let second = shuffled 0 4 first.1 (range_with_len 0 4) in
    (first.0, second.0)

shuffles_of_seven : four_then 7 ≡ (3 ∷ 0 ∷ 2 ∷ 1 ∷ [], 3 ∷ 2 ∷ 1 ∷ 0 ∷ [])
unfolding shuffled next_u64 fill_bytes stream_of word_bytes u32_at
shuffles_of_seven = refl

-- the same words, where the first place stays
tour_of_seven : (shuffled 1 4 (seeded 7) (range_with_len 0 5)).0 ≡ 0 ∷ 4 ∷ 1 ∷ 3 ∷ 2 ∷ []
unfolding shuffled next_u64 fill_bytes stream_of word_bytes u32_at
tour_of_seven = refl

-- three items, of which the last two do not fit together with the first
abbrev three : Instance
three = Knapsack (record {
  items = 3;
  objectives = 2;
  rules = 1;
  capacities = 5 ∷ [];
  profits = 3 ∷ 1 ∷ 2 ∷ 1 ∷ 3 ∷ 2 ∷ [];
  weights = 2 ∷ 3 ∷ 4 ∷ [];
})

-- along 1 0 2, along 1 0 2 and along 0 2 1
starts_of_seven :
    starts three 7 3
    ≡ with_item (with_item (no_items 3) 1 true) 0 true ∷ with_item (with_item (no_items 3) 1 true) 0 true
    ∷ with_item (with_item (no_items 3) 0 true) 1 true ∷ []
unfolding starts_from start_of greedy filled feasible fits no_other_bit shuffled next_u64 fill_bytes stream_of word_bytes u32_at
starts_of_seven = refl

-- permutations that begin a search
starts_of_agents : starts agents 7 2 ≡ stored (0 ∷ 1 ∷ []) ∷ stored (1 ∷ 0 ∷ []) ∷ []
unfolding starts_from start_of stored with_entries with_entry with_byte byte shuffled next_u64 fill_bytes stream_of word_bytes u32_at
starts_of_agents = refl

starts_of_cities : starts cities 7 2 ≡ stored (0 ∷ 1 ∷ 2 ∷ []) ∷ stored (0 ∷ 2 ∷ 1 ∷ []) ∷ []
unfolding starts_from start_of stored with_entries with_entry with_byte byte shuffled next_u64 fill_bytes stream_of word_bytes u32_at
starts_of_cities = refl

abbrev spec : ℕ → ℕ → ℕ → ℕ → MakeSpec
spec objectives size rules seed = record { kind = kind.Knapsack; objectives = objectives; size = size; rules = rules; seed = seed }

-- made instances, computed by another program: one item that never fits, and two weight rows
made_one : instance_text (made (spec 2 1 1 9)) ≡ codes "pls1 knapsack 2 1 1\n8\n96\n29\n16\n"
unfolding instance_text digits instance_of drawn next_u64 fill_bytes stream_of word_bytes u32_at
made_one = refl

made_two_rules :
    instance_text (made (spec 2 3 2 7)) ≡ codes "pls1 knapsack 2 3 2\n74 101\n62 17 79\n57 43 66\n9 73 66\n70 42 91\n"
unfolding instance_text digits instance_of drawn next_u64 fill_bytes stream_of word_bytes u32_at
made_two_rules = refl

-- and a tour of three cities
made_tour :
    instance_text (made (record { kind = kind.Tour; objectives = 2; size = 3; rules = 1; seed = 5 }))
    ≡ codes "pls1 tour 2 3\n59 51 44\n47 100 95\n"
unfolding instance_text digits instance_of drawn next_u64 fill_bytes stream_of word_bytes u32_at
made_tour = refl

made_assignment :
    instance_text (made (record { kind = kind.Assignment; objectives = 2; size = 2; rules = 1; seed = 5 }))
    ≡ codes "pls1 assignment 2 2\n59 51\n44 47\n100 95\n94 3\n"
unfolding instance_text digits instance_of drawn next_u64 fill_bytes stream_of word_bytes u32_at
made_assignment = refl
