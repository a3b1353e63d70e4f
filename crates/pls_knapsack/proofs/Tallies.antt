-- The sums of a choice, where one item is put in or taken out.
use Rattle.std.proofs.Common.{◌≡◌, ℕ, ◌+◌, ◌-◌, ◌*◌, ◌/◌, ◌%◌, ◌^◌, ◌<◌, ◌≤◌, ◌==◌, ℤ, pos, Bool, true, false, ◌&&◌, if◌then◌else◌, nat_le, nat_lt, List, length, slice_index, All, Some, None, map, ap, sym, ◌∙◌, subst, inl, inr, arith, get_or-set_same, get_or-set_other, length-set, add-one, add-zero}
use Rattle.std.specs.List.{range_with_len, list_all}
use Rattle.std.proofs.Math.Pow.{pow-lt}
use Rattle.std.proofs.Math.Nat.{pow-le-pow_right, mul-le-mul_right}
use Rattle.std.proofs.lemmas.Bool.{cases_eq, cases_lt, and_parts, and_from, eqb-true, eq-eqb, ltb-true, lt-ltb, leb-true, le-leb}
use Rattle.std.proofs.lemmas.Bool.Decides.{nat_tests}
use Rattle.std.proofs.lemmas.List.{get_or_past}
use Rattle.std.proofs.lemmas.List.Elements.{All-get_or}
use Rattle.std.proofs.lemmas.Nat.{or_lt, and_le_l}
use Rattle.pls_vectors.specs.Solution.{Solution, chosen, with_bit, with_item}
use Rattle.pls_vectors.proofs.Solution.{chosen-with_item_same, chosen-with_item_other}
use Rattle.pls_knapsack.specs.declared.knapsack.amounts.Amounts.{Amounts}
use Rattle.pls_knapsack.specs.declared.knapsack.tally.Tally.{Tally}
use Rattle.pls_knapsack.specs.Instance.{Instance, IsWithinLimits, profit, weight, sum_of_chosen, load, value, fits, no_other_bit, feasible}
use Rattle.pls_knapsack.specs.Neighbours.{point}
use Rattle.pls_knapsack.specs.Table.{IsItem}
use Rattle.pls_knapsack.specs.Walk.{IsTally, point_if_feasible}
use Rattle.pls_vectors.proofs.Ranges.{list_all-range, list_all-range_at, list_all-range_same, list_all-range_longer, sum_by-range_suc, sum_by-range_le, map-range_same}
use Rattle.pls_knapsack.proofs.Sums.{sum_of-put}

-- a word with a bit changed has no bit beyond m either
with_bit-below : (word i m : ℕ) (on : Bool) → word < 2 ^ m → i < m → with_bit word i on < 2 ^ m
with_bit-below word i m true small below = or_lt m word (2 ^ i) small (pow-lt below)
with_bit-below word i m false small below = omega (arith, and_le_l word (2 ^ 64 - 1 - 2 ^ i))

-- a change of an item leaves no other bit
no_other_bit-with_item :
    (places n : ℕ) (s : Solution) (i : ℕ) (on : Bool) → i / 64 < length s.words → i < n
    → list_all (λ j. nat_lt (slice_index s.words j) (2 ^ (n - 64 * j))) (range_with_len 0 places) ≡ true
    → list_all (λ j. nat_lt (slice_index (with_item s i on).words j) (2 ^ (n - 64 * j))) (range_with_len 0 places) ≡ true
no_other_bit-with_item places n s i on within below clean =
    list_all-range _ places (λ j at.
    let was : slice_index s.words j < 2 ^ (n - 64 * j) = ltb-true _ _ (list_all-range_at (λ j. nat_lt (slice_index s.words j) (2 ^ (n - 64 * j))) places j clean at) in
    elim (cases_eq j (i / 64)) [
      | inl same ↦
          let small : slice_index s.words (i / 64) < 2 ^ (n - 64 * (i / 64)) = subst (λ (m : ℕ). slice_index s.words m < 2 ^ (n - 64 * m)) same was in
          let now = with_bit-below (slice_index s.words (i / 64)) (i % 64) (n - 64 * (i / 64)) on small (omega arith) in
          lt-ltb _ _ (rw (same, get_or-set_same) now)
      | inr other ↦ lt-ltb _ _ (rw get_or-set_other was)
    ])

-- the sum over the chosen items when one is put in, or taken out
pub sum_of_chosen-put :
    (n : ℕ) (s : Solution) (i : ℕ) (amount : ℕ → ℕ) → i < n → i / 64 < length s.words → chosen s i ≡ false
    → sum_of_chosen n (with_item s i true) amount ≡ sum_of_chosen n s amount + amount i
sum_of_chosen-put n s i amount below within free =
    sum_of-put (λ j. chosen s j) (λ j. chosen (with_item s i true) j) amount n i below free
    (chosen-with_item_same s i true within)
    (λ j other. chosen-with_item_other s i j true within other)

pub sum_of_chosen-take :
    (n : ℕ) (s : Solution) (i : ℕ) (amount : ℕ → ℕ) → i < n → i / 64 < length s.words → chosen s i ≡ true
    → sum_of_chosen n (with_item s i false) amount + amount i ≡ sum_of_chosen n s amount
sum_of_chosen-take n s i amount below within taken =
    sym (sum_of-put (λ j. chosen (with_item s i false) j) (λ j. chosen s j) amount n i below
    (chosen-with_item_same s i false within) taken
    (λ j other. sym (chosen-with_item_other s i j false within other)))

-- a number of a list of small ones
pub small_at : (xs : List ℕ) (m i : ℕ) → All (λ x. x ≤ m) xs → slice_index xs i ≤ m
small_at xs m i small =
    elim (cases_lt i (length xs)) [
      | inl within ↦ All-get_or (λ x. x ≤ m) xs i 0 within small
      | inr past ↦ rw get_or_past (omega arith)
    ]

-- the sum over the chosen items of amounts that are small
pub sum_of_chosen-le :
    (n m : ℕ) (s : Solution) (amount : ℕ → ℕ) → ((i : ℕ) → amount i ≤ m) → sum_of_chosen n s amount ≤ n * m
sum_of_chosen-le n m s amount small =
    sum_by-range_le _ n m (λ i below.
    let here : amount i ≤ m = small i in
    elim (chosen s i) as (λ b. (if b then amount i else 0) ≤ m) [ true ↦ here | false ↦ omega arith ])

-- one more item
pub sum_of_chosen-yes :
    (n : ℕ) (s : Solution) (amount : ℕ → ℕ) → chosen s n ≡ true
    → sum_of_chosen (n + 1) s amount ≡ sum_of_chosen n s amount + amount n
sum_of_chosen-yes n s amount in_it =
    let last : (if chosen s n then amount n else 0) ≡ amount n = ap (λ b. if b then amount n else 0) in_it in
    rw add-one (sum_by-range_suc _ n ∙ ap (λ x. sum_of_chosen n s amount + x) last)

pub sum_of_chosen-no :
    (n : ℕ) (s : Solution) (amount : ℕ → ℕ) → chosen s n ≡ false
    → sum_of_chosen (n + 1) s amount ≡ sum_of_chosen n s amount
sum_of_chosen-no n s amount out_of_it =
    let last : (if chosen s n then amount n else 0) ≡ 0 = ap (λ b. if b then amount n else 0) out_of_it in
    rw add-one (sum_by-range_suc _ n ∙ (ap (λ x. sum_of_chosen n s amount + x) last ∙ add-zero _))

-- the parts of feasibility
pub record IsFeasible (k : Instance) (s : Solution) : Type 0 where
  pub long : s.len ≡ k.items
  pub clean : no_other_bit k.items s ≡ true
  pub within : fits k s ≡ true

pub feasible-parts : (k : Instance) (s : Solution) → feasible k s ≡ true → IsFeasible k s
unfolding feasible
feasible-parts k s holds =
    let parts = and_parts ((s.len == k.items) && no_other_bit k.items s) (fits k s) holds in
    let shape = and_parts (s.len == k.items) (no_other_bit k.items s) parts.0 in
    record { long = eqb-true s.len k.items shape.0; clean = shape.1; within = parts.1 }

pub feasible-fits :
    (k : Instance) (s : Solution) → s.len ≡ k.items → no_other_bit k.items s ≡ true → feasible k s ≡ fits k s
unfolding feasible
feasible-fits k s long clean =
    ap (λ b. b && fits k s) (and_from (s.len == k.items) (no_other_bit k.items s) (eq-eqb s.len k.items long) clean)

pub feasible-unclean : (k : Instance) (s : Solution) → ((s.len == k.items) && no_other_bit k.items s) ≡ false → feasible k s ≡ false
unfolding feasible
feasible-unclean k s unclean = ap (λ b. b && fits k s) unclean

-- one number fits into what another leaves of a third where their sum is at most the third
same_test : (w room sum capacity : ℕ) → capacity + w ≡ room + sum → nat_le w room ≡ nat_le sum capacity
same_test w room sum capacity e = grind (arith, nat_tests)

pub add_right_cancel : (a b c : ℕ) → a + c ≡ b + c → a ≡ b
add_right_cancel a b c e = omega arith

-- with_item keeps the length of the words, so a place within stays within
pub within : (s : Solution) (i n : ℕ) → length s.words ≡ 32 → i < n → n ≤ 256 → i / 64 < length s.words
within s i n stored below few = omega arith

-- the rows that an instance does not have
module _ (k : Instance) (limits : IsWithinLimits k) where
  no_profit : (row i : ℕ) → k.objectives ≤ row → profit k row i ≡ 0
  no_profit row i past =
      let more = mul-le-mul_right k.items past in
      get_or_past k.profits (row * k.items + i) 0 (let long = limits.profit_rows in omega arith)

  no_weight : (row i : ℕ) → k.rules ≤ row → weight k row i ≡ 0
  no_weight row i past =
      let more = mul-le-mul_right k.items past in
      get_or_past k.weights (row * k.items + i) 0 (let long = limits.weight_rows in omega arith)

  pub no_value : (s : Solution) (row : ℕ) → k.objectives ≤ row → sum_of_chosen k.items s (profit k row) ≡ 0
  no_value s row past =
      let none = sum_of_chosen-le k.items 0 s (profit k row) (λ i. let no = no_profit row i past in omega arith) in
      omega arith

  pub no_load : (s : Solution) (row : ℕ) → k.rules ≤ row → load k s row ≡ 0
  no_load s row past =
      let none = sum_of_chosen-le k.items 0 s (weight k row) (λ i. let no = no_weight row i past in omega arith) in
      omega arith

  -- so a choice fits where it does in eight rows
  pub fits-eight : (s : Solution) → list_all (λ row. nat_le (load k s row) (slice_index k.capacities row)) (range_with_len 0 8) ≡ fits k s
  unfolding fits
  fits-eight s =
      list_all-range_longer _ k.rules 8 limits.few_rules
      (λ row past _. le-leb _ _ (let none = no_load s row past in omega arith))

  -- what is summed over all items and what one item has are small
  pub small_profit : (row i : ℕ) → profit k row i ≤ 1000000
  small_profit row i = small_at k.profits 1000000 _ limits.small_profits

  pub small_weight : (row i : ℕ) → weight k row i ≤ 1000000
  small_weight row i = small_at k.weights 1000000 _ limits.small_weights

  pub small_capacity : (row : ℕ) → slice_index k.capacities row ≤ 1000000000
  small_capacity row = small_at k.capacities 1000000000 _ limits.small_capacities

  pub small_sum :
      (n : ℕ) (s : Solution) (amount : ℕ → ℕ) → n ≤ k.items → ((i : ℕ) → amount i ≤ 1000000) → sum_of_chosen n s amount ≤ 256000000
  small_sum n s amount within small =
      let sum = sum_of_chosen-le n 1000000 s amount small in
      let few = limits.few_items in
      omega arith

  -- a feasible choice loads no row beyond its capacity
  pub load_within : (s : Solution) → feasible k s ≡ true → (row : ℕ) → row < 8 → load k s row ≤ slice_index k.capacities row
  load_within s holds row at =
      let was = feasible-parts k s holds in
      leb-true _ _ (list_all-range_at (λ row. nat_le (load k s row) (slice_index k.capacities row)) 8 row (fits-eight s ∙ was.within) at)

module _ (k : Instance) (t : Tally) (limits : IsWithinLimits k) (tally : IsTally k t) (i : ℕ) (below : i < k.items) where
  item_within : i / 64 < length t.sol.words
  item_within = within t.sol i k.items tally.stored below limits.few_items

  load-put : chosen t.sol i ≡ false → (row : ℕ) → load k (with_item t.sol i true) row ≡ load k t.sol row + weight k row i
  load-put free row = sum_of_chosen-put k.items t.sol i (weight k row) below item_within free

  load-take : chosen t.sol i ≡ true → (row : ℕ) → load k (with_item t.sol i false) row + weight k row i ≡ load k t.sol row
  load-take taken row = sum_of_chosen-take k.items t.sol i (weight k row) below item_within taken

  -- a choice with an item changed is feasible where it fits
  feasible-with_item : (on : Bool) → feasible k (with_item t.sol i on) ≡ fits k (with_item t.sol i on)
  unfolding no_other_bit
  feasible-with_item on =
      let was = feasible-parts k t.sol tally.feasible in
      feasible-fits k (with_item t.sol i on) was.long (no_other_bit-with_item 32 k.items t.sol i on item_within below was.clean)

  -- it stays feasible without an item
  pub feasible-take : chosen t.sol i ≡ true → feasible k (with_item t.sol i false) ≡ true
  feasible-take taken =
      feasible-with_item false
      ∙ (sym (fits-eight k limits (with_item t.sol i false))
      ∙ list_all-range (λ row. nat_le (load k (with_item t.sol i false) row) (slice_index k.capacities row)) 8
      (λ row at.
      let is = tally.rooms row at in
      let less = load-take taken row in
      le-leb (load k (with_item t.sol i false) row) (slice_index k.capacities row) (omega arith)))

module _ (k : Instance) (t : Tally) (limits : IsWithinLimits k) (tally : IsTally k t) (i : ℕ) (below : i < k.items) (a : Amounts) (item : IsItem k i a) where
  -- the sums of a tally are small, so that one more amount fits a word
  pub values_fit : (row : ℕ) → row < 4 → slice_index t.values row + slice_index a.profits row < 2 ^ 32
  values_fit row at =
      let amount = small_profit k limits row i in
      let sum = small_sum k limits k.items t.sol (profit k row) (omega arith) (small_profit k limits row) in
      let is = tally.values row at in
      let has = item.profits row at in
      omega arith

  pub rooms_fit : (row : ℕ) → row < 8 → slice_index t.rooms row + slice_index a.weights row < 2 ^ 32
  rooms_fit row at =
      let amount = small_weight k limits row i in
      let capacity = small_capacity k limits row in
      let is = tally.rooms row at in
      let has = item.weights row at in
      omega arith

  -- the sums when item i is put in
  pub value-put :
      chosen t.sol i ≡ false → (row : ℕ) → row < 4
      → sum_of_chosen k.items (with_item t.sol i true) (profit k row) ≡ slice_index t.values row + slice_index a.profits row
  value-put free row at =
      omega (arith, sum_of_chosen-put k.items t.sol i (profit k row) below (item_within k t limits tally i below) free, tally.values row at, item.profits row at)

  -- the sums when item i is taken out
  pub value-take :
      chosen t.sol i ≡ true → (row : ℕ) → row < 4
      → sum_of_chosen k.items (with_item t.sol i false) (profit k row) + slice_index a.profits row ≡ slice_index t.values row
  value-take taken row at =
      omega (arith, sum_of_chosen-take k.items t.sol i (profit k row) below (item_within k t limits tally i below) taken, tally.values row at, item.profits row at)

  pub feasible-put :
      chosen t.sol i ≡ false
      → list_all (λ row. nat_le (slice_index a.weights row) (slice_index t.rooms row)) (range_with_len 0 8) ≡ feasible k (with_item t.sol i true)
  feasible-put free =
      let loaded = λ (row : ℕ). load k (with_item t.sol i true) row in
      list_all-range_same (λ row. nat_le (slice_index a.weights row) (slice_index t.rooms row)) (λ row. nat_le (loaded row) (slice_index k.capacities row)) 8
      (λ row at.
      let is = tally.rooms row at in
      let has = item.weights row at in
      let more = load-put k t limits tally i below free row in
      same_test (slice_index a.weights row) (slice_index t.rooms row) (loaded row) (slice_index k.capacities row) (omega arith))
      ∙ (fits-eight k limits (with_item t.sol i true) ∙ sym (feasible-with_item k t limits tally i below true))

  pub weights_within :
      chosen t.sol i ≡ false → feasible k (with_item t.sol i true) ≡ true
      → (row : ℕ) → row < 8 → slice_index a.weights row ≤ slice_index t.rooms row
  weights_within free holds row at =
      leb-true _ _ (list_all-range_at (λ row. nat_le (slice_index a.weights row) (slice_index t.rooms row)) 8 row (feasible-put free ∙ holds) at)

  -- the tally after item i is put in, or taken out
  pub IsTally-put :
      (now : Tally) → chosen t.sol i ≡ false → feasible k (with_item t.sol i true) ≡ true → now.sol ≡ with_item t.sol i true
      → ((row : ℕ) → row < 4 → slice_index now.values row ≡ slice_index t.values row + slice_index a.profits row)
      → ((row : ℕ) → row < 8 → slice_index now.rooms row + slice_index a.weights row ≡ slice_index t.rooms row)
      → IsTally k now
  IsTally-put now free holds sol values rooms =
      record {
        stored = ap (λ (s : Solution). length s.words) sol ∙ (length-set _ _ _ ∙ tally.stored);
        feasible = ap (λ s. feasible k s) sol ∙ holds;
        values = λ row at. values row at ∙ (sym (value-put free row at) ∙ ap (λ s. sum_of_chosen k.items s (profit k row)) (sym sol));
        rooms = λ row at.
            let is = tally.rooms row at in
            let has = item.weights row at in
            let change = rooms row at in
            let loaded : load k now.sol row ≡ load k t.sol row + weight k row i = ap (λ s. load k s row) sol ∙ load-put k t limits tally i below free row in
            omega arith;
      }

  pub IsTally-take :
      (now : Tally) → chosen t.sol i ≡ true → now.sol ≡ with_item t.sol i false
      → ((row : ℕ) → row < 4 → slice_index now.values row + slice_index a.profits row ≡ slice_index t.values row)
      → ((row : ℕ) → row < 8 → slice_index now.rooms row ≡ slice_index t.rooms row + slice_index a.weights row)
      → IsTally k now
  IsTally-take now taken sol values rooms =
      record {
        stored = ap (λ (s : Solution). length s.words) sol ∙ (length-set _ _ _ ∙ tally.stored);
        feasible = ap (λ s. feasible k s) sol ∙ feasible-take k t limits tally i below taken;
        values = λ row at.
            add_right_cancel _ _ (slice_index a.profits row) (values row at ∙ sym (value-take taken row at))
            ∙ ap (λ s. sum_of_chosen k.items s (profit k row)) (sym sol);
        rooms = λ row at.
            let is = tally.rooms row at in
            let has = item.weights row at in
            let change = rooms row at in
            let loaded : load k now.sol row + weight k row i ≡ load k t.sol row =
            ap (λ s. load k s row + weight k row i) sol ∙ load-take k t limits tally i below taken row in
            omega arith;
      }

-- the word test of a choice, where as many bits as a word has are free, or fewer
pub word-full : (word bits : ℕ) → word < 2 ^ 64 → 64 ≤ bits → nat_le 64 bits ≡ nat_lt word (2 ^ bits)
word-full word bits small full =
    let more : 2 ^ 64 ≤ 2 ^ bits = pow-le-pow_right (omega arith) full in
    le-leb 64 bits full ∙ sym (lt-ltb word (2 ^ bits) (omega arith))

pub word-part : (word bits : ℕ) → bits < 64 → nat_lt word (1 * 2 ^ bits % 2 ^ 64) ≡ nat_lt word (2 ^ bits)
word-part word bits part =
    let less : 2 ^ bits < 2 ^ 64 = pow-lt part in
    ap (λ m. nat_lt word m) (omega arith)

-- the value of a choice whose sums are known
pub value-from_sums :
    (k : Instance) (s : Solution) (sums : List ℕ)
    → ((row : ℕ) → row < k.objectives → slice_index sums row ≡ sum_of_chosen k.items s (profit k row))
    → map (λ row. pos (slice_index sums row)) (range_with_len 0 k.objectives) ≡ value k s
unfolding value
value-from_sums k s sums is = map-range_same _ _ k.objectives (λ row at. ap (λ x. pos x) (is row at))

-- a choice as a point, where it is feasible, and where it is not
pub point_if-feasible : (k : Instance) (q : Solution) → feasible k q ≡ true → Some (point k q) ≡ point_if_feasible k q
point_if-feasible k q holds = ap (λ b. if b then Some (point k q) else None) (sym holds)

pub point_if-infeasible : (k : Instance) (q : Solution) → feasible k q ≡ false → None ≡ point_if_feasible k q
point_if-infeasible k q fails = ap (λ b. if b then Some (point k q) else None) (sym fails)

-- the value of a choice that was made, from known sums
pub value-made :
    (k : Instance) (q made : Solution) (v : List ℤ) (sums : List ℕ) → made ≡ q
    → v ≡ map (λ row. pos (slice_index sums row)) (range_with_len 0 k.objectives)
    → ((row : ℕ) → row < k.objectives → slice_index sums row ≡ sum_of_chosen k.items q (profit k row))
    → v ≡ value k made
value-made k q made v sums same parts is = parts ∙ (value-from_sums k q sums is ∙ ap (λ s. value k s) (sym same))

-- an item of the instance is one of a tally's choice
pub tally-item : (k : Instance) (t : Tally) (i : ℕ) → IsTally k t → i < k.items → i < t.sol.len
tally-item k t i tally below = let was = feasible-parts k t.sol tally.feasible in omega arith
