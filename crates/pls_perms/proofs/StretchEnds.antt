-- The ends of the stretch that a walk of a tour reverses, and the edges there.
use Rattle.std.proofs.Common.{◌≡◌, ◌≢◌, ℕ, ◌+◌, ◌-◌, ◌^◌, ◌<◌, ◌≤◌, slice_index, arith}
use Rattle.pls_perms.specs.declared.tour.walk.TourWalk.{TourWalk}
use Rattle.pls_perms.specs.Tour.{TourInstance, edge_between, tour_length}
use Rattle.pls_perms.specs.TourWalk.{IsWalkOf, current}
use Rattle.pls_perms.proofs.TourValues.{small_between, small_length}
use Rattle.pls_perms.proofs.TourWalks.{city-within, cities-apart, cities-apart_after, length-current}

module _ (k : TourInstance) (w : TourWalk) where
  -- the cities before and at the beginning of the stretch, at its end and after it
  abbrev pub before : ℕ
  before = slice_index w.cities (w.walk.pair.first - 1)

  abbrev pub begin : ℕ
  begin = slice_index w.cities w.walk.pair.first

  abbrev pub last : ℕ
  last = slice_index w.cities w.walk.pair.second

  abbrev pub after : ℕ
  after = slice_index w.cities (w.walk.pair.second + 1)

  -- they stand in the list of cities, are cities, and those that an edge joins are apart
  pub record HasEnds : Type 0 where
    pub begins : 1 ≤ w.walk.pair.first
    pub first_place : w.walk.pair.first < 257
    pub after_place : w.walk.pair.second + 1 < 257
    pub before_in : before < k.cities
    pub begin_in : begin < k.cities
    pub last_in : last < k.cities
    pub after_in : after < k.cities
    pub before_last : before ≢ last
    pub begin_after : begin ≢ after
    pub before_begin : before ≢ begin
    pub last_after : last ≢ after

  module _ (of : IsWalkOf k w) where
    module _ (few : k.cities ≤ 256) (from : 1 ≤ w.walk.pair.first) (ordered : w.walk.pair.first ≤ w.walk.pair.second) (below : w.walk.pair.second < k.cities) where
      ends : HasEnds
      ends = record {
        begins = from;
        first_place = omega arith;
        after_place = omega arith;
        before_in = city-within k w of (w.walk.pair.first - 1) (omega arith);
        begin_in = city-within k w of w.walk.pair.first (omega arith);
        last_in = city-within k w of w.walk.pair.second (omega arith);
        after_in = city-within k w of (w.walk.pair.second + 1) (omega arith);
        before_last = cities-apart k w of (w.walk.pair.first - 1) w.walk.pair.second (omega arith) below;
        begin_after = cities-apart_after k w of w.walk.pair.first w.walk.pair.second from (omega arith) below;
        before_begin = cities-apart k w of (w.walk.pair.first - 1) w.walk.pair.first (omega arith) (omega arith);
        last_after = cities-apart_after k w of w.walk.pair.second w.walk.pair.second (omega arith) (omega arith) below;
      }

    pub has_ends : HasEnds
    has_ends = ends of.limits.few_cities of.pair.from of.pair.ordered of.pair.below

    -- the length in a list, of which two edges go and two come: nothing overflows, what goes is there, and the rest is the new length
    pub record Changes (list sum come_a come_b go_a go_b : ℕ) : Type 0 where
      pub fits : sum + (come_a + come_b) < 2 ^ 32
      pub kept : go_a + go_b ≤ sum + (come_a + come_b)
      pub total : tour_length k (current w) list + (go_a + go_b) ≡ sum + (come_a + come_b)

    pub changes :
        (list : ℕ) → list < 4 → (sum come_a come_b go_a go_b : ℕ) → sum ≡ slice_index w.walk.sums list
        → come_a ≡ edge_between k list before last → come_b ≡ edge_between k list begin after
        → go_a ≡ edge_between k list before begin → go_b ≡ edge_between k list last after
        → Changes list sum come_a come_b go_a go_b
    changes list at sum come_a come_b go_a go_b sum_is a b c d =
        let few = small_length k of.limits w.walk.start list in
        let sums = of.sums list at in
        let few_a = small_between k of.limits list before last in
        let few_b = small_between k of.limits list begin after in
        let change = length-current k w of list at in
        record { fits = omega arith; kept = omega arith; total = omega arith }
