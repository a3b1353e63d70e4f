-- A seat of a pool of deques, after each step.
use Rattle.std.proofs.Common.{◌≡◌, ◌≢◌, ℕ, zero, suc, ◌+◌, ◌*◌, ◌^◌, ◌<◌, ◌≤◌, ◌⊎◌, ⊎_elim, inl, inr, min, true, Option, Some, None, List, [], ◌∷◌, ◌++◌, length, map, set, sum_by, count_by, refl, sym, ap, subst, ◌∙◌, length-append, arith}
use Rattle.std.proofs.lemmas.List.{map-set, length-set, length-map}
use Rattle.std.proofs.lemmas.List.Sums.{sum_by-cons}
use Rattle.std.specs.Prelude.{vec_len, Result, Ok, Err, MatchOption, MatchResult, OnOk}
use Rattle.atomic_table.proofs.Lists.{at_set, at_map, at_longer, at_last, set_again}
use Rattle.pls_pool.specs.Accounts.{In, Apart, HoldsAll, IsAmong, Puts, Takes, FindsNone, Joins}
use Rattle.pls_pool.specs.Hands.{putting, taking_spare, own_hand, account_at, put_by, taken_by}
use Rattle.pls_pool.specs.TaskRule.{IsWhole, TookPut, Learns}
use Rattle.pls_pool.specs.Reaches.{Thief, hand_at, IsReach, StaysReach, IsFullAt, TookOne, PutsTogether}
use Rattle.pls_pool.specs.StealSeats.{hands_of, own_at, account_of, IsReachOf, owned, Holds, IsSeatWith, IsStealSeatOf, HasRoom, IsSame, IsBareAt, AreJoined, AreAllJoined, MayJoin}
use Rattle.pls_pool.specs.declared.hand.Hand.{Hand}
use Rattle.pls_pool.specs.declared.stealing.Stealing.{Stealing}
use Rattle.pls_pool.specs.declared.stealing.Reach.{Reach}
use Rattle.pls_pool.specs.declared.stealing.StealSeat.{StealSeat}
use Rattle.pls_pool.specs.declared.stealing.Reach.TheVariants.{Own, Guests}
use Rattle.pls_pool.proofs.Sums.{sum_here, sum_same, sum_le}
use Rattle.pls_pool.proofs.AccountMoves.{own_is, own_set, own_same, put_in, put_beside, took, took_spare, found_none, joined}
use Rattle.pls_pool.proofs.TaskMoves.{count_cons, no_length}
use mathlib.Core.Option.{some, some-injective, some-ne-none}
use lib.ListN.{get_elem?}

pub at_unmap : {A B : Type 0} (f : A → B) (xs : List A) (i : ℕ) (b : B) → get_elem? (map f xs) i ≡ some b → (a : A) × (get_elem? xs i ≡ some a) × (f a ≡ b)
at_unmap f [] i b there = absurd (some-ne-none b (sym there))
at_unmap f (x ∷ xs) zero b there = (x, (λ k. some x), some-injective (f x) b there)
at_unmap f (x ∷ xs) (suc i) b there = at_unmap f xs i b there

pub there_is : {A : Type 0} (xs : List A) (i : ℕ) → i < length xs → (a : A) × (get_elem? xs i ≡ some a)
there_is [] i low = absurd (omega arith)
there_is (x ∷ xs) zero low = (x, λ k. some x)
there_is (x ∷ xs) (suc i) low = there_is xs i (omega arith)

pub below : {A : Type 0} (xs : List A) (i : ℕ) (a : A) → get_elem? xs i ≡ some a → i < length xs
below [] i a there = absurd (some-ne-none a (sym there))
below (x ∷ xs) zero a there = omega arith
below (x ∷ xs) (suc i) a there = let low = below xs i a there in omega arith

-- where each has at most one and all together have as many as there are, each has one
few_sum : {A : Type 0} (f : A → ℕ) → ((a : A) → f a ≤ 1) → (xs : List A) → sum_by f xs ≤ length xs
few_sum f few [] = omega arith
few_sum f few (x ∷ xs) = let a = few x in let b = few_sum f few xs in omega (arith, sum_by-cons f x xs)

full_sum : {A : Type 0} (f : A → ℕ) → ((a : A) → f a ≤ 1) → (xs : List A) → sum_by f xs ≡ length xs → (i : ℕ) (a : A) → get_elem? xs i ≡ some a → f a ≡ 1
full_sum f few [] all i a there = absurd (some-ne-none a (sym there))
full_sum f few (x ∷ xs) all zero a there = ap f (sym (some-injective x a there)) ∙ (let b = few x in let c = few_sum f few xs in omega (arith, sum_by-cons f x xs))
full_sum f few (x ∷ xs) all (suc i) a there = full_sum f few xs (let b = few x in let c = few_sum f few xs in omega (arith, sum_by-cons f x xs)) i a there

sum_equal : {A : Type 0} (f g : A → ℕ) (xs : List A) → ((i : ℕ) (a : A) → get_elem? xs i ≡ some a → f a ≡ g a) → sum_by f xs ≡ sum_by g xs
sum_equal f g [] each = refl
sum_equal f g (x ∷ xs) each =
    let here = each zero x (λ k. some x) in
    let rest = sum_equal f g xs (λ i a there. each (suc i) a there) in omega (arith, sum_by-cons f x xs, sum_by-cons g x xs)

pub count_all : {T : Type 0} (xs : List T) → count_by (λ x. true) xs ≡ length xs
count_all [] = refl
count_all (x ∷ xs) = let rest = count_all xs in omega (arith, count_cons (λ x. true) x xs)

pub lt_or_le : (m n : ℕ) → (m < n) ⊎ (n ≤ m)
lt_or_le zero zero = inr (omega arith)
lt_or_le zero (suc n) = inl (omega arith)
lt_or_le (suc m) zero = inr (omega arith)
lt_or_le (suc m) (suc n) = ⊎_elim (λ low. inl (omega arith)) (λ high. inr (omega arith)) (lt_or_le m n)

le_or_lt : (m n : ℕ) → (m ≤ n) ⊎ (n < m)
le_or_lt m n = ⊎_elim (λ less. inr less) (λ most. inl most) (lt_or_le n m)

in_left : (k : ℕ) (ms ns : List ℕ) → In k ms → In k (ms ++ ns)
in_left k [] ns none = absurd none
in_left k (m ∷ ms) ns found = ⊎_elim (λ here. inl here) (λ rest. inr (in_left k ms ns rest)) found

in_right : (k : ℕ) (ms ns : List ℕ) → In k ns → In k (ms ++ ns)
in_right k [] ns found = found
in_right k (m ∷ ms) ns found = inr (in_right k ms ns found)

module _ {T : Type 0} where
  pub reach_after : (q : Stealing T) (j : ℕ) (r r' : Reach T) (stealer : Thief T) → get_elem? q.stealers.items j ≡ some stealer → IsReachOf q j r → ((seats room : ℕ) → IsReach seats room stealer r → IsReach seats room stealer r') → IsReachOf q j r'
  reach_after q j r r' stealer at reach step other there =
      subst (λ s. IsReach (vec_len q.stealers) q.room s r') (some-injective stealer other (sym at ∙ there)) (step (vec_len q.stealers) q.room (reach stealer at))

  pub reach_stays : (q : Stealing T) (j : ℕ) (r r' : Reach T) → StaysReach r r' → IsReachOf q j r → IsReachOf q j r'
  reach_stays q j r r' step reach stealer there = step (vec_len q.stealers) q.room stealer (reach stealer there)

  -- a hand changes, and neither its numbers nor its seats
  holds_set : (numbers : List ℕ) (hands : List (Hand T)) (j : ℕ) (v w : Hand T) → Holds numbers hands → get_elem? hands j ≡ some v → w.numbers ≡ v.numbers → w.seats ≡ v.seats → Holds numbers (set hands j w)
  holds_set numbers hands j v w holds at same same_seats = record {
    count = sum_same owned hands j v w at (ap (λ n. min n 1) same_seats) ∙ holds.count;
    workers = λ i u there some_seats.
        ⊎_elim
        (λ mine. holds.workers i v (subst (λ (k : ℕ). get_elem? hands k ≡ some v) (sym mine.0) at) (let a = ap (λ (h : Hand T). h.seats) mine.1 in let b = same_seats in omega arith))
        (λ other. holds.workers i u other.1 some_seats)
        (at_set hands j i w u there);
    passes = λ i u there none.
        ⊎_elim
        (λ mine. ap (λ h. h.numbers) (sym mine.1) ∙ same ∙ holds.passes j v at (let a = ap (λ (h : Hand T). h.seats) mine.1 in let b = same_seats in omega arith))
        (λ other. holds.passes i u other.1 none)
        (at_set hands j i w u there);
    as_many = λ i u there.
        ⊎_elim
        (λ mine. ap (λ h. length h.numbers) (sym mine.1) ∙ ap length same ∙ holds.as_many j v at)
        (λ other. holds.as_many i u other.1)
        (at_set hands j i w u there);
  }

  module _ (q : Stealing T) (number : ℕ) (rs : List (Reach T)) (spare : List T) (seat : IsSeatWith q number rs spare) where
    own_there : (r : Reach T) → get_elem? rs number ≡ some r → own_at number rs ≡ hand_at r
    own_there r at = own_is number (map hand_at rs) (hand_at r) (at_map hand_at rs number r at)

    pub own_works : (r : Reach T) → get_elem? rs number ≡ some r → (0 < (hand_at r).seats) × (0 < length (hand_at r).numbers)
    own_works r at =
        let own = own_there r at in (
          (let a = seat.own in let b = seat.placed in let c = ap (λ (h : Hand T). h.seats) own in omega arith),
          subst (λ (h : Hand T). 0 < length h.numbers) own seat.some_seat,
        )

    -- what the seat has at one deque changes, and not the numbers that it holds
    module _ (j : ℕ) (r r' : Reach T) (at : get_elem? rs j ≡ some r) (same : (hand_at r').numbers ≡ (hand_at r).numbers) (same_seats : (hand_at r').seats ≡ (hand_at r).seats) where
      hands_set : map hand_at (set rs j r') ≡ set (map hand_at rs) j (hand_at r')
      hands_set = map-set hand_at rs j r'

      pub own_field : {A : Type 0} (f : Hand T → A) → f (hand_at r') ≡ f (hand_at r) → f (own_at number (set rs j r')) ≡ f (own_at number rs)
      own_field f still = ap (λ hands. f (own_hand number hands)) hands_set ∙ own_same f number (map hand_at rs) j (hand_at r) (hand_at r') (at_map hand_at rs j r at) still

      pub changes : (more : List T) → IsReachOf q j r'
          → length more ≤ length (own_at number rs).numbers * 2 ^ 57
          → (vec_len q.stealers ≡ 1 → length (own_at number (set rs j r')).taken ≤ length (own_at number (set rs j r')).put)
          → (length (own_at number rs).numbers ≡ 1 → length (own_at number (set rs j r')).put < q.room → (more ≡ []) × ((own_at number (set rs j r')).from_spare ≡ []))
          → IsSeatWith q number (set rs j r') more
      changes more reach few ahead roomy =
          let numbers = own_field (λ h. h.numbers) same in
          let count = ap length numbers in record {
            count = length-set rs j r' ∙ seat.count;
            placed = seat.placed;
            each = λ i s there. ⊎_elim (λ mine. subst (λ (x : ℕ × Reach T). IsReachOf q x.0 x.1) (λ k. (sym mine.0 k, mine.1 k)) reach) (λ other. seat.each i s other.1) (at_set rs j i r' s there);
            own = own_field (λ h. h.seats) same_seats ∙ seat.own;
            holds =
                subst (λ (x : List ℕ × List (Hand T)). Holds x.0 x.1) (λ k. (sym numbers k, sym hands_set k))
                (holds_set (own_at number rs).numbers (map hand_at rs) j (hand_at r) (hand_at r') seat.holds (at_map hand_at rs j r at) same same_seats);
            some_seat = (let a = seat.some_seat in omega arith);
            held = (let a = seat.held in omega arith);
            ahead = ahead;
            few_spare = subst (λ (n : ℕ). length more ≤ n * 2 ^ 57) (sym count) few;
            roomy = λ one low. roomy (sym count ∙ one) low;
          }

    -- the seat is the only one of its pool
    only_one : vec_len q.stealers ≡ 1 → (j : ℕ) (r : Reach T) → get_elem? rs j ≡ some r → (j ≡ number) × ((hand_at r).seats ≡ 1)
    only_one one j r at =
        let low = below rs j r at in
        let same : j ≡ number = (let a = seat.count in let b = seat.placed in omega arith) in (
          same,
          ap (λ (h : Hand T). h.seats) (sym (own_is number (map hand_at rs) (hand_at r) (subst (λ (k : ℕ). get_elem? (map hand_at rs) k ≡ some (hand_at r)) same (at_map hand_at rs j r at)))) ∙ seat.own ∙ one,
        )

    module _ (j : ℕ) (r r' : Reach T) (at : get_elem? rs j ≡ some r) (reach : IsReachOf q j r') where
      hands_new : map hand_at (set rs j r') ≡ set (map hand_at rs) j (hand_at r')
      hands_new = map-set hand_at rs j r'

      -- the hand stays
      pub stays : hand_at r' ≡ hand_at r → IsSeatWith q number (set rs j r') spare × (map hand_at (set rs j r') ≡ map hand_at rs)
      stays same =
          let own : own_at number (set rs j r') ≡ own_at number rs = own_field j r r' at (ap (λ h. h.numbers) same) (ap (λ h. h.seats) same) (λ h. h) same in (
            changes j r r' at (ap (λ h. h.numbers) same) (ap (λ h. h.seats) same) spare reach seat.few_spare
                (λ one. subst (λ (h : Hand T). length h.taken ≤ length h.put) (sym own) (seat.ahead one))
                (λ one low. subst (λ (h : Hand T). (spare ≡ []) × (h.from_spare ≡ [])) (sym own) (seat.roomy one (subst (λ (h : Hand T). length h.put < q.room) own low))),
            hands_new ∙ ap (λ h. set (map hand_at rs) j h) same ∙ set_again (map hand_at rs) j (hand_at r) (at_map hand_at rs j r at),
          )

      pub takes_one : (x : T) → TookOne x (hand_at r) (hand_at r')
          → IsSeatWith q number (set rs j r') spare × Takes (vec_len q.stealers) x (account_at number (map hand_at rs) spare) (account_at number (map hand_at (set rs j r')) spare)
      takes_one x took_it =
          let v = hand_at r in
          let w = hand_at r' in
          let here = at_map hand_at rs j r at in
          let put : length (own_at number (set rs j r')).put ≡ length (own_at number rs).put =
          sym (count_all (own_at number (set rs j r')).put) ∙ own_field j r r' at took_it.same_numbers took_it.same_seats (λ h. count_by (λ x. true) h.put) (took_it.put (λ x. true)) ∙ count_all (own_at number rs).put in
          let from_spare : length (own_at number (set rs j r')).from_spare ≡ length (own_at number rs).from_spare =
          sym (count_all (own_at number (set rs j r')).from_spare) ∙ own_field j r r' at took_it.same_numbers took_it.same_seats (λ h. count_by (λ x. true) h.from_spare) (took_it.from_spare (λ x. true))
          ∙ count_all (own_at number rs).from_spare in (
            changes j r r' at took_it.same_numbers took_it.same_seats spare reach seat.few_spare
                (λ one.
                let alone = only_one one j r at in
                let own : own_at number (set rs j r') ≡ w =
                ap (own_hand number) hands_new ∙ ap (λ k. own_hand number (set (map hand_at rs) k w)) alone.0 ∙ own_set number (map hand_at rs) v w (subst (λ (k : ℕ). get_elem? (map hand_at rs) k ≡ some v) alone.0 here) in
                subst (λ (h : Hand T). length h.taken ≤ length h.put) (sym own) (took_it.ahead alone.1))
                (λ one low.
                let was = seat.roomy one (let a = put in omega arith) in (was.0, no_length (own_at number (set rs j r')).from_spare (from_spare ∙ ap length was.1))),
            subst (λ hands. Takes (vec_len q.stealers) x (account_at number (map hand_at rs) spare) (account_at number hands spare)) (sym hands_new)
                (took (vec_len q.stealers) number (map hand_at rs) spare j v w x here took_it (λ one. only_one one j r at)),
          )

      -- what a seat that looks at a deque answers
      pub takes_or_none : (o : Option T) → MatchOption o ((hand_at r' ≡ hand_at r) × Learns (hand_at r) []) (λ x. TookOne x (hand_at r) (hand_at r'))
          → IsSeatWith q number (set rs j r') spare
          × MatchOption o (((number ≡ number) × (map hand_at (set rs j r') ≡ map hand_at rs) × (spare ≡ spare)) × ((v : Hand T) → get_elem? (map hand_at (set rs j r')) j ≡ some v → Learns v []))
          (λ x. Takes (vec_len q.stealers) x (account_at number (map hand_at rs) spare) (account_at number (map hand_at (set rs j r')) spare))
      takes_or_none None found =
          let still = stays found.0 in (
            still.0,
            ((refl, still.1, refl), λ v there. subst (λ h. Learns h []) (some-injective (hand_at r) v (sym (at_map hand_at rs j r at) ∙ sym (ap (λ hands. get_elem? hands j) still.1) ∙ there)) found.1),
          )
      takes_or_none (Some x) found = takes_one x found

    -- the seat takes a spare task, or puts one, and notes it at its own deque
    module _ (r r' : Reach T) (at : get_elem? rs number ≡ some r) (reach : IsReachOf q number r') where
      own_was : own_at number rs ≡ hand_at r
      own_was = own_is number (map hand_at rs) (hand_at r) (at_map hand_at rs number r at)

      pub takes_spare : (x : T) (rest : List T) → spare ≡ x ∷ rest → Learns (hand_at r) [] → hand_at r' ≡ taking_spare x (hand_at r)
          → IsSeatWith q number (set rs number r') rest × Takes (vec_len q.stealers) x (account_at number (map hand_at rs) spare) (account_at number (map hand_at (set rs number r')) rest)
      takes_spare x rest front told is =
          let v = hand_at r in
          let numbers = ap (λ h. h.numbers) is in
          let seats = ap (λ h. h.seats) is in
          let put = own_field number r r' at numbers seats (λ h. h.put) (ap (λ h. h.put) is) in
          let taken = own_field number r r' at numbers seats (λ h. h.taken) (ap (λ h. h.taken) is) in
          let len = ap length front in (
            changes number r r' at numbers seats rest reach (let a = seat.few_spare in omega arith) (λ one. let a = seat.ahead one in let b = ap length put in let c = ap length taken in omega arith)
                (λ one low. absurd (let was = seat.roomy one (let a = ap length put in omega arith) in let none = ap length was.0 in omega arith)),
            subst (λ hands. Takes (vec_len q.stealers) x (account_at number (map hand_at rs) spare) (account_at number hands rest)) (ap (λ h. set (map hand_at rs) number h) (sym is) ∙ sym (map-set hand_at rs number r'))
                (took_spare (vec_len q.stealers) number (map hand_at rs) spare v x rest (at_map hand_at rs number r at) front (λ one. told.in_order ((only_one one number r at).1))),
          )

      pub puts_in : (x : T) → spare ≡ [] → hand_at r' ≡ putting (x ∷ []) (hand_at r)
          → IsSeatWith q number (set rs number r') spare × Puts (vec_len q.stealers) x (account_at number (map hand_at rs) spare) (account_at number (map hand_at (set rs number r')) spare)
      puts_in x bare is =
          let v = hand_at r in
          let numbers = ap (λ h. h.numbers) is in
          let seats = ap (λ h. h.seats) is in
          let put : length (own_at number (set rs number r')).put ≡ length (own_at number rs).put + 1 =
          ap (λ h. length h.put) (ap (own_hand number) (map-set hand_at rs number r') ∙ own_set number (map hand_at rs) v (hand_at r') (at_map hand_at rs number r at) ∙ is) ∙ length-append v.put (x ∷ []) ∙ ap (λ h. length h.put + 1) (sym own_was) in
          let taken = own_field number r r' at numbers seats (λ h. h.taken) (ap (λ h. h.taken) is) in
          let from_spare = own_field number r r' at numbers seats (λ h. h.from_spare) (ap (λ h. h.from_spare) is) in (
            changes number r r' at numbers seats spare reach seat.few_spare (λ one. let a = seat.ahead one in let b = put in let c = ap length taken in omega arith)
                (λ one low. (bare, from_spare ∙ (seat.roomy one (let a = put in omega arith)).1)),
            subst (λ hands. Puts (vec_len q.stealers) x (account_at number (map hand_at rs) spare) (account_at number hands spare)) (ap (λ h. set (map hand_at rs) number h) (sym is) ∙ sym (map-set hand_at rs number r'))
                (put_in (vec_len q.stealers) number (map hand_at rs) spare v x (at_map hand_at rs number r at) bare (λ one. subst (λ (h : Hand T). length h.taken ≤ length h.put) own_was (seat.ahead one))),
          )

    -- a task goes into the spare list, where that has tasks or the deque has no room
    pub puts_beside : (x : T) (more : List T) → more ≡ spare ++ x ∷ [] → length spare < 2 ^ 57 → (length (own_at number rs).numbers ≡ 1 → q.room ≤ length (own_at number rs).put)
        → IsSeatWith q number rs more × Puts (vec_len q.stealers) x (account_at number (map hand_at rs) spare) (account_at number (map hand_at rs) more)
    puts_beside x more is few full = (
      record {
        count = seat.count;
        placed = seat.placed;
        each = seat.each;
        own = seat.own;
        holds = seat.holds;
        some_seat = seat.some_seat;
        held = seat.held;
        ahead = seat.ahead;
        few_spare = (let a = seat.some_seat in let b = ap length is in omega (arith, length-append spare (x ∷ [])));
        roomy = λ one low. absurd (let a = full one in omega arith);
      },
      subst (λ l. Puts (vec_len q.stealers) x (account_at number (map hand_at rs) spare) (account_at number (map hand_at rs) l)) (sym is) (put_beside (vec_len q.stealers) number (map hand_at rs) spare x),
    )

    pub full_already : 0 < length spare → length (own_at number rs).numbers ≡ 1 → q.room ≤ length (own_at number rs).put
    full_already spares one = ⊎_elim (λ low. absurd (let none = ap length (seat.roomy one low).0 in omega arith)) (λ high. high) (lt_or_le (length (own_at number rs).put) q.room)

    -- its own deque took no more, since it has no room beyond what was put there
    pub full_now : (r : Reach T) → get_elem? rs number ≡ some r → IsFullAt (length (hand_at r).put) r → q.room ≤ length (own_at number rs).put
    full_now r at full =
        let stealer = there_is q.stealers.items number (let a = seat.placed in let b = q.stealers.ok.0 in omega arith) in
        let most = full (vec_len q.stealers) q.room stealer.0 (seat.each number r at stealer.0 stealer.1) in
        let own = ap (λ (h : Hand T). length h.put) (own_there r at) in omega arith

    -- a seat that holds all has each worker, which holds all numbers
    module _ (all : length (own_at number rs).numbers ≡ vec_len q.stealers) where
      told_of : (seats room : ℕ) (stealer : Thief T) (r : Reach T) → IsReach seats room stealer r → 0 < (hand_at r).seats → ((hand_at r).seats ≡ seats) × (IsWhole (hand_at r) → TookPut (hand_at r))
      told_of seats room stealer (Own w) owner some_seats = (owner.seats_are, owner.among)
      told_of seats room stealer (Guests ps) guests some_seats = absurd (omega arith)

      each_told : (j : ℕ) (v : Hand T) → get_elem? (map hand_at rs) j ≡ some v → IsWhole v × TookPut v
      each_told j v there =
          let found = at_unmap hand_at rs j v there in
          let r = found.0 in
          let low : j < length q.stealers.items = (let a = below rs j r found.1 in let b = seat.count in let c = q.stealers.ok.0 in omega arith) in
          let stealer = there_is q.stealers.items j low in
          let reach = seat.each j r found.1 stealer.0 stealer.1 in
          let one : owned v ≡ 1 = full_sum owned (λ (u : Hand T). omega arith) (map hand_at rs) (seat.holds.count ∙ all ∙ sym seat.count ∙ sym (length-map rs hand_at)) j v there in
          let some_seats : 0 < (hand_at r).seats = (let a = ap (λ (h : Hand T). h.seats) found.2 in omega arith) in
          let told = told_of (vec_len q.stealers) q.room stealer.0 r reach some_seats in
          let whole : IsWhole (hand_at r) = ap (λ (h : Hand T). length h.numbers) found.2 ∙ seat.holds.as_many j v there ∙ all ∙ sym told.0 in
          subst (λ h. IsWhole h × TookPut h) found.2 (whole, told.1 whole)

    pub is_among : HoldsAll (vec_len q.stealers) (account_at number (map hand_at rs) spare) → IsAmong (account_at number (map hand_at rs) spare)
    is_among all p =
        let most : taken_by p (map hand_at rs) ≤ put_by p (map hand_at rs) = sum_le (λ (v : Hand T). count_by p v.taken) (λ (v : Hand T). count_by p v.put) (map hand_at rs) (λ j v there. (each_told all j v there).1 p) in omega arith

    pub finds_none : spare ≡ [] → ((j : ℕ) → j < vec_len q.stealers → (v : Hand T) → get_elem? (map hand_at rs) j ≡ some v → Learns v [])
        → FindsNone (vec_len q.stealers) (account_at number (map hand_at rs) spare) (account_at number (map hand_at rs) spare)
    finds_none bare empty =
        let low : number < length rs = (let a = seat.placed in let b = seat.count in omega arith) in
        let r = there_is rs number low in
        let here = at_map hand_at rs number r.0 r.1 in
        let own = hand_at r.0 in
        let own_seats : own.seats ≡ vec_len q.stealers = ap (λ h. h.seats) (sym (own_is number (map hand_at rs) own here)) ∙ seat.own in
        found_none (vec_len q.stealers) number (map hand_at rs) spare own here bare
        (λ all p.
        sum_equal (λ (v : Hand T). count_by p v.put) (λ (v : Hand T). count_by p v.taken) (map hand_at rs)
        (λ j v there.
        let found = at_unmap hand_at rs j v there in
        let learned = empty j (let a = below rs j found.0 found.1 in let b = seat.count in omega arith) v there in
        let whole = (each_told (ap (λ h. length h.numbers) (own_is number (map hand_at rs) own here) ∙ all) j v there).0 in
        let even = learned.balance whole p in omega arith))
        (λ one. (empty number seat.placed own here).in_order (own_seats ∙ one))

  -- what was seen of other deques stays true
  pub bare_on : (n : ℕ) (before after : List (Hand T)) → after ≡ before → ((v : Hand T) → get_elem? after n ≡ some v → Learns v [])
      → (j : ℕ) → (j < n → (v : Hand T) → get_elem? before j ≡ some v → Learns v []) → j < n + 1 → (v : Hand T) → get_elem? after j ≡ some v → Learns v []
  bare_on n before after same here j others low v there =
      ⊎_elim (λ less. others less v (sym (ap (λ hands. get_elem? hands j) same) ∙ there)) (λ last. here v (ap (get_elem? after) (let e : n ≡ j = omega arith in e) ∙ there)) (lt_or_le j n)

  -- a task that goes into the spare list, or comes back
  pub aside_answer : (q : Stealing T) (number : ℕ) (rs : List (Reach T)) (spare : List T) → IsSeatWith q number rs spare → {A : Type 0} (o : Result A T) (x : T) (more : List T)
      → MatchResult o (λ _. more ≡ spare ++ x ∷ []) (λ y. (y ≡ x) × (more ≡ spare)) → OnOk o (length spare < 2 ^ 57) → (length (own_at number rs).numbers ≡ 1 → q.room ≤ length (own_at number rs).put)
      → IsSeatWith q number rs more
      × MatchResult o (λ _. Puts (vec_len q.stealers) x (account_at number (map hand_at rs) spare) (account_at number (map hand_at rs) more)) (λ y. (y ≡ x) × (account_at number (map hand_at rs) more ≡ account_at number (map hand_at rs) spare))
  aside_answer q number rs spare seat (Ok u) x more found few full = puts_beside q number rs spare seat x more found few full
  aside_answer q number rs spare seat (Err y) x more found few full = (subst (λ l. IsSeatWith q number rs l) (sym found.1) seat, (found.0, ap (account_at number (map hand_at rs)) found.1))

  pub same_account : (s t : StealSeat T) → IsSame s t → account_of t ≡ account_of s
  same_account s t same i = account_at (same.0 i) (same.1 i) (same.2 i)

  -- a seat that looked at its own deque, at its spare tasks, and then at the others
  module _ (q : Stealing T) (s0 s1 s2 s3 s4 : StealSeat T) (one : IsSame s0 s1) (own : IsBareAt s0.number s1) (two : IsSame s1 s2) (no_spare : s2.spare ≡ []) (three : IsSame s2 s3)
      (above : (j : ℕ) → s0.number + 1 ≤ j → j < vec_len q.stealers → IsBareAt j s3) (seat : IsStealSeatOf q s4) where
    before : account_of s3 ≡ account_of s0
    before = same_account s2 s3 three ∙ same_account s1 s2 two ∙ same_account s0 s1 one

    pub last_answer : (o : Option T) → MatchOption o (IsSame s3 s4 × ((j : ℕ) → 0 ≤ j → j < s0.number → IsBareAt j s4)) (λ x. Takes (vec_len q.stealers) x (account_of s3) (account_of s4))
        → MatchOption o (FindsNone (vec_len q.stealers) (account_of s0) (account_of s4)) (λ x. Takes (vec_len q.stealers) x (account_of s0) (account_of s4))
    last_answer (Some x) takes = subst (λ a. Takes (vec_len q.stealers) x a (account_of s4)) before takes
    last_answer None (four, under) =
        let still : account_of s4 ≡ account_of s0 = same_account s3 s4 four ∙ before in
        subst (λ a. FindsNone (vec_len q.stealers) a (account_of s4)) still
        (finds_none q s4.number s4.reaches.items s4.spare seat (four.2 ∙ three.2 ∙ no_spare)
        (λ j high v there.
        ⊎_elim
        (λ less. under j (omega arith) less v there)
        (λ most.
        ⊎_elim
        (λ more. above j more high v (ap (λ hands. get_elem? hands j) (sym four.1) ∙ there))
        (λ less. own v (ap (λ hands. get_elem? hands s0.number) (sym (four.1 ∙ three.1 ∙ two.1)) ∙ ap (get_elem? (hands_of s4)) (let e : s0.number ≡ j = omega arith in e) ∙ there))
        (le_or_lt (s0.number + 1) j))
        (lt_or_le j s0.number)))

  -- a seat into which none was joined has put at least what its deque took
  pub room_left : (q : Stealing T) (s : StealSeat T) → IsStealSeatOf q s → HasRoom q s → length (own_at s.number s.reaches.items).put < q.room
  room_left q s seat has =
      let rs = s.reaches.items in
      let low : s.number < length rs = (let a = seat.placed in let b = seat.count in omega arith) in
      let r = there_is rs s.number low in
      let here = at_map hand_at rs s.number r.0 r.1 in
      let most = sum_here (λ (v : Hand T). count_by (λ x. true) v.put) (map hand_at rs) s.number (hand_at r.0) here in
      let all = count_all (hand_at r.0).put in
      let own = ap (λ h. length h.put) (own_is s.number (map hand_at rs) (hand_at r.0) here) in
      let few = has.1 in omega arith

  -- what two seats have is put together from the last deque to the first
  pub step_places : (rs ss mine theirs rest : List (Reach T)) (other r : Reach T) → theirs ≡ rest ++ other ∷ [] → get_elem? mine (length rest) ≡ some r
      → ((j : ℕ) (u : Reach T) → get_elem? theirs j ≡ some u → get_elem? ss j ≡ some u)
      → ((j : ℕ) (u : Reach T) → get_elem? mine j ≡ some u → j < length theirs → get_elem? rs j ≡ some u)
      → (get_elem? rs (length rest) ≡ some r) × (get_elem? ss (length rest) ≡ some other)
  step_places rs ss mine theirs rest other r split here left below_it = (
    below_it (length rest) r here (let count = ap length split in omega (arith, length-append rest (other ∷ []))),
    left (length rest) other (ap (λ l. get_elem? l (length rest)) split ∙ at_last rest other (length rest) refl),
  )

  pub joined_step : (rs ss mine theirs rest : List (Reach T)) (other r r' : Reach T) → theirs ≡ rest ++ other ∷ [] → length mine ≡ length rs → get_elem? mine (length rest) ≡ some r
      → ((j : ℕ) (u : Reach T) → get_elem? theirs j ≡ some u → get_elem? ss j ≡ some u)
      → ((j : ℕ) (u : Reach T) → get_elem? mine j ≡ some u → j < length theirs → get_elem? rs j ≡ some u)
      → ((j : ℕ) (u : Reach T) → get_elem? mine j ≡ some u → length theirs ≤ j → (a : Reach T) × (b : Reach T) × (get_elem? rs j ≡ some a) × (get_elem? ss j ≡ some b) × AreJoined a b u)
      → AreJoined r other r'
      → ((j : ℕ) (u : Reach T) → get_elem? rest j ≡ some u → get_elem? ss j ≡ some u)
      × ((j : ℕ) (u : Reach T) → get_elem? (set mine (length rest) r') j ≡ some u → j < length rest → get_elem? rs j ≡ some u)
      × ((j : ℕ) (u : Reach T) → get_elem? (set mine (length rest) r') j ≡ some u → length rest ≤ j → (a : Reach T) × (b : Reach T) × (get_elem? rs j ≡ some a) × (get_elem? ss j ≡ some b) × AreJoined a b u)
  joined_step rs ss mine theirs rest other r r' split same here left below_it above_it joins =
      let count : length theirs ≡ length rest + 1 = ap length split ∙ length-append rest (other ∷ []) in
      let last : get_elem? ss (length rest) ≡ some other = left (length rest) other (ap (λ l. get_elem? l (length rest)) split ∙ at_last rest other (length rest) refl) in
      let was : get_elem? rs (length rest) ≡ some r = below_it (length rest) r here (omega arith) in (
        (λ j u there. left j u (ap (λ l. get_elem? l j) split ∙ at_longer rest (other ∷ []) j u there)),
        (λ j u there low. ⊎_elim (λ is. absurd (let e = is.0 in omega arith)) (λ old. below_it j u old.1 (omega arith)) (at_set mine (length rest) j r' u there)),
        λ j u there high.
            ⊎_elim
            (λ is.
            subst (λ (x : ℕ × Reach T). (a : Reach T) × (b : Reach T) × (get_elem? rs x.0 ≡ some a) × (get_elem? ss x.0 ≡ some b) × AreJoined a b x.1) (λ k. (sym is.0 k, is.1 k))
            (r, other, was, last, joins))
            (λ old. above_it j u old.1 (let apart : length rest ≢ j = (λ e. old.0 (sym e)) in omega arith))
            (at_set mine (length rest) j r' u there),
      )

  -- what each hand of two seats adds to a sum, both together add
  abbrev Together : List (Hand T) → List (Hand T) → List (Hand T) → Type 0
  Together vs ws all = (j : ℕ) (u : Hand T) → get_elem? all j ≡ some u → (v : Hand T) × (w : Hand T) × (get_elem? vs j ≡ some v) × (get_elem? ws j ≡ some w) × PutsTogether v w u

  sum_together : (f : Hand T → ℕ) (vs ws all : List (Hand T)) → length all ≡ length vs → length all ≡ length ws
      → ((j : ℕ) (u : Hand T) → get_elem? all j ≡ some u → (v : Hand T) × (w : Hand T) × (get_elem? vs j ≡ some v) × (get_elem? ws j ≡ some w) × (f u ≡ f v + f w))
      → sum_by f all ≡ sum_by f vs + sum_by f ws
  sum_together f [] [] [] as_many as_these each = refl
  sum_together f (v ∷ vs) ws [] as_many as_these each = absurd (omega arith)
  sum_together f [] (w ∷ ws) [] as_many as_these each = absurd (omega arith)
  sum_together f [] ws (u ∷ all) as_many as_these each = absurd (omega arith)
  sum_together f (v ∷ vs) [] (u ∷ all) as_many as_these each = absurd (omega arith)
  sum_together f (v ∷ vs) (w ∷ ws) (u ∷ all) as_many as_these each =
      let here = each zero u (λ k. some u) in
      let first = ap f (some-injective v here.0 here.2) in
      let second = ap f (some-injective w here.1 here.3) in
      let adds = here.4 in
      let rest = sum_together f vs ws all (omega arith) (omega arith) (λ j x there. each (suc j) x there) in omega (arith, sum_by-cons f v vs, sum_by-cons f w ws, sum_by-cons f u all)

  module _ (q : Stealing T) (n : ℕ) (rs : List (Reach T)) (spare : List T) (seat : IsSeatWith q n rs spare) (m : ℕ) (ss : List (Reach T)) (spare2 : List T) (seat2 : IsSeatWith q m ss spare2)
      (apart : Apart (own_at n rs).numbers (own_at m ss).numbers) (few : length (own_at n rs).numbers + length (own_at m ss).numbers ≤ vec_len q.stealers) where
    -- where one has the worker, the other has not
    alone : (j : ℕ) (v w : Hand T) → get_elem? (map hand_at rs) j ≡ some v → get_elem? (map hand_at ss) j ≡ some w → 0 < v.seats → w.seats ≡ 0
    alone j v w at there some_seats =
        ⊎_elim (λ more. absurd (apart j (seat.holds.workers j v at some_seats) (seat2.holds.workers j w there more))) (λ none. let e : w.seats ≡ 0 = omega arith in e) (lt_or_le zero w.seats)

    pub may_join : (j : ℕ) (r s : Reach T) → get_elem? rs j ≡ some r → get_elem? ss j ≡ some s → MayJoin r s
    may_join j r s at there =
        let low : j < length q.stealers.items = (let a = below rs j r at in let b = seat.count in let c = q.stealers.ok.0 in omega arith) in
        let stealer = there_is q.stealers.items j low in
        let mine = seat.holds.as_many j (hand_at r) (at_map hand_at rs j r at) in
        let theirs = seat2.holds.as_many j (hand_at s) (at_map hand_at ss j s there) in (
          (vec_len q.stealers, q.room, stealer.0, seat.each j r at stealer.0 stealer.1, seat2.each j s there stealer.0 stealer.1),
          alone j (hand_at r) (hand_at s) (at_map hand_at rs j r at) (at_map hand_at ss j s there),
          (let a = q.few_seats in omega arith),
        )

    module _ (all : List (Reach T)) (joins_all : AreAllJoined rs ss all) where
      together : Together (map hand_at rs) (map hand_at ss) (map hand_at all)
      together j u there =
          let found = at_unmap hand_at all j u there in
          let parts = joins_all.1 j found.0 found.1 in (
            hand_at parts.0,
            hand_at parts.1,
            at_map hand_at rs j parts.0 parts.2,
            at_map hand_at ss j parts.1 parts.3,
            subst (λ h. PutsTogether (hand_at parts.0) (hand_at parts.1) h) found.2 parts.4.1,
          )

      sums : (f : Hand T → ℕ) → ((v w u : Hand T) → (0 < v.seats → w.seats ≡ 0) → PutsTogether v w u → f u ≡ f v + f w) → sum_by f (map hand_at all) ≡ sum_by f (map hand_at rs) + sum_by f (map hand_at ss)
      sums f adds =
          sum_together f (map hand_at rs) (map hand_at ss) (map hand_at all) (length-map all hand_at ∙ joins_all.0 ∙ sym (length-map rs hand_at))
          (length-map all hand_at ∙ joins_all.0 ∙ seat.count ∙ sym seat2.count ∙ sym (length-map ss hand_at))
          (λ j u there. let t = together j u there in (t.0, t.1, t.2, t.3, adds t.0 t.1 u (alone j t.0 t.1 t.2 t.3) t.4))

      owned_adds : (v w u : Hand T) → (0 < v.seats → w.seats ≡ 0) → PutsTogether v w u → owned u ≡ owned v + owned w
      owned_adds v w u one adds =
          ⊎_elim
          (λ some_seats. ap (λ k. min k 1) (adds.seats ∙ (let none = one some_seats in let e : v.seats + w.seats ≡ v.seats = omega arith in e)) ∙ (let none = ap (λ k. min k 1) (one some_seats) in let e : min v.seats 1 ≡ min v.seats 1 + min w.seats 1 = omega arith in e))
          (λ no_seats. ap (λ k. min k 1) (adds.seats ∙ (let e : v.seats + w.seats ≡ w.seats = omega arith in e)) ∙ (let none : v.seats ≡ 0 = omega arith in let zero_is = ap (λ k. min k 1) none in let e : min w.seats 1 ≡ min v.seats 1 + min w.seats 1 = omega arith in e))
          (lt_or_le zero v.seats)

      own_place : (u : Hand T) × (get_elem? (map hand_at all) n ≡ some u)
      own_place =
          let low : n < length all = (let a = seat.placed in let b = seat.count in let c = joins_all.0 in omega arith) in
          let r = there_is all n low in (hand_at r.0, at_map hand_at all n r.0 r.1)

      own_now : ((own_at n all).seats ≡ vec_len q.stealers) × ((own_at n all).numbers ≡ (own_at n rs).numbers ++ (own_at m ss).numbers)
      own_now =
          let u = own_place in
          let t = together n u.0 u.1 in
          let now = own_is n (map hand_at all) u.0 u.1 in
          let was = own_is n (map hand_at rs) t.0 t.2 in
          let seats : t.0.seats ≡ vec_len q.stealers = ap (λ h. h.seats) (sym was) ∙ seat.own in
          let none : t.1.seats ≡ 0 = alone n t.0 t.1 t.2 t.3 (let a = seat.placed in omega arith) in (
            ap (λ h. h.seats) now ∙ t.4.seats ∙ (let e : t.0.seats + t.1.seats ≡ vec_len q.stealers = omega arith in e),
            ap (λ h. h.numbers) now ∙ t.4.numbers none ∙ ap (λ h. h.numbers ++ t.1.numbers) (sym was) ∙ ap (λ l. (own_at n rs).numbers ++ l) (seat2.holds.passes n t.1 t.3 none),
          )

      numbers_now : length (own_at n all).numbers ≡ length (own_at n rs).numbers + length (own_at m ss).numbers
      numbers_now = ap length own_now.1 ∙ length-append (own_at n rs).numbers (own_at m ss).numbers

      holds_now : Holds ((own_at n rs).numbers ++ (own_at m ss).numbers) (map hand_at all)
      holds_now = record {
        count = sums owned owned_adds ∙ (let a = seat.holds.count in let b = seat2.holds.count in omega (arith, length-append (own_at n rs).numbers (own_at m ss).numbers));
        workers = λ j u there some_seats.
            let t = together j u there in
            let adds = t.4.seats in
            ⊎_elim
            (λ mine. in_left j (own_at n rs).numbers (own_at m ss).numbers (seat.holds.workers j t.0 t.2 mine))
            (λ none. in_right j (own_at n rs).numbers (own_at m ss).numbers (seat2.holds.workers j t.1 t.3 (omega arith)))
            (lt_or_le zero t.0.seats);
        passes = λ j u there none.
            let t = together j u there in
            let adds = t.4.seats in
            t.4.numbers (omega arith) ∙ ap (λ l. l ++ t.1.numbers) (seat.holds.passes j t.0 t.2 (omega arith)) ∙ ap (λ l. (own_at n rs).numbers ++ l) (seat2.holds.passes j t.1 t.3 (omega arith));
        as_many = λ j u there.
            let t = together j u there in
            let adds = t.4.count in
            let a = seat.holds.as_many j t.0 t.2 in
            let b = seat2.holds.as_many j t.1 t.3 in omega (arith, length-append (own_at n rs).numbers (own_at m ss).numbers);
      }

      pub joins : (more : List T) → more ≡ spare ++ spare2
          → IsSeatWith q n all more × Joins (account_at n (map hand_at rs) spare) (account_at m (map hand_at ss) spare2) (account_at n (map hand_at all) more)
      joins more is = (
        record {
          count = joins_all.0 ∙ seat.count;
          placed = seat.placed;
          each = λ j u there. let parts = joins_all.1 j u there in λ stealer at. parts.4.0 (vec_len q.stealers) q.room stealer (seat.each j parts.0 parts.2 stealer at) (seat2.each j parts.1 parts.3 stealer at);
          own = own_now.0;
          holds = subst (λ l. Holds l (map hand_at all)) (sym own_now.1) holds_now;
          some_seat = (let a = numbers_now in let b = seat.some_seat in omega arith);
          held = (let a = numbers_now in let b = few in omega arith);
          ahead = λ one. absurd (let a = few in let b = seat.some_seat in let c = seat2.some_seat in omega arith);
          few_spare = (let a = numbers_now in let b = seat.few_spare in let c = seat2.few_spare in let d = ap length is in omega (arith, length-append spare spare2));
          roomy = λ one low. absurd (let a = numbers_now in let b = seat.some_seat in let c = seat2.some_seat in omega arith);
        },
        subst (λ l. Joins (account_at n (map hand_at rs) spare) (account_at m (map hand_at ss) spare2) (account_at n (map hand_at all) l)) (sym is)
            (joined (vec_len q.stealers) n (map hand_at rs) spare m (map hand_at ss) (map hand_at all) spare2 own_now.1 (λ p. sums (λ (v : Hand T). count_by p v.put) (λ v w u one adds. adds.put p))
            (λ p. sums (λ (v : Hand T). count_by p v.taken) (λ v w u one adds. adds.taken p)) (λ p. sums (λ (v : Hand T). count_by p v.from_spare) (λ v w u one adds. adds.from_spare p))),
      )
