-- The start of a pool of deques: each step of it.
use Rattle.std.proofs.Common.{◌≡◌, ◌≢◌, ℕ, zero, suc, ◌+◌, ◌-◌, ◌<◌, ◌≤◌, ◌⊎◌, ⊎_elim, inl, inr, min, List, [], ◌∷◌, ◌++◌, length, map, drop, set, sum_by, count_by, refl, sym, ap, subst, ◌∙◌, length-append, arith}
use Rattle.std.proofs.lemmas.List.{length-set}
use Rattle.std.proofs.lemmas.List.Sums.{sum_by-cons}
use Rattle.std.specs.Prelude.{vec_len}
use Rattle.std.specs.List.{range_with_len}
use Rattle.atomic_table.proofs.Lists.{at_set, at_map}
use Rattle.crossbeam_deque.specs.Tasks.{Forks}
use Rattle.crossbeam_deque.specs.Handles.{worker_deque, worker_view, worker_flavor, worker_capacity, worker_index, stealer_deque, stealer_flavor}
use Rattle.pls_pool.specs.Hands.{started, giving, given, own_hand}
use Rattle.pls_pool.specs.TaskRule.{Keeps}
use Rattle.pls_pool.specs.Reaches.{Owner, Thief, hand_at}
use Rattle.pls_pool.specs.StealSeats.{owned, Holds, IsNewStealSeat}
use Rattle.pls_pool.specs.Deals.{in_turn, Gains, IsGuestReach, IsDealtTo, IsNewReach, IsOpened, IsBegun}
use Rattle.pls_pool.specs.declared.hand.Hand.{Hand}
use Rattle.pls_pool.specs.declared.stealing.Stealing.{Stealing}
use Rattle.pls_pool.specs.declared.stealing.Reach.{Reach}
use Rattle.pls_pool.specs.declared.stealing.Reach.TheVariants.{Own}
use Rattle.pls_pool.specs.declared.stealing.StealSeat.{StealSeat}
use Rattle.pls_pool.proofs.Sums.{sum_only}
use Rattle.pls_pool.proofs.TaskMoves.{splits_at, count_range}
use Rattle.pls_pool.proofs.AccountMoves.{own_is}
use Rattle.pls_pool.proofs.SeatMoves.{at_unmap, there_is, below, lt_or_le}
use mathlib.Core.Option.{some, some-injective, some-ne-none}
use lib.ListN.{get_elem?}

same_or_not : (m n : ℕ) → (m ≡ n) ⊎ (m ≢ n)
same_or_not m n =
    ⊎_elim (λ less. inr (λ e. absurd (omega arith))) (λ most. ⊎_elim (λ more. inr (λ e. absurd (omega arith))) (λ least. inl (let e : m ≡ n = omega arith in e)) (lt_or_le n m)) (lt_or_le m n)

-- the place of an element in a list with one more
snoc_at : {A : Type 0} (xs : List A) (a : A) (n : ℕ) → length xs ≡ n → (j : ℕ) (b : A) → get_elem? (xs ++ a ∷ []) j ≡ some b → ((j < n) × (get_elem? xs j ≡ some b)) ⊎ ((j ≡ n) × (a ≡ b))
snoc_at [] a zero len zero b there = inr (refl, some-injective a b there)
snoc_at [] a zero len (suc j) b there = absurd (some-ne-none b (sym there))
snoc_at [] a (suc n) len j b there = absurd (omega arith)
snoc_at (x ∷ xs) a zero len j b there = absurd (omega arith)
snoc_at (x ∷ xs) a (suc n) len zero b there = inl (omega arith, there)
snoc_at (x ∷ xs) a (suc n) len (suc j) b there = ⊎_elim (λ old. inl (let low = old.0 in omega arith, old.1)) (λ last. inr (ap suc last.0, last.1)) (snoc_at xs a n (omega arith) j b there)

pub count_in_turn : (seats number : ℕ) → number < seats → length (in_turn seats number) ≡ seats
count_in_turn seats number low =
    let before = range_with_len 0 number in
    let behind = range_with_len (number + 1) (seats - (number + 1)) in
    let a = count_range 0 number in
    let b = count_range (number + 1) (seats - (number + 1)) in omega (arith, length-append before (behind ++ number ∷ []), length-append behind (number ∷ []))

module _ {T : Type 0} where
  -- a worker that holds several numbers and has done nothing gives the first to another
  splits_more : (pass seats a : ℕ) (more : List ℕ) → 0 < length more → Forks (Keeps {T = T}) pass (started seats (a ∷ more)) (giving (started seats (a ∷ more))) (given (started seats (a ∷ more)))
  splits_more pass seats a [] some_left = absurd (omega arith)
  splits_more pass seats a (b ∷ more) some_left = splits_at pass seats a b more

  pub deals_at : (pass seats from n : ℕ) (kept : List ℕ) → 1 ≤ n → 0 < length kept
      → Forks (Keeps {T = T}) pass (started seats (range_with_len from n ++ kept)) (giving (started seats (range_with_len from n ++ kept))) (given (started seats (range_with_len from n ++ kept)))
  deals_at pass seats from zero kept some_left some_kept = absurd (omega arith)
  deals_at pass seats from (suc n) kept some_left some_kept = splits_more pass seats from (range_with_len (from + 1) n ++ kept) (omega (arith, length-append (range_with_len (from + 1) n) kept))

  -- the first numbers are those below
  pub from_zero : {v : Hand T} (seats n : ℕ) (kept : List ℕ) → v ≡ started seats (range_with_len 0 n ++ kept) → v ≡ started seats (range_with_len 0 (n - 0) ++ kept)
  from_zero seats n kept is = is ∙ ap (λ m. started seats (range_with_len 0 m ++ kept)) (let e : n ≡ n - 0 = omega arith in e)

  pub left_dealt : (seats from n : ℕ) (kept : List ℕ) → 1 ≤ n → giving (started {T = T} seats (range_with_len from n ++ kept)) ≡ started seats (range_with_len (from + 1) (n - 1) ++ kept)
  left_dealt seats from zero kept some_left = absurd (omega arith)
  left_dealt seats from (suc n) kept some_left = ap (λ m. started seats (range_with_len (from + 1) m ++ kept)) (let e : n ≡ suc n - 1 = omega arith in e)

  pub given_dealt : (seats from n : ℕ) (kept : List ℕ) → 1 ≤ n → given (started {T = T} seats (range_with_len from n ++ kept)) ≡ started seats (from ∷ [])
  given_dealt seats from zero kept some_left = absurd (omega arith)
  given_dealt seats from (suc n) kept some_left = refl

  pub deal_none : (seats : ℕ) (w : Owner T) (from : ℕ) (all : List (StealSeat T)) → IsDealtTo seats w from from all all
  deal_none seats w from all = (refl, (λ i t there low high. absurd (omega arith)), λ i t there aside. there)

  pub deal_one : (seats : ℕ) (w : Owner T) (from k : ℕ) (olds news : List (StealSeat T)) (s t : StealSeat T) (r : Reach T) → IsDealtTo seats w from k olds news → from ≤ k → get_elem? news k ≡ some s → Gains s t r → IsGuestReach seats w k r
      → IsDealtTo seats w from (k + 1) olds (set news k t)
  deal_one seats w from k olds news s t r dealt begun at gains guest = (
    length-set news k t ∙ dealt.0,
    (λ i u there low high.
        ⊎_elim
        (λ is.
        subst (λ (x : ℕ × StealSeat T). (s : StealSeat T) × (r : Reach T) × (get_elem? olds x.0 ≡ some s) × Gains s x.1 r × IsGuestReach seats w x.0 r) (λ j. (sym is.0 j, is.1 j))
        (s, r, dealt.2 k s at (inr (omega arith)), gains, guest))
        (λ old. dealt.1 i u old.1 low (let apart : i ≢ k = old.0 in omega arith))
        (at_set news k i t u there)),
    λ i u there aside.
        ⊎_elim
        (λ is. absurd (⊎_elim (λ low. let e = is.0 in omega arith) (λ high. let e = is.0 in omega arith) aside))
        (λ old. dealt.2 i u old.1 (⊎_elim (λ low. inl low) (λ high. inr (omega arith)) aside))
        (at_set news k i t u there),
  )

  -- when the last has its pass
  pub dealt_all : (seats : ℕ) (w0 w : Owner T) (from to number : ℕ) (kept : List ℕ) (olds news : List (StealSeat T)) → number ≡ to
      → (worker_view w ≡ started seats (range_with_len number (to - number) ++ kept)) × IsDealtTo seats w0 from number olds news
      → (worker_view w ≡ started seats kept) × IsDealtTo seats w0 from to olds news
  dealt_all seats w0 w from to number kept olds news last dealt =
      let none : to - number ≡ 0 = omega arith in
      (dealt.0 ∙ ap (λ n. started seats (range_with_len number n ++ kept)) none, subst (λ n. IsDealtTo seats w0 from n olds news) last dealt.1)

  -- the worker of a deque that was opened
  pub new_owner : (seats room number : ℕ) (stealer : Thief T) (w : Owner T) → 0 < seats → worker_deque w ≡ stealer_deque stealer → worker_flavor w ≡ 0 → room ≤ worker_capacity w → worker_index w ≡ 0 → worker_view w ≡ started seats (number ∷ [])
      → IsNewReach seats room number stealer number (Own w)
  new_owner seats room number stealer w some_seats deque fifo slots index is = record {
    reach = record {
      deque = deque;
      fifo = fifo;
      some_seats = some_seats;
      seats_are = ap (λ h. h.seats) is;
      holds = (let len = ap (λ h. length h.numbers) is in omega arith);
      slots = slots;
      index = (let none = index in omega arith);
      among = λ whole p. (let none = ap (λ h. count_by p h.taken) is in omega arith);
    };
    other = λ apart. absurd (apart refl);
    own = λ same. is;
  }

  guest_new : (seats room number : ℕ) (stealer : Thief T) (w : Owner T) (i : ℕ) (r : Reach T) → i ≢ number → stealer_deque stealer ≡ worker_deque w → stealer_flavor stealer ≡ 0 → IsGuestReach seats w i r → IsNewReach seats room number stealer i r
  guest_new seats room number stealer w i r apart deque fifo guest = record { reach = guest.1 room stealer deque fifo; other = λ _. guest.0; own = λ same. absurd (apart same) }

  -- the others before this number, those behind it, and then the seat itself
  pub opened : (seats room number : ℕ) (stealer : Thief T) (w0 w1 : Owner T) (olds news last : List (StealSeat T)) (s t : StealSeat T) (r : Reach T)
      → IsDealtTo seats w0 0 number olds news → IsDealtTo seats w1 (number + 1) seats news last → length olds ≡ seats
      → stealer_deque stealer ≡ worker_deque w0 → stealer_deque stealer ≡ worker_deque w1 → stealer_flavor stealer ≡ 0
      → get_elem? last number ≡ some s → Gains s t r → IsNewReach seats room number stealer number r
      → IsOpened seats room number stealer olds (set last number t)
  opened seats room number stealer w0 w1 olds news last s t r first second count deque0 deque1 fifo at gains own = (
    length-set last number t ∙ second.0 ∙ first.0,
    λ i u there.
        ⊎_elim
        (λ is.
        subst (λ (x : ℕ × StealSeat T). (s : StealSeat T) × (r : Reach T) × (get_elem? olds x.0 ≡ some s) × Gains s x.1 r × IsNewReach seats room number stealer x.0 r) (λ j. (sym is.0 j, is.1 j))
        (s, r, first.2 number s (second.2 number s at (inl (omega arith))) (inr (omega arith)), gains, own))
        (λ old.
        ⊎_elim
        (λ less.
        let a = first.1 i u (second.2 i u old.1 (inl (omega arith))) (omega arith) less in (a.0, a.1, a.2, a.3, guest_new seats room number stealer w0 i a.1 old.0 deque0 fifo a.4))
        (λ most.
        let apart : i ≢ number = old.0 in
        let high : i < seats = (let c = below last i u old.1 in let d = second.0 in let e = first.0 in omega arith) in
        let a = second.1 i u old.1 (omega arith) high in (a.0, a.1, first.2 i a.0 a.2 (inr most), a.3, guest_new seats room number stealer w1 i a.1 old.0 deque1 fifo a.4))
        (lt_or_le i number))
        (at_set last number i t u there),
  )

  -- a seat that reaches no deque yet
  pub begun_none : (seats room : ℕ) (stealers : List (Thief T)) (i : ℕ) (s : StealSeat T) → stealers ≡ [] → IsBegun 0 0 [] i s → IsBegun seats room stealers i s
  begun_none seats room stealers i s none begun = record {
    number = begun.number;
    spare = begun.spare;
    count = begun.count ∙ ap length (sym none);
    each = λ j r stealer there at. absurd (some-ne-none stealer (sym at ∙ ap (λ l. get_elem? l j) none));
  }

  pub begun_on : (seats room : ℕ) (stealers : List (Thief T)) (stealer : Thief T) (i : ℕ) (s t : StealSeat T) (r : Reach T) → IsBegun seats room stealers i s → Gains s t r → IsNewReach seats room (length stealers) stealer i r
      → IsBegun seats room (stealers ++ stealer ∷ []) i t
  begun_on seats room stealers stealer i s t r begun gains new = record {
    number = gains.number ∙ begun.number;
    spare = gains.spare ∙ begun.spare;
    count = (let a = ap length gains.reaches in let b = begun.count in omega (arith, length-append s.reaches.items (r ∷ []), length-append stealers (stealer ∷ [])));
    each = λ j u other there at.
        ⊎_elim
        (λ old. ⊎_elim (λ known. begun.each j u other old.1 known.1) (λ last. absurd (let e = last.0 in let low = old.0 in omega arith)) (snoc_at stealers stealer (length stealers) refl j other at))
        (λ last.
        ⊎_elim
        (λ known. absurd (let e = last.0 in let low = known.0 in omega arith))
        (λ same. subst (λ (x : ℕ × Thief T × Reach T). IsNewReach seats room x.0 x.1 i x.2) (λ k. (sym last.0 k, same.1 k, last.1 k)) new)
        (snoc_at stealers stealer (length stealers) refl j other at))
        (snoc_at s.reaches.items r (length stealers) begun.count j u (ap (λ l. get_elem? l j) (sym gains.reaches) ∙ there));
  }

  -- each seat reaches one deque more
  pub begun_all : (seats room n number : ℕ) (stealers : List (Thief T)) (stealer : Thief T) (olds news : List (StealSeat T)) → n ≡ seats → length stealers ≡ number
      → ((i : ℕ) (s : StealSeat T) → get_elem? olds i ≡ some s → IsBegun seats room stealers i s) → IsOpened n room number stealer olds news
      → (i : ℕ) (t : StealSeat T) → get_elem? news i ≡ some t → IsBegun seats room (stealers ++ stealer ∷ []) i t
  begun_all seats room n number stealers stealer olds news count place begun opens i t there =
      let a = opens.1 i t there in
      begun_on seats room stealers stealer i a.0 t a.1 (begun i a.0 a.2) a.3 (subst (λ (x : ℕ × ℕ). IsNewReach x.0 room x.1 stealer i a.1) (λ k. (count k, sym place k)) a.4)

  sum_none : (f : Hand T → ℕ) (vs : List (Hand T)) → ((j : ℕ) (v : Hand T) → get_elem? vs j ≡ some v → f v ≡ 0) → sum_by f vs ≡ 0
  sum_none f [] each = refl
  sum_none f (v ∷ vs) each = let here = each zero v (λ k. some v) in let rest = sum_none f vs (λ j u there. each (suc j) u there) in omega (arith, sum_by-cons f v vs)

  module _ (q : Stealing T) (i : ℕ) (s : StealSeat T) (begun : IsBegun (vec_len q.stealers) q.room q.stealers.items i s) (low : i < vec_len q.stealers) where
    hand_is : (j : ℕ) (v : Hand T) → get_elem? (map hand_at s.reaches.items) j ≡ some v → (j ≡ i → v ≡ started (vec_len q.stealers) (i ∷ [])) × (j ≢ i → v ≡ started 0 (i ∷ []))
    hand_is j v there =
        let found = at_unmap hand_at s.reaches.items j v there in
        let stealer = there_is q.stealers.items j (let a = below s.reaches.items j found.0 found.1 in let b = begun.count in omega arith) in
        let new = begun.each j found.0 stealer.0 found.1 stealer.1 in ((λ same. sym found.2 ∙ new.own (sym same)), λ apart. sym found.2 ∙ new.other (λ e. apart (sym e)))

    own_place : (v : Hand T) × (get_elem? (map hand_at s.reaches.items) s.number ≡ some v)
    own_place = let r = there_is s.reaches.items s.number (let a = begun.number in let b = begun.count in let c = q.stealers.ok.0 in omega arith) in (hand_at r.0, at_map hand_at s.reaches.items s.number r.0 r.1)

    own_new : own_hand s.number (map hand_at s.reaches.items) ≡ started (vec_len q.stealers) (i ∷ [])
    own_new = own_is s.number (map hand_at s.reaches.items) own_place.0 own_place.1 ∙ (hand_is s.number own_place.0 own_place.1).0 begun.number

    -- whatever the hands say of a task, they say nothing
    nothing : (f : Hand T → ℕ) → ((seats : ℕ) → f (started seats (i ∷ [])) ≡ 0) → sum_by f (map hand_at s.reaches.items) ≡ 0
    nothing f none = sum_none f (map hand_at s.reaches.items) (λ j v there. ⊎_elim (λ same. ap f ((hand_is j v there).0 same) ∙ none (vec_len q.stealers)) (λ apart. ap f ((hand_is j v there).1 apart) ∙ none 0) (same_or_not j i))

    numbers_are : (j : ℕ) (v : Hand T) → get_elem? (map hand_at s.reaches.items) j ≡ some v → v.numbers ≡ i ∷ []
    numbers_are j v there = ⊎_elim (λ same. ap (λ h. h.numbers) ((hand_is j v there).0 same)) (λ apart. ap (λ h. h.numbers) ((hand_is j v there).1 apart)) (same_or_not j i)

    holds_one : Holds (i ∷ []) (map hand_at s.reaches.items)
    holds_one = record {
      count =
          sum_only owned (map hand_at s.reaches.items) s.number own_place.0 own_place.1 (λ j u apart there. ap owned ((hand_is j u there).1 (λ e. apart (e ∙ sym begun.number))))
          ∙ ap owned ((hand_is s.number own_place.0 own_place.1).0 begun.number) ∙ (let e : min (vec_len q.stealers) 1 ≡ 1 = omega arith in e);
      workers = λ j v there some_seats. ⊎_elim (λ same. inl same) (λ apart. absurd (let none = ap (λ (h : Hand T). h.seats) ((hand_is j v there).1 apart) in omega arith)) (same_or_not j i);
      passes = λ j v there none. numbers_are j v there;
      as_many = λ j v there. ap length (numbers_are j v there);
    }

    pub new_seat : IsNewStealSeat q i s
    new_seat = record {
      seat = record {
        count = begun.count ∙ sym q.stealers.ok.0;
        placed = (let a = begun.number in omega arith);
        each = λ j r there stealer at. (begun.each j r stealer there at).reach;
        own = ap (λ h. h.seats) own_new;
        holds = subst (λ (h : Hand T). Holds h.numbers (map hand_at s.reaches.items)) (sym own_new) holds_one;
        some_seat = subst (λ (h : Hand T). 0 < length h.numbers) (sym own_new) (omega arith);
        held = subst (λ (h : Hand T). length h.numbers ≤ vec_len q.stealers) (sym own_new) (omega arith);
        ahead = λ one. subst (λ (h : Hand T). length h.taken ≤ length h.put) (sym own_new) (omega arith);
        few_spare = (let a = ap length begun.spare in omega arith);
        roomy = λ one less. (begun.spare, ap (λ h. h.from_spare) own_new);
      };
      account = record {
        numbers = ap (λ h. h.numbers) own_new;
        put = λ p.
            let a = nothing (λ (v : Hand T). count_by p v.put) (λ n. refl) in
            let b = nothing (λ (v : Hand T). count_by p v.from_spare) (λ n. refl) in
            let c = ap (count_by p) begun.spare in omega arith;
        taken = λ p. let a = nothing (λ (v : Hand T). count_by p v.taken) (λ n. refl) in let b = nothing (λ (v : Hand T). count_by p v.from_spare) (λ n. refl) in omega arith;
        spare = begun.spare;
        waiting = ap (λ (h : Hand T). drop (length h.taken) h.put ++ s.spare) own_new ∙ begun.spare;
      };
    }

  -- the seats that reach all deques
  pub new_seats : (q : Stealing T) (all : List (StealSeat T)) (seats : ℕ) → vec_len q.stealers ≡ seats → length all ≡ seats
      → ((i : ℕ) (s : StealSeat T) → get_elem? all i ≡ some s → IsBegun seats q.room q.stealers.items i s) → (i : ℕ) (s : StealSeat T) → get_elem? all i ≡ some s → IsNewStealSeat q i s
  new_seats q all seats same count begun i s there =
      new_seat q i s (subst (λ n. IsBegun n q.room q.stealers.items i s) (sym same) (begun i s there)) (let low = below all i s there in omega arith)
