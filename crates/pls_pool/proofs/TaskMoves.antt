-- Each step of a pool keeps the rule of the queue, and tells what it must.
use Rattle.std.proofs.Common.{◌≡◌, ◌≢◌, ℕ, zero, suc, ◌+◌, ◌-◌, ◌<◌, ◌≤◌, ⊎_elim, Bool, cond, Option, Some, List, [], ◌∷◌, ◌++◌, length, drop, set, sum_by, count_by, refl, sym, ap, subst, ◌∙◌, append_assoc, length-append, arith}
use Rattle.std.proofs.lemmas.List.Sums.{sum_by-cons, sum_by-append, sum_by_push}
use Rattle.std.proofs.Math.Seq.{drop-append_seam}
use Rattle.std.specs.List.{range_with_len}
use Rattle.crossbeam_queue.specs.Fifo.{Pushes, Pops, Forks, Merges}
use Rattle.atomic_table.proofs.Lists.{at_set, at_snoc}
use Rattle.pls_pool.specs.Hands.{started, first, spent, giving, given, putting, taking, taking_spare, joining, noting, waiting}
use Rattle.pls_pool.specs.TaskRule.{held, IsWhole, InOrder, Keeps, Learns, TakesFrom}
use Rattle.pls_pool.specs.declared.hand.Hand.{Hand}
use Rattle.pls_pool.proofs.Sums.{sum_set, sum_same, sum_here, sum_two, sum_only, sum_joined, sum_split}
use mathlib.Core.Option.{some, some-injective, some-ne-none}
use lib.ListN.{get_elem?}

module _ {T : Type 0} where
  abbrev numbers_in : Hand T → ℕ
  numbers_in v = length v.numbers

  abbrev HasNothing : Hand T → Type 0
  HasNothing v = (v.put ≡ []) × (v.taken ≡ [])

  pub count_push : (p : T → Bool) (xs : List T) (x : T) → count_by p (xs ++ x ∷ []) ≡ count_by p xs + cond (p x) 1 0
  count_push p xs x = sum_by_push (λ y. cond (p y) 1 0) xs x

  pub count_append : (p : T → Bool) (xs ys : List T) → count_by p (xs ++ ys) ≡ count_by p xs + count_by p ys
  count_append p xs ys = sum_by-append (λ y. cond (p y) 1 0) xs ys

  pub count_cons : (p : T → Bool) (x : T) (xs : List T) → count_by p (x ∷ xs) ≡ cond (p x) 1 0 + count_by p xs
  count_cons p x xs = sum_by-cons (λ y. cond (p y) 1 0) x xs

  module _ (items : List T) (views : List (Hand T)) (keeps : Keeps items views) (i : ℕ) (v : Hand T) (at : get_elem? views i ≡ some v) (holds : 0 < length v.numbers) where
    -- where a pool has one seat, no other seat holds a number
    only_seat : (j : ℕ) (u : Hand T) → j ≢ i → get_elem? views j ≡ some u → 0 < length u.numbers → u.seats ≢ 1
    only_seat j u apart there some_number one =
        let shares = keeps.shares j u there some_number in
        let two = sum_two numbers_in views i j v u at there apart in omega arith

    -- A seat changes what it did and the queue, and holds the same numbers. What it put beyond what it took and what is left stays
    pub moves : (now : List T) (w : Hand T) → w.numbers ≡ v.numbers → w.seats ≡ v.seats
        → ((p : T → Bool) → count_by p w.put + (count_by p v.taken + count_by p items) ≡ count_by p v.put + (count_by p w.taken + count_by p now))
        → (v.seats ≡ 1 → InOrder items v → InOrder now w)
        → Keeps now (set views i w)
    moves now w same_numbers same_seats adds order =
        let same_held : held (set views i w) ≡ held views = sum_same numbers_in views i v w at (ap length same_numbers) in record {
          balance = λ p.
              let a = sum_set (λ (u : Hand T). count_by p u.put) views i v w at in
              let b = sum_set (λ (u : Hand T). count_by p u.taken) views i v w at in
              let is = keeps.balance p in
              let change = adds p in omega arith;
          shares = λ j u there low.
              ⊎_elim
              (λ mine. ap (λ x. x.seats) (sym mine.1) ∙ same_seats ∙ keeps.shares i v at holds ∙ sym same_held)
              (λ other. keeps.shares j u other.1 low ∙ sym same_held)
              (at_set views i j w u there);
          nothing = λ j u there none.
              ⊎_elim
              (λ mine. absurd (let same = ap numbers_in mine.1 in let n = ap length same_numbers in omega arith))
              (λ other. keeps.nothing j u other.1 none)
              (at_set views i j w u there);
          in_order = λ j u there low one.
              ⊎_elim
              (λ mine. subst (InOrder now) mine.1 (let seats : v.seats ≡ 1 = sym same_seats ∙ ap (λ x. x.seats) mine.1 ∙ one in order seats (keeps.in_order i v at holds seats)))
              (λ other. absurd (only_seat j u other.0 other.1 low one))
              (at_set views i j w u there);
        }

    -- beside a seat that holds all, no other has done anything
    only : IsWhole v → (f : Hand T → List T) → ((j : ℕ) (u : Hand T) → get_elem? views j ≡ some u → length u.numbers ≡ 0 → f u ≡ [])
        → (p : T → Bool) → sum_by (λ u. count_by p (f u)) views ≡ count_by p (f v)
    only all f none p =
        sum_only (λ u. count_by p (f u)) views i v at
        (λ j u apart there.
        let two = sum_two numbers_in views i j v u at there apart in
        let shares = keeps.shares i v at holds in
        ap (count_by p) (none j u there (omega arith)))

    pub learns : Learns v items
    learns = record {
      balance = λ all p.
          let a = only all (λ u. u.put) (λ j u there none. (keeps.nothing j u there none).0) p in
          let b = only all (λ u. u.taken) (λ j u there none. (keeps.nothing j u there none).1) p in
          let is = keeps.balance p in omega arith;
      in_order = keeps.in_order i v at holds;
    }

  -- a seat that has done nothing joins
  pub spends : (items : List T) (views : List (Hand T)) → Keeps items views → Keeps items (views ++ spent ∷ [])
  spends items views keeps = record {
    balance = λ p. let is = keeps.balance p in omega (arith, sum_by_push (λ (u : Hand T). count_by p u.put) views spent, sum_by_push (λ (u : Hand T). count_by p u.taken) views spent);
    shares = λ j u there low. ⊎_elim (λ old. keeps.shares j u old low ∙ (let more = sum_by_push numbers_in views spent in omega arith)) (λ last. absurd (let n = ap numbers_in last in omega arith)) (at_snoc views spent u j there);
    nothing = λ j u there none. ⊎_elim (λ old. keeps.nothing j u old none) (λ last. subst HasNothing last (refl, refl)) (at_snoc views spent u j there);
    in_order = λ j u there low one. ⊎_elim (λ old. keeps.in_order j u old low one) (λ last. absurd (let n = ap numbers_in last in omega arith)) (at_snoc views spent u j there);
  }

  -- where a seat is the only one, what waits is what the queue holds
  pub waits_are : (items : List T) (v : Hand T) → InOrder items v → waiting v ≡ items
  waits_are items v order = ap (drop (length v.taken)) order ∙ drop-append_seam v.taken items

  module _ (pass : ℕ) (v : Hand T) (holds : 0 < length v.numbers) where
    -- tasks join at the back, or leave at the front
    pub puts_into : (xs items : List T) (views : List (Hand T)) → Keeps items views → get_elem? views pass ≡ some v → Keeps (items ++ xs) (set views pass (putting xs v))
    puts_into xs items views keeps at =
        moves items views keeps pass v at holds (items ++ xs) (putting xs v) refl refl (λ p. omega (arith, count_append p v.put xs, count_append p items xs))
        (λ one order. ap (λ l. l ++ xs) order ∙ append_assoc v.taken items xs)

    pub takes_from : (xs items : List T) (views : List (Hand T)) → Keeps (xs ++ items) views → get_elem? views pass ≡ some v → Keeps items (set views pass (taking xs v)) × TakesFrom v xs (taking xs v)
    takes_from xs items views keeps at =
        let w = taking xs v in
        let told = learns (xs ++ items) views keeps pass v at holds in
        let further : InOrder (xs ++ items) v → InOrder items w = λ order. order ∙ sym (append_assoc v.taken xs items) in (
          moves (xs ++ items) views keeps pass v at holds items w refl refl (λ p. omega (arith, count_append p v.taken xs, count_append p xs items)) (λ one order. further order),
          record {
            now = refl;
            among = λ all p. let even = told.balance all p in omega (arith, count_append p v.taken xs, count_append p xs items);
            waits = λ one. waits_are (xs ++ items) v (told.in_order one) ∙ ap (λ l. xs ++ l) (sym (waits_are items w (further (told.in_order one))));
          },
        )

    pub puts_at : (n : ℕ) (x : T) → Pushes Keeps n pass v x (λ w. w ≡ putting (x ∷ []) v)
    puts_at n x items views room keeps at = (putting (x ∷ []) v, puts_into (x ∷ []) items views keeps at, refl)

    pub takes_at : Pops Keeps pass v (λ x w. TakesFrom v (x ∷ []) w)
    takes_at x items views keeps at = let done = takes_from (x ∷ []) items views keeps at in (taking (x ∷ []) v, done.0, done.1)

    -- a step of the seat that the queue does not see
    pub notes_spare_at : (x : T) (now : Option (Hand T)) → now ≡ Some (taking_spare x v) → Forks Keeps pass v (noting now v) spent
    notes_spare_at x now is items views keeps at =
        let w = taking_spare x v in
        subst (λ (o : Option (Hand T)). Keeps items (set views pass (noting o v) ++ spent ∷ [])) (sym is)
        (spends items (set views pass w) (moves items views keeps pass v at holds items w refl refl (λ p. omega arith) (λ one order. order)))

  -- the first seat learns for how many seats the pool is, and which numbers it holds until it gives them away
  pub plans_at : (pass seats : ℕ) (numbers : List ℕ) (now : Option (Hand T)) → 0 < seats → length numbers ≡ seats → now ≡ Some (started seats numbers) → Forks Keeps pass first (noting now first) spent
  plans_at pass seats numbers now some_seats count is items views keeps at =
      subst (λ (o : Option (Hand T)). Keeps items (set views pass (noting o first) ++ spent ∷ [])) (sym is) (spends items new kept)
    where
      w : Hand T
      w = started seats numbers

      new : List (Hand T)
      new = set views pass (started seats numbers)

      one : held views ≡ 1
      one = sym (keeps.shares pass first at (omega arith))

      all : held new ≡ seats
      all = let now_held = sum_set numbers_in views pass first (started seats numbers) at in let was = one in omega arith

      none_else : (j : ℕ) (u : Hand T) → j ≢ pass → get_elem? views j ≡ some u → length u.numbers ≡ 0
      none_else j u apart there = let two = sum_two numbers_in views pass j first u at there apart in let was = one in omega arith

      kept : Keeps items new
      kept = record {
        balance = λ p.
            let a = sum_same (λ (u : Hand T). count_by p u.put) views pass first (started seats numbers) at refl in
            let b = sum_same (λ (u : Hand T). count_by p u.taken) views pass first (started seats numbers) at refl in
            let is = keeps.balance p in omega arith;
        shares = λ j u there low. ⊎_elim (λ mine. ap (λ x. x.seats) (sym mine.1) ∙ sym all) (λ other. absurd (let none = none_else j u other.0 other.1 in omega arith)) (at_set views pass j (started seats numbers) u there);
        nothing = λ j u there none. ⊎_elim (λ mine. subst HasNothing mine.1 (refl, refl)) (λ other. keeps.nothing j u other.1 none) (at_set views pass j (started seats numbers) u there);
        in_order = λ j u there low alone.
            ⊎_elim
            (λ mine. subst (InOrder items) mine.1 (keeps.in_order pass first at (omega arith) refl))
            (λ other. absurd (let none = none_else j u other.0 other.1 in omega arith))
            (at_set views pass j (started seats numbers) u there);
      }

  -- a seat that holds several numbers and has done nothing gives one to a new seat
  pub splits_at : (pass seats a b : ℕ) (numbers : List ℕ) → Forks (Keeps {T = T}) pass (started seats (a ∷ b ∷ numbers)) (giving (started seats (a ∷ b ∷ numbers))) (given (started seats (a ∷ b ∷ numbers)))
  splits_at pass seats a b numbers items views keeps at = record {
    balance = λ p.
        let x = sum_split (λ (u : Hand T). count_by p u.put) views pass v left right at refl in
        let y = sum_split (λ (u : Hand T). count_by p u.taken) views pass v left right at refl in
        let is = keeps.balance p in omega arith;
    shares = λ j u there low.
        ⊎_elim
        (λ old. ⊎_elim (λ mine. ap (λ x. x.seats) (sym mine.1) ∙ all) (λ other. keeps.shares j u other.1 low ∙ sym same_held) (at_set views pass j left u old))
        (λ last. ap (λ x. x.seats) (sym last) ∙ all)
        (at_snoc (set views pass left) right u j there);
    nothing = λ j u there none.
        ⊎_elim
        (λ old. ⊎_elim (λ mine. subst HasNothing mine.1 (refl, refl)) (λ other. keeps.nothing j u other.1 none) (at_set views pass j left u old))
        (λ last. subst HasNothing last (refl, refl))
        (at_snoc (set views pass left) right u j there);
    in_order = λ j u there low one.
        ⊎_elim
        (λ old.
        ⊎_elim
        (λ mine. absurd (let same = ap (λ (x : Hand T). x.seats) mine.1 in let most = several in omega arith))
        (λ other. absurd (only_seat items views keeps pass v at (omega arith) j u other.0 other.1 low one))
        (at_set views pass j left u old))
        (λ last. absurd (let same = ap (λ (x : Hand T). x.seats) last in let most = several in omega arith))
        (at_snoc (set views pass left) right u j there);
  }
    where
      v : Hand T
      v = started seats (a ∷ b ∷ numbers)

      left : Hand T
      left = giving (started seats (a ∷ b ∷ numbers))

      right : Hand T
      right = given (started seats (a ∷ b ∷ numbers))

      same_held : held (set views pass left ++ right ∷ []) ≡ held views
      same_held = sum_split numbers_in views pass v left right at (omega arith)

      all : seats ≡ held (set views pass left ++ right ∷ [])
      all = keeps.shares pass v at (omega arith) ∙ sym same_held

      several : 1 < seats
      several = let here = sum_here numbers_in views pass v at in let shares = keeps.shares pass v at (omega arith) in omega arith

  pub splits_range : (pass seats from n : ℕ) → 2 ≤ n → Forks (Keeps {T = T}) pass (started seats (range_with_len from n)) (giving (started seats (range_with_len from n))) (given (started seats (range_with_len from n)))
  splits_range pass seats from zero some_left = absurd (omega arith)
  splits_range pass seats from (suc zero) some_left = absurd (omega arith)
  splits_range pass seats from (suc (suc n)) some_left = splits_at pass seats from (from + 1) (range_with_len (from + 1 + 1) n)

  -- what is left of so many numbers, and the one that is given away
  pub left_range : (seats from n : ℕ) → 1 ≤ n → giving (started {T = T} seats (range_with_len from n)) ≡ started seats (range_with_len (from + 1) (n - 1))
  left_range seats from zero some_left = absurd (omega arith)
  left_range seats from (suc n) some_left = ap (λ m. started seats (range_with_len (from + 1) m)) (let e : n ≡ suc n - 1 = omega arith in e)

  pub given_range : (seats from n : ℕ) → 1 ≤ n → given (started {T = T} seats (range_with_len from n)) ≡ started seats (from ∷ [])
  given_range seats from zero some_left = absurd (omega arith)
  given_range seats from (suc n) some_left = refl

  -- a seat takes over what another did
  module _ (pass : ℕ) (v : Hand T) (other : ℕ) (w both : Hand T) (some_mine : 0 < length v.numbers) (some_theirs : 0 < length w.numbers) where
    pub merges_at : both.seats ≡ v.seats → length both.numbers ≡ length v.numbers + length w.numbers
        → ((p : T → Bool) → count_by p both.put ≡ count_by p v.put + count_by p w.put) → ((p : T → Bool) → count_by p both.taken ≡ count_by p v.taken + count_by p w.taken)
        → Merges Keeps pass v other w both spent
    merges_at same_seats all_numbers all_put all_taken items views keeps at apart there =
        let new : List (Hand T) = set (set views pass both) other spent in
        let theirs : get_elem? views other ≡ some w = ⊎_elim (λ mine. absurd (apart mine.0)) (λ old. old.1) (at_set views pass other both w there) in
        let same_held : held new ≡ held views = sum_joined numbers_in views pass other v w both spent at there all_numbers refl in
        let several : 1 < v.seats = (let two = sum_two numbers_in views pass other v w at theirs apart in let shares = keeps.shares pass v at some_mine in omega arith) in record {
          balance = λ p.
              let a = sum_joined (λ (u : Hand T). count_by p u.put) views pass other v w both spent at there (all_put p) refl in
              let b = sum_joined (λ (u : Hand T). count_by p u.taken) views pass other v w both spent at there (all_taken p) refl in
              let is = keeps.balance p in omega arith;
          shares = λ j u at_j low.
              ⊎_elim
              (λ gone. absurd (let n = ap numbers_in gone.1 in omega arith))
              (λ old.
              ⊎_elim
              (λ mine. ap (λ x. x.seats) (sym mine.1) ∙ same_seats ∙ keeps.shares pass v at some_mine ∙ sym same_held)
              (λ left. keeps.shares j u left.1 low ∙ sym same_held)
              (at_set views pass j both u old.1))
              (at_set (set views pass both) other j spent u at_j);
          nothing = λ j u at_j none.
              ⊎_elim
              (λ gone. subst HasNothing gone.1 (refl, refl))
              (λ old. ⊎_elim (λ mine. absurd (let n = ap numbers_in mine.1 in omega arith)) (λ left. keeps.nothing j u left.1 none) (at_set views pass j both u old.1))
              (at_set (set views pass both) other j spent u at_j);
          in_order = λ j u at_j low one.
              ⊎_elim
              (λ gone. absurd (let n = ap numbers_in gone.1 in omega arith))
              (λ old.
              ⊎_elim
              (λ mine. absurd (let same = ap (λ (x : Hand T). x.seats) mine.1 in omega arith))
              (λ left. absurd (only_seat items views keeps pass v at some_mine j u left.0 left.1 low one))
              (at_set views pass j both u old.1))
              (at_set (set views pass both) other j spent u at_j);
        }

  pub joins_at : (pass : ℕ) (v : Hand T) (other : ℕ) (w : Hand T) → 0 < length v.numbers → 0 < length w.numbers → Merges Keeps pass v other w (joining v w) spent
  joins_at pass v other w some_mine some_theirs =
      merges_at pass v other w (joining v w) some_mine some_theirs refl (length-append v.numbers w.numbers) (λ p. count_append p v.put w.put) (λ p. count_append p v.taken w.taken)

-- The start of the rule
pub begins : {T : Type 0} → Keeps {T = T} [] (first ∷ [])
begins {T} = record {
  balance = λ p. omega arith;
  shares = λ i v there low. at_first i v there (λ x. x.seats ≡ 1) refl;
  nothing = λ i v there none. at_first i v there HasNothing (refl, refl);
  in_order = λ i v there low one. at_first i v there (InOrder []) refl;
}
  where
    at_first : (i : ℕ) (v : Hand T) → get_elem? (first ∷ []) i ≡ some v → (P : Hand T → Type 0) → P first → P v
    at_first zero v there P here = subst P (some-injective first v there) here
    at_first (suc i) v there P here = absurd (some-ne-none v (sym there))

pub no_length : {T : Type 0} (xs : List T) → length xs ≡ 0 → xs ≡ []
no_length [] none = refl
no_length (x ∷ xs) none = absurd (omega arith)

pub count_range : (k n : ℕ) → length (range_with_len k n) ≡ n
count_range k zero = refl
count_range k (suc n) = ap suc (count_range (k + 1) n)
