-- What a seat did at one deque, after each step there.
use Rattle.std.proofs.Common.{◌≡◌, ℕ, zero, suc, ◌+◌, ◌<◌, ◌≤◌, List, [], ◌∷◌, ◌++◌, length, drop, set, count_by, refl, sym, ap, subst, ◌∙◌, append_assoc, length-append, arith}
use Rattle.std.proofs.lemmas.List.{append-nil, length-drop}
use Rattle.std.specs.List.{flat_map}
use Rattle.std.specs.Prelude.{Option, Some, None, MatchOption, slice_index_or}
use Rattle.crossbeam_deque.specs.Handles.{view, IsPassOf, stealer_deque, worker_deque, worker_view, worker_index, SameWorker}
use Rattle.pls_pool.specs.Hands.{putting, taking_spare, joining, waiting}
use Rattle.pls_pool.specs.TaskRule.{IsWhole, TookPut, Learns, TakesFrom}
use Rattle.pls_pool.specs.Reaches.{Owner, Thief, Guest, numbers_of, guests_hand, IsOwnerOf, IsGuestOf, AreGuestsOf, ArePassesOf, TookOne, PutsTogether}
use Rattle.pls_pool.specs.declared.hand.Hand.{Hand}
use Rattle.pls_pool.proofs.TaskMoves.{count_push, count_append}
use mathlib.Core.Option.{some, some-injective}
use lib.ListN.{get_elem?}

module _ {T : Type 0} where
  pub joins_on : (v : Hand T) (p : Guest T) (ps : List (Guest T)) → joining (joining v (view p)) (guests_hand ps) ≡ joining v (guests_hand (p ∷ ps))
  joins_on v p ps i =
      record {
        seats = v.seats;
        numbers = append_assoc v.numbers (view p).numbers (guests_hand ps).numbers i;
        put = append_assoc v.put (view p).put (guests_hand ps).put i;
        taken = append_assoc v.taken (view p).taken (guests_hand ps).taken i;
        from_spare = append_assoc v.from_spare (view p).from_spare (guests_hand ps).from_spare i;
      }

  pub joins_none : (v : Hand T) → joining v (guests_hand []) ≡ v
  joins_none v i = record { seats = v.seats; numbers = append-nil v.numbers i; put = append-nil v.put i; taken = append-nil v.taken i; from_spare = append-nil v.from_spare i }

  pub rest_are : (w w' : Owner T) (p : Guest T) (ps : List (Guest T)) → worker_deque w' ≡ worker_deque w → ArePassesOf w (p ∷ ps) → ArePassesOf w' ps
  rest_are w w' p ps same all i q there = let is = all (suc i) q there in (subst (λ d. IsPassOf d q) (sym same) is.0, is.1)

  pub passes_of : (seats room : ℕ) (stealer : Thief T) (w : Owner T) (ps : List (Guest T)) → IsOwnerOf seats room stealer w → AreGuestsOf seats stealer ps → ArePassesOf w ps
  passes_of seats room stealer w ps owner guests i p there = let guest = guests.each i p there in (subst (λ d. IsPassOf d p) (sym owner.deque) guest.deque, guest.holds)

  -- the worker stays the worker of its deque
  module _ (w w' : Owner T) (same : SameWorker w w') (seats room : ℕ) (stealer : Thief T) (owner : IsOwnerOf seats room stealer w) where
    owner_stays : (worker_view w').seats ≡ (worker_view w).seats → 0 < length (worker_view w').numbers → worker_index w' ≤ length (worker_view w').put → (IsWhole (worker_view w') → TookPut (worker_view w')) → IsOwnerOf seats room stealer w'
    owner_stays same_seats holds index among = record {
      deque = same.0 ∙ owner.deque;
      fifo = same.1 ∙ owner.fifo;
      some_seats = owner.some_seats;
      seats_are = same_seats ∙ owner.seats_are;
      holds = holds;
      slots = (let a = owner.slots in let b = same.3 in omega arith);
      index = index;
      among = among;
    }

    pub owner_took : (xs : List T) → worker_index w' ≤ worker_index w → TakesFrom (worker_view w) xs (worker_view w') → IsOwnerOf seats room stealer w'
    owner_took xs less takes =
        let numbers = ap (λ h. length h.numbers) takes.now in
        let same_seats = ap (λ h. h.seats) takes.now in
        owner_stays same_seats (let a = owner.holds in omega arith) (let a = owner.index in let b = ap (λ h. length h.put) takes.now in omega arith)
        (λ whole. takes.among (sym numbers ∙ whole ∙ same_seats))

    pub owner_found_none : worker_index w' ≤ worker_index w → worker_view w' ≡ worker_view w → IsOwnerOf seats room stealer w'
    owner_found_none less is =
        owner_stays (ap (λ h. h.seats) is) (subst (λ h. 0 < length h.numbers) (sym is) owner.holds) (let a = owner.index in let b = ap (λ h. length h.put) is in omega arith)
        (subst (λ h. IsWhole h → TookPut h) (sym is) owner.among)

    pub owner_put : (x : T) → worker_index w' ≡ worker_index w + 1 → worker_view w' ≡ putting (x ∷ []) (worker_view w) → IsOwnerOf seats room stealer w'
    owner_put x more is =
        owner_stays (ap (λ h. h.seats) is) (subst (λ h. 0 < length h.numbers) (sym is) owner.holds)
        (let a = owner.index in let b = ap (λ h. length h.put) is in omega (arith, length-append (worker_view w).put (x ∷ [])))
        (subst (λ h. IsWhole h → TookPut h) (sym is) (λ whole p. let a = owner.among whole p in omega (arith, count_append p (worker_view w).put (x ∷ []))))

    pub owner_noted : (x : T) → worker_index w' ≡ worker_index w → worker_view w' ≡ taking_spare x (worker_view w) → IsOwnerOf seats room stealer w'
    owner_noted x still is =
        owner_stays (ap (λ h. h.seats) is) (subst (λ h. 0 < length h.numbers) (sym is) owner.holds) (let a = owner.index in let b = ap (λ h. length h.put) is in omega arith)
        (subst (λ h. IsWhole h → TookPut h) (sym is) owner.among)

    pub owner_joined : (v : Hand T) → worker_index w' ≡ worker_index w → worker_view w' ≡ joining (worker_view w) v → (IsWhole (worker_view w') → TookPut (worker_view w')) → IsOwnerOf seats room stealer w'
    owner_joined v still is among =
        owner_stays (ap (λ h. h.seats) is) (let a = owner.holds in let b = ap (λ h. length h.numbers) is in omega (arith, length-append (worker_view w).numbers v.numbers))
        (let a = owner.index in let b = ap (λ h. length h.put) is in omega (arith, length-append (worker_view w).put v.put)) among

  -- what waits goes on after the first task
  longer : (n : ℕ) (xs ys : List T) (x : T) → drop n xs ≡ x ∷ ys → n < length xs
  longer n xs ys x is = let len = ap length is in omega (arith, length-drop n xs)

  pub took_one : (x : T) (v w : Hand T) → TakesFrom v (x ∷ []) w → TookOne x v w
  took_one x v w takes = record {
    same_numbers = ap (λ h. h.numbers) takes.now;
    same_seats = ap (λ h. h.seats) takes.now;
    put = λ p. ap (λ h. count_by p h.put) takes.now;
    taken = λ p. ap (λ h. count_by p h.taken) takes.now ∙ count_push p v.taken x;
    from_spare = λ p. ap (λ h. count_by p h.from_spare) takes.now;
    waits = takes.waits;
    ahead = λ one.
        let some_left = longer (length v.taken) v.put (waiting w) x (takes.waits one) in
        let taken = ap (λ h. length h.taken) takes.now in
        let put = ap (λ h. length h.put) takes.now in omega (arith, length-append v.taken (x ∷ []));
  }

  -- what both did, where a worker takes over what others did
  pub joined_by : (v w both : Hand T) → 0 < v.seats → w.seats ≡ 0 → both ≡ joining v w → PutsTogether v w both
  joined_by v w both some_seats none is = record {
    seats = ap (λ h. h.seats) is ∙ (let same = none in omega arith);
    numbers = λ e. ap (λ h. h.numbers) is;
    count = ap (λ h. length h.numbers) is ∙ length-append v.numbers w.numbers;
    put = λ p. ap (λ h. count_by p h.put) is ∙ count_append p v.put w.put;
    taken = λ p. ap (λ h. count_by p h.taken) is ∙ count_append p v.taken w.taken;
    from_spare = λ p. ap (λ h. count_by p h.from_spare) is ∙ count_append p v.from_spare w.from_spare;
  }

  -- the same, where the worker comes from the other seat
  pub joined_from : (v w both : Hand T) → v.seats ≡ 0 → 0 < w.seats → both ≡ joining w v → PutsTogether v w both
  joined_from v w both none some_seats is = record {
    seats = ap (λ h. h.seats) is ∙ (let same = none in omega arith);
    numbers = λ e. absurd (omega arith);
    count = ap (λ h. length h.numbers) is ∙ length-append w.numbers v.numbers ∙ omega arith;
    put = λ p. ap (λ h. count_by p h.put) is ∙ count_append p w.put v.put ∙ omega arith;
    taken = λ p. ap (λ h. count_by p h.taken) is ∙ count_append p w.taken v.taken ∙ omega arith;
    from_spare = λ p. ap (λ h. count_by p h.from_spare) is ∙ count_append p w.from_spare v.from_spare ∙ omega arith;
  }

  flat_append : {A : Type 0} (f : Guest T → List A) (ps qs : List (Guest T)) → flat_map f (ps ++ qs) ≡ flat_map f ps ++ flat_map f qs
  flat_append f [] qs = refl
  flat_append f (p ∷ ps) qs = ap (λ l. f p ++ l) (flat_append f ps qs) ∙ sym (append_assoc (f p) (flat_map f ps) (flat_map f qs))

  pub guests_append : (ps qs : List (Guest T)) → PutsTogether (guests_hand ps) (guests_hand qs) (guests_hand (ps ++ qs))
  guests_append ps qs =
      let v : Hand T = guests_hand ps in
      let w : Hand T = guests_hand qs in record {
        seats = refl;
        numbers = λ e. flat_append (λ p. (view p).numbers) ps qs;
        count = ap length (flat_append (λ p. (view p).numbers) ps qs) ∙ length-append v.numbers w.numbers;
        put = λ t. ap (count_by t) (flat_append (λ p. (view p).put) ps qs) ∙ count_append t v.put w.put;
        taken = λ t. ap (count_by t) (flat_append (λ p. (view p).taken) ps qs) ∙ count_append t v.taken w.taken;
        from_spare = λ t. ap (count_by t) (flat_append (λ p. (view p).from_spare) ps qs) ∙ count_append t v.from_spare w.from_spare;
      }

  -- the first of several passes took a task
  pub guests_took : (x : T) (p q : Guest T) (ps : List (Guest T)) → TakesFrom (view p) (x ∷ []) (view q) → TookOne x (guests_hand (p ∷ ps)) (guests_hand (q ∷ ps))
  guests_took x p q ps takes =
      let one = took_one x (view p) (view q) takes in
      let rest : Hand T = guests_hand ps in record {
        same_numbers = ap (λ l. l ++ rest.numbers) one.same_numbers;
        same_seats = refl;
        put = λ t. let a = one.put t in omega (arith, count_append t (view p).put rest.put, count_append t (view q).put rest.put);
        taken = λ t. let a = one.taken t in omega (arith, count_append t (view p).taken rest.taken, count_append t (view q).taken rest.taken);
        from_spare = λ t. let a = one.from_spare t in omega (arith, count_append t (view p).from_spare rest.from_spare, count_append t (view q).from_spare rest.from_spare);
        waits = λ e. absurd (omega arith);
        ahead = λ e. absurd (omega arith);
      }

  pub guests_same : (p q : Guest T) (ps : List (Guest T)) → view q ≡ view p → guests_hand (q ∷ ps) ≡ guests_hand (p ∷ ps)
  guests_same p q ps same =
      let rest : Hand T = guests_hand ps in
      ap (λ (v : Hand T). record { seats = 0; numbers = v.numbers ++ rest.numbers; put = v.put ++ rest.put; taken = v.taken ++ rest.taken; from_spare = v.from_spare ++ rest.from_spare }) same

  -- a steal leaves the numbers
  pub same_hand : (o : Option T) (v w : Hand T) → MatchOption o (w ≡ v) (λ x. TakesFrom v (x ∷ []) w) → (w.numbers ≡ v.numbers) × (w.seats ≡ v.seats)
  same_hand None v w found = (ap (λ h. h.numbers) found, ap (λ h. h.seats) found)
  same_hand (Some x) v w found = (ap (λ h. h.numbers) found.now, ap (λ h. h.seats) found.now)

  each_append : (P : Guest T → Type 0) (ps qs : List (Guest T)) → ((i : ℕ) (p : Guest T) → get_elem? ps i ≡ some p → P p) → ((i : ℕ) (p : Guest T) → get_elem? qs i ≡ some p → P p)
      → (i : ℕ) (p : Guest T) → get_elem? (ps ++ qs) i ≡ some p → P p
  each_append P [] qs these those i p there = those i p there
  each_append P (q ∷ ps) qs these those zero p there = these 0 p there
  each_append P (q ∷ ps) qs these those (suc i) p there = each_append P ps qs (λ j r at. these (suc j) r at) those i p there

  pub guests_joined : (seats : ℕ) (stealer : Thief T) (ps qs : List (Guest T)) → AreGuestsOf seats stealer ps → AreGuestsOf seats stealer qs → AreGuestsOf seats stealer (ps ++ qs)
  guests_joined seats stealer ps qs these those = record {
    some_pass = (let a = these.some_pass in omega (arith, length-append ps qs));
    few = (let a = these.few in let b = those.few in let c = (guests_append ps qs).count in omega (arith, length-append ps qs));
    each = each_append (IsGuestOf seats stealer) ps qs these.each those.each;
  }

  -- the first pass of several, and what it becomes
  pub first_guest : (seats : ℕ) (stealer : Thief T) (ps : List (Guest T)) (p : Guest T) → AreGuestsOf seats stealer ps → p ≡ slice_index_or ps 0 p → IsGuestOf seats stealer p
  first_guest seats stealer [] p guests is = absurd (let some = guests.some_pass in omega arith)
  first_guest seats stealer (q ∷ ps) p guests is = subst (IsGuestOf seats stealer) (sym is) (guests.each 0 q (λ k. some q))

  module _ (seats : ℕ) (stealer : Thief T) (p p' : Guest T) where
    pub guests_after : (ps : List (Guest T)) → AreGuestsOf seats stealer ps → p ≡ slice_index_or ps 0 p → IsPassOf (stealer_deque stealer) p' → (view p').numbers ≡ (view p).numbers → (view p').seats ≡ (view p).seats
        → AreGuestsOf seats stealer (set ps 0 p')
    guests_after [] guests is at same same_seats = absurd (let some = guests.some_pass in omega arith)
    guests_after (q ∷ ps) guests is at same same_seats =
        let was = subst (IsGuestOf seats stealer) (sym is) (guests.each 0 q (λ k. some q)) in
        let numbers : (view p').numbers ≡ (view q).numbers = same ∙ ap (λ (r : Guest T). (view r).numbers) is in record {
          some_pass = guests.some_pass;
          few = (let a = guests.few in let b = ap length numbers in
              omega (arith, length-append (view p').numbers (numbers_of ps), length-append (view q).numbers (numbers_of ps)));
          each = λ i r there. after i r there was;
        }
      where
        after : (i : ℕ) (r : Guest T) → get_elem? (p' ∷ ps) i ≡ some r → IsGuestOf seats stealer p → IsGuestOf seats stealer r
        after zero r there was = subst (IsGuestOf seats stealer) (some-injective p' r there) (record { deque = at; fifo = was.fifo; seats_are = same_seats ∙ was.seats_are; holds = subst (λ l. 0 < length l) (sym same) was.holds })
        after (suc i) r there was = guests.each (suc i) r there

    pub guests_found : (o : Option T) (ps : List (Guest T)) → AreGuestsOf seats stealer ps → p ≡ slice_index_or ps 0 p → MatchOption o (view p' ≡ view p) (λ x. TakesFrom (view p) (x ∷ []) (view p'))
        → MatchOption o ((guests_hand (set ps 0 p') ≡ guests_hand ps) × Learns (guests_hand ps) []) (λ x. TookOne x (guests_hand ps) (guests_hand (set ps 0 p')))
    guests_found o [] guests is found = absurd (let some = guests.some_pass in omega arith)
    guests_found None (q ∷ ps) guests is found = (
      guests_same q p' ps (found ∙ ap view is),
      record {
        balance = λ whole. absurd (let a = guests.few in let b = guests.some_pass in omega arith);
        in_order = λ one. absurd (omega arith);
      },
    )
    guests_found (Some x) (q ∷ ps) guests is found = guests_took x q p' ps (subst (λ (r : Guest T). TakesFrom (view r) (x ∷ []) (view p')) is found)
