-- What a seat did at all queues, seen as an account.
use Rattle.std.proofs.Common.{◌≡◌, ℕ, zero, suc, ◌+◌, ◌≤◌, inl, inr, Bool, List, [], ◌∷◌, ◌++◌, length, set, count_by, refl, sym, ap, subst, ◌∙◌, append_assoc, arith}
use Rattle.std.proofs.lemmas.List.{append-nil, drop-append-le}
use Rattle.pls_pool.specs.Accounts.{Takes, Puts, FindsNone, Joins, IsNew}
use Rattle.pls_pool.specs.Hands.{started, putting, taking_spare, waiting, put_by, taken_by, from_spare_by, own_hand, account_at}
use Rattle.pls_pool.specs.TaskRule.{InOrder}
use Rattle.pls_pool.specs.Reaches.{TookOne}
use Rattle.pls_pool.specs.declared.hand.Hand.{Hand}
use Rattle.pls_pool.proofs.Sums.{sum_set, sum_same}
use Rattle.pls_pool.proofs.TaskMoves.{count_push, count_append, count_cons, waits_are}
use mathlib.Core.Option.{some, some-injective, some-ne-none}
use lib.ListN.{get_elem?}

module _ {T : Type 0} where
  pub own_is : (number : ℕ) (hands : List (Hand T)) (v : Hand T) → get_elem? hands number ≡ some v → own_hand number hands ≡ v
  own_is number [] v at = absurd (some-ne-none v (sym at))
  own_is zero (h ∷ hands) v at = some-injective h v at
  own_is (suc number) (h ∷ hands) v at = own_is number hands v at

  pub own_set : (number : ℕ) (hands : List (Hand T)) (v w : Hand T) → get_elem? hands number ≡ some v → own_hand number (set hands number w) ≡ w
  own_set number [] v w at = absurd (some-ne-none v (sym at))
  own_set zero (h ∷ hands) v w at = refl
  own_set (suc number) (h ∷ hands) v w at = own_set number hands v w at

  -- what stays of one hand stays of the seat's own hand
  pub own_same : {A : Type 0} (f : Hand T → A) (number : ℕ) (hands : List (Hand T)) (j : ℕ) (v w : Hand T) → get_elem? hands j ≡ some v → f w ≡ f v → f (own_hand number (set hands j w)) ≡ f (own_hand number hands)
  own_same f number [] j v w at same = refl
  own_same f zero (h ∷ hands) zero v w at same = same ∙ ap f (sym (some-injective h v at))
  own_same f (suc number) (h ∷ hands) zero v w at same = refl
  own_same f zero (h ∷ hands) (suc j) v w at same = refl
  own_same f (suc number) (h ∷ hands) (suc j) v w at same = own_same f number hands j v w at same

  module _ (seats number : ℕ) (hands : List (Hand T)) (spare : List T) where
    own : Hand T
    own = own_hand number hands

    pub put_in : (v : Hand T) (x : T) → get_elem? hands number ≡ some v → spare ≡ [] → (seats ≡ 1 → length v.taken ≤ length v.put)
        → Puts seats x (account_at number hands spare) (account_at number (set hands number (putting (x ∷ []) v)) spare)
    put_in v x at bare ahead =
        let w = putting (x ∷ []) v in
        let was = own_is number hands v at in
        let now = own_set number hands v w at in record {
          same_numbers = own_same (λ h. h.numbers) number hands number v w at refl;
          put = λ p.
              let a = sum_set (λ (u : Hand T). count_by p u.put) hands number v w at in
              let b = sum_same (λ (u : Hand T). count_by p u.from_spare) hands number v w at refl in
              let c = count_push p v.put x in omega arith;
          taken = λ p.
              let a = sum_same (λ (u : Hand T). count_by p u.taken) hands number v w at refl in
              let b = sum_same (λ (u : Hand T). count_by p u.from_spare) hands number v w at refl in omega arith;
          aside = inl (bare, bare);
          waits = λ one.
              ap (λ h. waiting h ++ spare) now ∙ ap (λ l. waiting w ++ l) bare ∙ append-nil (waiting w) ∙ drop-append-le (length v.taken) v.put (x ∷ []) (ahead one)
              ∙ ap (λ l. l ++ x ∷ []) (sym (append-nil (waiting v))) ∙ ap (λ l. (waiting v ++ l) ++ x ∷ []) (sym bare) ∙ ap (λ h. (waiting h ++ spare) ++ x ∷ []) (sym was);
        }

    pub put_beside : (x : T) → Puts seats x (account_at number hands spare) (account_at number hands (spare ++ x ∷ []))
    put_beside x = record {
      same_numbers = refl;
      put = λ p. let c = count_push p spare x in omega arith;
      taken = λ p. refl;
      aside = inr refl;
      waits = λ one. sym (append_assoc (waiting (own_hand number hands)) spare (x ∷ []));
    }

    pub took : (j : ℕ) (v w : Hand T) (x : T) → get_elem? hands j ≡ some v → TookOne x v w → (seats ≡ 1 → (j ≡ number) × (v.seats ≡ 1))
        → Takes seats x (account_at number hands spare) (account_at number (set hands j w) spare)
    took j v w x at takes alone = record {
      same_numbers = own_same (λ h. h.numbers) number hands j v w at takes.same_numbers;
      put = λ p.
          let a = sum_same (λ (u : Hand T). count_by p u.put) hands j v w at (takes.put p) in
          let b = sum_same (λ (u : Hand T). count_by p u.from_spare) hands j v w at (takes.from_spare p) in omega arith;
      taken = λ p.
          let a = sum_set (λ (u : Hand T). count_by p u.taken) hands j v w at in
          let b = sum_same (λ (u : Hand T). count_by p u.from_spare) hands j v w at (takes.from_spare p) in
          let c = takes.taken p in omega arith;
      aside = inl refl;
      waits = λ one.
          let here : get_elem? hands number ≡ some v = subst (λ (k : ℕ). get_elem? hands k ≡ some v) (alone one).0 at in
          ap (λ h. waiting h ++ spare) (own_is number hands v here) ∙ ap (λ l. l ++ spare) (takes.waits (alone one).1)
          ∙ ap (λ l. x ∷ (l ++ spare)) (ap waiting (sym (own_set number hands v w here)) ∙ ap (λ k. waiting (own_hand number (set hands k w))) (sym (alone one).0));
    }

    pub took_spare : (v : Hand T) (x : T) (rest : List T) → get_elem? hands number ≡ some v → spare ≡ x ∷ rest → (seats ≡ 1 → InOrder [] v)
        → Takes seats x (account_at number hands spare) (account_at number (set hands number (taking_spare x v)) rest)
    took_spare v x rest at front order =
        let w = taking_spare x v in
        let was = own_is number hands v at in
        let now = own_set number hands v w at in record {
          same_numbers = own_same (λ h. h.numbers) number hands number v w at refl;
          put = λ p.
              let a = sum_same (λ (u : Hand T). count_by p u.put) hands number v w at refl in
              let b = sum_set (λ (u : Hand T). count_by p u.from_spare) hands number v w at in
              let c = count_push p v.from_spare x in
              let d = ap (count_by p) front in
              let e = count_cons p x rest in omega arith;
          taken = λ p.
              let a = sum_same (λ (u : Hand T). count_by p u.taken) hands number v w at refl in
              let b = sum_set (λ (u : Hand T). count_by p u.from_spare) hands number v w at in
              let c = count_push p v.from_spare x in omega arith;
          aside = inr front;
          waits = λ one.
              let none : waiting v ≡ [] = waits_are [] v (order one) in
              ap (λ h. waiting h ++ spare) was ∙ ap (λ l. l ++ spare) none ∙ front ∙ ap (λ l. x ∷ (l ++ rest)) (sym none) ∙ ap (λ h. x ∷ (waiting h ++ rest)) (sym now);
        }

    pub found_none : (v : Hand T) → get_elem? hands number ≡ some v → spare ≡ [] → (length v.numbers ≡ seats → (p : T → Bool) → put_by p hands ≡ taken_by p hands) → (seats ≡ 1 → InOrder [] v)
        → FindsNone seats (account_at number hands spare) (account_at number hands spare)
    found_none v at bare even order = record {
      same = refl;
      bare = bare;
      even = λ all p.
          let balance = even (ap (λ h. length h.numbers) (sym (own_is number hands v at)) ∙ all) p in
          let none : count_by p spare ≡ 0 = ap (count_by p) bare in omega arith;
      waits = λ one. ap (λ h. waiting h ++ spare) (own_is number hands v at) ∙ ap (λ l. l ++ spare) (waits_are [] v (order one)) ∙ bare;
    }

    pub joined : (number2 : ℕ) (hands2 hands3 : List (Hand T)) (spare2 : List T)
        → (own_hand number hands3).numbers ≡ (own_hand number hands).numbers ++ (own_hand number2 hands2).numbers
        → ((p : T → Bool) → put_by p hands3 ≡ put_by p hands + put_by p hands2)
        → ((p : T → Bool) → taken_by p hands3 ≡ taken_by p hands + taken_by p hands2)
        → ((p : T → Bool) → from_spare_by p hands3 ≡ from_spare_by p hands + from_spare_by p hands2)
        → Joins (account_at number hands spare) (account_at number2 hands2 spare2) (account_at number hands3 (spare ++ spare2))
    joined number2 hands2 hands3 spare2 numbers put taken from_spare = record {
      numbers = numbers;
      put = λ p. let a = put p in let b = from_spare p in let c = count_append p spare spare2 in omega arith;
      taken = λ p. let a = taken p in let b = from_spare p in omega arith;
      spare = refl;
    }

-- a seat that has done nothing
pub started_new : {T : Type 0} (v : Hand T) (spare : List T) (seats k : ℕ) → v ≡ started seats (k ∷ []) → spare ≡ [] → IsNew k (account_at 0 (v ∷ []) spare)
started_new {T} v spare seats k is bare =
    subst (λ (x : Hand T × List T). IsNew k (account_at 0 (x.0 ∷ []) x.1)) (λ i. (sym is i, sym bare i)) (record { numbers = refl; put = λ p. refl; taken = λ p. refl; spare = refl; waiting = refl })
