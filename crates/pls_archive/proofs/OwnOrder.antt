-- Each caller's list stands in the serialization in its own order.
use Rattle.std.proofs.Common.{◌≡◌, ◌⊎◌, ℕ, zero, suc, ◌+◌, ◌<◌, ◌≤◌, Bool, true, false, ◌&&◌, not, nat_lt, ◌==◌, List, [], ◌∷◌, ◌++◌, filter, Some, refl, ap, sym, subst, ◌∙◌, arith, inl, inr}
use Rattle.std.specs.List.{flat_map}
use Rattle.std.specs.Prelude.{slice_get}
use Rattle.std.proofs.lemmas.Bool.{lt-ltb, le-ltb, eq-eqb, ne_eqb, and_from, and_left, and_right, not_from_true, not_from_false, cases_order, cases_Bool}
use Rattle.std.proofs.lemmas.List.{append-nil}
use Rattle.std.proofs.lemmas.Option.{none-some, same_Some}
use Rattle.std.proofs.lemmas.List.Elements.{filter-append}
use Rattle.pls_archive.specs.declared.point.Point.{Point}
use Rattle.pls_archive.specs.declared.call.Call.{Call}
use Rattle.pls_archive.specs.declared.call.Reply.{Reply}
use Rattle.pls_archive.specs.declared.call.Entry.{Entry}
use Rattle.pls_archive.specs.Lists.{Every, one_if}
use Rattle.pls_archive.specs.History.{accepts}
use Rattle.pls_archive.specs.Serialization.{AreNamed, IsRising, accepting_at, others_at, at_stamp, serialization}
use Rattle.pls_archive.specs.View.{of_caller}
use Rattle.pls_archive.specs.RunLaws.{KeepsOwnOrder}
use Rattle.pls_archive.proofs.Every.{Every-map, Every-filter, Every-get, Every-each, filter-keep, filter-skip, filter-all, filter-none}

-- ---- a list that rises is its entries stamp by stamp

-- the entries of a list with this stamp, as they stand in the serialization, and those with lesser stamps
abbrev own_at : ℕ → List Entry → List Entry
own_at n es = accepting_at n es ++ others_at n es

abbrev below : ℕ → List Entry → List Entry
below n es = filter (λ e. nat_lt e.stamp n) es

-- e may stand after d in a list that rises
abbrev MayFollow : Entry → Entry → Type 0
MayFollow d e = d.stamp + one_if (accepts e) ≤ e.stamp

module _ (d : Entry) (n : ℕ) (same : d.stamp ≡ n) where
  none_below : (es : List Entry) → Every (MayFollow d) es → below n es ≡ []
  none_below es after =
      filter-none (λ e. nat_lt e.stamp n) es
      (Every-map (MayFollow d) (λ e. nat_lt e.stamp n ≡ false) (λ e h. le-ltb e.stamp n (omega arith)) es after)

  none_accepting : (es : List Entry) → Every (MayFollow d) es → accepting_at n es ≡ []
  none_accepting es after =
      filter-none (λ e. accepts e && (e.stamp == n)) es
      (Every-map (MayFollow d) (λ e. (accepts e && (e.stamp == n)) ≡ false) (λ e h. passed (accepts e) e.stamp h) es after)
    where
      passed : (b : Bool) (k : ℕ) → d.stamp + one_if b ≤ k → (b && (k == n)) ≡ false
      passed true k h = ne_eqb k n (λ here. omega arith)
      passed false k h = refl

together :
    {a b c d a' b' c' d' : List Entry} → a ≡ a' → b ≡ b' → c ≡ c' → d ≡ d' → a' ++ (b' ++ c') ≡ d' → a ++ (b ++ c) ≡ d
together {a = a} {b = b} {c = c} {a' = a'} {b' = b'} p q r s h =
    ap (λ xs. xs ++ (b ++ c)) p ∙ (ap (λ xs. a' ++ (xs ++ c)) q ∙ (ap (λ xs. a' ++ (b' ++ xs)) r ∙ (h ∙ sym s)))

-- one entry more at the front, by its stamp
module _ (n : ℕ) (d : Entry) (es : List Entry) (rest : below n es ++ own_at n es ≡ below (suc n) es) where
  abbrev GoesOn : Type 0
  GoesOn = below n (d ∷ es) ++ own_at n (d ∷ es) ≡ below (suc n) (d ∷ es)

  goes_on-lesser : d.stamp < n → GoesOn
  goes_on-lesser lesser =
      let other = ne_eqb d.stamp n (λ same. omega arith) in
      together
      (filter-keep (λ e. nat_lt e.stamp n) d es (lt-ltb d.stamp n lesser))
      (filter-skip (λ e. accepts e && (e.stamp == n)) d es (and_right (accepts d) (d.stamp == n) other))
      (filter-skip (λ e. not (accepts e) && (e.stamp == n)) d es (and_right (not (accepts d)) (d.stamp == n) other))
      (filter-keep (λ e. nat_lt e.stamp (suc n)) d es (lt-ltb d.stamp (suc n) (omega arith)))
      (ap (λ xs. d ∷ xs) rest)

  goes_on-greater : n < d.stamp → GoesOn
  goes_on-greater greater =
      let other = ne_eqb d.stamp n (λ same. omega arith) in
      together
      (filter-skip (λ e. nat_lt e.stamp n) d es (le-ltb d.stamp n (omega arith)))
      (filter-skip (λ e. accepts e && (e.stamp == n)) d es (and_right (accepts d) (d.stamp == n) other))
      (filter-skip (λ e. not (accepts e) && (e.stamp == n)) d es (and_right (not (accepts d)) (d.stamp == n) other))
      (filter-skip (λ e. nat_lt e.stamp (suc n)) d es (le-ltb d.stamp (suc n) (omega arith)))
      rest

  module _ (same : d.stamp ≡ n) (after : Every (MayFollow d) es) where
    goes_on-accepting : accepts d ≡ true → GoesOn
    goes_on-accepting accepted =
        let none = none_below d n same es after in
        let here = eq-eqb d.stamp n same in
        together
        (filter-skip (λ e. nat_lt e.stamp n) d es (le-ltb d.stamp n (omega arith)) ∙ none)
        (filter-keep (λ e. accepts e && (e.stamp == n)) d es (and_from (accepts d) (d.stamp == n) accepted here))
        (filter-skip (λ e. not (accepts e) && (e.stamp == n)) d es (and_left (not (accepts d)) (d.stamp == n) (not_from_true (accepts d) accepted)))
        (filter-keep (λ e. nat_lt e.stamp (suc n)) d es (lt-ltb d.stamp (suc n) (omega arith)))
        (ap (λ xs. d ∷ xs) (sym (ap (λ xs. xs ++ own_at n es) none) ∙ rest))

    goes_on-other : accepts d ≡ false → GoesOn
    goes_on-other other =
        let none = none_below d n same es after in
        let unaccepted = none_accepting d n same es after in
        let is_other = not_from_false (accepts d) other in
        let here = eq-eqb d.stamp n same in
        together
        (filter-skip (λ e. nat_lt e.stamp n) d es (le-ltb d.stamp n (omega arith)) ∙ none)
        (filter-skip (λ e. accepts e && (e.stamp == n)) d es (and_left (accepts d) (d.stamp == n) other) ∙ unaccepted)
        (filter-keep (λ e. not (accepts e) && (e.stamp == n)) d es (and_from (not (accepts d)) (d.stamp == n) is_other here))
        (filter-keep (λ e. nat_lt e.stamp (suc n)) d es (lt-ltb d.stamp (suc n) (omega arith)))
        (ap (λ xs. d ∷ xs) (sym (ap (λ xs. xs ++ own_at n es) none ∙ ap (λ xs. xs ++ others_at n es) unaccepted) ∙ rest))

below-suc : (n : ℕ) (es : List Entry) → IsRising es → below n es ++ own_at n es ≡ below (suc n) es
below-suc n [] rising = refl
below-suc n (d ∷ es) rising = by_stamp (below-suc n es rising.1) (cases_order d.stamp n) (cases_Bool (accepts d))
  where
    by_stamp :
        (rest : below n es ++ own_at n es ≡ below (suc n) es) → (d.stamp ≡ n) ⊎ ((d.stamp < n) ⊎ (n < d.stamp))
        → (accepts d ≡ true) ⊎ (accepts d ≡ false) → GoesOn n d es rest
    by_stamp rest (inl same) (inl accepted) = goes_on-accepting n d es rest same rising.0 accepted
    by_stamp rest (inl same) (inr other) = goes_on-other n d es rest same rising.0 other
    by_stamp rest (inr (inl lesser)) _ = goes_on-lesser n d es rest lesser
    by_stamp rest (inr (inr greater)) _ = goes_on-greater n d es rest greater

-- the entries of a list stamp by stamp, up to stamp n
abbrev pub own_up_to : ℕ → List Entry → List Entry
own_up_to zero es = own_at zero es
own_up_to (suc n) es = own_up_to n es ++ own_at (suc n) es

own_up_to-below : (n : ℕ) (es : List Entry) → IsRising es → own_up_to n es ≡ below (suc n) es
own_up_to-below zero es rising = sym (ap (λ xs. xs ++ own_at zero es) none) ∙ below-suc zero es rising
  where
    none : below 0 es ≡ []
    none = filter-none (λ e. nat_lt e.stamp 0) es (Every-each (λ e. nat_lt e.stamp 0 ≡ false) es (λ e. le-ltb e.stamp 0 (omega arith)))
own_up_to-below (suc n) es rising = ap (λ xs. xs ++ own_at (suc n) es) (own_up_to-below n es rising) ∙ below-suc (suc n) es rising

pub own_up_to-all : (n : ℕ) (es : List Entry) → IsRising es → Every (λ e. e.stamp ≤ n) es → own_up_to n es ≡ es
own_up_to-all n es rising within =
    own_up_to-below n es rising
    ∙ filter-all (λ e. nat_lt e.stamp (suc n)) es
    (Every-map (λ e. e.stamp ≤ n) (λ e. nat_lt e.stamp (suc n) ≡ true) (λ e h. lt-ltb e.stamp (suc n) (omega arith)) es within)

-- one list alone is its own serialization
serialization-own : (n : ℕ) (es : List Entry) → serialization n (es ∷ []) ≡ own_up_to n es
serialization-own n es = by_stamp n
  where
    one_stamp : (k : ℕ) → at_stamp k (es ∷ []) ≡ own_at k es
    one_stamp k = ap (λ xs. xs ++ (others_at k es ++ [])) (append-nil (accepting_at k es)) ∙ ap (λ xs. accepting_at k es ++ xs) (append-nil (others_at k es))

    by_stamp : (k : ℕ) → serialization k (es ∷ []) ≡ own_up_to k es
    by_stamp zero = one_stamp zero
    by_stamp (suc k) = ap (λ xs. xs ++ at_stamp (suc k) (es ∷ [])) (by_stamp k) ∙ ap (λ xs. own_up_to k es ++ xs) (one_stamp (suc k))

pub serialization-alone : (n : ℕ) (es : List Entry) → IsRising es → Every (λ e. e.stamp ≤ n) es → serialization n (es ∷ []) ≡ es
serialization-alone n es rising within = serialization-own n es ∙ own_up_to-all n es rising within

-- ---- the entries of one caller in the serialization

of_caller-append : (c : ℕ) (xs ys : List Entry) → of_caller c (xs ++ ys) ≡ of_caller c xs ++ of_caller c ys
of_caller-append c xs ys = filter-append (λ e. e.caller == c) xs ys

-- among the entries of all callers that pass a test
module _ (test : Entry → Bool) where
  of_caller-own : (c : ℕ) (es : List Entry) → Every (λ e. e.caller ≡ c) es → of_caller c (filter test es) ≡ filter test es
  of_caller-own c es named =
      filter-all (λ e. e.caller == c) (filter test es)
      (Every-map (λ e. e.caller ≡ c) (λ e. (e.caller == c) ≡ true) (λ e h. eq-eqb e.caller c h) (filter test es)
      (Every-filter (λ e. e.caller ≡ c) test es named))

  of_caller-other : (c b : ℕ) (es : List Entry) → (c < b) ⊎ (b < c) → Every (λ e. e.caller ≡ b) es → of_caller c (filter test es) ≡ []
  of_caller-other c b es apart named =
      filter-none (λ e. e.caller == c) (filter test es)
      (Every-map (λ e. e.caller ≡ b) (λ e. (e.caller == c) ≡ false) (λ e h. ne_eqb e.caller c (λ same. omega arith)) (filter test es)
      (Every-filter (λ e. e.caller ≡ b) test es named))

  of_caller-later : (c b : ℕ) (lists : List (List Entry)) → c < b → AreNamed b lists → of_caller c (flat_map (filter test) lists) ≡ []
  of_caller-later c b [] apart named = refl
  of_caller-later c b (es ∷ lists) apart named =
      of_caller-append c (filter test es) (flat_map (filter test) lists)
      ∙ (ap (λ xs. xs ++ of_caller c (flat_map (filter test) lists)) (of_caller-other c b es (inl apart) named.0)
      ∙ of_caller-later c (suc b) lists (omega arith) named.1)

  of_caller-flat_map :
      (c b i : ℕ) (lists : List (List Entry)) (own : List Entry) → b + i ≡ c → AreNamed b lists → slice_get lists i ≡ Some own
      → of_caller c (flat_map (filter test) lists) ≡ filter test own
  of_caller-flat_map c b i [] own place named found = absurd (none-some own found)
  of_caller-flat_map c b zero (es ∷ lists) own place named found =
      of_caller-append c (filter test es) (flat_map (filter test) lists)
      ∙ (ap (λ xs. xs ++ of_caller c (flat_map (filter test) lists)) (of_caller-own c es (subst (λ d. Every (λ e. e.caller ≡ d) es) here named.0))
      ∙ (ap (λ xs. filter test es ++ xs) (of_caller-later c (suc b) lists (omega arith) named.1)
      ∙ (append-nil (filter test es) ∙ ap (filter test) (same_Some es own found))))
    where
      here : b ≡ c
      here = omega arith
  of_caller-flat_map c b (suc i) (es ∷ lists) own place named found =
      of_caller-append c (filter test es) (flat_map (filter test) lists)
      ∙ (ap (λ xs. xs ++ of_caller c (flat_map (filter test) lists)) (of_caller-other c b es (inr (omega arith)) named.0)
      ∙ of_caller-flat_map c (suc b) i lists own (omega arith) named.1 found)

-- so in the serialization a caller has the entries of its list, stamp by stamp
module _ (lists : List (List Entry)) (named : AreNamed 0 lists) (c : ℕ) (es : List Entry) (found : slice_get lists c ≡ Some es) where
  of_caller-at_stamp : (n : ℕ) → of_caller c (at_stamp n lists) ≡ own_at n es
  of_caller-at_stamp n =
      of_caller-append c (flat_map (accepting_at n) lists) (flat_map (others_at n) lists)
      ∙ (ap (λ xs. xs ++ of_caller c (flat_map (others_at n) lists)) (passing (λ e. accepts e && (e.stamp == n)))
      ∙ ap (λ xs. accepting_at n es ++ xs) (passing (λ e. not (accepts e) && (e.stamp == n))))
    where
      passing : (test : Entry → Bool) → of_caller c (flat_map (filter test) lists) ≡ filter test es
      passing test = of_caller-flat_map test c 0 c lists es (omega arith) named found

  of_caller-serialization : (n : ℕ) → of_caller c (serialization n lists) ≡ own_up_to n es
  of_caller-serialization zero = of_caller-at_stamp zero
  of_caller-serialization (suc n) =
      of_caller-append c (serialization n lists) (at_stamp (suc n) lists)
      ∙ (ap (λ xs. xs ++ of_caller c (at_stamp (suc n) lists)) (of_caller-serialization n)
      ∙ ap (λ xs. own_up_to n es ++ xs) (of_caller-at_stamp (suc n)))

pub own_order : (reply : List Point → Call → Reply) → KeepsOwnOrder reply
own_order reply n lists lawful c es found =
    of_caller-serialization lists lawful.named c es found n
    ∙ own_up_to-all n es (Every-get IsRising lists c es found lawful.rising) (Every-get (Every (λ e. e.stamp ≤ n)) lists c es found lawful.within)
