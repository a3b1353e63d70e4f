-- The accepting entries that the callers' lists have at one stamp are those of the observed prefix, whose stamps are its places.
use Rattle.std.proofs.Common.{◌≡◌, ◌⊎◌, ◌≢◌, ℕ, suc, ◌+◌, ◌<◌, ◌≤◌, ◌==◌, true, false, List, [], ◌∷◌, ◌++◌, length, filter, flat_map, refl, ap, ap₂, sym, subst, ◌∙◌, arith, inl, inr, length-append}
use Rattle.std.proofs.lemmas.Bool.{eq-eqb, ne_eqb}
use Rattle.std.proofs.lemmas.Bool.Decides.{eqb_tells}
use Rattle.pls_archive.specs.declared.point.Point.{Point}
use Rattle.pls_archive.specs.declared.call.Call.{Call}
use Rattle.pls_archive.specs.declared.call.Reply.{Reply}
use Rattle.pls_archive.specs.declared.call.Entry.{Entry}
use Rattle.pls_archive.specs.Lists.{Every, one_if}
use Rattle.pls_archive.specs.History.{accepts, accepting, next_entry, ContinuesLegally, IsLegal}
use Rattle.pls_archive.specs.Serialization.{accepting_at}
use Rattle.pls_archive.specs.View.{IsObserved, IsListOf, of_caller}
use Rattle.pls_archive.proofs.Every.{Every-map, Every-append, Every-left, Every-right, filter-keep, filter-skip, filter-all, filter-none}
use Rattle.pls_archive.proofs.ViewsFilters.{filter-both, filter-turned}
use Rattle.pls_archive.proofs.SequentialCalls.{ContinuesLegally-right}

-- the entries of a list with this stamp
abbrev pub with_stamp : ℕ → List Entry → List Entry
with_stamp k es = filter (λ e. e.stamp == k) es

-- stamps that count on from n
abbrev pub AreNumbered : ℕ → List Entry → Type 0
AreNumbered n [] = Unit {0}
AreNumbered n (e ∷ es) = (e.stamp ≡ suc n) × AreNumbered (suc n) es

pub with_stamp-before : (n k : ℕ) (es : List Entry) → AreNumbered n es → k ≤ n → with_stamp k es ≡ []
with_stamp-before n k [] h below = refl
with_stamp-before n k (e ∷ es) h below =
    let apart : e.stamp ≢ k = (λ same. omega (arith, same, h.0, below)) in
    filter-skip (λ e. e.stamp == k) e es (ne_eqb e.stamp k apart) ∙ with_stamp-before (suc n) k es h.1 (omega arith)

pub with_stamp-after : (n k : ℕ) (es : List Entry) → AreNumbered n es → n + length es < k → with_stamp k es ≡ []
with_stamp-after n k [] h above = refl
with_stamp-after n k (e ∷ es) h above =
    let apart : e.stamp ≢ k = (λ same. omega (arith, same, h.0, above)) in
    filter-skip (λ e. e.stamp == k) e es (ne_eqb e.stamp k apart) ∙ with_stamp-after (suc n) k es h.1 (omega arith)

pub AreNumbered-above : (n : ℕ) (es : List Entry) → AreNumbered n es → Every (λ e. n < e.stamp) es
AreNumbered-above n [] h = tt
AreNumbered-above n (e ∷ es) h =
    let rest = AreNumbered-above (suc n) es h.1 in
    (omega (arith, h.0), Every-map (λ (e : Entry). suc n < e.stamp) (λ e. n < e.stamp) (λ e lt. omega (arith, lt)) es rest)

pub with_stamp-at :
    (n k : ℕ) (before : List Entry) (e : Entry) (later : List Entry) → AreNumbered n (before ++ e ∷ later) → k ≡ suc (n + length before)
    → with_stamp k (before ++ e ∷ later) ≡ e ∷ []
with_stamp-at n k [] e later h at =
    let same : e.stamp ≡ k = omega (arith, h.0, at) in
    filter-keep (λ e. e.stamp == k) e later (eq-eqb e.stamp k same)
    ∙ ap (λ l. e ∷ l) (with_stamp-before (suc n) k later h.1 (omega arith))
with_stamp-at n k (d ∷ before) e later h at =
    let apart : d.stamp ≢ k = (λ same. omega (arith, same, h.0, at)) in
    filter-skip (λ e. e.stamp == k) d (before ++ e ∷ later) (ne_eqb d.stamp k apart)
    ∙ with_stamp-at (suc n) k before e later h.1 (omega arith)

module _ (reply : List Point → Call → Reply) where
  -- a history whose entries all accept is numbered by its places
  AreNumbered-legal :
      (before es : List Entry) → Every (λ e. accepts e ≡ true) before → Every (λ e. accepts e ≡ true) es
      → ContinuesLegally reply before es → AreNumbered (length before) es
  AreNumbered-legal before [] all_before all legal = tt
  AreNumbered-legal before (e ∷ es) all_before all legal =
      let more = Every-append (λ (e : Entry). accepts e ≡ true) before (e ∷ []) all_before (all.0, tt) in
      let rest = AreNumbered-legal (before ++ e ∷ []) es more all.1 legal.1 in
      let long : length (before ++ e ∷ []) ≡ suc (length before) = omega (arith, length-append before (e ∷ [])) in
      (numbered, subst (λ n. AreNumbered n es) long rest)
    where
      numbered : e.stamp ≡ suc (length before)
      numbered =
          let due = next_entry reply e.caller before e.call in
          let accepted : accepts due ≡ true = ap accepts (sym legal.0) ∙ all.0 in
          let counted : length (accepting before) ≡ length before = ap length (filter-all accepts before all_before) in
          let one : one_if (accepts due) ≡ one_if true = ap one_if accepted in
          let stamp : e.stamp ≡ length (accepting before) + one_if (accepts due) = ap (λ (e : Entry). e.stamp) legal.0 in
          omega arith

  -- and so is an observed prefix, from each of its places on
  pub AreNumbered-observed :
      (started : ℕ) (seen before later : List Entry) → IsObserved reply started seen → before ++ later ≡ seen → AreNumbered (length before) later
  AreNumbered-observed started seen before later observed split =
      let all = subst (Every (λ (e : Entry). accepts e ≡ true)) (sym split) observed.accepted in
      let legal = ContinuesLegally-right reply [] before later (subst (IsLegal reply) (sym split) observed.legal) in
      AreNumbered-legal before later (Every-left (λ (e : Entry). accepts e ≡ true) before later all)
      (Every-right (λ (e : Entry). accepts e ≡ true) before later all) legal

  module _ (seen : List Entry) where
    -- the lists of the callers c, c + 1 and so on
    abbrev pub AreListsOf : ℕ → List (List Entry) → Type 0
    AreListsOf c [] = Unit {0}
    AreListsOf c (es ∷ lists) = IsListOf reply seen c es × AreListsOf (suc c) lists

    module _ (k : ℕ) where
      -- a caller's accepting entries with a stamp are those of the prefix that name it
      pub accepting_at-told :
          (c : ℕ) (es : List Entry) → IsListOf reply seen c es → accepting_at k es ≡ of_caller c (with_stamp k seen)
      accepting_at-told c es h =
          filter-both accepts (λ e. e.stamp == k) es
          ∙ (ap (with_stamp k) h.told ∙ filter-turned (λ e. e.caller == c) (λ e. e.stamp == k) seen)

      -- where those of the prefix name earlier callers alone, there are none
      pub accepting_at-none :
          (c : ℕ) (lists : List (List Entry)) → AreListsOf c lists → Every (λ e. e.caller < c) (with_stamp k seen)
          → flat_map (accepting_at k) lists ≡ []
      accepting_at-none c [] h earlier = refl
      accepting_at-none c (es ∷ lists) h earlier =
          let other : (e : Entry) → e.caller < c → (e.caller == c) ≡ false = (λ e lt. ne_eqb e.caller c (λ same. omega (arith, same, lt))) in
          let apart = Every-map (λ (e : Entry). e.caller < c) (λ e. (e.caller == c) ≡ false) other (with_stamp k seen) earlier in
          let later = Every-map (λ (e : Entry). e.caller < c) (λ e. e.caller < suc c) (λ e lt. omega (arith, lt)) (with_stamp k seen) earlier in
          let first = accepting_at-told c es h.0 ∙ filter-none (λ e. e.caller == c) (with_stamp k seen) apart in
          ap₂ (λ xs ys. xs ++ ys) first (accepting_at-none (suc c) lists h.1 later)

      -- where there is one, one of the callers has it
      pub accepting_at-one :
          (c : ℕ) (lists : List (List Entry)) (e : Entry) → AreListsOf c lists → with_stamp k seen ≡ e ∷ []
          → c ≤ e.caller → e.caller < c + length lists → flat_map (accepting_at k) lists ≡ e ∷ []
      accepting_at-one c [] e h one from to = absurd (omega (arith, from, to))
      accepting_at-one c (es ∷ lists) e h one from to =
          let told = accepting_at-told c es h.0 ∙ ap (of_caller c) one in
          by_cases told (eqb_tells e.caller c) (λ later. accepting_at-one (suc c) lists e h.1 one later (omega (arith, to)))
        where
          by_cases :
              accepting_at k es ≡ of_caller c (e ∷ []) → (((e.caller == c) ≡ true) × (e.caller ≡ c)) ⊎ (((e.caller == c) ≡ false) × (e.caller ≢ c))
              → (suc c ≤ e.caller → flat_map (accepting_at k) lists ≡ e ∷ []) → flat_map (accepting_at k) (es ∷ lists) ≡ e ∷ []
          by_cases told (inl here) rest =
              let mine = told ∙ filter-keep (λ e. e.caller == c) e [] here.0 in
              let earlier : Every (λ e. e.caller < suc c) (with_stamp k seen) =
              subst (Every (λ e. e.caller < suc c)) (sym one) (omega (arith, here.1), tt) in
              ap₂ (λ xs ys. xs ++ ys) mine (accepting_at-none (suc c) lists h.1 earlier)
          by_cases told (inr there) rest =
              let mine = told ∙ filter-skip (λ e. e.caller == c) e [] there.0 in
              ap₂ (λ xs ys. xs ++ ys) mine (rest (omega (arith, from, there.1)))
