-- A legal history of one caller is lawful as the only list.
use Rattle.std.proofs.Common.{◌≡◌, ◌⊎◌, ℕ, suc, ◌+◌, ◌<◌, ◌≤◌, Bool, true, false, ◌&&◌, ◌==◌, nat_lt, nat_le, List, [], ◌∷◌, ◌++◌, length, refl, ap, sym, subst, ◌∙◌, append_assoc, arith, length-append, if◌then◌else◌, inl, inr, le-leb, lt-ltb, le-ltb, eq-eqb, ne_eqb}
use Rattle.std.proofs.lemmas.Bool.{lt-leb, cases_lt, cases_Bool, cases_order, and_from, and_left, and_right}
use Rattle.std.proofs.lemmas.List.{append-nil}
use Rattle.std.proofs.lemmas.List.Elements.{filter-append}
use Rattle.pls_archive.specs.declared.point.Point.{Point}
use Rattle.pls_archive.specs.declared.call.Call.{Call}
use Rattle.pls_archive.specs.declared.call.Reply.{Reply}
use Rattle.pls_archive.specs.declared.call.Entry.{Entry}
use Rattle.pls_archive.specs.Lists.{Every, one_if}
use Rattle.pls_archive.specs.History.{accepts, accepting, next_entry, ContinuesLegally, IsLegal}
use Rattle.pls_archive.specs.Serialization.{accepting_at, IsRising, AreSequentiallyConsistent}
use Rattle.pls_archive.proofs.Every.{Every-map, filter-keep, filter-skip}
use Rattle.pls_archive.proofs.OwnOrder.{serialization-alone}

-- ---- how many entries of a history accept

pub length-accepting : (xs ys : List Entry) → length (accepting (xs ++ ys)) ≡ length (accepting xs) + length (accepting ys)
length-accepting xs ys = ap length (filter-append accepts xs ys) ∙ length-append (accepting xs) (accepting ys)

length-accepting_one : (e : Entry) → length (accepting (e ∷ [])) ≡ one_if (accepts e)
length-accepting_one e = split (accepts e)
  where
    split : (b : Bool) → length (if b then e ∷ [] else []) ≡ one_if b
    split true = refl
    split false = refl

length-accepting_more : (history : List Entry) (e : Entry) → length (accepting (history ++ e ∷ [])) ≡ length (accepting history) + one_if (accepts e)
length-accepting_more history e = length-accepting history (e ∷ []) ∙ ap (λ (n : ℕ). length (accepting history) + n) (length-accepting_one e)

-- ---- the stamps of entries that go on legally

-- the numbers after m up to n
abbrev is_after : ℕ → ℕ → ℕ → Bool
is_after m n k = nat_lt m k && nat_le k n

is_after-yes : (m n k : ℕ) → m < k → k ≤ n → is_after m n k ≡ true
is_after-yes m n k low high = and_from (nat_lt m k) (nat_le k n) (lt-ltb m k low) (le-leb k n high)

is_after-low : (m n k : ℕ) → k ≤ m → is_after m n k ≡ false
is_after-low m n k low = and_left (nat_lt m k) (nat_le k n) (le-ltb m k low)

is_after-more : (m n k : ℕ) → suc m < k → is_after (suc m) n k ≡ is_after m n k
is_after-more m n k more = ap (λ (b : Bool). b && nat_le k n) (lt-ltb (suc m) k more ∙ sym (lt-ltb m k (omega arith)))

module _ (k : ℕ) (e : Entry) (es : List Entry) where
  accepting_here :
      (m n : ℕ) → accepts e ≡ true → e.stamp ≡ suc m → length (accepting_at k es) ≡ one_if (is_after (suc m) n k) → suc m ≤ n
      → (k ≡ suc m) ⊎ ((k < suc m) ⊎ (suc m < k)) → length (accepting_at k (e ∷ es)) ≡ one_if (is_after m n k)
  accepting_here m n accepted here rest le (inl same) =
      let kept = ap length (filter-keep (λ d. accepts d && (d.stamp == k)) e es (and_from (accepts e) (e.stamp == k) accepted (eq-eqb e.stamp k (omega arith)))) in
      let later : one_if (is_after (suc m) n k) ≡ one_if false = ap one_if (is_after-low (suc m) n k (omega arith)) in
      let counted : one_if (is_after m n k) ≡ one_if true = ap one_if (is_after-yes m n k (omega arith) (omega arith)) in
      omega arith
  accepting_here m n accepted here rest le (inr (inl low)) =
      ap length (filter-skip (λ d. accepts d && (d.stamp == k)) e es (and_right (accepts e) (e.stamp == k) (ne_eqb e.stamp k (λ same. omega arith))))
      ∙ (rest ∙ ap one_if (is_after-low (suc m) n k (omega arith) ∙ sym (is_after-low m n k (omega arith))))
  accepting_here m n accepted here rest le (inr (inr high)) =
      ap length (filter-skip (λ d. accepts d && (d.stamp == k)) e es (and_right (accepts e) (e.stamp == k) (ne_eqb e.stamp k (λ same. omega arith))))
      ∙ (rest ∙ ap one_if (is_after-more m n k high))

module _ (reply : List Point → Call → Reply) where
  pub stamp-legal :
      (history : List Entry) (e : Entry) → e ≡ next_entry reply e.caller history e.call
      → e.stamp ≡ length (accepting history) + one_if (accepts e)
  stamp-legal history e due =
      subst (λ (d : Entry). d.stamp ≡ length (accepting history) + one_if (accepts d)) (sym due) refl

  -- they are greater than what came before
  above-legal :
      (history es : List Entry) → ContinuesLegally reply history es
      → Every (λ e. length (accepting history) + one_if (accepts e) ≤ e.stamp) es
  above-legal history [] legal = tt
  above-legal history (e ∷ es) legal =
      let here = stamp-legal history e legal.0 in
      let more = length-accepting_more history e in (
        omega arith,
        Every-map (λ d. length (accepting (history ++ e ∷ [])) + one_if (accepts d) ≤ d.stamp) (λ d. length (accepting history) + one_if (accepts d) ≤ d.stamp)
            (λ d h. omega arith) es (above-legal (history ++ e ∷ []) es legal.1),
      )

  pub rising-legal : (history es : List Entry) → ContinuesLegally reply history es → IsRising es
  rising-legal history [] legal = tt
  rising-legal history (e ∷ es) legal =
      let here = stamp-legal history e legal.0 in
      let more = length-accepting_more history e in (
        Every-map (λ d. length (accepting (history ++ e ∷ [])) + one_if (accepts d) ≤ d.stamp) (λ d. e.stamp + one_if (accepts d) ≤ d.stamp)
            (λ d h. omega arith) es (above-legal (history ++ e ∷ []) es legal.1),
        rising-legal (history ++ e ∷ []) es legal.1,
      )

  pub within-legal :
      (history es : List Entry) → ContinuesLegally reply history es → Every (λ e. e.stamp ≤ length (accepting (history ++ es))) es
  within-legal history [] legal = tt
  within-legal history (e ∷ es) legal =
      let here = stamp-legal history e legal.0 in
      let more = length-accepting_more history e in
      let all = length-accepting (history ++ e ∷ []) es in
      let same = append_assoc history (e ∷ []) es in
      subst (λ (h : List Entry). Every (λ d. d.stamp ≤ length (accepting h)) (e ∷ es)) same
      (omega arith, within-legal (history ++ e ∷ []) es legal.1)

  -- each accepting entry has the next stamp
  pub stamped-legal :
      (history es : List Entry) → ContinuesLegally reply history es
      → (k : ℕ) → length (accepting_at k es) ≡ one_if (is_after (length (accepting history)) (length (accepting (history ++ es))) k)
  stamped-legal history [] legal k =
      let none : length (accepting (history ++ [])) ≡ length (accepting history) = ap (λ (h : List Entry). length (accepting h)) (append-nil history) in
      ap one_if (sym (is_after-none (length (accepting history)) (length (accepting (history ++ []))) none))
    where
      is_after-none : (m n : ℕ) → n ≡ m → is_after m n k ≡ false
      is_after-none m n e =
          elim (cases_lt m k) [
            | inl above ↦ and_right (nat_lt m k) (nat_le k n) (lt-leb k n (omega arith))
            | inr below ↦ is_after-low m n k below
          ]
  stamped-legal history (e ∷ es) legal k =
      let m = length (accepting history) in
      let rest = stamped-legal (history ++ e ∷ []) es legal.1 k in
      let here = stamp-legal history e legal.0 in
      let more = length-accepting_more history e in
      let all = length-accepting (history ++ e ∷ []) es in
      let same = ap (λ (h : List Entry). length (accepting h)) (append_assoc history (e ∷ []) es) in
      by_cases (length (accepting (history ++ e ∷ []))) (length (accepting (history ++ e ∷ es)))
      (rest ∙ ap (λ (n : ℕ). one_if (is_after (length (accepting (history ++ e ∷ []))) n k)) same) (omega arith) (cases_Bool (accepts e)) here more
    where
      by_cases :
          (l n : ℕ) → length (accepting_at k es) ≡ one_if (is_after l n k) → l ≤ n → (accepts e ≡ true) ⊎ (accepts e ≡ false)
          → e.stamp ≡ length (accepting history) + one_if (accepts e) → l ≡ length (accepting history) + one_if (accepts e)
          → length (accepting_at k (e ∷ es)) ≡ one_if (is_after (length (accepting history)) n k)
      by_cases l n rest le (inl accepted) here more =
          let one : one_if (accepts e) ≡ one_if true = ap one_if accepted in
          let m = length (accepting history) in
          let next : l ≡ suc m = omega arith in
          accepting_here k e es m n accepted (omega arith) (subst (λ (j : ℕ). length (accepting_at k es) ≡ one_if (is_after j n k)) next rest) (omega arith)
          (cases_order k (suc m))
      by_cases l n rest le (inr refused) here more =
          let none : one_if (accepts e) ≡ one_if false = ap one_if refused in
          let same : l ≡ length (accepting history) = omega arith in
          ap length (filter-skip (λ d. accepts d && (d.stamp == k)) e es (and_left (accepts e) (e.stamp == k) refused))
          ∙ (rest ∙ ap (λ (j : ℕ). one_if (is_after j n k)) same)

  -- a legal history of one caller is lawful as the only list
  pub lawful-one : (es : List Entry) → Every (λ e. e.caller ≡ 0) es → IsLegal reply es → AreSequentiallyConsistent reply (length (accepting es)) (es ∷ [])
  lawful-one es named legal =
      let rising = rising-legal [] es legal in
      let within = within-legal [] es legal in
      let n = length (accepting es) in
      record {
        named = (named, tt);
        stamped = λ k. ap length (append-nil (accepting_at k es)) ∙ stamped-legal [] es legal k;
        within = (within, tt);
        rising = (rising, tt);
        legal = subst (IsLegal reply) (sym (serialization-alone n es rising within)) legal;
      }

  -- and a lawful only list is legal
  pub legal-one : (n : ℕ) (es : List Entry) → AreSequentiallyConsistent reply n (es ∷ []) → IsLegal reply es
  legal-one n es lawful = subst (IsLegal reply) (serialization-alone n es lawful.rising.0 lawful.within.0) lawful.legal
