-- Permutations with entries exchanged, with a stretch reversed, and stored from a list, entry by entry.
use Rattle.std.proofs.Common.{◌≡◌, ◌≢◌, ◌⊎◌, inl, inr, ℕ, zero, suc, ◌-◌, ◌+◌, ◌/◌, ◌%◌, ◌^◌, ◌<◌, ◌≤◌, ◌&&◌, nat_le, ◌==◌, if◌then◌else◌, List, [], ◌∷◌, length, map, drop, reverse, replicate, slice_index, refl, ap, sym, ◌∙◌, arith}
use Rattle.std.specs.List.{range_with_len}
use Rattle.std.proofs.Math.Nat.{zero-div}
use Rattle.std.proofs.lemmas.Bool.{cases_eq, cases_lt}
use Rattle.std.proofs.lemmas.List.{ext_get_or, get_or-reverse, length-reverse, get_or-replicate, get_or_past, drop_more, drop_all}
use Rattle.std.proofs.lemmas.List.FromFn.{length-map-range_with_len, get_or-map-range_with_len, length-range_with_len}
use Rattle.pls_vectors.specs.Solution.{Solution, no_items, byte, entry, entries, with_entry, with_entries, stored, order, swapped, reversed}
use Rattle.pls_vectors.proofs.Entries.{HasWords, words-with_entry, HasWords-with_entry, entry-below, entry-with_entry_same, entry-with_entry_other, solutions_same}

-- the place whose entry stands at place k once entries i and j are exchanged
unfoldable pub exchange : ℕ → ℕ → ℕ → ℕ
exchange i j k = if k == j then i else if k == i then j else k

pub exchange-second : (i j k : ℕ) → k ≡ j → exchange i j k ≡ i
unfolding exchange
exchange-second i j k at = grind arith

pub exchange-first : (i j k : ℕ) → k ≡ i → exchange i j k ≡ j
unfolding exchange
exchange-first i j k at = grind arith

pub exchange-other : (i j k : ℕ) → k ≢ i → k ≢ j → exchange i j k ≡ k
unfolding exchange
exchange-other i j k first second = grind arith

-- the place whose entry stands at place k once the stretch from i to j is reversed
unfoldable pub mirror : ℕ → ℕ → ℕ → ℕ
mirror i j k = if nat_le i k && nat_le k j then i + j - k else k

pub mirror-inside : (i j k : ℕ) → i ≤ k → k ≤ j → mirror i j k ≡ i + j - k
unfolding mirror
mirror-inside i j k low high = grind arith

pub mirror-before : (i j k : ℕ) → k < i → mirror i j k ≡ k
unfolding mirror
mirror-before i j k before = grind arith

pub mirror-after : (i j k : ℕ) → j < k → mirror i j k ≡ k
unfolding mirror
mirror-after i j k after = grind arith

-- entries written from a list
HasWords-with_entries :
    (s : Solution) (i : ℕ) (xs : List ℕ) → HasWords s → i + length xs ≤ 256 → ((k : ℕ) → slice_index xs k < 256)
    → HasWords (with_entries s i xs)
unfolding with_entries
HasWords-with_entries s i [] has within small = has
HasWords-with_entries s i (x ∷ xs) has within small =
    HasWords-with_entries (with_entry s i x) (i + 1) xs (HasWords-with_entry s i x has (omega arith) (small 0)) (omega arith) (λ k. small (suc k))

len-with_entries : (s : Solution) (i : ℕ) (xs : List ℕ) → (with_entries s i xs).len ≡ s.len
unfolding with_entries with_entry
len-with_entries s i [] = refl
len-with_entries s i (x ∷ xs) = len-with_entries (with_entry s i x) (i + 1) xs

entry-with_entries_outside :
    (s : Solution) (i : ℕ) (xs : List ℕ) (k : ℕ) → length s.words ≡ 32 → i + length xs ≤ 256 → ((k : ℕ) → slice_index xs k < 256)
    → (k < i) ⊎ (i + length xs ≤ k) → entry (with_entries s i xs) k ≡ entry s k
unfolding with_entries
entry-with_entries_outside s i [] k many within small outside = refl
entry-with_entries_outside s i (x ∷ xs) k many within small outside =
    let apart : k ≢ i = elim outside [ inl before ↦ λ e. absurd (omega arith) | inr after ↦ λ e. absurd (omega arith) ] in
    let further : (k < i + 1) ⊎ (i + 1 + length xs ≤ k) =
    elim outside [ inl before ↦ inl (omega arith) | inr after ↦ inr (omega arith) ] in
    entry-with_entries_outside (with_entry s i x) (i + 1) xs k (words-with_entry s i x many) (omega arith) (λ m. small (suc m)) further
    ∙ entry-with_entry_other s i k x many (omega arith) (small 0) apart

entry-with_entries_inside :
    (s : Solution) (i : ℕ) (xs : List ℕ) (k m : ℕ) → length s.words ≡ 32 → i + length xs ≤ 256 → ((k : ℕ) → slice_index xs k < 256)
    → i + m ≡ k → m < length xs → entry (with_entries s i xs) k ≡ slice_index xs m
unfolding with_entries
entry-with_entries_inside s i [] k m many within small at inside = absurd (omega arith)
entry-with_entries_inside s i (x ∷ xs) k zero many within small at inside =
    let here : k ≡ i = omega arith in
    entry-with_entries_outside (with_entry s i x) (i + 1) xs k (words-with_entry s i x many) (omega arith) (λ m. small (suc m)) (inl (omega arith))
    ∙ (ap (λ p. entry (with_entry s i x) p) here ∙ entry-with_entry_same s i x many (omega arith) (small 0))
entry-with_entries_inside s i (x ∷ xs) k (suc m) many within small at inside =
    entry-with_entries_inside (with_entry s i x) (i + 1) xs k m (words-with_entry s i x many) (omega arith) (λ m. small (suc m)) (omega arith) (omega arith)

-- two entries exchanged
pub HasWords-swapped : (s : Solution) (i j : ℕ) → HasWords s → i < 256 → j < 256 → HasWords (swapped s i j)
unfolding swapped
HasWords-swapped s i j has i_in j_in =
    HasWords-with_entry _ j (entry s i) (HasWords-with_entry s i (entry s j) has i_in (entry-below s j)) j_in (entry-below s i)

pub len-swapped : (s : Solution) (i j : ℕ) → (swapped s i j).len ≡ s.len
unfolding swapped with_entry
len-swapped s i j = refl

pub entry-swapped :
    (s : Solution) (i j k : ℕ) → length s.words ≡ 32 → i < 256 → j < 256 → entry (swapped s i j) k ≡ entry s (exchange i j k)
unfolding swapped
entry-swapped s i j k many i_in j_in =
    let first = words-with_entry s i (entry s j) many in
    elim (cases_eq k j) [
      | inl at ↦
          ap (λ p. entry (with_entry (with_entry s i (entry s j)) j (entry s i)) p) at
          ∙ (entry-with_entry_same _ j (entry s i) first j_in (entry-below s i) ∙ ap (λ p. entry s p) (sym (exchange-second i j k at)))
      | inr second ↦
          entry-with_entry_other _ j k (entry s i) first j_in (entry-below s i) second
          ∙ elim (cases_eq k i) [
            | inl at ↦
                ap (λ p. entry (with_entry s i (entry s j)) p) at
                ∙ (entry-with_entry_same s i (entry s j) many i_in (entry-below s j) ∙ ap (λ p. entry s p) (sym (exchange-first i j k at)))
            | inr other ↦
                entry-with_entry_other s i k (entry s j) many i_in (entry-below s j) other
                ∙ ap (λ p. entry s p) (sym (exchange-other i j k other second))
          ]
    ]

-- a stretch reversed
abbrev stretch : Solution → ℕ → ℕ → List ℕ
stretch s i j = map (λ k. entry s k) (range_with_len i (j + 1 - i))

length-stretch : (s : Solution) (i j : ℕ) → length (reverse (stretch s i j)) ≡ j + 1 - i
length-stretch s i j = length-reverse (stretch s i j) ∙ length-map-range_with_len _ i (j + 1 - i)

stretch-at :
    (s : Solution) (i j m : ℕ) → m < j + 1 - i → slice_index (reverse (stretch s i j)) m ≡ entry s (j - m)
stretch-at s i j m below =
    let long = length-map-range_with_len (λ k. entry s k) i (j + 1 - i) in
    get_or-reverse (stretch s i j) m 0 (omega arith)
    ∙ (ap (λ n. slice_index (stretch s i j) (n - 1 - m)) long
    ∙ get_or-map-range_with_len (λ k. entry s k) i (j + 1 - i) (j + 1 - i - 1 - m) (j - m) 0 (omega arith) (omega arith))

stretch-small : (s : Solution) (i j m : ℕ) → slice_index (reverse (stretch s i j)) m < 256
stretch-small s i j m =
    elim (cases_lt m (j + 1 - i)) [
      | inl below ↦ rw stretch-at (entry-below s (j - m))
      | inr past ↦ (let zero = get_or_past (reverse (stretch s i j)) m 0 (rw length-stretch past) in omega arith)
    ]

pub HasWords-reversed : (s : Solution) (i j : ℕ) → HasWords s → j < 256 → i ≤ j + 1 → HasWords (reversed s i j)
unfolding reversed
HasWords-reversed s i j has within ordered =
    let long = length-stretch s i j in
    HasWords-with_entries s i _ has (omega arith) (stretch-small s i j)

pub len-reversed : (s : Solution) (i j : ℕ) → (reversed s i j).len ≡ s.len
unfolding reversed
len-reversed s i j = len-with_entries s i _

pub entry-reversed :
    (s : Solution) (i j k : ℕ) → length s.words ≡ 32 → j < 256 → i ≤ j + 1 → entry (reversed s i j) k ≡ entry s (mirror i j k)
unfolding reversed
entry-reversed s i j k many within ordered =
    let long = length-stretch s i j in
    elim (cases_lt k i) [
      | inl before ↦
          entry-with_entries_outside s i _ k many (omega arith) (stretch-small s i j) (inl before)
          ∙ ap (λ p. entry s p) (sym (mirror-before i j k before))
      | inr from ↦
          elim (cases_lt j k) [
            | inl after ↦
                entry-with_entries_outside s i _ k many (omega arith) (stretch-small s i j) (inr (omega arith))
                ∙ ap (λ p. entry s p) (sym (mirror-after i j k after))
            | inr upto ↦
                let same : j - (k - i) ≡ i + j - k = omega arith in
                entry-with_entries_inside s i _ k (k - i) many (omega arith) (stretch-small s i j) (omega arith) (omega arith)
                ∙ (stretch-at s i j (k - i) (omega arith) ∙ ap (λ p. entry s p) (same ∙ sym (mirror-inside i j k from upto)))
          ]
    ]

-- the ends of a stretch exchanged, and then what is between them reversed
exchange-mirror : (i j k : ℕ) → i < j → exchange i j (mirror (i + 1) (j - 1) k) ≡ mirror i j k
exchange-mirror i j k less =
    elim (cases_lt k i) [
      | inl before ↦
          ap (λ p. exchange i j p) (mirror-before (i + 1) (j - 1) k (omega arith))
          ∙ (exchange-other i j k (λ e. absurd (omega arith)) (λ e. absurd (omega arith)) ∙ sym (mirror-before i j k before))
      | inr from ↦
          elim (cases_lt j k) [
            | inl after ↦
                ap (λ p. exchange i j p) (mirror-after (i + 1) (j - 1) k (omega arith))
                ∙ (exchange-other i j k (λ e. absurd (omega arith)) (λ e. absurd (omega arith)) ∙ sym (mirror-after i j k after))
            | inr upto ↦
                elim (cases_eq k i) [
                  | inl first ↦
                      ap (λ p. exchange i j p) (mirror-before (i + 1) (j - 1) k (omega arith))
                      ∙ (exchange-first i j k first ∙ (omega arith ∙ sym (mirror-inside i j k from upto)))
                  | inr later ↦
                      elim (cases_eq k j) [
                        | inl last ↦
                            ap (λ p. exchange i j p) (mirror-after (i + 1) (j - 1) k (omega arith))
                            ∙ (exchange-second i j k last ∙ (omega arith ∙ sym (mirror-inside i j k from upto)))
                        | inr earlier ↦
                            let same : i + 1 + (j - 1) - k ≡ i + j - k = omega arith in
                            ap (λ p. exchange i j p) (mirror-inside (i + 1) (j - 1) k (omega arith) (omega arith) ∙ same)
                            ∙ (exchange-other i j (i + j - k) (λ e. absurd (omega arith)) (λ e. absurd (omega arith))
                            ∙ sym (mirror-inside i j k from upto))
                      ]
                ]
          ]
    ]

pub reversed-step :
    (s : Solution) (i j : ℕ) → HasWords s → i < j → j < 256 → reversed (swapped s i j) (i + 1) (j - 1) ≡ reversed s i j
reversed-step s i j has less within =
    let ends = HasWords-swapped s i j has (omega arith) within in
    solutions_same _ _ (HasWords-reversed (swapped s i j) (i + 1) (j - 1) ends (omega arith) (omega arith)) (HasWords-reversed s i j has within (omega arith))
    (len-reversed (swapped s i j) (i + 1) (j - 1) ∙ (len-swapped s i j ∙ sym (len-reversed s i j)))
    (λ k below.
    entry-reversed (swapped s i j) (i + 1) (j - 1) k ends.many (omega arith) (omega arith)
    ∙ (entry-swapped s i j (mirror (i + 1) (j - 1) k) has.many (omega arith) within
    ∙ (ap (λ p. entry s p) (exchange-mirror i j k less) ∙ sym (entry-reversed s i j k has.many within (omega arith)))))

-- a stretch of at most one entry
pub reversed-end : (s : Solution) (i j : ℕ) → HasWords s → j ≤ i → i ≤ j + 1 → i < 256 → reversed s i j ≡ s
reversed-end s i j has past ordered within =
    solutions_same _ _ (HasWords-reversed s i j has (omega arith) ordered) has (len-reversed s i j)
    (λ k below.
    entry-reversed s i j k has.many (omega arith) ordered
    ∙ ap (λ p. entry s p)
    (elim (cases_lt k i) [
      | inl before ↦ mirror-before i j k before
      | inr from ↦
          elim (cases_lt j k) [
            | inl after ↦ mirror-after i j k after
            | inr upto ↦ mirror-inside i j k from upto ∙ omega arith
          ]
    ]))

-- entries written one after another
pub with_entries-range :
    (s : Solution) (i n : ℕ) → i < n
    → with_entries s i (range_with_len i (n - i)) ≡ with_entries (with_entry s i i) (i + 1) (range_with_len (i + 1) (n - (i + 1)))
unfolding with_entries
with_entries-range s i n below =
    let more : n - i ≡ suc (n - (i + 1)) = omega arith in
    ap (λ m. with_entries s i (range_with_len i m)) more

pub with_entries-range_end : (s : Solution) (i n : ℕ) → n ≤ i → with_entries s i (range_with_len i (n - i)) ≡ s
unfolding with_entries
with_entries-range_end s i n past =
    let none : n - i ≡ 0 = omega arith in
    ap (λ m. with_entries s i (range_with_len i m)) none

pub with_entries-drop :
    (s : Solution) (i : ℕ) (xs : List ℕ) → i < length xs
    → with_entries s i (drop i xs) ≡ with_entries (with_entry s i (slice_index xs i)) (i + 1) (drop (i + 1) xs)
unfolding with_entries
with_entries-drop s i xs below = ap (λ ys. with_entries s i ys) (drop_more xs i 0 below)

pub with_entries-drop_end : (s : Solution) (i : ℕ) (xs : List ℕ) → length xs ≤ i → with_entries s i (drop i xs) ≡ s
unfolding with_entries
with_entries-drop_end s i xs past = ap (λ ys. with_entries s i ys) (drop_all i xs past)

-- an order, and a list, before the first entry is written
pub order-begins : (n : ℕ) → with_entries (no_items n) 0 (range_with_len 0 n) ≡ order n
unfolding stored order
order-begins n = ap (λ m. with_entries (no_items m) 0 (range_with_len 0 n)) (sym (length-range_with_len 0 n))

-- a solution of nothing has 32 words
no_word : (k : ℕ) → slice_index (replicate 32 0) k ≡ 0
no_word k =
    elim (cases_lt k 32) [
      | inl below ↦ get_or-replicate {A = ℕ} 32 k 0 0 below
      | inr past ↦ get_or_past (replicate 32 0) k 0 past
    ]

pub HasWords-no_items : (n : ℕ) → HasWords (no_items n)
HasWords-no_items n = record {
  many = refl;
  fit = λ k. (let none = no_word k in omega arith);
}

entry-no_items : (n k : ℕ) → entry (no_items n) k ≡ 0
unfolding entry byte
entry-no_items n k = ap (λ w. w / 256 ^ (k % 8) % 256) (no_word (k / 8)) ∙ ap (λ q. q % 256) (zero-div (256 ^ (k % 8)))

-- what is stored from a list of bytes
module _ (xs : List ℕ) (few : length xs ≤ 256) (small : (k : ℕ) → slice_index xs k < 256) where
  pub HasWords-stored : HasWords (stored xs)
  unfolding stored
  HasWords-stored = HasWords-with_entries (no_items (length xs)) 0 xs (HasWords-no_items (length xs)) (omega arith) small

  pub len-stored : (stored xs).len ≡ length xs
  unfolding stored
  len-stored = len-with_entries (no_items (length xs)) 0 xs

  pub entry-stored : (k : ℕ) → entry (stored xs) k ≡ slice_index xs k
  unfolding stored
  entry-stored k =
      elim (cases_lt k (length xs)) [
        | inl inside ↦ entry-with_entries_inside (no_items (length xs)) 0 xs k k refl (omega arith) small (omega arith) inside
        | inr past ↦
            entry-with_entries_outside (no_items (length xs)) 0 xs k refl (omega arith) small (inr (omega arith))
            ∙ (entry-no_items (length xs) k ∙ sym (get_or_past xs k 0 past))
      ]

  pub entries-stored : entries (stored xs) ≡ xs
  unfolding entries
  entries-stored =
      let long : length (map (λ i. entry (stored xs) i) (range_with_len 0 (stored xs).len)) ≡ length xs =
      length-map-range_with_len (λ i. entry (stored xs) i) 0 (stored xs).len ∙ len-stored in
      let many = len-stored in
      ext_get_or 0 _ xs long
      (λ i below.
      get_or-map-range_with_len (λ i. entry (stored xs) i) 0 (stored xs).len i i 0 (omega arith) (omega arith)
      ∙ entry-stored i)
