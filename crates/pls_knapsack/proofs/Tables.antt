-- A table with the amounts of each item, and the rows that it stands for.
use Rattle.std.proofs.Common.{◌≡◌, ℕ, ◌+◌, ◌-◌, ◌*◌, ◌<◌, ◌≤◌, List, [], ◌∷◌, ◌++◌, length, map, take, drop, replicate, slice_index, slice_index_or, suc, zero, ap, sym, ◌∙◌, inl, inr, arith, length-append, length-drop}
use Rattle.std.specs.List.{range_with_len, flat_map}
use Rattle.std.proofs.Math.ListN.{get_or-map}
use Rattle.std.proofs.Math.Nat.{mul-le-mul_right}
use Rattle.std.proofs.Math.Seq.{get_or-append_seam, get_or-append_right}
use Rattle.std.proofs.lemmas.Bool.{cases_lt, cases_eq}
use Rattle.std.proofs.lemmas.Grind.{flat_map-append}
use Rattle.std.proofs.lemmas.List.{append-nil, ext_get_or, get_or_append_left, get_or-drop, get_or-take, get_or_past, get_or-replicate, length-map, length-replicate, length-take-le, take-append-drop}
use Rattle.pls_knapsack.specs.declared.knapsack.amounts.Amounts.{Amounts}
use Rattle.pls_knapsack.specs.Table.{item_at, IsTableOf, by_rows}
use Rattle.pls_vectors.proofs.Ranges.{range_with_len-suc}

-- what holds of each item of a table, and of one more
item_at-more :
    (Q : ℕ → Amounts → Type 0) (table : List Amounts) (n : ℕ) (a : Amounts) → length table ≡ n
    → ((item : ℕ) → item < n → Q item (item_at table item)) → Q n a
    → (item : ℕ) → item < n + 1 → Q item (item_at (table ++ a ∷ []) item)
item_at-more Q table n a long each here item within =
    elim (cases_eq item n) [
      | inl same ↦
          let at : item ≡ length table = same ∙ sym long in
          let is : item_at (table ++ a ∷ []) item ≡ a = ap (λ i. item_at (table ++ a ∷ []) i) at ∙ get_or-append_seam table a [] _ in
          rw (is, same) here
      | inr other ↦ rw (get_or_append_left table (a ∷ []) _ item (omega arith)) (each item (omega arith))
    ]

-- one more item in a table
pub IsTableOf-push :
    (items n : ℕ) (profits weights : List ℕ) (table : List Amounts) (a : Amounts) → IsTableOf items n profits weights table
    → ((row : ℕ) → row < 4 → slice_index a.profits row ≡ slice_index profits (row * items + n))
    → ((row : ℕ) → row < 8 → slice_index a.weights row ≡ slice_index weights (row * items + n))
    → IsTableOf items (n + 1) profits weights (table ++ a ∷ [])
IsTableOf-push items n profits weights table a is profits_of weights_of =
    record {
      long = let was = is.long in simp length-append (omega arith);
      in_profits = λ row item at within.
          item_at-more (λ i x. slice_index x.profits row ≡ slice_index profits (row * items + i)) table n a is.long
          (λ i below. is.in_profits row i at below) (profits_of row at) item within;
      in_weights = λ row item at within.
          item_at-more (λ i x. slice_index x.weights row ≡ slice_index weights (row * items + i)) table n a is.long
          (λ i below. is.in_weights row i at below) (weights_of row at) item within;
    }

-- zeros at every place
pub zeros-at : (m i : ℕ) → slice_index (replicate m 0) i ≡ 0
zeros-at m i =
    elim (cases_lt i m) [
      | inl below ↦ get_or-replicate m i 0 0 below
      | inr past ↦ get_or_past (replicate m 0) i 0 (rw length-replicate past)
    ]

-- zeros after a list change no place
pub padded-at : (xs : List ℕ) (m i : ℕ) → slice_index (xs ++ replicate m 0) i ≡ slice_index xs i
padded-at xs m i =
    elim (cases_lt i (length xs)) [
      | inl below ↦ get_or_append_left xs (replicate m 0) 0 i below
      | inr past ↦ get_or-append_right xs (replicate m 0) i 0 past ∙ (zeros-at m (i - length xs) ∙ sym (get_or_past xs i 0 past))
    ]

-- columns with the numbers of rows give these rows
pub by_rows-is :
    (rows items : ℕ) (columns : List (List ℕ)) (xs : List ℕ) → length columns ≡ items → length xs ≡ rows * items
    → ((row item : ℕ) → row < rows → item < items → slice_index (slice_index_or columns item []) row ≡ slice_index xs (row * items + item))
    → by_rows rows columns ≡ xs
unfolding by_rows
by_rows-is zero items columns xs long all is = ext_get_or 0 [] xs (omega arith) (λ i below. absurd (omega arith))
by_rows-is (suc rows) items columns xs long all is =
    let row_of = λ (row : ℕ). map (λ (column : List ℕ). slice_index column row) columns in
    let before = rows * items in
    let within : before ≤ length xs = omega arith in
    let first : flat_map row_of (range_with_len 0 rows) ≡ take before xs =
    by_rows-is rows items columns (take before xs) long (length-take-le before xs within)
    (λ row item r i.
    let more = mul-le-mul_right items (let least : row + 1 ≤ rows = omega arith in least) in
    is row item (omega arith) i ∙ sym (get_or-take before xs (row * items + item) 0 (omega arith))) in
    let last : row_of rows ≡ drop before xs =
    ext_get_or 0 (row_of rows) (drop before xs) (let cut = length-drop before xs in length-map columns _ ∙ omega arith)
    (λ i below.
    let in_it : i < items = let same = length-map columns (λ (column : List ℕ). slice_index column rows) in omega arith in
    get_or-map (λ (column : List ℕ). slice_index column rows) columns i []
    ∙ (is rows i (omega arith) in_it ∙ sym (get_or-drop before xs i 0))) in
    ap (λ numbers. flat_map row_of numbers) (range_with_len-suc 0 rows rows (omega arith))
    ∙ (flat_map-append row_of (range_with_len 0 rows) (rows ∷ [])
    ∙ (ap (λ front. front ++ (row_of rows ++ [])) first
    ∙ (ap (λ back. take before xs ++ back) (append-nil (row_of rows) ∙ last) ∙ take-append-drop before xs)))
