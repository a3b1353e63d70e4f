-- How many rows a call has taken at each of its moments, by what it found. A row that is given back still counts.
use Rattle.std.specs.Prelude.{◌≡◌, ℕ, ◌+◌, ◌<◌, ◌≤◌, Bool, false, nat_lt, nat_le, ◌&&◌, ◌==◌, List, [], ◌∷◌, ◌++◌, take, count_by}
use Rattle.std.specs.List.{list_any}
use Rattle.era_core.specs.declared.sizes.TheConstants.{WIDTH}
use Rattle.era_core.specs.Lists.{times}
use Rattle.era_core.specs.Words.{reservation_at, owner_at, cell_at}
use Rattle.era_rows.specs.Known.{Look}

module _ (passes rows : ℕ) where
  -- the look found a row without an owner, and so took it
  abbrev pub is_take : Look → Bool
  is_take look = nat_le (owner_at passes rows 0) look.0 && nat_lt look.0 (owner_at passes rows rows) && (look.1 == 0)

  -- the look found a word of row r
  abbrev pub is_read : ℕ → Look → Bool
  is_read r look = nat_le (cell_at passes rows r 0) look.0 && nat_lt look.0 (cell_at passes rows (r + 1) 0)

  -- how many rows the looks took
  abbrev pub takes_in : List Look → ℕ
  takes_in looks = count_by is_take looks

  -- of how many of these rows the looks found a word
  abbrev pub rows_read : List ℕ → List Look → ℕ
  rows_read tree looks = count_by (λ r. list_any (is_read r) looks) tree

  -- in each beginning of the looks the rows that were taken are at most those of the tree that were read, and so many more
  abbrev pub TakesWithin : List ℕ → ℕ → List Look → Type 0
  TakesWithin tree more looks = (n : ℕ) → takes_in (take n looks) ≤ rows_read tree (take n looks) + more

  -- How these numbers change by one look: a take adds one row that was taken, and any other look none. A read adds one row of
  -- the tree where none of its words was found before
  pub record CountsLooks : Type 0 where
    pub take : (looks : List Look) (r : ℕ) → r < rows → takes_in (looks ++ (owner_at passes rows r, 0) ∷ []) ≡ takes_in looks + 1
    pub taken : (looks : List Look) (r w : ℕ) → r < rows → 0 < w → takes_in (looks ++ (owner_at passes rows r, w) ∷ []) ≡ takes_in looks
    pub read : (looks : List Look) (r p w : ℕ) → takes_in (looks ++ (cell_at passes rows r p, w) ∷ []) ≡ takes_in looks
    pub reservation : (looks : List Look) (j w : ℕ) → j < passes → takes_in (looks ++ (reservation_at passes rows j, w) ∷ []) ≡ takes_in looks
    pub root : (looks : List Look) (w : ℕ) → takes_in (looks ++ (0, w) ∷ []) ≡ takes_in looks
    pub read_first : (tree : List ℕ) (looks : List Look) (r p w : ℕ) → times r tree ≡ 1 → p < WIDTH
        → list_any (is_read r) looks ≡ false → rows_read tree (looks ++ (cell_at passes rows r p, w) ∷ []) ≡ rows_read tree looks + 1
    pub read_more : (tree : List ℕ) (looks more : List Look) → rows_read tree looks ≤ rows_read tree (looks ++ more)
    -- a call that has found nothing, and one that goes on with looks of which few are takes
    pub begins : (tree : List ℕ) (most : ℕ) → TakesWithin tree most []
    pub goes_on : (tree : List ℕ) (most : ℕ) (looks more : List Look) → TakesWithin tree most looks → takes_in (looks ++ more) ≤ rows_read tree looks + most → TakesWithin tree most (looks ++ more)
