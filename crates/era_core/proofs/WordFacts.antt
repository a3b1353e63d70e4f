-- A store of one word leaves all others as they are.
use Rattle.std.proofs.Common.{◌≡◌, ◌≢◌, ℕ, zero, suc, ◌+◌, ◌/◌, ◌<◌, min, List, ◌∷◌, length, set, slice_index, refl, ap, ◌∙◌, arith, get_or-set_same, get_or-set_other}
use Rattle.era_core.specs.declared.sizes.TheConstants.{WIDTH, MOST_LINKS, KINDS}
use Rattle.era_core.specs.Words.{run_of, links_by, reservation_at, owner_at, cell_at, words_len, reservation, owner, cell}

-- the links of a row are given by its words
pub run_of-same : (f g : ℕ → ℕ) (p n : ℕ) → ((q : ℕ) → q < p + n → f q ≡ g q) → run_of f p n ≡ run_of g p n
run_of-same f g p zero same = refl
run_of-same f g p (suc n) same =
    ap (λ x. x ∷ run_of f (p + 1) n) (same p (omega arith)) ∙ ap (λ xs. g p ∷ xs) (run_of-same f g (p + 1) n (λ q below. same q (omega arith)))

pub links_by-counted : (f g : ℕ → ℕ) → ((p : ℕ) → p < 1 + min MOST_LINKS (f 0 / KINDS) → f p ≡ g p) → links_by f ≡ links_by g
links_by-counted f g same =
    run_of-same f g 1 (min MOST_LINKS (f 0 / KINDS)) same ∙ ap (λ w. run_of g 1 (min MOST_LINKS (w / KINDS))) (same 0 (omega arith))

pub links_by-same : (f g : ℕ → ℕ) → ((p : ℕ) → p < WIDTH → f p ≡ g p) → links_by f ≡ links_by g
links_by-same f g same = links_by-counted f g (λ p below. same p (omega arith))

module _ (passes rows : ℕ) where
  -- a store of an owner
  pub owner_keeps_root : (ws : List ℕ) (r w : ℕ) → slice_index (set ws (owner_at passes rows r) w) 0 ≡ slice_index ws 0
  owner_keeps_root ws r w = get_or-set_other ws (owner_at passes rows r) 0 w 0 (λ e. omega arith)

  pub owner_keeps_reservation : (ws : List ℕ) (r w k : ℕ) → k < passes → reservation passes rows (set ws (owner_at passes rows r) w) k ≡ reservation passes rows ws k
  owner_keeps_reservation ws r w k pass = get_or-set_other ws (owner_at passes rows r) (reservation_at passes rows k) w 0 (λ e. omega arith)

  pub owner_keeps_owner : (ws : List ℕ) (r w x : ℕ) → x ≢ r → owner passes rows (set ws (owner_at passes rows r) w) x ≡ owner passes rows ws x
  owner_keeps_owner ws r w x apart = get_or-set_other ws (owner_at passes rows r) (owner_at passes rows x) w 0 (λ e. apart (omega arith))

  pub owner_stored : (ws : List ℕ) (r w : ℕ) → length ws ≡ words_len passes rows → r < rows → owner passes rows (set ws (owner_at passes rows r) w) r ≡ w
  owner_stored ws r w long row = get_or-set_same ws (owner_at passes rows r) w 0 (omega arith)

  pub owner_keeps_cell : (ws : List ℕ) (r w x p : ℕ) → r < rows → cell passes rows (set ws (owner_at passes rows r) w) x p ≡ cell passes rows ws x p
  owner_keeps_cell ws r w x p row = get_or-set_other ws (owner_at passes rows r) (cell_at passes rows x p) w 0 (λ e. omega arith)

  -- a store of a reservation
  pub reservation_keeps_root : (ws : List ℕ) (k w : ℕ) → slice_index (set ws (reservation_at passes rows k) w) 0 ≡ slice_index ws 0
  reservation_keeps_root ws k w = get_or-set_other ws (reservation_at passes rows k) 0 w 0 (λ e. omega arith)

  pub reservation_keeps_other : (ws : List ℕ) (k w j : ℕ) → j ≢ k → reservation passes rows (set ws (reservation_at passes rows k) w) j ≡ reservation passes rows ws j
  reservation_keeps_other ws k w j apart = get_or-set_other ws (reservation_at passes rows k) (reservation_at passes rows j) w 0 (λ e. apart (omega arith))

  pub reservation_stored : (ws : List ℕ) (k w : ℕ) → length ws ≡ words_len passes rows → k < passes → reservation passes rows (set ws (reservation_at passes rows k) w) k ≡ w
  reservation_stored ws k w long pass = get_or-set_same ws (reservation_at passes rows k) w 0 (omega arith)

  pub reservation_keeps_owner : (ws : List ℕ) (k w x : ℕ) → k < passes → owner passes rows (set ws (reservation_at passes rows k) w) x ≡ owner passes rows ws x
  reservation_keeps_owner ws k w x pass = get_or-set_other ws (reservation_at passes rows k) (owner_at passes rows x) w 0 (λ e. omega arith)

  pub reservation_keeps_cell : (ws : List ℕ) (k w x p : ℕ) → k < passes → cell passes rows (set ws (reservation_at passes rows k) w) x p ≡ cell passes rows ws x p
  reservation_keeps_cell ws k w x p pass = get_or-set_other ws (reservation_at passes rows k) (cell_at passes rows x p) w 0 (λ e. omega arith)

  -- a store of a word of a row
  pub cell_keeps_root : (ws : List ℕ) (r p w : ℕ) → slice_index (set ws (cell_at passes rows r p) w) 0 ≡ slice_index ws 0
  cell_keeps_root ws r p w = get_or-set_other ws (cell_at passes rows r p) 0 w 0 (λ e. omega arith)

  pub cell_keeps_reservation : (ws : List ℕ) (r p w k : ℕ) → k < passes → reservation passes rows (set ws (cell_at passes rows r p) w) k ≡ reservation passes rows ws k
  cell_keeps_reservation ws r p w k pass = get_or-set_other ws (cell_at passes rows r p) (reservation_at passes rows k) w 0 (λ e. omega arith)

  pub cell_keeps_owner : (ws : List ℕ) (r p w x : ℕ) → x < rows → owner passes rows (set ws (cell_at passes rows r p) w) x ≡ owner passes rows ws x
  cell_keeps_owner ws r p w x row = get_or-set_other ws (cell_at passes rows r p) (owner_at passes rows x) w 0 (λ e. omega arith)

  pub cell_keeps_other : (ws : List ℕ) (r p w x q : ℕ) → p < WIDTH → q < WIDTH → x ≢ r → cell passes rows (set ws (cell_at passes rows r p) w) x q ≡ cell passes rows ws x q
  cell_keeps_other ws r p w x q place other apart = get_or-set_other ws (cell_at passes rows r p) (cell_at passes rows x q) w 0 (λ e. apart (omega arith))

  -- a store of the root
  pub root_keeps_reservation : (ws : List ℕ) (w k : ℕ) → reservation passes rows (set ws 0 w) k ≡ reservation passes rows ws k
  root_keeps_reservation ws w k = get_or-set_other ws 0 (reservation_at passes rows k) w 0 (λ e. omega arith)

  pub root_keeps_owner : (ws : List ℕ) (w x : ℕ) → owner passes rows (set ws 0 w) x ≡ owner passes rows ws x
  root_keeps_owner ws w x = get_or-set_other ws 0 (owner_at passes rows x) w 0 (λ e. omega arith)

  pub root_keeps_cell : (ws : List ℕ) (w x p : ℕ) → cell passes rows (set ws 0 w) x p ≡ cell passes rows ws x p
  root_keeps_cell ws w x p = get_or-set_other ws 0 (cell_at passes rows x p) w 0 (λ e. omega arith)
