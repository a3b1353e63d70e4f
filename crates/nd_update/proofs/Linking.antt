-- The link to a child that stands in another row now.
use Rattle.std.proofs.Common.{◌≡◌, ◌≢◌, ℕ, zero, suc, ◌+◌, ◌*◌, ◌<◌, ◌≤◌, ◌⊎◌, inl, inr, ⊎_elim, Some, ℤ, List, [], ◌∷◌, ◌++◌, length, get_or, set, refl, sym, ap, subst, ◌∙◌, arith, append-nil}
use Rattle.era_core.specs.declared.sizes.TheConstants.{KINDS}
use Rattle.era_core.specs.Lists.{times, In}
use Rattle.era_core.specs.Versions.{Cell, look_up}
use Rattle.era_core.proofs.ListFacts.{times-head, times-tail, in_head}
use Rattle.era_rows.specs.Known.{known_words}
use Rattle.era_rows.specs.Passes.{known_of}
use Rattle.era_rows.specs.declared.pass.Pass.{Pass}
use Rattle.era_rows.specs.declared.rows.Rows.{Rows}
use Rattle.era_rows.specs.declared.law.Law.{Ghosts}
use Rattle.pls_archive.specs.declared.call.Entry.{Entry}
use Rattle.pls_vectors.specs.Box.{Box}
use Rattle.nd_rows.specs.declared.layout.TheConstants.{INNER, FIRST_LINK}
use Rattle.nd_rows.specs.Nodes.{Nodes, no_nodes, inner, heads, rows_of}
use Rattle.nd_rows.specs.Layout.{HasWords, IsLinkRow}
use Rattle.nd_update.specs.Building.{Outside, Does}
use Rattle.nd_update.specs.Insertion.{place_among}
use Rattle.nd_update.specs.Ways.{HasNode, IsOwned, IsStepped, touched, at_node}
use Rattle.nd_update.proofs.Building.{does_both, does_as}
use Rattle.nd_update.proofs.Choosing.{at_rows, below_rows, child_in}
use Rattle.nd_update.proofs.Filling.{taken_apart, box_still}
use Rattle.nd_update.proofs.Stepping.{rows_touched}
use Rattle.nd_update.proofs.Touching.{node_still}

-- another place is before it or behind it
beside : (j n : ℕ) → j ≢ n → (j < n) ⊎ (n + 1 ≤ j)
beside zero zero other = absurd (other refl)
beside zero (suc n) other = inl (omega arith)
beside (suc j) zero other = inr (omega arith)
beside (suc j) (suc n) other = ⊎_elim (λ below. inl (omega (arith, below))) (λ above. inr (omega (arith, above))) (beside j n (λ e. other (ap suc e)))

length_set : (ws : List ℕ) (k w : ℕ) → length (set ws k w) ≡ length ws
length_set [] k w = refl
length_set (x ∷ ws) zero w = refl
length_set (x ∷ ws) (suc k) w = ap suc (length_set ws k w)

module _ (row at w : ℕ) (a b : List Cell) (same : (j : ℕ) → j ≢ at → look_up b row j ≡ look_up a row j) (here : look_up b row at ≡ Some w) where
  words_past : (from : ℕ) (ws : List ℕ) → at < from → HasWords a row from ws → HasWords b row from ws
  words_past from [] past has = tt
  words_past from (x ∷ ws) past has = (same from (λ e. omega (arith, e, past)) ∙ has.0, words_past (from + 1) ws (omega arith) has.1)

  words_set : (from : ℕ) (ws : List ℕ) (k : ℕ) → at ≡ from + k → k < length ws → HasWords a row from ws → HasWords b row from (set ws k w)
  words_set from [] k is low has = absurd (omega arith)
  words_set from (x ∷ ws) zero is low has = (subst (λ n. look_up b row n ≡ Some w) (let e : at ≡ from = omega arith in e) here, words_past (from + 1) ws (omega arith) has.1)
  words_set from (x ∷ ws) (suc k) is low has = (same from (λ e. omega (arith, e, is)) ∙ has.0, words_set (from + 1) ws k (omega arith) (omega arith) has.1)

-- a node got a row, and another one a link to it
pub link_does : {L : Type 0} {G : Ghosts L Entry} (r : Rows L Entry) (row own : ℕ) (taken marked : List ℕ) (p q s : Pass L Entry G) → Does r taken marked (own ∷ []) p q → Does r [] [] (row ∷ []) q s → Does r taken marked (own ∷ row ∷ []) p s
link_does r row own taken marked p q s one linked =
    does_as r (taken ++ []) (marked ++ []) (own ∷ row ∷ []) taken marked (own ∷ row ∷ []) p s (append-nil taken) (append-nil marked) (λ x here. here) (does_both r taken marked (own ∷ []) [] [] (row ∷ []) p q s one linked)

-- A child got a row of the pass, and the node that row as a link.
module _ {L : Type 0} {G : Ghosts L Entry} (r : Rows L Entry) (objectives row own : ℕ) (taken marked : List ℕ) (v : List ℤ) (p q s : Pass L Entry G) (one : Does r taken marked (own ∷ []) p q) (linked : Does r [] [] (row ∷ []) q s)
    (b : Box) (kids : Nodes) (has : HasNode objectives (known_of p) row (inner row b kids no_nodes)) (k : ℕ) (low : k < length (heads kids)) (owned : IsOwned (known_of p) (get_or (heads kids) k 0) own taken marked) where
  no_some : (n : ℕ) → (0 < n → ⊥) → n ≡ 0
  no_some zero none = refl
  no_some (suc n) none = absurd (none (omega arith))

  row_below : times row (rows_of kids) ≡ 0
  row_below = let once = has.nodes.once row in let all = below_rows objectives (known_of p) row b kids has k low row in let head = times-head row [] in omega (arith, once, all, head)

  -- the row of the child is another one
  row_own : own ≢ row
  row_own same =
      ⊎_elim
      (λ old. (let mine = child_in kids k low in let e = subst (λ x. In x (rows_of kids)) (sym old.1 ∙ same) mine in let none = row_below in omega (arith, e, none)))
      (λ new. (let readable = has.nodes.readable row (in_head row (rows_of kids ++ [])) in let none = taken_apart r taken marked (own ∷ []) p q one row readable in let head = subst (λ x. times x taken ≡ 1) same (subst (λ xs. times own xs ≡ 1) (sym new.1) (times-head own [])) in omega (arith, none, head))) owned

  child_apart : (x : ℕ) → In x (rows_of (touched own v (at_node kids k))) → times x (row ∷ []) ≡ 0
  child_apart x here =
      times-tail x row [] (λ same.
      let few = rows_touched own v (at_node kids k) row (λ e. row_own (sym e)) in
      let less = at_rows kids k row in
      let none = row_below in
      let e = ap (λ y. times y (rows_of (touched own v (at_node kids k)))) same in omega (arith, few, less, none, e, here))

  module _ (outside : Outside row (FIRST_LINK + k) (FIRST_LINK + k + 1) (known_words (known_of q)) (known_words (known_of s))) (here : look_up (known_words (known_of s)) row (FIRST_LINK + k) ≡ Some own) where
    still : (j : ℕ) → j ≢ FIRST_LINK + k → look_up (known_words (known_of s)) row j ≡ look_up (known_words (known_of p)) row j
    still j other = outside row j (inr (beside j (FIRST_LINK + k) other)) ∙ one.elsewhere row j (times-tail row own [] (λ e. row_own (sym e)))

    pub link_stepped : k ≡ place_among v kids → HasNode objectives (known_of q) own (touched own v (at_node kids k)) → IsStepped objectives (known_of s) row b kids v own
    link_stepped is child = record {
      child = subst (λ n. HasNode objectives (known_of s) own (touched own v (at_node kids n))) is (node_still r [] [] (row ∷ []) q s linked objectives own (touched own v (at_node kids k)) child_apart child);
      links = subst (λ n. IsLinkRow (known_words (known_of s)) INNER row (set (heads kids) n own)) is (record {
        first = still 0 (λ e. omega (arith, e)) ∙ has.nodes.written.0.first ∙ ap (λ n. Some (KINDS * n + INNER)) (sym (length_set (heads kids) k own));
        linked = words_set row (FIRST_LINK + k) own (known_words (known_of p)) (known_words (known_of s)) still here FIRST_LINK (heads kids) k refl low has.nodes.written.0.linked;
      });
      boxed = box_still objectives (known_words (known_of p)) (known_words (known_of s)) row b (λ j high. still j (λ e. (let few = has.nodes.fit.1 in omega (arith, e, high, low, few)))) has.nodes.written.1;
    }
