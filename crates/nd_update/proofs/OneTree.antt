-- A copy reads as one tree alone, but for the box of a leaf without points.
use Rattle.std.proofs.Common.{◌≡◌, ℕ, ◌+◌, ◌*◌, ◌⊎◌, ⊎_elim, true, Some, List, [], ◌∷◌, length, map, refl, sym, ap, ap₂, subst, ◌∙◌, arith, length-append, ℤ}
use Rattle.std.specs.List.{list_all}
use Rattle.std.proofs.lemmas.Bool.{and_parts}
use Rattle.std.proofs.lemmas.List.{length-map}
use Rattle.std.proofs.lemmas.Option.{same_Some}
use Rattle.era_core.specs.Versions.{Cell, Copy, look_up}
use Rattle.pls_vectors.specs.Box.{Box}
use Rattle.pls_vectors.specs.Dominance.{is_part}
use Rattle.pls_vectors.specs.Word.{to_word, from_word}
use Rattle.pls_archive.specs.Lists.{Every}
use Rattle.nd_rows.specs.declared.layout.TheConstants.{LEAF, INNER, SOL_WORDS, VALUE, IDEAL, NADIR, FIRST_LINK}
use Rattle.nd_rows.specs.Layout.{HasWords, HasValue, IsLinkRow, IsBoxRow, IsPointRow, AreWritten, IsTreeOf}
use Rattle.nd_rows.specs.Nodes.{Placed, Nodes, no_nodes, leaf, inner, heads, rows_of, rows_with, AreFormed, IsEmptyLeaf}
use Rattle.nd_rows.proofs.PointWords.{word_back}
use Rattle.nd_update.proofs.Listing.{heads_few}

abbrev first_of : List ℕ → ℕ
first_of [] = 0
first_of (x ∷ xs) = x

abbrev rest_of : List ℕ → List ℕ
rest_of [] = []
rest_of (x ∷ xs) = xs

module _ (objectives : ℕ) (cells : List Cell) where
  -- the words of a row
  same_words : (r p : ℕ) (xs ys : List ℕ) → length xs ≡ length ys → HasWords cells r p xs → HasWords cells r p ys → xs ≡ ys
  same_words r p [] [] len one two = refl
  same_words r p [] (y ∷ ys) len one two = absurd (omega (arith, len))
  same_words r p (x ∷ xs) [] len one two = absurd (omega (arith, len))
  same_words r p (x ∷ xs) (y ∷ ys) len one two = ap₂ (λ z zs. z ∷ zs) (same_Some x y (sym one.0 ∙ two.0)) (same_words r (p + 1) xs ys (omega (arith, len)) one.1 two.1)

  back : (xs : List ℤ) → list_all is_part xs ≡ true → map from_word (map to_word xs) ≡ xs
  back [] all = refl
  back (x ∷ xs) all = let both = and_parts (is_part x) (list_all is_part xs) all in ap₂ (λ z zs. z ∷ zs) (word_back x both.0) (back xs both.1)

  same_value : (r p : ℕ) (v w : List ℤ) → HasValue objectives cells r p v → HasValue objectives cells r p w → v ≡ w
  same_value r p v w one two =
      sym (back v one.is_value.in_range)
      ∙ ap (map from_word) (same_words r p (map to_word v) (map to_word w) (length-map v to_word ∙ (one.parts ∙ sym two.parts) ∙ sym (length-map w to_word)) one.words two.words)
      ∙ back w two.is_value.in_range

  same_box : (r : ℕ) (b d : Box) → IsBoxRow objectives cells r b → IsBoxRow objectives cells r d → b ≡ d
  same_box r b d one two =
      ap (λ (v : List ℤ). record b { ideal = v }) (same_value r IDEAL b.ideal d.ideal one.ideal two.ideal) ∙ ap (λ (v : List ℤ). record d { nadir = v }) (same_value r NADIR b.nadir d.nadir one.nadir two.nadir)

  -- and its links
  same_links : (kind r : ℕ) (xs ys : List ℕ) → IsLinkRow cells kind r xs → IsLinkRow cells kind r ys → xs ≡ ys
  same_links kind r xs ys one two = same_words r FIRST_LINK xs ys (let e = same_Some _ _ (sym one.first ∙ two.first) in omega (arith, e)) one.linked two.linked

  -- the points of a row
  same_point : (p q : Placed) → p.row ≡ q.row → IsPointRow objectives cells p → IsPointRow objectives cells q → p ≡ q
  same_point p q row one other =
      let two : IsPointRow objectives cells (record { row = p.row; point = q.point }) = subst (λ x. IsPointRow objectives cells (record { row = x; point = q.point })) (sym row) other in
      let value : p.point.value ≡ q.point.value = same_value p.row VALUE p.point.value q.point.value one.value two.value in
      let len : p.point.sol.len ≡ q.point.sol.len = same_Some _ _ (sym one.sol_len ∙ two.sol_len) in
      let words : p.point.sol.words ≡ q.point.sol.words = same_words p.row SOL_WORDS p.point.sol.words q.point.sol.words (one.all_words ∙ sym two.all_words) one.sol_words two.sol_words in
      ap (λ (v : List ℤ). record p { point = record p.point { value = v } }) value
      ∙ ap (λ (n : ℕ). record p { point = record q.point { sol = record p.point.sol { len = n } } }) len
      ∙ ap (λ (ws : List ℕ). record p { point = record q.point { sol = record q.point.sol { words = ws } } }) words
      ∙ ap (λ (x : ℕ). record q { row = x }) row

  same_placed : (ps qs : List Placed) → rows_with ps ≡ rows_with qs → Every (IsPointRow objectives cells) ps → Every (IsPointRow objectives cells) qs → ps ≡ qs
  same_placed [] [] rows one two = refl
  same_placed [] (q ∷ qs) rows one two = absurd (let e = ap length rows in omega (arith, e))
  same_placed (p ∷ ps) [] rows one two = absurd (let e = ap length rows in omega (arith, e))
  same_placed (p ∷ ps) (q ∷ qs) rows one two = ap₂ (λ z zs. z ∷ zs) (same_point p q (ap first_of rows) one.0 two.0) (same_placed ps qs (ap rest_of rows) one.1 two.1)

  other_kinds : (r m n : ℕ) → look_up cells r 0 ≡ Some (4 * m + LEAF) → look_up cells r 0 ≡ Some (4 * n + INNER) → ⊥
  other_kinds r m n one two = let e = same_Some _ _ (sym one ∙ two) in omega (arith, e)

  -- nodes in the same rows
  same_nodes : (ns ms : Nodes) → heads ns ≡ heads ms → AreWritten objectives cells ns → AreWritten objectives cells ms → AreFormed objectives ns → AreFormed objectives ms → ns ≡ ms
  same_nodes no_nodes no_nodes rows one two formed other = refl
  same_nodes no_nodes (leaf r b placed later) rows one two formed other = absurd (let e = ap length rows in omega (arith, e))
  same_nodes no_nodes (inner r b kids later) rows one two formed other = absurd (let e = ap length rows in omega (arith, e))
  same_nodes (leaf r b placed later) no_nodes rows one two formed other = absurd (let e = ap length rows in omega (arith, e))
  same_nodes (inner r b kids later) no_nodes rows one two formed other = absurd (let e = ap length rows in omega (arith, e))
  same_nodes (leaf r b placed later) (inner s d kids others) rows one two formed other =
      absurd (let row = ap first_of rows in other_kinds r (length (rows_with placed)) (length (heads kids)) one.0.first (subst (λ x. look_up cells x 0 ≡ Some (4 * length (heads kids) + INNER)) (sym row) two.0.first))
  same_nodes (inner r b kids later) (leaf s d placed others) rows one two formed other =
      absurd (let row = ap first_of rows in other_kinds r (length (rows_with placed)) (length (heads kids)) (subst (λ x. look_up cells x 0 ≡ Some (4 * length (rows_with placed) + LEAF)) (sym row) two.0.first) one.0.first)
  same_nodes (leaf r b placed later) (leaf s d points others) rows one two formed other =
      let row : r ≡ s = ap first_of rows in
      let box : b ≡ d = same_box r b d (one.1 (let some = formed.0 in omega (arith, some))) (subst (λ x. IsBoxRow objectives cells x d) (sym row) (two.1 (let some = other.0 in omega (arith, some)))) in
      let links = same_links LEAF r (rows_with placed) (rows_with points) one.0 (subst (λ x. IsLinkRow cells LEAF x (rows_with points)) (sym row) two.0) in
      ap (λ x. leaf x b placed later) row ∙ ap (λ x. leaf s x placed later) box ∙ ap (λ x. leaf s d x later) (same_placed placed points links one.2 two.2)
      ∙ ap (λ x. leaf s d points x) (same_nodes later others (ap rest_of rows) one.3 two.3 formed.2 other.2)
  same_nodes (inner r b kids later) (inner s d children others) rows one two formed other =
      let row : r ≡ s = ap first_of rows in
      let box : b ≡ d = same_box r b d one.1 (subst (λ x. IsBoxRow objectives cells x d) (sym row) two.1) in
      let links = same_links INNER r (heads kids) (heads children) one.0 (subst (λ x. IsLinkRow cells INNER x (heads children)) (sym row) two.0) in
      ap (λ x. inner x b kids later) row ∙ ap (λ x. inner s x kids later) box ∙ ap (λ x. inner s d x later) (same_nodes kids children links one.2 two.2 formed.3 other.3)
      ∙ ap (λ x. inner s d children x) (same_nodes later others (ap rest_of rows) one.3 two.3 formed.4 other.4)

-- what holds of two trees that are the same, and of two leaves without points in one row, holds of two trees of one copy
module _ (objectives : ℕ) (P : Nodes → Nodes → Type 0) (same : (t : Nodes) → P t t) (empty : (r : ℕ) (b d : Box) → P (leaf r b [] no_nodes) (leaf r d [] no_nodes)) where
  one_empty : (t s : Nodes) → heads t ≡ heads s → rows_of t ≡ rows_of s → IsEmptyLeaf t → IsEmptyLeaf s ⊎ AreFormed objectives s → P t s × P s t
  one_empty no_nodes s top rows is formed = absurd is
  one_empty (inner r b kids later) s top rows is formed = absurd is
  one_empty (leaf r b (p ∷ placed) later) s top rows is formed = absurd (let e = ap length is.0 in omega (arith, e))
  one_empty (leaf r b [] (leaf r' b' placed later)) s top rows is formed = absurd (let e = ap (λ ns. length (heads ns)) is.1 in omega (arith, e))
  one_empty (leaf r b [] (inner r' b' kids later)) s top rows is formed = absurd (let e = ap (λ ns. length (heads ns)) is.1 in omega (arith, e))
  one_empty (leaf r b [] no_nodes) no_nodes top rows is formed = absurd (let e = ap length top in omega (arith, e))
  one_empty (leaf r b [] no_nodes) (leaf s d (p ∷ placed) later) top rows is formed = absurd (let e = ap length rows in omega (arith, e))
  one_empty (leaf r b [] no_nodes) (leaf s d [] (leaf r' b' placed later)) top rows is formed = absurd (let e = ap length top in omega (arith, e))
  one_empty (leaf r b [] no_nodes) (leaf s d [] (inner r' b' kids later)) top rows is formed = absurd (let e = ap length top in omega (arith, e))
  one_empty (leaf r b [] no_nodes) (leaf s d [] no_nodes) top rows is formed =
      let row : r ≡ s = ap first_of top in
      (subst (λ x. P (leaf r b [] no_nodes) (leaf x d [] no_nodes)) row (empty r b d), subst (λ x. P (leaf x d [] no_nodes) (leaf r b [] no_nodes)) row (empty r d b))
  one_empty (leaf r b [] no_nodes) (inner s d kids later) top rows is formed =
      absurd
      (⊎_elim (λ none. none)
      (λ is_formed. let two = is_formed.0 in let few = heads_few kids in let e = ap length rows in let n = length-append (rows_of kids) (rows_of later) in omega (arith, two, few, e, n)) formed)

  pub of_trees : (c : Copy) (t s : Nodes) → IsTreeOf objectives c t → IsTreeOf objectives c s → P t s
  of_trees c t s is_t is_s =
      let top : heads t ≡ heads s = is_t.rooted ∙ sym is_s.rooted in
      let rows : rows_of t ≡ rows_of s = sym is_t.rows_are ∙ is_s.rows_are in
      ⊎_elim
      (λ bare. (one_empty t s top rows bare is_s.formed).0)
      (λ formed.
      ⊎_elim
      (λ bare. (one_empty s t (sym top) (sym rows) bare is_t.formed).1)
      (λ other. subst (P t) (same_nodes objectives c.cells t s top is_t.written is_s.written formed other) (same t))
      is_s.formed)
      is_t.formed
