-- A pass goes through the points of a leaf, and copies what stays into a fresh row.
use Rattle.std.proofs.Common.{◌≡◌, ℕ, zero, suc, ◌+◌, ◌-◌, ◌*◌, ◌<◌, ◌≤◌, inl, inr, Bool, false, not, if◌then◌else◌, Some, List, [], ◌∷◌, ◌++◌, length, map, take, drop, get_or, set, refl, sym, ap, ap₂, subst, ◌∙◌, arith, append_assoc, ℤ}
use Rattle.std.specs.Prelude.{replicate}
use Rattle.std.proofs.lemmas.List.Elements.{filter-append}
use Rattle.std.proofs.Math.Seq.{set-append_seam}
use Rattle.era_core.specs.Lists.{In}
use Rattle.era_core.specs.Versions.{Cell, Copy, look_up}
use Rattle.era_rows.specs.Known.{pinned_copy}
use Rattle.era_rows.specs.Passes.{known_of}
use Rattle.era_rows.specs.declared.pass.Pass.{Pass}
use Rattle.era_rows.specs.declared.rows.Rows.{Rows}
use Rattle.era_rows.specs.declared.law.Law.{Ghosts}
use Rattle.pls_archive.specs.declared.call.Entry.{Entry}
use Rattle.pls_vectors.specs.Dominance.{weakly_dominates}
use Rattle.nd_rows.specs.Nodes.{Placed, rows_with}
use Rattle.nd_rows.specs.Layout.{HasWords, HasValue, IsLinkRow}
use Rattle.nd_rows.specs.Reads.{LooksIn}
use Rattle.nd_rows.specs.Walk.{HasPlaced}
use Rattle.nd_rows.proofs.Links.{placed_at}
use Rattle.nd_rows.proofs.Looks.{row_small, row_there, stays, in_get}
use Rattle.nd_rows.proofs.Pending.{length_rows}
use Rattle.nd_update.specs.Building.{Elsewhere, Outside, Does}
use Rattle.nd_update.specs.Removal.{staying, going}
use Rattle.nd_update.specs.Left.{hits_of}
use Rattle.nd_update.proofs.Filters.{by_test}
use Rattle.nd_update.proofs.Building.{words_outside, words_same}
use Rattle.nd_update.proofs.Removing.{stay_pinned, row_still, link_at, take_more}

-- ---- the points up to a place
pub length_take : {A : Type 0} (xs : List A) (k : ℕ) → k ≤ length xs → length (take k xs) ≡ k
length_take [] zero low = refl
length_take [] (suc k) low = absurd (omega (arith, low))
length_take (x ∷ xs) zero low = refl
length_take (x ∷ xs) (suc k) low = ap suc (length_take xs k (omega (arith, low)))

pub take_all : {A : Type 0} (xs : List A) (k : ℕ) → length xs ≤ k → take k xs ≡ xs
take_all [] zero low = refl
take_all [] (suc k) low = refl
take_all (x ∷ xs) zero low = absurd (omega (arith, low))
take_all (x ∷ xs) (suc k) low = ap (λ ys. x ∷ ys) (take_all xs k (omega (arith, low)))

length_map : {A B : Type 0} (f : A → B) (xs : List A) → length (map f xs) ≡ length xs
length_map f [] = refl
length_map f (x ∷ xs) = ap suc (length_map f xs)

map_both : {A B : Type 0} (f : A → B) (xs ys : List A) → map f (xs ++ ys) ≡ map f xs ++ map f ys
map_both f [] ys = refl
map_both f (x ∷ xs) ys = ap (λ zs. f x ∷ zs) (map_both f xs ys)

module _ (v : List ℤ) where
  abbrev test : Placed → Bool
  test p = weakly_dominates v p.point.value

  -- one more place of the tests
  pub hits_more : (placed : List Placed) (k : ℕ) (p : Placed) → drop k placed ≡ p ∷ drop (k + 1) placed → k < length placed → k < 20 → (hits : List Bool) → hits ≡ map test (take k placed) ++ replicate (20 - k) false
      → (b : Bool) → b ≡ test p → set hits k b ≡ map test (take (k + 1) placed) ++ replicate (20 - (k + 1)) false
  hits_more placed k p at low room hits is b now =
      let rest : List Bool = replicate (20 - (k + 1)) false in
      let here = length_map test (take k placed) ∙ length_take placed k (omega (arith, low)) in
      ap (λ xs. set xs k b) (is ∙ ap (λ n. map test (take k placed) ++ replicate n false) (let e : 20 - k ≡ suc (20 - (k + 1)) = omega (arith, room) in e))
      ∙ ap (λ n. set (map test (take k placed) ++ false ∷ rest) n b) (sym here)
      ∙ set-append_seam (map test (take k placed)) false rest b
      ∙ ap (λ x. map test (take k placed) ++ x ∷ rest) now
      ∙ sym (append_assoc (map test (take k placed)) (test p ∷ []) rest)
      ∙ ap (λ xs. xs ++ rest) (sym (ap (map test) (take_more placed k p (drop (k + 1) placed) at) ∙ map_both test (take k placed) (p ∷ [])))

  pub hit_at : (placed : List Placed) (k : ℕ) (p : Placed) (rest : List Placed) (more : List Bool) (d : Bool) → drop k placed ≡ p ∷ rest → get_or (map test placed ++ more) k d ≡ test p
  hit_at [] zero p rest more d at = absurd (let e = ap length at in omega (arith, e))
  hit_at [] (suc k) p rest more d at = absurd (let e = ap length at in omega (arith, e))
  hit_at (q ∷ placed) zero p rest more d at = ap (λ (ps : List Placed). get_or (map test ps) 0 d) at
  hit_at (q ∷ placed) (suc k) p rest more d at = hit_at placed k p rest more d at

  -- the rows of those that stay, and of those that go
  pub staying_more : (placed : List Placed) (p : Placed) → rows_with (staying v (placed ++ p ∷ [])) ≡ (if test p then rows_with (staying v placed) else rows_with (staying v placed) ++ p.row ∷ [])
  staying_more placed p =
      ap rows_with (filter-append (λ (q : Placed). not (test q)) placed (p ∷ [])) ∙ map_both (λ (q : Placed). q.row) (staying v placed) (staying v (p ∷ []))
      ∙ by_test (λ s. rows_with (staying v placed) ++ rows_with (if not s then p ∷ [] else []) ≡ (if s then rows_with (staying v placed) else rows_with (staying v placed) ++ p.row ∷ [])) (test p)
      (λ goes. nothing_more (rows_with (staying v placed))) (λ stays. refl)
    where
      nothing_more : (xs : List ℕ) → xs ++ [] ≡ xs
      nothing_more [] = refl
      nothing_more (x ∷ xs) = ap (λ ys. x ∷ ys) (nothing_more xs)

  pub staying_count : (placed : List Placed) (p : Placed) → length (staying v (placed ++ p ∷ [])) ≡ (if test p then length (staying v placed) else length (staying v placed) + 1)
  staying_count [] p = by_test (λ s. length (if not s then p ∷ [] else []) ≡ (if s then 0 else 1)) (test p) (λ goes. refl) (λ stays. refl)
  staying_count (q ∷ placed) p =
      let rest = staying_count placed p in
      by_test (λ s. length (if not s then q ∷ staying v (placed ++ p ∷ []) else staying v (placed ++ p ∷ [])) ≡ (if test p then length (if not s then q ∷ staying v placed else staying v placed) else length (if not s then q ∷ staying v placed else staying v placed) + 1)) (test q)
      (λ goes. rest)
      (λ stays. by_test (λ s. length (staying v (placed ++ p ∷ [])) ≡ (if s then length (staying v placed) else length (staying v placed) + 1) → suc (length (staying v (placed ++ p ∷ []))) ≡ (if s then suc (length (staying v placed)) else suc (length (staying v placed)) + 1)) (test p)
      (λ e is. omega (arith, is)) (λ e is. omega (arith, is)) rest)

  pub staying_few : (placed : List Placed) (k : ℕ) → length (staying v (take k placed)) ≤ k
  staying_few [] zero = omega arith
  staying_few [] (suc k) = omega arith
  staying_few (p ∷ placed) zero = omega arith
  staying_few (p ∷ placed) (suc k) =
      let rest = staying_few placed k in
      by_test (λ s. length (if not s then p ∷ staying v (take k placed) else staying v (take k placed)) ≤ suc k) (test p) (λ goes. omega (arith, rest)) (λ stays. omega (arith, rest))

  pub going_more : (placed : List Placed) (p : Placed) → rows_with (going v (placed ++ p ∷ [])) ≡ rows_with (going v placed) ++ (if test p then p.row ∷ [] else [])
  going_more placed p =
      ap rows_with (filter-append test placed (p ∷ [])) ∙ map_both (λ (q : Placed). q.row) (going v placed) (going v (p ∷ []))
      ∙ by_test (λ s. rows_with (going v placed) ++ rows_with (if s then p ∷ [] else []) ≡ rows_with (going v placed) ++ (if s then p.row ∷ [] else [])) (test p) (λ goes. refl) (λ stays. refl)

-- one more link was copied, unless its point goes
pub stays_more : (v : List ℤ) (placed : List Placed) (k : ℕ) (p : Placed) → drop k placed ≡ p ∷ drop (k + 1) placed → (hit : List Bool) → hit ≡ hits_of v placed → (cells : List Cell) (own place after : ℕ) → place ≡ length (staying v (take k placed))
    → HasWords cells own 1 (if get_or hit k false then rows_with (staying v (take k placed)) else rows_with (staying v (take k placed)) ++ p.row ∷ []) → after ≡ (if get_or hit k false then place else place + 1)
    → HasWords cells own 1 (rows_with (staying v (take (k + 1) placed))) × (after ≡ length (staying v (take (k + 1) placed)))
stays_more v placed k p at hit is cells own place after place_is has now =
    let test_is = ap (λ xs. get_or xs k false) is ∙ hit_at v placed k p (drop (k + 1) placed) (replicate (20 - length placed) false) false at in
    let more = take_more placed k p (drop (k + 1) placed) at in
    let before = staying v (take k placed) in (
      subst (HasWords cells own 1) (ap (λ b. if b then rows_with before else rows_with before ++ p.row ∷ []) test_is ∙ sym (ap (λ ps. rows_with (staying v ps)) more ∙ staying_more v (take k placed) p)) has,
      now ∙ ap₂ (λ b n. if b then n else n + 1) test_is place_is ∙ sym (ap (λ ps. length (staying v ps)) more ∙ staying_count v (take k placed) p),
    )

-- ---- what was copied
pub copied : (own kind n : ℕ) (links : List ℕ) (cells0 cells1 cells2 cells3 : List Cell) → HasWords cells0 own 1 links → n ≡ length links → length links ≤ 20
    → Outside own 0 1 cells0 cells1 → look_up cells1 own 0 ≡ Some (4 * n + kind) → Elsewhere [] cells1 cells2 → Outside own 21 29 cells2 cells3 → IsLinkRow cells3 kind own links
copied own kind n links cells0 cells1 cells2 cells3 has len few first word read box = record {
  first = box own 0 (inr (inl (omega arith))) ∙ read own 0 refl ∙ word ∙ ap (λ m. Some (4 * m + kind)) len;
  linked = words_outside own 21 29 cells2 cells3 box own 1 links (inr (inl (omega (arith, few))))
      (words_same cells1 cells2 own (λ k. read own k refl) 1 links (words_outside own 0 1 cells0 cells1 first own 1 links (inr (inr (omega arith))) has));
}

module _ {L : Type 0} {G : Ghosts L Entry} (r : Rows L Entry) (p q : Pass L Entry G) (row : ℕ) (placed : List Placed) (has : HasPlaced r.shape (pinned_copy (known_of p)) row placed) (t m c : List ℕ) (so_far : Does r t m c p q) (k : ℕ) (low : k < length placed) where
  abbrev pub point : Placed
  point = (placed_at r.shape (pinned_copy (known_of p)).cells placed has.points k low).0

  pub point_drop : drop k placed ≡ point ∷ drop (k + 1) placed
  point_drop = (placed_at r.shape (pinned_copy (known_of p)).cells placed has.points k low).1

  inside : k < length (rows_with placed)
  inside = let e = length_rows placed in omega (arith, e, low)

  pub point_in : In point.row (rows_with placed)
  point_in = subst (λ x. In x (rows_with placed)) (placed_at r.shape (pinned_copy (known_of p)).cells placed has.points k low).3 (in_get (rows_with placed) k inside)

  -- its link
  pub point_link : look_up (pinned_copy (known_of q)).cells row (1 + k) ≡ Some point.row
  point_link = link_at r t m c p q so_far row (rows_with placed) has.linked k inside ∙ ap Some (placed_at r.shape (pinned_copy (known_of p)).cells placed has.points k low).3

  pub point_there : In point.row (pinned_copy (known_of q)).rows
  point_there = row_still r t m c p q so_far point.row (has.among point.row point_in)

  module _ (word : ℕ) (found : (w : ℕ) → look_up (pinned_copy (known_of q)).cells row (1 + k) ≡ Some w → word ≡ w) where
    pub word_is : word ≡ point.row
    word_is = found point.row point_link

    pub word_low : word < 262144
    word_low = subst (λ x. x < 262144) (sym word_is) (row_small p point.row (has.among point.row point_in))

    module _ (s : Pass L Entry G) (one : LooksIn r (row ∷ []) q s) where
      pub word_there : In word (pinned_copy (known_of s)).rows
      word_there = row_there r (row ∷ []) q s one word (subst (λ x. In x (pinned_copy (known_of q)).rows) (sym word_is) point_there)

      pub value_there : HasValue r.shape (pinned_copy (known_of s)).cells word 1 point.point.value
      value_there =
          stays r (λ (x : Copy). HasValue r.shape x.cells word 1 point.point.value) (row ∷ []) q s one
          (stay_pinned r (λ (x : Copy). HasValue r.shape x.cells word 1 point.point.value) t m c p q so_far
          (subst (λ x. HasValue r.shape (pinned_copy (known_of p)).cells x 1 point.point.value) (sym word_is) (placed_at r.shape (pinned_copy (known_of p)).cells placed has.points k low).2.value))
