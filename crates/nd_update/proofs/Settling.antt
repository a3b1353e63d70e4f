-- A pass settles a node of its list: what it finds there, and what its list tells afterwards.
use Rattle.std.proofs.Common.{◌≡◌, ℕ, ◌+◌, ◌-◌, ◌/◌, ◌%◌, Bool, ◌<◌, ◌≤◌, true, false, Option, Some, None, List, [], ◌∷◌, ◌++◌, length, take, drop, set, refl, sym, ap, ap₂, subst, ◌∙◌, arith, append-nil, append_assoc, length-append, ℤ}
use Rattle.std.specs.Prelude.{IfSome}
use Rattle.era_core.specs.declared.sizes.TheConstants.{ROOT_ROWS}
use Rattle.era_core.specs.Lists.{times, In}
use Rattle.era_core.specs.Versions.{Cell, Copy, look_up}
use Rattle.era_core.proofs.ListFacts.{times-append, times-head}
use Rattle.era_rows.specs.Known.{pinned_copy, known_words}
use Rattle.era_rows.specs.Passes.{knows_of, known_of, marked_of, work_of, IsPassOf, IsSamePass}
use Rattle.era_rows.specs.declared.pass.Pass.{Pass}
use Rattle.era_rows.specs.declared.rows.Rows.{Rows}
use Rattle.era_rows.specs.declared.law.Law.{Ghosts}
use Rattle.pls_archive.specs.declared.call.Entry.{Entry}
use Rattle.pls_vectors.specs.Box.{Box}
use Rattle.pls_vectors.specs.Dominance.{weakly_dominates}
use Rattle.nd_rows.specs.Nodes.{Placed, Nodes, no_nodes, leaf, inner, heads, rows_with, points_of, points_with}
use Rattle.nd_rows.specs.Walk.{HasPlaced}
use Rattle.nd_update.specs.Removal.{is_hit, without_dominated, dropped}
use Rattle.nd_update.specs.Naming.{names_of}
use Rattle.nd_update.specs.Building.{Elsewhere, IsBuilding, Does}
use Rattle.nd_update.specs.Counted.{WasRead, IsPaid}
use Rattle.nd_update.specs.Left.{hits, entry, is_touched, hits_of, IsHitLeaf, IsBoxed, IsNodeLeft, AreKidsLeft}
use Rattle.nd_update.specs.Sweeps.{Settles, Sweeps}
use Rattle.nd_update.proofs.Building.{does_as, does_both, does_read, read_does, pinned_words, mark_does}
use Rattle.nd_update.proofs.Removing.{inside_now, stay_pinned, row_still}
use Rattle.nd_update.proofs.Listing.{seam_is}
use Rattle.nd_update.proofs.Paying.{paid_still, paid_marked}
use Rattle.nd_update.proofs.Sweeping as sweep
use mathlib.Core.Option.{some}
use lib.ListN.{get_elem?}

-- a node was looked at, then what is left of it was written, then rows were marked, and then the list was changed
pub settle_does : {L : Type 0} {G : Ghosts L Entry} (r : Rows L Entry) (p s u w x : Pass L Entry G) (taken marks : List ℕ) → Does r [] [] [] p s → Does r taken [] taken s u → Does r [] marks [] u w → Does r [] [] [] w x → Does r taken marks taken p x
settle_does r p s u w x taken marks looks writes mark list =
    does_read r taken marks taken p w x
    (does_as r (taken ++ []) marks (taken ++ []) taken marks taken p w (append-nil taken) refl (λ y here. subst (In y) (append-nil taken) here) (does_both r taken [] taken [] marks [] p u w (read_does r taken [] taken p s u looks writes) mark)) list

pub mark_list_words : {L : Type 0} {G : Ghosts L Entry} (r : Rows L Entry) (u w x : Pass L Entry G) (marks : List ℕ) → Does r [] marks [] u w → Does r [] [] [] w x → Elsewhere [] (known_words (known_of u)) (known_words (known_of x))
mark_list_words r u w x marks mark list y k none = list.elsewhere y k none ∙ mark.elsewhere y k none

-- rows that a pass took are others than those that it had
pub taken_apart : {L : Type 0} {G : Ghosts L Entry} (r : Rows L Entry) (p q : Pass L Entry G) (t m c : List ℕ) → Does r t m c p q → (x : ℕ) → In x (known_of p).core.fresh → times x t ≡ 0
taken_apart r p q t m c does x here =
    let once = does.building.once x in let e = ap (times x) does.fresh ∙ times-append x (known_of p).core.fresh t in omega (arith, here, once, e)

pub map_some : {A : Type 0} (o : Option A) (P Q : A → Type 0) → ((x : A) → P x → Q x) → IfSome o P → IfSome o Q
map_some None P Q f is = tt
map_some (Some x) P Q f is = f x is

pub both_some : {A : Type 0} (o : Option A) (P Q : A → Type 0) → IfSome o P → IfSome o Q → IfSome o (λ x. P x × Q x)
both_some None P Q p q = tt
both_some (Some x) P Q p q = (p, q)

pub of_some : {A : Type 0} (o : Option A) (x : A) (P : A → Type 0) → o ≡ Some x → IfSome o P → P x
of_some o x P e is = subst (λ a. IfSome a P) e is

-- at most one row was taken, for the row of a node that was read and then marked
pub node_paid : {L : Type 0} {G : Ghosts L Entry} (r : Rows L Entry) (t : List ℕ) (x : ℕ) (m c : List ℕ) (p q : Pass L Entry G) → IsBuilding r p → Does r t (x ∷ m) c p q → times x (marked_of p) ≡ 0
    → (0 < length t → WasRead x (known_of q)) → length t ≤ 1 → IsPaid 0 (known_of p) (marked_of p) → IsPaid 0 (known_of q) (marked_of q)
node_paid r [] x m c p q building does unmarked read one paid = paid_still r 0 (x ∷ m) c p q building does paid
node_paid r (y ∷ t) x m c p q building does unmarked read one paid = paid_marked r 0 (y ∷ t) x m c p q building does unmarked (read (omega arith)) one paid

-- a version is pinned still
pub pinned_still : {L : Type 0} {G : Ghosts L Entry} (r : Rows L Entry) (p q : Pass L Entry G) (t m c : List ℕ) → Does r t m c p q → (n x : ℕ) × ((known_of p).core.pinned ≡ Some (n, x)) → (n x : ℕ) × ((known_of q).core.pinned ≡ Some (n, x))
pinned_still r p q t m c does pin = (pin.0, pin.1, does.builds.pinned ∙ pin.2)

module _ {L : Type 0} {G : Ghosts L Entry} (r : Rows L Entry) (p : Pass L Entry G) (building : IsBuilding r p) (v : List ℤ) (others : List ℕ) (removed : ℕ) where
  abbrev copy : Copy
  copy = pinned_copy (known_of p)

  abbrev cells : List Cell
  cells = known_words (known_of p)

  abbrev fresh : List ℕ
  fresh = (known_of p).core.fresh

  abbrev inside : (x : ℕ) → In x copy.rows → x < r.rows
  inside = inside_now r p building.is_pass

  -- rows that it took since are others
  apart : (q : Pass L Entry G) (t m c : List ℕ) → Does r t m c p q → (x : ℕ) → In x fresh → times x t ≡ 0
  apart q t m c does x here =
      let once = does.building.once x in let e = ap (times x) does.fresh ∙ times-append x fresh t in omega (arith, here, once, e)

  -- the word of the node
  pub found_is : (ns : Nodes) → Settles r v ns others p removed → (k found : ℕ) → length others ≡ k → get_elem? (work_of p) k ≡ some found → found ≡ entry v ns
  found_is ns can k found at there = seam_is others (entry v ns) can.swept.results (work_of p) k found (can.swept.listed ∙ append_assoc others (entry v ns ∷ []) can.swept.results) at there

  pub found_place : (ns : Nodes) → Settles r v ns others p removed → (k : ℕ) → length others ≡ k → k < length (work_of p)
  found_place ns can k at =
      let e = ap length can.swept.listed ∙ length-append (others ++ entry v ns ∷ []) can.swept.results in let n = length-append others (entry v ns ∷ []) in omega (arith, at, e, n)

  pub stays_settled : (ns : Nodes) → Settles r v ns others p removed → (found : ℕ) → found ≡ entry v ns → found / ROOT_ROWS ≡ 0 → Sweeps r v ns others p (removed + 0)
  stays_settled ns can found is kind =
      subst (λ n. Sweeps r v ns others p n) (let e : removed ≡ removed + 0 = omega arith in e)
      (sweep.sweep_stays r.rows v r.shape copy r.few_rows inside others (work_of p) cells fresh (marked_of p) removed ns can (omega (arith, is, kind)))

  pub is_leaf : (ns : Nodes) → Settles r v ns others p removed → (found : ℕ) → found ≡ entry v ns → found / ROOT_ROWS ≡ 3
      → (b : Box) × (placed : List Placed) × (later : Nodes) × (ns ≡ leaf (found % ROOT_ROWS) b placed later) × (0 < length placed)
  is_leaf ns can found is kind = sweep.kind_leaf r.rows v r.shape copy r.few_rows inside others (work_of p) cells fresh (marked_of p) removed ns can.pending can.some found is kind

  pub is_inner : (ns : Nodes) → Settles r v ns others p removed → (found : ℕ) → found ≡ entry v ns → (found / ROOT_ROWS ≡ 0 → ⊥) → (found / ROOT_ROWS ≡ 3 → ⊥)
      → (b : Box) × (kids later : Nodes) × (ns ≡ inner (found % ROOT_ROWS) b kids later) × (weakly_dominates v b.nadir ≡ true) × (found / ROOT_ROWS ≡ 4 + length (heads kids))
  is_inner ns can found is other another = sweep.kind_inner r.rows v r.shape copy r.few_rows inside others (work_of p) cells fresh (marked_of p) removed ns can.pending can.some found is other another

  module _ (row : ℕ) (b : Box) (placed : List Placed) (later : Nodes) (can : Settles r v (leaf row b placed later) others p removed) where
    pub settle_row : In row copy.rows
    settle_row = sweep.leaf_row r.rows v r.shape copy r.few_rows inside others (work_of p) cells fresh (marked_of p) removed row b placed later can

    pub settle_points : HasPlaced r.shape copy row placed
    settle_points = sweep.leaf_points r.rows v r.shape copy r.few_rows inside others (work_of p) cells fresh (marked_of p) removed row b placed later can

    pub settle_few : length placed ≤ 20
    settle_few = sweep.leaf_few r.rows v r.shape copy r.few_rows inside others (work_of p) cells fresh (marked_of p) removed row b placed later can

    pub settle_count : (first : ℕ) → ((w : ℕ) → look_up cells row 0 ≡ Some w → first ≡ w) → length placed ≡ first / 4
    settle_count first word =
        let there = can.pending.written.0.first in
        sweep.leaf_count r.rows v r.shape copy r.few_rows inside others (work_of p) cells fresh (marked_of p) removed row b placed later can first (there ∙ ap Some (sym (word _ (pinned_words r p building row settle_row 0 ∙ there))))

    pub settle_hit : (count : ℕ) (hit : List Bool) → length placed ≡ count → 0 < length placed → hit ≡ hits_of v placed → IsHitLeaf r.shape copy row count hit v b placed
    settle_hit = sweep.hit_leaf r.rows v r.shape copy r.few_rows inside others (work_of p) cells fresh (marked_of p) removed row b placed later can

    pub settle_marks : (x : ℕ) → times x (marked_of p) + times x (row ∷ rows_with placed) ≤ 1
    settle_marks = sweep.leaf_marks r.rows v r.shape copy r.few_rows inside others (work_of p) cells fresh (marked_of p) removed row b placed later can

    pub settle_unmarked : times row (marked_of p) ≡ 0
    settle_unmarked = let few = settle_marks row in let once = times-head row (rows_with placed) in omega (arith, few, once)

    -- after looks at it, and after other steps
    module _ (s : Pass L Entry G) (t c : List ℕ) (does : Does r t [] c p s) where
      pub still_row : In row (pinned_copy (known_of s)).rows
      still_row = row_still r t [] c p s does row settle_row

      pub still_points : HasPlaced r.shape (pinned_copy (known_of s)) row placed
      still_points = stay_pinned r (λ (x : Copy). HasPlaced r.shape x row placed) t [] c p s does settle_points

      pub still_hit : (count : ℕ) (hit : List Bool) → length placed ≡ count → 0 < length placed → hit ≡ hits_of v placed → IsHitLeaf r.shape (pinned_copy (known_of s)) row count hit v b placed
      still_hit count hit n nonempty is = stay_pinned r (λ (x : Copy). IsHitLeaf r.shape x row count hit v b placed) t [] c p s does (settle_hit count hit n nonempty is)

      pub still_marks : (x : ℕ) → times x (marked_of s) + times x (row ∷ rows_with placed) ≤ 1
      still_marks x = let e = ap (times x) (does.marks ∙ append-nil (marked_of p)) in let few = settle_marks x in omega (arith, e, few)

    pub leaf_settled : (q : Pass L Entry G) (t m : List ℕ) → Does r t m t p q → (k w more : ℕ) → length others ≡ k → IsNodeLeft r.rows v r.shape (leaf row b placed no_nodes) (known_words (known_of q)) t m more w
        → work_of q ≡ set (work_of p) k w → Sweeps r v (leaf row b placed later) others q (removed + more)
    leaf_settled q t m does k w more at one now =
        sweep.sweep_leaf r.rows v r.shape copy r.few_rows inside others (work_of p) cells fresh (marked_of p) removed row b placed later can k w more at (known_words (known_of q)) t m one does.elsewhere (apart q t m t does) (work_of q) (known_of q).core.fresh (marked_of q) now does.fresh does.marks

    pub leaf_unchanged : (q : Pass L Entry G) → Does r [] [] [] p q → (k w : ℕ) → length others ≡ k → hits v (points_with placed) ≡ 0 → w ≡ row
        → work_of q ≡ set (work_of p) k w → Sweeps r v (leaf row b placed later) others q (removed + 0)
    leaf_unchanged q does k w at none is now =
        leaf_settled q [] [] does k row 0 at (sweep.leaf_same r.rows v r.shape copy r.few_rows inside others (work_of p) cells fresh (marked_of p) removed row b placed later can (known_words (known_of q)) none) (now ∙ ap (λ u. set (work_of p) k u) is)

  module _ (row : ℕ) (b : Box) (kids later : Nodes) (can : Settles r v (inner row b kids later) others p removed) (over : weakly_dominates v b.nadir ≡ true) (count : ℕ) (counted : length (heads kids) ≡ count) where
    pub kids_row : In row copy.rows
    kids_row = sweep.inner_row r.rows v r.shape copy r.few_rows inside others (work_of p) cells fresh (marked_of p) removed row b kids later can over count counted

    pub kids_few : count ≤ 20
    kids_few = sweep.inner_few r.rows v r.shape copy r.few_rows inside others (work_of p) cells fresh (marked_of p) removed row b kids later can over count counted

    pub kids_boxed : IsBoxed r.shape copy row b
    kids_boxed = sweep.inner_boxed r.rows v r.shape copy r.few_rows inside others (work_of p) cells fresh (marked_of p) removed row b kids later can over count counted

    pub kids_unmarked : times row (marked_of p) ≡ 0
    kids_unmarked = sweep.inner_unmarked r.rows v r.shape copy r.few_rows inside others (work_of p) cells fresh (marked_of p) removed row b kids later can over count counted

    pub kids_marked : (u w : Pass L Entry G) (t : List ℕ) → Does r t [] t p u → IsPassOf r w → IsSamePass u w → knows_of w ≡ knows_of u → marked_of w ≡ marked_of u ++ row ∷ [] → Does r [] (row ∷ []) [] u w
    kids_marked u w t does is_pass same knows marks =
        mark_does r u w row does.building (row_still r t [] t p u does row kids_row) (ap (times row) (does.marks ∙ append-nil (marked_of p)) ∙ kids_unmarked) is_pass same knows marks

    -- as many words as there are children are on the list
    pub kids_length : count ≤ length (work_of p)
    kids_length = sweep.inner_length r.rows v r.shape copy r.few_rows inside others (work_of p) cells fresh (marked_of p) removed row b kids later can over count counted

    abbrev pub kids_named : Nodes
    kids_named = (sweep.parts r.rows v r.shape copy r.few_rows inside others (work_of p) cells fresh (marked_of p) removed row b kids later can over count counted).named_second

    module _ (from : ℕ) (at : from ≡ length (work_of p) - count) where
      pub kids_from : from + count ≡ length (work_of p)
      kids_from = sweep.from_count r.rows v r.shape copy r.few_rows inside others (work_of p) cells fresh (marked_of p) removed row b kids later can over count counted from at

      pub kids_place : length others < length (take from (work_of p))
      kids_place = sweep.place_in r.rows v r.shape copy r.few_rows inside others (work_of p) cells fresh (marked_of p) removed row b kids later can over count counted from at

      pub kids_changed : is_touched (drop from (work_of p)) ≡ is_hit v (points_of kids)
      kids_changed = sweep.kids_touched r.rows v r.shape copy r.few_rows inside others (work_of p) cells fresh (marked_of p) removed row b kids later can over count counted from at building.inside

      pub kids_are_left : is_hit v (points_of kids) ≡ true → AreKidsLeft r.rows v r.shape (drop from (work_of p)) kids kids_named cells fresh
      kids_are_left = sweep.kids_left r.rows v r.shape copy r.few_rows inside others (work_of p) cells fresh (marked_of p) removed row b kids later can over count counted from at building.inside

      pub inner_unchanged : (q : Pass L Entry G) → Does r [] [] [] p q → (k w : ℕ) → length others ≡ k → is_hit v (points_of kids) ≡ false → w ≡ row → work_of q ≡ set (take from (work_of p)) k w → Sweeps r v (inner row b kids later) others q removed
      inner_unchanged q does k w place none is now =
          sweep.sweep_inner_none r.rows v r.shape copy r.few_rows inside others (work_of p) cells fresh (marked_of p) removed row b kids later can over count counted from at none (known_words (known_of q)) does.elsewhere
          (work_of q) (known_of q).core.fresh (marked_of q) (now ∙ ap₂ (λ i u. set (take from (work_of p)) i u) (sym place) is) does.fresh does.marks

      pub inner_settled : (q : Pass L Entry G) (t : List ℕ) → Does r t (row ∷ []) t p q → (k w : ℕ) → length others ≡ k
          → IsNodeLeft r.rows v r.shape (inner row b kids no_nodes) (known_words (known_of q)) (names_of r.rows (without_dominated r.rows v kids) kids_named ++ t) (row ∷ dropped v kids) (hits v (points_of kids)) w
          → work_of q ≡ set (take from (work_of p)) k w → Sweeps r v (inner row b kids later) others q removed
      inner_settled q t does k w place one now =
          sweep.sweep_inner r.rows v r.shape copy r.few_rows inside others (work_of p) cells fresh (marked_of p) removed row b kids later can over count counted from at w (known_words (known_of q)) t one does.elsewhere (apart q t (row ∷ []) t does)
          (work_of q) (known_of q).core.fresh (marked_of q) (now ∙ ap (λ i. set (take from (work_of p)) i w) (sym place)) does.fresh does.marks
