-- All nodes of the list of a pass are settled, from its end; and what is left of the tree.
use Rattle.std.proofs.Common.{◌≡◌, ℕ, zero, suc, ◌+◌, ◌/◌, ◌%◌, ◌<◌, ◌≤◌, ◌⊎◌, inl, inr, true, false, nat_lt, if◌then◌else◌, Option, Some, None, List, [], ◌∷◌, ◌++◌, length, take, refl, sym, ap, subst, ◌∙◌, arith, append-nil, length-append, ℤ, true≢false}
use Rattle.std.specs.Prelude.{is_none}
use Rattle.std.proofs.lemmas.Option.{same_Some}
use Rattle.era_core.specs.declared.sizes.TheConstants.{ROOT_ROWS}
use Rattle.era_core.specs.Lists.{times, In}
use Rattle.era_core.specs.Versions.{Copy, look_up}
use Rattle.era_core.proofs.ListFacts.{times-append, in_head}
use Rattle.era_core.proofs.Room.{length-below}
use Rattle.era_rows.specs.Known.{Known, pinned_copy, known_words}
use Rattle.era_rows.specs.Passes.{known_of, knows_of, marked_of, memory_of, work_of, IsPassOf}
use Rattle.era_rows.specs.declared.pass.Pass.{Pass}
use Rattle.era_rows.specs.declared.rows.Rows.{Rows}
use Rattle.era_rows.specs.declared.law.Law.{Ghosts}
use Rattle.pls_archive.specs.declared.call.Entry.{Entry}
use Rattle.pls_archive.specs.declared.point.Point.{Point}
use Rattle.pls_archive.specs.Lists.{one_if}
use Rattle.pls_vectors.specs.Dominance.{weakly_dominates}
use Rattle.nd_rows.specs.Nodes.{Placed, Nodes, no_nodes, leaf, inner, heads, rows_of, rows_with, points_of, points_with, followed_by, AreFormed}
use Rattle.nd_rows.specs.Layout.{IsTreeOf}
use Rattle.nd_rows.specs.Reads.{LooksIn}
use Rattle.nd_rows.specs.Walk.{ArePending, BeginAt}
use Rattle.nd_rows.proofs.Following.{rows-followed}
use Rattle.nd_rows.proofs.Left.{begins}
use Rattle.nd_rows.proofs.Pending.{nothing_first, row_among, first_there, links_count, linked_formed}
use Rattle.nd_update.specs.Building.{IsBuilding, Does}
use Rattle.nd_update.specs.Left.{hits, next, left, entries, gone_word, alive, AreListed, AreAllListed, IsLeft}
use Rattle.nd_update.specs.Needed.{ReadsOnly, opened}
use Rattle.nd_update.specs.Sweeps.{Lists, Settles, Sweeps}
use Rattle.nd_update.proofs.Filters.{by_test}
use Rattle.nd_update.proofs.Building.{looks_do, read_does}
use Rattle.nd_update.proofs.Removing.{does_work, stay_pinned, inside_now}
use Rattle.nd_update.proofs.Swept.{results_alive, results_length, heads_in}
use Rattle.nd_update.proofs.Listing.{pending_left, length-entries, plain_empty}
use Rattle.nd_update.proofs.Opening.{only_at, only_kept, opened_first}
use Rattle.nd_update.proofs.Reading.{only_row}
use Rattle.nd_update.proofs.Sweeping.{small_heads}
use mathlib.Core.Option.{some}
use lib.ListN.{get_elem?}

-- ---- numbers
hits_le : (v : List ℤ) (points : List Point) → hits v points ≤ length points
hits_le v [] = omega arith
hits_le v (p ∷ points) = let rest = hits_le v points in by_test (λ s. one_if s + hits v points ≤ suc (length points)) (weakly_dominates v p.value) (λ goes. omega (arith, rest)) (λ stays. omega (arith, rest))

points_le_with : (placed : List Placed) → length (points_with placed) ≡ length (rows_with placed)
points_le_with [] = refl
points_le_with (p ∷ placed) = ap suc (points_le_with placed)

points_le : (ns : Nodes) → length (points_of ns) ≤ length (rows_of ns)
points_le no_nodes = omega arith
points_le (leaf r b placed later) =
    let rest = points_le later in let n = length-append (points_with placed) (points_of later) in let m = length-append (rows_with placed) (rows_of later) in let e = points_le_with placed in omega (arith, rest, n, m, e)
points_le (inner r b kids later) =
    let below = points_le kids in let rest = points_le later in let n = length-append (points_of kids) (points_of later) in let m = length-append (rows_of kids) (rows_of later) in omega (arith, below, rest, n, m)

module _ (v : List ℤ) where
  next_rows : (x : ℕ) (ns : Nodes) → times x (rows_of (next v ns)) ≤ times x (rows_of ns)
  next_rows x no_nodes = omega arith
  next_rows x (leaf r b placed later) = let n = times-append x (rows_with placed) (rows_of later) in omega (arith, n)
  next_rows x (inner r b kids later) =
      let n = times-append x (rows_of kids) (rows_of later) in
      by_test (λ s. times x (rows_of (followed_by later (if s then kids else no_nodes))) ≤ times x (rows_of (inner r b kids later))) (weakly_dominates v b.nadir)
      (λ over. let m = ap (times x) (rows-followed later kids) ∙ times-append x (rows_of later) (rows_of kids) in omega (arith, n, m))
      (λ under. let m = ap (times x) (rows-followed later no_nodes) ∙ times-append x (rows_of later) [] in omega (arith, n, m))

  pub left_rows : (x k : ℕ) (t : Nodes) → times x (rows_of (left v k t)) ≤ times x (rows_of t)
  left_rows x zero t = omega arith
  left_rows x (suc k) t = let one = next_rows x (left v k t) in let rest = left_rows x k t in omega (arith, one, rest)

  next_length : (ns : Nodes) → length (rows_of (next v ns)) ≤ length (rows_of ns)
  next_length no_nodes = omega arith
  next_length (leaf r b placed later) = let n = length-append (rows_with placed) (rows_of later) in omega (arith, n)
  next_length (inner r b kids later) =
      let n = length-append (rows_of kids) (rows_of later) in
      by_test (λ s. length (rows_of (followed_by later (if s then kids else no_nodes))) ≤ length (rows_of (inner r b kids later))) (weakly_dominates v b.nadir)
      (λ over. let m = ap length (rows-followed later kids) ∙ length-append (rows_of later) (rows_of kids) in omega (arith, n, m))
      (λ under. let m = ap length (rows-followed later no_nodes) ∙ length-append (rows_of later) [] in omega (arith, n, m))

  left_length : (k : ℕ) (t : Nodes) → length (rows_of (left v k t)) ≤ length (rows_of t)
  left_length zero t = omega arith
  left_length (suc k) t = let one = next_length (left v k t) in let rest = left_length k t in omega (arith, one, rest)

-- ---- one word
one_alive : (w : ℕ) → ((nat_lt w gone_word ≡ true) × (alive (w ∷ []) ≡ w % ROOT_ROWS ∷ [])) ⊎ ((nat_lt w gone_word ≡ false) × (alive (w ∷ []) ≡ []))
one_alive w =
    by_test (λ s. ((s ≡ true) × ((if s then w % ROOT_ROWS ∷ [] else []) ≡ w % ROOT_ROWS ∷ [])) ⊎ ((s ≡ false) × ((if s then w % ROOT_ROWS ∷ [] else []) ≡ []))) (nat_lt w gone_word) (λ low. inl (refl, refl)) (λ high. inr (refl, refl))

pub single : (ws : List ℕ) → length ws ≡ 1 → (w : ℕ) × (ws ≡ w ∷ [])
single [] e = absurd (omega (arith, e))
single (w ∷ []) e = (w, refl)
single (w ∷ x ∷ ws) e = absurd (omega (arith, e))

heads_none : (ns : Nodes) → heads ns ≡ [] → ns ≡ no_nodes
heads_none no_nodes e = refl
heads_none (leaf r b placed later) e = absurd (nothing_first _ _ (sym e))
heads_none (inner r b kids later) e = absurd (nothing_first _ _ (sym e))

-- ---- the tree that is pinned
pub tree_pending : (objectives : ℕ) (c : Copy) (t : Nodes) → IsTreeOf objectives c t → ArePending objectives c t
tree_pending objectives c t is = record { written = is.written; formed = is.formed; boxed = is.boxed; among = λ x here. subst (In x) (sym is.rows_are) here }

module _ {L : Type 0} {G : Ghosts L Entry} (r : Rows L Entry) where
  pub tree_few : (p : Pass L Entry G) (t : Nodes) → IsPassOf r p → IsTreeOf r.shape (pinned_copy (known_of p)) t → length (rows_of t) ≤ r.rows
  tree_few p t is_pass is =
      let few = length-below (known_of p).rows (pinned_copy (known_of p)).rows is.once p.tied.tree.inside in
      let same = ap length is.rows_are in
      let rows = is_pass.sized.rows_are in omega (arith, few, same, rows)

  -- the root is on the list
  pub root_listed : (p q : Pass L Entry G) (t : Nodes) (root : ℕ) → IsPassOf r p → IsTreeOf r.shape (pinned_copy (known_of p)) t → (pinned_copy (known_of p)).root ≡ root → Does r [] [] [] p q → work_of q ≡ root ∷ [] → Lists r t [] q
  root_listed p q t root is_pass is at does work =
      stay_pinned r (λ (c : Copy). AreListed r.shape c r.rows t [] (work_of q)) [] [] [] p q does (record {
        pending = tree_pending r.shape (pinned_copy (known_of p)) t is;
        listed = work ∙ ap (λ x. x ∷ []) (sym at) ∙ sym is.rooted;
        room = (let few = tree_few p t is_pass is in omega (arith, few));
      })

  -- its word 0 was read, and then it was put on the list
  pub record IsRootRead (v : List ℤ) (p q : Pass L Entry G) (t : Nodes) (root : ℕ) : Type 0 where
    pub does : Does r [] [] [] p q
    pub work : work_of q ≡ root ∷ []
    pub lists : Lists r t [] q
    pub only : ReadsOnly (opened v t) (known_of p) (known_of q)

  module _ (v : List ℤ) (p : Pass L Entry G) (t : Nodes) (root : ℕ) (is : IsTreeOf r.shape (pinned_copy (known_of p)) t) (at : (pinned_copy (known_of p)).root ≡ root) where
    root_heads : heads t ≡ root ∷ []
    root_heads = is.rooted ∙ ap (λ x. x ∷ []) at

    root_begins : BeginAt r.shape (pinned_copy (known_of p)) root t
    root_begins = record { pending = tree_pending r.shape (pinned_copy (known_of p)) t is; here = (begins t root [] root_heads).0 }

    pub root_among : In root (pinned_copy (known_of p)).rows
    root_among = row_among r.shape (pinned_copy (known_of p)) root t root_begins

    pub root_read : (q s : Pass L Entry G) → IsBuilding r p → LooksIn r (root ∷ []) p q → work_of q ≡ work_of p → work_of p ≡ []
        → ((x : Rows L Entry) → IsPassOf x q → IsPassOf x s) → s.number ≡ q.number → knows_of s ≡ knows_of q → marked_of s ≡ marked_of q → memory_of s ≡ memory_of q → work_of s ≡ work_of q ++ root ∷ [] → IsRootRead v p s t root
    root_read q s building looks same idle pass number knows marks memory work =
        let one = looks_do r (root ∷ []) p q building looks in
        let does = read_does r [] [] [] p q s one (does_work r q s one.building pass number knows marks memory) in
        let now = work ∙ ap (λ ws. ws ++ root ∷ []) (same ∙ idle) in
        let first : In root (take 1 (heads t)) = subst (In root) (sym (ap (take 1) root_heads)) (in_head root []) in record {
          does = does;
          work = now;
          lists = root_listed p s t root building.is_pass is at does now;
          only = only_kept (opened v t) (known_of p) q s knows (only_row root (opened v t) (known_of p) (known_of q) (opened_first v t root first) (only_at r (root ∷ []) p q building looks));
        }

    module _ (first : ℕ) (word : (w : ℕ) → look_up (pinned_copy (known_of p)).cells root 0 ≡ Some w → first ≡ w) where
      there : look_up (pinned_copy (known_of p)).cells root 0 ≡ Some first
      there = first_there r.shape (pinned_copy (known_of p)) root t root_begins first word

      -- with links each node has points below it
      pub root_formed : (first / 4 ≡ 0 → ⊥) → AreFormed r.shape t
      root_formed linked = linked_formed r.shape (pinned_copy (known_of p)) root t first root_begins there linked

      -- and without links the root is all
      pub root_alone : first / 4 ≡ 0 → (work : List ℕ) → work ≡ root ∷ [] → (n : ℕ) × AreAllListed v t n work
      root_alone none work now =
          let plain = plain_empty v r.shape (pinned_copy (known_of p)) root t root_begins (links_count r.shape (pinned_copy (known_of p)) root t first root_begins there ∙ none) in
          let some : 0 < length (heads t) = (let n = ap length root_heads in omega (arith, n)) in (
            1,
            record {
              none_left = heads_none (next v t) (plain.1 ∙ (begins t root [] root_heads).1);
              some = λ k low. subst (λ i. 0 < length (heads (left v i t))) (let e : 0 ≡ k = omega (arith, low) in e) some;
              listed = now ∙ ap (λ x. x ∷ []) (sym plain.0);
            },
          )

  -- there is a row
  pub some_rows : (p : Pass L Entry G) (t : Nodes) → IsPassOf r p → IsTreeOf r.shape (pinned_copy (known_of p)) t → 0 < (known_of p).rows
  some_rows p t is_pass is =
      let c = pinned_copy (known_of p) in
      let here = subst (In c.root) (sym is.rows_are) (heads_in t c.root (subst (In c.root) (sym is.rooted) (in_head c.root []))) in
      let less = p.tied.tree.inside c.root here in omega (arith, less)

  module _ (v : List ℤ) (p q : Pass L Entry G) (t : Nodes) (n : ℕ) (is : IsTreeOf r.shape (pinned_copy (known_of p)) t) (all : AreAllListed v t n (work_of p)) where
    pub all_length : length (work_of p) ≡ n
    all_length = ap length all.listed ∙ length-entries v n t

    -- at first nothing was settled
    pub swept_first : (known_of p).core.fresh ≡ [] → marked_of p ≡ [] → (m : ℕ) → m ≡ n → Sweeps r v (left v m t) (entries v m t) p 0
    swept_first no_fresh no_marks m e =
        subst (λ i. Sweeps r v (left v i t) (entries v i t) p 0) (sym e)
        (subst (λ ns. Sweeps r v ns (entries v n t) p 0) (sym all.none_left) (record {
          results = [];
          named = no_nodes;
          listed = all.listed ∙ sym (append-nil (entries v n t));
          are_results = refl;
          settled = record { is_named = tt; written = tt; taken_are = λ x. ap (times x) no_fresh; marked_are = λ x. ap (times x) no_marks; counted = refl };
        }))

    -- then the last one that was not
    pub next_settles : (taken marked changed : List ℕ) → Does r taken marked changed p q → (k removed m : ℕ) → m ≡ suc k → k < n → Sweeps r v (left v m t) (entries v m t) q removed → Settles r v (left v k t) (entries v k t) q removed
    next_settles taken marked changed does k removed m e low swept = record {
      pending = stay_pinned r (λ (c : Copy). ArePending r.shape c (left v k t)) taken marked changed p q does (pending_left v r.shape (pinned_copy (known_of p)) k t (tree_pending r.shape (pinned_copy (known_of p)) t is));
      some = all.some k low;
      once = λ x. let few = left_rows v x k t in let one = is.once x in let same = ap (times x) is.rows_are in omega (arith, few, one, same);
      swept = subst (λ i. Sweeps r v (left v i t) (entries v i t) q removed) e swept;
    }

  -- at most as many points went as there are rows
  pub removed_few : (v : List ℤ) (p s : Pass L Entry G) (t : Nodes) (k removed : ℕ) → IsPassOf r p → IsTreeOf r.shape (pinned_copy (known_of p)) t → (others : List ℕ) → Sweeps r v (left v k t) others s removed → removed ≤ 262144
  removed_few v p s t k removed is_pass is others swept =
      let all = tree_few p t is_pass is in let few = left_length v k t in let points = points_le (left v k t) in let most = hits_le v (points_of (left v k t)) in
      let e = swept.settled.counted in let rows = r.few_rows in omega (arith, all, few, points, most, e, rows)

  -- ---- the root
  module _ (v : List ℤ) (p q : Pass L Entry G) (t : Nodes) (removed : ℕ) (building : IsBuilding r q) (is : IsTreeOf r.shape (pinned_copy (known_of q)) t) (swept : Sweeps r v t [] q removed) where
    only_word : (w : ℕ) × (work_of q ≡ w ∷ [])
    only_word =
        let e = single swept.results (results_length r.rows v swept.results t swept.named swept.are_results ∙ ap length is.rooted) in (e.0, swept.listed ∙ e.1)

    pub word_on : 0 < length (work_of q)
    word_on = let e = ap length only_word.1 in omega (arith, e)

    pub is_left : (root : Option ℕ) → ((w : ℕ) → get_elem? (work_of q) 0 ≡ some w → root ≡ (if nat_lt w gone_word then Some (w % ROOT_ROWS) else None)) → IsLeft r.rows v r.shape t (known_words (known_of q)) (known_of q).core.fresh (marked_of q) root removed
    is_left root found =
        let w = only_word.0 in
        let root_is = found w (ap (λ ws. get_elem? ws 0) only_word.1) in
        let small = small_heads r.rows v r.shape (pinned_copy (known_of q)) r.few_rows (inside_now r q building.is_pass) t swept.named swept.settled.is_named (λ x here. subst (In x) (sym is.rows_are) here)
        (λ x here. building.inside x (let e = swept.settled.taken_are x in omega (arith, here, e))) in
        let rows = sym (ap alive (sym swept.listed ∙ only_word.1)) ∙ results_alive r.rows v swept.results t swept.named swept.are_results small in
        record {
          named = swept.named;
          settled = swept.settled;
          none_left = λ e. cases (one_alive w) (λ low. absurd (none_some (w % ROOT_ROWS) (sym e ∙ root_is ∙ ap (λ s. if s then Some (w % ROOT_ROWS) else None) low.0))) (λ high. heads_none swept.named (sym rows ∙ high.1));
          rooted = λ x e. cases (one_alive w) (λ low. sym rows ∙ low.1 ∙ ap (λ y. y ∷ []) (same_Some (w % ROOT_ROWS) x (sym (root_is ∙ ap (λ s. if s then Some (w % ROOT_ROWS) else None) low.0) ∙ e)))
              (λ high. absurd (none_some x (sym (root_is ∙ ap (λ s. if s then Some (w % ROOT_ROWS) else None) high.0) ∙ e)));
        }
      where
        cases : {A B C : Type 0} → A ⊎ B → (A → C) → (B → C) → C
        cases (inl a) f g = f a
        cases (inr b) f g = g b

        none_some : (x : ℕ) → None ≡ Some x → ⊥
        none_some x e = let h : true ≡ false = ap is_none e in absurd (true≢false h)

  -- also where the list alone has changed
  pub left_still : (v : List ℤ) (p q : Pass L Entry G) (t : Nodes) (root : Option ℕ) (removed : ℕ) → knows_of q ≡ knows_of p → marked_of q ≡ marked_of p
      → IsLeft r.rows v r.shape t (known_words (known_of p)) (known_of p).core.fresh (marked_of p) root removed → IsLeft r.rows v r.shape t (known_words (known_of q)) (known_of q).core.fresh (marked_of q) root removed
  left_still v p q t root removed knows marks is =
      subst (λ ms. IsLeft r.rows v r.shape t (known_words (known_of q)) (known_of q).core.fresh ms root removed) (sym marks)
      (subst (λ (k : Known). IsLeft r.rows v r.shape t (known_words k) k.core.fresh (marked_of p) root removed) (sym (ap (λ k. k.view) knows)) is)
