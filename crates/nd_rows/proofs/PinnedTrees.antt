-- The tree that a pass has pinned, at the start of a question and after it.
use Rattle.std.proofs.Common.{◌≡◌, ℕ, ◌/◌, ◌≤◌, false, Option, Some, None, List, [], ◌∷◌, ◌++◌, length, reverse, take, sym, ap, subst, ◌∙◌, arith, ℤ}
use Rattle.std.specs.Prelude.{IfSome}
use Rattle.std.proofs.lemmas.Option.{same_Some}
use Rattle.era_core.specs.Lists.{In}
use Rattle.era_core.specs.Versions.{Copy, look_up}
use Rattle.era_core.proofs.Room.{length-below}
use Rattle.era_rows.specs.Known.{Known, pinned_copy}
use Rattle.era_rows.specs.Passes.{known_of, knows_of, seen_of, marked_of, memory_of, work_of, IsPassOf}
use Rattle.era_rows.specs.declared.pass.Pass.{Pass}
use Rattle.era_rows.specs.declared.rows.Rows.{Rows}
use Rattle.era_rows.specs.declared.law.Law.{Ghosts}
use Rattle.pls_archive.specs.declared.call.Entry.{Entry}
use Rattle.nd_rows.specs.declared.question.Question.{Question}
use Rattle.nd_rows.specs.Nodes.{Nodes, heads, rows_of, points_of, AreFormed, necessary}
use Rattle.nd_rows.specs.Layout.{IsTreeOf, StandsFor}
use Rattle.nd_rows.specs.Reads.{ReadsIn, LooksIn, HasPinnedTree}
use Rattle.nd_rows.specs.Walk.{some_meets, ArePending, BeginAt, AreOnList, IsRowOf, Finds}
use Rattle.nd_rows.proofs.Looks.{looks_more, looks_work, looks_at, same_copy, stays}
use Rattle.nd_rows.proofs.Left.{begins}
use Rattle.nd_rows.proofs.Pending.{row_among, row_necessary, first_there, linked_formed, unlinked_points}
use Rattle.nd_rows.proofs.Finding.{found_first}

-- the nodes of a tree are pending
tree_pending : (objectives : ℕ) (c : Copy) (t : Nodes) → IsTreeOf objectives c t → ArePending objectives c t
tree_pending objectives c t is = record { written = is.written; formed = is.formed; boxed = is.boxed; among = λ x here. subst (In x) (sym is.rows_are) here }

module _ {L E : Type 0} {G : Ghosts L E} where
  -- the tree has at most as many rows as there are
  tree_few : (r : Rows L E) (objectives : ℕ) (p : Pass L E G) (t : Nodes) → IsPassOf r p → IsTreeOf objectives (pinned_copy (known_of p)) t → length (rows_of t) ≤ r.rows
  tree_few r objectives p t is_pass is =
      let few = length-below (known_of p).rows (pinned_copy (known_of p)).rows is.once p.tied.tree.inside in
      let same = ap length is.rows_are in
      let rows = is_pass.sized.rows_are in omega arith

module _ {L : Type 0} {G : Ghosts L Entry} (r : Rows L Entry) (n : ℕ) (p : Pass L Entry G) (tree : HasPinnedTree r n p) (pin : ℕ × ℕ) (found : Some pin ≡ (known_of p).core.pinned) where
  -- the root of the tree
  root_heads : heads tree.stands.0 ≡ pin.1 ∷ []
  root_heads = tree.stands.1.rooted ∙ ap (λ x. x ∷ []) (tree.rooted ∙ ap (λ (x : ℕ × ℕ). x.1) (same_Some _ _ (sym tree.pinned ∙ sym found)))

  root_begins : BeginAt r.shape (pinned_copy (known_of p)) pin.1 tree.stands.0
  root_begins = record { pending = tree_pending r.shape (pinned_copy (known_of p)) tree.stands.0 tree.stands.1; here = (begins tree.stands.0 pin.1 [] root_heads).0 }

  pub root_among : In pin.1 (pinned_copy (known_of p)).rows
  root_among = row_among r.shape (pinned_copy (known_of p)) pin.1 tree.stands.0 root_begins

  -- with the root on a work list the tree is
  root_alone : (work : List ℕ) → work ≡ pin.1 ∷ [] → AreOnList r.shape (pinned_copy (known_of p)) r.rows work tree.stands.0
  root_alone work is = record { pending = root_begins.pending; on_list = root_heads ∙ ap reverse (sym is); few = tree_few r r.shape p tree.stands.0 tree.is_pass tree.stands.1 }

  pub root_on_list : work_of p ≡ [] → (q : Pass L Entry G) → knows_of q ≡ knows_of p → work_of q ≡ work_of p ++ pin.1 ∷ [] → AreOnList r.shape (pinned_copy (known_of q)) r.rows (work_of q) tree.stands.0
  root_on_list idle q knows work =
      subst (λ (k : Known). AreOnList r.shape (pinned_copy k) r.rows (work_of q) tree.stands.0) (ap (λ k. k.view) (sym knows)) (root_alone (work_of q) (work ∙ ap (λ ws. ws ++ pin.1 ∷ []) idle))

-- A question begins with the root on the work list
pub record HasBegun {L E : Type 0} {G : Ghosts L E} (r : Rows L E) (v : List ℤ) (p q : Pass L E G) (t : Nodes) : Type 0 where
  pub formed : AreFormed (length v) t
  pub on_list : AreOnList (length v) (pinned_copy (known_of q)) r.rows (work_of q) t
  pub looks : LooksIn r (necessary v t) p q

module _ {L : Type 0} {G : Ghosts L Entry} (r : Rows L Entry) (v : List ℤ) (n : ℕ) (p : Pass L Entry G) (tree : HasPinnedTree r n p) (parts : length v ≡ r.shape) where
  -- word 0 of the root was read
  module _ (pin : ℕ × ℕ) (found : Some pin ≡ (known_of p).core.pinned) (q : Pass L Entry G) (word : LooksIn r (pin.1 ∷ []) p q)
      (first : ℕ) (is : (w : ℕ) → look_up (pinned_copy (known_of p)).cells pin.1 0 ≡ Some w → first ≡ w) where
    at : BeginAt r.shape (pinned_copy (known_of p)) pin.1 tree.stands.0
    at = root_begins r n p tree pin found

    there : look_up (pinned_copy (known_of p)).cells pin.1 0 ≡ Some first
    there = first_there r.shape (pinned_copy (known_of p)) pin.1 tree.stands.0 at first is

    pub root_looks : LooksIn r (necessary v tree.stands.0) p q
    root_looks = looks_at r (necessary v tree.stands.0) p q pin.1 (row_necessary r.shape (pinned_copy (known_of p)) pin.1 v tree.stands.0 at) word

    -- where it has no links, no point is below it
    pub none_asked : first / 4 ≡ 0 → (ask : Question) → false ≡ some_meets ask (points_of tree.stands.0) v
    none_asked none ask = ap (λ points. some_meets ask points v) (sym (unlinked_points r.shape (pinned_copy (known_of p)) pin.1 tree.stands.0 first at there none))

    -- and else it is put on the work list
    pub begun : (first / 4 ≡ 0 → ⊥) → work_of q ≡ []
        → (s : Pass L Entry G) → ((x : Rows L Entry) → IsPassOf x q → IsPassOf x s) → s.number ≡ q.number → knows_of s ≡ knows_of q → marked_of s ≡ marked_of q → memory_of s ≡ memory_of q → work_of s ≡ work_of q ++ pin.1 ∷ []
        → HasBegun r v p s tree.stands.0
    begun linked idle s pass number knows marks memory work =
        let all = necessary v tree.stands.0 in
        let looks = looks_more r all p q s root_looks (looks_work r all q s word.is_pass pass number knows marks memory) in record {
          formed = subst (λ (m : ℕ). AreFormed m tree.stands.0) (sym parts) (linked_formed r.shape (pinned_copy (known_of p)) pin.1 tree.stands.0 first at there linked);
          on_list = subst (λ (m : ℕ). AreOnList m (pinned_copy (known_of s)) r.rows (work_of s) tree.stands.0) (sym parts)
              (stays r (λ (c : Copy). AreOnList r.shape c r.rows (work_of s) tree.stands.0) all p s looks (root_alone r n p tree pin found (work_of s) (work ∙ ap (λ ws. ws ++ pin.1 ∷ []) idle)));
          looks = looks;
        }

  -- and ends with no node on it
  module _ (q s : Pass L Entry G) (begins : HasBegun r v p q tree.stands.0) (looks : LooksIn r (necessary v tree.stands.0) q s) where
    pub all_looks : LooksIn r (necessary v tree.stands.0) p s
    all_looks = looks_more r (necessary v tree.stands.0) p q s begins.looks looks

  -- a point that it found is below the root
  pub all_finds : (q : Pass L Entry G) → HasBegun r v p q tree.stands.0 → (after : Option ℕ) → Finds (length v) (pinned_copy (known_of q)) (necessary v tree.stands.0) (points_of tree.stands.0) None after
      → IfSome after (IsRowOf r.shape (pinned_copy (known_of p)) (necessary v tree.stands.0) (points_of tree.stands.0))
  all_finds q begins after finds =
      let all = necessary v tree.stands.0 in
      let points = points_of tree.stands.0 in
      found_first r.shape (pinned_copy (known_of p)) all points after
      (subst (λ (m : ℕ). Finds m (pinned_copy (known_of p)) all points None after) parts (subst (λ (c : Copy). Finds (length v) c all points None after) (same_copy r all p q begins.looks) finds))

-- after readings the same version is pinned
pub pinned_after : {L : Type 0} {G : Ghosts L Entry} (r : Rows L Entry) (all : List ℕ) (p q : Pass L Entry G) → IsPassOf r q → ReadsIn all (known_of p) (known_of q) → seen_of q ≡ seen_of p → (n : ℕ) → HasPinnedTree r n p → HasPinnedTree r n q
pinned_after r all p q is_pass reads seen n tree =
    let copy = ap (λ (k : Known). pinned_copy k) reads.now in record {
      is_pass = is_pass;
      root = tree.root;
      pinned = ap (λ (k : Known). k.core.pinned) reads.now ∙ tree.pinned;
      rooted = ap (λ (c : Copy). c.root) copy ∙ tree.rooted;
      stands =
          subst (λ (entries : List Entry). StandsFor r.shape (pinned_copy (known_of q)) (take n entries)) (sym seen)
          (subst (λ (c : Copy). StandsFor r.shape c (take n (seen_of p))) (sym copy) tree.stands);
    }

pub still_pinned : {L : Type 0} {G : Ghosts L Entry} (r : Rows L Entry) (all : List ℕ) (p q : Pass L Entry G) → LooksIn r all p q → (n : ℕ) → HasPinnedTree r n p → HasPinnedTree r n q
still_pinned r all p q looks n tree = pinned_after r all p q looks.is_pass looks.reads looks.same_seen n tree
