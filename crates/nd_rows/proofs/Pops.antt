-- The last node is taken off the work list: what a pass finds there, and what asking it leaves.
use Rattle.std.proofs.Common.{◌≡◌, ℕ, ◌+◌, ◌-◌, ◌*◌, ◌<◌, ◌≤◌, Bool, true, false, Option, List, ◌∷◌, length, take, reverse, sym, ap, subst, ◌∙◌, arith, ℤ}
use Rattle.std.specs.Prelude.{unwrap_or}
use Rattle.era_core.specs.Versions.{Copy}
use Rattle.era_rows.specs.Known.{pinned_copy}
use Rattle.era_rows.specs.Passes.{known_of, knows_of, marked_of, memory_of, work_of, IsPassOf}
use Rattle.era_rows.specs.declared.pass.Pass.{Pass}
use Rattle.era_rows.specs.declared.rows.Rows.{Rows}
use Rattle.era_rows.specs.declared.law.Law.{Ghosts}
use Rattle.nd_rows.specs.declared.question.Question.{Question}
use Rattle.nd_rows.specs.Nodes.{Nodes, heads, rows_of, points_of, necessary}
use Rattle.nd_rows.specs.Reads.{LooksIn}
use Rattle.nd_rows.specs.Walk.{some_meets, BeginAt, AreLeft, Asked, Asks, Finds, kids_of}
use Rattle.nd_rows.proofs.Looks.{looks_more, looks_among, looks_work, same_copy, stays, row_small}
use Rattle.nd_rows.proofs.Pending.{row_among}
use Rattle.nd_rows.proofs.Left.{from_end, left_at, left_room}
use Rattle.nd_rows.proofs.Asking.{asked_yes, asked_more}
use Rattle.nd_rows.proofs.Finding.{finds_among}
use mathlib.Core.Option.{some}
use lib.ListN.{get_elem?}

module _ {L E : Type 0} {G : Ghosts L E} (r : Rows L E) (objectives : ℕ) (all : List ℕ) (p : Pass L E G) (ns : Nodes) (k : ℕ) where
  -- pass q took the first of the nodes that are left, which stands in this row, off its work list, and is pass s then
  pub record IsPopped (left : Nodes) (q s : Pass L E G) (row : ℕ) : Type 0 where
    pub looks : LooksIn r all p s
    pub top : reverse (work_of q) ≡ row ∷ reverse (work_of s)
    pub small : row < 262144
    pub at : BeginAt objectives (pinned_copy (known_of s)) row left
    pub room : length (work_of s) + length (heads (kids_of left)) ≤ 2 * r.rows

  pub popped : length (rows_of ns) ≤ r.rows
      → (q : Pass L E G) → IsPassOf r q → LooksIn r all p q → (left : Nodes) → AreLeft objectives (pinned_copy (known_of p)) ns k (work_of q) left
      → (len row : ℕ) → len ≡ length (work_of q) → (len ≡ 0 → ⊥) → get_elem? (work_of q) (len - 1) ≡ some row
      → (s : Pass L E G) → ((x : Rows L E) → IsPassOf x q → IsPassOf x s) → s.number ≡ q.number → knows_of s ≡ knows_of q → marked_of s ≡ marked_of q → memory_of s ≡ memory_of q → work_of s ≡ take (len - 1) (work_of q)
      → IsPopped left q s row
  popped few q is_pass so_far left are len row len_is some_left there s pass number knows marks memory work =
      let copy = pinned_copy (known_of p) in
      let looks = looks_more r all p q s so_far (looks_work r all q s is_pass pass number knows marks memory) in
      let top = from_end (work_of q) (len - 1) row (omega arith) there ∙ ap (λ ws. row ∷ reverse ws) (sym work) in
      let at = left_at objectives copy ns k (work_of q) left are row (work_of s) top in
      record {
        looks = looks;
        top = top;
        small = row_small p row (row_among objectives copy row left at);
        at = stays r (λ (c : Copy). BeginAt objectives c row left) all p s looks at;
        room = (let room = left_room objectives copy ns k (work_of q) left are row (work_of s) top in omega arith);
      }

-- then the node was asked
module _ {L E : Type 0} {G : Ghosts L E} (r : Rows L E) (ask : Question) (v : List ℤ) (p : Pass L E G) (ns : Nodes) (k : ℕ) (q s t : Pass L E G) (row : ℕ)
    (so_far : Asked (length v) (pinned_copy (known_of p)) ask v ns k (work_of q)) (popped : IsPopped r (length v) (necessary v ns) p ns k so_far.left q s row)
    (one : LooksIn r (necessary v so_far.left) s t) (result : Option Bool) (asks : Asks ask v so_far.left result (work_of s) (work_of t)) where
  pub pop_looks : LooksIn r (necessary v ns) p t
  pop_looks = looks_more r (necessary v ns) p s t popped.looks (looks_among r (necessary v ns) (necessary v so_far.left) s t so_far.needed one)

  pub pop_finds : (before after : Option ℕ) → Finds (length v) (pinned_copy (known_of s)) (necessary v so_far.left) (points_of so_far.left) before after
      → Finds (length v) (pinned_copy (known_of p)) (necessary v ns) (points_of ns) before after
  pop_finds before after finds =
      finds_among (length v) (pinned_copy (known_of p)) (necessary v so_far.left) (necessary v ns) (points_of so_far.left) (points_of ns) so_far.needed so_far.below before after
      (subst (λ (c : Copy). Finds (length v) c (necessary v so_far.left) (points_of so_far.left) before after) (same_copy r (necessary v ns) p s popped.looks) finds)

  pub pop_yes : unwrap_or result false ≡ true → true ≡ some_meets ask (points_of ns) v
  pop_yes is_yes = asked_yes (length v) (pinned_copy (known_of p)) ask v ns k (work_of q) so_far row (work_of s) popped.top result (work_of t) is_yes asks

  pub pop_more : unwrap_or result false ≡ false → Asked (length v) (pinned_copy (known_of p)) ask v ns (k + 1) (work_of t)
  pop_more not_yes = asked_more (length v) (pinned_copy (known_of p)) ask v ns k (work_of q) so_far row (work_of s) popped.top result (work_of t) not_yes asks
