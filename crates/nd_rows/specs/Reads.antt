-- What questions read, and what a pass is before and after them.
use Rattle.std.specs.Prelude.{◌≡◌, ℕ, ◌<◌, ℤ, Option, Some, List, ◌++◌, take}
use Rattle.era_core.specs.declared.sizes.TheConstants.{WIDTH}
use Rattle.era_core.specs.Lists.{In}
use Rattle.era_core.specs.Words.{cell_at}
use Rattle.era_rows.specs.Known.{Known, Look, pinned_copy}
use Rattle.era_rows.specs.Passes.{known_of, seen_of, lists_of, marked_of, memory_of, work_of, IsPassOf}
use Rattle.era_rows.specs.declared.pass.Pass.{Pass}
use Rattle.era_rows.specs.declared.rows.Rows.{Rows}
use Rattle.era_rows.specs.declared.law.Law.{Ghosts}
use Rattle.pls_archive.specs.declared.call.Entry.{Entry}
use Rattle.nd_rows.specs.Nodes.{Nodes, necessary}
use Rattle.nd_rows.specs.Layout.{IsTreeOf, StandsFor}
use mathlib.Core.Option.{some}
use lib.ListN.{get_elem?}

-- the pass has read words, each of one of these rows
pub record ReadsIn (rows : List ℕ) (before after : Known) : Type 0 where
  pub more : List Look
  pub last : Option ℕ
  pub now : after ≡ record before { core = record before.core { last = last }; looks = before.looks ++ more }
  pub only : (i : ℕ) (l : Look) → get_elem? more i ≡ some l → (r p : ℕ) × In r rows × (p < WIDTH) × (l.0 ≡ cell_at before.passes before.rows r p)

-- the pass has read words of rows that the question about this value needs
abbrev pub ReadsNecessary : ℕ → List ℤ → Known → Known → Type 0
ReadsNecessary objectives v before after = (t : Nodes) × IsTreeOf objectives (pinned_copy before) t × ReadsIn (necessary v t) before after

module _ {L E : Type 0} {G : Ghosts L E} where
  -- the pass has read words of these rows, and is what it was but for its work list
  pub record LooksIn (r : Rows L E) (rows : List ℕ) (p q : Pass L E G) : Type 0 where
    pub is_pass : IsPassOf r q
    pub reads : ReadsIn rows (known_of p) (known_of q)
    pub same_number : q.number ≡ p.number
    pub same_memory : memory_of q ≡ memory_of p
    pub same_marks : marked_of q ≡ marked_of p
    pub same_seen : seen_of q ≡ seen_of p
    pub same_lists : lists_of q ≡ lists_of p

  -- the pass has the work list, the marks and the entries that it had, and may remember other words
  pub record HasKept (p q : Pass L E G) : Type 0 where
    pub same_number : q.number ≡ p.number
    pub same_work : work_of q ≡ work_of p
    pub same_marks : marked_of q ≡ marked_of p
    pub same_seen : seen_of q ≡ seen_of p
    pub same_lists : lists_of q ≡ lists_of p

module _ {L : Type 0} {G : Ghosts L Entry} where
  -- the pass has pinned version n, which stands for the first n entries that it has seen
  pub record HasPinnedTree (r : Rows L Entry) (n : ℕ) (p : Pass L Entry G) : Type 0 where
    pub is_pass : IsPassOf r p
    pub root : ℕ
    pub pinned : (known_of p).core.pinned ≡ Some (n, root)
    pub rooted : (pinned_copy (known_of p)).root ≡ root
    pub stands : StandsFor r.shape (pinned_copy (known_of p)) (take n (seen_of p))
