-- A pass looks at one node of its list: what it finds in its row, and what was done.
use Rattle.std.proofs.Common.{◌≡◌, ℕ, ◌/◌, ◌<◌, ◌≤◌, Bool, true, false, Option, Some, List, [], ◌∷◌, length, take, sym, ap, subst, ◌∙◌, ℤ}
use Rattle.std.specs.Prelude.{is_none}
use Rattle.era_core.specs.Lists.{In}
use Rattle.era_core.specs.Versions.{Copy, look_up}
use Rattle.era_rows.specs.Known.{Known, pinned_copy}
use Rattle.era_rows.specs.Passes.{knows_of, known_of, marked_of, memory_of, work_of, IsPassOf}
use Rattle.era_rows.specs.declared.pass.Pass.{Pass}
use Rattle.era_rows.specs.declared.rows.Rows.{Rows}
use Rattle.era_rows.specs.declared.law.Law.{Ghosts}
use Rattle.pls_archive.specs.declared.call.Entry.{Entry}
use Rattle.pls_vectors.specs.Dominance.{weakly_dominates}
use Rattle.nd_rows.specs.declared.layout.TheConstants.{NADIR}
use Rattle.nd_rows.specs.Layout.{HasValue}
use Rattle.nd_rows.specs.Nodes.{Nodes, heads, AreFormed}
use Rattle.nd_rows.specs.Reads.{LooksIn}
use Rattle.nd_rows.specs.Walk.{BeginAt, side_of}
use Rattle.nd_rows.proofs.Looks.{row_small, row_there, stays}
use Rattle.nd_rows.proofs.Pending.{links_of, box_of_first, row_among, first_there, links_count, count_small, some_links, box_row}
use Rattle.nd_update.specs.Building.{IsBuilding, Does}
use Rattle.nd_update.specs.Needed.{ReadsOnly}
use Rattle.nd_update.specs.Sweeps.{Lists}
use Rattle.nd_update.proofs.Building.{looks_do, read_does}
use Rattle.nd_update.proofs.Removing.{does_work}
use Rattle.nd_update.proofs.Listing.{begin_at, side_none, side_some}
use mathlib.Core.Option.{some}
use lib.ListN.{get_elem?}

module _ {L : Type 0} {G : Ghosts L Entry} (r : Rows L Entry) where
  -- two looks at its row
  pub looks_twice : (p q s : Pass L Entry G) (row : ℕ) → IsBuilding r p → LooksIn r (row ∷ []) p q → LooksIn r (row ∷ []) q s → Does r [] [] [] p s
  looks_twice p q s row building one two =
      let first = looks_do r (row ∷ []) p q building one in read_does r [] [] [] p q s first (looks_do r (row ∷ []) q s first.building two)

  -- and then another list
  pub looks_work_does : (p q s t : Pass L Entry G) (row : ℕ) → IsBuilding r p → LooksIn r (row ∷ []) p q → LooksIn r (row ∷ []) q s
      → ((x : Rows L Entry) → IsPassOf x s → IsPassOf x t) → t.number ≡ s.number → knows_of t ≡ knows_of s → marked_of t ≡ marked_of s → memory_of t ≡ memory_of s → Does r [] [] [] p t
  looks_work_does p q s t row building one two pass number knows marks memory =
      let so_far = looks_twice p q s row building one two in read_does r [] [] [] p s t so_far (does_work r s t so_far.building pass number knows marks memory)

  module _ (p : Pass L Entry G) (ns : Nodes) (others : List ℕ) (lists : Lists r ns others p) (k row : ℕ) (at : length others ≡ k) (more : 0 < length (heads ns)) (there : get_elem? (work_of p) k ≡ some row) where
    pub node_begin : BeginAt r.shape (pinned_copy (known_of p)) row ns
    node_begin = begin_at r.shape (pinned_copy (known_of p)) r.rows ns others (work_of p) lists k row at more there

    pub node_row : In row (pinned_copy (known_of p)).rows
    node_row = row_among r.shape (pinned_copy (known_of p)) row ns node_begin

    pub node_only : (k l : Known) → ReadsOnly (row ∷ []) k l → ReadsOnly (take 1 (heads ns)) k l
    node_only k l only = subst (λ xs. ReadsOnly xs k l) (sym (ap (take 1) node_begin.here)) only

    pub node_small : row < 262144
    node_small = row_small p row node_row

    -- its nadir was read
    module _ (v : List ℤ) (parts : length v ≡ r.shape) (formed : AreFormed r.shape ns) (side : Option Bool) (answer : (x : List ℤ) → HasValue (length v) (pinned_copy (known_of p)).cells row NADIR x → side ≡ side_of true x v) where
      node_side : side ≡ side_of true (box_of_first ns).nadir v
      node_side =
          let box = box_row r.shape (pinned_copy (known_of p)) row ns node_begin (some_links r.shape ns row formed node_begin.here) in
          answer (box_of_first ns).nadir (subst (λ n. HasValue n (pinned_copy (known_of p)).cells row NADIR (box_of_first ns).nadir) (sym parts) box.nadir)

      pub node_under : is_none side ≡ true → weakly_dominates v (box_of_first ns).nadir ≡ false
      node_under none = side_none v (box_of_first ns).nadir (ap is_none (sym node_side) ∙ none)

      pub node_over : is_none side ≡ false → weakly_dominates v (box_of_first ns).nadir ≡ true
      node_over none = side_some v (box_of_first ns).nadir (ap is_none (sym node_side) ∙ none)

    -- and then its word 0
    module _ (q : Pass L Entry G) (one : LooksIn r (row ∷ []) p q) where
      pub node_row_there : In row (pinned_copy (known_of q)).rows
      node_row_there = row_there r (row ∷ []) p q one row node_row

      module _ (first : ℕ) (word : (w : ℕ) → look_up (pinned_copy (known_of q)).cells row 0 ≡ Some w → first ≡ w) where
        pub node_first : look_up (pinned_copy (known_of p)).cells row 0 ≡ Some first
        node_first = first_there r.shape (pinned_copy (known_of p)) row ns node_begin first (λ w is. word w (stays r (λ (c : Copy). look_up c.cells row 0 ≡ Some w) (row ∷ []) p q one is))

        pub node_few : first / 4 ≤ 39
        node_few = count_small r.shape (pinned_copy (known_of p)) row ns first node_begin node_first

        pub node_links : length (links_of ns) ≡ first / 4
        node_links = links_count r.shape (pinned_copy (known_of p)) row ns first node_begin node_first
