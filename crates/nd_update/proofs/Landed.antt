-- The point at the end of its way: a leaf, of which the first word was read.
use Rattle.std.proofs.Common.{◌≡◌, ℕ, ◌/◌, ◌%◌, ◌≤◌, Some, List, [], ◌∷◌, length}
use Rattle.era_core.specs.declared.sizes.TheConstants.{KINDS}
use Rattle.era_core.specs.Versions.{look_up}
use Rattle.era_rows.specs.Known.{known_words}
use Rattle.era_rows.specs.Passes.{known_of, marked_of}
use Rattle.era_rows.specs.declared.pass.Pass.{Pass}
use Rattle.era_rows.specs.declared.rows.Rows.{Rows}
use Rattle.era_rows.specs.declared.law.Law.{Ghosts}
use Rattle.pls_archive.specs.declared.call.Entry.{Entry}
use Rattle.pls_archive.specs.declared.point.Point.{Point}
use Rattle.nd_rows.specs.declared.layout.TheConstants.{LEAF, IDEAL}
use Rattle.nd_rows.specs.Nodes.{Placed, Nodes}
use Rattle.nd_update.specs.Building.{Does}
use Rattle.nd_update.specs.FilledLeaves.{HasLinked, IsPut}
use Rattle.nd_update.specs.Inserted.{IsInserted}
use Rattle.nd_update.proofs.Descending.{IsAt}
use Rattle.nd_update.proofs.Focusing.{the_leaf, leaf_focused, leaf_links}
use Rattle.nd_update.proofs.Landing.{landed}

module _ {L : Type 0} {G : Ghosts L Entry} (r : Rows L Entry) (objectives : ℕ) (point : Point) (t : Nodes) (p q : Pass L Entry G) (read : Does r [] [] [] p q) (row root steps w : ℕ) (word : (x : ℕ) → look_up (known_words (known_of p)) row 0 ≡ Some x → w ≡ x)
    (at : IsAt objectives r.rows point t (known_of p) (marked_of p) row root steps) (is_leaf : w % KINDS ≡ LEAF) where
  pub landed_at : (s : Pass L Entry G) (place : ℕ) (leaves : List ℕ) → Does r (place ∷ leaves) [] (row ∷ place ∷ leaves) q s → 2 ≤ objectives → objectives ≤ 4 → length point.value ≡ objectives
      → ((placed : List Placed) → HasLinked objectives (known_of q) row placed → length placed ≡ w / KINDS → IsPut objectives (known_words (known_of s)) row placed point place leaves)
      → ((k : ℕ) → IDEAL ≤ k → look_up (known_words (known_of s)) row k ≡ look_up (known_words (known_of q)) row k)
      → IsInserted r.rows objectives point t (known_words (known_of s)) (known_of s).core.fresh (marked_of s) root
  landed_at s place leaves one some few long put kept =
      let here = the_leaf r objectives point t p q read row root steps w word at is_leaf in
      let focused = leaf_focused r objectives point t p q read row root steps w word at is_leaf in
      let links = leaf_links r objectives point t p q read row root steps w word at is_leaf in
      landed r objectives point t q s row root steps place leaves one some few long at.0 here.0 here.1 at.2.0 at.2.1.0 focused (put here.1 links here.3) kept
