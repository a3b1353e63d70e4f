-- The copy of a node in a fresh row is ended: word 0, and the box of the row before.
use Rattle.std.proofs.Common.{◌≡◌, ℕ, inr, [], ◌∷◌, length, ap, ◌∙◌, arith}
use Rattle.era_core.specs.Lists.{In}
use Rattle.era_core.specs.Versions.{Copy}
use Rattle.era_rows.specs.Known.{pinned_copy, known_words}
use Rattle.era_rows.specs.Passes.{known_of, IsReadable}
use Rattle.era_rows.specs.declared.pass.Pass.{Pass}
use Rattle.era_rows.specs.declared.rows.Rows.{Rows}
use Rattle.era_rows.specs.declared.law.Law.{Ghosts}
use Rattle.pls_archive.specs.declared.call.Entry.{Entry}
use Rattle.pls_vectors.specs.Box.{Box}
use Rattle.nd_rows.specs.Layout.{IsBoxRow}
use Rattle.nd_update.specs.Building.{IsBuilding, Does}
use Rattle.nd_update.specs.Needed.{ReadsOnly}
use Rattle.nd_update.proofs.Alike.{box-alike}
use Rattle.nd_update.proofs.Building.{does_none, does_wider, does_read, writes_both, still_fresh, pinned_words}
use Rattle.nd_update.proofs.Reading.{only_any, only_then}
use Rattle.nd_update.proofs.Removing.{stay_pinned, row_still}

-- a box that was read as it stands has as many parts
pub box_parts : (objectives : ℕ) (c : Copy) (row : ℕ) (b read : Box) → IsBoxRow objectives c.cells row b → read ≡ b → (length read.ideal ≡ objectives) × (length read.nadir ≡ objectives)
box_parts objectives c row b read boxed same = (ap (λ x. length x.ideal) same ∙ boxed.ideal.parts, ap (λ x. length x.nadir) same ∙ boxed.nadir.parts)

module _ {L : Type 0} {G : Ghosts L Entry} (r : Rows L Entry) where
  -- nothing was written yet
  pub writes_none : (p : Pass L Entry G) (own : ℕ) → IsBuilding r p → Does r [] [] (own ∷ []) p p
  writes_none p own building = does_wider r [] [] [] (own ∷ []) p p (λ x here. absurd (omega (arith, here))) (does_none r p building)

  -- the box of a pinned row stands there still
  pub still_boxed : (own row : ℕ) (p q : Pass L Entry G) → Does r [] [] (own ∷ []) p q → (b : Box) → IsBoxRow r.shape (pinned_copy (known_of p)).cells row b
      → IsBoxRow r.shape (pinned_copy (known_of q)).cells row b
  still_boxed own row p q links b = stay_pinned r (λ (x : Copy). IsBoxRow r.shape x.cells row b) [] [] (own ∷ []) p q links

  -- word 0 was written
  module _ (own row : ℕ) (p s1 : Pass L Entry G) (first : Does r [] [] (own ∷ []) p s1) where
    pub own_fresh : (s2 : Pass L Entry G) → Does r [] [] [] s1 s2 → In own (known_of p).core.fresh → In own (known_of s2).core.fresh
    own_fresh s2 read mine = still_fresh r [] [] (own ∷ []) p s2 (does_read r [] [] (own ∷ []) p s1 s2 first read) own mine

    pub readable_row : In row (pinned_copy (known_of p)).rows → IsReadable row (known_of s1)
    readable_row here = inr (row_still r [] [] (own ∷ []) p s1 first row here)

    -- the box stands among the words that the pass knows
    pub box_known : In row (pinned_copy (known_of p)).rows → (b : Box) → IsBoxRow r.shape (pinned_copy (known_of p)).cells row b → IsBoxRow r.shape (known_words (known_of s1)) row b
    box_known here b boxed =
        box-alike r.shape (pinned_copy (known_of s1)).cells (known_words (known_of s1)) row b (λ k w there. pinned_words r s1 first.building row (row_still r [] [] (own ∷ []) p s1 first row here) k ∙ there)
        (still_boxed own row p s1 first b boxed)

  -- all of it was written
  pub copy_does : (own : ℕ) (p s1 s2 s3 : Pass L Entry G) → Does r [] [] (own ∷ []) p s1 → Does r [] [] [] s1 s2 → Does r [] [] (own ∷ []) s2 s3 → Does r [] [] (own ∷ []) p s3
  copy_does own p s1 s2 s3 first read box = writes_both r own p s2 s3 (does_read r [] [] (own ∷ []) p s1 s2 first read) box

  -- and words of the row alone were found
  pub copy_only : (own row : ℕ) (p s1 s2 s3 : Pass L Entry G) → Does r [] [] (own ∷ []) p s1 → Does r [] [] [] s1 s2
      → ReadsOnly [] (known_of p) (known_of s1) → ReadsOnly (row ∷ []) (known_of s1) (known_of s2) → ReadsOnly [] (known_of s2) (known_of s3) → ReadsOnly (row ∷ []) (known_of p) (known_of s3)
  copy_only own row p s1 s2 s3 first read only_first only_box only_last =
      only_then r [] [] (own ∷ []) (row ∷ []) p s1 s3 first (only_any (row ∷ []) (known_of p) (known_of s1) only_first)
      (only_then r [] [] [] (row ∷ []) s1 s2 s3 read only_box (only_any (row ∷ []) (known_of s2) (known_of s3) only_last))
