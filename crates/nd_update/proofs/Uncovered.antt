-- A tree in which no point covers a value, by the answer to the question.
use Rattle.std.proofs.Common.{◌≡◌, ℕ, Bool, true, false, Some, List, refl, sym, ap, ◌∙◌, take, ℤ}
use Rattle.std.proofs.lemmas.Option.{same_Some}
use Rattle.era_rows.specs.Passes.{known_of, seen_of}
use Rattle.era_rows.specs.declared.pass.Pass.{Pass}
use Rattle.era_rows.specs.declared.rows.Rows.{Rows}
use Rattle.era_rows.specs.declared.law.Law.{Ghosts}
use Rattle.pls_archive.specs.declared.call.Entry.{Entry}
use Rattle.pls_archive.specs.declared.call.Call.TheVariants.{Covered}
use Rattle.pls_archive.specs.declared.call.Reply.TheVariants.{Yes, No}
use Rattle.pls_archive.specs.declared.point.Point.{Point}
use Rattle.pls_archive.specs.Archives.{yes_or_no}
use Rattle.pls_archive.specs.History.{submissions}
use Rattle.pls_archive.specs.Lists.{AsOften}
use Rattle.pls_archive.specs.Reply.{members, nondominated, some_weakly_dominates}
use Rattle.pls_archive.proofs.ListArchive.{covered-due}
use Rattle.nd_rows.specs.Nodes.{points_of}
use Rattle.nd_rows.specs.Reads.{HasPinnedTree}

not_yes : (s : Bool) → yes_or_no false ≡ yes_or_no s → s ≡ false
not_yes true same = absurd (let h : No ≡ Yes = same in cc)
not_yes false same = refl

uncovered_by : (all points : List Point) → AsOften (members all) points → (v : List ℤ) → yes_or_no false ≡ nondominated all (Covered v) → some_weakly_dominates points v ≡ false
uncovered_by all points often v answer = not_yes (some_weakly_dominates points v) (answer ∙ sym (covered-due all points often v (some_weakly_dominates points v) refl))

module _ {L : Type 0} {G : Ghosts L Entry} (r : Rows L Entry) (n : ℕ) (p : Pass L Entry G) (tree : HasPinnedTree r n p) where
  pub tree_uncovered : (entries : List Entry) (v : List ℤ) → seen_of p ≡ entries → yes_or_no false ≡ nondominated (submissions (take n entries)) (Covered v) → some_weakly_dominates (points_of tree.stands.0) v ≡ false
  tree_uncovered entries v seen answer =
      uncovered_by (submissions (take n (seen_of p))) (points_of tree.stands.0) tree.stands.2 v (answer ∙ ap (λ es. nondominated (submissions (take n es)) (Covered v)) (sym seen))

  pub root_pinned : (pin : ℕ × ℕ) → Some pin ≡ (known_of p).core.pinned → tree.root ≡ pin.1
  root_pinned pin found = ap (λ (x : ℕ × ℕ). x.1) (same_Some _ _ (sym tree.pinned ∙ sym found))
