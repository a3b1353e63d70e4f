-- What a pass has built, and what it may publish.
use Rattle.std.specs.Prelude.{ℕ, ◌+◌, Bool, true, false, Result, Ok, Err}
use Rattle.era_core.specs.Lists.{In}
use Rattle.era_rows.specs.Known.{copy_known}
use Rattle.era_rows.specs.May.{AreReplaced, MayPublish}
use Rattle.era_rows.specs.Passes.{knows_of, known_of, marked_of}
use Rattle.era_rows.specs.declared.pass.Pass.{Pass}
use Rattle.era_rows.specs.declared.law.Law.{Ghosts}
use Rattle.pls_archive.specs.declared.call.Entry.{Entry}
use Rattle.pls_archive.specs.declared.point.Point.{Point}
use Rattle.pls_archive.specs.History.{accepts}
use Rattle.nd_rows.specs.Entries.{IsRight, added}
use Rattle.nd_rows.specs.Layout.{IsLawful, StandsFor}
use Rattle.nd_update.specs.declared.builds.Built.{Built}
use Rattle.nd_update.specs.declared.builds.BuildRefusal.{BuildRefusal}
use Rattle.nd_update.specs.declared.builds.BuildRefusal.TheVariants.{Covered, Full}

-- the value was found to be covered
abbrev pub says_covered : Result Built BuildRefusal → Bool
says_covered (Ok built) = false
says_covered (Err Covered) = true
says_covered (Err Full) = false

module _ {L : Type 0} {G : Ghosts L Entry} where
  -- The pass has pinned version n, and may publish what it built with the entry of the point. The rows that the new tree has no more
  -- are marked, and it has each fresh row of the pass
  pub record IsPublishable (n : ℕ) (point : Point) (built : Built) (p : Pass L Entry G) : Type 0 where
    pub root : ℕ
    pub may : MayPublish (λ (e : Entry). e.caller) (λ (e : Entry). e.stamp) (λ _ e. accepts e) (λ d c. IsLawful d c) (λ d c entries. StandsFor d c entries) (λ d e entries. IsRight d e entries)
        n root built.root (added p.number (n + 1) point built.removed) (knows_of p)
    pub replaced : AreReplaced built.root (known_of p) (marked_of p)
    pub used : (x : ℕ) → In x (known_of p).core.fresh → In x (copy_known (known_of p) built.root).rows
