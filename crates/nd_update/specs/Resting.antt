-- What a pass is between two calls, and while it reads a version.
use Rattle.std.specs.Prelude.{◌≡◌, ℕ, None, []}
use Rattle.era_rows.specs.Passes.{IsPassOf, known_of, marked_of, work_of}
use Rattle.era_rows.specs.declared.pass.Pass.{Pass}
use Rattle.era_rows.specs.declared.rows.Rows.{Rows}
use Rattle.era_rows.specs.declared.law.Law.{Ghosts}
use Rattle.pls_archive.specs.declared.call.Entry.{Entry}
use Rattle.nd_rows.specs.Reads.{HasPinnedTree}

module _ {L : Type 0} {G : Ghosts L Entry} where
  -- the pass has pinned no version, and has no fresh row, no mark and no work
  pub record IsAtRest (r : Rows L Entry) (p : Pass L Entry G) : Type 0 where
    pub is_pass : IsPassOf r p
    pub unpinned : (known_of p).core.pinned ≡ None
    pub no_fresh : (known_of p).core.fresh ≡ []
    pub no_marks : marked_of p ≡ []
    pub idle : work_of p ≡ []

  -- it has pinned version n
  pub record IsOpen (r : Rows L Entry) (n : ℕ) (p : Pass L Entry G) : Type 0 where
    pub tree : HasPinnedTree r n p
    pub no_fresh : (known_of p).core.fresh ≡ []
    pub no_marks : marked_of p ≡ []
    pub idle : work_of p ≡ []
