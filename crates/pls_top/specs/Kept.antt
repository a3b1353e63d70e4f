-- What the pass that a search leaves is seen as.
use Rattle.pls_archive.specs.View.{View}
use Rattle.pls_archive.specs.declared.call.Entry.{Entry}
use Rattle.era_rows.specs.Known.{Known}
use Rattle.era_rows.specs.Passes.{known_of}
use Rattle.era_rows.specs.declared.law.Law.{Ghosts}
use Rattle.era_rows.specs.declared.pass.Pass.{Pass}
use Rattle.nd_shared.specs.Views.{view_of}

-- its view, and what it knows of the rows
pub record Kept : Type 0 where
  pub view : View
  pub known : Known

module _ {L : Type 0} {G : Ghosts L Entry} where
  abbrev pub kept_of : Pass L Entry G → Kept
  kept_of p = record { view = view_of p; known = known_of p }
