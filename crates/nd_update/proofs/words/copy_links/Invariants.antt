use Rattle.std.proofs.Common.{◌≡◌, ℕ, ◌+◌, List, [], ◌∷◌, length, take}
use Rattle.era_rows.specs.Known.{known_words}
use Rattle.era_rows.specs.Passes.{known_of}
use Rattle.nd_rows.specs.declared.layout.TheConstants.{FIRST_LINK}
use Rattle.nd_rows.specs.Layout.{HasWords}
use Rattle.nd_update.specs.Needed.{ReadsOnly}
use Rattle.nd_update.proofs.Writing.{Writes}
use Rattle.nd_update.proofs.words.copy_links.Given as goal

-- the links before this place were copied, and no other row was read
abbrev pub invariant-loop-k : goal.invariant-loop-k
invariant-loop-k l =
    ((links : List ℕ) → HasWords (known_words (known_of l.fn.pass)) l.from FIRST_LINK links → length links ≡ l.count → Writes l.rows l.to FIRST_LINK (FIRST_LINK + l.count) (take l.k links) l.fn.pass l.pass)
    × ReadsOnly (l.from ∷ []) (known_of l.fn.pass) (known_of l.pass)
