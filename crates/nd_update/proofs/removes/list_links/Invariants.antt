use Rattle.std.proofs.Common.{◌≡◌, ℕ, List, [], ◌∷◌, ◌++◌, length, take}
use Rattle.era_rows.specs.Known.{pinned_copy}
use Rattle.era_rows.specs.Passes.{known_of, work_of}
use Rattle.nd_rows.specs.declared.layout.TheConstants.{FIRST_LINK}
use Rattle.nd_rows.specs.Layout.{HasWords}
use Rattle.nd_update.specs.Building.{Does}
use Rattle.nd_update.specs.Needed.{ReadsOnly}
use Rattle.nd_update.proofs.removes.list_links.Given as goal

-- the first links stand at the end of the list
abbrev pub invariant-loop-k : goal.invariant-loop-k
invariant-loop-k l =
    Does l.rows [] [] [] l.fn.pass l.pass
    × ((links : List ℕ) → HasWords (pinned_copy (known_of l.fn.pass)).cells l.row FIRST_LINK links → length links ≡ l.count → work_of l.pass ≡ work_of l.fn.pass ++ take l.k links)
    × ReadsOnly (l.row ∷ []) (known_of l.fn.pass) (known_of l.pass)
