use Rattle.std.proofs.Common.{◌≡◌, ℕ, ◌+◌, ◌≤◌, List, [], ◌∷◌, ◌++◌, length, drop}
use Rattle.era_rows.specs.Known.{known_words}
use Rattle.era_rows.specs.Passes.{known_of, work_of}
use Rattle.nd_rows.specs.declared.layout.TheConstants.{FIRST_LINK}
use Rattle.nd_rows.specs.Layout.{HasWords}
use Rattle.nd_update.specs.Building.{Does}
use Rattle.nd_update.specs.Needed.{ReadsOnly}
use Rattle.nd_update.specs.Left.{alive}
use Rattle.nd_update.proofs.removes.copy_inner.Given as goal

-- the links that were written, with those that are left, are all
abbrev pub invariant-loop-k : goal.invariant-loop-k
invariant-loop-k l =
    Does l.rows [] [] (l.own ∷ []) l.fn.pass l.pass
    × (work_of l.pass ≡ work_of l.fn.pass)
    × ((links : List ℕ) × HasWords (known_words (known_of l.pass)) l.own FIRST_LINK links × (length links ≡ l.place)
    × (links ++ alive (drop l.k (work_of l.fn.pass)) ≡ alive (drop l.from (work_of l.fn.pass))))
    × (l.place + l.from ≤ l.k)
    × ReadsOnly (l.row ∷ []) (known_of l.fn.pass) (known_of l.pass)
