use Rattle.std.proofs.Common.{◌≡◌, ◌-◌, ◌<◌, List, [], ◌∷◌, ◌++◌, take, ℤ, pos}
use Rattle.std.specs.Prelude.{replicate}
use Rattle.era_rows.specs.Known.{known_words}
use Rattle.era_rows.specs.Passes.{known_of, work_of}
use Rattle.nd_rows.specs.Layout.{HasValue}
use Rattle.nd_update.specs.Building.{Does}
use Rattle.nd_update.specs.Counted.{WasRead}
use Rattle.nd_update.specs.Needed.{ReadsOnly}
use Rattle.nd_update.proofs.words.read_value.Given as goal

-- the parts before this place were read, and so was the row where there are any, and no other row
abbrev pub invariant-loop-k : goal.invariant-loop-k
invariant-loop-k l =
    Does l.rows [] [] [] l.fn.pass l.pass
    × (work_of l.pass ≡ work_of l.fn.pass)
    × ((v : List ℤ) → HasValue l.rows.shape (known_words (known_of l.fn.pass)) l.row l.place v → l.parts ≡ take l.k v ++ replicate (4 - l.k) (pos 0))
    × (0 < l.k → WasRead l.row (known_of l.pass))
    × ReadsOnly (l.row ∷ []) (known_of l.fn.pass) (known_of l.pass)
