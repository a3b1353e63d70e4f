use Rattle.std.proofs.Common.{◌≡◌, ℕ, ◌+◌, ◌-◌, List, [], ◌∷◌, ◌++◌, length, reverse, drop}
use Rattle.era_rows.specs.Known.{pinned_copy}
use Rattle.era_rows.specs.Passes.{known_of, work_of}
use Rattle.nd_rows.specs.declared.layout.TheConstants.{FIRST_LINK}
use Rattle.nd_rows.specs.Layout.{HasWords}
use Rattle.nd_rows.specs.Reads.{LooksIn}
use Rattle.nd_rows.proofs.walk.push_links.Given as goal

-- the last links stand on the work list
abbrev pub invariant-loop-k : goal.invariant-loop-k
invariant-loop-k l =
    LooksIn l.rows (l.row ∷ []) l.fn.pass l.pass
    × (length (work_of l.pass) ≡ length (work_of l.fn.pass) + l.k)
    × ((links : List ℕ) → HasWords (pinned_copy (known_of l.fn.pass)).cells l.row FIRST_LINK links → length links ≡ l.count
    → reverse (work_of l.pass) ≡ drop (l.count - l.k) links ++ reverse (work_of l.fn.pass))
