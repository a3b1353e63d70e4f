use Rattle.std.proofs.Common.{◌≡◌, ℤ, List, [], ◌∷◌, length, drop}
use Rattle.era_rows.specs.Known.{pinned_copy}
use Rattle.era_rows.specs.Passes.{known_of, work_of}
use Rattle.nd_rows.specs.Layout.{HasValue}
use Rattle.nd_rows.specs.Reads.{LooksIn}
use Rattle.nd_rows.specs.Walk.{side_of}
use Rattle.nd_rows.proofs.Sides.{with_words}
use Rattle.nd_rows.proofs.reads.sided.Given as goal

-- what was compared so far, with what is left, is the whole
abbrev pub invariant-loop-k : goal.invariant-loop-k
invariant-loop-k l =
    LooksIn l.rows (l.row ∷ []) l.fn.pass l.pass
    × (work_of l.pass ≡ work_of l.fn.pass)
    × ((x : List ℤ) → HasValue (length l.value) (pinned_copy (known_of l.fn.pass)).cells l.row l.place x
    → side_of l.turned x l.value ≡ with_words l.short l.other (side_of l.turned (drop l.k x) (drop l.k l.value)))
