use Rattle.std.proofs.Common.{◌≡◌, ◌-◌, [], ◌∷◌, ◌++◌, length, take, pos}
use Rattle.std.specs.Prelude.{replicate}
use Rattle.era_rows.specs.Known.{pinned_copy}
use Rattle.era_rows.specs.Passes.{known_of, work_of}
use Rattle.pls_archive.specs.declared.point.Point.{Point}
use Rattle.nd_rows.specs.Layout.{HasPoint}
use Rattle.nd_rows.specs.Reads.{LooksIn}
use Rattle.nd_rows.proofs.points.read_parts.Given as goal

-- the parts before this place were read
abbrev pub invariant-loop-k : goal.invariant-loop-k
invariant-loop-k l =
    LooksIn l.rows (l.row ∷ []) l.fn.pass l.pass
    × (work_of l.pass ≡ work_of l.fn.pass)
    × ((p : Point) → HasPoint l.rows.shape (pinned_copy (known_of l.fn.pass)) l.row p → length p.value ≡ l.len → l.parts ≡ take l.k p.value ++ replicate (4 - l.k) (pos 0))
