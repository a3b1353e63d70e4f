use Rattle.std.proofs.Common.{◌≡◌, ℕ, ◌<◌, [], ◌∷◌, length, get_or}
use Rattle.era_rows.specs.Known.{pinned_copy}
use Rattle.era_rows.specs.Passes.{known_of, work_of}
use Rattle.pls_archive.specs.declared.point.Point.{Point}
use Rattle.nd_rows.specs.Layout.{HasPoint}
use Rattle.nd_rows.specs.Reads.{LooksIn}
use Rattle.nd_rows.proofs.points.read_words.Given as goal

-- the words before this place were read
abbrev pub invariant-loop-k : goal.invariant-loop-k
invariant-loop-k l =
    LooksIn l.rows (l.row ∷ []) l.fn.pass l.pass
    × (work_of l.pass ≡ work_of l.fn.pass)
    × (length l.words ≡ 32)
    × ((p : Point) → HasPoint l.rows.shape (pinned_copy (known_of l.fn.pass)) l.row p → (i : ℕ) → i < l.k → get_or l.words i 0 ≡ get_or p.sol.words i 0)
