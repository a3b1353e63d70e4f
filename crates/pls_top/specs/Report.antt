use Rattle.std.specs.Prelude.{ℕ, ℤ, ◌-◌, List, [], ◌∷◌, ◌++◌, map, length, slice_get, Option, None, Some, codes}
use Rattle.std.specs.List.{flat_map, join_by}
use Rattle.std.specs.Fmt.{decimal, signed_decimal}
use Rattle.pls_vectors.specs.Solution.{Solution}
use Rattle.pls_archive.specs.declared.point.Point.{Point}
use Rattle.pls_io.specs.Lines.{line}
use Rattle.pls_problem.specs.declared.instance.Instance.{Instance}
use Rattle.pls_problem.specs.Instance.{objectives, size, original, shown}
use Rattle.pls_problem.specs.Kinds.{kind_name, kind_of}
use Rattle.pls_top.specs.declared.report.Counts.{Counts}
use Rattle.pls_search.specs.declared.end.End.{End}
use Rattle.pls_search.specs.declared.end.End.TheVariants.{Closed, Stopped, Full}

-- numbers separated by spaces, or a dash for none
abbrev pub numbers_or_dash : List ℕ → List ℕ
numbers_or_dash [] = codes "-"
numbers_or_dash (n ∷ numbers) = join_by decimal (codes " ") (n ∷ numbers)

-- a solution is printed as the numbers that it shows
abbrev pub solution_text : Instance → Solution → List ℕ
solution_text i s = numbers_or_dash (shown i s)

-- a value is printed as the instance has its parts
abbrev pub value_text : Instance → List ℤ → List ℕ
value_text i parts = join_by signed_decimal (codes " ") (map (original i) parts)

-- a point is printed as its value and its solution
abbrev pub point_line : Instance → Point → List ℕ
point_line i p = line (value_text i p.value ++ codes " : " ++ solution_text i p.sol)

abbrev pub front_line : Instance → ℕ → List ℕ
front_line i points =
    line (codes "front " ++ decimal points ++ codes " " ++ kind_name (kind_of i) ++ codes " " ++ decimal (objectives i))

abbrev pub end_text : End → List ℕ
end_text Closed = codes "closed"
end_text Stopped = codes "stopped"
end_text Full = codes "full"

abbrev pub end_line : Counts → End → List ℕ
end_line counts end =
    line (codes "end " ++ end_text end ++ codes " explored " ++ decimal counts.explored
    ++ codes " evaluated " ++ decimal counts.evaluated ++ codes " accepted " ++ decimal counts.accepted)

-- the text of a search
abbrev pub report : Instance → List Point → Counts → End → List ℕ
report i front counts end =
    front_line i (length front) ++ flat_map (point_line i) front ++ end_line counts end

abbrev pub demo_line : Instance → ℕ → List ℕ
demo_line i seed =
    line (codes "demo " ++ kind_name (kind_of i) ++ codes " " ++ decimal (size i) ++ codes " " ++ decimal (objectives i)
    ++ codes " seed " ++ decimal seed)

-- the value of a point, or a dash for none
abbrev pub value_or_dash : Instance → Option Point → List ℕ
value_or_dash i None = codes "-"
value_or_dash i (Some p) = value_text i p.value

abbrev pub members_line : Instance → List Point → List ℕ
members_line i front =
    line (codes "members " ++ decimal (length front) ++ codes " first " ++ value_or_dash i (slice_get front 0)
    ++ codes " last " ++ value_or_dash i (slice_get front (length front - 1)))

-- the text of a search on an instance that was made from a seed: its first and its last point stand for the front
abbrev pub demo_report : Instance → ℕ → List Point → Counts → End → List ℕ
demo_report i seed front counts end =
    demo_line i seed ++ members_line i front ++ end_line counts end
