use Rattle.std.specs.Prelude.{ℕ, ◌-◌, ◌^◌, min, ℤ, Bool, ◌&&◌, List, [], ◌∷◌, length, if◌then◌else◌}
use Rattle.std.specs.List.{filter, list_any}
use Rattle.std.specs.Ordering.{int_cmp, is_gt}
use Rattle.std.specs.Cmp.Lexicographic.{slice_cmp}
use Rattle.pls_vectors.specs.Dominance.{weakly_dominates}
use Rattle.pls_vectors.specs.Archive.{dominates, nondominated_archive}
use Rattle.pls_archive.specs.declared.point.Point.{Point}
use Rattle.pls_archive.specs.declared.call.Call.{Call}
use Rattle.pls_archive.specs.declared.call.Call.TheVariants.{Update, Covered, Member, Snapshot}
use Rattle.pls_archive.specs.declared.call.Reply.{Reply}
use Rattle.pls_archive.specs.declared.call.Reply.TheVariants.{Added, Refused, Yes, No, Points}

-- a point weakly dominates another where its value does
abbrev pub point_weakly_dominates : Point → Point → Bool
point_weakly_dominates p q = weakly_dominates p.value q.value

-- the members of the archive after these submissions
abbrev pub members : List Point → List Point
members submitted = nondominated_archive point_weakly_dominates submitted

-- some point weakly dominates the value
abbrev pub some_weakly_dominates : List Point → List ℤ → Bool
some_weakly_dominates points v = list_any (λ p. weakly_dominates p.value v) points

-- some point has the value
abbrev pub has_value : List Point → List ℤ → Bool
has_value points v = list_any (λ p. weakly_dominates p.value v && weakly_dominates v p.value) points

-- how many of the members the point dominates, or 2^32 - 1 where there are more
abbrev pub removed_by : List Point → Point → ℕ
removed_by submitted p = min (length (filter (dominates point_weakly_dominates p) (members submitted))) (2 ^ 32 - 1)

-- a point put into a list in ascending lexicographic order of values
abbrev pub put_in_order : Point → List Point → List Point
put_in_order p [] = p ∷ []
put_in_order p (q ∷ points) =
    if is_gt (slice_cmp int_cmp p.value q.value) then q ∷ put_in_order p points else p ∷ q ∷ points

-- the points in ascending lexicographic order of values
abbrev pub in_order : List Point → List Point
in_order [] = []
in_order (p ∷ points) = put_in_order p (in_order points)

-- what a nondominated archive replies to a call after these submissions
abbrev pub nondominated : List Point → Call → Reply
nondominated submitted (Update p) =
    if some_weakly_dominates submitted p.value then Refused else Added (removed_by submitted p)
nondominated submitted (Covered v) = if some_weakly_dominates submitted v then Yes else No
nondominated submitted (Member v) = if has_value (members submitted) v then Yes else No
nondominated submitted Snapshot = Points (in_order (members submitted))
