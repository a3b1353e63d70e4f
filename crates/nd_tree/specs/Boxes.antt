-- What a box tells of a question and of a removal.
use Rattle.std.specs.Prelude.{◌<◌, ℤ, Bool, List, length, IsTrue, IsFalse}
use Rattle.pls_vectors.specs.Archive.{dominates}
use Rattle.pls_vectors.specs.Dominance.{weakly_dominates}
use Rattle.pls_vectors.specs.Box.{Box}
use Rattle.pls_archive.specs.declared.point.Point.{Point}
use Rattle.pls_archive.specs.Reply.{some_weakly_dominates}
use Rattle.pls_archive.specs.Lists.{Every}
use Rattle.nd_tree.specs.Seen.{Encloses}
use Rattle.nd_tree.specs.declared.boxes.Fate.{Fate}
use Rattle.nd_tree.specs.declared.boxes.Fate.TheVariants as fate
use Rattle.nd_tree.specs.declared.boxes.Told.{Told}
use Rattle.nd_tree.specs.declared.boxes.Told.TheVariants.{Covered, NotCovered, Unknown}

-- what is told of v: a covered value that covers it, that it is not covered, or nothing
abbrev pub IsTold : (List ℤ → Bool) → List ℤ → Told → Type 0
IsTold is_covered v (Covered w) = IsTrue (weakly_dominates w v) × IsTrue (is_covered w)
IsTold is_covered v NotCovered = IsFalse (is_covered v)
IsTold is_covered v Unknown = Unit {0}

-- it is told of all that the box encloses
abbrev pub AnswersFor : Box → List ℤ → Told → Type 0
AnswersFor box v told = (points : List Point) → Encloses box points → 0 < length points → IsTold (some_weakly_dominates points) v told

-- what is told of points where those that v dominates are removed: it dominates none, it dominates each, or nothing
abbrev pub IsFate : List ℤ → List Point → Fate → Type 0
IsFate v points fate.Stays = Every (λ p. IsFalse (dominates weakly_dominates v p.value)) points
IsFate v points fate.Falls = Every (λ p. IsTrue (dominates weakly_dominates v p.value)) points
IsFate v points fate.Unknown = Unit {0}

abbrev pub FatesFor : Box → List ℤ → Fate → Type 0
FatesFor box v told = (points : List Point) → Encloses box points → IsFate v points told
