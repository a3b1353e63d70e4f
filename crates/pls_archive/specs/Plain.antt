-- The archive that is a plain list of its members.
use Rattle.std.specs.Prelude.{◌≡◌, ℕ, List, length, All, AllPairs}
use Rattle.pls_vectors.specs.Archive.{AreIncomparable}
use Rattle.pls_archive.specs.declared.point.Point.{Point}
use Rattle.pls_archive.specs.Reply.{point_weakly_dominates}

pub record ListArchive : Type 0 where
  pub objectives : ℕ
  pub points : List Point

-- the members of an archive: each value has as many parts, and none weakly dominates another
pub record AreMembers (objectives : ℕ) (points : List Point) : Type 0 where
  pub parts : All (λ p. length p.value ≡ objectives) points
  pub apart : AllPairs (AreIncomparable point_weakly_dominates) points
