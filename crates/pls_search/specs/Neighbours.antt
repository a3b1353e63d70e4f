-- Solutions and neighbours of an instance, as points.
use Rattle.std.specs.Prelude.{◌≡◌, ◌==◌, ◌&&◌, ℤ, Bool, true, List, length, map}
use Rattle.pls_vectors.specs.Solution.{Solution}
use Rattle.pls_archive.specs.declared.point.Point.{Point}
use Rattle.pls_problem.specs.declared.instance.Instance.{Instance}
use Rattle.pls_problem.specs.Instance.{feasible, value, neighbours, objectives}

-- a solution with its value
abbrev pub point_of : Instance → Solution → Point
point_of i s = record { value = value i s; sol = s }

-- values with their solutions, as points
abbrev pub to_points : List (List ℤ × Solution) → List Point
to_points pairs = map (λ (q : List ℤ × Solution). record { value = q.0; sol = q.1 }) pairs

-- the neighbours of a point, in order
abbrev pub neighbours_of : Instance → Point → List Point
neighbours_of i p = to_points (neighbours i p.sol)

-- a feasible solution with its value, of as many parts as the instance has objectives
pub record IsPointOf (i : Instance) (p : Point) : Type 0 where
  pub feasible : feasible i p.sol ≡ true
  pub value : p.value ≡ value i p.sol
  pub parts : length p.value ≡ objectives i

-- the test that a worker makes before it explores a point: its solution is feasible, and its value has a part for each objective
abbrev pub is_of : Instance → Point → Bool
is_of i p = feasible i p.sol && length p.value == objectives i
