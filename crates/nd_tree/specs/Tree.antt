-- What an ND-tree keeps.
use Rattle.std.specs.Prelude.{ℕ, ◌≤◌, ℤ, List, IsTrue}
use Rattle.pls_archive.specs.Lists.{Every}
use Rattle.pls_archive.specs.Plain.{AreMembers}
use Rattle.pls_archive.specs.Reply.{some_weakly_dominates}
use Rattle.nd_tree.specs.Seen.{Seen}

-- Its points are members; a point covers each value that is remembered; no leaf has more points than the longest may have.
pub record IsTree (objectives longest : ℕ) (root : Seen) (recent : List (List ℤ)) : Type 0 where
  pub some : 2 ≤ objectives
  pub members : AreMembers objectives root.points
  pub remembered : Every (λ w. IsTrue (some_weakly_dominates root.points w)) recent
  pub leaves : root.longest ≤ longest
  pub full : 21 ≤ longest
