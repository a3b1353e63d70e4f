use Rattle.std.specs.Prelude.{◌≡◌, Bool, List, [], ◌∷◌, ◌++◌, All, AllPairs, Contains}
use Rattle.pls_vectors.specs.Archive.{weakly_dominated_by, nondominated_archive, with_submission, AreIncomparable}

-- what holds of the nondominated archive of every sequence of submissions
module _ {P : Type 0} (covers : P → P → Bool) where
  abbrev archive : List P → List P
  archive = nondominated_archive covers

  -- it covers what the submissions cover
  abbrev pub CoversTheSame : Type 0
  CoversTheSame = (all : List P) (x : P) → weakly_dominated_by covers (archive all) x ≡ weakly_dominated_by covers all x

  -- one more submission
  abbrev pub GrowsBySubmission : Type 0
  GrowsBySubmission = (all : List P) (p : P) → archive (all ++ p ∷ []) ≡ with_submission covers (archive all) p

  -- its own archive is itself
  abbrev pub IsIdempotent : Type 0
  IsIdempotent = (all : List P) → archive (archive all) ≡ archive all

  -- it stands for the submissions that it came from, whatever is submitted later
  abbrev pub StandsForSubmissions : Type 0
  StandsForSubmissions = (all later : List P) → archive (all ++ later) ≡ archive (archive all ++ later)

  -- no member covers another
  abbrev pub HasIncomparableMembers : Type 0
  HasIncomparableMembers = (all : List P) → AllPairs (AreIncomparable covers) (archive all)

  -- each member is a submission
  abbrev pub HasSubmissionsOnly : Type 0
  HasSubmissionsOnly = (all : List P) → All (Contains all) (archive all)
