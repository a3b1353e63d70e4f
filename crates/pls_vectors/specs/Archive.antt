use Rattle.std.specs.Prelude.{Bool, not, ◌&&◌, List, [], ◌∷◌, ◌++◌, filter, if◌then◌else◌, IsTrue, IsFalse}
use Rattle.std.specs.List.{list_any}

-- what a test of weak dominance keeps: each point covers itself, and also what the points that it covers cover
pub record IsPreorder {P : Type 0} (covers : P → P → Bool) : Type 0 where
  pub reflexive : (a : P) → IsTrue (covers a a)
  pub transitive : (a b c : P) → IsTrue (covers a b) → IsTrue (covers b c) → IsTrue (covers a c)

-- The nondominated archive of a sequence of submissions. Points are of any type, and are seen through
-- a test of weak dominance between their values.
module _ {P : Type 0} (covers : P → P → Bool) where
  -- some of the points weakly dominates x
  abbrev pub weakly_dominated_by : List P → P → Bool
  weakly_dominated_by points x = list_any (λ p. covers p x) points

  -- a weakly dominates b and has another value
  abbrev pub dominates : P → P → Bool
  dominates a b = covers a b && not (covers b a)

  -- a and b have one value
  abbrev pub same_value : P → P → Bool
  same_value a b = covers a b && covers b a

  -- p belongs to the archive: no submission dominates it, and no earlier one has its value
  abbrev pub belongs : List P → List P → P → Bool
  belongs all earlier p =
      not (list_any (λ q. dominates q p) all) && not (list_any (λ q. same_value q p) earlier)

  -- those of the later submissions that belong to the archive of all, in their order
  abbrev pub members_among : List P → List P → List P → List P
  members_among all earlier [] = []
  members_among all earlier (p ∷ later) =
      (if belongs all earlier p then p ∷ [] else []) ++ members_among all (earlier ++ p ∷ []) later

  -- the nondominated archive of all submissions: of equal values the first one stays
  abbrev pub nondominated_archive : List P → List P
  nondominated_archive all = members_among all [] all

  -- the members after one more submission: the same where one of them covers it, and else those that it
  -- does not dominate, in their order, and then itself
  abbrev pub with_submission : List P → P → List P
  with_submission members p =
      if weakly_dominated_by members p then members else filter (λ q. not (dominates p q)) members ++ p ∷ []

  -- neither of two points covers the other
  abbrev pub AreIncomparable : P → P → Type 0
  AreIncomparable a b = IsFalse (covers a b) × IsFalse (covers b a)
