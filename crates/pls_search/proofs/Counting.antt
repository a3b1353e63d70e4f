-- The counts in the hands of a worker, where it goes on exploring, and where it takes over those of others.
use Rattle.std.proofs.Common.{◌≡◌, ℕ, ◌+◌, ◌%◌, ◌^◌, ◌<◌, Bool, List, ◌∷◌, ◌++◌, ap, ◌∙◌, arith}
use Rattle.std.proofs.lemmas.List.Concat.{flat_map-append}
use Rattle.pls_archive.specs.Lists.{total, how_many, one_if}
use Rattle.pls_archive.specs.Explorations.{Exploration, CallerRun, explorations_of, evaluated_in, explored, evaluated}
use Rattle.pls_archive.proofs.Every.{total-append}
use Rattle.pls_problem.specs.declared.instance.Instance.{Instance}
use Rattle.pls_search.specs.Neighbours.{neighbours_of}
use Rattle.pls_search.specs.Workers.{Hands, RisesBy, HasCounted, is_explored}
use Rattle.pls_search.specs.Onwards.{ExploresOn}

-- these runs have the explorations of those and some more, in whichever order
abbrev pub HasMore : List CallerRun → List CallerRun → List Exploration → Type 0
HasMore all runs more = (f : Exploration → ℕ) → total f (explorations_of all) ≡ total f (explorations_of runs) + total f more

module _ (i : Instance) where
  pub HasCounted-more :
      (all runs : List CallerRun) (more : List Exploration) (before after : Hands) → HasMore all runs more
      → RisesBy (how_many (is_explored i) more) before.explored after.explored → RisesBy (total evaluated_in more) before.evaluated after.evaluated
      → HasCounted i runs before → HasCounted i all after
  HasCounted-more all runs more before after sums explores evaluates has =
      let wholes : explored (neighbours_of i) all ≡ explored (neighbours_of i) runs + how_many (is_explored i) more = sums (λ x. one_if (is_explored i x)) in
      let submitted : evaluated all ≡ evaluated runs + total evaluated_in more = sums evaluated_in in
      record {
        explored_are = omega (arith, wholes, explores, has.explored_are);
        evaluated_are = omega (arith, submitted, evaluates, has.evaluated_are);
      }

  -- the first run goes on
  pub HasCounted-grown :
      (spent full : Bool) (before after : Hands) (on : ExploresOn i spent full before after) (r : CallerRun) (others : List CallerRun)
      → HasCounted i (r ∷ others) before → HasCounted i (record r { explorations = r.explorations ++ on.explorations } ∷ others) after
  HasCounted-grown spent full before after on r others =
      HasCounted-more (record r { explorations = r.explorations ++ on.explorations } ∷ others) (r ∷ others) on.explorations before after
      (λ f.
      let xs = r.explorations in
      let ys = on.explorations in
      let zs = explorations_of others in
      let whole = total-append f (xs ++ ys) zs in
      let first = total-append f xs ys in
      let rest = total-append f xs zs in omega (arith, whole, first, rest))
      on.did.explored_are on.did.evaluated_are

  -- the counts of other hands are added
  pub HasCounted-joined :
      (runs more : List CallerRun) (before other after : Hands) → RisesBy other.explored before.explored after.explored
      → RisesBy other.evaluated before.evaluated after.evaluated → HasCounted i runs before → HasCounted i more other → HasCounted i (runs ++ more) after
  HasCounted-joined runs more before other after explores evaluates has counted =
      HasCounted-more (runs ++ more) runs (explorations_of more) before after
      (λ f. ap (total f) (flat_map-append (λ r. r.explorations) runs more) ∙ total-append f (explorations_of runs) (explorations_of more))
      (let wholes : other.explored % 2 ^ 64 ≡ how_many (is_explored i) (explorations_of more) % 2 ^ 64 = counted.explored_are in omega (arith, wholes, explores))
      (let submitted : other.evaluated % 2 ^ 64 ≡ total evaluated_in (explorations_of more) % 2 ^ 64 = counted.evaluated_are in omega (arith, submitted, evaluates)) has

  -- counts of 64 bits are exact where none is larger
  pub HasCounted-exact :
      (runs : List CallerRun) (h : Hands) → HasCounted i runs h → h.explored < 2 ^ 64 → h.evaluated < 2 ^ 64
      → explored (neighbours_of i) runs < 2 ^ 64 → evaluated runs < 2 ^ 64 → (h.explored ≡ explored (neighbours_of i) runs) × (h.evaluated ≡ evaluated runs)
  HasCounted-exact runs h has first second few_explored few_evaluated =
      (omega (arith, has.explored_are), omega (arith, has.evaluated_are))
