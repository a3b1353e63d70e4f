-- One turn of a worker's loop after another: what was explored so far.
use Rattle.std.proofs.Common.{◌≡◌, ◌⊎◌, ◌+◌, Bool, true, false, not, ◌||◌, List, [], ◌∷◌, ◌++◌, map, Result, Ok, Err, refl, ap, sym, subst, ◌∙◌, arith, inl, inr}
use Rattle.std.specs.List.{flat_map}
use Rattle.std.proofs.lemmas.List.{append-nil, map-append}
use Rattle.std.proofs.lemmas.List.Concat.{flat_map-append}
use Rattle.pls_archive.specs.declared.point.Point.{Point}
use Rattle.pls_archive.specs.declared.call.Call.{Call}
use Rattle.pls_archive.specs.declared.call.Entry.{Entry}
use Rattle.pls_archive.specs.Lists.{Every, total, how_many, one_if}
use Rattle.pls_archive.specs.Rule.{submitted_by}
use Rattle.pls_archive.specs.History.{submissions}
use Rattle.pls_archive.specs.Explorations.{Task, Exploration, IsExploration, OnlyLastIsCut, entries_of, evaluated_in, is_whole, is_cut}
use Rattle.pls_archive.proofs.Every.{Every-append, total-append}
use Rattle.pls_archive.proofs.Histories.{submissions-append}
use Rattle.pls_pool.specs.declared.cause.Cause.{Cause}
use Rattle.pls_pool.specs.declared.cause.Cause.TheVariants.{Spent, Full, Memory}
use Rattle.pls_problem.specs.declared.instance.Instance.{Instance}
use Rattle.pls_search.specs.Neighbours.{neighbours_of, is_of, IsPointOf}
use Rattle.pls_search.specs.Workers.{Hands, Did, is_explored}
use Rattle.pls_search.specs.Steps.{UnlessMemory, ExploresTask, TakesUp}
use Rattle.pls_search.specs.Onwards.{ExploresOn}
use Rattle.pls_search.proofs.Moments.{Did-none, Did-then, Did-after}

-- ---- whole explorations, and the last of which may be cut

module _ (neighbours : Point → List Point) where
  pub uncut : (xs : List Exploration) → how_many (is_cut neighbours) xs ≡ 0 → Every (λ x. is_whole neighbours x ≡ true) xs
  uncut [] none = tt
  uncut (x ∷ xs) none = (first (is_whole neighbours x) (omega arith), uncut xs (omega arith))
    where
      first : (b : Bool) → one_if (not b) ≡ 0 → b ≡ true
      first true e = refl
      first false e = absurd (omega arith)

  pub OnlyLastIsCut-append :
      (xs ys : List Exploration) → Every (λ x. is_whole neighbours x ≡ true) xs → OnlyLastIsCut neighbours ys → OnlyLastIsCut neighbours (xs ++ ys)
  OnlyLastIsCut-append [] ys whole last = last
  OnlyLastIsCut-append (x ∷ xs) ys whole last = ((λ more. whole.0), OnlyLastIsCut-append xs ys whole.1 last)

pub not-not : (b : Bool) → not (not b) ≡ b
not-not true = refl
not-not false = refl

module _ (i : Instance) (before after : Hands) where
  -- tasks were taken alone
  unfoldable pub ExploresOn-taken : (ts : List Task) → Did [] ts 0 0 0 0 0 before after → ExploresOn i false false before after
  ExploresOn-taken ts did =
      record { explorations = []; took = ts; each = tt; last = tt; cut = refl; points = tt; taken = λ test. omega arith; did = did }

  -- a task was taken and explored
  unfoldable pub ExploresOn-explored :
      (x : Exploration) (spent full : Bool) → IsExploration (neighbours_of i) x → is_whole (neighbours_of i) x ≡ not (spent || full)
      → Every (IsPointOf i) (submissions x.updates)
      → Did (entries_of x) (x.task ∷ []) (evaluated_in x + one_if full + one_if spent) (evaluated_in x + one_if full) (one_if (not (spent || full)))
      (one_if (is_explored i x)) (evaluated_in x) before after
      → ExploresOn i spent full before after
  ExploresOn-explored x spent full is whole each did =
      let asked : submissions (entries_of x) ≡ submissions x.updates = ap (λ (call : Call). submitted_by call ++ submissions x.updates) is.asks in
      let cut : one_if (is_cut (neighbours_of i) x) ≡ one_if (spent || full) = ap one_if (ap not whole ∙ not-not (spent || full)) in
      let finished : one_if (is_whole (neighbours_of i) x) ≡ one_if (not (spent || full)) = ap one_if whole in
      record {
        explorations = x ∷ [];
        took = x.task ∷ [];
        each = (is, tt);
        last = ((λ more. absurd (omega arith)), tt);
        cut = omega (arith, cut);
        points =
            subst (λ (es : List Entry). Every (IsPointOf i) (submissions es)) (sym (append-nil (entries_of x)))
            (subst (Every (IsPointOf i)) (sym asked) each);
        taken = λ test. omega arith;
        did = Did-then refl refl (omega arith) (omega arith) (omega (arith, finished)) (omega arith) (omega arith) did (Did-none after);
      }

-- one turn after others
unfoldable pub ExploresOn-then :
    (i : Instance) (spent full : Bool) (first between last : Hands) → ExploresOn i false false first between → ExploresOn i spent full between last
    → ExploresOn i spent full first last
ExploresOn-then i spent full first between last one two =
    let near = neighbours_of i in
    let xs = one.explorations in
    let ys = two.explorations in
    let entries : flat_map entries_of (xs ++ ys) ≡ flat_map entries_of xs ++ flat_map entries_of ys = flat_map-append entries_of xs ys in
    let evaluated : total evaluated_in (xs ++ ys) ≡ total evaluated_in xs + total evaluated_in ys = total-append evaluated_in xs ys in
    let cuts : how_many (is_cut near) (xs ++ ys) ≡ how_many (is_cut near) xs + how_many (is_cut near) ys = total-append (λ x. one_if (is_cut near x)) xs ys in
    let wholes : how_many (is_whole near) (xs ++ ys) ≡ how_many (is_whole near) xs + how_many (is_whole near) ys =
    total-append (λ x. one_if (is_whole near x)) xs ys in
    let explored : how_many (is_explored i) (xs ++ ys) ≡ how_many (is_explored i) xs + how_many (is_explored i) ys =
    total-append (λ x. one_if (is_explored i x)) xs ys in
    record {
      explorations = xs ++ ys;
      took = one.took ++ two.took;
      each = Every-append (IsExploration near) xs ys one.each two.each;
      last = OnlyLastIsCut-append near xs ys (uncut near xs one.cut) two.last;
      cut = omega (arith, one.cut, two.cut, cuts);
      points =
          subst (Every (IsPointOf i)) (sym (ap submissions entries ∙ submissions-append (flat_map entries_of xs) (flat_map entries_of ys)))
          (Every-append (IsPointOf i) (submissions (flat_map entries_of xs)) (submissions (flat_map entries_of ys)) one.points two.points);
      taken = λ test.
          let tasks = ap (how_many test) (map-append (λ (x : Exploration). x.task) xs ys)
          ∙ total-append (λ t. one_if (test t)) (map (λ (x : Exploration). x.task) xs) (map (λ (x : Exploration). x.task) ys) in
          let took = total-append (λ t. one_if (test t)) one.took two.took in
          omega (arith, one.taken test, two.taken test, tasks, took);
      did = Did-then entries refl (omega (arith, evaluated)) (omega (arith, evaluated)) wholes explored evaluated one.did two.did;
    }

-- a task was taken, and then taken up
module _ (i : Instance) (t : Task) (before between after : Hands) (took : Did [] (t ∷ []) 0 0 0 0 0 before between) where
  pub ExploresOn-took : (spent full : Bool) → TakesUp i t between after spent full → ExploresOn i spent full before after
  ExploresOn-took spent full up = by_way up.does
    where
      by_way :
          ExploresTask i t (one_if (not (spent || full))) between after spent full
          ⊎ ((is_of i t.point ≡ false) × (spent ≡ false) × (full ≡ false) × Did [] [] 0 0 0 0 0 between after)
          → ExploresOn i spent full before after
      by_way (inl explores) =
          let x = explores.exploration in
          ExploresOn-explored i before after x spent full explores.is explores.whole explores.each
          (Did-then refl (ap (λ (u : Task). u ∷ []) explores.of) (omega arith) (omega arith) (omega arith) (omega arith) (omega arith) took explores.did)
      by_way (inr (other, unspent, unfull, did)) =
          subst (λ (b : Bool). ExploresOn i b full before after) (sym unspent)
          (subst (λ (b : Bool). ExploresOn i false b before after) (sym unfull) (ExploresOn-taken i before after (t ∷ []) (Did-after took did)))

  -- and so after others, by how it ends
  pub ExploresOn-by_end :
      (first : Hands) (end : Result Unit Cause) → ExploresOn i false false first before → UnlessMemory end (TakesUp i t between after)
      → UnlessMemory end (λ spent full. ExploresOn i spent full first after)
  ExploresOn-by_end first (Ok u) so_far up = ExploresOn-then i false false first before after so_far (ExploresOn-took false false up)
  ExploresOn-by_end first (Err Spent) so_far up = ExploresOn-then i true false first before after so_far (ExploresOn-took true false up)
  ExploresOn-by_end first (Err Full) so_far up = ExploresOn-then i false true first before after so_far (ExploresOn-took false true up)
  ExploresOn-by_end first (Err Memory) so_far up = tt
