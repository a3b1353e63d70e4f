-- Turns of a worker's loop in order, where the pool was made for its seat alone.
use Rattle.std.proofs.Common.{◌≡◌, ◌≢◌, ◌⊎◌, ℕ, suc, ◌+◌, Bool, true, false, not, ◌||◌, List, [], ◌∷◌, ◌++◌, length, map, Some, slice_get, Result, Ok, Err, refl, ap, sym, subst, ◌∙◌, append_assoc, arith, length-append, eq-eqb, inl, inr}
use Rattle.std.specs.List.{flat_map}
use Rattle.std.proofs.lemmas.Bool.{and_from, false≢true}
use Rattle.std.proofs.lemmas.List.{append-nil, map-append, length-map}
use Rattle.pls_archive.specs.declared.point.Point.{Point}
use Rattle.pls_archive.specs.declared.call.Entry.{Entry}
use Rattle.pls_archive.specs.Lists.{Every, In, one_if}
use Rattle.pls_archive.specs.History.{submissions}
use Rattle.pls_archive.specs.Explorations.{Task, Exploration, tasks, entries_of}
use Rattle.pls_archive.specs.Sequential.{InOrder}
use Rattle.pls_archive.proofs.Every.{Every-append, Every-at, In-right}
use Rattle.pls_archive.proofs.Histories.{submissions-append}
use Rattle.pls_archive.proofs.ValuesOnce.{task-submitted}
use Rattle.pls_pool.specs.Accounts.{Account}
use Rattle.pls_pool.specs.declared.cause.Cause.{Cause}
use Rattle.pls_pool.specs.declared.cause.Cause.TheVariants.{Spent, Full, Memory}
use Rattle.pls_problem.specs.declared.instance.Instance.{Instance}
use Rattle.pls_search.specs.declared.task.Task.{Task as Waiting}
use Rattle.pls_search.specs.Neighbours.{is_of, IsPointOf}
use Rattle.pls_search.specs.Workers.{task_of, Hands, Did, LinesUp, StaysInLine}
use Rattle.pls_search.specs.Steps.{UnlessMemory, ExploresTask, TakesUp}
use Rattle.pls_search.specs.Onwards.{ExploresOn}
use Rattle.pls_search.specs.InLine.{ExploresInLine}
use Rattle.pls_search.proofs.Moments.{SameCounts, Did-nothing, Did-then, Did-after}
use Rattle.pls_search.proofs.Turns.{ExploresOn-taken, ExploresOn-explored, ExploresOn-then}

-- explorations in order, after others
pub InOrder-append :
    (history : List Entry) (k n : ℕ) (xs ys : List Exploration) → n ≡ k + length xs → InOrder history k xs
    → InOrder (history ++ flat_map entries_of xs) n ys → InOrder history k (xs ++ ys)
InOrder-append history k n [] ys count first rest =
    subst (λ (h : List Entry). InOrder h k ys) (append-nil history)
    (subst (λ (m : ℕ). InOrder (history ++ []) m ys) (let none : n ≡ k = omega (arith, count) in none) rest)
InOrder-append history k n (x ∷ xs) ys count first rest = (
  first.0,
  InOrder-append (history ++ entries_of x) (suc k) n xs ys (omega (arith, count)) first.1
      (subst (λ (h : List Entry). InOrder h n ys) (sym (append_assoc history (entries_of x) (flat_map entries_of xs))) rest),
)

at_place : {A : Type 0} (xs : List A) (y : A) (ys : List A) → slice_get (xs ++ y ∷ ys) (length xs) ≡ Some y
at_place [] y ys = refl
at_place (x ∷ xs) y ys = at_place xs y ys

-- nothing was done at the archive and at the pool
pub ExploresInLine-idle :
    (i : Instance) (before after : Hands) → after.view.own ≡ before.view.own → after.account ≡ before.account → SameCounts before.tally after.tally
    → after.explored ≡ before.explored → after.evaluated ≡ before.evaluated → ExploresInLine i before after false false
unfolding ExploresOn-taken
ExploresInLine-idle i before after own account counts explored evaluated = record {
  on = ExploresOn-taken i before after [] (Did-nothing before after own account counts explored evaluated);
  in_order = λ so_far lines points. (
    tt,
    ap tasks own
        ∙ (lines ∙ (ap (λ (a : Account Waiting). so_far ++ map task_of a.waiting) (sym account)
        ∙ ap (λ (ts : List Task). ts ++ map task_of after.account.waiting) (sym (append-nil so_far)))),
  );
}

-- one turn after others
pub ExploresInLine-then :
    (i : Instance) (first between last : Hands) (spent full : Bool) → ExploresInLine i first between false false
    → ExploresInLine i between last spent full → ExploresInLine i first last spent full
unfolding ExploresOn-then
ExploresInLine-then i first between last spent full one two = record {
  on = ExploresOn-then i spent full first between last one.on two.on;
  in_order = λ explored lines points.
      let xs = one.on.explorations in
      let ys = two.on.explorations in
      let done = map (λ (x : Exploration). x.task) xs in
      let own : between.view.own ≡ first.view.own ++ flat_map entries_of xs = one.on.did.own in
      let first_part = one.in_order explored lines points in
      let submitted = subst (Every (IsPointOf i)) (sym (ap submissions own ∙ submissions-append first.view.own (flat_map entries_of xs)))
      (Every-append (IsPointOf i) (submissions first.view.own) (submissions (flat_map entries_of xs)) points one.on.points) in
      let second_part = two.in_order (explored ++ done) first_part.1 submitted in
      let count : length (explored ++ done) ≡ length explored + length xs =
      length-append explored done ∙ ap (λ (n : ℕ). length explored + n) (length-map xs (λ x. x.task)) in (
        InOrder-append first.view.own (length explored) (length (explored ++ done)) xs ys count first_part.0
            (subst (λ (h : List Entry). InOrder h (length (explored ++ done)) ys) own second_part.0),
        second_part.1
            ∙ ap (λ (ts : List Task). ts ++ map task_of last.account.waiting)
            (append_assoc explored done (map (λ (x : Exploration). x.task) ys) ∙ ap (λ (ts : List Task). explored ++ ts) (sym (map-append (λ (x : Exploration). x.task) xs ys))),
      );
}

-- a task of which the submitted points are the instance's is one itself
is_of-true : (i : Instance) (p : Point) → IsPointOf i p → is_of i p ≡ true
is_of-true i p is = and_from _ _ is.feasible (eq-eqb (length p.value) _ is.parts)

-- the first task that waited was taken, and then taken up
module _
    (i : Instance) (task : Waiting) (before between after : Hands) (own : between.view.own ≡ before.view.own)
    (took : Did [] (task_of task ∷ []) 0 0 0 0 0 before between) (waits : before.account.waiting ≡ task ∷ between.account.waiting) where
  abbrev t : Task
  t = task_of task

  -- it is the first that was not explored before
  first_in_line : (explored : List Task) → LinesUp explored before → tasks before.view.own ≡ explored ++ t ∷ map task_of between.account.waiting
  first_in_line explored lines = lines ∙ ap (λ (ts : List Waiting). explored ++ map task_of ts) waits

  pub ExploresInLine-took :
      (spent full : Bool) → TakesUp i t between after spent full → StaysInLine between after → ExploresInLine i before after spent full
  unfolding ExploresOn-taken ExploresOn-explored
  ExploresInLine-took spent full up line = by_way up.does
    where
      by_way :
          ExploresTask i t (one_if (not (spent || full))) between after spent full
          ⊎ ((is_of i t.point ≡ false) × (spent ≡ false) × (full ≡ false) × Did [] [] 0 0 0 0 0 between after)
          → ExploresInLine i before after spent full
      by_way (inl explores) =
          let x = explores.exploration in
          record {
            on =
                ExploresOn-explored i before after x spent full explores.is explores.whole explores.each
                (Did-then refl (ap (λ (u : Task). u ∷ []) explores.of) (omega arith) (omega arith) (omega arith) (omega arith) (omega arith) took explores.did);
            in_order = λ explored lines points.
                let here = first_in_line explored lines in
                let moved : LinesUp (explored ++ t ∷ []) between =
                ap tasks own ∙ (here ∙ sym (append_assoc explored (t ∷ []) (map task_of between.account.waiting))) in (
                  (
                    ap (λ (ts : List Task). slice_get ts (length explored)) here
                        ∙ (at_place explored t (map task_of between.account.waiting) ∙ ap (λ (u : Task). Some u) (sym explores.of)),
                    tt,
                  ),
                  line (explored ++ t ∷ []) moved ∙ ap (λ (u : Task). (explored ++ u ∷ []) ++ map task_of after.account.waiting) (sym explores.of),
                );
          }
      by_way (inr (other, unspent, unfull, did)) = record {
        on =
            subst (λ (b : Bool). ExploresOn i b full before after) (sym unspent)
            (subst (λ (b : Bool). ExploresOn i false b before after) (sym unfull) (ExploresOn-taken i before after (t ∷ []) (Did-after took did)));
        in_order = λ explored lines points.
            let here = first_in_line explored lines in
            let among : In t (tasks before.view.own) =
            subst (In t) (sym here) (In-right t explored (t ∷ map task_of between.account.waiting) (inl refl)) in
            let is = Every-at (IsPointOf i) (submissions before.view.own) t.point (task-submitted before.view.own t among) points in
            absurd (false≢true (sym other ∙ is_of-true i t.point is));
      }

  -- and so after others, by how it ends
  pub ExploresInLine-by_end :
      (first : Hands) (end : Result Unit Cause) → ExploresInLine i first before false false → UnlessMemory end (TakesUp i t between after)
      → (end ≢ Err Memory → StaysInLine between after) → UnlessMemory end (ExploresInLine i first after)
  ExploresInLine-by_end first (Ok u) so_far up line =
      ExploresInLine-then i first before after false false so_far (ExploresInLine-took false false up (line (λ e. cc)))
  ExploresInLine-by_end first (Err Spent) so_far up line =
      ExploresInLine-then i first before after true false so_far (ExploresInLine-took true false up (line (λ e. cc)))
  ExploresInLine-by_end first (Err Full) so_far up line =
      ExploresInLine-then i first before after false true so_far (ExploresInLine-took false true up (line (λ e. cc)))
  ExploresInLine-by_end first (Err Memory) so_far up line = tt

-- the same entries and the same seat at the pool
pub StaysInLine-same : (x y z : Hands) → z.view.own ≡ y.view.own → z.account ≡ y.account → StaysInLine x y → StaysInLine x z
StaysInLine-same x y z own account stays = λ explored lines.
    ap tasks own ∙ (stays explored lines ∙ ap (λ (t : Account Waiting). explored ++ map task_of t.waiting) (sym account))
