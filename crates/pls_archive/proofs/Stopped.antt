-- Where a run ends stopped, its accepted points have more neighbours than there were moves.
use Rattle.std.proofs.Common.{◌≡◌, ℕ, zero, suc, ◌+◌, ◌≤◌, min, Bool, true, false, not, nat_lt, ◌==◌, if◌then◌else◌, List, [], ◌∷◌, length, refl, ap, sym, ◌∙◌, arith}
use Rattle.std.proofs.lemmas.Bool.Decides.{nat_tests}
use Rattle.std.proofs.lemmas.List.{length-append}
use Rattle.pls_archive.specs.declared.point.Point.{Point}
use Rattle.pls_archive.specs.declared.call.Call.{Call}
use Rattle.pls_archive.specs.declared.call.Reply.{Reply}
use Rattle.pls_archive.specs.Lists.{Every, total, how_many, one_if, IsAmong}
use Rattle.pls_archive.specs.History.{submissions}
use Rattle.pls_archive.specs.Explorations.{Exploration, CallerRun, IsExploration, evaluated_in, is_skipped, due, is_cut, cuts, explorations_of, explored_tasks, evaluated, tasks_of}
use Rattle.pls_archive.specs.SearchRun.{Explores}
use Rattle.pls_archive.specs.RunLaws.{StopsWithMore}
use Rattle.pls_archive.proofs.Every.{Every-map, total-le, total-same, total-every_le, total-plus, total-map, total-flat_map}

-- ---- what stands in a list at most as often weighs at most as much, whatever an element weighs

module _ {A : Type 0} (f : A → ℕ) where
  abbrev capped : ℕ → A → ℕ
  capped k x = min (f x) k

  none-capped : (xs : List A) → total (capped 0) xs ≡ 0
  none-capped [] = refl
  none-capped (x ∷ xs) = let rest = none-capped xs in omega arith

  more-capped : (k : ℕ) (xs : List A) → total (capped (suc k)) xs ≡ total (capped k) xs + how_many (λ x. nat_lt k (f x)) xs
  more-capped k xs =
      total-same (capped (suc k)) (λ x. capped k x + one_if (nat_lt k (f x))) (λ x. one_more (f x)) xs
      ∙ total-plus (capped k) (λ x. one_if (nat_lt k (f x))) xs
    where
      one_more : (n : ℕ) → min n (suc k) ≡ min n k + one_if (nat_lt k n)
      one_more n = grind (arith, nat_tests)

  all-capped : (k : ℕ) (xs : List A) → total f xs ≤ k → total (capped k) xs ≡ total f xs
  all-capped k [] within = refl
  all-capped k (x ∷ xs) within = let rest = all-capped k xs (omega arith) in omega arith

  capped-less : (k : ℕ) (xs ys : List A) → IsAmong xs ys → total (capped k) xs ≤ total (capped k) ys
  capped-less zero xs ys among =
      let first = none-capped xs in
      let second = none-capped ys in omega arith
  capped-less (suc k) xs ys among =
      let before = capped-less k xs ys among in
      let first = more-capped k xs in
      let second = more-capped k ys in
      let passing = among (λ x. nat_lt k (f x)) in omega arith

  pub weighs_less : (xs ys : List A) → IsAmong xs ys → total f xs ≤ total f ys
  weighs_less xs ys among =
      let first = all-capped (total f xs) xs (omega arith) in
      let less = capped-less (total f xs) xs ys among in
      let second = total-le (capped (total f xs)) f (λ y. omega arith) ys in omega arith

-- ---- an exploration evaluates no more neighbours than there are, and fewer where it is cut

module _ (neighbours : Point → List Point) where
  abbrev near : Exploration → ℕ
  near x = length (neighbours x.task.point)

  abbrev evaluated_or_cut : Exploration → ℕ
  evaluated_or_cut x = evaluated_in x + one_if (is_cut neighbours x)

  evaluates-few : (x : Exploration) → IsExploration neighbours x → evaluated_or_cut x ≤ near x
  evaluates-few x exploration =
      let parts = sym (length-append (submissions x.updates) exploration.submits.0) ∙ ap length exploration.submits.1 in
      let few = unless_skipped (is_skipped x) in
      let fewer = unless_cut (evaluated_in x) (length (due neighbours x.task x.asked)) (omega arith) in omega arith
    where
      unless_skipped : (b : Bool) → length (if b then [] else neighbours x.task.point) ≤ near x
      unless_skipped true = omega arith
      unless_skipped false = omega arith

      unless_cut : (k n : ℕ) → k ≤ n → k + one_if (not (k == n)) ≤ n
      unless_cut k n within = grind (arith, nat_tests)

  evaluates-all_few : (xs : List Exploration) → Every (IsExploration neighbours) xs → total evaluated_or_cut xs ≤ total near xs
  evaluates-all_few xs each =
      total-every_le evaluated_or_cut near xs
      (Every-map (IsExploration neighbours) (λ x. evaluated_or_cut x ≤ near x) evaluates-few xs each)

  evaluate-few :
      (runs : List CallerRun) → Every (Explores neighbours) runs
      → evaluated runs + cuts neighbours runs ≤ total near (explorations_of runs)
  evaluate-few runs explores =
      let apart = total-plus evaluated_in (λ x. one_if (is_cut neighbours x)) (explorations_of runs) in
      let each = total-flat_map evaluated_or_cut (λ r. r.explorations) runs in
      let each_near = total-flat_map near (λ r. r.explorations) runs in
      let few =
      total-every_le (λ r. total evaluated_or_cut r.explorations) (λ r. total near r.explorations) runs
      (Every-map (Explores neighbours) (λ r. total evaluated_or_cut r.explorations ≤ total near r.explorations)
      (λ r explored. evaluates-all_few r.explorations explored.each) runs explores)
      in omega arith

pub stops_with_more : (reply : List Point → Call → Reply) (neighbours : Point → List Point) → StopsWithMore reply neighbours
stops_with_more reply neighbours starts moves n first others run stopped =
    let all = first ∷ others in
    let few = evaluate-few neighbours all run.explores in
    let explored = total-map (λ t. length (neighbours t.point)) (λ x. x.task) (explorations_of all) in
    let among = weighs_less (λ t. length (neighbours t.point)) (explored_tasks all) (tasks_of all) run.of_accepted in
    let spent = stopped.spent in
    let cut = stopped.cut in omega arith
