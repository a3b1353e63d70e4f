-- Sums and tests over the runs of several workers.
use Rattle.std.proofs.Common.{◌≡◌, ℕ, ◌+◌, ◌≤◌, Bool, true, false, not, List, [], ◌∷◌, ◌++◌, length, map, refl, sym, ◌∙◌, arith}
use Rattle.pls_archive.specs.Lists.{Every, total, how_many, one_if, AsOften, IsAmong}
use Rattle.pls_archive.specs.Explorations.{Task, Exploration, tasks, entries_of_run, explorations_of, explored_tasks, tasks_of}
use Rattle.pls_archive.proofs.Every.{total-append, total-same, total-map, total-flat_map, length-flat_map}
use Rattle.pls_search.specs.Workers.{Work}
use Rattle.pls_search.specs.Teams.{runs_of}

module _ {A : Type 0} where
  -- what passes a test and what fails it are all
  pub how_many-both : (test : A → Bool) (xs : List A) → how_many test xs + how_many (λ x. not (test x)) xs ≡ length xs
  how_many-both test [] = refl
  how_many-both test (x ∷ xs) = one (test x) (how_many-both test xs)
    where
      one :
          (b : Bool) → how_many test xs + how_many (λ x. not (test x)) xs ≡ length xs
          → one_if b + how_many test xs + (one_if (not b) + how_many (λ x. not (test x)) xs) ≡ length (x ∷ xs)
      one true rest = omega arith
      one false rest = omega arith

  -- what is among as many stands there as often
  pub as_often : (xs ys : List A) → IsAmong xs ys → length xs ≡ length ys → AsOften xs ys
  as_often xs ys among long test =
      let first = how_many-both test xs in
      let second = how_many-both test ys in
      let passing = among test in
      let failing = among (λ x. not (test x)) in omega arith

  pub how_many-all : (xs : List A) → how_many (λ _. true) xs ≡ length xs
  how_many-all [] = refl
  how_many-all (x ∷ xs) = let rest = how_many-all xs in omega arith

  pub among-length : (xs ys : List A) → IsAmong xs ys → length xs ≤ length ys
  among-length xs ys among =
      let first = how_many-all xs in
      let second = how_many-all ys in
      let passing = among (λ _. true) in omega arith

  pub total-one_more : (f : A → ℕ) (xs : List A) (x : A) → total f (xs ++ x ∷ []) ≡ total f xs + f x
  total-one_more f xs x = let sums = total-append f xs (x ∷ []) in omega arith

pub Every-mapped : {A B : Type 0} (P : B → Type 0) (f : A → B) (xs : List A) → Every (λ x. P (f x)) xs → Every P (map f xs)
Every-mapped P f [] each = tt
Every-mapped P f (x ∷ xs) each = (each.0, Every-mapped P f xs each.1)

-- what is summed over the explorations, or over the tasks, of all workers is summed over the workers
module _ (works : List Work) where
  pub total-explorations : (f : Exploration → ℕ) → total f (explorations_of (runs_of works)) ≡ total (λ w. total f w.run.explorations) works
  total-explorations f =
      total-flat_map f (λ r. r.explorations) (runs_of works) ∙ total-map (λ r. total f r.explorations) (λ w. w.run) works

  pub how_many-explored :
      (test : Task → Bool) → how_many test (explored_tasks (runs_of works)) ≡ total (λ w. how_many test (map (λ x. x.task) w.run.explorations)) works
  how_many-explored test =
      total-map (λ t. one_if (test t)) (λ x. x.task) (explorations_of (runs_of works))
      ∙ (total-explorations (λ x. one_if (test x.task))
      ∙ sym (total-same (λ w. how_many test (map (λ x. x.task) w.run.explorations)) (λ w. how_many (λ x. test x.task) w.run.explorations)
      (λ w. total-map (λ t. one_if (test t)) (λ x. x.task) w.run.explorations) works))

  pub how_many-tasks : (test : Task → Bool) → how_many test (tasks_of (runs_of works)) ≡ total (λ w. how_many test (tasks (entries_of_run w.run))) works
  how_many-tasks test =
      total-flat_map (λ t. one_if (test t)) (λ r. tasks (entries_of_run r)) (runs_of works)
      ∙ total-map (λ r. how_many test (tasks (entries_of_run r))) (λ w. w.run) works

  pub length-all_tasks : length (tasks_of (runs_of works)) ≡ total (λ w. length (tasks (entries_of_run w.run))) works
  length-all_tasks =
      length-flat_map (λ r. tasks (entries_of_run r)) (runs_of works)
      ∙ total-map (λ r. length (tasks (entries_of_run r))) (λ w. w.run) works
