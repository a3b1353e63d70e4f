-- Each step at a deque keeps the rule of the queue, and tells what it must.
use Rattle.std.proofs.Common.{◌≡◌, ℕ, ◌<◌, List, [], length, refl, subst, arith}
use Rattle.crossbeam_deque.specs.Tasks.{Pushes, Takes, Finds, FindsFew, Learns as LearnsOf}
use Rattle.pls_pool.specs.Hands.{putting, taking}
use Rattle.pls_pool.specs.TaskRule.{Keeps, Learns, TakesFrom}
use Rattle.pls_pool.specs.declared.hand.Hand.{Hand}
use Rattle.pls_pool.proofs.TaskMoves.{puts_into, takes_from, learns, no_length}

module _ {T : Type 0} (pass : ℕ) (v : Hand T) (holds : 0 < length v.numbers) where
  pub pushes_at : (xs : List T) → Pushes Keeps pass v xs (λ w. w ≡ putting xs v)
  pushes_at xs items views keeps at = (putting xs v, puts_into pass v holds xs items views keeps at, refl)

  pub pops_at : (most : ℕ) → Takes Keeps pass v most (TakesFrom v)
  pops_at most xs items views some few keeps at = let done = takes_from pass v holds xs items views keeps at in (taking xs v, done.0, done.1)

  pub finds_at : Finds Keeps pass v (Learns v [])
  finds_at views keeps at = learns [] views keeps pass v at holds

  pub finds_few_at : (most : ℕ) → most ≡ 0 → FindsFew Keeps most pass v (Learns v [])
  finds_few_at most none items views few keeps at = learns [] views (subst (λ l. Keeps l views) (no_length items (omega arith)) keeps) pass v at holds

  pub learns_at : LearnsOf Keeps pass v (Learns v)
  learns_at items views keeps at = learns items views keeps pass v at holds
