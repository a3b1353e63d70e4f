use Rattle.std.proofs.Common.{ℕ, ◌<◌, subst}
use Rattle.era_core.specs.Lists.{In}
use Rattle.era_core.specs.Words.{links}
use Rattle.era_core.proofs.ListFacts.{in-append_right}
use Rattle.era_core.proofs.Walks.{pending, Turn, pending-smaller, found-turn, top_inside, links_inside}
use Rattle.era_core.proofs.walk.tree_rows.Goals as goal
use Rattle.era_core.proofs.walk.tree_rows.Goals.{After-todo-in-Some-1, In_ok-push_links}

inside : (c : After-todo-in-Some-1) → (x : ℕ) → In x (pending (links c.args.passes c.args.rows c.args.words.now) c.loop-row.todo.items) → x < c.args.rows
inside c x here =
    c.requires.in_range x
    (subst (In x) c.loop-row.invariant (in-append_right x c.loop-row.found.items (pending (links c.args.passes c.args.rows c.args.words.now) c.loop-row.todo.items) here))

turn : (c : In_ok-push_links) → Turn (links c.args.passes c.args.rows c.args.words.now) c.loop-row.todo.items c.push_links.new.todo.items c.in-Some.row c.in-Some.levels
turn c = record { rest = c.pop.new.self.items; popped = c.in-Some.ensures.items; pushed = c.in_ok-push_links.ensures }

pub push_links-requires-clause-row_in_range : goal.push_links-requires-clause-row_in_range
push_links-requires-clause-row_in_range c = top_inside _ _ _ _ _ _ (inside c) c.in-Some.ensures.items

pub push_links-requires-clause-links_in_range : goal.push_links-requires-clause-links_in_range
push_links-requires-clause-links_in_range c = links_inside _ _ _ _ _ _ (inside c) c.in-Some.ensures.items c.requires.few_rows

pub loop-row-smaller : goal.loop-row-smaller
loop-row-smaller c = pending-smaller _ _ _ _ _ (turn c)

pub loop-row-preserved : goal.loop-row-preserved
loop-row-preserved c = found-turn _ _ _ _ _ _ _ _ (turn c) c.in_ok-push-2.ensures.items c.loop-row.invariant
