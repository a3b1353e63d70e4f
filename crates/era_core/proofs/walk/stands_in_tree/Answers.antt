use Rattle.std.proofs.Common.{sym, subst, ◌∙◌, arith, lt-ltb}
use Rattle.era_core.specs.Lists.{times, In}
use Rattle.era_core.specs.Words.{links, tree_at}
use Rattle.era_core.proofs.Walks.{pending, pending-top_in, Turn, pending-smaller, times-turn, top_inside, links_inside, rest_inside}
use Rattle.era_core.proofs.walk.stands_in_tree.Goals as goal
use Rattle.era_core.proofs.walk.stands_in_tree.Goals.{In_ok-push_links}

turn : (c : In_ok-push_links) → Turn (links c.args.passes c.args.rows c.args.words.now) c.loop-row.todo.items c.push_links.new.todo.items c.in-Some.row c.in-Some.levels
turn c = record { rest = c.pop.new.self.items; popped = c.in-Some.ensures.items; pushed = c.in_ok-push_links.ensures }

pub returns-then-row-wanted : goal.returns-then-row-wanted
returns-then-row-wanted c =
    let L = links c.args.passes c.args.rows c.args.words.now in
    let here = subst (λ xs. In c.in-Some.row (pending L xs)) (sym c.in-Some.ensures.items) (pending-top_in L c.pop.new.self.items c.in-Some.row c.in-Some.levels) in
    let wanted = subst (λ x. In x (pending L c.loop-row.todo.items)) c.if-row-wanted.true here in
    sym (lt-ltb 0 (times c.args.wanted (tree_at c.args.passes c.args.rows c.args.words.now c.args.root)) (omega (arith, wanted, c.loop-row.invariant.0)))

pub push_links-requires-clause-row_in_range : goal.push_links-requires-clause-row_in_range
push_links-requires-clause-row_in_range c = top_inside _ _ _ _ _ _ c.loop-row.invariant.1 c.in-Some.ensures.items

pub push_links-requires-clause-links_in_range : goal.push_links-requires-clause-links_in_range
push_links-requires-clause-links_in_range c = links_inside _ _ _ _ _ _ c.loop-row.invariant.1 c.in-Some.ensures.items c.requires.few_rows

pub loop-row-smaller : goal.loop-row-smaller
loop-row-smaller c = pending-smaller _ _ _ _ _ (turn c)

pub loop-row-preserved : goal.loop-row-preserved
loop-row-preserved c = (
  times-turn _ _ _ _ _ c.args.wanted (turn c) c.if-row-wanted.false ∙ c.loop-row.invariant.0,
  rest_inside _ _ _ _ _ _ c.loop-row.invariant.1 c.in-Some.ensures.items _ (turn c),
)
