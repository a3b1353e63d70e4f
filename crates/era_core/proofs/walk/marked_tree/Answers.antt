use Rattle.std.proofs.Common.{◌≡◌, ◌/◌, [], ◌++◌, ltb, leb, sym, ◌∙◌, subst, ap, arith, get_or, false}
use Rattle.std.proofs.lemmas.Grind.{common_steps}
use Rattle.std.specs.List.{list_all}
use Rattle.std.proofs.lemmas.Bool.{and_parts, ltb-true}
use Rattle.era_core.specs.declared.sizes.TheConstants.{MOST_LINKS, KINDS}
use Rattle.era_core.specs.Lists.{In}
use Rattle.era_core.specs.Words.{links, cell}
use Rattle.era_core.proofs.Walks.{pending, pending-top_in, Turn, pending-smaller, found-turn}
use Rattle.era_core.proofs.Marks.{came_whole, stopped, coming-more, has_links}
use Rattle.era_core.proofs.Runs.{list_all-in}
use Rattle.era_core.proofs.walk.marked_tree.Goals as goal
use Rattle.era_core.proofs.walk.marked_tree.Goals.{In_ok-push_links}

turn : (c : In_ok-push_links) → Turn (links c.args.passes c.args.rows c.args.words.now) c.loop-row.todo.items c.push_links.new.todo.items c.in-Some.row c.in-Some.levels
turn c = record { rest = c.pop.new.self.items; popped = c.in-Some.ensures.items; pushed = c.in_ok-push_links.ensures }

pub returns-then-not-may_come-clause-allowed : goal.returns-then-not-may_come-clause-allowed
returns-then-not-may_come-clause-allowed c =
    let L = links c.args.passes c.args.rows c.args.words.now in
    let here = subst (λ xs. In c.in-Some.row (pending L xs)) (sym c.in-Some.ensures.items) (pending-top_in L c.pop.new.self.items c.in-Some.row c.in-Some.levels) in
    stopped _ _ _ _ _ _ c.loop-row.invariant.1 (pending L c.loop-row.todo.items) _ c.in-Some.row c.loop-row.invariant.0 here (sym c.if-not-may_come.ensures.come)

pub loop-row-smaller : goal.loop-row-smaller
loop-row-smaller c = pending-smaller _ _ _ _ _ (turn c)

pub loop-row-preserved : goal.loop-row-preserved
loop-row-preserved c = (
  found-turn _ _ _ _ _ _ _ _ (turn c) c.in_ok-push-2.ensures.items c.loop-row.invariant.0,
  coming-more _ _ _ _ _ _ c.loop-row.invariant.1 _ c.in-Some.row c.in_ok-push-2.ensures.items (sym c.if-not-may_come.ensures.come),
)

pub returns-clause-allowed : goal.returns-clause-allowed
returns-clause-allowed c =
    let none : c.loop-row.todo.items ≡ [] = grind (arith, common_steps) in
    came_whole _ _ _ _ _ _ c.loop-row.invariant.1 _
    (ap (λ xs. c.loop-row.found.items ++ pending (links c.args.passes c.args.rows c.args.words.now) xs) (sym none) ∙ c.loop-row.invariant.0)

pub push_links-requires-clause-links_in_range : goal.push_links-requires-clause-links_in_range
push_links-requires-clause-links_in_range c some_level y link =
    let may = and_parts (get_or c.loop-row.marks c.in-Some.row false) (has_links c.args.passes c.args.rows c.args.words.now c.in-Some.row) (sym c.if-not-may_come.ensures.come) in
    let all = and_parts (leb (cell c.args.passes c.args.rows c.args.words.now c.in-Some.row 0 / KINDS) MOST_LINKS) (list_all (λ x. ltb x c.args.rows) (links c.args.passes c.args.rows c.args.words.now c.in-Some.row)) may.1 in
    let row = ltb-true y c.args.rows (list_all-in (λ x. ltb x c.args.rows) (links c.args.passes c.args.rows c.args.words.now c.in-Some.row) y all.1 link) in
    omega (arith, c.requires.few_rows)
