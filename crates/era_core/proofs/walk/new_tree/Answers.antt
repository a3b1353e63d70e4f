use Rattle.std.proofs.Common.{◌≡◌, subst, ap, ◌∙◌, cond, true}
use Rattle.std.specs.Prelude.{IfOk, is_some, ◌&&◌, ◌||◌}
use Rattle.era_core.specs.Lists.{is_in, all_different}
use Rattle.era_core.specs.Words.{tree_at}
use Rattle.era_core.specs.Machine.{are_linked}
use Rattle.era_core.proofs.Marks.{list_all-same, either_mark}
use Rattle.era_core.proofs.walk.new_tree.Goals as goal

pub returns-clause-allowed : goal.returns-clause-allowed
returns-clause-allowed c =
    let fresh = c.args.fresh.now in
    let old = c.args.old.now in
    let tree = tree_at c.args.passes c.args.rows c.args.words.now c.args.root in
    let each = list_all-same _ (λ x. is_in x fresh || is_in x old) tree (λ x.
    c.mark-2.ensures x
    ∙ ap (λ b. cond (is_in x old) true b) (c.mark.ensures x ∙ ap (λ b. cond (is_in x fresh) true b) (c.requires.clear x))
    ∙ either_mark (is_in x fresh) (is_in x old)) in
    subst (λ b. IfOk c.marked_tree-found.result (λ o. is_some o ≡ (are_linked c.args.passes c.args.rows c.args.words.now tree && all_different tree && b))) each c.marked_tree-found.ensures.allowed
