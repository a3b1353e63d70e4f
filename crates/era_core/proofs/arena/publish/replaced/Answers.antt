use Rattle.std.proofs.Common.{◌≡◌, ℕ, ◌<◌, true, List, sym, ap, subst, ◌∙◌, arith}
use Rattle.std.specs.Prelude.{is_some, IfSome}
use Rattle.era_core.specs.Lists.{In}
use Rattle.era_core.specs.Words.{tree_at}
use Rattle.era_core.specs.Machine.{is_new_tree}
use Rattle.era_core.proofs.Publication.{new_inside}
use Rattle.era_core.proofs.arena.publish.replaced.Goals as goal

-- the rows of the new tree are rows
pub without_new-requires-clause-new_in_range : goal.without_new-requires-clause-new_in_range
without_new-requires-clause-new_in_range c = λ x here.
    let ws = c.args.words.now in
    let old : List ℕ = tree_at c.args.passes c.args.rows ws c.args.old_root in
    let new : List ℕ = tree_at c.args.passes c.args.rows ws c.args.new_root in
    let found : c.in-Some.new.items ≡ new = subst (λ o. IfSome o (λ v. v.items ≡ new)) c.in-Some.is c.in_ok-new.ensures.found in
    let is_old : c.deref.result.now ≡ old = c.deref.ensures.value ∙ c.in_ok-old.ensures in
    let fits : is_new_tree c.args.passes c.args.rows ws c.args.fresh.now c.deref.result.now new ≡ true = sym c.in_ok-new.ensures.allowed ∙ ap (λ o. is_some o) c.in-Some.is in
    let row : x < c.args.rows =
    new_inside c.args.passes c.args.rows ws c.args.fresh.now c.deref.result.now new fits c.requires.fresh_in_range (λ y there. c.requires.old_in_range y (subst (In y) is_old there)) x
    (subst (In x) (c.deref-2.ensures.value ∙ found) here) in
    omega (arith, row)
