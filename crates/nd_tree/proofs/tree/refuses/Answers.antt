use Rattle.std.proofs.Common.{sym, ◌∙◌}
use Rattle.pls_archive.specs.Reply.{some_weakly_dominates}
use Rattle.nd_tree.proofs.Covering.{some-covers, recent-covers}
use Rattle.nd_tree.proofs.tree.refuses.Goals as goal

pub returns-then-covers-clause-answer : goal.returns-then-covers-clause-answer
returns-then-covers-clause-answer c =
    sym (recent-covers c.args.root.now.points c.args.value.now c.args.recent.now c.requires (sym c.covers.ensures ∙ c.if-covers.true))

pub returns-in-Some-clause-answer : goal.returns-in-Some-clause-answer
returns-in-Some-clause-answer c =
    sym (some-covers c.args.root.now.points c.in-Some.w c.args.value.now c.in-Some.ensures.0 c.in-Some.ensures.1)

pub returns-in-Some-clause-recent : goal.returns-in-Some-clause-recent
returns-in-Some-clause-recent c =
    c.remember.ensures (λ w. some_weakly_dominates c.args.root.now.points w) c.requires c.in-Some.ensures.1
