use Rattle.std.proofs.Common.{[], ◌∷◌, if◌then◌else◌, sym, ap, subst, ◌∙◌, append-nil}
use Rattle.era_core.specs.Lists.{times, In}
use Rattle.era_rows.specs.Known.{pinned_copy}
use Rattle.era_rows.specs.Passes.{known_of, marked_of}
use Rattle.nd_update.specs.Building.{Does}
use Rattle.nd_update.proofs.Building.{read_does, looks_do, mark_does}
use Rattle.nd_update.proofs.Opening.{only_at, only_kept}
use Rattle.nd_update.proofs.Removing.{row_still}
use Rattle.nd_update.proofs.removes.mark_link.Goals as goal

pub returns-clause-does : goal.returns-clause-does
returns-clause-does c x there =
    let r = c.args.rows.now in
    let p = c.args.pass.now in
    let q = c.word-link.new.pass in
    let s = c.mark.new.pass in
    let found = c.word-link.result in
    let link = c.requires.link in
    let same = c.word-link.ensures.word link.0 link.1 in
    let looks = looks_do r (c.args.row ∷ []) p q c.requires.building c.word-link.ensures.looks in
    let here = row_still r [] [] [] p q looks found (subst (λ y. In y (pinned_copy (known_of p)).rows) (sym same) link.2) in
    let unmarked = ap (times found) (looks.marks ∙ append-nil (marked_of p)) ∙ ap (λ y. times y (marked_of p)) same ∙ link.3 in
    let mark = mark_does r q s found looks.building here unmarked c.mark.ensures.pass c.mark.ensures.same c.mark.ensures.known c.mark.ensures.marked in
    subst (λ b. Does r [] (if b then x ∷ [] else []) [] p s) (sym c.if-not-hit.false)
    (read_does r [] (x ∷ []) [] p q s looks (subst (λ y. Does r [] (y ∷ []) [] q s) (c.word-link.ensures.word x there) mark))

pub returns-clause-only : goal.returns-clause-only
returns-clause-only c =
    let p = c.args.pass.now in
    let q = c.word-link.new.pass in
    let s = c.mark.new.pass in
    only_kept (c.args.row ∷ []) (known_of p) q s c.mark.ensures.known (only_at c.args.rows.now (c.args.row ∷ []) p q c.requires.building c.word-link.ensures.looks)
