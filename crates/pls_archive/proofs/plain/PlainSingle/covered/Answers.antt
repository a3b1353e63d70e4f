use Rattle.std.proofs.Common.{List, ap, subst, ◌∙◌}
use Rattle.pls_archive.specs.declared.point.Point.{Point}
use Rattle.pls_archive.specs.declared.call.Call.TheVariants.{Covered}
use Rattle.pls_archive.specs.Archives.{Replies, yes_or_no}
use Rattle.pls_archive.specs.Reply.{members, nondominated, some_weakly_dominates}
use Rattle.pls_archive.proofs.ListArchive.{covered-Replies}
use Rattle.pls_archive.proofs.plain.PlainSingle.covered.Goals as goal

pub returns : goal.returns
returns c =
    let v = c.args.value.now in
    subst (λ (points : List Point). Replies members nondominated points (Covered v) (yes_or_no c.is_covered.result)) (ap (λ a. a.points) c.self.view_is)
    (covered-Replies c.self.inside.points.items c.self.invariant.apart v c.is_covered.result
    (c.is_covered.ensures ∙ ap (λ points. some_weakly_dominates points v) c.deref.ensures.value))
