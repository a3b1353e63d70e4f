use Rattle.std.proofs.Common.{List, ap, subst, ◌∙◌}
use Rattle.pls_archive.specs.declared.point.Point.{Point}
use Rattle.pls_archive.specs.declared.call.Call.TheVariants.{Member}
use Rattle.pls_archive.specs.Archives.{Replies, yes_or_no}
use Rattle.pls_archive.specs.Reply.{members, nondominated, has_value}
use Rattle.pls_archive.proofs.ListArchive.{member-Replies}
use Rattle.pls_archive.proofs.plain.PlainSingle.member.Goals as goal

pub returns : goal.returns
returns c =
    let v = c.args.value.now in
    subst (λ (points : List Point). Replies members nondominated points (Member v) (yes_or_no c.is_member.result)) (ap (λ a. a.points) c.self.view_is)
    (member-Replies c.self.inside.points.items c.self.invariant.apart v c.is_member.result
    (c.is_member.ensures ∙ ap (λ points. has_value points v) c.deref.ensures.value))
