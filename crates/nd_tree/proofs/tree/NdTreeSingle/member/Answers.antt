use Rattle.std.proofs.Common.{List, ap, subst}
use Rattle.pls_archive.specs.declared.point.Point.{Point}
use Rattle.pls_archive.specs.declared.call.Call.TheVariants.{Member}
use Rattle.pls_archive.specs.Archives.{Replies, yes_or_no}
use Rattle.pls_archive.specs.Reply.{members, nondominated}
use Rattle.pls_archive.proofs.ListArchive.{member-Replies}
use Rattle.nd_tree.proofs.tree.NdTreeSingle.member.Goals as goal

pub returns : goal.returns
returns c =
    let v = c.args.value.now in
    subst (λ (ps : List Point). Replies members nondominated ps (Member v) (yes_or_no c.has.result)) (ap (λ a. a.points) c.self.view_is)
    (member-Replies c.self.inside.root.points c.self.invariant.members.apart v c.has.result c.has.ensures)
