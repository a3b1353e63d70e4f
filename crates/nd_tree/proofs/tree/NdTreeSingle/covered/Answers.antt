use Rattle.std.proofs.Common.{List, ap, subst, ◌∙◌}
use Rattle.pls_archive.specs.declared.point.Point.{Point}
use Rattle.pls_archive.specs.declared.call.Call.TheVariants.{Covered}
use Rattle.pls_archive.specs.Archives.{Replies, yes_or_no}
use Rattle.pls_archive.specs.Reply.{members, nondominated}
use Rattle.pls_archive.proofs.ListArchive.{covered-Replies}
use Rattle.nd_tree.proofs.Covering.{is_some-cover}
use Rattle.nd_tree.proofs.tree.NdTreeSingle.covered.Goals as goal

pub returns : goal.returns
returns c =
    let v = c.args.value.now in
    let points = c.self.inside.root.points in
    subst (λ (ps : List Point). Replies members nondominated ps (Covered v) (yes_or_no c.is_some.result)) (ap (λ a. a.points) c.self.view_is)
    (covered-Replies points c.self.invariant.members.apart v c.is_some.result
    (c.is_some.ensures ∙ is_some-cover points v c.covering.result c.covering.ensures))
