use Rattle.std.proofs.Common.{List, ◌++◌, ap, subst, ◌∙◌}
use Rattle.std.specs.List.Sorted.{IsPermutation}
use Rattle.pls_archive.specs.declared.point.Point.{Point}
use Rattle.pls_archive.specs.declared.call.Call.TheVariants.{Snapshot}
use Rattle.pls_archive.specs.declared.call.Reply.TheVariants.{Points}
use Rattle.pls_archive.specs.Archives.{Replies}
use Rattle.pls_archive.specs.Reply.{members, nondominated}
use Rattle.pls_archive.proofs.ListArchive.{snapshot-Replies}
use Rattle.nd_tree.proofs.tree.NdTreeSingle.snapshot.Goals as goal

pub returns : goal.returns
returns c =
    let points = c.self.inside.root.points in
    let list = c.in_ok-list.list in
    let copied = c.in_ok-collect.ensures ∙ ap (λ ps. ps ++ points) c.new-points.ensures.items in
    let same = subst (λ (ps : List Point). IsPermutation ps list) copied c.in_ok-list.ensures.same in
    subst (λ (ps : List Point). Replies members nondominated ps Snapshot (Points list)) (ap (λ a. a.points) c.self.view_is)
    (snapshot-Replies points c.self.invariant.members.apart list same c.in_ok-list.ensures.ascending)
