use Rattle.std.proofs.Common.{List, ◌++◌, take, ap, subst, ◌∙◌}
use Rattle.std.specs.List.Sorted.{IsPermutation}
use Rattle.era_rows.specs.Passes.{seen_of}
use Rattle.pls_archive.specs.declared.point.Point.{Point}
use Rattle.pls_archive.specs.History.{submissions}
use Rattle.pls_archive.proofs.ListArchive.{snapshot-due}
use Rattle.nd_rows.specs.Nodes.{points_of}
use Rattle.nd_rows.proofs.points.gather.Goals as goal

pub returns-clause-answer : goal.returns-clause-answer
returns-clause-answer c n tree =
    let points = points_of tree.stands.0 in
    let list = c.in_ok-list.list in
    let all = c.in_ok-gather_tree.ensures.points n tree ∙ ap (λ ps. ps ++ points) c.new-points.ensures.items in
    snapshot-due (submissions (take n (seen_of c.args.pass.now))) points tree.stands.2 list (subst (λ (ps : List Point). IsPermutation ps list) all c.in_ok-list.ensures.same) c.in_ok-list.ensures.ascending
