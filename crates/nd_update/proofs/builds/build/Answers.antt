use Rattle.std.proofs.Common.{[], sym, ap, subst, ◌∙◌}
use Rattle.era_core.specs.Versions.{Copy}
use Rattle.era_rows.specs.Known.{Known, pinned_copy}
use Rattle.era_rows.specs.Passes.{known_of}
use Rattle.nd_rows.specs.Layout.{IsTreeOf}
use Rattle.nd_rows.specs.Nodes.{Nodes}
use Rattle.nd_update.specs.Needed.{ReadsOnly, needed}
use Rattle.pls_archive.specs.Archives.{yes_or_no}
use Rattle.nd_update.proofs.Uncovered.{tree_uncovered, root_pinned}
use Rattle.nd_update.proofs.Going.{goes_reads, reads_counted}
use Rattle.nd_update.proofs.Building.{same_copy}
use Rattle.nd_update.proofs.Reading.{only_none, only_any, only_both}
use Rattle.nd_update.proofs.Needed.{same_uncovered, only_asked, only_built}
use Rattle.nd_update.proofs.builds.build.Goals as goal
use Rattle.nd_update.proofs.builds.build.Goals.{After-write_tree}

pub write_tree-requires-clause-tree : goal.write_tree-requires-clause-tree
write_tree-requires-clause-tree c =
    let r = c.args.rows.now in
    let n = c.requires.tree.0 in
    let tree = c.covered.ensures.tree n c.requires.tree.1 in (
      n,
      (
        tree,
        root_pinned r n c.covered.new.pass tree c.in-Some.pin (sym c.in-Some.is ∙ c.pinned.ensures),
        tree_uncovered r n c.covered.new.pass tree _ c.args.point.value c.covered.ensures.kept.same_seen (ap yes_or_no (sym c.if-covered.false) ∙ c.covered.ensures.answer n c.requires.tree.1),
      ),
    )

pub returns-then-covered-clause-within : goal.returns-then-covered-clause-within
returns-then-covered-clause-within c =
    let reads = c.covered.ensures.reads in
    (reads_counted c.args.rows.now _ c.args.pass.now c.covered.new.pass c.covered.ensures.kept reads.2 c.requires.counted).within

pub returns-then-covered-clause-only : goal.returns-then-covered-clause-only
returns-then-covered-clause-only c t is =
    let r = c.args.rows.now in
    only_asked c.args.point.value r.shape r.rows t (known_of c.args.pass.now) (known_of c.covered.new.pass) is c.requires.counted.begun c.covered.ensures.reads

pub returns-then-covered-clause-same_full : goal.returns-then-covered-clause-same_full
returns-then-covered-clause-same_full c _ = ap (λ (k : Known). k.full) c.covered.ensures.reads.2.now

pub write_tree-requires-clause-counted : goal.write_tree-requires-clause-counted
write_tree-requires-clause-counted c =
    let reads = c.covered.ensures.reads in
    reads_counted c.args.rows.now _ c.args.pass.now c.covered.new.pass c.covered.ensures.kept reads.2 c.requires.counted

pub returns-clause-built : goal.returns-clause-built
returns-clause-built c n pinned =
    let tree = c.covered.ensures.tree n pinned in
    c.in-Some-write_tree.ensures.built n tree
    (tree_uncovered c.args.rows.now n c.covered.new.pass tree _ c.args.point.value c.covered.ensures.kept.same_seen (ap yes_or_no (sym c.if-covered.false) ∙ c.covered.ensures.answer n pinned))

-- what the question and the tree need was read, also later, where no more is read
needs : (c : After-write_tree) (t : Nodes) → IsTreeOf c.args.rows.now.shape (pinned_copy (known_of c.args.pass.now)) t → (end : Known) → ReadsOnly [] (known_of c.write_tree.new.pass) end
    → ReadsOnly (needed c.args.point.value c.args.rows.now.rows t) (known_of c.args.pass.now) end
needs c t is end rest =
    let r = c.args.rows.now in
    let v = c.args.point.value in
    let p = c.args.pass.now in
    let q = c.covered.new.pass in
    let s = c.write_tree.new.pass in
    let n = c.requires.tree.0 in
    let tree = c.covered.ensures.tree n c.requires.tree.1 in
    let builds = (goes_reads r _ p q tree.is_pass c.covered.ensures.kept c.covered.ensures.reads.2).builds in
    let still = subst (λ (d : Copy). IsTreeOf r.shape d t) (sym (same_copy (known_of p) (known_of q) builds)) is in
    let none = same_uncovered v r.shape (pinned_copy (known_of q)) t tree.stands.0 still tree.stands.1
    (tree_uncovered r n q tree _ v c.covered.ensures.kept.same_seen (ap yes_or_no (sym c.if-covered.false) ∙ c.covered.ensures.answer n c.requires.tree.1)) in
    let rows = needed v r.rows t in
    only_both rows (known_of p) (known_of q) end builds (only_asked v r.shape r.rows t (known_of p) (known_of q) is c.requires.counted.begun c.covered.ensures.reads)
    (only_both rows (known_of q) (known_of s) end c.write_tree.ensures.goes.builds (only_built v r.shape r.rows t (known_of q) (known_of s) still none (c.write_tree.ensures.only t still none)) (only_any rows (known_of s) end rest))

pub returns-clause-only : goal.returns-clause-only
returns-clause-only c t is = needs (goal.at.returns-clause-only c).After-write_tree t is (known_of c.write_tree.new.pass) (only_none [] (known_of c.write_tree.new.pass))

pub returns-in_default-write_tree-clause-only : goal.returns-in_default-write_tree-clause-only
returns-in_default-write_tree-clause-only c t is = needs (goal.at.returns-in_default-write_tree-clause-only c).After-write_tree t is (known_of c.give_up.new.pass) c.give_up.ensures.only
