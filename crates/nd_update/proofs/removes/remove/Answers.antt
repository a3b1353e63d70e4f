use Rattle.std.proofs.Common.{[], ◌++◌, ap, ◌∙◌}
use Rattle.era_core.specs.Versions.{Copy}
use Rattle.era_rows.specs.Passes.{known_of}
use Rattle.nd_rows.specs.Layout.{IsTreeOf}
use Rattle.nd_update.specs.Needed.{opened}
use Rattle.nd_update.proofs.Building.{read_does, does_read}
use Rattle.nd_update.proofs.Lacking.{does_lacks, lacks_work}
use Rattle.nd_update.proofs.Paying.{paid_still}
use Rattle.nd_update.proofs.Reading.{only_then}
use Rattle.nd_update.proofs.Opening.{only_kept}
use Rattle.nd_update.proofs.Removing.{does_work, stay_pinned}
use Rattle.nd_update.proofs.Settling.{map_some, both_some, of_some, pinned_still}
use Rattle.nd_update.proofs.RemovingAll.{word_on, is_left, left_still}
use Rattle.nd_update.proofs.removes.remove.Goals as goal

pub settle_all-removed-requires : goal.settle_all-removed-requires
settle_all-removed-requires c =
    let r = c.args.rows.now in
    let p = c.args.pass.now in
    let b = c.list_tree.new.pass in
    let two = c.list_tree.ensures.does in
    let tree = c.requires.tree in
    let all = c.list_tree.ensures.listed tree.0 tree.1 in
    let there = stay_pinned r (λ (x : Copy). IsTreeOf r.shape x tree.0) [] [] [] p b two tree.1 in
    record {
      building = two.building;
      pinned = pinned_still r p b [] [] [] two c.requires.pinned;
      parts = c.requires.parts;
      listed = (tree.0, all.0, there, all.1);
      no_fresh = two.fresh ∙ ap (λ xs. xs ++ []) c.requires.no_fresh;
      no_marks = two.marks ∙ ap (λ xs. xs ++ []) c.requires.no_marks;
    }

pub all_left-left-requires : goal.all_left-left-requires
all_left-left-requires c =
    let r = c.args.rows.now in
    let v = c.args.value.now in
    let p = c.args.pass.now in
    let b = c.list_tree.new.pass in
    let two = c.list_tree.ensures.does in
    let d = c.settle_all-removed.new.pass in
    let tree = c.requires.tree in
    let all = c.list_tree.ensures.listed tree.0 tree.1 in
    let there = stay_pinned r (λ (x : Copy). IsTreeOf r.shape x tree.0) [] [] [] p b two tree.1 in
    map_some c.settle_all-removed.result _ _
    (λ removed did.
    let more = did.0 in
    word_on r v p d tree.0 removed more.2.building (stay_pinned r (λ (x : Copy). IsTreeOf r.shape x tree.0) more.0 more.1 more.0 b d more.2 there) (did.1 tree.0 all.0 there all.1))
    (both_some c.settle_all-removed.result _ _ c.settle_all-removed.ensures.does c.settle_all-removed.ensures.swept)

pub returns : goal.returns
returns c =
    let r = c.args.rows.now in
    let v = c.args.value.now in
    let p = c.args.pass.now in
    let b = c.list_tree.new.pass in
    let two = c.list_tree.ensures.does in
    let d = c.settle_all-removed.new.pass in
    let x = c.work_cut.new.self in
    let settled = c.settle_all-removed.ensures in
    let some = c.settle_all-removed.result in
    let cut = c.work_cut.ensures in
    record {
      lacks = λ none. lacks_work r p d x (does_lacks r [] [] [] p b d two (settled.lacks (c.all_left-left.ensures.none none))) cut.pass cut.number cut.known;
      does = map_some c.all_left-left.result _ _
          (λ l told.
          let more = of_some some l.removed _ told.0 settled.does in
          (more.0, more.1, does_read r more.0 more.1 more.0 p d x (read_does r more.0 more.1 more.0 p b d two more.2) (does_work r d x more.2.building cut.pass cut.number cut.known cut.marks cut.memory)))
          c.all_left-left.ensures.left;
      paid = map_some c.all_left-left.result _ _
          (λ l told.
          let more = of_some some l.removed _ told.0 settled.does in
          paid_still r 0 [] [] d x more.2.building (does_work r d x more.2.building cut.pass cut.number cut.known cut.marks cut.memory) (of_some some l.removed _ told.0 settled.paid))
          c.all_left-left.ensures.left;
      work = cut.work;
      only = λ t is.
          let all = c.list_tree.ensures.listed t is in
          let there = stay_pinned r (λ (y : Copy). IsTreeOf r.shape y t) [] [] [] p b two is in
          only_kept (opened v t) (known_of p) d x cut.known
          (only_then r [] [] [] (opened v t) p b d two (c.list_tree.ensures.only t is) (settled.only t all.0 there all.1));
      left = map_some c.all_left-left.result _ _
          (λ l told t is.
          let all = c.list_tree.ensures.listed t is in
          let there = stay_pinned r (λ (x : Copy). IsTreeOf r.shape x t) [] [] [] p b two is in
          let more = of_some some l.removed _ told.0 settled.does in
          left_still r v d x t l.root l.removed cut.known cut.marks
          (is_left r v p d t l.removed more.2.building (stay_pinned r (λ (x : Copy). IsTreeOf r.shape x t) more.0 more.1 more.0 b d more.2 there) (of_some some l.removed _ told.0 settled.swept t all.0 there all.1) l.root told.1))
          c.all_left-left.ensures.left;
    }
