use Rattle.std.proofs.Common.{◌≡◌, ◌+◌, ◌<◌, [], ◌∷◌, length, take, get_or, refl, sym, ap, subst, ◌∙◌, arith}
use Rattle.era_core.specs.Lists.{In}
use Rattle.era_core.proofs.ListFacts.{in_head, in_tail}
use Rattle.era_rows.specs.Known.{known_words}
use Rattle.era_rows.specs.Passes.{known_of, IsReadable}
use Rattle.pls_vectors.specs.Box.{box_of}
use Rattle.nd_tree.specs.Closest.{closest}
use Rattle.nd_rows.specs.declared.layout.TheConstants.{FIRST_LINK}
use Rattle.nd_rows.specs.Layout.{IsBoxRow}
use Rattle.nd_rows.specs.Nodes.{heads}
use Rattle.nd_rows.proofs.Looks.{in_get}
use Rattle.nd_update.specs.Insertion.{boxes_of}
use Rattle.nd_update.proofs.Building.{does_both, still_readable}
use Rattle.nd_update.proofs.FullLeaves.{readable_low}
use Rattle.nd_update.proofs.Choosing.{length_boxes, put_box, all_boxes, child_word, child_readable, child_box, boxes_long, box_read}
use Rattle.nd_update.proofs.Reading.{only_row, only_then}
use Rattle.nd_update.proofs.inserts.closest_child.Goals as goal

pub overflow_cast-link : goal.overflow_cast-link
overflow_cast-link c =
    let r = c.args.rows.now in
    let b = c.requires.node.0 in
    let kids = c.requires.node.1 in
    let has = c.requires.node.2 in
    let low : c.loop-k.k < length (heads kids) = omega (arith, c.requires.node.3, c.loop-k-test.true) in
    let is = c.read_word-link.ensures.word _ (c.loop-k.invariant.does.elsewhere c.args.row (FIRST_LINK + c.loop-k.k) refl ∙ child_word r.shape (known_of c.args.pass.now) c.args.row b kids has c.loop-k.k low) in
    let few = readable_low r c.args.pass.now c.requires.building _ (child_readable r.shape (known_of c.args.pass.now) c.args.row b kids has c.loop-k.k low) in
    omega (arith, is, few)

pub read_box-requires : goal.read_box-requires
read_box-requires c =
    let r = c.args.rows.now in
    let p = c.args.pass.now in
    let q = c.read_word-link.new.pass in
    let b = c.requires.node.0 in
    let kids = c.requires.node.1 in
    let has = c.requires.node.2 in
    let k = c.loop-k.k in
    let low : k < length (heads kids) = omega (arith, c.requires.node.3, c.loop-k-test.true) in
    let is = c.read_word-link.ensures.word _ (c.loop-k.invariant.does.elsewhere c.args.row (FIRST_LINK + k) refl ∙ child_word r.shape (known_of p) c.args.row b kids has k low) in
    let both = does_both r [] [] [] [] [] [] p c.loop-k.pass q c.loop-k.invariant.does c.read_word-link.ensures.does in
    let box = child_box r.shape (known_of p) c.args.row b kids has k low b in
    record {
      building = both.building;
      row = subst (λ x. IsReadable x (known_of q)) (sym is) (still_readable r [] [] [] p q both _ (child_readable r.shape (known_of p) c.args.row b kids has k low));
      boxed = (
        get_or (boxes_of kids) k b,
        subst (λ x. IsBoxRow r.shape (known_words (known_of q)) x (get_or (boxes_of kids) k b)) (sym is) (box_read r [] [] [] p q both r.shape _ _ refl box.0),
        box.1.ordered,
      );
    }

pub loop-k-preserved : goal.loop-k-preserved
loop-k-preserved c =
    let r = c.args.rows.now in
    let k = c.loop-k.k in
    let both = does_both r [] [] [] [] [] [] c.args.pass.now c.loop-k.pass c.read_word-link.new.pass c.loop-k.invariant.does c.read_word-link.ensures.does in
    record {
      does = does_both r [] [] [] [] [] [] c.args.pass.now c.read_word-link.new.pass c.read_box.new.pass both c.read_box.ensures.does;
      work = c.read_box.ensures.work ∙ c.read_word-link.ensures.work ∙ c.loop-k.invariant.work;
      only = λ b kids has long.
          let low : k < length (heads kids) = omega (arith, long, c.loop-k-test.true) in
          let is = c.read_word-link.ensures.word _ (c.loop-k.invariant.does.elsewhere c.args.row (FIRST_LINK + k) refl ∙ child_word r.shape (known_of c.args.pass.now) c.args.row b kids has k low) in
          let all = c.args.row ∷ heads kids in
          let q = c.read_word-link.new.pass in
          let s = c.read_box.new.pass in
          only_then r [] [] [] all c.args.pass.now c.loop-k.pass s c.loop-k.invariant.does (c.loop-k.invariant.only b kids has long)
          (only_then r [] [] [] all c.loop-k.pass q s c.read_word-link.ensures.does (only_row c.args.row all (known_of c.loop-k.pass) (known_of q) (in_head c.args.row (heads kids)) c.read_word-link.ensures.only)
          (only_row c.read_word-link.result all (known_of q) (known_of s) (subst (λ x. In x all) (sym is) (in_tail (get_or (heads kids) k 0) c.args.row (heads kids) (in_get (heads kids) k low))) c.read_box.ensures.only));
      read = λ b kids has long.
          let low : k < length (heads kids) = omega (arith, long, c.loop-k-test.true) in
          let is = c.read_word-link.ensures.word _ (c.loop-k.invariant.does.elsewhere c.args.row (FIRST_LINK + k) refl ∙ child_word r.shape (known_of c.args.pass.now) c.args.row b kids has k low) in
          let box = child_box r.shape (known_of c.args.pass.now) c.args.row b kids has k low b in
          let found = c.read_box.ensures.boxed (get_or (boxes_of kids) k b)
          (subst (λ x. IsBoxRow r.shape (known_words (known_of c.read_word-link.new.pass)) x (get_or (boxes_of kids) k b)) (sym is) (box_read r [] [] [] c.args.pass.now c.read_word-link.new.pass both r.shape _ _ refl box.0)) box.1.ordered in
          let few = has.nodes.fit.1 in
          let same = length_boxes kids in
          put_box (boxes_of kids) c.loop-k.boxes k (box_of c.args.value.now) b c.read_box.result (omega (arith, low, same)) (omega (arith, low, few)) found (c.loop-k.invariant.read b kids has long);
    }

pub closest-requires-clause-parts : goal.closest-requires-clause-parts
closest-requires-clause-parts c =
    let r = c.args.rows.now in
    let b = c.requires.node.0 in
    let kids = c.requires.node.1 in
    let has = c.requires.node.2 in
    let long = c.requires.node.3 in
    let done : c.loop-k.k ≡ c.args.count = omega (arith, c.loop-k-test.false, c.loop-k.auto.k-end) in
    let all = all_boxes (boxes_of kids) c.loop-k.boxes c.loop-k.k c.args.count (box_of c.args.value.now) done (length_boxes kids ∙ long) (c.loop-k.invariant.read b kids has long) in
    boxes_long r.shape (known_of c.args.pass.now) c.args.row b kids has (take c.args.count c.loop-k.boxes) all (length c.args.value.now) c.requires.parts

pub returns-clause-place : goal.returns-clause-place
returns-clause-place c b kids has long =
    let done : c.loop-k.k ≡ c.args.count = omega (arith, c.loop-k-test.false, c.loop-k.auto.k-end) in
    let all = all_boxes (boxes_of kids) c.loop-k.boxes c.loop-k.k c.args.count (box_of c.args.value.now) done (length_boxes kids ∙ long) (c.loop-k.invariant.read b kids has long) in
    c.closest.ensures.value ∙ ap (λ bs. closest bs c.args.value.now) all

pub returns-clause-only : goal.returns-clause-only
returns-clause-only c = c.loop-k.invariant.only
