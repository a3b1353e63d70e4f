use Rattle.std.proofs.Common.{rules, [], ◌∷◌, subst}
use Rattle.era_rows.specs.Known.{pinned_copy, known_words}
use Rattle.era_rows.specs.Passes.{known_of}
use Rattle.nd_rows.specs.Layout.{IsBoxRow}
use Rattle.nd_update.proofs.CopyDone.{own_fresh, readable_row, box_known, box_parts, copy_does, copy_only}
use Rattle.nd_update.proofs.LeafSteps.{copied}
use Rattle.nd_update.proofs.Paying.{still_read}
use Rattle.nd_update.proofs.removes.end_copy.Goals as goal

pub read_box-range-requires : goal.read_box-range-requires
read_box-range-requires c =
    let r = c.args.rows.now in
    let p = c.args.pass.now in
    let s = c.write_first.new.pass in
    let first = c.write_first.ensures.does in
    let boxed = c.requires.boxed in
    record {
      building = first.building;
      row = readable_row r c.args.own c.args.row p s first c.requires.row;
      boxed = (boxed.0, box_known r c.args.own c.args.row p s first c.requires.row boxed.0 boxed.1.boxed, boxed.1.corners);
    }

pub write_box-requires : goal.write_box-requires
write_box-requires c =
    let r = c.args.rows.now in
    let p = c.args.pass.now in
    let s = c.write_first.new.pass in
    let first = c.write_first.ensures.does in
    let read = c.read_box-range.ensures in
    let boxed = c.requires.boxed in
    let known = box_known r c.args.own c.args.row p s first c.requires.row boxed.0 boxed.1.boxed in
    record {
      building = read.does.building;
      fresh = own_fresh r c.args.own c.args.row p s first c.read_box-range.new.pass read.does c.requires.own;
      parts = box_parts r.shape (pinned_copy (known_of p)) c.args.row boxed.0 _ boxed.1.boxed (read.boxed boxed.0 known boxed.1.corners);
    }

pub returns : goal.returns
returns c =
    let r = c.args.rows.now in
    let own = c.args.own in
    let p = c.args.pass.now in
    let s1 = c.write_first.new.pass in
    let s2 = c.read_box-range.new.pass in
    let s3 = c.write_box.new.pass in
    let first = c.write_first.ensures in
    let read = c.read_box-range.ensures in
    let box = c.write_box.ensures in
    record {
      does = copy_does r own p s1 s2 s3 first.does read.does box.does;
      work = search rules;
      read = λ some. still_read r [] [] (own ∷ []) s2 s3 read.does.building box.does c.args.row (read.read some);
      links = λ links written len few.
          copied own c.args.kind c.args.count links (known_words (known_of p)) (known_words (known_of s1)) (known_words (known_of s2)) (known_words (known_of s3)) written len few
          first.outside first.word read.does.elsewhere box.outside;
      boxed = λ b is.
          subst (IsBoxRow r.shape (known_words (known_of s3)) own)
          (read.boxed b (box_known r own c.args.row p s1 first.does c.requires.row b is.boxed) is.corners) box.boxed;
      only = copy_only r own c.args.row p s1 s2 s3 first.does read.does first.only read.only box.only;
    }
