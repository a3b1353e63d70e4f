use Rattle.std.proofs.Common.{refl, arith}
use Rattle.era_core.proofs.Room.{room}
use Rattle.era_rows.proofs.Tied.{tied_as, room_as}
use Rattle.era_rows.proofs.Published.{tied_mark}
use Rattle.era_rows.proofs.rows.Rows.mark.Goals as goal

pub push_reserved-requires : goal.push_reserved-requires
push_reserved-requires g c =
    let pass = c.args.pass.now in
    let tied = pass.tied in
    let few = room pass.seat.me.0.view.rows c.args.row pass.marked.items tied.marks_different tied.marks_inside c.requires.unmarked (tied.tree.inside c.args.row c.requires.row) in
    let roomy = pass.roomy.2 in omega arith

pub invariant_of-pass : goal.invariant_of-pass
invariant_of-pass g c =
    let pass = c.args.pass.now in
    record {
      tied = tied_as refl refl refl refl c.push_reserved.ensures.items refl (tied_mark pass.tied c.args.row c.requires.unmarked (pass.tied.tree.inside c.args.row c.requires.row));
      recalls = pass.recalls;
      bare = pass.bare;
      roomy = room_as refl refl refl c.push_reserved.ensures.capacity refl refl pass.roomy;
    }
