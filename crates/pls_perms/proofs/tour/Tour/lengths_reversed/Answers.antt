use Rattle.std.proofs.Common.{◌<◌, slice_index, refl, arith}
use Rattle.pls_perms.proofs.StretchEnds.{has_ends, Changes, changes}
use Rattle.pls_perms.proofs.tour.Tour.lengths_reversed.Goals as goal
use Rattle.pls_perms.proofs.tour.Tour.lengths_reversed.Goals.{After-between-4}

pub bounds-walk-first : goal.bounds-walk-first
bounds-walk-first c = let ends = has_ends c.args.self.now c.args.walk.now c.requires in let first = ends.first_place in omega arith

pub bounds-walk-first-2 : goal.bounds-walk-first-2
bounds-walk-first-2 c = (has_ends c.args.self.now c.args.walk.now c.requires).first_place

pub bounds-walk-last : goal.bounds-walk-last
bounds-walk-last c = let ends = has_ends c.args.self.now c.args.walk.now c.requires in let after = ends.after_place in omega arith

pub bounds-walk-last-2 : goal.bounds-walk-last-2
bounds-walk-last-2 c = (has_ends c.args.self.now c.args.walk.now c.requires).after_place

pub between-requires-clause-a_in : goal.between-requires-clause-a_in
between-requires-clause-a_in c = (has_ends c.args.self.now c.args.walk.now c.requires).before_in

pub between-requires-clause-b_in : goal.between-requires-clause-b_in
between-requires-clause-b_in c = (has_ends c.args.self.now c.args.walk.now c.requires).last_in

pub between-requires-clause-apart : goal.between-requires-clause-apart
between-requires-clause-apart c = (has_ends c.args.self.now c.args.walk.now c.requires).before_last

pub between-requires-2-clause-a_in : goal.between-requires-2-clause-a_in
between-requires-2-clause-a_in c = (has_ends c.args.self.now c.args.walk.now c.requires).begin_in

pub between-requires-2-clause-b_in : goal.between-requires-2-clause-b_in
between-requires-2-clause-b_in c = (has_ends c.args.self.now c.args.walk.now c.requires).after_in

pub between-requires-2-clause-apart : goal.between-requires-2-clause-apart
between-requires-2-clause-apart c = (has_ends c.args.self.now c.args.walk.now c.requires).begin_after

pub between-requires-3-clause-a_in : goal.between-requires-3-clause-a_in
between-requires-3-clause-a_in c = (has_ends c.args.self.now c.args.walk.now c.requires).before_in

pub between-requires-3-clause-b_in : goal.between-requires-3-clause-b_in
between-requires-3-clause-b_in c = (has_ends c.args.self.now c.args.walk.now c.requires).begin_in

pub between-requires-3-clause-apart : goal.between-requires-3-clause-apart
between-requires-3-clause-apart c = (has_ends c.args.self.now c.args.walk.now c.requires).before_begin

pub between-requires-4-clause-a_in : goal.between-requires-4-clause-a_in
between-requires-4-clause-a_in c = (has_ends c.args.self.now c.args.walk.now c.requires).last_in

pub between-requires-4-clause-b_in : goal.between-requires-4-clause-b_in
between-requires-4-clause-b_in c = (has_ends c.args.self.now c.args.walk.now c.requires).after_in

pub between-requires-4-clause-apart : goal.between-requires-4-clause-apart
between-requires-4-clause-apart c = (has_ends c.args.self.now c.args.walk.now c.requires).last_after

-- two edges go and two come
change : (c : After-between-4) (list : _) → list < 4
    → Changes c.args.self.now c.args.walk.now c.requires list (slice_index c.args.walk.now.walk.sums list) (slice_index c.between.result.now list) (slice_index c.between-2.result.now list)
    (slice_index c.between-3.result.now list) (slice_index c.between-4.result.now list)
change c list at =
    changes c.args.self.now c.args.walk.now c.requires list at _ _ _ _ _ refl (c.between.ensures.value list at) (c.between-2.ensures.value list at)
    (c.between-3.ensures.value list at) (c.between-4.ensures.value list at)

pub changed-requires-clause-fit : goal.changed-requires-clause-fit
changed-requires-clause-fit c = λ list at. (change c list at).fits

pub changed-requires-clause-kept : goal.changed-requires-clause-kept
changed-requires-clause-kept c = λ list at. (change c list at).kept

pub returns-clause-value : goal.returns-clause-value
returns-clause-value c = λ list at.
    let made = c.changed.ensures list at in
    let total = (change (goal.at.returns-clause-value c).After-between-4 list at).total in
    omega arith
