use Rattle.std.proofs.Common.{◌∙◌, ap, arith}
use Rattle.era_core.specs.Versions.{known}
use Rattle.era_rows.specs.Known.{known_words}
use Rattle.era_rows.proofs.Flags.{reached_room}
use Rattle.era_rows.proofs.Reaching.{read_word, link_is, link_turn, same_knows}
use Rattle.era_rows.proofs.rows.Rows.reach_links.Goals as goal

pub overflow_cast-link : goal.overflow_cast-link
overflow_cast-link g c =
    let k = c.args.seat.now.me.0.view in
    let before = c.loop-place.invariant in
    let link = link_is k c.loop-place.seat.me.0.view c.args.row c.loop-place.place _ _ c.read_by-link.result before.3 c.requires.covered c.read_by.ensures.word c.min-count.ensures c.loop-place.auto.place c.loop-place-test.true c.read_by-link.ensures.word in
    let low = c.requires.links c.read_by-link.result link.1 in
    let few = c.args.self.now.few_rows in omega arith

pub reach_row-requires-clause-row : goal.reach_row-requires-clause-row
reach_row-requires-clause-row g c =
    let k = c.args.seat.now.me.0.view in
    let before = c.loop-place.invariant in
    let link = link_is k c.loop-place.seat.me.0.view c.args.row c.loop-place.place _ _ c.read_by-link.result before.3 c.requires.covered c.read_by.ensures.word c.min-count.ensures c.loop-place.auto.place c.loop-place-test.true c.read_by-link.ensures.word in
    let low = c.requires.links c.read_by-link.result link.1 in
    let counted = before.4.counted in omega arith

pub reach_row-requires-clause-room : goal.reach_row-requires-clause-room
reach_row-requires-clause-room g c has =
    let k = c.args.seat.now.me.0.view in
    let before = c.loop-place.invariant in
    let link = link_is k c.loop-place.seat.me.0.view c.args.row c.loop-place.place _ _ c.read_by-link.result before.3 c.requires.covered c.read_by.ensures.word c.min-count.ensures c.loop-place.auto.place c.loop-place-test.true c.read_by-link.ensures.word in
    let low = c.requires.links c.read_by-link.result link.1 in
    let few = reached_room c.args.self.now.rows k.core.fresh c.loop-place.loose.items c.loop-place.reached.items before.4 c.read_by-link.result low c.requires.inside has in
    let room = c.requires.room in
    let capacity = before.6 in omega arith

pub loop-place-preserved : goal.loop-place-preserved
loop-place-preserved g c =
    let k = c.args.seat.now.me.0.view in
    let mid = c.loop-place.seat.me.0 in
    let before = c.loop-place.invariant in
    let now = c.read_by-link.ensures.now in
    let sized = c.requires.seat.sized in
    let link = link_is k mid.view c.args.row c.loop-place.place _ _ c.read_by-link.result before.3 c.requires.covered c.read_by.ensures.word c.min-count.ensures c.loop-place.auto.place c.loop-place-test.true c.read_by-link.ensures.word in
    let low = c.requires.links c.read_by-link.result link.1 in
    let turn = link_turn c.args.self.now.rows k.core.fresh c.args.reached.now.items c.loop-place.reached.items c.reach_row.new.reached.items c.loop-place.loose.items c.reach_row.new.loose.items
    (known (known_words k) c.args.row) c.loop-place.place c.read_by-link.result low link.0 c.loop-place.auto.place before.4 before.5 c.reach_row.ensures.loose c.reach_row.ensures.reached in (
      c.read_by-link.ensures.seat,
      same_knows c.args.seat.now.me.0 mid c.read_by-link.new.seat.me.0 _ before.1 (ap (λ m. m.0) now),
      ap (λ m. m.1) now ∙ before.2,
      read_word k mid.view c.read_by-link.new.seat.me.0.view c.args.row c.loop-place.place _ _ before.3 c.requires.fresh
          (omega (arith, c.loop-place-test.true, c.min-count.ensures)) (omega (arith, sized.passes_are, sized.rows_are)) (ap (λ m. m.0.view) now),
      turn.0,
      turn.1,
      c.reach_row.ensures.capacity ∙ before.6,
    )
