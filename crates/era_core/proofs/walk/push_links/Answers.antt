use Rattle.std.proofs.Common.{◌-◌, ◌/◌, min, arith}
use Rattle.era_core.specs.declared.sizes.TheConstants.{MOST_LINKS, KINDS}
use Rattle.era_core.specs.Words.{cell}
use Rattle.era_core.proofs.Walks.{in_run, link_pushed}
use Rattle.era_core.proofs.walk.push_links.Goals as goal

pub overflow_cast-word_at : goal.overflow_cast-word_at
overflow_cast-word_at c =
    let f = cell c.args.passes c.args.rows c.args.words.now c.args.row in
    let link = in_run f 1 (min MOST_LINKS (f 0 / KINDS)) c.loop-place.place (omega arith) (omega (arith, c.loop-place.invariant.0)) in
    omega (arith, c.requires.links_in_range (omega arith) (f c.loop-place.place) link, c.word_at.ensures)

pub loop-place-preserved : goal.loop-place-preserved
loop-place-preserved c =
    let f = cell c.args.passes c.args.rows c.args.words.now c.args.row in (
      omega (arith, c.loop-place.invariant.0),
      link_pushed f (c.args.levels - 1) c.loop-place.place (min MOST_LINKS (f 0 / KINDS)) c.word_at.result _ _ _ (omega arith) c.loop-place.invariant.0 c.loop-place.invariant.1 c.word_at.ensures c.in_ok-push.ensures.items,
    )
