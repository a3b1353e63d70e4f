use Rattle.std.proofs.Common.{List, take, sym, ap, subst, ◌∙◌}
use Rattle.std.proofs.lemmas.List.{take_all}
use Rattle.era_core.specs.Machine.{Machine, IsSound, start, start_copies, play, copies}
use Rattle.era_core.specs.declared.event.Event.{Event}
use Rattle.era_core.proofs.Runs.{every_schedule, play_sizes, play_more, first_refused_later, first_refused_at}
use Rattle.era_core.proofs.arena.Core.play.Goals as goal

pub loop-index-preserved : goal.loop-index-preserved
loop-index-preserved c =
    let m = start c.args.rows c.args.passes in
    let so_far = c.loop-index.invariant in
    record {
      played = play_more c.args.events.now c.loop-index.index _ m c.loop-index.core c.loop-index-test.true so_far.played c.step.new.self c.in-Ok-true.ensures.next;
      allowed = first_refused_later c.args.events.now c.loop-index.index _ m c.loop-index.core c.loop-index-test.true so_far.played so_far.allowed c.in-Ok-true.field-0 c.in-Ok-true.ensures.allowed c.in-Ok-true.field-0-test;
    }

pub returns-in-Ok-false-clause-refused : goal.returns-in-Ok-false-clause-refused
returns-in-Ok-false-clause-refused c =
    let m = start c.args.rows c.args.passes in
    let so_far = c.loop-index.invariant in
    first_refused_at c.args.events.now c.loop-index.index _ m c.loop-index.core c.loop-index-test.true so_far.played so_far.allowed c.in-Ok-false.field-0 c.in-Ok-false.ensures.allowed c.in-Ok-false.field-0-test

pub returns-clause-sound : goal.returns-clause-sound
returns-clause-sound c =
    let m = start c.args.rows c.args.passes in
    let known = copies c.args.events.now m (start_copies c.args.rows c.args.passes) in
    subst (λ (x : Machine). IsSound x known) (sym (c.loop-index.invariant.played ∙ ap (λ (l : List Event). play l m) (take_all c.loop-index.index c.args.events.now c.loop-index-test.false)))
    (every_schedule c.args.rows c.args.passes c.args.events.now c.requires.some_row c.requires.few_rows)

pub returns-clause-rows : goal.returns-clause-rows
returns-clause-rows c =
    ap (λ (x : Machine). x.rows) c.loop-index.invariant.played ∙ (play_sizes (take c.loop-index.index c.args.events.now) (start c.args.rows c.args.passes)).0

pub returns-clause-passes : goal.returns-clause-passes
returns-clause-passes c =
    ap (λ (x : Machine). x.passes) c.loop-index.invariant.played ∙ (play_sizes (take c.loop-index.index c.args.events.now) (start c.args.rows c.args.passes)).1
