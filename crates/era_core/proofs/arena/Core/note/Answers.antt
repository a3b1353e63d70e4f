use Rattle.std.proofs.Common.{◌+◌, ◌/◌, ◌<◌, cond, eqb, ap, ◌∙◌, arith}
use Rattle.std.specs.Prelude.{◌&&◌, is_none}
use Rattle.std.proofs.lemmas.List.{get_or_read}
use Rattle.era_core.specs.declared.sizes.TheConstants.{ROOT_ROWS}
use Rattle.era_core.specs.Views.{noting}
use Rattle.era_core.specs.Passes.{view_of}
use Rattle.era_core.specs.Machine.{allows, after}
use Rattle.era_core.specs.declared.event.Event.TheVariants.{Note}
use Rattle.era_core.proofs.Running.{Stepped, stepped, either_way}
use Rattle.era_core.proofs.arena.Core.note.Goals as goal
use Rattle.era_core.proofs.arena.Core.note.Goals.{After-self-1}

step : (c : After-self-1) → Stepped view_of c.self.inside.passes c.self.inside.rows c.self.inside.words.items c.self.inside.views.items (Note c.args.pass) c.note.result c.self.inside.words.items c.note.new.self
step c =
    let it = c.self.inside in
    let kept = c.self.invariant.running in
    let pass : c.args.pass < it.passes = c.if-pass-self.false in
    let root = get_or_read it.words.items 0 c.index-root.result.now (omega (arith, kept.long)) c.index-root.ensures 0 in
    let own = get_or_read it.words.items (1 + c.args.pass) c.index-reserved.result.now (omega (arith, kept.long, pass)) c.index-reserved.ensures 0 in
    let v = view_of c.index_mut-view.result.now in
    stepped view_of it.passes it.rows it.words.items it.views.items (Note c.args.pass) c.note.result it.words.items c.index_mut-view.result.now c.note.new.self kept pass c.index_mut-view.ensures.value
    (c.note.ensures.done ∙ ap (λ w. is_none v.pinned && eqb w 0) own)
    (either_way c.note.result it.words.items)
    (c.note.ensures.next ∙ ap (λ w. cond c.note.result (noting (w / ROOT_ROWS) v) v) root)

pub invariant_of-self : goal.invariant_of-self
invariant_of-self c = record { running = (step c).running; marked = c.self.invariant.marked; clear = c.self.invariant.clear }

pub returns-clause-done : goal.returns-clause-done
returns-clause-done c = (step c).done ∙ ap (λ m. allows m (Note c.args.pass)) c.self.view_is

pub returns-clause-next : goal.returns-clause-next
returns-clause-next c = (step c).next ∙ ap (λ m. after m (Note c.args.pass)) c.self.view_is
