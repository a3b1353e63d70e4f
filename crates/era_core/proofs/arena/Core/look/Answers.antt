use Rattle.std.proofs.Common.{◌+◌, ◌<◌, cond, eqb, sym, ap, ◌∙◌, arith, lt-ltb}
use Rattle.std.specs.Prelude.{◌&&◌, ◌||◌}
use Rattle.std.proofs.lemmas.List.{get_or_read}
use Rattle.era_core.specs.Views.{looking}
use Rattle.era_core.specs.Passes.{view_of}
use Rattle.era_core.specs.Machine.{allows, after}
use Rattle.era_core.specs.declared.event.Event.TheVariants.{Look}
use Rattle.era_core.proofs.Running.{Stepped, stepped, either_way}
use Rattle.era_core.proofs.arena.Core.look.Goals as goal
use Rattle.era_core.proofs.arena.Core.look.Goals.{After-self-1}

step : (c : After-self-1) → Stepped view_of c.self.inside.passes c.self.inside.rows c.self.inside.words.items c.self.inside.views.items (Look c.args.pass c.args.other) c.look.result c.self.inside.words.items c.look.new.self
step c =
    let it = c.self.inside in
    let kept = c.self.invariant.running in
    let pass : c.args.pass < it.passes = c.if-pass-self.false in
    let other : c.args.other < it.passes = c.if-other-self.false in
    let found = get_or_read it.words.items (1 + c.args.other) c.index-reserved.result.now (omega (arith, kept.long, other)) c.index-reserved.ensures 0 in
    let v = view_of c.index_mut-view.result.now in
    stepped view_of it.passes it.rows it.words.items it.views.items (Look c.args.pass c.args.other) c.look.result it.words.items c.index_mut-view.result.now c.look.new.self kept pass c.index_mut-view.ensures.value
    (c.look.ensures.done ∙ ap (λ b. b && (eqb c.args.other 0 || eqb c.args.other v.scanned)) (sym (lt-ltb c.args.other it.passes other)))
    (either_way c.look.result it.words.items)
    (c.look.ensures.next ∙ ap (λ w. cond c.look.result (looking c.args.other w v) v) found)

pub invariant_of-self : goal.invariant_of-self
invariant_of-self c = record { running = (step c).running; marked = c.self.invariant.marked; clear = c.self.invariant.clear }

pub returns-clause-done : goal.returns-clause-done
returns-clause-done c = (step c).done ∙ ap (λ m. allows m (Look c.args.pass c.args.other)) c.self.view_is

pub returns-clause-next : goal.returns-clause-next
returns-clause-next c = (step c).next ∙ ap (λ m. after m (Look c.args.pass c.args.other)) c.self.view_is
